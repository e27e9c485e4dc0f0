-- Slices of jump tables: ops of the listing that follow one another, and the tree of each range in them. This project's
-- own.
use Rattle.std.specs.Prelude.{◌≡◌, ℕ, zero, suc, ◌+◌, ◌-◌, ◌==◌, ◌&&◌, nat_le, Bool, true, false, if◌then◌else◌, List, [], ◌∷◌, ◌++◌, map, reverse, Option, Some, None}
use Rattle.bits_core.specs.declared.ops.Unary.{Unary}
use Rattle.bits_core.specs.declared.ops.Unary.TheVariants as U
use Rattle.bits_core.specs.declared.ops.Binary.{Binary}
use Rattle.bits_core.specs.declared.ops.Binary.TheVariants as B
use Rattle.pcode_model.specs.declared.listing.SpaceKind.TheVariants.{Ram}
use Rattle.pcode_model.specs.declared.listing.Varnode.{Varnode}
use Rattle.pcode_model.specs.declared.listing.Op.{Op}
use Rattle.pcode_model.specs.declared.listing.Place.{Place}
use Rattle.pcode_model.specs.declared.listing.Listing.{Listing}
use Rattle.pcode_model.specs.declared.opcode.Opcode.{Opcode}
use Rattle.pcode_model.specs.declared.opcode.Opcode.TheVariants as O
use Rattle.pcode_model.specs.Spaces.{is_big}
use Rattle.pcode_model.specs.Ranges.{is_kind}
use Rattle.pcode_model.specs.Places.{Standing, Nothing, Passes, Does, standing}
use Rattle.pcode_model.specs.Step.{in_range, size_out, varnode_at}
use Rattle.pcode_model.specs.Flow.{next_in, ops_in}
use Rattle.table_form.specs.Trees.{Divides, Loads, Joins, Tree, Entry, Number, Node, End, More, cut, node_of_one, node_of_two, part_of, trees}

-- ---- the trees of ranges

-- an op's output, by its first byte and its size, and the tree that it has
pub record Written : Type 0 where
  pub to : ℕ
  pub size : ℕ
  pub tree : Tree

-- what was written to each byte of each space last, if the slice has written it
abbrev pub Trace : Type 0
Trace = ℕ → ℕ → Option Written

-- at the slice's entry
abbrev pub untouched : Trace
untouched s o = None

abbrev pub wrote : Varnode → Tree → Trace → Trace
wrote v tree t s o =
    if s == v.space && in_range v o then Some (record { to = v.offset; size = v.size; tree = tree }) else t s o

-- adjacent bytes that one op wrote last, or none
pub record Part : Type 0 where
  pub writer : Option Written
  pub from : ℕ
  pub size : ℕ

-- Two outputs that both stand are of one op where they are one range, since the later one would have hidden the other.
abbrev pub is_same : Option Written → Option Written → Bool
is_same None None = true
is_same None (Some w) = false
is_same (Some u) None = false
is_same (Some u) (Some w) = u.to == w.to && u.size == w.size

abbrev pub with_byte : Option Written → ℕ → List Part → List Part
with_byte w o [] = record { writer = w; from = o; size = 1 } ∷ []
with_byte w o (p ∷ ps) =
    if is_same w p.writer
    then record { writer = p.writer; from = o; size = suc p.size } ∷ ps
    else record { writer = w; from = o; size = 1 } ∷ p ∷ ps

-- the maximal parts of a range, by rising offset
abbrev pub parts : (ℕ → Option Written) → (offset size : ℕ) → List Part
parts last o zero = []
parts last o (suc k) = with_byte (last o) o (parts last (suc o) k)

-- whether a range is as wide as the stack pointer
abbrev pub is_wide_as : Option Varnode → ℕ → Bool
is_wide_as None k = false
is_wide_as (Some sp) k = k == sp.size

-- A part as wide as the stack pointer is always cut.
abbrev pub piece : Bool → Tree → (dropped size : ℕ) → Tree
piece true t d n = cut t d n
piece false t d n = part_of t d n

-- how many low bytes of an output are no part of so many bytes from an offset on
abbrev pub dropped : Bool → Written → (offset size : ℕ) → ℕ
dropped true w o n = w.to + w.size - (o + n)
dropped false w o n = o - w.to

abbrev pub written_tree : Listing → ℕ → Option Written → (offset size : ℕ) → Tree
written_tree l s None o n = Entry s o n
written_tree l s (Some w) o n =
    if n == w.size then w.tree else piece (is_wide_as l.stack n) w.tree (dropped (is_big l s) w o n) n

abbrev pub part_tree : Listing → ℕ → Part → Tree
part_tree l s p = written_tree l s p.writer p.from p.size

-- the parts' trees, the high part first
abbrev pub high_first : Bool → List Tree → List Tree
high_first true ts = ts
high_first false ts = reverse ts

abbrev pub together : Bool → ℕ → List Tree → Tree
together big k [] = Node Joins k End
together big k (t ∷ []) = t
together big k (t ∷ u ∷ ts) = Node Joins k (trees (high_first big (t ∷ u ∷ ts)))

-- the tree of a varnode that is read
abbrev pub read : Listing → Trace → Varnode → Tree
read l t v =
    if v.space == 0
    then Number v.offset v.size
    else together (is_big l v.space) v.size (map (part_tree l v.space) (parts (t v.space) v.offset v.size))

-- ---- what ops make

-- COPY of a varnode outside the constant space is its input.
abbrev pub unary_tree : Unary → Bool → ℕ → Tree → Tree
unary_tree U.Copy false k t = t
unary_tree op constant k t = node_of_one op k t

-- SUBPIECE drops as many bytes as its second input, a constant, says.
abbrev pub binary_tree : Binary → ℕ → Tree → Tree → (dropped : ℕ) → Tree
binary_tree B.Piece k t u d = Node Joins k (More t (More u End))
binary_tree B.Subpiece k t u d = cut t d k
binary_tree op k t u d = node_of_two op k t u

-- the tree of an op's output of k bytes
abbrev pub output_tree : Listing → Trace → Opcode → List Varnode → ℕ → Tree
output_tree l t (O.Unary op) vs k = unary_tree op ((varnode_at vs 0).space == 0) k (read l t (varnode_at vs 0))
output_tree l t (O.Binary op) vs k =
    binary_tree op k (read l t (varnode_at vs 0)) (read l t (varnode_at vs 1)) (varnode_at vs 1).offset
output_tree l t (O.Divide op) vs k =
    Node (Divides op) k (More (read l t (varnode_at vs 0)) (More (read l t (varnode_at vs 1)) End))
output_tree l t O.Load vs k = Node (Loads (varnode_at vs 0).offset) k (More (read l t (varnode_at vs 1)) End)
output_tree l t code vs k = Number 0 k

abbrev pub with_output : Option Varnode → Tree → Trace → Trace
with_output None tree t = t
with_output (Some v) tree t = wrote v tree t

abbrev pub after_op : Listing → Op → Trace → Trace
after_op l op t = with_output op.out (output_tree l t op.code op.inputs (size_out op.out)) t

abbrev pub after_standing : Listing → Standing → Trace → Trace
after_standing l Nothing t = t
after_standing l (Passes i) t = t
after_standing l (Does i op) t = after_op l op t

abbrev pub traced_from : Listing → Trace → List Place → Trace
traced_from l t [] = t
traced_from l t (p ∷ rest) = traced_from l (after_standing l (standing l p) t) rest

-- what was written by the places that a slice begins with
abbrev pub traced : Listing → List Place → Trace
traced l before = traced_from l untouched before

abbrev pub inputs_in : Standing → List Varnode
inputs_in Nothing = []
inputs_in (Passes i) = []
inputs_in (Does i op) = op.inputs

-- the varnode that is that input of the op at a place
abbrev pub input_at : Listing → Place → ℕ → Varnode
input_at l p n = varnode_at (inputs_in (standing l p)) n

-- ---- which places are a slice, by those before the BRANCHIND at its end

-- The ops of a slice but its last one: neither a store, nor a call, nor CALLOTHER, nor another branch than a CBRANCH.
abbrev pub is_passed : Opcode → Bool
is_passed (O.Unary op) = true
is_passed (O.Binary op) = true
is_passed (O.Divide op) = true
is_passed O.Load = true
is_passed O.CBranch = true
is_passed code = false

-- a write to a range of a ram space is a store
abbrev pub stores : Listing → Option Varnode → Bool
stores l None = false
stores l (Some v) = is_kind Ram l.spaces v.space

pub record MayPass (l : Listing) (op : Op) : Type 0 where
  pub passed : is_passed op.code ≡ true
  pub stores : stores l op.out ≡ false

abbrev pub MayStand : Listing → Standing → Type 0
MayStand l Nothing = ⊥
MayStand l (Passes i) = Unit {0}
MayStand l (Does i op) = MayPass l op

abbrev pub is_test : Opcode → Bool
is_test O.CBranch = true
is_test code = false

abbrev pub tests_in : Standing → Bool
tests_in Nothing = false
tests_in (Passes i) = false
tests_in (Does i op) = is_test op.code

abbrev pub tests : Listing → Place → Bool
tests l p = tests_in (standing l p)

-- the slice's first place
abbrev pub first_of : List Place → Place → Place
first_of [] end = end
first_of (p ∷ rest) end = p

-- the slice's places other than its first
abbrev pub inner_of : List Place → Place → List Place
inner_of [] end = []
inner_of (p ∷ rest) end = rest ++ end ∷ []

-- each place is followed by the next, and the last one by the end
abbrev pub Follow : Listing → List Place → Place → Type 0
Follow l [] end = Unit {0}
Follow l (p ∷ rest) end =
    (next_in (standing l p) p.index ≡ Some (first_of rest end)) × (MayStand l (standing l p) × Follow l rest end)

abbrev pub ops_over : Listing → List Place → ℕ
ops_over l [] = 0
ops_over l (p ∷ rest) = ops_in (standing l p) + ops_over l rest

abbrev pub tests_over : Listing → List Place → ℕ
tests_over l [] = 0
tests_over l (p ∷ rest) = (if tests l p then 1 else 0) + tests_over l rest

abbrev pub is_jump : Opcode → Bool
is_jump O.BranchInd = true
is_jump code = false

abbrev pub jumps_in : Standing → Bool
jumps_in Nothing = false
jumps_in (Passes i) = false
jumps_in (Does i op) = is_jump op.code

-- The ops from these places on to the BRANCHIND at the end, over adjacent instructions, with one CBRANCH at most. The
-- first place is an op; instructions without ops may stand between ops.
pub record IsSlice (l : Listing) (end : Place) (front : List Place) : Type 0 where
  pub follow : Follow l front end
  pub begins : ops_in (standing l (first_of front end)) ≡ 1
  pub ends : jumps_in (standing l end) ≡ true
  pub once : nat_le (tests_over l front) 1 ≡ true

-- how many ops the slice has
abbrev pub length_of : Listing → List Place → ℕ
length_of l front = suc (ops_over l front)

-- ---- its guard and its target

abbrev pub guard_from : Listing → Trace → List Place → Option Tree
guard_from l t [] = None
guard_from l t (p ∷ rest) =
    if tests l p then Some (read l t (input_at l p 1)) else guard_from l (after_standing l (standing l p) t) rest

-- the tree of the CBRANCH's condition
abbrev pub guard_of : Listing → List Place → Option Tree
guard_of l front = guard_from l untouched front

-- the tree of the BRANCHIND's input
abbrev pub target_of : Listing → List Place → Place → Tree
target_of l front end = read l (traced l front) (input_at l end 0)
