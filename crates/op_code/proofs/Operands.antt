-- What stands for operands has their words.
use Rattle.std.proofs.Common.{◌≡◌, ◌≢◌, ℕ, ◌+◌, ◌<◌, ◌≤◌, Bool, List, [], ◌∷◌, ◌++◌, length, Option, Some, None, refl, sym, ap, ◌∙◌, subst, arith}
use Rattle.std.specs.Prelude.{Ok, Result}
use Rattle.machine.specs.Trace.{End}
use Rattle.bits_core.specs.Value.{limit}
use Rattle.pcode_model.specs.declared.listing.SpaceKind.{SpaceKind}
use Rattle.pcode_model.specs.declared.listing.SpaceKind.TheVariants.{Constant, Ram, Register, Unique}
use Rattle.pcode_model.specs.declared.listing.Varnode.{Varnode}
use Rattle.pcode_model.specs.declared.listing.Listing.{Listing}
use Rattle.pcode_model.specs.Spaces.{first_ram, kind_of}
use Rattle.pcode_model.specs.Memory.{Acts, Bytes, Frame}
use Rattle.pcode_model.specs.World.{unless_over}
use Rattle.pcode_model.specs.Step.{Operand, Reads, ReadsStack, State, all_read, as_word, local_word, read_all, read_at, read_varnode, stack_address, with_first, word_in_bytes}
use Rattle.pcode_model.specs.Step as listing
use Rattle.pcode_laws.specs.AsBytes.{AsBytes}
use Rattle.pcode_laws.proofs.Puts.{put_at, put_else}
use Rattle.range_words.specs.Own.{HasOwn, frame_range}
use Rattle.range_words.specs.Ranges.{Holds}
use Rattle.range_words.proofs.Own.{frame_word_is, register_off, unique_off, word_else}
use Rattle.range_words.proofs.Variables.{local_word_below, word_below}
use Rattle.cmeaning.specs.declared.tree.Expr.{Expr}
use Rattle.cmeaning.specs.declared.tree.Expr.TheVariants as E
use Rattle.cmeaning.specs.declared.tree.Stmt.{Stmt}
use Rattle.cmeaning.specs.declared.tree.Stmt.TheVariants as S
use Rattle.cmeaning.specs.Do.{Local, assigned, do_simple}
use Rattle.cmeaning.proofs.Value.{width_of_var, value_of_var}
use Rattle.blockcode.proofs.Straight.{run_all}
use Rattle.op_values.proofs.Means.{Means, constant_means, nearest_is}
use Rattle.op_code.specs.Cover.{HasCover}
use Rattle.op_code.specs.Made.{Own, ReadOne, above_stack, address_of, local_of, name_of, range_word, read_by, read_operand, read_stack, reads, with_more}
use Rattle.op_code.specs.Form.{AllOperands, IsMemory, IsNarrow, IsOnStack, IsOperandBy, IsRead}
use Rattle.op_code.proofs.Access.{Points, direct_points, load_runs, read_is}
use Rattle.op_code.proofs.Pointer.{stack_points}
use Rattle.op_code.proofs.Reading.{read_means}
use Rattle.op_code.proofs.Sees.{AreWide, Sees, Setting, seen_bytes, sees_local, wide_back, wide_front}

-- statements one behind another
pub run_append : (l : Listing) (ws : ℕ → ℕ) (returns : List Stmt → Bool) (xs ys : List Stmt) (x : Local)
    → run_all l ws returns (xs ++ ys) x
    ≡ run_all l ws returns ys (run_all l ws (λ ss. returns (ss ++ ys)) xs x)
run_append l ws returns [] ys x = refl
run_append l ws returns (a ∷ xs) ys x =
    run_append l ws returns xs ys (unless_over x.world.over x (do_simple l ws (λ c. returns (xs ++ ys)) a x))

-- one statement of a run that goes on
pub run_one : (l : Listing) (ws : ℕ → ℕ) (returns : List Stmt → Bool) (a : Stmt) (rest : List Stmt) (x y : Local)
    → x.world.over ≡ None
    → do_simple l ws (λ c. returns rest) a x ≡ y
    → run_all l ws returns (a ∷ rest) x ≡ run_all l ws returns rest y
run_one l ws returns a rest x y go is =
    ap (λ o. run_all l ws returns rest (unless_over o x (do_simple l ws (λ c. returns rest) a x))) go
    ∙ ap (run_all l ws returns rest) is

-- how many bytes an operand has
abbrev pub operand_size : Operand → ℕ
operand_size (Reads v) = v.size
operand_size (ReadsStack n offset size) = size

-- An operand's word: the run of the listing reads it, and an expression of so many bytes has it.
pub record Has (ws : ℕ → ℕ) (env : ℕ → Option ℕ) (k : ℕ) (r : Result ℕ End) (e : Expr) (a : ℕ) : Type 0 where
  pub below : a < limit k
  pub read : r ≡ Ok a
  pub means : Means ws env e k a

abbrev pub AllHave : {M : Type 0}
    → Acts M
    → Listing
    → Frame
    → (ℕ → ℕ)
    → State M
    → (ℕ → Option ℕ)
    → List Operand
    → List Expr
    → List ℕ
    → Type 0
AllHave m l f ws s env [] [] [] = Unit {0}
AllHave m l f ws s env [] [] (a ∷ rest) = ⊥
AllHave m l f ws s env [] (e ∷ es) rest = ⊥
AllHave m l f ws s env (x ∷ xs) [] rest = ⊥
AllHave m l f ws s env (x ∷ xs) (e ∷ es) [] = ⊥
AllHave m l f ws s env (x ∷ xs) (e ∷ es) (a ∷ rest) =
    Has ws env (operand_size x) (listing.read_operand m l f s x) e a × AllHave m l f ws s env xs es rest

-- After its loads, from x to y, an operand of so many bytes has the word that is read. It keeps it while the variables
-- below the next free one stay.
pub record ReadsBy {M : Type 0} (l : Listing) (look : M → Bytes) (own : M → ℕ → ℕ) (ranges : List Varnode)
    (ws : ℕ → ℕ) (n : ℕ) (one : ReadOne) (k : ℕ) (r : Result ℕ End) (s : State M) (x y : Local) : Type 0 where
  pub word : ℕ
  pub has : (env : ℕ → Option ℕ)
      → Holds l ranges (seen_bytes l own s) env
      → ((j : ℕ) → j < n + length one.locals → env j ≡ y.env j)
      → Has ws env k r one.word word
  pub sees : Sees l ranges look own s y
  pub kept : (j : ℕ) → j < n → y.env j ≡ x.env j

-- After the loads of all, from x to y, they have words.
pub record ReadsAll {M : Type 0} (m : Acts M) (l : Listing) (f : Frame) (look : M → Bytes) (own : M → ℕ → ℕ)
    (ranges : List Varnode) (ws : ℕ → ℕ) (n : ℕ) (xs : List Operand) (s : State M) (x y : Local) : Type 0 where
  pub words : List ℕ
  pub read : read_all m l f s xs ≡ Ok words
  pub have : AllHave m l f ws s y.env xs (reads l (f.own s.at) ranges n xs).words words
  pub sees : Sees l ranges look own s y
  pub kept : (j : ℕ) → j < n → y.env j ≡ x.env j

-- ---- operands that are none of the stack

-- by which own accesses they are read doesn't matter
pub reads_same : (l : Listing) (a b : Own) (ranges : List Varnode) (n : ℕ) (vs : List Varnode)
    → reads l a ranges n (all_read vs) ≡ reads l b ranges n (all_read vs)
reads_same l a b ranges n [] = refl
reads_same l a b ranges n (v ∷ vs) =
    let one = read_operand l a ranges n (Reads v) in
    ap (with_more one) (reads_same l a b ranges (n + length one.locals) vs)

pub operands_same : (l : Listing) (a b : Own) (ranges : List Varnode) (vs : List Varnode)
    → AllOperands l a ranges (all_read vs)
    → AllOperands l b ranges (all_read vs)
operands_same l a b ranges [] all = tt
operands_same l a b ranges (v ∷ vs) all = (all.0, operands_same l a b ranges vs all.1)

-- an operand that is none of the stack has a word
pub word_read : {M : Type 0} (m : Acts M) (l : Listing) (look : M → Bytes)
    → AsBytes m l look
    → (k : SpaceKind) (v : Varnode) (s : State M)
    → (a : ℕ) × (read_varnode m l k v s ≡ Ok a)
word_read m l look is Constant v s = (v.offset, refl)
word_read m l look is Ram v s = (
  word_in_bytes l v.space v.offset v.size (look s.world.memory),
  read_is m l look is v.space v.offset v.size s.world.memory,
)
word_read m l look is Register v s = (local_word l v s.local, refl)
word_read m l look is Unique v s = (local_word l v s.local, refl)

module _
    {M : Type 0}
    (m : Acts M)
    (l : Listing)
    (f : Frame)
    (look : M → Bytes)
    (own : M → ℕ → ℕ)
    (ranges : List Varnode)
    (ws : ℕ → ℕ)
    (is : AsBytes m l look)
    (has : HasOwn m l look own)
    (set : Setting l ranges ws)
    (s : State M)
    (go : s.world.over ≡ None)
  where
    pub goes : (x : Local) → Sees l ranges look own s x → x.world.over ≡ None
    goes x sees = ap (λ w. w.over) (sym sees.world) ∙ go

    -- what stands for a range has its word
    pub range_has : (v : Varnode) (env : ℕ → Option ℕ)
        → IsNarrow v
        → HasCover ranges v
        → Holds l ranges (seen_bytes l own s) env
        → Means ws env (range_word l ranges v) v.size (local_word l v (seen_bytes l own s))
    range_has v env narrow h holds =
        read_means l ranges set.table ws set.widths (seen_bytes l own s) env holds v h narrow.0 narrow.1

    -- a range of variables whose word is read
    range_by : (n : ℕ) (v : Varnode) (r : Result ℕ End) (x : Local)
        → IsNarrow v
        → HasCover ranges v
        → r ≡ Ok (local_word l v (seen_bytes l own s))
        → Sees l ranges look own s x
        → ReadsBy l look own ranges ws n (record { loads = []; word = range_word l ranges v; locals = [] }) v.size r s x
        x
    range_by n v r x narrow h reads sees = record {
      word = local_word l v (seen_bytes l own s);
      has = λ env holds agree. record {
        below = local_word_below l v (seen_bytes l own s) sees.bytes;
        read = reads;
        means = range_has v env narrow h holds;
      };
      sees = sees;
      kept = λ j lt. refl;
    }

    -- memory at an address of a space, which is loaded to a local
    module _
        (space at k n : ℕ)
        (e : Expr)
        (x : Local)
        (behind : length ranges ≤ n)
        (sees : Sees l ranges look own s x)
      where
        abbrev loading : ReadOne
        loading = record { loads = S.Load n (name_of l space) e ∷ []; word = E.Var n; locals = local_of k ∷ [] }

        loads_by : ws n ≡ k
            → ReadsBy l look own ranges ws n loading k (as_word l space (m.read space at k s.world.memory)) s x
            (assigned n (word_in_bytes l space at k x.world.memory) x)
        loads_by wide =
            let mem : look s.world.memory ≡ x.world.memory = ap (λ w. w.memory) sees.world in
            let w = word_in_bytes l space at k x.world.memory in
            let same : word_in_bytes l space at k (look s.world.memory) ≡ w = ap (word_in_bytes l space at k) mem in
            let P : ℕ → Type 0 = λ a. a < limit k in
            record {
              word = w;
              has = λ env holds agree. record {
                below = subst P same (word_below l space at k (look s.world.memory) sees.memory);
                read = read_is m l look is space at k s.world.memory ∙ ap (λ a. Ok a) same;
                means = record {
                  width = width_of_var ws n ∙ wide;
                  value = value_of_var ws env n ∙ agree n (omega arith) ∙ put_at x.env n (Some w);
                };
              };
              sees = sees_local l ranges look own s x n w behind sees;
              kept = λ j lt. put_else x.env n (Some w) j (λ i. omega (arith, lt, i));
            }

        memory_by : (returns : List Stmt → Bool)
            → IsMemory l space
            → (0 < k) × (k ≤ 16)
            → AreWide ws n (local_of k ∷ [])
            → Points ws x.env l space e at
            → ReadsBy l look own ranges ws n loading k (as_word l space (m.read space at k s.world.memory)) s x
            (run_all l ws returns loading.loads x)
        memory_by returns memory narrow wide points =
            let w = word_in_bytes l space at k x.world.memory in
            let width : ws n ≡ k = wide.0 ∙ nearest_is k narrow.0 narrow.1 in
            let ran = run_one l ws returns (S.Load n (name_of l space) e) [] x (assigned n w x) (goes x sees)
            (load_runs l ws (λ c. returns []) space memory n k at e x width points) in
            let P : Local → Type 0 = λ y. ReadsBy l look own ranges ws n loading k
            (as_word l space (m.read space at k s.world.memory)) s x y in
            subst P (sym ran) (loads_by width)

    -- ---- a constant or a range

    own_word : (v : Varnode)
        → v.space ≢ first_ram l
        → (let r : Result ℕ End = Ok (local_word l v s.local) in r ≡ Ok (local_word l v (seen_bytes l own s)))
    own_word v off = ap (λ n. Ok n) (sym (word_else l (own s.world.memory) s.local v off))

    pub reads_by : (k : SpaceKind) (returns : List Stmt → Bool) (n : ℕ) (v : Varnode) (x : Local)
        → kind_of l v.space ≡ k
        → IsNarrow v
        → IsOperandBy k l ranges v
        → length ranges ≤ n
        → AreWide ws n (read_by k l ranges n v).locals
        → Sees l ranges look own s x
        → ReadsBy l look own ranges ws n (read_by k l ranges n v) v.size (read_varnode m l k v s) s x
        (run_all l ws returns (read_by k l ranges n v).loads x)
    reads_by Constant returns n v x kind narrow h behind wide sees = record {
      word = v.offset;
      has = λ env holds agree. record {
        below = h;
        read = refl;
        means = constant_means ws env v.size v.offset narrow.0 narrow.1 h;
      };
      sees = sees;
      kept = λ j lt. refl;
    }
    reads_by Ram returns n v x kind narrow h behind wide sees =
        memory_by v.space v.offset v.size n (address_of l v) x behind sees returns h.0 narrow wide
        (direct_points ws x.env l v h)
    reads_by Register returns n v x kind narrow h behind wide sees =
        range_by n v (Ok (local_word l v s.local)) x narrow h (own_word v (register_off l v.space kind)) sees
    reads_by Unique returns n v x kind narrow h behind wide sees =
        range_by n v (Ok (local_word l v s.local)) x narrow h (own_word v (unique_off l v.space kind)) sees

    -- ---- an argument on the stack

    stack_by : (o : Option ℕ) (returns : List Stmt → Bool) (n offset size : ℕ) (x : Local)
        → (0 < size) × (size ≤ 16)
        → IsOnStack o l ranges size
        → length ranges ≤ n
        → AreWide ws n (read_stack o l ranges n offset size).locals
        → Sees l ranges look own s x
        → ReadsBy l look own ranges ws n (read_stack o l ranges n offset size) size
        (as_word l (first_ram l)
        (read_at m o (first_ram l) (stack_address l offset l.stack s.local) size s.world.memory)) s x
        (run_all l ws returns (read_stack o l ranges n offset size).loads x)
    stack_by None returns n offset size x narrow pointer behind wide sees =
        memory_by (first_ram l) (stack_address l offset l.stack s.local) size n (above_stack l ranges l.stack offset) x
        behind sees returns pointer.memory narrow wide
        (stack_points l ranges ws set (own s.world.memory) s.local x.env sees.holds sees.bytes pointer offset)
    stack_by (Some c) returns n offset size x narrow framed behind wide sees =
        range_by n (frame_range l c size) _ x narrow framed.cover
        (ap (as_word l (first_ram l)) (has.read_own (stack_address l offset l.stack s.local) c size s.world.memory)
        ∙ ap (λ n. Ok n) (sym (frame_word_is l set.even (own s.world.memory) s.local c size framed.below))) sees

    -- ---- operands in a row

    operand_by : (x : Operand) (returns : List Stmt → Bool) (n : ℕ) (y : Local)
        → IsRead l (f.own s.at) ranges x
        → length ranges ≤ n
        → AreWide ws n (read_operand l (f.own s.at) ranges n x).locals
        → Sees l ranges look own s y
        → ReadsBy l look own ranges ws n (read_operand l (f.own s.at) ranges n x) (operand_size x)
        (listing.read_operand m l f s x) s y (run_all l ws returns (read_operand l (f.own s.at) ranges n x).loads y)
    operand_by (Reads v) returns n y h behind wide sees =
        reads_by (kind_of l v.space) returns n v y refl h.0 h.1 behind wide sees
    operand_by (ReadsStack number offset size) returns n y h behind wide sees =
        stack_by (f.own s.at number) returns n offset size y h.0 h.1 behind wide sees

    pub reads_all : (xs : List Operand) (returns : List Stmt → Bool) (n : ℕ) (x : Local)
        → AllOperands l (f.own s.at) ranges xs
        → length ranges ≤ n
        → AreWide ws n (reads l (f.own s.at) ranges n xs).locals
        → Sees l ranges look own s x
        → ReadsAll m l f look own ranges ws n xs s x
        (run_all l ws returns (reads l (f.own s.at) ranges n xs).loads x)
    reads_all [] returns n x h behind wide sees =
        record { words = []; read = refl; have = tt; sees = sees; kept = λ j lt. refl }
    reads_all (v ∷ vs) returns n x h behind wide sees =
        let one = read_operand l (f.own s.at) ranges n v in
        let n2 = n + length one.locals in
        let rest = reads l (f.own s.at) ranges n2 vs in
        let r = operand_by v (λ ss. returns (ss ++ rest.loads)) n x h.0 behind
        (wide_front ws n one.locals rest.locals wide) sees in
        let y : Local = run_all l ws (λ ss. returns (ss ++ rest.loads)) one.loads x in
        let q = reads_all vs returns n2 y h.1 (omega (arith, behind))
        (wide_back ws n one.locals rest.locals wide) r.sees in
        let z : Local = run_all l ws returns rest.loads y in
        let this = r.has z.env q.sees.holds q.kept in
        let P : Local → Type 0 = λ t. ReadsAll m l f look own ranges ws n (v ∷ vs) s x t in
        subst P (sym (run_append l ws returns one.loads rest.loads x)) (record {
          words = r.word ∷ q.words;
          read = ap (λ a. with_first a (read_all m l f s vs)) this.read
              ∙ ap (λ a. with_first (Ok r.word) a) q.read;
          have = (this, q.have);
          sees = q.sees;
          kept = λ j lt. q.kept j (omega (arith, lt)) ∙ r.kept j lt;
        })
