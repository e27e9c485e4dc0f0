-- Reading types and the names of variables and callees.
use Rattle.std.specs.Prelude.{ℕ, ◌+◌, ◌-◌, ◌/◌, ◌%◌, ◌^◌, ◌<◌, ◌≤◌, min, max, Bool, true, false, nat_lt, nat_le, if◌then◌else◌, pos, neg_ℤ, List, [], ◌∷◌, length, codes, Option, Some, None}
use Rattle.std.proofs.Common.{arith}
use Rattle.std.proofs.Math.Nat.{mod-lt}
use Rattle.bits_core.proofs.Limits.{limit_pos}
use Rattle.bits_core.specs.Value.{limit}
use Rattle.bits_core.specs.declared.word.Width.{Width}
use Rattle.bits_core.specs.declared.word.Word.{Word}
use Rattle.pcode_model.specs.declared.storage.ParamStorage.{ParamStorage}
use Rattle.pcode_model.specs.declared.storage.ParamStorage.TheVariants.{Register, Unique, Stack}
use Rattle.cmeaning.specs.declared.tree.Local.{Local}
use Rattle.cmeaning.specs.declared.tree.Param.{Param}
use Rattle.cmeaning.specs.declared.tree.CName.{CName}
use Rattle.cmeaning.specs.declared.tree.CName.TheVariants.{Declared, Bare}
use Rattle.cmeaning.specs.declared.tree.CalleeDecl.{CalleeDecl}
use Rattle.cmeaning.specs.Entries.{is_param}
use Rattle.ctext.specs.Names.{Scope}
use Rattle.cread.specs.declared.item.Entry.{Entry}
use Rattle.cread.specs.Words.{◌>>=◌, after, chosen, decimal_at, hex_at}

-- ---- types

-- the number of 1 to 16 that is nearest
abbrev pub nearest : ℕ → ℕ
nearest n = min 16 (max 1 n)

pub nearest_from : (n : ℕ) → 0 < nearest n
nearest_from n = omega arith

pub nearest_to : (n : ℕ) → nearest n ≤ 16
nearest_to n = omega arith

-- the width of so many bytes, or the nearest one
unfoldable pub width_by : ℕ → Width
width_by n = record { bytes = nearest n; from = nearest_from n; to = nearest_to n }

-- a number as a word of a width, reduced to it
unfoldable pub word_by : Width → ℕ → Word
word_by w n = record { value = n % limit w.bytes; width = w; below = mod-lt n (limit_pos w.bytes) }

-- the type of so many bits
abbrev pub typed : Bool → ℕ × List ℕ → Local × List ℕ
typed signed bits = (record { width = width_by (bits.0 / 8); signed = signed }, bits.1)

unfoldable pub type_at : List ℕ → Option (Local × List ℕ)
type_at bytes =
    chosen (after (codes "u") bytes) (λ rest. Some (typed false (decimal_at rest)))
    (chosen (after (codes "s") bytes) (λ rest. Some (typed true (decimal_at rest)))
    None)

-- ---- the names of parameters

abbrev pub register_at : ℕ × List ℕ → ParamStorage × List ℕ
register_at n = (Register (n.0 % 2 ^ 64), n.1)

abbrev pub unique_at : ℕ × List ℕ → ParamStorage × List ℕ
unique_at n = (Unique (n.0 % 2 ^ 64), n.1)

-- below the stack pointer
abbrev pub below_at : ℕ × List ℕ → Option (ParamStorage × List ℕ)
below_at n = if nat_le n.0 (2 ^ 31) then Some (Stack (neg_ℤ (pos n.0)), n.1) else None

abbrev pub stack_at : ℕ × List ℕ → Option (ParamStorage × List ℕ)
stack_at n = if nat_lt n.0 (2 ^ 31) then Some (Stack (pos n.0), n.1) else None

unfoldable pub storage_at : List ℕ → Option (ParamStorage × List ℕ)
storage_at bytes =
    chosen (after (codes "register_") bytes) (λ rest. Some (register_at (hex_at rest)))
    (chosen (after (codes "unique_") bytes) (λ rest. Some (unique_at (hex_at rest)))
    (chosen (after (codes "stack_m") bytes) (λ rest. below_at (hex_at rest))
    (chosen (after (codes "stack_") bytes) (λ rest. stack_at (hex_at rest))
    None)))

abbrev pub entry_by : Bool → List ℕ → Option (Entry × List ℕ)
entry_by model bytes = storage_at bytes >>= λ s. Some (record { model = model; storage = s.0 }, s.1)

unfoldable pub entry_at : List ℕ → Option (Entry × List ℕ)
entry_at bytes =
    chosen (after (codes "p_") bytes) (entry_by true)
    (chosen (after (codes "in_") bytes) (entry_by false)
    None)

-- ---- the numbers of variables

abbrev pub is_entry : Entry → Param → Bool
is_entry e p = is_param e.model e.storage p

-- the place of a parameter, where the first has the place n
abbrev pub place_of : Entry → ℕ → List Param → Option ℕ
place_of e n [] = None
place_of e n (p ∷ ps) = if is_entry e p then Some n else place_of e (n + 1) ps

abbrev pub small : ℕ → Option ℕ
small n = if nat_lt n (2 ^ 32) then Some n else None

-- the local of a number, by how many parameters there are
abbrev pub local_by : ℕ → ℕ × List ℕ → Option (ℕ × List ℕ)
local_by count n = small (count + (n.0 % 2 ^ 33 - 1)) >>= λ k. Some (k, n.1)

abbrev pub param_by : List Param → Entry × List ℕ → Option (ℕ × List ℕ)
param_by ps e = place_of e.0 0 ps >>= λ k. small k >>= λ n. Some (n, e.1)

-- the number of a variable, by its name
unfoldable pub variable_at : Scope → List ℕ → Option (ℕ × List ℕ)
variable_at sc bytes =
    chosen (after (codes "v") bytes) (λ rest. local_by (length sc.params) (decimal_at rest))
    (entry_at bytes >>= param_by sc.params)

-- ---- callees

abbrev pub is_whole : Option (List ℕ) → Bool
is_whole None = false
is_whole (Some []) = true
is_whole (Some (b ∷ bs)) = false

abbrev pub is_named : List ℕ → CName → Bool
is_named name (Declared n) = is_whole (after n name)
is_named name Bare = false

-- the address of the first callee with a name
abbrev pub address_of : List ℕ → List CalleeDecl → Option ℕ
address_of name [] = None
address_of name (c ∷ cs) = if is_named name c.name then Some c.address else address_of name cs
