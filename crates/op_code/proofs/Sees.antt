-- The state of a code's run beside that of the listing's.
use Rattle.std.proofs.Common.{◌≡◌, ◌≢◌, ℕ, suc, ◌+◌, ◌≤◌, List, [], ◌∷◌, ◌++◌, length, Option, Some, None, sym, ap, ◌∙◌, subst, arith}
use Rattle.std.specs.Prelude.{slice_get}
use Rattle.std.proofs.lemmas.Option.{slice_get_past}
use Rattle.pcode_model.specs.declared.listing.Varnode.{Varnode}
use Rattle.pcode_model.specs.declared.listing.Place.{Place}
use Rattle.pcode_model.specs.declared.listing.Listing.{Listing}
use Rattle.pcode_model.specs.Memory.{Bytes}
use Rattle.pcode_model.specs.Spaces.{first_ram, register_space}
use Rattle.pcode_model.specs.World.{AllAnswers}
use Rattle.pcode_model.specs.Step.{State}
use Rattle.pcode_laws.specs.AsBytes.{seen_over}
use Rattle.range_words.specs.Own.{half, stack_size, with_own}
use Rattle.range_words.specs.Ranges.{IsTable, Holds, AreBytes}
use Rattle.range_words.proofs.Variables.{holds_other}
use Rattle.cmeaning.specs.Do.{Local, assigned}
use Rattle.blockcode.specs.declared.code.Variable.{Variable}
use Rattle.op_code.specs.Form.{IsNarrow}

-- The bytes that ranges of variables have: those of registers, and those of the frame that are seen of memory.
abbrev pub seen_bytes : {M : Type 0} → Listing → (M → ℕ → ℕ) → State M → Bytes
seen_bytes l own s = with_own l (own s.world.memory) s.local

-- The worlds are the same over what is seen of memory, and the variables of ranges hold the ranges' words. What there is
-- are bytes, and what calls will leave are.
pub record Sees {M : Type 0} (l : Listing) (ranges : List Varnode) (look : M → Bytes) (own : M → ℕ → ℕ) (s : State M)
    (x : Local) : Type 0 where
  pub world : seen_over look s.world ≡ x.world
  pub holds : Holds l ranges (seen_bytes l own s) x.env
  pub bytes : AreBytes (seen_bytes l own s)
  pub memory : AreBytes (look s.world.memory)
  pub answers : AllAnswers l s.world.answers

-- An op's state and the code's go together, and the op has gone on to this place.
pub record Meets {M : Type 0} (l : Listing) (ranges : List Varnode) (look : M → Bytes) (own : M → ℕ → ℕ) (next : Place)
    (s : State M) (x : Local) : Type 0 where
  pub sees : Sees l ranges look own s x
  pub at : s.world.over ≡ None → s.at ≡ next

-- each range has a width, which its variable has, and the frame's ranges are no registers'
pub record Setting (l : Listing) (ranges : List Varnode) (ws : ℕ → ℕ) : Type 0 where
  pub table : IsTable l ranges
  pub even : half (stack_size l) + half (stack_size l) ≡ stack_size l
  pub registers : register_space l ≢ first_ram l
  pub narrow : (n : ℕ) (v : Varnode) → slice_get ranges n ≡ Some v → IsNarrow v
  pub widths : (n : ℕ) (v : Varnode) → slice_get ranges n ≡ Some v → IsNarrow v → ws n ≡ v.size

-- the variables from a number on have the widths of these
abbrev pub AreWide : (ℕ → ℕ) → ℕ → List Variable → Type 0
AreWide ws n [] = Unit {0}
AreWide ws n (v ∷ vs) = (ws n ≡ v.width.bytes) × AreWide ws (suc n) vs

pub wide_front : (ws : ℕ → ℕ) (n : ℕ) (xs ys : List Variable) → AreWide ws n (xs ++ ys) → AreWide ws n xs
wide_front ws n [] ys h = tt
wide_front ws n (x ∷ xs) ys h = (h.0, wide_front ws (suc n) xs ys h.1)

pub wide_back : (ws : ℕ → ℕ) (n : ℕ) (xs ys : List Variable)
    → AreWide ws n (xs ++ ys)
    → AreWide ws (n + length xs) ys
wide_back ws n [] ys h = let e : n + 0 ≡ n = omega arith in let P : ℕ → Type 0 = λ k. AreWide ws k ys in
    subst P (sym e) h
wide_back ws n (x ∷ xs) ys h =
    let e : n + suc (length xs) ≡ suc n + length xs = omega arith in
    let P : ℕ → Type 0 = λ k. AreWide ws k ys in
    subst P (sym e) (wide_back ws (suc n) xs ys h.1)

module _ {M : Type 0} (l : Listing) (ranges : List Varnode) (look : M → Bytes) (own : M → ℕ → ℕ) where
  -- a local is assigned
  pub sees_local : (s : State M) (x : Local) (v n : ℕ)
      → length ranges ≤ v
      → Sees l ranges look own s x
      → Sees l ranges look own s (assigned v n x)
  sees_local s x v n behind sees = record {
    world = sees.world;
    holds = holds_other l ranges v (slice_get_past ranges v behind) (Some n) (seen_bytes l own s) x.env sees.holds;
    bytes = sees.bytes;
    memory = sees.memory;
    answers = sees.answers;
  }

  -- The world goes on to another one that has the same bytes of the frame.
  pub sees_on : (s t : State M) (x y : Local)
      → Sees l ranges look own s x
      → t.local ≡ s.local
      → own t.world.memory ≡ own s.world.memory
      → seen_over look t.world ≡ y.world
      → y.env ≡ x.env
      → AreBytes (look t.world.memory)
      → AllAnswers l t.world.answers
      → Sees l ranges look own t y
  sees_on s t x y sees same frame world env memory answers =
      let bytes : seen_bytes l own s ≡ seen_bytes l own t =
      ap (λ b. with_own l (own s.world.memory) b) (sym same) ∙ ap (λ o. with_own l o t.local) (sym frame) in
      let H : Bytes → Type 0 = λ b. Holds l ranges b x.env in
      let E : (ℕ → Option ℕ) → Type 0 = λ e. Holds l ranges (seen_bytes l own t) e in
      let B : Bytes → Type 0 = λ b. AreBytes b in
      record {
        world = world;
        holds = subst E (sym env) (subst H bytes sees.holds);
        bytes = subst B bytes sees.bytes;
        memory = memory;
        answers = answers;
      }
