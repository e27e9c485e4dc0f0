-- Facts of the spaces of a listing that several kinds of line rest on.
use Rattle.std.proofs.Common.{◌≡◌, ◌∙◌, ◌<◌, ◌≤◌, ℕ, zero, suc, Bool, true, false, List, [], ◌∷◌, length, ap, sym, refl, arith}
use Rattle.std.specs.Prelude.{◌==◌, ◌&&◌, codes, nat_le, Option, Some, None}
use Rattle.std.proofs.lemmas.Bool.Decides.{nat_tests}
use Rattle.std.proofs.lemmas.Bool.{eqb-true}
use Rattle.pcode_model.specs.declared.listing.Space.{Space}
use Rattle.pcode_model.specs.declared.listing.SpaceKind.TheVariants.{Ram, Register, Unique}
use Rattle.pcode_model.specs.Ranges.{is_kind}
use Rattle.pcode_model.specs.Spaces.{same_kind}
use Rattle.pcode_model.specs.WellFormed.{AreSpaces, HaveWords, IsComplete, constant_space, how_many}
use Rattle.pcodetext.specs.Checks.{is_complete}
use Rattle.pcodetext.proofs.Distinct.{other_text}
use Rattle.pcodetext.proofs.Formed.{KeepSpaces}
use Rattle.pcodetext.proofs.Passing.{never}

pub some_same : (x y : Space) → Some x ≡ Some y → x ≡ y
some_same x y e = cc

pub none_some : (x : Space) → ◌≡◌ {A = Option Space} None (Some x) → ⊥
none_some x e = cc

pub some_spaces : (spaces : List Space) → AreSpaces spaces → 0 < length spaces
some_spaces [] h = absurd h
some_spaces (s ∷ declared) h = omega arith

pub complete_is : (spaces : List Space) → is_complete spaces ≡ true → IsComplete spaces
complete_is spaces h =
    split (how_many Register spaces == 1) (how_many Unique spaces == 1) (nat_le 1 (how_many Ram spaces)) refl refl
    refl h
  where
    le_true : (m n : ℕ) → nat_le m n ≡ true → m ≤ n
    le_true m n e = grind (arith, nat_tests)

    split : (a b c : Bool)
        → (how_many Register spaces == 1) ≡ a
        → (how_many Unique spaces == 1) ≡ b
        → nat_le 1 (how_many Ram spaces) ≡ c
        → ((a && b) && c) ≡ true
        → IsComplete spaces
    split true true true p q r h = record { register = eqb-true _ _ p; unique = eqb-true _ _ q; ram = le_true _ _ r }
    split true true false p q r h = absurd (never (sym h))
    split true false c p q r h = absurd (never (sym h))
    split false b c p q r h = absurd (never (sym h))

-- the register space isn't the first one, which is the constant space
pub not_first : (spaces : List Space) (n : ℕ) → AreSpaces spaces → is_kind Register spaces n ≡ true → (n == 0) ≡ false
not_first [] n h kind = absurd h
not_first (s ∷ declared) zero h kind =
    absurd (never (sym kind ∙ ap (λ (x : Space). same_kind Register x.kind) h.0))
not_first (s ∷ declared) (suc n) h kind = grind (arith, nat_tests)

-- before the first line there is the constant space alone
pub keep_constant : KeepSpaces false (constant_space ∷ [])
keep_constant = record {
  formed = (refl, tt);
  words = only;
  named = (refl, tt);
  few = omega arith;
  distinct = (tt, tt);
  no_stack = (other_text (codes "const") (codes "stack") refl, tt);
  one = λ e. (refl, tt);
}
  where
    only : HaveWords (constant_space ∷ [])
    only zero s e first = ap (λ (x : Space). x.word) (sym (some_same _ _ e))
    only (suc n) s e first = absurd (none_some _ e)
