-- The bytes of a line: some, each below 256, and inside their space.
use Rattle.std.proofs.Common.{◌≡◌, ◌∙◌, ℕ, zero, suc, ◌+◌, ◌*◌, ◌<◌, ◌≤◌, Bool, true, false, cond, List, [], ◌∷◌, length, refl, sym, ap, ap₂, arith, subst}
use Rattle.std.specs.Prelude.{◌&&◌, ◌==◌, nat_lt, Option, Some, None, IfSome, if◌then◌else◌}
use Rattle.std.specs.Char.{digit_value, is_digit}
use Rattle.std.specs.List.{AllByRecursion}
use Rattle.std.specs.Option.{option_map}
use Rattle.std.proofs.lemmas.Bool.Decides.{nat_tests}
use Rattle.listing_lines.specs.Text.{Line}
use Rattle.listing_lines.specs.Tokens.{bytes_of, pairs_of}
use Rattle.pcode_model.specs.Spaces.{any_at, is_some, next}
use Rattle.pcode_laws.proofs.Rules.{neither}
use Rattle.run_world.specs.declared.entry.Byte.{Byte}
use Rattle.entrytext.specs.Meaning.{bytes_from}

abbrev pub IsSmall : ℕ → Type 0
IsSmall b = b < 256

abbrev pub AreSomeSmall : List ℕ → Type 0
AreSomeSmall bytes = (0 < length bytes) × AllByRecursion IsSmall bytes

pair_small : (high low : ℕ) → nat_lt high 16 ≡ true → nat_lt low 16 ≡ true → high * 16 + low < 256
pair_small high low h g = grind (arith, nat_tests)

small_more : (b : ℕ) (more : Option (List ℕ)) → b < 256
    → IfSome more (AllByRecursion IsSmall)
    → IfSome (option_map (λ bytes. b ∷ bytes) more) AreSomeSmall
small_more b None small rest = tt
small_more b (Some bytes) small rest = (omega arith, (small, rest))

forget : (o : Option (List ℕ)) → IfSome o AreSomeSmall → IfSome o (AllByRecursion IsSmall)
forget None h = tt
forget (Some bs) h = h.1

two_small : (high low : ℕ) (one two : Bool) (more : Option (List ℕ))
    → is_digit high 16 ≡ one
    → is_digit low 16 ≡ two
    → IfSome more (AllByRecursion IsSmall)
    → IfSome
    (if one && two then option_map (λ bytes. (digit_value high * 16 + digit_value low) ∷ bytes) more else None)
    AreSomeSmall
two_small high low true true more h g rest = small_more _ more (pair_small _ _ h g) rest
two_small high low true false more h g rest = tt
two_small high low false two more h g rest = tt

pairs_small : (digits : Line) → IfSome (pairs_of digits) (AllByRecursion IsSmall)
pairs_small [] = tt
pairs_small (high ∷ []) = tt
pairs_small (high ∷ low ∷ more) = forget _ (two_small high low _ _ (pairs_of more) refl refl (pairs_small more))

-- what pairs of digits write is at least one byte
pub bytes_small : (digits : Line) → IfSome (bytes_of digits) AreSomeSmall
bytes_small [] = tt
bytes_small (high ∷ []) = tt
bytes_small (high ∷ low ∷ more) = two_small high low _ _ (pairs_of more) refl refl (pairs_small more)

-- ---- bytes from an offset on

abbrev pub byte_at : ℕ → ℕ → ℕ → Byte
byte_at n offset b = record { space = n; offset = offset; value = b }

pub from_all : (P : Byte → Type 0) (n : ℕ) (bytes : List ℕ) (o : ℕ)
    → ((i b : ℕ) → i < length bytes → b < 256 → P (byte_at n (o + i) b))
    → AllByRecursion IsSmall bytes
    → AllByRecursion P (bytes_from n o bytes)
from_all P n [] o each small = tt
from_all P n (b ∷ bytes) o each small =
    (here, from_all P n bytes (suc o) (λ i c within less. there i c within less) small.1)
  where
    first : o + 0 ≡ o
    first = omega arith

    here : P (byte_at n o b)
    here = subst (λ p. P (byte_at n p b)) first (each 0 b (omega arith) small.0)

    later : (i : ℕ) → o + suc i ≡ suc o + i
    later i = omega arith

    there : (i c : ℕ) → i < length bytes → c < 256 → P (byte_at n (suc o + i) c)
    there i c within less = subst (λ p. P (byte_at n p c)) (later i) (each (suc i) c (omega (arith, within)) less)

-- ---- no byte is read-only

pub none_at : (size : ℕ) (f : ℕ → Bool) (k o : ℕ)
    → o + k ≤ size
    → any_at size f o k ≡ false
    → (i : ℕ) → i < k → f (o + i) ≡ false
none_at size f zero o fits none i within = absurd (omega (arith, within))
none_at size f (suc k) o fits none zero within = ap f (first o) ∙ (neither _ _ none).0
  where
    first : (p : ℕ) → p + 0 ≡ p
    first p = omega arith
none_at size f (suc k) o fits none (suc i) within =
    let inner : suc o + k ≤ size = omega (arith, fits) in
    let before : i < k = omega (arith, within) in
    let last : suc o < size = omega (arith, fits, within) in
    let goes_on : (suc o == size) ≡ false = grind (arith, nat_tests, last) in
    let on : next size o ≡ suc o = ap (λ b. cond b 0 (suc o)) goes_on in
    let rest : any_at size f (suc o) k ≡ false = ap (λ p. any_at size f p k) (sym on) ∙ (neither _ _ none).1 in
    ap f (later o) ∙ none_at size f k (suc o) inner rest i before
  where
    later : (p : ℕ) → p + suc i ≡ suc p + i
    later p = omega arith

-- the test by what is looked up
pub looked_up : (f g : ℕ → ℕ → Option ℕ) (m size n o j k : ℕ)
    → f ≡ g
    → m ≡ size
    → j ≡ k
    → any_at m (λ x. is_some (f n x)) o j ≡ any_at size (λ x. is_some (g n x)) o k
looked_up f g m size n o j k same by count =
    ap (λ (h : ℕ → ℕ → Option ℕ). any_at m (λ x. is_some (h n x)) o j) same
    ∙ ap₂ (λ (a b : ℕ). any_at a (λ x. is_some (g n x)) o b) by count
