-- The read-only bytes of a listing as a map.
use Rattle.std.proofs.Common.{◌≡◌, ℕ, ◌+◌, ◌-◌, ◌<◌, ◌≤◌, List, length, drop, get_or, Option, Some, sym, ap, ◌∙◌, arith}
use Rattle.std.specs.Prelude.{slice_get}
use Rattle.std.proofs.Math.Path.{fun_ext}
use Rattle.std.proofs.lemmas.Bool.Decides.{nat_tests}
use Rattle.std.proofs.lemmas.Option.{slice_get-get_or}
use Rattle.pcode_model.specs.declared.listing.Fixed.{Fixed}
use Rattle.pcode_model.specs.Spaces.{put_in, fixed_in}
use Rattle.run_world.specs.Maps.{over}
use Rattle.pcode_model.proofs.Members.{rest_at}

-- one more byte of a range
pub over_point : (space offset k : ℕ) (bytes : List ℕ) (b : ℕ) (f : ℕ → ℕ → Option ℕ)
    → slice_get bytes k ≡ Some b
    → (s o : ℕ)
    → put_in space (offset + k) (Some b) (over space offset k bytes f) s o ≡ over space offset (k + 1) bytes f s o
over_point space offset k bytes b f is s o =
    let here : o ≡ offset + k → o - offset ≡ k = λ e. omega arith in
    grind (arith, nat_tests, here, is)

pub over_more : (space offset k : ℕ) (bytes : List ℕ) (b : ℕ) (f g h : ℕ → ℕ → Option ℕ)
    → k < length bytes
    → b ≡ get_or bytes k 0
    → g ≡ over space offset k bytes f
    → h ≡ put_in space (offset + k) (Some b) g
    → h ≡ over space offset (k + 1) bytes f
over_more space offset k bytes b f g h more is before now =
    now
    ∙ ap (put_in space (offset + k) (Some b)) before
    ∙ fun_ext
    (λ s. fun_ext (λ o. over_point space offset k bytes b f (slice_get_from_get_or bytes k b more is) s o)) where
      slice_get_from_get_or : (xs : List ℕ) (i x : ℕ) → i < length xs → x ≡ get_or xs i 0 → slice_get xs i ≡ Some x
      slice_get_from_get_or xs i x lt e = slice_get-get_or xs i 0 lt ∙ ap Some (sym e)

pub over_none : (space offset : ℕ) (bytes : List ℕ) (f : ℕ → ℕ → Option ℕ) → f ≡ over space offset 0 bytes f
over_none space offset bytes f = fun_ext (λ s. fun_ext (λ o. grind (arith, nat_tests)))

-- one more range before the others
pub range_more : (fs : List Fixed) (i : ℕ) (f : Fixed) (g h : ℕ → ℕ → Option ℕ)
    → 0 < i
    → i ≤ length fs
    → f ≡ get_or fs (i - 1) f
    → g ≡ fixed_in (drop i fs)
    → h ≡ over f.space f.offset (length f.bytes) f.bytes g
    → h ≡ fixed_in (drop (i - 1) fs)
range_more fs i f g h some inside is before now =
    let later : i ≡ i - 1 + 1 = omega arith in
    now
    ∙ ap (over f.space f.offset (length f.bytes) f.bytes) (before ∙ ap (λ (k : ℕ). fixed_in (drop k fs)) later)
    ∙ sym (ap fixed_in (rest_at fs (i - 1) f (omega arith) is))
