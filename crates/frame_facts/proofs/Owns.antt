-- The access that a frame lists at a place.
use Rattle.std.proofs.Common.{◌≡◌, ℕ, Bool, true, false, List, [], ◌∷◌, Some, refl, sym, inl, inr}
use Rattle.std.specs.Prelude.{◌==◌, ◌&&◌, cond}
use Rattle.std.proofs.lemmas.Bool.{and_parts, eqb-true}
use Rattle.pcode_model.specs.declared.listing.Place.{Place}
use Rattle.pcode_model.specs.declared.frame.FrameAccess.{FrameAccess}
use Rattle.pcode_model.specs.Frame.{own_in, wrapped}
use Rattle.pcode_model.specs.Flow.{IsIn}
use Rattle.pcode_model.proofs.Members.{same_place}

-- ---- the access that a frame lists

-- the access of this number at this place
pub record Listed (xs : List FrameAccess) (size : ℕ) (p : Place) (n c : ℕ) : Type 0 where
  pub access : FrameAccess
  pub has : IsIn access xs
  pub at : access.place ≡ p
  pub number : access.argument ≡ n
  pub offset : c ≡ wrapped size access.offset

pub own_listed : (size : ℕ) (xs : List FrameAccess) (p : Place) (n c : ℕ)
    → own_in size xs p n ≡ Some c
    → Listed xs size p n c
own_listed size [] p n c h = absurd (cc)
own_listed size (a ∷ xs) p n c h =
    by (a.place.address == p.address && (a.place.index == p.index && a.argument == n)) refl h (own_listed size xs p n c)
  where
    by : (b : Bool)
        → (a.place.address == p.address && (a.place.index == p.index && a.argument == n)) ≡ b
        → cond b (Some (wrapped size a.offset)) (own_in size xs p n) ≡ Some c
        → (own_in size xs p n ≡ Some c → Listed xs size p n c)
        → Listed (a ∷ xs) size p n c
    by true e h rest =
        let one = and_parts _ _ e in
        let two = and_parts _ _ one.1 in
        record {
          access = a;
          has = inl refl;
          at = same_place a.place p (eqb-true _ _ one.0) (eqb-true _ _ two.0);
          number = eqb-true _ _ two.1;
          offset = let x : wrapped size a.offset ≡ c = cc in sym x;
        }
    by false e h rest =
        let r = rest h in
        record { access = r.access; has = inr r.has; at = r.at; number = r.number; offset = r.offset }
