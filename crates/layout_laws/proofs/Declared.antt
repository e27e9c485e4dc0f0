-- A head that declares a code's variables gives them the same words at the start.
use Rattle.std.proofs.Common.{◌≡◌, ℕ, zero, suc, List, [], ◌∷◌, Option, None, refl, ap, ◌∙◌}
use Rattle.std.specs.Prelude.{slice_get}
use Rattle.std.proofs.Math.Path.{fun_ext}
use Rattle.bits_core.specs.declared.word.Width.{Width}
use Rattle.pcode_model.specs.declared.listing.Listing.{Listing}
use Rattle.pcode_model.specs.declared.storage.ParamStorage.{ParamStorage}
use Rattle.pcode_model.specs.World.{Entry, first_world}
use Rattle.cmeaning.specs.declared.tree.Local.{Local}
use Rattle.cmeaning.specs.declared.tree.Param.{Param}
use Rattle.cmeaning.specs.Do.{Local as State}
use Rattle.cmeaning.specs.Step as c
use Rattle.naming.specs.declared.head.Head.{Head}
use Rattle.naming.specs.Run.{start_of}
use Rattle.blockcode.specs.declared.code.Variable.{Variable}
use Rattle.blockcode.specs.Run.{word_in, first_word, first_local}
use Rattle.layout.specs.Suits.{Declares}

module _ (l : Listing) (e : Entry) where
  word_none : (w : ℕ) (o : Option ParamStorage) → o ≡ None → word_in l e w o ≡ None
  word_none w o none = ap (word_in l e w) none

  word_at : (vs : List Variable) (ps : List Param) (xs : List Local) (n : ℕ)
      → Declares vs ps xs
      → first_word l e (slice_get vs n) ≡ c.first_word l e (slice_get ps n)
  word_at [] [] [] n d = refl
  word_at [] [] (x ∷ xs) n d = absurd d
  word_at [] (p ∷ ps) xs n d = absurd d
  word_at (v ∷ vs) (p ∷ ps) xs zero d = ap (λ (w : Width). word_in l e w.bytes v.storage) d.0.0
      ∙ ap (word_in l e p.width.bytes) d.0.1
  word_at (v ∷ vs) (p ∷ ps) xs (suc n) d = word_at vs ps xs n d.1
  word_at (v ∷ vs) [] [] n d = absurd d
  word_at (v ∷ vs) [] (x ∷ xs) zero d = word_none v.width.bytes v.storage d.0.1
  word_at (v ∷ vs) [] (x ∷ xs) (suc n) d = word_at vs [] xs n d.1

  pub first_declared : (h : Head) (vs : List Variable)
      → Declares vs h.params h.locals
      → c.at 0 (first_local l vs e) ≡ start_of l h e
  first_declared h vs d =
      ap (λ (env : ℕ → Option ℕ). let x : State = record { env = env; left = λ o. 0; world = first_world e.bytes e } in
      c.at 0 x) (fun_ext (λ n. word_at vs h.params h.locals n d))
