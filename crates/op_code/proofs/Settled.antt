-- What follows where a range is set, by the number of its variables.
use Rattle.std.proofs.Common.{◌≡◌, ◌≢◌, ℕ, Bool, List, [], ◌∷◌, ◌++◌, length, map, refl, ap, ◌∙◌, append_assoc}
use Rattle.pcode_model.specs.declared.listing.Varnode.{Varnode}
use Rattle.cmeaning.specs.declared.tree.Stmt.{Stmt}
use Rattle.op_code.specs.Cover.{Piece}
use Rattle.op_code.specs.Words.{assigns_part, parts_by, target_by}

module _ (big : Bool) (v : Varnode) where
  -- where there isn't one variable alone
  pub parts_are : (local : ℕ) (ps : List Piece)
      → length ps ≢ 1
      → map (assigns_part big v local) ps ≡ parts_by big v local ps
  parts_are local [] ne = refl
  parts_are local (p ∷ []) ne = absurd (ne refl)
  parts_are local (p ∷ q ∷ ps) ne = refl

  of_target : (next : ℕ) (ps : List Piece) → parts_by big v (target_by next ps) ps ≡ parts_by big v next ps
  of_target next [] = refl
  of_target next (p ∷ []) = refl
  of_target next (p ∷ q ∷ ps) = refl

  -- A statement that sets the target, and the parts of it then.
  pub settled : (make : ℕ → Stmt) (next n : ℕ) (s : Stmt) (ps pieces : List Piece) (body pushed all : List Stmt)
      → ps ≡ pieces
      → n ≡ target_by next ps
      → s ≡ make n
      → pushed ≡ body ++ s ∷ []
      → all ≡ pushed ++ parts_by big v n ps
      → all ≡ body ++ make (target_by next pieces) ∷ parts_by big v next pieces
  settled make next n s ps pieces body pushed all same number makes pushes adds =
      let to : ℕ → List Stmt = λ k. parts_by big v k ps in
      adds
      ∙ ap (λ ss. ss ++ to n) (pushes ∙ ap (λ t. body ++ t ∷ []) makes)
      ∙ append_assoc body (make n ∷ []) (to n)
      ∙ ap (λ k. body ++ make k ∷ to k) number
      ∙ ap (λ ss. body ++ make (target_by next ps) ∷ ss) (of_target next ps)
      ∙ ap (λ (qs : List Piece). body ++ make (target_by next qs) ∷ parts_by big v next qs) same
