use Rattle.std.proofs.Common.{◌≡◌, ◌∙◌, List, [], ap, subst, sym}
use Rattle.std.specs.List.{AllByRecursion}
use Rattle.std.proofs.lemmas.Result.{IfOk-weaker}
use Rattle.pcode_model.specs.declared.flow.Block.{Block}
use Rattle.pcode_model.specs.declared.atoms.Atom.{Atom}
use Rattle.pcode_model.specs.Atoms.{AreAtoms}
use Rattle.stackvars.specs.declared.sweep.Piece.{Piece}
use Rattle.stackvars.specs.Collected.{collected}
use Rattle.stackvars.specs.Cuts.{Fits, atoms_of, marks}
use Rattle.stackvars.proofs.Found.{found_atoms, found_fit}
use Rattle.stackvars.proofs.cuts.all_atoms.Goals as goal

pub atoms_of-requires : goal.atoms_of-requires
atoms_of-requires c =
    let l = c.args.listing.now in
    let accessed : c.in_ok-accessed.accessed.items ≡ collected l c.args.flow.now c.args.frame.now =
    c.in_ok-accessed.ensures ∙ ap (λ (bs : List Block). collected l bs c.args.frame.now) c.as_slice.ensures in
    let marked : c.in_ok-marks.marks.items ≡ marks l c.in_ok-accessed.accessed.items =
    c.in_ok-marks.ensures ∙ ap (λ (xs : List Atom). marks l xs) c.deref.ensures.value in
    let fit : AllByRecursion Fits c.in_ok-pieces.pieces.items =
    found_fit l c.args.flow.now c.requires.flow c.requires.read c.requires.ops c.args.frame.now c.requires.near
    c.in_ok-accessed.accessed.items accessed c.in_ok-marks.marks.items marked c.in_ok-pieces.pieces.items c.in_ok-pieces.ensures in
    subst (λ (ps : List Piece). AllByRecursion Fits ps) (sym c.deref-2.ensures.value) fit

pub returns : goal.returns
returns c =
    let l = c.args.listing.now in
    let accessed : c.in_ok-accessed.accessed.items ≡ collected l c.args.flow.now c.args.frame.now =
    c.in_ok-accessed.ensures ∙ ap (λ (bs : List Block). collected l bs c.args.frame.now) c.as_slice.ensures in
    let marked : c.in_ok-marks.marks.items ≡ marks l c.in_ok-accessed.accessed.items =
    c.in_ok-marks.ensures ∙ ap (λ (xs : List Atom). marks l xs) c.deref.ensures.value in
    let good : AreAtoms l [] c.args.frame.now (atoms_of c.in_ok-pieces.pieces.items) =
    found_atoms l c.args.flow.now c.requires.flow c.requires.read c.requires.ops c.args.frame.now c.requires.near
    c.in_ok-accessed.accessed.items accessed c.in_ok-marks.marks.items marked c.in_ok-pieces.pieces.items c.in_ok-pieces.ensures in
    IfOk-weaker c.atoms_of.result _ _
    (λ x e. subst (λ (xs : List Atom). AreAtoms l [] c.args.frame.now xs)
    (sym (e ∙ ap (λ (ps : List Piece). atoms_of ps) c.deref-2.ensures.value)) good)
    c.atoms_of.ensures
