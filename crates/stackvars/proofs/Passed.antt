-- What an op reads, and the atoms of its ranges, pushed part by part.
use Rattle.std.proofs.Common.{◌≡◌, ◌∙◌, ℕ, suc, List, [], ◌∷◌, ◌++◌, refl, sym, ap, append_assoc, None}
use Rattle.pcode_model.specs.declared.listing.Listing.{Listing}
use Rattle.pcode_model.specs.declared.listing.Op.{Op}
use Rattle.pcode_model.specs.declared.listing.Storage.{Storage}
use Rattle.pcode_model.specs.declared.listing.Storage.TheVariants.{At, Stack}
use Rattle.pcode_model.specs.declared.listing.Varnode.{Varnode}
use Rattle.pcode_model.specs.declared.atoms.Atom.{Atom}
use Rattle.pcode_model.specs.Atoms.{further_ranges, one_range, op_ranges, ranges_read}
use Rattle.pcode_model.specs.Step.{arguments, operands}
use Rattle.stackvars.specs.Accesses.{passed}
use Rattle.stackvars.specs.Collected.{atoms_of}
use Rattle.stackvars.proofs.Ops.{atoms_of_both}

-- What a call reads off the stack, by its prototype.
pub reads_passed : (n : ℕ) (args : List Storage) → ranges_read (arguments n args) ≡ passed args
reads_passed n [] = refl
reads_passed n (At v ∷ args) = ap (λ (vs : List Varnode). v ∷ vs) (reads_passed (suc n) args)
reads_passed n (Stack offset size ∷ args) = reads_passed (suc n) args

-- the operands of an op, its output, and what it accesses further
pub parts_pushed : (l : Listing) (op : Op) (out : List Atom)
    → ((out ++ atoms_of l (ranges_read (operands l op.code op.inputs))) ++ atoms_of l (one_range op.out))
    ++ atoms_of l (further_ranges l None op.code op.inputs)
    ≡ out ++ atoms_of l (op_ranges l None op)
parts_pushed l op out =
    let a : List Varnode = ranges_read (operands l op.code op.inputs) in
    let b : List Varnode = one_range op.out in
    let d : List Varnode = further_ranges l None op.code op.inputs in
    let x : List Atom = atoms_of l a in
    let y : List Atom = atoms_of l b in
    let z : List Atom = atoms_of l d in
    append_assoc (out ++ x) y z ∙ (append_assoc out x (y ++ z)
    ∙ (ap (λ (zs : List Atom). out ++ (x ++ zs)) (sym (atoms_of_both l b d))
    ∙ ap (λ (zs : List Atom). out ++ zs) (sym (atoms_of_both l a (b ++ d)))))
