-- Where a CBRANCH leads.
use Rattle.std.proofs.Common.{◌≡◌, ◌==◌, [], ◌∷◌, Option, Some, Ok, sym, ap, ◌∙◌}
use Rattle.std.specs.Prelude.{if◌then◌else◌}
use Rattle.bits_core.specs.declared.word.Word.{Word}
use Rattle.pcode_model.specs.declared.listing.Listing.{Listing}
use Rattle.pcode_model.specs.declared.listing.Instruction.{Instruction}
use Rattle.pcode_model.specs.declared.listing.Op.{Op}
use Rattle.pcode_model.specs.declared.listing.Place.{Place}
use Rattle.pcode_model.specs.declared.listing.Varnode.{Varnode}
use Rattle.pcode_model.specs.declared.opcode.Opcode.TheVariants as O
use Rattle.pcode_model.specs.Memory.{Acts, Frame}
use Rattle.pcode_model.specs.Places.{Does, branch_place, next_place}
use Rattle.pcode_model.specs.Step.{State, all_but_first, gone, read_all, step_at, varnode_at}
use Rattle.pcode_run.proofs.Doing.{does}

pub tested : {M : Type 0} (m : Acts M) (l : Listing) (f : Frame) (i : Instruction) (s : State M) (op : Op)
    (a : Word) (v : Varnode) (to : Option Place)
    → op.code ≡ O.CBranch → read_all m l f s (all_but_first op.inputs) ≡ Ok (a.value ∷ []) → v ≡ varnode_at op.inputs 0
    → to ≡ (if a.value == 0 then Some (next_place i s.at.index) else branch_place i s.at.index v)
    → gone to s ≡ step_at m l f (Does i op) s
tested m l f i s op a v to kind read is leads =
    ap (λ (p : Option Place). gone p s) (leads
    ∙ ap (λ (w : Varnode). if a.value == 0 then Some (next_place i s.at.index) else branch_place i s.at.index w)
    is)
    ∙ sym (does m l f i s op O.CBranch (Ok (a.value ∷ [])) kind read)
