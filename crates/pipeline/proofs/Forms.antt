-- What the tests of a listing give the passes.
use Rattle.std.proofs.Common.{◌≡◌, ◌≤◌, ◌<◌, ◌-◌, ◌^◌, ℕ, true, List, [], Option, None, length, refl, ap, ◌∙◌, subst, sym, arith}
use Rattle.bits_core.specs.declared.word.Width.{Width}
use Rattle.pcode_model.specs.declared.atoms.Atom.{Atom}
use Rattle.pcode_model.specs.declared.flow.Block.{Block}
use Rattle.pcode_model.specs.declared.listing.Listing.{Listing}
use Rattle.pcode_model.specs.declared.listing.Place.{Place}
use Rattle.pcode_model.specs.declared.listing.Varnode.{Varnode}
use Rattle.pcode_model.specs.declared.opcode.Opcode.{Opcode}
use Rattle.pcode_model.specs.declared.opcode.Opcode.TheVariants as O
use Rattle.pcode_model.specs.Atoms.{AreAtoms}
use Rattle.pcode_model.specs.Flow.{IsFlow, NoFault}
use Rattle.pcode_model.specs.declared.frame.Frame.{Frame}
use Rattle.pcode_model.specs.Frame.{frame_of}
use Rattle.pcode_model.specs.Limits.{max_atoms, max_blocks}
use Rattle.pcode_model.specs.Places.{Standing, Nothing, Passes, Does, standing}
use Rattle.pcode_model.specs.Rules.{first_bad}
use Rattle.pcode_model.specs.Step.{varnode_at}
use Rattle.pcode_model.specs.WellFormed.{IsWellFormed}
use Rattle.frame_facts.specs.Listed.{IsFrame}
use Rattle.pcodetext.specs.Meaning.{Good, reading}
use Rattle.supported.specs.Supported.{HasBuiltOps}
use Rattle.flow.specs.Answer.{IsFlowFault}
use Rattle.flow.specs.declared.answer.FlowFault.{FlowFault}
use Rattle.flow.specs.declared.answer.FlowFault.TheVariants as F
use Rattle.stackvars.specs.declared.fault.AtomFault.{AtomFault}
use Rattle.stackvars.specs.declared.fault.AtomFault.TheVariants as A
use Rattle.refusals.specs.Good.{HasFewBlocks, IsGood}
use Rattle.refusals.specs.Refused.{of_atoms, of_flow}
use Rattle.refusals.specs.declared.refusal.Refusal.{Refusal}
use Rattle.refusals.specs.declared.refusal.Refusal.TheVariants as R
use Rattle.refusals.proofs.Blocks.{few_starts}
use Rattle.cmeaning.specs.declared.tree.CFunction.{CFunction}
use Rattle.cmeaning.specs.declared.tree.CalleeDecl.{CalleeDecl}
use Rattle.cmeaning.specs.Fits.{Fits}
use Rattle.cmeaning.specs.Valid.{IsValid}
use Rattle.ctext.specs.Text.{text_of}
use Rattle.naming.specs.declared.head.Head.{Head}
use Rattle.naming.specs.Covered.{IsCovered}
use Rattle.blockcode.specs.declared.code.Code.{Code}
use Rattle.blockcode.specs.Laid.{laid_body}
use Rattle.layout.specs.Callees.{callees_of}
use Rattle.layout.specs.Function.{head_of, laid_out}
use Rattle.op_code.specs.Lowerable as code
use Rattle.op_code.specs.Lowered.{lowered, ranges_of, result_width}
use Rattle.plain_valid.specs.Function.{plain_function, plain_head}
use Rattle.plain_valid.specs.Long.{HasLong, NamesLong, StandsLong}
use Rattle.plain_valid.proofs.Fit.{plain_body_fits, plain_params_fit}
use Rattle.plain_valid.proofs.Laying.{blocks_length, can_lay, plain_callees}
use Rattle.plain_valid.proofs.Long.{atoms_long}
use Rattle.plain_valid.proofs.Signature.{plain_declared, plain_inputs}
use Rattle.plain_valid.proofs.Suits.{plain_suits}
use Rattle.plain_valid.proofs.Valid.{few_declared, params_right}
use Rattle.layout_laws.proofs.Fits.{laid_fits}
use Rattle.layout_laws.proofs.Obeys.{laid_valid}
use Rattle.plain_form.proofs.Accessed.{accessed_low}
use Rattle.plain_form.proofs.Form.{plain_form}
use Rattle.frame_facts.proofs.Bounded.{framed}
use Rattle.plain_form.proofs.Read.{first_long}
use Rattle.instructions.proofs.Standing.{stands_in}
use Rattle.pipeline.specs.Passed.{Lowers}
use Rattle.pipeline.specs.Verdict.{Accepts, IsAtomFault, IsCause, MayPrint, Stops}
use Rattle.pipeline.proofs.Formed.{gives_is}
use Rattle.pipeline.proofs.Framing.{frame_law}
use Rattle.pipeline.proofs.Near.{long_access}
use Rattle.pipeline.proofs.Keeps as keeps

-- ---- the function

-- the first input's offset is all that an op names by a number of 64 bits
names_long : (code : Opcode) (vs : List Varnode) → (varnode_at vs 0).offset < 2 ^ 64 → NamesLong code vs
names_long O.Call vs h = h
names_long O.CallOther vs h = h
names_long code vs h = tt

module _
    (l : Listing)
    (read : IsWellFormed l)
    (good : first_bad l ≡ None)
    (built : HasBuiltOps l)
    (blocks : List Block)
    (flow : IsFlow l [] blocks)
    (fine : NoFault l [])
    (few : length blocks ≤ max_blocks)
    (f : Frame)
    (frame : IsFrame l [] [] f)
    (atoms : List Atom)
    (are : AreAtoms l [] f atoms)
  where
    form : code.IsLowerable l [] (frame_of l f) blocks atoms
    form = plain_form l read good built [] f frame blocks flow fine few atoms are

    abbrev made : Code
    made = lowered l (frame_of l f) blocks atoms

    abbrev head : Head
    head = plain_head l made

    stands_long : (here : Standing) → (p : Place) → standing l p ≡ here → StandsLong here
    stands_long Nothing p at = tt
    stands_long (Passes i) p at = tt
    stands_long (Does i op) p at = names_long op.code op.inputs (first_long l read good i op (stands_in l p i op at))

    long : HasLong l [] atoms
    long = record {
      storages = atoms_long l [] f atoms are (accessed_low l read good built)
          (λ a is. long_access l a (framed l read good [] [] f frame a is));
      places = λ p reached. stands_long (standing l p) p refl;
    }

    module _ (small : length made.variables ≤ 2 ^ 32) where
      covered : IsCovered head (laid_body made)
      covered = keeps.plain_covered l [] (frame_of l f) blocks atoms form long small read.named.spaces

      valid : IsValid (plain_function l (frame_of l f) blocks atoms)
      valid = laid_valid head made
          (can_lay l [] (frame_of l f) blocks atoms form long small).numbers
          (plain_suits l [] (frame_of l f) blocks atoms form long small read.named.spaces)
          (few_declared l (frame_of l f) blocks atoms small)
          read.named.func
          (params_right l (frame_of l f) blocks atoms long.storages are.in_order)
          (plain_callees l [] (frame_of l f) blocks atoms form long small read.named read.distinct)

      fits : Fits l (plain_function l (frame_of l f) blocks atoms)
      fits = laid_fits l head made covered
          (plain_params_fit l [] (frame_of l f) blocks atoms form long)
          (plain_body_fits l [] (frame_of l f) blocks atoms form long small)

      -- All that is said of the function of the plain lowering.
      pub lowers : Lowers l f (plain_function l (frame_of l f) blocks atoms)
      lowers = record {
        valid = valid;
        fits = fits;
        agrees = keeps.agrees l [] (frame_of l f) blocks atoms form long small read.named.spaces
            (frame_law l read good fine f frame);
        form = record {
          name = refl;
          gives = gives_is l read good;
          params = (atoms, (are, plain_inputs l [] (frame_of l f) blocks atoms form));
          callees = plain_declared l (frame_of l f) blocks atoms;
        };
      }

-- The same of a function that is this one.
pub lowers_to : (l : Listing) (frame : Frame) (f g : CFunction) → f ≡ g → Lowers l frame g → Lowers l frame f
lowers_to l frame f g is h = subst (λ (x : CFunction). Lowers l frame x) (sym is) h

-- as many variables as the code that was made
pub few_made : (l : Listing) (f : Frame) (blocks : List Block) (atoms : List Atom) (k : Code)
    → k ≡ lowered l (frame_of l f) blocks atoms
    → length k.variables ≤ 2 ^ 32
    → length (lowered l (frame_of l f) blocks atoms).variables ≤ 2 ^ 32
few_made l f blocks atoms k is few = subst (λ (x : Code). length x.variables ≤ 2 ^ 32) is few

-- as many blocks as the flow has
pub few_blocks_made : (l : Listing) (f : Frame) (blocks : List Block) (atoms : List Atom) (k : Code)
    → k ≡ lowered l (frame_of l f) blocks atoms
    → length blocks ≤ max_blocks
    → length k.blocks < 2 ^ 32 - 1
few_blocks_made l f blocks atoms k is few =
    let made : length k.blocks ≡ length (lowered l (frame_of l f) blocks atoms).blocks = ap (λ (x : Code). length x.blocks) is in
    let same = blocks_length l (frame_of l f).own (ranges_of l atoms) (length atoms) blocks in
    omega (arith, few, made, same)

-- the laid out function, by its parts
pub laid_is : (l : Listing) (f : Frame) (blocks : List Block) (atoms : List Atom) (name : List ℕ) (gives : Option Width)
    (callees : List CalleeDecl) (h : Head) (k : Code) (c : CFunction)
    → c ≡ laid_out h k
    → h ≡ head_of name gives callees k.variables
    → name ≡ l.func.name
    → gives ≡ result_width l
    → callees ≡ callees_of l k
    → k ≡ lowered l (frame_of l f) blocks atoms
    → c ≡ plain_function l (frame_of l f) blocks atoms
laid_is l f blocks atoms name gives callees h k c is headed named given called made =
    is
    ∙ ap (λ (x : Head). laid_out x k) headed
    ∙ ap (λ (x : List ℕ). laid_out (head_of x gives callees k.variables) k) named
    ∙ ap (λ (x : Option Width). laid_out (head_of l.func.name x callees k.variables) k) given
    ∙ ap (λ (x : List CalleeDecl). laid_out (head_of l.func.name (result_width l) x k.variables) k) called
    ∙ ap (λ (x : Code). laid_out (head_of l.func.name (result_width l) (callees_of l x) x.variables) x) made

-- ---- what may be printed

-- The text of a function that a listing which was read was lowered to.
unfoldable pub may_print : (bytes text : List ℕ) (l : Listing) (frame : Frame) (f : CFunction)
    → reading bytes ≡ Good l
    → IsFrame l [] [] frame
    → Lowers l frame f
    → text ≡ text_of f
    → MayPrint bytes text
may_print bytes text l frame f read is_frame lowers is = record {
  listing = l;
  read = read;
  frame = frame;
  is_frame = is_frame;
  function = f;
  valid = lowers.valid;
  fits = lowers.fits;
  agrees = lowers.agrees;
  form = lowers.form;
  is = is;
}

-- ---- the verdict

pub accepts : (bytes : List ℕ) (l : Listing)
    → IsGood bytes l
    → HasBuiltOps l
    → (blocks : List Block)
    → IsFlow l [] blocks
    → NoFault l []
    → length blocks ≤ max_blocks
    → (frame : Frame)
    → IsFrame l [] [] frame
    → (atoms : List Atom)
    → AreAtoms l [] frame atoms
    → length atoms ≤ max_atoms
    → Accepts bytes l
accepts bytes l good built blocks flow fine few frame is_frame atoms are so_few = record {
  good = good;
  built = built;
  flow = fine;
  blocks = few_starts l blocks flow few;
  atoms = (length atoms, ((frame, (is_frame, (atoms, (are, refl)))), so_few));
}

-- ---- faults

pub flow_stops : (l : Listing) (fault : FlowFault) → IsFlowFault l [] fault → Stops l (of_flow fault)
flow_stops l (F.NoTarget p) h = h
flow_stops l (F.FallsOff p) h = h
flow_stops l (F.BadRelative p) h = h
flow_stops l (F.NoTable p) h = h
flow_stops l (F.TableEntered p) h = h
flow_stops l (F.TooManyBlocks n) h = h
flow_stops l F.Memory h = tt

pub atoms_stops : (l : Listing) (fault : AtomFault)
    → NoFault l []
    → HasFewBlocks l
    → IsAtomFault l fault
    → Stops l (of_atoms fault)
atoms_stops l (A.TooManyAtoms n) fine few h = (fine, (few, h))
atoms_stops l A.Memory fine few h = tt

pub stops_refused : (bytes : List ℕ) (l : Listing)
    → IsGood bytes l
    → HasBuiltOps l
    → (fault : Refusal)
    → Stops l fault
    → IsCause bytes fault
stops_refused bytes l good built (R.Text fault) h = absurd h
stops_refused bytes l good built (R.Op fault) h = absurd h
stops_refused bytes l good built R.NotBuilt h = absurd h
stops_refused bytes l good built (R.Flow (F.NoTarget p)) h = (l, (good, (built, h)))
stops_refused bytes l good built (R.Flow (F.FallsOff p)) h = (l, (good, (built, h)))
stops_refused bytes l good built (R.Flow (F.BadRelative p)) h = (l, (good, (built, h)))
stops_refused bytes l good built (R.Flow (F.NoTable p)) h = (l, (good, (built, h)))
stops_refused bytes l good built (R.Flow (F.TableEntered p)) h = (l, (good, (built, h)))
stops_refused bytes l good built (R.Flow (F.TooManyBlocks n)) h = (l, (good, (built, h)))
stops_refused bytes l good built (R.Flow F.Memory) h = absurd h
stops_refused bytes l good built (R.Atoms (A.TooManyAtoms n)) h = (l, (good, (built, h)))
stops_refused bytes l good built (R.Atoms A.Memory) h = absurd h
stops_refused bytes l good built R.Memory h = tt
