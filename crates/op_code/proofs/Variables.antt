-- The variables of the plain lowering: those of the atoms, and the locals that stand behind them.
use Rattle.std.proofs.Common.{◌≡◌, ℕ, zero, suc, ◌<◌, ◌≤◌, List, [], ◌∷◌, ◌++◌, length, drop, map, Some, refl, sym, ap, ◌∙◌, subst}
use Rattle.std.specs.Prelude.{slice_get}
use Rattle.std.specs.Option.{option_map}
use Rattle.std.proofs.Math.Seq.{drop-append_seam}
use Rattle.std.proofs.lemmas.Option.{slice_get-map}
use Rattle.std.proofs.lemmas.List.{length-map}
use Rattle.pcode_model.specs.declared.listing.Varnode.{Varnode}
use Rattle.pcode_model.specs.declared.listing.Listing.{Listing}
use Rattle.pcode_model.specs.declared.storage.ParamStorage.{ParamStorage}
use Rattle.pcode_model.specs.declared.storage.ParamStorage.TheVariants as P
use Rattle.pcode_model.specs.declared.tables.TableAt.{TableAt}
use Rattle.pcode_model.specs.declared.atoms.Atom.{Atom}
use Rattle.pcode_model.specs.declared.flow.Block as flow_block
use Rattle.pcode_model.specs.Memory.{Frame}
use Rattle.blockcode.specs.declared.code.Variable.{Variable}
use Rattle.blockcode.specs.Run.{widths, width_in}
use Rattle.blockcode.proofs.Straight.{get_in_front, get_of_drop, rest_of_drop}
use Rattle.op_values.proofs.Means.{nearest_is}
use Rattle.op_code.specs.Form.{IsNarrow}
use Rattle.op_code.specs.Lowered.{blocks_made, lowered, range_at, range_of, ranges_of, variable_for}
use Rattle.op_code.specs.Lowerable.{AreNarrow, IsLowerable}
use Rattle.op_code.proofs.Sees.{AreWide, Setting}

-- the atom of a number
pub record IsAtomAt (l : Listing) (atoms : List Atom) (n : ℕ) (v : Varnode) : Type 0 where
  pub atom : Atom
  pub get : slice_get atoms n ≡ Some atom
  pub range : range_of l atom ≡ v
  pub narrow : (0 < atom.size) × (atom.size ≤ 16)

-- The range of a number is the range of the atom of that number.
pub atom_at : (l : Listing) (atoms : List Atom) (n : ℕ) (v : Varnode)
    → AreNarrow atoms
    → slice_get (ranges_of l atoms) n ≡ Some v
    → IsAtomAt l atoms n v
atom_at l [] n v all e = absurd (cc)
atom_at l (a ∷ atoms) zero v all e = record { atom = a; get = refl; range = cc; narrow = all.0 }
atom_at l (a ∷ atoms) (suc n) v all e = let r = atom_at l atoms n v all.1 e in
    record { atom = r.atom; get = r.get; range = r.range; narrow = r.narrow }

-- The variable of an atom's number is the atom's.
pub variable_get : (atoms : List Atom) (locals : List Variable) (n : ℕ) (a : Atom)
    → slice_get atoms n ≡ Some a
    → slice_get (map variable_for atoms ++ locals) n ≡ Some (variable_for a)
variable_get atoms locals n a e = get_in_front (map variable_for atoms) locals n (variable_for a)
    (slice_get-map variable_for atoms n ∙ ap (option_map variable_for) e)

-- A range has the size of its atom.
pub range_size : (l : Listing) (s : ParamStorage) (k : ℕ) → (range_at l s k).size ≡ k
range_size l (P.Register o) k = refl
range_size l (P.Unique o) k = refl
range_size l (P.Stack o) k = refl

widths_are : (l : Listing) (atoms : List Atom) (locals : List Variable)
    → AreNarrow atoms
    → (n : ℕ) (v : Varnode)
    → slice_get (ranges_of l atoms) n ≡ Some v
    → IsNarrow v
    → widths (map variable_for atoms ++ locals) n ≡ v.size
widths_are l atoms locals all n v e narrow =
    let r = atom_at l atoms n v all e in
    ap width_in (variable_get atoms locals n r.atom r.get) ∙ nearest_is (r.atom).size r.narrow.0 r.narrow.1
    ∙ sym (range_size l (r.atom).storage (r.atom).size) ∙ ap (λ (w : Varnode). w.size) r.range

ranges_narrow : (l : Listing) (atoms : List Atom)
    → AreNarrow atoms
    → (n : ℕ) (v : Varnode)
    → slice_get (ranges_of l atoms) n ≡ Some v
    → IsNarrow v
ranges_narrow l atoms all n v e =
    let r = atom_at l atoms n v all e in
    let size : (r.atom).size ≡ v.size = sym (range_size l (r.atom).storage (r.atom).size)
    ∙ ap (λ (w : Varnode). w.size) r.range in
    let P : ℕ → Type 0 = λ k. (0 < k) × (k ≤ 16) in
    subst P size r.narrow

-- the variables that stand from a number on have their widths
wide_from : (vs ys : List Variable) (n : ℕ) → drop n vs ≡ ys → AreWide (widths vs) n ys
wide_from vs [] n e = tt
wide_from vs (y ∷ ys) n e =
    (ap width_in (get_of_drop vs n y ys e), wide_from vs ys (suc n) (rest_of_drop vs n y ys e))

module _ (l : Listing) (f : Frame) (blocks : List flow_block.Block) (atoms : List Atom) where
  abbrev pub locals_made : List Variable
  locals_made = (blocks_made l f.own (ranges_of l atoms) (length atoms) blocks).locals

  -- The locals have their widths.
  pub locals_wide : AreWide (widths (lowered l f blocks atoms).variables) (length atoms) locals_made
  locals_wide =
      let vs = map variable_for atoms in
      wide_from (vs ++ locals_made) locals_made (length atoms)
      (ap (λ n. drop n (vs ++ locals_made)) (sym (length-map atoms variable_for)) ∙ drop-append_seam vs locals_made)

  -- The variables of the atoms' ranges have their widths.
  pub variables_set : (t : List TableAt)
      → IsLowerable l t f blocks atoms
      → Setting l (ranges_of l atoms) (widths (lowered l f blocks atoms).variables)
  variables_set t form = record {
    table = form.table;
    even = form.even;
    registers = form.registers;
    narrow = ranges_narrow l atoms form.narrow;
    widths = widths_are l atoms locals_made form.narrow;
  }
