-- The signature of the plain lowering's C function.
use Rattle.std.proofs.Common.{◌≡◌, ℕ, Bool, true, false, List, [], ◌∷◌, length, map, Option, Some, None, refl, sym, subst}
use Rattle.std.specs.Prelude.{cond}
use Rattle.std.specs.List.{AllByRecursion}
use Rattle.pcode_model.specs.declared.atoms.Atom.{Atom}
use Rattle.pcode_model.specs.Memory.{Frame}
use Rattle.pcode_model.specs.declared.flow.Block as flow_block
use Rattle.pcode_model.specs.declared.listing.Listing.{Listing}
use Rattle.pcode_model.specs.declared.tables.TableAt.{TableAt}
use Rattle.cmeaning.specs.declared.tree.CalleeDecl.{CalleeDecl}
use Rattle.cmeaning.specs.Callees.{declared_in, first_of, has_address}
use Rattle.naming.specs.First.{order_of}
use Rattle.naming.specs.Named.{declared_all, with_found}
use Rattle.blockcode.specs.Laid.{laid_body}
use Rattle.layout.specs.Callees.{called_in, callee_decl, callees_of}
use Rattle.layout.specs.Function.{params_of}
use Rattle.op_values.proofs.Means.{nearest_is}
use Rattle.op_code.specs.Lowered.{lowered, result_width, variable_for}
use Rattle.op_code.specs.Lowerable.{AreNarrow, IsLowerable}
use Rattle.plain_valid.specs.Declared.{IsDeclaredBy}
use Rattle.plain_valid.specs.Function.{plain_function, plain_head}
use Rattle.plain_valid.specs.Inputs.{AreInputs}
use Rattle.plain_valid.proofs.Valid.{plain_params}

-- It has the listing's name.
pub plain_name : (l : Listing) (f : Frame) (blocks : List flow_block.Block) (atoms : List Atom)
    → (plain_function l f blocks atoms).name ≡ l.func.name
plain_name l f blocks atoms = refl

-- It gives what the prototype gives.
pub plain_gives : (l : Listing) (f : Frame) (blocks : List flow_block.Block) (atoms : List Atom)
    → (plain_function l f blocks atoms).gives ≡ result_width l
plain_gives l f blocks atoms = refl

inputs : (atoms : List Atom) → AreNarrow atoms → AreInputs atoms (params_of (map variable_for atoms))
inputs [] narrow = tt
inputs (a ∷ atoms) narrow = (
  record { storage = refl; width = nearest_is a.size narrow.0.0 narrow.0.1; unsigned = refl; input = refl },
  inputs atoms narrow.1,
)

-- Its parameters are one `in_` parameter for each atom, in their order.
pub plain_inputs : (l : Listing) (t : List TableAt) (f : Frame) (blocks : List flow_block.Block) (atoms : List Atom)
    → IsLowerable l t f blocks atoms → AreInputs atoms (plain_function l f blocks atoms).params
plain_inputs l t f blocks atoms form =
    subst (AreInputs atoms) (sym (plain_params l f blocks atoms)) (inputs atoms form.narrow)

-- ---- callees

module _ (l : Listing) where
  of_addresses : (ns : List ℕ) → AllByRecursion (IsDeclaredBy l) (map (callee_decl l) ns)
  of_addresses [] = tt
  of_addresses (n ∷ ns) = (refl, of_addresses ns)

  of_found : (test : CalleeDecl → Bool) (cs : List CalleeDecl) (c : CalleeDecl)
      → AllByRecursion (IsDeclaredBy l) cs
      → first_of test cs ≡ Some c
      → IsDeclaredBy l c
  of_found test [] c all is = absurd (cc)
  of_found test (d ∷ cs) c all is = by (test d) is (of_found test cs c all.1) where
    by : (t : Bool)
        → cond t (Some d) (first_of test cs) ≡ Some c
        → (first_of test cs ≡ Some c → IsDeclaredBy l c)
        → IsDeclaredBy l c
    by true e next = let same : d ≡ c = cc in subst (IsDeclaredBy l) same all.0
    by false e next = next e

  of_all : (cs : List CalleeDecl) (ns : List ℕ)
      → AllByRecursion (IsDeclaredBy l) cs
      → AllByRecursion (IsDeclaredBy l) (declared_all cs ns)
  of_all cs [] all = tt
  of_all cs (n ∷ ns) all = by (declared_in cs n) refl (of_all cs ns all) where
    by : (o : Option CalleeDecl)
        → declared_in cs n ≡ o
        → AllByRecursion (IsDeclaredBy l) (declared_all cs ns)
        → AllByRecursion (IsDeclaredBy l) (with_found o (declared_all cs ns))
    by None is rest = rest
    by (Some c) is rest = (of_found (has_address n) cs c all is, rest)

-- Its callees are declared with the names that the listing gives them and the widths of their prototypes, and as ones
-- that return or never do.
pub plain_declared : (l : Listing) (f : Frame) (blocks : List flow_block.Block) (atoms : List Atom)
    → AllByRecursion (IsDeclaredBy l) (plain_function l f blocks atoms).callees
plain_declared l f blocks atoms =
    let k = lowered l f blocks atoms in
    let h = plain_head l k in
    of_all l (callees_of l k) (order_of (length h.params) (laid_body k)).callees
    (of_addresses l (called_in [] k.blocks))
