-- The head of the plain lowering declares its variables, and its parameters are right.
use Rattle.std.proofs.Common.{◌≡◌, ◌+◌, ◌≤◌, ◌^◌, true, false, List, [], ◌∷◌, ◌++◌, length, map, Option, refl, sym, ap, ◌∙◌, subst, arith}
use Rattle.std.specs.Prelude.{Bool, ℤ, pos, negsuc, ◌&&◌, ◌≤ℤ◌, ◌<ℤ◌}
use Rattle.std.specs.Int.Signed.{le_z, lt_z}
use Rattle.std.proofs.lemmas.Bool.{and_from}
use Rattle.std.proofs.lemmas.Bool.Decides.{nat_tests}
use Rattle.std.proofs.lemmas.Int.{ints}
use Rattle.pcode_model.specs.declared.listing.Listing.{Listing}
use Rattle.pcode_model.specs.declared.storage.ParamStorage.{ParamStorage}
use Rattle.pcode_model.specs.declared.storage.ParamStorage.TheVariants as P
use Rattle.pcode_model.specs.declared.atoms.Atom.{Atom}
use Rattle.pcode_model.specs.declared.flow.Block as flow_block
use Rattle.pcode_model.specs.Atoms.{StandsBefore, InOrder}
use Rattle.pcode_model.specs.Memory.{Frame}
use Rattle.cmeaning.specs.declared.tree.Param.{Param}
use Rattle.cmeaning.specs.Valid.{is_storage, is_before, precedes_all, are_params}
use Rattle.cmeaning.proofs.Order.{before_chain}
use Rattle.naming.specs.declared.head.Head.{Head}
use Rattle.naming.specs.Run.{widths_of}
use Rattle.blockcode.specs.declared.code.Variable.{Variable}
use Rattle.blockcode.specs.Run.{widths}
use Rattle.layout.specs.Function.{local_of, locals_of, param_of, params_of}
use Rattle.layout.specs.Suits.{Declares}
use Rattle.layout.proofs.Declared.{count_declared, widths_declared}
use Rattle.op_values.specs.Nodes.{width_by}
use Rattle.op_code.specs.Lowered.{lowered, ranges_of, variable_for}
use Rattle.op_code.proofs.Unstored.{AreUnstored, blocks_unstored}
use Rattle.op_code.proofs.Variables.{locals_made}
use Rattle.plain_valid.specs.Function.{plain_head}
use Rattle.plain_valid.specs.Long.{IsLong, AreLong}

-- ---- variables

-- no parameter is among variables without storages
record AreDeclared (vs : List Variable) : Type 0 where
  params : params_of vs ≡ []
  locals : Declares vs [] (locals_of vs)

unstored : (vs : List Variable) → AreUnstored vs → AreDeclared vs
unstored [] h = record { params = refl; locals = tt }
unstored (v ∷ vs) h =
    let rest = unstored vs h.1 in
    let R : Option ParamStorage → Type 0 = λ s. Declares (v ∷ vs) [] (local_of v.width s ++ locals_of vs) in
    record {
      params = ap (λ s. param_of v.width s ++ params_of vs) h.0 ∙ rest.params;
      locals = subst R (sym h.0) ((refl, h.0), rest.locals);
    }

abbrev behind : List Atom → List Variable → List Variable
behind atoms locals = map variable_for atoms ++ locals

params_behind : (atoms : List Atom) (locals : List Variable)
    → AreUnstored locals
    → params_of (behind atoms locals) ≡ params_of (map variable_for atoms)
params_behind [] locals h = (unstored locals h).params
params_behind (a ∷ atoms) locals h =
    ap (λ ps. param_of (width_by a.size) (variable_for a).storage ++ ps) (params_behind atoms locals h)

declares_behind : (atoms : List Atom) (locals : List Variable)
    → AreUnstored locals
    → Declares (behind atoms locals) (params_of (behind atoms locals)) (locals_of (behind atoms locals))
declares_behind [] locals h =
    let r = unstored locals h in
    let R : List Param → Type 0 = λ ps. Declares locals ps (locals_of locals) in
    subst R (sym r.params) r.locals
declares_behind (a ∷ atoms) locals h = ((refl, refl), declares_behind atoms locals h)

module _ (l : Listing) (f : Frame) (blocks : List flow_block.Block) (atoms : List Atom) where
  abbrev pub head : Head
  head = plain_head l (lowered l f blocks atoms)

  none_stored : AreUnstored (locals_made l f blocks atoms)
  none_stored = blocks_unstored l (ranges_of l atoms) f.own (length atoms) blocks

  -- The atoms are the parameters, and the variables behind them the locals.
  pub plain_declares : Declares (lowered l f blocks atoms).variables head.params head.locals
  plain_declares = declares_behind atoms (locals_made l f blocks atoms) none_stored

  -- The parameters are those of the atoms.
  pub plain_params : head.params ≡ params_of (map variable_for atoms)
  plain_params = params_behind atoms (locals_made l f blocks atoms) none_stored

  -- The head has as many variables as the code.
  pub variables_declared : length (lowered l f blocks atoms).variables ≡ length head.params + length head.locals
  variables_declared = count_declared (lowered l f blocks atoms).variables head.params head.locals plain_declares

  -- They have numbers of 32 bits where those of the code do.
  pub few_declared : length (lowered l f blocks atoms).variables ≤ 2 ^ 32
      → length head.params + length head.locals ≤ 2 ^ 32
  few_declared few = omega (arith, few, variables_declared)

  -- They have the same widths.
  pub widths_kept : widths (lowered l f blocks atoms).variables ≡ widths_of head
  widths_kept = widths_declared head (lowered l f blocks atoms).variables plain_declares

-- ---- the order of the parameters

abbrev params : List Atom → List Param
params atoms = params_of (map variable_for atoms)

abbrev param_for : Atom → Param
param_for a = record { storage = a.storage; model = false; width = width_by a.size; signed = false }

before_int : (m n : ℤ) → m <ℤ n → lt_z m n ≡ true
before_int m n h = by (lt_z m n) refl where
  by : (t : Bool) → lt_z m n ≡ t → t ≡ true
  by true e = refl
  by false e = absurd (omega (arith, ints, h, e))

least_int : (m n : ℤ) → m ≤ℤ n → le_z m n ≡ true
least_int m n h = by (le_z m n) refl where
  by : (t : Bool) → le_z m n ≡ t → t ≡ true
  by true e = refl
  by false e = absurd (omega (arith, ints, h, e))

is_before_by : (r s : ParamStorage) → StandsBefore r s → is_before r s ≡ true
is_before_by (P.Register a) (P.Register b) h = grind (arith, nat_tests)
is_before_by (P.Register a) (P.Unique b) h = refl
is_before_by (P.Register a) (P.Stack b) h = refl
is_before_by (P.Unique a) (P.Register b) h = absurd h
is_before_by (P.Unique a) (P.Unique b) h = grind (arith, nat_tests)
is_before_by (P.Unique a) (P.Stack b) h = refl
is_before_by (P.Stack a) (P.Register b) h = absurd h
is_before_by (P.Stack a) (P.Unique b) h = absurd h
is_before_by (P.Stack a) (P.Stack b) h = before_int a b h

is_storage_by : (l : Listing) (s : ParamStorage) → IsLong l s → is_storage s ≡ true
is_storage_by l (P.Register o) h = grind (arith, nat_tests)
is_storage_by l (P.Unique o) h = grind (arith, nat_tests)
is_storage_by l (P.Stack o) h =
    and_from (le_z (negsuc 2147483647) o) (lt_z o (pos 2147483648)) (least_int (negsuc 2147483647) o h.0.0)
    (before_int o (pos 2147483648) h.0.1)

-- what stands before the first one stands before all
precedes : (p a : Atom) (atoms : List Atom) → is_before p.storage a.storage ≡ true → InOrder (a ∷ atoms)
    → precedes_all (param_for p) (params (a ∷ atoms)) ≡ true
precedes p a [] first h = ap (λ t. t && true) first
precedes p a (b ∷ atoms) first h =
    ap (λ t. t && precedes_all (param_for p) (params (b ∷ atoms))) first
    ∙ precedes p b atoms
    (before_chain p.storage a.storage b.storage first (is_before_by a.storage b.storage h.0)) h.1

precedes_rest : (a : Atom) (atoms : List Atom) → InOrder (a ∷ atoms)
    → precedes_all (param_for a) (params atoms) ≡ true
precedes_rest a [] h = refl
precedes_rest a (b ∷ atoms) h = precedes a b atoms (is_before_by a.storage b.storage h.0) h.1

rest_in_order : (a : Atom) (atoms : List Atom) → InOrder (a ∷ atoms) → InOrder atoms
rest_in_order a [] h = tt
rest_in_order a (b ∷ atoms) h = h.1

params_right_of : (l : Listing) (atoms : List Atom)
    → AreLong l atoms
    → InOrder atoms
    → are_params (params atoms) ≡ true
params_right_of l [] long order = refl
params_right_of l (a ∷ atoms) long order =
    ap (λ t. t && (precedes_all (param_for a) (params atoms) && are_params (params atoms)))
    (is_storage_by l a.storage long.0)
    ∙ ap (λ t. t && are_params (params atoms)) (precedes_rest a atoms order)
    ∙ params_right_of l atoms long.1 (rest_in_order a atoms order)

-- Parameters of atoms that stand in their order, at numbers of 64 bits or at offsets of 32 bits in the frame, are right.
pub params_right : (l : Listing) (f : Frame) (blocks : List flow_block.Block) (atoms : List Atom)
    → AreLong l atoms
    → InOrder atoms
    → are_params (plain_head l (lowered l f blocks atoms)).params ≡ true
params_right l f blocks atoms long order =
    ap are_params (plain_params l f blocks atoms) ∙ params_right_of l atoms long order
