-- The statements of the plain lowering fit its listing, and so do the parameters.
use Rattle.std.proofs.Common.{◌≡◌, ℕ, suc, ◌+◌, ◌≤◌, ◌^◌, Bool, true, false, List, [], ◌∷◌, length, map, Option, Some, None, refl, sym, ap, ◌∙◌, subst, arith}
use Rattle.std.specs.Prelude.{◌==◌, ◌&&◌, cond, not, slice_get, IsSome}
use Rattle.std.specs.List.{AllByRecursion}
use Rattle.std.proofs.lemmas.Bool.Decides.{nat_tests}
use Rattle.pcode_model.specs.declared.atoms.Atom.{Atom}
use Rattle.pcode_model.specs.declared.flow.Block as flow_block
use Rattle.pcode_model.specs.declared.listing.Listing.{Listing}
use Rattle.pcode_model.specs.declared.listing.SpaceKind.TheVariants.{Ram}
use Rattle.pcode_model.specs.declared.listing.Varnode.{Varnode}
use Rattle.pcode_model.specs.declared.storage.ParamStorage.{ParamStorage}
use Rattle.pcode_model.specs.declared.storage.ParamStorage.TheVariants as P
use Rattle.pcode_model.specs.declared.tables.TableAt.{TableAt}
use Rattle.pcode_model.specs.Memory.{Frame}
use Rattle.pcode_model.specs.Ranges.{is_kind}
use Rattle.pcode_model.specs.Spaces.{first_ram, is_some, kind_of, register_space, same_kind, size_of}
use Rattle.range_words.specs.Ranges.{IsInside}
use Rattle.cmeaning.specs.declared.tree.Expr.{Expr}
use Rattle.cmeaning.specs.declared.tree.Stmt.{Stmt}
use Rattle.cmeaning.specs.declared.tree.Stmt.TheOpen.{Stmt-F}
use Rattle.cmeaning.specs.declared.tree.Stmt.TheVariants as S
use Rattle.cmeaning.specs.Do.{accessed}
use Rattle.cmeaning.specs.Fits.{lies_in, names_ram, params_fit, storage_fits}
use Rattle.blockcode.specs.declared.code.Block.{Block}
use Rattle.blockcode.specs.declared.code.Exit.{Exit}
use Rattle.naming.specs.Run.{widths_of}
use Rattle.layout.specs.Fitting.{BlocksFit, BodyFits}
use Rattle.layout.specs.Function.{params_of}
use Rattle.layout.proofs.Fitting.{append_fits, fits_layer, one_fits}
use Rattle.op_values.proofs.Means.{nearest_is}
use Rattle.op_code.specs.declared.left.Leftover.{Leftover}
use Rattle.op_code.specs.Left.{takes_left}
use Rattle.op_code.specs.Made.{name_in, name_of}
use Rattle.op_code.specs.Form.{IsMemory}
use Rattle.op_code.specs.Lowered.{lowered, range_at, range_of, ranges_of, variable_for}
use Rattle.op_code.specs.Lowerable.{AreNarrow, IsLowerable}
use Rattle.plain_valid.specs.Function.{plain_head}
use Rattle.plain_valid.specs.Long.{AreLong, HasLong, IsLong}
use Rattle.plain_valid.proofs.EachKind.{AllHold, IsLeft, Kinds}
use Rattle.plain_valid.proofs.Suits.{below_head}
use Rattle.plain_valid.proofs.Valid.{plain_params}

-- ---- spaces that statements name

-- a name other than the first ram space's names a ram space
named_by : (l : Listing) (s : ℕ) (name : List ℕ) (t : Bool)
    → (s == first_ram l) ≡ t
    → kind_of l s ≡ Ram
    → accessed l (cond t None (Some name)) ≡ s
    → names_ram l (cond t None (Some name)) ≡ true
named_by l s name true e ram is = refl
named_by l s name false e ram is =
    let R : ℕ → Type 0 = λ k. (is_kind Ram l.spaces k && not (k == first_ram l)) ≡ true in
    subst R (sym is)
    (ap (λ k. same_kind Ram k && not (s == first_ram l)) ram ∙ ap (λ b. not b) e)

space_fits : (l : Listing) (s : ℕ) → IsMemory l s → names_ram l (name_of l s) ≡ true
space_fits l s is = named_by l s (name_in (slice_get l.spaces s)) (s == first_ram l) refl is.ram is.name

-- ---- statements

module _ (l : Listing) (ws : ℕ → ℕ) where
  abbrev Fit : List Stmt → Type 0
  Fit ss = BodyFits l ws ss

  abbrev BlockFit : List Stmt → Exit → Type 0
  BlockFit ss e = BodyFits l ws ss

  -- bytes that a call left in registers lie in their space
  extras_fit : (n : ℕ) (left : List Leftover) → AllByRecursion (IsLeft l ws n) left → Fit (map takes_left left)
  extras_fit n [] all = refl
  extras_fit n (x ∷ left) all =
      let v = x.variable in
      let o = x.offset in
      let s = S.Extra v o in
      let inside : o + ws v ≤ size_of l (register_space l) = omega (arith, all.0.is.width, all.0.inside) in
      let lies : lies_in l (register_space l) o (ws v) ≡ true = grind (arith, nat_tests) in
      append_fits l ws (s ∷ []) (map takes_left left)
      (one_fits l ws s (fits_layer l ws s (Stmt-F.Extra v o) (S.rolls-Extra v o) ∙ lies)) (extras_fit n left all.1)

  call_fits : (v : Option ℕ) (a : ℕ) (args : List Expr) → Fit (S.Call v a args ∷ [])
  call_fits v a args =
      let s = S.Call v a args in
      one_fits l ws s (fits_layer l ws s (Stmt-F.Call v a args) (S.rolls-Call v a args))

  fit_kinds : (ranges : List Varnode) (n m : ℕ) → Kinds l ranges ws n m Fit BlockFit
  fit_kinds ranges n m = record {
    none = refl;
    append = append_fits l ws;
    assign = λ v w d e is f. one_fits l ws (S.Assign v e)
        (fits_layer l ws (S.Assign v e) (Stmt-F.Assign v e) (S.rolls-Assign v e));
    load = λ v w s u d e is mem f.
        let x = S.Load v (name_of l s) e in
        one_fits l ws x
        (fits_layer l ws x (Stmt-F.Load v (name_of l s) e) (S.rolls-Load v (name_of l s) e) ∙ space_fits l s mem);
    store = λ s u d w c a e mem f g.
        let x = S.Store (name_of l s) a e in
        one_fits l ws x
        (fits_layer l ws x (Stmt-F.Store (name_of l s) a e) (S.rolls-Store (name_of l s) a e) ∙ space_fits l s mem);
    divide = λ op v w a b is f g. one_fits l ws (S.Divide v op a b)
        (fits_layer l ws (S.Divide v op a b) (Stmt-F.Divide v op a b) (S.rolls-Divide v op a b));
    call = λ v a args left low is target wide all.
        append_fits l ws (S.Call v a args ∷ []) (map takes_left left) (call_fits v a args) (extras_fit n left all);
    indirect = λ v out w to args left target f own all.
        let x = S.CallInd v to args in
        append_fits l ws (x ∷ []) (map takes_left left)
        (one_fits l ws x (fits_layer l ws x (Stmt-F.CallInd v to args) (S.rolls-CallInd v to args)))
        (extras_fit n left all);
    other = λ v out index args low target own.
        let x = S.Other v index args in
        one_fits l ws x (fits_layer l ws x (Stmt-F.Other v index args) (S.rolls-Other v index args));
    before = λ xs ys e f g. append_fits l ws xs ys f g;
    jump = λ to below. refl;
    test = λ c taken other f low high. refl;
    returns = λ given. refl;
    stops = λ a args low is wide. call_fits None a args;
  }

  all_fit : (xs : List Block) → AllHold BlockFit xs → BlocksFit l ws xs
  all_fit [] all = tt
  all_fit (x ∷ xs) all = (all.0, all_fit xs all.1)

-- The statements name no spaces but ram spaces of the listing, and take bytes of its register space.
pub plain_body_fits : (l : Listing) (t : List TableAt) (f : Frame) (blocks : List flow_block.Block) (atoms : List Atom)
    → IsLowerable l t f blocks atoms
    → HasLong l t atoms
    → length (lowered l f blocks atoms).variables ≤ 2 ^ 32
    → BlocksFit l (widths_of (plain_head l (lowered l f blocks atoms))) (lowered l f blocks atoms).blocks
plain_body_fits l t f blocks atoms form long few =
    let h = plain_head l (lowered l f blocks atoms) in
    let ws = widths_of h in
    all_fit l ws (lowered l f blocks atoms).blocks
    (below_head l t f blocks atoms (Fit l ws) (BlockFit l ws) form long few
    (fit_kinds l ws (ranges_of l atoms) _ (length blocks)))

-- ---- parameters

in_space : (l : Listing) (s : ParamStorage) (k : ℕ)
    → IsLong l s
    → IsInside l (range_at l s k)
    → storage_fits l k s ≡ true
in_space l (P.Register o) k long inside = grind (arith, nat_tests)
in_space l (P.Unique o) k long inside = grind (arith, nat_tests)
in_space l (P.Stack o) k long inside = by l.stack long.1 where
  by : (o : Option Varnode) → IsSome o → is_some o ≡ true
  by None some = absurd (cc)
  by (Some sp) some = refl

in_spaces : (l : Listing) (atoms : List Atom)
    → AreNarrow atoms
    → AreLong l atoms
    → ((n : ℕ) (v : Varnode) → slice_get (ranges_of l atoms) n ≡ Some v → IsInside l v)
    → params_fit l (params_of (map variable_for atoms)) ≡ true
in_spaces l [] narrow long inside = refl
in_spaces l (a ∷ atoms) narrow long inside =
    let width = nearest_is a.size narrow.0.0 narrow.0.1 in
    ap (λ n. storage_fits l n a.storage && params_fit l (params_of (map variable_for atoms))) width
    ∙ ap (λ b. b && params_fit l (params_of (map variable_for atoms)))
    (in_space l a.storage a.size long.0 (inside 0 (range_of l a) refl))
    ∙ in_spaces l atoms narrow.1 long.1 (λ n. inside (suc n))

-- The parameters lie in their spaces.
pub plain_params_fit : (l : Listing) (t : List TableAt) (f : Frame) (blocks : List flow_block.Block) (atoms : List Atom)
    → IsLowerable l t f blocks atoms
    → HasLong l t atoms
    → params_fit l (plain_head l (lowered l f blocks atoms)).params ≡ true
plain_params_fit l t f blocks atoms form long =
    ap (params_fit l) (plain_params l f blocks atoms) ∙ in_spaces l atoms form.narrow long.storages form.table.inside
