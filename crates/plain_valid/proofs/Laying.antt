-- The code of the plain lowering can be laid out, its callees are declared as they have to be, and it has no switch.
use Rattle.std.proofs.Common.{◌≡◌, ℕ, zero, suc, ◌+◌, ◌<◌, ◌≤◌, ◌^◌, Bool, true, false, List, [], ◌∷◌, ◌++◌, length, map, Option, Some, None, refl, sym, ap, ◌∙◌, subst, arith}
use Rattle.std.specs.Prelude.{slice_get, ◌==◌, cond, not}
use Rattle.std.proofs.lemmas.Option.{slice_get_within}
use Rattle.pcode_model.specs.declared.listing.Varnode.{Varnode}
use Rattle.pcode_model.specs.declared.listing.Place.{Place}
use Rattle.pcode_model.specs.declared.listing.Listing.{Listing}
use Rattle.pcode_model.specs.declared.tables.TableAt.{TableAt}
use Rattle.pcode_model.specs.declared.atoms.Atom.{Atom}
use Rattle.pcode_model.specs.declared.flow.Exit as flow_exit
use Rattle.pcode_model.specs.declared.flow.Exit.TheVariants as F
use Rattle.pcode_model.specs.declared.flow.Block as flow_block
use Rattle.pcode_model.specs.Spaces.{or}
use Rattle.pcode_model.specs.Places.{Standing, standing}
use Rattle.pcode_model.specs.Step.{callee_at, first_place, returns as does_return}
use Rattle.pcode_model.specs.Flow.{starts_of}
use Rattle.pcode_model.specs.Memory.{Frame}
use Rattle.pcode_model.specs.WellFormed.{AreApartByName, AreNamed}
use Rattle.cmeaning.specs.declared.tree.Expr.{Expr}
use Rattle.cmeaning.specs.declared.tree.Stmt.{Stmt}
use Rattle.cmeaning.specs.declared.tree.Stmt.TheOpen.{Stmt-F}
use Rattle.cmeaning.specs.declared.tree.Stmt.TheVariants as S
use Rattle.cmeaning.specs.Callees.{returns_by}
use Rattle.cmeaning.specs.Do.{callee_of}
use Rattle.cmeaning.specs.Flat.{Do, piece_of, single}
use Rattle.cmeaning.specs.Valid.{are_callees}
use Rattle.cmeaning.proofs.Flat.{piece_of_assign, piece_of_call, piece_of_call_ind, piece_of_divide, piece_of_extra, piece_of_load, piece_of_other, piece_of_store}
use Rattle.naming.specs.Run.{returns_of}
use Rattle.blockcode.specs.declared.code.Block.{Block}
use Rattle.blockcode.specs.declared.code.Exit.{Exit}
use Rattle.blockcode.specs.declared.code.Exit.TheVariants as X
use Rattle.blockcode.specs.declared.code.Code.{Code}
use Rattle.blockcode.specs.CanLay.{AllSimple, AreSimple, CanLay, CanLeave, EndsInCall, IsSimple, any_switch, has_switch, is_switch}
use Rattle.blockcode.specs.Numbers.{ExitBelow, ExitsBelow}
use Rattle.blockcode.specs.Run.{call_returns}
use Rattle.layout.specs.Callees.{callees_of}
use Rattle.plain_valid.proofs.Callees.{AllCalled, EachCalled, IsDeclared, all_declared, called_append, called_back, called_front, called_map, callee_layer, callee_of_call, callees_right, calls_none, calls_one, declared_returns}
use Rattle.op_code.specs.declared.left.Leftover.{Leftover}
use Rattle.op_code.specs.Left.{takes_left}
use Rattle.op_code.specs.Made.{Own, ReadOne, name_of}
use Rattle.op_code.specs.Lowered.{block_made, blocks_made, condition_in, directly, lowered, place_made, place_number, places_made, ranges_of, tests, way_out}
use Rattle.op_code.specs.Lowerable.{IsLowerable}
use Rattle.op_code.proofs.Entering.{as_many, entry_found}
use Rattle.plain_valid.specs.Function.{plain_head}
use Rattle.plain_valid.specs.Long.{HasLong}
use Rattle.plain_valid.proofs.EachKind.{AllHold, Kinds}
use Rattle.plain_valid.proofs.Whole.{each_block}

-- ---- statements that lead on: each is one step, and each callee returns

-- by whether the callee at an address is declared to return
abbrev LeadOn : (ℕ → Bool) → List Stmt → Type 0
LeadOn returns [] = Unit {0}
LeadOn returns (s ∷ ss) = (IsSimple returns s × ((a : ℕ) → callee_of s ≡ Some a → returns a ≡ true)) × LeadOn returns ss

lead_append : (returns : ℕ → Bool) (xs ys : List Stmt)
    → LeadOn returns xs
    → LeadOn returns ys
    → LeadOn returns (xs ++ ys)
lead_append returns [] ys h g = g
lead_append returns (x ∷ xs) ys h g = (h.0, lead_append returns xs ys h.1 g)

-- a block ends in a call or goes on
call_leads : (xs ys : List Stmt) (e : Exit) → CanLeave ys e → call_returns (xs ++ ys) e ≡ true
call_leads [] [] (X.Return e) h = refl
call_leads [] [] (X.Jump to) h = refl
call_leads [] [] (X.Test c taken other) h = refl
call_leads [] [] (X.Switch e arms) h = refl
call_leads [] [] X.Stop h = absurd h
call_leads [] (y ∷ ys) e h = refl
call_leads (x ∷ xs) ys e h = refl

simple_behind : (returns : ℕ → Bool) (xs ys : List Stmt) (e : Exit)
    → CanLeave ys e
    → LeadOn returns xs
    → AreSimple returns ys e
    → AreSimple returns (xs ++ ys) e
simple_behind returns [] ys e can lead simple = simple
simple_behind returns (x ∷ xs) ys e can lead simple =
    ((lead.0.0, λ a is. call_leads xs ys e can ∙ sym (lead.0.1 a is)), simple_behind returns xs ys e can lead.1 simple)

ends_behind : (xs ys : List Stmt) → EndsInCall ys → EndsInCall (xs ++ ys)
ends_behind [] ys h = h
ends_behind (x ∷ []) [] h = absurd h
ends_behind (x ∷ []) (y ∷ ys) h = h
ends_behind (x ∷ z ∷ xs) ys h = ends_behind (z ∷ xs) ys h

leave_behind : (xs ys : List Stmt) (e : Exit) → CanLeave ys e → CanLeave (xs ++ ys) e
leave_behind xs ys (X.Return e) h = tt
leave_behind xs ys (X.Jump to) h = tt
leave_behind xs ys (X.Test c taken other) h = tt
leave_behind xs ys (X.Switch e arms) h = h
leave_behind xs ys X.Stop h = ends_behind xs ys h

-- ---- the kinds

module _ (l : Listing) where
  abbrev IsLow : ℕ → Type 0
  IsLow a = a < 2 ^ 64

  -- the callee at an address is declared to return where the listing's returns
  abbrev IsAs : (ℕ → Bool) → ℕ → Type 0
  IsAs returns a = returns a ≡ does_return (callee_at l a)

  -- what holds of statements that lead on
  record LaysOut (ss : List Stmt) : Type 0 where
    low : EachCalled IsLow ss
    lead : (returns : ℕ → Bool) → EachCalled (IsAs returns) ss → LeadOn returns ss

  -- and of a block, where there are so many
  record Lays (m : ℕ) (ss : List Stmt) (e : Exit) : Type 0 where
    low : EachCalled IsLow ss
    simple : (returns : ℕ → Bool) → EachCalled (IsAs returns) ss → AreSimple returns ss e
    leave : CanLeave ss e
    below : ExitBelow m e

  -- a statement that calls no address
  quiet : (s : Stmt) (leaves : Bool)
      → ((returns : ℕ → Bool) → piece_of returns s ≡ single leaves (Do s))
      → callee_of s ≡ None
      → LaysOut (s ∷ [])
  quiet s leaves piece none = record {
    low = (calls_none IsLow s none, tt);
    lead = λ returns each. (
      (
        record { leaves = leaves; piece = piece returns },
        calls_none (λ a. returns a ≡ true) s none,
      ),
      tt,
    );
  }

  lays_append : (xs ys : List Stmt) → LaysOut xs → LaysOut ys → LaysOut (xs ++ ys)
  lays_append xs ys h g = record {
    low = called_append IsLow xs ys h.low g.low;
    lead = λ returns each. lead_append returns xs ys (h.lead returns (called_front (IsAs returns) xs ys each))
        (g.lead returns (called_back (IsAs returns) xs ys each));
  }

  extras_lay : (left : List Leftover) → LaysOut (map takes_left left)
  extras_lay [] = record { low = tt; lead = λ returns each. tt }
  extras_lay (x ∷ left) =
      let v = x.variable in
      let o = x.offset in
      lays_append (S.Extra v o ∷ []) (map takes_left left)
      (quiet (S.Extra v o) false (λ returns. piece_of_extra returns v o)
      (callee_layer (S.Extra v o) (Stmt-F.Extra v o) (S.rolls-Extra v o)))
      (extras_lay left)

  simple_call : (returns : ℕ → Bool) (v : Option ℕ) (a : ℕ) (args : List Expr) → IsSimple returns (S.Call v a args)
  simple_call returns v a args =
      record { leaves = not (returns a); piece = piece_of_call returns v a args }

  call_lays : (v : Option ℕ) (a : ℕ) (args : List Expr)
      → IsLow a
      → does_return (callee_at l a) ≡ true
      → LaysOut (S.Call v a args ∷ [])
  call_lays v a args low is =
      let s = S.Call v a args in
      let calls = callee_of_call v a args in
      record {
        low = (calls_one IsLow s a calls low, tt);
        lead = λ returns each. (
          (simple_call returns v a args, calls_one (λ b. returns b ≡ true) s a calls (each.0 a calls ∙ is)),
          tt,
        );
      }

  last_lays : (m a : ℕ) (args : List Expr)
      → IsLow a
      → does_return (callee_at l a) ≡ false
      → Lays m (S.Call None a args ∷ []) X.Stop
  last_lays m a args low is =
      let s = S.Call None a args in
      let calls = callee_of_call None a args in
      record {
        low = (calls_one IsLow s a calls low, tt);
        simple = λ returns each. (
          (
            simple_call returns None a args,
            calls_one (λ b. false ≡ returns b) s a calls (sym (each.0 a calls ∙ is)),
          ),
          tt,
        );
        leave = (a, calls);
        below = tt;
      }

  before_lays : (m : ℕ) (xs ys : List Stmt) (e : Exit) → LaysOut xs → Lays m ys e → Lays m (xs ++ ys) e
  before_lays m xs ys e h g = record {
    low = called_append IsLow xs ys h.low g.low;
    simple = λ returns each. simple_behind returns xs ys e g.leave
        (h.lead returns (called_front (IsAs returns) xs ys each))
        (g.simple returns (called_back (IsAs returns) xs ys each));
    leave = leave_behind xs ys e g.leave;
    below = g.below;
  }

  lay_kinds : (ranges : List Varnode) (ws : ℕ → ℕ) (n m : ℕ) → Kinds l ranges ws n m LaysOut (Lays m)
  lay_kinds ranges ws n m = record {
    none = record { low = tt; lead = λ returns each. tt };
    append = lays_append;
    assign = λ v w d e is f. quiet (S.Assign v e) false (λ returns. piece_of_assign returns v e)
        (callee_layer (S.Assign v e) (Stmt-F.Assign v e) (S.rolls-Assign v e));
    load = λ v w s u d e is mem f.
        let x = S.Load v (name_of l s) e in
        quiet x false (λ returns. piece_of_load returns v (name_of l s) e)
        (callee_layer x (Stmt-F.Load v (name_of l s) e) (S.rolls-Load v (name_of l s) e));
    store = λ s u d w c a e mem f g.
        let x = S.Store (name_of l s) a e in
        quiet x false (λ returns. piece_of_store returns (name_of l s) a e)
        (callee_layer x (Stmt-F.Store (name_of l s) a e) (S.rolls-Store (name_of l s) a e));
    divide = λ op v w a b is f g.
        let x = S.Divide v op a b in
        quiet x false (λ returns. piece_of_divide returns v op a b)
        (callee_layer x (Stmt-F.Divide v op a b) (S.rolls-Divide v op a b));
    call = λ v a args left low is target wide all.
        lays_append (S.Call v a args ∷ []) (map takes_left left) (call_lays v a args low is) (extras_lay left);
    indirect = λ v out w to args left target f own all.
        let x = S.CallInd v to args in
        lays_append (x ∷ []) (map takes_left left)
        (quiet x false (λ returns. piece_of_call_ind returns v to args)
        (callee_layer x (Stmt-F.CallInd v to args) (S.rolls-CallInd v to args)))
        (extras_lay left);
    other = λ v out index args low target own.
        let x = S.Other v index args in
        quiet x false (λ returns. piece_of_other returns v index args)
        (callee_layer x (Stmt-F.Other v index args) (S.rolls-Other v index args));
    before = before_lays m;
    jump = λ to h. record { low = tt; simple = λ returns each. tt; leave = tt; below = h };
    test = λ c taken other f h g. record { low = tt; simple = λ returns each. tt; leave = tt; below = (h, g) };
    returns = λ given. record { low = tt; simple = λ returns each. tt; leave = tt; below = tt };
    stops = λ a args low is wide. last_lays m a args low is;
  }

  -- ---- blocks

  module _ (m : ℕ) where
    all_low : (blocks : List Block) → AllHold (Lays m) blocks → AllCalled IsLow blocks
    all_low [] h = tt
    all_low (x ∷ xs) h = (h.0.low, all_low xs h.1)

    all_simple : (returns : ℕ → Bool) (blocks : List Block)
        → AllHold (Lays m) blocks
        → AllCalled (IsAs returns) blocks
        → AllSimple returns blocks
    all_simple returns [] h each = tt
    all_simple returns (x ∷ xs) h each =
        (h.0.simple returns each.0, all_simple returns xs h.1 each.1)

    all_below : (blocks : List Block) → AllHold (Lays m) blocks → ExitsBelow m blocks
    all_below [] h = tt
    all_below (x ∷ xs) h = (h.0.below, all_below xs h.1)

    all_leave : (blocks : List Block) (n : ℕ) (x : Block)
        → AllHold (Lays m) blocks
        → slice_get blocks n ≡ Some x
        → CanLeave x.body x.exit
    all_leave [] n x h e = absurd (cc)
    all_leave (y ∷ ys) zero x h e =
        let same : y ≡ x = cc in
        let R : Block → Type 0 = λ z. CanLeave z.body z.exit in
        subst R same h.0.leave
    all_leave (y ∷ ys) (suc n) x h e = all_leave ys n x h.1 e

-- There are as many blocks of code as of the flow.
pub blocks_length : (l : Listing) (own : Place → Own) (ranges : List Varnode) (next : ℕ) (blocks : List flow_block.Block)
    → length (blocks_made l own ranges next blocks).blocks ≡ length blocks
blocks_length l own ranges next [] = refl
blocks_length l own ranges next (b ∷ blocks) =
    ap suc (blocks_length l own ranges (next + length (block_made l own ranges next b).locals) blocks)

module _
    (l : Listing)
    (t : List TableAt)
    (f : Frame)
    (blocks : List flow_block.Block)
    (atoms : List Atom)
    (form : IsLowerable l t f blocks atoms)
    (long : HasLong l t atoms)
    (few : length (lowered l f blocks atoms).variables ≤ 2 ^ 32)
  where
    abbrev code : Code
    code = lowered l f blocks atoms

    all_lay : AllHold (Lays l (length blocks)) code.blocks
    all_lay = each_block l t f blocks atoms form long few (LaysOut l) (Lays l (length blocks))
        (lay_kinds l (ranges_of l atoms) _ _ (length blocks))

    -- Each address that the code calls is a number of 64 bits.
    pub calls_low : AllCalled (λ a. a < 2 ^ 64) code.blocks
    calls_low = all_low l (length blocks) code.blocks all_lay

    -- The code can be laid out, by what its head declares of its callees.
    pub can_lay : CanLay (returns_of (plain_head l code)) code
    can_lay =
        let cs = callees_of l code in
        let starts = starts_of blocks in
        let same : length code.blocks ≡ length blocks = blocks_length l f.own (ranges_of l atoms) (length atoms) blocks in
        let R : ℕ → Type 0 = λ m. ExitsBelow m code.blocks in
        record {
          numbers = record {
            few = omega (arith, same, form.few);
            entry = omega (
              arith,
              slice_get_within starts (place_number starts (first_place l)) (first_place l)
                  (entry_found l t blocks form.flow),
              as_many l t starts blocks form.flow.run,
              same,
            );
            exits = subst R (sym same) (all_below l (length blocks) code.blocks all_lay);
          };
          simple = all_simple l (length blocks) (returns_of (plain_head l code)) code.blocks all_lay
              (called_map (IsDeclared l cs) (λ a. returns_by cs a ≡ does_return (callee_at l a))
              (declared_returns l cs) code.blocks (all_declared l code));
          leaves = λ n x e. all_leave l (length blocks) code.blocks n x all_lay e;
        }

    -- The declarations of its head are such as a function has, where the listing's names have their form and differ.
    pub plain_callees : AreNamed l → AreApartByName l → are_callees (plain_head l code).callees ≡ true
    plain_callees named distinct = callees_right l named distinct code calls_low

-- ---- no switch

module _ (l : Listing) (own : Place → Own) (ranges : List Varnode) where
  no_switch_by : (next : ℕ) (here : Standing) (e : flow_exit.Exit)
      → is_switch (way_out l ranges next here e).exit ≡ false
  no_switch_by next here F.Return = refl
  no_switch_by next here (F.Jump n) = refl
  no_switch_by next here (F.Test m n) = by (condition_in l ranges next here) (m == n) where
    by : (c : ReadOne) (same : Bool) → is_switch (cond same (directly (X.Jump m)) (tests c m n)).exit ≡ false
    by c true = refl
    by c false = refl
  no_switch_by next here (F.Switch t ns) = refl
  no_switch_by next here F.Stop = refl

  no_switch_of : (next : ℕ) (ps : List Place) (e : flow_exit.Exit)
      → is_switch (places_made l own ranges next ps e).block.exit ≡ false
  no_switch_of next [] e = refl
  no_switch_of next (p ∷ []) e =
      no_switch_by (next + length (place_made l own ranges next p).locals) (standing l p) e
  no_switch_of next (p ∷ q ∷ ps) e =
      no_switch_of (next + length (place_made l own ranges next p).locals) (q ∷ ps) e

  none_switches : (next : ℕ) (blocks : List flow_block.Block)
      → any_switch (blocks_made l own ranges next blocks).blocks ≡ false
  none_switches next [] = refl
  none_switches next (b ∷ blocks) =
      let free = next + length (block_made l own ranges next b).locals in
      ap (λ t. or t (any_switch (blocks_made l own ranges free blocks).blocks)) (no_switch_of next b.places b.exit)
      ∙ none_switches free blocks

-- The code has no switch.
pub no_switch : (l : Listing) (f : Frame) (blocks : List flow_block.Block) (atoms : List Atom)
    → has_switch (lowered l f blocks atoms) ≡ false
no_switch l f blocks atoms = none_switches l f.own (ranges_of l atoms) (length atoms) blocks
