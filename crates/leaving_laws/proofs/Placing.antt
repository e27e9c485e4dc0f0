-- The function with copies and its code with constants where they are read show the same: a value is seen as its
-- constant or its variable all along.
use Rattle.std.proofs.Common.{◌≡◌, ℕ, zero, suc, ◌<◌, Bool, true, false, cond, List, [], ◌∷◌, ◌++◌, ◌⊎◌, inl, inr, length, map, Option, Some, None, refl, sym, ap, ◌∙◌, subst, slice_get, arith, true≢false}
use Rattle.std.specs.Prelude.{◌==◌, nat_lt, option_map}
use Rattle.std.specs.List.{flat_map}
use Rattle.std.proofs.lemmas.Bool.{cases_eq, lt-ltb, ltb-true}
use Rattle.std.proofs.lemmas.List.{length-append, append-nil}
use Rattle.std.proofs.lemmas.Option.{slice_get_past, slice_get-map}
use Rattle.heap_nodes.proofs.Places.{some_same, none_some}
use Rattle.bits_core.specs.declared.word.Width.{Width}
use Rattle.bits_core.specs.declared.word.Word.{Word}
use Rattle.machine.specs.TwoWay.{TwoWay}
use Rattle.machine.proofs.TwoWay.{two_way_to}
use Rattle.pcode_model.specs.declared.listing.Listing.{Listing}
use Rattle.pcode_model.specs.World.{Entry}
use Rattle.cmeaning.specs.declared.tree.Expr.{Expr}
use Rattle.cmeaning.specs.declared.tree.Expr.TheVariants as E
use Rattle.cmeaning.specs.declared.tree.Stmt.{Stmt}
use Rattle.cmeaning.specs.declared.tree.Stmt.TheVariants as S
use Rattle.cmeaning.specs.Value.{width_of, value_of}
use Rattle.cmeaning.proofs.Value.{value_of_var, width_of_const, width_of_var}
use Rattle.blockcode.specs.declared.code.Exit.{Exit}
use Rattle.blockcode.specs.declared.code.Exit.TheVariants as C
use Rattle.blockcode.specs.Run.{call_returns, seen_code}
use Rattle.blockcode.proofs.Straight.{get_in_front}
use Rattle.parts.specs.Exprs.{reads}
use Rattle.parts.specs.Stmts.{action_of, target_of, map_target, changed, IsAssign}
use Rattle.parts.proofs.Nodes.{reads_const, with_const}
use Rattle.parts.proofs.Values.{var_unread, with_itself}
use Rattle.parts.proofs.Parts.{changed_is}
use Rattle.edges.specs.Exits.{exit_args, exit_with, Onto, leads}
use Rattle.edges.specs.Run.{Blocks, stmts_of, exit_of, stmts_at, exit_at, seen_blocks, blocks_of_code}
use Rattle.edges.specs.Live.{EndsInCall, IsLeftOf, IsDefined}
use Rattle.edges.specs.Follow.{Link, Needs, In, Copy, copies_of, laid, NothingKnown, IsQuiet, SourceDoes, Follows, Ends, Kept, Gone, StandsFor}
use Rattle.edges.specs.Leave.{input}
use Rattle.edges.proofs.Follow.{shows_the_same, target_defined}
use Rattle.edges.proofs.Codes.{seen_is}
use Rattle.edges.proofs.Returns.{KeepsCalls, Nothing, Both, Less, left_behind, returns_kept, quiet_no_call}
use Rattle.edges.proofs.Steps.{Carried, KeepsStmt, both_do, source_assigns, KeepsExit, both_leave, exit_with_args, exit_with_leads, moved_own}
use Rattle.node_lists.specs.Chains.{IsIn}
use Rattle.node_lists.specs.Families.{list_slot}
use Rattle.node_lists.proofs.Chains.{eqb_is}
use Rattle.opgraph.specs.Graph.{OpRow, op_at, block_at, IsWhole}
use Rattle.ssa_model.specs.declared.form.Parts.{Parts}
use Rattle.ssa_model.specs.Roles.{Role, Constant, role_of}
use Rattle.ssa_model.specs.Outline.{bytes_of, form, ids, only, multis_of, block_with, exit_in, targets_in}
use Rattle.ssa_model.specs.declared.form.SsaBlock.{SsaBlock}
use Rattle.ssa_model.specs.Drops.{is_in}
use Rattle.ssa_model.specs.Lines.{block_by}
use Rattle.ssa_model.specs.Edits.{IsSsa}
use Rattle.ssa_model.specs.Run.{blocks_of, first_by, first_word}
use Rattle.leaving_laws.specs.Values.{fresh, variable_width}
use Rattle.leaving_laws.specs.Copied.{heads_of, up_to, onward_of, next_of, copied_blocks}
use Rattle.leaving_laws.specs.Left.{held_numbers, name_of, constant_by, constant_in, seen_by, seen_value, is_word, sets_constant, placed, placed_block, placed_code}
use Rattle.leaving_laws.proofs.Sound.{is_block, function_sound}
use Rattle.leaving_laws.proofs.Heads.{in_next}
use Rattle.leaving_laws.proofs.Leads.{leads_named}
use Rattle.leaving_laws.proofs.Places.{HasPlace, same_place, width_low, width_there, first_there}
use Rattle.leaving_laws.proofs.Fitting.{Fits, AllFit, exit_fits, block_fits}

-- ---- constants

constant_width : (role : Role) (o : Option Width) (w : Word) → constant_by role o ≡ Some w → bytes_of o ≡ w.width.bytes
constant_width (Constant n) (Some u) w is = ap (λ (z : Word). z.width.bytes) (some_same is)
constant_width (Constant n) None w is = none_some is
constant_width role o w is = none_some is

constant_first : (l : Listing) (e : Entry) (k : ℕ) (role : Role) (o : Option Width) (w : Word)
    → constant_by role o ≡ Some w
    → first_by l e k role ≡ None
constant_first l e k (Constant n) o w is = refl
constant_first l e k role o w is = none_some is

-- ---- exits

returns_with : (f : ℕ → Expr) (rest : List Stmt) (x : Exit) → call_returns rest x ≡ call_returns rest (exit_with f x)
returns_with f [] (C.Return None) = refl
returns_with f [] (C.Return (Some e)) = refl
returns_with f [] (C.Jump c) = refl
returns_with f [] (C.Test e c d) = refl
returns_with f [] (C.Switch e arms) = refl
returns_with f [] C.Stop = refl
returns_with f (a ∷ rest) x = refl

-- ---- lists

nothing_kept : (xs : List ℕ) → only (λ (c : ℕ). is_in c []) xs ≡ []
nothing_kept [] = refl
nothing_kept (x ∷ xs) = nothing_kept xs

with_in : (b : ℕ) (bs : List SsaBlock) (z : SsaBlock) → block_with b bs ≡ Some z → IsIn b (ids bs)
with_in b [] z is = none_some is
with_in b (y ∷ bs) z is = by_same (y.id.0 == b) refl is (with_in b bs z)
  where
    by_same : (c : Bool)
        → (y.id.0 == b) ≡ c
        → cond c (Some y) (block_with b bs) ≡ Some z
        → (block_with b bs ≡ Some z → IsIn b (ids bs))
        → IsIn b (y.id.0 ∷ ids bs)
    by_same true same h next = inl (sym (eqb_is y.id.0 b same))
    by_same false same h next = inr (next h)

ends_laid : (cs : List Copy) (rest : List Stmt) → EndsInCall rest → EndsInCall (laid cs rest)
ends_laid [] rest h = h
ends_laid (c ∷ cs) rest h = behind (laid cs rest) (ends_laid cs rest h)
  where
    behind : (bs : List Stmt) → EndsInCall bs → EndsInCall (S.Assign c.0 c.1 ∷ bs)
    behind [] k = absurd k
    behind (b ∷ bs) k = k

nowhere : (c : ℕ) (ns : List ℕ) → leads C.Stop ns ≡ Onto c → ⊥
nowhere c ns q = cc

-- ---- numbers

length_up : (n : ℕ) → length (up_to n) ≡ n
length_up zero = refl
length_up (suc n) = let h = length_up n in length-append (up_to n) (n ∷ []) ∙ omega (arith, h)

at_end : (xs : List ℕ) (y : ℕ) → slice_get (xs ++ y ∷ []) (length xs) ≡ Some y
at_end [] y = refl
at_end (x ∷ xs) y = at_end xs y

number_there : (n b : ℕ) → b < n → slice_get (up_to n) b ≡ Some b
number_there zero b h = absurd (omega (arith, h))
number_there (suc n) b h = by_case (cases_eq b n) (number_there n b)
  where
    by_case : (b ≡ n) ⊎ (b ≡ n → ⊥)
        → (b < n → slice_get (up_to n) b ≡ Some b)
        → slice_get (up_to n ++ n ∷ []) b ≡ Some b
    by_case (inl q) next =
        ap (slice_get (up_to n ++ n ∷ [])) (q ∙ sym (length_up n)) ∙ at_end (up_to n) n ∙ ap Some (sym q)
    by_case (inr q) next = get_in_front (up_to n) (n ∷ []) b b (next (grind (arith, h, q)))

module _ (l : Listing) (p : Parts) (e : Entry) (whole : IsWhole p.graph) (ssa : IsSsa (form p)) where
  abbrev m : Blocks
  m = copied_blocks l p

  abbrev t : Blocks
  t = blocks_of_code (placed_code l p)

  abbrev f : ℕ → Expr
  f = seen_value p

  abbrev Placed : ℕ → Type 0
  Placed v = HasPlace l p e whole ssa v

  abbrev link : Link
  link = record { source = m; target = t; to = λ b. b; at = λ b. seen_value p }

  abbrev needs : Needs
  needs b rest v = Placed v

  -- ---- what a value is seen as

  as_constant : (v : ℕ) (w : Word) → constant_in (op_at p.graph v) ≡ Some w → f v ≡ E.Const w
  as_constant v w is = ap (λ o. seen_by o (name_of p v)) is

  as_variable : (v : ℕ) → constant_in (op_at p.graph v) ≡ None → f v ≡ E.Var (name_of p v)
  as_variable v is = ap (λ o. seen_by o (name_of p v)) is

  held : (v : ℕ) → constant_in (op_at p.graph v) ≡ None → Placed v → IsIn v (held_numbers p)
  held v is (inl m) = m
  held v is (inr c) = none_some (sym is ∙ c.1)

  word_width : (v : ℕ) (w : Word) → constant_in (op_at p.graph v) ≡ Some w → variable_width p v ≡ w.width.bytes
  word_width v w c = by_row (op_at p.graph v) refl c
    where
      by_row : (o : Option OpRow)
          → op_at p.graph v ≡ o
          → constant_in o ≡ Some w
          → variable_width p v ≡ w.width.bytes
      by_row None is h = none_some h
      by_row (Some r) is h =
          width_low l p e whole ssa v r is ∙ constant_width (role_of r.code) r.width w h

  width_seen : (v : ℕ) → Placed v → width_of t.widths (f v) ≡ m.widths v
  width_seen v need = by_word (constant_in (op_at p.graph v)) refl
    where
      by_word : (o : Option Word) → constant_in (op_at p.graph v) ≡ o → width_of t.widths (f v) ≡ m.widths v
      by_word None is =
          ap (width_of t.widths) (as_variable v is)
          ∙ width_of_var t.widths (name_of p v)
          ∙ width_there l p e whole ssa v (held v is need)
      by_word (Some w) is =
          ap (width_of t.widths) (as_constant v w is)
          ∙ width_of_const t.widths w
          ∙ sym (word_width v w is)

  first_seen : (g : Entry) (v n : ℕ) → Placed v → m.first l g v ≡ Some n → value_of t.widths (t.first l g) (f v) ≡ Some n
  first_seen g v n need h = by_word (constant_in (op_at p.graph v)) refl
    where
      no_word : (w : Word) (o : Option OpRow) → constant_in o ≡ Some w → first_word l g o ≡ Some n → ⊥
      no_word w None c q = none_some c
      no_word w (Some r) c q =
          none_some (sym (constant_first l g (bytes_of r.width) (role_of r.code) r.width w c) ∙ q)

      by_word : (o : Option Word)
          → constant_in (op_at p.graph v) ≡ o
          → value_of t.widths (t.first l g) (f v) ≡ Some n
      by_word None is =
          ap (value_of t.widths (t.first l g)) (as_variable v is)
          ∙ value_of_var t.widths (t.first l g) (name_of p v)
          ∙ first_there l p e whole ssa v (held v is need) g
          ∙ h
      by_word (Some w) is = absurd (no_word w (op_at p.graph v) is h)

  -- ---- statements

  -- a statement is left out, or it stays over the code's variables
  data Step (a : Stmt) (rest : List Stmt) : Type 0 where
    Drops : (x : ℕ) (w : Word)
        → target_of a ≡ Some x
        → constant_in (op_at p.graph x) ≡ Some w
        → placed p (a ∷ rest) ≡ placed p rest
        → Step a rest
    Stays : ((x : ℕ) → target_of a ≡ Some x → constant_in (op_at p.graph x) ≡ None)
        → placed p (a ∷ rest) ≡ changed (name_of p) f a ∷ placed p rest
        → Step a rest

  abbrev chosen : Stmt → List Stmt → Bool → List Stmt
  chosen a rest c = cond c (placed p rest) (changed (name_of p) f a ∷ placed p rest)

  step_of : (a : Stmt) (rest : List Stmt) → Step a rest
  step_of a rest = by_target (target_of a) refl
    where
      by_word : (x : ℕ) (o : Option Word) → target_of a ≡ Some x → constant_in (op_at p.graph x) ≡ o → Step a rest
      by_word x None is c =
          Stays (λ y h. ap (λ z. constant_in (op_at p.graph z)) (some_same (sym h ∙ is)) ∙ c)
          (ap (λ z. chosen a rest (sets_constant p z)) is ∙ ap (λ z. chosen a rest (is_word z)) c)
      by_word x (Some w) is c =
          Drops x w is c (ap (λ z. chosen a rest (sets_constant p z)) is ∙ ap (λ z. chosen a rest (is_word z)) c)

      by_target : (o : Option ℕ) → target_of a ≡ o → Step a rest
      by_target None is = Stays (λ y h. none_some (sym is ∙ h)) (ap (λ z. chosen a rest (sets_constant p z)) is)
      by_target (Some x) is = by_word x (constant_in (op_at p.graph x)) is refl

  quiet_constant : (a : Stmt) (x : ℕ) (w : Word) → IsAssign x (E.Const w) a → IsQuiet (action_of a)
  quiet_constant a x w is = subst IsQuiet (sym is.action) tt

  calls_stay : (rest : List Stmt) → AllFit l p e whole ssa rest → KeepsCalls rest (placed p rest)
  calls_stay [] fit = Nothing
  calls_stay (a ∷ rest) fit = by_step (step_of a rest) (calls_stay rest fit.1)
    where
      by_step : Step a rest → KeepsCalls rest (placed p rest) → KeepsCalls (a ∷ rest) (placed p (a ∷ rest))
      by_step (Drops x w is c same) next =
          subst (KeepsCalls (a ∷ rest)) (sym same)
          (Less a rest (placed p rest) (quiet_no_call a (quiet_constant a x w (fit.0.constant x w is c))) next)
      by_step (Stays plain same) next =
          subst (KeepsCalls (a ∷ rest)) (sym same) (Both a (changed (name_of p) f a) rest (placed p rest) next)

  -- ---- blocks

  abbrev count : ℕ
  count = length p.graph.blocks

  block_there : (b : ℕ) → b < count → t.block b ≡ Some (placed_block l p b)
  block_there b low = slice_get-map (placed_block l p) (up_to count) b ∙ ap (option_map (placed_block l p)) (number_there count b low)

  no_block : (b : ℕ) → (b < count → ⊥) → t.block b ≡ None
  no_block b high =
      slice_get-map (placed_block l p) (up_to count) b
      ∙ ap (option_map (placed_block l p))
      (slice_get_past (up_to count) b (let n = length_up count in grind (arith, n, high)))

  -- a number of no block has no ops and leads nowhere
  record Outside (b : ℕ) : Type 0 where
    stmts : stmts_at m b ≡ []
    exit : exit_at m b ≡ C.Stop

  outside : (b : ℕ) → (b < count → ⊥) → Outside b
  outside b high = by_blocks (block_with b p.blocks) refl
    where
      empty : block_at p.graph b ≡ []
      empty = ap list_slot (slice_get_past p.graph.blocks b (grind (arith, high)))

      by_blocks : (o : Option SsaBlock) → block_with b p.blocks ≡ o → Outside b
      by_blocks None at =
          let heads : heads_of p b ≡ [] = ap (multis_of (op_at p.graph)) empty in
          let onward : onward_of p b ≡ [] =
          ap (λ o. only (λ c. is_in c (targets_in o)) (up_to count)) at ∙ nothing_kept (up_to count) in
          let next : next_of p b ≡ [] = ap (flat_map (λ (c : ℕ). map (λ (v : ℕ). (c, v)) (heads_of p c))) onward in
          let stmts : stmts_at (blocks_of l p) b ≡ [] =
          ap (λ o. stmts_of (block_by l p.graph b (exit_in o))) at in
          record {
            stmts = λ i.
                laid (copies_of (λ v. v) (fresh p) (heads i))
                (stmts i ++ laid (copies_of (λ (x : ℕ × ℕ). fresh p x.1) (input (blocks_of l p) b) (next i)) []);
            exit = ap (λ o. exit_of (block_by l p.graph b (exit_in o))) at;
          }
      by_blocks (Some z) at = absurd (high ((ssa.formed.all b).0 (with_in b p.blocks z at)))

  stmts_there : (b : ℕ) → stmts_at t b ≡ placed p (stmts_at m b)
  stmts_there b = by_low (nat_lt b count) refl
    where
      by_low : (c : Bool) → nat_lt b count ≡ c → stmts_at t b ≡ placed p (stmts_at m b)
      by_low true is = ap stmts_of (block_there b (ltb-true b count is))
      by_low false is =
          let high = λ (h : b < count). true≢false (sym (lt-ltb b count h) ∙ is) in
          ap stmts_of (no_block b high) ∙ sym (ap (placed p) (outside b high).stmts)

  exit_there : (b : ℕ) → exit_at t b ≡ exit_with f (exit_at m b)
  exit_there b = by_low (nat_lt b count) refl
    where
      by_low : (c : Bool) → nat_lt b count ≡ c → exit_at t b ≡ exit_with f (exit_at m b)
      by_low true is = ap exit_of (block_there b (ltb-true b count is))
      by_low false is =
          let high = λ (h : b < count). true≢false (sym (lt-ltb b count h) ∙ is) in
          ap exit_of (no_block b high) ∙ sym (ap (exit_with f) (outside b high).exit)

  -- before the exit Stop stands a call
  stop_left : (b : ℕ) → exit_at m b ≡ C.Stop → IsLeftOf (stmts_at m b)
  stop_left b stop = by_low (nat_lt b count) refl
    where
      no_next : (xs : List (ℕ × ℕ)) → next_of p b ≡ xs → xs ≡ []
      no_next [] is = refl
      no_next (x ∷ xs) is =
          let h = in_next p whole b x (subst (In x) (sym is) (inl refl)) in
          let to = leads_named l p whole ssa b x.0 h.0 in
          absurd (nowhere x.0 to.0 (ap (λ z. leads z to.0) (sym stop) ∙ to.1))

      by_low : (c : Bool) → nat_lt b count ≡ c → IsLeftOf (stmts_at m b)
      by_low true is =
          let call = (function_sound l p e whole ssa).stops b (is_block l p e whole ssa b (ltb-true b count is)) stop in
          let more = λ (xs : List (ℕ × ℕ)).
          laid (copies_of (λ (x : ℕ × ℕ). fresh p x.1) (input (blocks_of l p) b) xs) [] in
          inl (ends_laid (copies_of (λ v. v) (fresh p) (heads_of p b)) (stmts_at (blocks_of l p) b ++ more (next_of p b))
          (subst (λ z. EndsInCall (stmts_at (blocks_of l p) b ++ z)) (sym (ap more (no_next (next_of p b) refl)))
          (subst EndsInCall (sym (append-nil (stmts_at (blocks_of l p) b))) call)))
      by_low false is =
          let high = λ (h : b < count). true≢false (sym (lt-ltb b count h) ∙ is) in
          inr (outside b high).stmts

  -- ---- steps

  none_read : (w : Word) (v : ℕ) → 0 < reads (E.Const w) v → ⊥
  none_read w v h = let none = reads_const w v in omega (arith, h, none)

  -- what is seen of another variable isn't changed
  unread : (v x : ℕ)
      → Placed v
      → IsIn x (held_numbers p)
      → (v ≡ x → ⊥)
      → reads (f v) (name_of p x) ≡ 0
  unread v x need among other = by_word (constant_in (op_at p.graph v)) refl
    where
      by_word : (o : Option Word) → constant_in (op_at p.graph v) ≡ o → reads (f v) (name_of p x) ≡ 0
      by_word None is =
          ap (λ u. reads u (name_of p x)) (as_variable v is)
          ∙ var_unread (name_of p v) (name_of p x)
          (λ q. other (same_place v x (held_numbers p) (held v is need) among q))
      by_word (Some w) is = ap (λ u. reads u (name_of p x)) (as_constant v w is) ∙ reads_const w (name_of p x)

  carries : (i : Option ℕ) (v : ℕ)
      → ((x : ℕ) → i ≡ Some x → IsIn x (held_numbers p) × (constant_in (op_at p.graph x) ≡ None))
      → Placed v
      → Carried m.widths t.widths Placed f f i (map_target (name_of p) i) v
  carries None v into need = inr ((λ q. none_some q), need, refl, λ y q. none_some q)
  carries (Some x) v into need = by_case (cases_eq x v)
    where
      by_case : (x ≡ v) ⊎ (x ≡ v → ⊥) → Carried m.widths t.widths Placed f f (Some x) (Some (name_of p x)) v
      by_case (inl q) =
          let plain = ap (λ z. constant_in (op_at p.graph z)) (sym q) ∙ (into x refl).1 in
          inl (
            name_of p v,
            ap Some q,
            ap (λ z. Some (name_of p z)) q,
            sym (width_there l p e whole ssa v (held v plain need)),
            as_variable v plain,
          )
      by_case (inr n) =
          inr (
            (λ q. n (some_same q)),
            need,
            refl,
            λ y q. subst (λ z. reads (f v) z ≡ 0) (some_same q) (unread v x need (into x refl).0 (λ r. n (sym r))),
          )

  drops : (b : ℕ) (a : Stmt) (rest : List Stmt) (x : ℕ) (w : Word)
      → Fits l p e whole ssa a
      → target_of a ≡ Some x
      → constant_in (op_at p.graph x) ≡ Some w
      → SourceDoes l link needs NothingKnown b f f a rest (placed p rest)
  drops b a rest x w fit is c =
      source_assigns link needs NothingKnown b l f f x (E.Const w) a rest (placed p rest) (fit.constant x w is c)
      (quiet_constant a x w (fit.constant x w is c)) (λ v r. absurd (none_read w v r)) (λ v r. absurd (none_read w v r))
      (as_constant x w c ∙ sym (with_const f w)) (λ v need other. (need, refl))

  stays : (b : ℕ) (a : Stmt) (rest : List Stmt)
      → Fits l p e whole ssa a
      → AllFit l p e whole ssa rest
      → ((x : ℕ) → target_of a ≡ Some x → constant_in (op_at p.graph x) ≡ None)
      → (exit_at m b ≡ C.Stop → IsLeftOf rest)
      → KeepsStmt link needs b f f a (changed (name_of p) f a) rest (placed p rest)
  stays b a rest fit fits plain left =
      let is = changed_is (name_of p) f a in
      record {
        action = sym is.action;
        returns = λ c q.
            returns_kept rest (placed p rest) (exit_at m b) (calls_stay rest fits) left
            ∙ returns_with f (placed p rest) (exit_at m b)
            ∙ ap (call_returns (placed p rest)) (sym (exit_there b));
        args = sym is.args;
        widths = λ v r. width_seen v (fit.reads v r);
        needed = fit.reads;
        carried = λ v need.
            subst (λ i. Carried m.widths t.widths Placed f f (target_of a) i v) (sym is.target)
            (carries (target_of a) v (λ x q. (held x (plain x q) (fit.target x q), plain x q)) need);
      }

  leaves : (b : ℕ) → KeepsExit link needs b f
  leaves b = record {
    leads = λ ns.
        ap (λ x. leads x ns) (exit_there b)
        ∙ exit_with_leads f (exit_at m b) ns
        ∙ sym (moved_own (leads (exit_at m b) ns));
    args = sym (exit_with_args f (exit_at m b)) ∙ sym (ap exit_args (exit_there b));
    widths = λ v r. width_seen v (exit_fits l p e whole ssa b v r);
    needed = exit_fits l p e whole ssa b;
    edges = λ c to v need. record { needed = need; same = with_itself (f v); widths = λ y r. refl };
  }

  follows : (b : ℕ) (rest : List Stmt)
      → AllFit l p e whole ssa rest
      → (exit_at m b ≡ C.Stop → IsLeftOf rest)
      → Follows l link needs NothingKnown b f rest (placed p rest)
  follows b [] fit left = Ends f [] (both_leave link needs NothingKnown b f (leaves b))
  follows b (a ∷ rest) fit left = by_step (step_of a rest) (follows b rest fit.1 left_rest)
    where
      left_rest : exit_at m b ≡ C.Stop → IsLeftOf rest
      left_rest q = left_behind a rest (left q)

      by_step : Step a rest
          → Follows l link needs NothingKnown b f rest (placed p rest)
          → Follows l link needs NothingKnown b f (a ∷ rest) (placed p (a ∷ rest))
      by_step (Drops x w is c same) next =
          subst (Follows l link needs NothingKnown b f (a ∷ rest)) (sym same)
          (Gone f f a rest (placed p rest) (drops b a rest x w fit.0 is c) next)
      by_step (Stays plain same) next =
          subst (Follows l link needs NothingKnown b f (a ∷ rest)) (sym same)
          (Kept f f a (changed (name_of p) f a) rest (placed p rest)
          (both_do link needs NothingKnown b f f a (changed (name_of p) f a) rest (placed p rest)
          (stays b a rest fit.0 fit.1 plain left_rest))
          next)

  -- ---- the whole

  stands : StandsFor l link needs NothingKnown
  stands = record {
    entry = refl;
    first = λ h v need n q. first_seen h v n need q;
    blocks = λ b.
        subst (Follows l link needs NothingKnown b f (stmts_at m b)) (sym (stmts_there b))
        (follows b (stmts_at m b) (block_fits l p e whole ssa b) (stop_left b));
  }

  module _ (defined : IsDefined l m e) where
    -- The code shows what the function with copies shows.
    pub placed_shows : TwoWay (seen_blocks l m e) (seen_code l (placed_code l p) e)
    placed_shows =
        two_way_to (seen_blocks l m e) (seen_blocks l t e) (seen_code l (placed_code l p) e)
        (shows_the_same l link needs NothingKnown stands e (λ i j. tt) defined)
        (λ n. sym (seen_is l (placed_code l p) e n))

    pub placed_defined : IsDefined l t e
    placed_defined = target_defined l link needs NothingKnown stands e (λ i j. tt) defined
