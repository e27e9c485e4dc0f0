-- MULTIEQUALs as copies: the blocks without edges that rename show what the blocks with them show.
use Rattle.std.proofs.Common.{◌≡◌, ◌≢◌, ℕ, ◌<◌, Bool, true, false, cond, List, [], ◌∷◌, ◌++◌, Some, None, refl, sym, ap, ◌∙◌, subst, ◌⊎◌, inl, inr, ⊎_elim}
use Rattle.machine.specs.TwoWay.{TwoWay}
use Rattle.machine.specs.Machine.{after}
use Rattle.pcode_model.specs.declared.listing.Listing.{Listing}
use Rattle.pcode_model.specs.World.{Entry}
use Rattle.cmeaning.specs.declared.tree.Expr.{Expr}
use Rattle.cmeaning.specs.declared.tree.Expr.TheVariants as E
use Rattle.cmeaning.specs.declared.tree.Stmt.{Stmt}
use Rattle.cmeaning.specs.Value.{width_of, value_of}
use Rattle.cmeaning.specs.Do.{Local}
use Rattle.cmeaning.proofs.Value.{value_of_var, width_of_var}
use Rattle.blockcode.specs.declared.code.Exit.{Exit}
use Rattle.blockcode.specs.declared.code.Exit.TheVariants as X
use Rattle.blockcode.specs.Run.{call_returns}
use Rattle.parts.specs.Exprs.{Env, Holds, reads_all, own}
use Rattle.parts.specs.Stmts.{target_of, args_of}
use Rattle.parts.proofs.Values.{with_each_itself}
use Rattle.edges.specs.Exits.{exit_args, Onto, leads, LeadsTo}
use Rattle.edges.specs.Run.{Blocks, stmts_at, exit_at, blocks_step, start_blocks, seen_blocks}
use Rattle.edges.specs.Live.{Live, Onward, LiveIn, IsStrict, IsDefined, IsSound}
use Rattle.edges.specs.Follow.{Link, Needs, Needed, Sees, Meets, In, copies_of, laid, TargetDoes, BothLeave, Follows, Ends, Kept, More, StandsFor, IsKnown}
use Rattle.edges.specs.Leave.{Shape, AreValues, input, ends_with, IsLeft, HasInputs}
use Rattle.edges.proofs.Follow.{shows_the_same, target_defined}
use Rattle.edges.proofs.Strict.{live_holds}
use Rattle.edges.proofs.Returns.{returns_before}
use Rattle.edges.proofs.Steps.{KeepsStmt, both_do, values_seen, own_carried, moved_own}
use Rattle.edges.proofs.Copies.{all_copied}

-- at the beginning of a block a MULTIEQUAL is seen in its fresh variable
abbrev pub at_start : Shape → ℕ → ℕ → Expr
at_start h b v = cond (h.is_head b v) (E.Var (h.fresh v)) (E.Var v)

abbrev pub left_link : Shape → Blocks → Blocks → Link
left_link h k m = record { source = k; target = m; to = λ b. b; at = at_start h }

which : (c : Bool) → (c ≡ true) ⊎ (c ≡ false)
which true = inl refl
which false = inr refl

not_both : (c : Bool) → c ≡ true → c ≡ false → ⊥
not_both true e f = cc
not_both false e f = cc

nowhere : (c : ℕ) (ns : List ℕ) → leads X.Stop ns ≡ Onto c → ⊥
nowhere c ns e = cc

none_in : {A : Type 0} (xs : List A) → ((x : A) → In x xs → ⊥) → xs ≡ []
none_in [] empty = refl
none_in (x ∷ xs) empty = absurd (empty x (inl refl))

module _ (l : Listing) (V : ℕ → Type 0) (h : Shape) (k m : Blocks) (p : IsLeft V h k m) where
  abbrev link : Link
  link = left_link h k m

  abbrev all_values : Needs
  all_values b rest v = V v

  as_head : (b v : ℕ) → h.is_head b v ≡ true → at_start h b v ≡ E.Var (h.fresh v)
  as_head b v e = ap (λ c. cond c (E.Var (h.fresh v)) (E.Var v)) e

  as_plain : (b v : ℕ) → h.is_head b v ≡ false → at_start h b v ≡ E.Var v
  as_plain b v e = ap (λ c. cond c (E.Var (h.fresh v)) (E.Var v)) e

  own_value : (t : Env) (v : ℕ) → value_of m.widths t (E.Var v) ≡ t v
  own_value t v = value_of_var m.widths t v

  -- ---- the beginning: own = fresh

  abbrev begin : ℕ → List Stmt
  begin b = stmts_at k b ++ ends_with h k b

  module _
      (b : ℕ) (x y : Local)
      (meets : Meets link all_values (HasInputs h k) b (at_start h b) (stmts_at k b)
      (laid (copies_of (λ v. v) h.fresh (h.heads b)) (begin b)) x y)
    where
      -- what is seen of a MULTIEQUAL is in its fresh variable
      fresh_sees : (v n : ℕ) → V v → h.is_head b v ≡ true → x.env v ≡ Some n → y.env (h.fresh v) ≡ Some n
      fresh_sees v n need head e =
          sym (own_value y.env (h.fresh v))
          ∙ ap (value_of m.widths y.env) (sym (as_head b v head))
          ∙ meets.sees v need n e

      plain_sees : (v n : ℕ) → V v → h.is_head b v ≡ false → x.env v ≡ Some n → y.env v ≡ Some n
      plain_sees v n need other e =
          sym (own_value y.env v)
          ∙ ap (value_of m.widths y.env) (sym (as_plain b v other))
          ∙ meets.sees v need n e

      fresh_holds : (v : ℕ) → In v (h.heads b) → Holds y.env (h.fresh v)
      fresh_holds v i =
          let n = meets.knows.begins meets.over refl v i in
          let r = p.heads b v i in
          (n.0, fresh_sees v n.0 r.0 r.1 n.1)

  begins : (b : ℕ)
      → TargetDoes link all_values (HasInputs h k) b (at_start h b) own (copies_of (λ v. v) h.fresh (h.heads b))
      (stmts_at k b) (begin b)
  begins b = record {
    after = λ x y meets.
        let c = all_copied m.widths (λ v. v) h.fresh (h.heads b) y.env (record {
          holds = fresh_holds b x y meets;
          apart = λ v w i j e. p.fresh v w (p.heads b v i).0 (sym e);
          once = λ v w i j e. ap h.fresh e;
        }) in
        let P : ℕ → Type 0 = λ z. h.is_head b z ≡ true in (
          c.0,
          c.1.ran,
          λ v need n e. own_value c.0 v ∙ ⊎_elim
              (λ head. c.1.each v (p.listed b v head) ∙ fresh_sees b x y meets v n need head e)
              (λ other.
              c.1.others v (λ w i same. not_both (h.is_head b v) (subst P (sym same) (p.heads b w i).1) other)
              ∙ plain_sees b x y meets v n need other e)
              (which (h.is_head b v)),
        );
  }

  -- ---- the end: fresh = input

  abbrev fresh_of : ℕ × ℕ → ℕ
  fresh_of z = h.fresh z.1

  head_of : (b : ℕ) (z : ℕ × ℕ) → In z (h.next b) → h.is_head z.0 z.1 ≡ true
  head_of b z i = (p.next b z i).1

  -- what is written from two places is one MULTIEQUAL of one block
  one_input : (b : ℕ) (z w : ℕ × ℕ)
      → In z (h.next b)
      → In w (h.next b)
      → fresh_of z ≡ fresh_of w
      → input k b z ≡ input k b w
  one_input b z w i j e =
      let same : z.1 ≡ w.1 = p.each z.1 w.1 e in
      let P : ℕ → Type 0 = λ u. h.is_head z.0 u ≡ true in
      let home : z.0 ≡ w.0 = p.home z.0 w.0 w.1 (subst P same (head_of b z i)) (head_of b w j) in
      ap (λ u. k.through b u z.1) home ∙ ap (k.through b w.0) same

  -- an input is a value
  input_value : (b : ℕ) (z : ℕ × ℕ) → In z (h.next b) → V (input k b z)
  input_value b z i = p.values b z.0 z.1 (p.heads z.0 z.1 (p.listed z.0 z.1 (head_of b z i))).0

  abbrev end_copies : ℕ → List (ℕ × Expr)
  end_copies b = copies_of fresh_of (input k b) (h.next b)

  module _
      (b : ℕ) (x y : Local)
      (meets : Meets link all_values (HasInputs h k) b own [] (laid (end_copies b) []) x y)
    where
      sees_own : (v n : ℕ) → V v → x.env v ≡ Some n → y.env v ≡ Some n
      sees_own v n need e = sym (own_value y.env v) ∙ meets.sees v need n e

      input_holds : (z : ℕ × ℕ) → In z (h.next b) → Holds y.env (input k b z)
      input_holds z i =
          let n = meets.knows.ends meets.over refl z i in
          (n.0, sees_own (input k b z) n.0 (input_value b z i) n.1)

      -- after the copies
      module _
          (t : Env)
          (others : (v : ℕ) → ((z : ℕ × ℕ) → In z (h.next b) → v ≢ fresh_of z) → t v ≡ y.env v)
          (each : (z : ℕ × ℕ) → In z (h.next b) → t (fresh_of z) ≡ y.env (input k b z))
        where
          still : (v : ℕ) → V v → t v ≡ y.env v
          still v need = others v (λ z i. p.fresh v z.1 need)

          sees_after : Sees m.widths own V x.env t
          sees_after v need n e = own_value t v ∙ still v need ∙ sees_own v n need e

          onward : (d v n : ℕ)
              → LeadsTo (exit_at k b) d
              → V v
              → x.env (k.through b d v) ≡ Some n
              → value_of m.widths t (at_start h d v) ≡ Some n
          onward d v n to need e =
              let there : y.env (k.through b d v) ≡ Some n = sees_own (k.through b d v) n (p.values b d v need) e in
              ⊎_elim
              (λ head.
              ap (value_of m.widths t) (as_head d v head)
              ∙ own_value t (h.fresh v)
              ∙ each (d, v) (p.nexts b d v to head)
              ∙ there)
              (λ other.
              ap (value_of m.widths t) (as_plain d v other)
              ∙ own_value t v
              ∙ still v need
              ∙ ap y.env (sym (p.plain b d v other))
              ∙ there)
              (which (h.is_head d v))

  exit_widths : (b v : ℕ) → 0 < reads_all (exit_args (exit_at k b)) v → width_of m.widths (own v) ≡ k.widths v
  exit_widths b v r = width_of_var m.widths v ∙ sym (p.widths v (p.exits b v r))

  leaves : (b : ℕ) → BothLeave link all_values (HasInputs h k) b own (end_copies b)
  leaves b = record {
    leads = λ ns. ap (λ x. leads x ns) (p.same b) ∙ sym (moved_own (leads (exit_at k b) ns));
    after = λ x y meets.
        let c = all_copied m.widths fresh_of (input k b) (h.next b) y.env (record {
          holds = input_holds b x y meets;
          apart = λ z w i j. p.fresh (input k b w) z.1 (input_value b w j);
          once = one_input b;
        }) in
        let args = with_each_itself (exit_args (exit_at k b)) ∙ ap exit_args (sym (p.same b)) in (
          c.0,
          record {
            copied = c.1.ran;
            values =
                values_seen k.widths m.widths own V x.env c.0 (sees_after b x y meets c.0 c.1.others c.1.each)
                (exit_args (exit_at k b)) (exit_args (exit_at m b)) args (exit_widths b) (p.exits b);
            onward = λ d to v need n e.
                let P : (ℕ → ℕ → ℕ → ℕ) → Type 0 =
                λ g. value_of m.widths (λ w. c.0 (g b d w)) (at_start h d v) ≡ Some n in
                subst P (sym p.through) (onward b x y meets c.0 c.1.others c.1.each d v n to need e);
          },
        );
  }

  -- ---- the whole

  -- nothing is copied before the exit Stop
  no_copies : (b : ℕ) → exit_at k b ≡ X.Stop → ends_with h k b ≡ []
  no_copies b e =
      let P : Exit → Type 0 = λ z. (c : ℕ) → LeadsTo z c → ⊥ in
      let nothing : P (exit_at k b) = subst P (sym e) (λ c to. nowhere c to.0 to.1) in
      let none = none_in (h.next b) (λ z i. nothing z.0 (p.next b z i).0) in
      ap (λ zs. laid (copies_of fresh_of (input k b) zs) []) none

  stays : (b : ℕ) (a : Stmt) (rest : List Stmt)
      → Needed (reads_all (args_of a)) V
      → KeepsStmt link all_values b own own a a rest (rest ++ ends_with h k b)
  stays b a rest reads = record {
    action = refl;
    returns = λ c e.
        returns_before rest (ends_with h k b) (exit_at k b) (no_copies b)
        ∙ ap (call_returns (rest ++ ends_with h k b)) (sym (p.same b));
    args = with_each_itself (args_of a);
    widths = λ v r. width_of_var m.widths v ∙ sym (p.widths v (reads v r));
    needed = reads;
    carried = λ v need. own_carried k.widths m.widths V (target_of a) v (p.widths v need) (λ ne. need);
  }

  follows : (b : ℕ) (body : List Stmt)
      → AreValues V body
      → Follows l link all_values (HasInputs h k) b own body (body ++ ends_with h k b)
  follows b [] vs = Ends own (end_copies b) (leaves b)
  follows b (a ∷ rest) vs =
      let step = both_do link all_values (HasInputs h k) b own own a a rest (rest ++ ends_with h k b)
      (stays b a rest vs.0) in
      Kept own own a a rest (rest ++ ends_with h k b) step (follows b rest vs.1)

  stands : StandsFor l link all_values (HasInputs h k)
  stands = record {
    entry = p.entry;
    first = λ e v need n i.
        ap (value_of m.widths (m.first l e)) (as_plain k.entry v (p.start v))
        ∙ own_value (m.first l e) v
        ∙ p.first l e v need
        ∙ i;
    blocks = λ b.
        let P : List Stmt → Type 0 =
        λ z. Follows l link all_values (HasInputs h k) b (at_start h b) (stmts_at k b) z in
        let heads = copies_of (λ v. v) h.fresh (h.heads b) in
        subst P (sym (p.body b))
        (More (at_start h b) own heads (stmts_at k b) (begin b) (begins b) (follows b (stmts_at k b) (p.stmts b)));
  }

  module _ (e : Entry) (knows : IsKnown l link (HasInputs h k) e) (defined : IsDefined l k e) where
    -- The copies show what the MULTIEQUALs show.
    pub left_shows : TwoWay (seen_blocks l k e) (seen_blocks l m e)
    left_shows = shows_the_same l link all_values (HasInputs h k) stands e knows defined

    pub left_defined : IsDefined l m e
    left_defined = target_defined l link all_values (HasInputs h k) stands e knows defined

-- Where each MULTIEQUAL is live at the beginning of its block, strictness says what must be known.
module _
    (l : Listing) (V : ℕ → Type 0) (h : Shape) (k m : Blocks)
    (p : IsLeft V h k m)
    (sound : IsSound k)
    (live : (b v : ℕ) → In v (h.heads b) → LiveIn k b v)
    (e : Entry)
    (strict : IsStrict l k e)
  where
    pub inputs_known : IsKnown l (left_link h k m) (HasInputs h k) e
    inputs_known i j =
        let s = after (blocks_step l k) i (start_blocks l k e) in
        let has = λ (o : s.local.world.over ≡ None). (live_holds l k sound e strict i o).has in
        record {
          begins = λ o at v head.
              let P : List Stmt → Type 0 = λ r. Live k s.block r v in
              has o v (subst P (sym at) (live s.block v head));
          ends = λ o at x to.
              let r = p.next s.block x to in
              let P : List Stmt → Type 0 = λ r. Live k s.block r (input k s.block x) in
              let there = live x.0 x.1 (p.listed x.0 x.1 r.1) in
              has o (input k s.block x) (subst P (sym at) (Onward s.block x.0 (input k s.block x) x.1 r.0 refl there));
        }
