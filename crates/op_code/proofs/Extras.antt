-- What a call leaves in registers is taken by their variables.
use Rattle.std.proofs.Common.{◌≡◌, ◌≢◌, ℕ, zero, suc, ◌+◌, ◌≤◌, Bool, true, false, List, [], ◌∷◌, map, Option, Some, None, refl, sym, ap, ◌∙◌, subst, ⊎_elim, arith}
use Rattle.std.specs.Prelude.{cond, slice_get}
use Rattle.std.proofs.Math.Path.{fun_ext}
use Rattle.std.proofs.lemmas.Bool.{cases_eq}
use Rattle.bits_core.specs.Bytes.{word_of}
use Rattle.pcode_model.specs.declared.listing.Varnode.{Varnode}
use Rattle.pcode_model.specs.declared.listing.Proto.{Proto}
use Rattle.pcode_model.specs.declared.listing.Listing.{Listing}
use Rattle.pcode_model.specs.Memory.{Bytes}
use Rattle.pcode_model.specs.Spaces.{bytes_at, is_big, put, register_space, size_of}
use Rattle.pcode_model.specs.Step.{local_word}
use Rattle.pcode_laws.proofs.Puts.{put_at, put_else}
use Rattle.range_words.specs.Ranges.{Holds}
use Rattle.cmeaning.specs.declared.tree.Stmt.{Stmt}
use Rattle.cmeaning.specs.declared.tree.Stmt.TheVariants as S
use Rattle.cmeaning.specs.Do.{Local, assigned, left_word}
use Rattle.cmeaning.proofs.Do.{do_extra}
use Rattle.blockcode.proofs.Straight.{run_all}
use Rattle.op_code.specs.Form.{IsCallable}
use Rattle.op_code.specs.Left.{Leftover, extras, is_left, left_from, spared, takes_left}
use Rattle.op_code.specs.Made.{Own}
use Rattle.range_words.proofs.Same.{same_bytes, same_word}
use Rattle.op_code.proofs.Kept.{replaced, replaced_else, replaced_here, replaced_in}
use Rattle.op_code.proofs.Operands.{run_one}
use Rattle.op_code.proofs.Sees.{Setting}
use Rattle.op_code.proofs.Spared.{left_out, left_space, spared_in}

-- two variables are assigned in any order
put_swap : (env : ℕ → Option ℕ) (n t : ℕ) (a b : Option ℕ) → n ≢ t → put (put env t a) n b ≡ put (put env n b) t a
put_swap env n t a b ne = fun_ext (λ j. ⊎_elim
    (λ (is : j ≡ n).
    let other : j ≢ t = λ e. ne (sym is ∙ e) in
    ap (put (put env t a) n b) is ∙ put_at (put env t a) n b ∙ sym (put_at env n b)
    ∙ sym (ap (put env n b) is) ∙ sym (put_else (put env n b) t a j other))
    (λ (no : j ≢ n). put_else (put env t a) n b j no ∙ ⊎_elim
    (λ (at : j ≡ t). ap (put env t a) at ∙ put_at env t a ∙ sym (put_at (put env n b) t a)
    ∙ sym (ap (put (put env n b) t a) at))
    (λ (off : j ≢ t). put_else env t a j off ∙ sym (put_else env n b j no)
    ∙ sym (put_else (put env n b) t a j off))
    (cases_eq j t))
    (cases_eq j n))

assigned_swap : (n t a b : ℕ) (x : Local) → n ≢ t → assigned n b (assigned t a x) ≡ assigned t a (assigned n b x)
assigned_swap n t a b x ne =
    ap (λ (env : ℕ → Option ℕ). let y : Local = record { env = env; left = x.left; world = x.world } in y)
    (put_swap x.env n t (Some a) (Some b) ne)

module _ (l : Listing) (p : Proto) (ws : ℕ → ℕ) (returns : List Stmt → Bool) where
  abbrev taken_from : ℕ → List Varnode → Local → Local
  taken_from n vs x = run_all l ws returns (map takes_left (left_from l p n vs)) x

  -- the statements of one range, by whether a call leaves anything in it
  abbrev by_flag : Bool → ℕ → Varnode → List Varnode → List Leftover
  by_flag b n v vs = cond b (record { variable = n; offset = v.offset } ∷ left_from l p (suc n) vs)
      (left_from l p (suc n) vs)

  -- what the variable takes
  abbrev word_left : ℕ → Varnode → Local → ℕ
  word_left n v x = left_word l v.offset (ws n) x.left

  extra_runs : (n : ℕ) (v : Varnode) (rest : List Stmt) (x : Local)
      → x.world.over ≡ None
      → run_all l ws returns (S.Extra n v.offset ∷ rest) x ≡ run_all l ws returns rest (assigned n (word_left n v x) x)
  extra_runs n v rest x go =
      run_one l ws returns (S.Extra n v.offset) rest x (assigned n (word_left n v x) x) go
      (do_extra l ws (λ c. returns rest) n v.offset x)

  -- none of these takes anything
  abbrev IsApart : ℕ → List Varnode → ℕ → Type 0
  IsApart n vs t = (k : ℕ) (v : Varnode) → slice_get vs k ≡ Some v → is_left l p v ≡ true → t ≢ n + k

  apart_rest : (n : ℕ) (v : Varnode) (vs : List Varnode) (t : ℕ) → IsApart n (v ∷ vs) t → IsApart (suc n) vs t
  apart_rest n v vs t apart k w e h is = apart (suc k) w e h (omega (arith, is))

  -- ---- in any order with another variable

  swap_by : (n t a : ℕ) (v : Varnode) (vs : List Varnode) (x : Local) (b : Bool)
      → is_left l p v ≡ b
      → x.world.over ≡ None
      → IsApart n (v ∷ vs) t
      → ((y : Local) → y.world.over ≡ None → taken_from (suc n) vs (assigned t a y) ≡ assigned t a (taken_from (suc n) vs y))
      → run_all l ws returns (map takes_left (by_flag b n v vs)) (assigned t a x)
      ≡ assigned t a (run_all l ws returns (map takes_left (by_flag b n v vs)) x)
  swap_by n t a v vs x true is go apart rest =
      let ss = map takes_left (left_from l p (suc n) vs) in
      let other : n ≢ t = λ e. apart 0 v refl is (omega (arith, e)) in
      let w = word_left n v x in
      extra_runs n v ss (assigned t a x) go
      ∙ ap (run_all l ws returns ss) (assigned_swap n t a w x other)
      ∙ rest (assigned n w x) go
      ∙ sym (ap (assigned t a) (extra_runs n v ss x go))
  swap_by n t a v vs x false is go apart rest = rest x go

  takes_swap : (n t a : ℕ) (vs : List Varnode) (x : Local)
      → x.world.over ≡ None
      → IsApart n vs t
      → taken_from n vs (assigned t a x) ≡ assigned t a (taken_from n vs x)
  takes_swap n t a [] x go apart = refl
  takes_swap n t a (v ∷ vs) x go apart =
      swap_by n t a v vs x (is_left l p v) refl go apart
      (λ y on. takes_swap (suc n) t a vs y on (apart_rest n v vs t apart))

  -- ---- what is taken

  -- From x to y the variables from a number on have taken what a call left in these ranges.
  record Takes (n : ℕ) (vs : List Varnode) (x y : Local) : Type 0 where
    world : y.world ≡ x.world
    left : y.left ≡ x.left
    took : (k : ℕ) (v : Varnode)
        → slice_get vs k ≡ Some v
        → is_left l p v ≡ true
        → y.env (n + k) ≡ Some (word_left (n + k) v x)
    kept : (j : ℕ) → IsApart n vs j → y.env j ≡ x.env j

  takes_by : (n : ℕ) (v : Varnode) (vs : List Varnode) (x : Local) (b : Bool)
      → is_left l p v ≡ b
      → x.world.over ≡ None
      → ((y : Local) → y.world.over ≡ None → Takes (suc n) vs y (taken_from (suc n) vs y))
      → Takes n (v ∷ vs) x (run_all l ws returns (map takes_left (by_flag b n v vs)) x)
  takes_by n v vs x true is go rest =
      let ss = map takes_left (left_from l p (suc n) vs) in
      let w = word_left n v x in
      let y : Local = assigned n w x in
      let r = rest y go in
      let z : Local = taken_from (suc n) vs y in
      let P : Local → Type 0 = λ u. Takes n (v ∷ vs) x u in
      subst P (sym (extra_runs n v ss x go)) (record {
        world = r.world;
        left = r.left;
        took = took z r.took (r.kept n (λ k u e h. λ i. absurd (omega (arith, i))) ∙ put_at x.env n (Some w));
        kept = λ j apart. r.kept j (apart_rest n v vs j apart)
            ∙ put_else x.env n (Some w) j (λ i. apart 0 v refl is (omega (arith, i)));
      })
    where
      took : (z : Local)
          → ((k : ℕ) (u : Varnode)
          → slice_get vs k ≡ Some u
          → is_left l p u ≡ true
          → z.env (suc n + k) ≡ Some (word_left (suc n + k) u x))
          → z.env n ≡ Some (word_left n v x)
          → (k : ℕ) (u : Varnode)
          → slice_get (v ∷ vs) k ≡ Some u
          → is_left l p u ≡ true
          → z.env (n + k) ≡ Some (word_left (n + k) u x)
      took z later here zero u e h =
          let same : v ≡ u = cc in
          let at : n ≡ n + 0 = omega arith in
          let P : ℕ → Type 0 = λ j. z.env j ≡ Some (word_left j u x) in
          let Q : Varnode → Type 0 = λ c. z.env n ≡ Some (word_left n c x) in
          subst P at (subst Q same here)
      took z later here (suc k) u e h =
          let at : suc n + k ≡ n + suc k = omega arith in
          let P : ℕ → Type 0 = λ j. z.env j ≡ Some (word_left j u x) in
          subst P at (later k u e h)
  takes_by n v vs x false is go rest =
      let r = rest x go in
      let z : Local = taken_from (suc n) vs x in
      record {
        world = r.world;
        left = r.left;
        took = took z r.took;
        kept = λ j apart. r.kept j (apart_rest n v vs j apart);
      }
    where
      took : (z : Local)
          → ((k : ℕ) (u : Varnode)
          → slice_get vs k ≡ Some u
          → is_left l p u ≡ true
          → z.env (suc n + k) ≡ Some (word_left (suc n + k) u x))
          → (k : ℕ) (u : Varnode)
          → slice_get (v ∷ vs) k ≡ Some u
          → is_left l p u ≡ true
          → z.env (n + k) ≡ Some (word_left (n + k) u x)
      took z later zero u e h = let same : v ≡ u = cc in absurd (cc)
      took z later (suc k) u e h =
          let at : suc n + k ≡ n + suc k = omega arith in
          let P : ℕ → Type 0 = λ j. z.env j ≡ Some (word_left j u x) in
          subst P at (later k u e h)

  takes : (n : ℕ) (vs : List Varnode) (x : Local) → x.world.over ≡ None → Takes n vs x (taken_from n vs x)
  takes n [] x go = record { world = refl; left = refl; took = λ k v e h. absurd (cc); kept = λ j apart. refl }
  takes n (v ∷ vs) x go = takes_by n v vs x (is_left l p v) refl go (λ y on. takes (suc n) vs y on)

  -- ---- all ranges

  module _ (ranges : List Varnode) where
    -- Another variable than those that take something may be assigned before or behind them.
    pub extras_swap : (t a : ℕ) (x : Local)
        → x.world.over ≡ None
        → ((n : ℕ) (v : Varnode) → slice_get ranges n ≡ Some v → is_left l p v ≡ true → n ≢ t)
        → run_all l ws returns (extras l p ranges) (assigned t a x)
        ≡ assigned t a (run_all l ws returns (extras l p ranges) x)
    extras_swap t a x go apart =
        takes_swap 0 t a ranges x go (λ k v e h is. apart k v e h (omega (arith, is)))

    -- The variables hold the words of the bytes with the last answer's where a call spares none, as far as they held
    -- those of the bytes before.
    pub record Replaced (m : Bytes) (x y : Local) : Type 0 where
      pub world : y.world ≡ x.world
      pub left : y.left ≡ x.left
      pub holds : Holds l ranges (replaced l (spared l p) x.left m) y.env

    pub extras_hold : (m : Bytes) (x : Local) (o : Own)
        → Setting l ranges ws
        → IsCallable l o ranges p
        → x.world.over ≡ None
        → Holds l ranges m x.env
        → Replaced m x (run_all l ws returns (extras l p ranges) x)
    extras_hold m x own set call go holds =
        let r = takes 0 ranges x go in
        let y : Local = taken_from 0 ranges x in
        let after : Bytes = replaced l (spared l p) x.left m in
        record {
          world = r.world;
          left = r.left;
          holds = λ n v e. by n v e (is_left l p v) refl y r.took r.kept;
        }
      where
        by : (n : ℕ) (v : Varnode)
            → slice_get ranges n ≡ Some v
            → (b : Bool)
            → is_left l p v ≡ b
            → (y : Local)
            → ((k : ℕ) (u : Varnode)
            → slice_get ranges k ≡ Some u
            → is_left l p u ≡ true
            → y.env (0 + k) ≡ Some (word_left (0 + k) u x))
            → ((j : ℕ) → IsApart 0 ranges j → y.env j ≡ x.env j)
            → y.env n ≡ Some (local_word l v (replaced l (spared l p) x.left m))
        by n v e true h y took kept =
            let here = left_space l ranges set.table p own call v h in
            let wide = set.widths n v e (set.narrow n v e) in
            let s = register_space l in
            let after : Bytes = replaced l (spared l p) x.left m in
            let inside = set.table.inside n v e in
            let P : ℕ → Type 0 = λ t. v.offset + v.size ≤ size_of l t in
            let same : left_word l v.offset v.size x.left ≡ local_word l v after =
            ap (word_of (is_big l s)) (same_bytes (size_of l s) x.left (after s) v.offset v.size (subst P here inside)
            (λ o from to. sym (replaced_here l (spared l p) x.left m o
            (left_out l ranges set.table p own call v o h (from, to)))))
            ∙ ap (λ t. word_of (is_big l t) (bytes_at (size_of l t) (after t) v.offset v.size)) (sym here) in
            let zero_is : n ≡ 0 + n = omega arith in
            let Q : ℕ → Type 0 = λ j. y.env j ≡ Some (word_left j v x) in
            subst Q (sym zero_is) (took n v e h)
            ∙ ap (λ k. Some (left_word l v.offset k x.left)) wide
            ∙ ap (λ w. Some w) same
        by n v e false h y took kept =
            let after : Bytes = replaced l (spared l p) x.left m in
            let others : IsApart 0 ranges n = λ k u f g is.
            let at : n ≡ k = omega (arith, is) in
            let both : Some v ≡ Some u = sym e ∙ ap (slice_get ranges) at ∙ f in
            let one : v ≡ u = cc in
            absurd (cc) in
            let inside = set.table.inside n v e in
            kept n others ∙ holds n v e ∙ ap (λ w. Some w) (same_word l v m after inside (λ o from to. ⊎_elim
            (λ (at : v.space ≡ register_space l). sym (replaced_in l (spared l p) x.left m v.space o
            (spared_in l ranges set.table p own call n v o e (set.narrow n v e).0 h at (from, to))))
            (λ (ne : v.space ≢ register_space l). sym (replaced_else l (spared l p) x.left m v.space o ne))
            (cases_eq v.space (register_space l))))
