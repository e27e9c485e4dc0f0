-- The variables of the code: where each value stands among them, and what it is there.
use Rattle.std.proofs.Common.{◌≡◌, ℕ, suc, ◌<◌, Bool, true, false, cond, List, [], ◌∷◌, ◌++◌, ◌⊎◌, inl, inr, length, map, Option, Some, None, refl, sym, ap, ◌∙◌, subst, slice_get, arith}
use Rattle.std.specs.Prelude.{◌-◌, ◌≤◌, ◌==◌, nat_lt}
use Rattle.std.specs.List.{flat_map}
use Rattle.std.proofs.lemmas.Bool.{cases_eq, eq-eqb, lt-ltb, ltb-true}
use Rattle.std.proofs.lemmas.Option.{slice_get_past}
use Rattle.bits_core.specs.declared.word.Width.{Width}
use Rattle.bits_core.specs.declared.word.Word.{Word}
use Rattle.pcode_model.specs.declared.listing.Listing.{Listing}
use Rattle.pcode_model.specs.World.{Entry}
use Rattle.blockcode.specs.declared.code.Variable.{Variable}
use Rattle.blockcode.specs.Run as code
use Rattle.node_lists.specs.Chains.{IsIn}
use Rattle.node_lists.proofs.Chains.{eqb_not, in_left, in_right}
use Rattle.opgraph.specs.Graph.{OpRow, op_slot, op_at, block_at, in_block, IsWhole}
use Rattle.ssa_model.specs.declared.form.Parts.{Parts}
use Rattle.ssa_model.specs.Roles.{Role, Constant, Starts, Joins, role_of}
use Rattle.ssa_model.specs.Outline.{bytes_of, width_in, width_at, form, ids, only, role_at, role_in}
use Rattle.ssa_model.specs.Paths.{IsJoin}
use Rattle.ssa_model.specs.Edits.{IsSsa}
use Rattle.ssa_model.specs.Run.{first_by, first_word}
use Rattle.ssa_model.specs.Starting.{is_start, start_rank, all_ops, starting}
use Rattle.leaving_laws.specs.Values.{fresh, variable_width}
use Rattle.leaving_laws.specs.Copied.{up_to}
use Rattle.leaving_laws.specs.Left.{Held, local_of, held_by, held_in, parameter_by, parameter_in, held_of, place, held_numbers, name_of, constant_by, constant_in}
use Rattle.leaving_laws.proofs.Heads.{order_in, only_in, below_in}
use Rattle.leaving_laws.proofs.Known.{in_low}
use Rattle.leaving_laws.proofs.Copies.{op_low}

-- ---- lists

-- what holds of each variable of a list
abbrev pub Each : (Held → Type 0) → List Held → Type 0
Each P [] = Unit {0}
Each P (h ∷ hs) = P h × Each P hs

each_append : (P : Held → Type 0) (xs ys : List Held) → Each P xs → Each P ys → Each P (xs ++ ys)
each_append P [] ys h k = k
each_append P (x ∷ xs) ys h k = (h.0, each_append P xs ys h.1 k)

each_by : (P : Held → Type 0) (f : ℕ → List Held) → ((x : ℕ) → Each P (f x)) → (xs : List ℕ) → Each P (flat_map f xs)
each_by P f all [] = tt
each_by P f all (x ∷ xs) = each_append P (f x) (flat_map f xs) (all x) (each_by P f all xs)

abbrev numbers : List Held → List ℕ
numbers hs = map (λ (h : Held). h.number) hs

abbrev pub variables : List Held → List Variable
variables hs = map (λ (h : Held). h.variable) hs

numbers_append : (xs ys : List Held) → numbers (xs ++ ys) ≡ numbers xs ++ numbers ys
numbers_append [] ys = refl
numbers_append (x ∷ xs) ys = ap (λ zs. x.number ∷ zs) (numbers_append xs ys)

numbers_by : (f : ℕ → List Held) (v x : ℕ) (xs : List ℕ)
    → IsIn x xs
    → IsIn v (numbers (f x))
    → IsIn v (numbers (flat_map f xs))
numbers_by f v x [] m k = absurd m
numbers_by f v x (y ∷ ys) (inl e) k =
    subst (IsIn v) (sym (numbers_append (f y) (flat_map f ys)))
    (in_left v (numbers (f y)) (numbers (flat_map f ys)) (subst (λ z. IsIn v (numbers (f z))) e k))
numbers_by f v x (y ∷ ys) (inr m) k =
    subst (IsIn v) (sym (numbers_append (f y) (flat_map f ys)))
    (in_right v (numbers (f y)) (numbers (flat_map f ys)) (numbers_by f v x ys m k))

-- two numbers of a list that stand at one place are one
pub same_place : (v w : ℕ) (xs : List ℕ) → IsIn v xs → IsIn w xs → place v xs ≡ place w xs → v ≡ w
same_place v w [] m k e = absurd m
same_place v w (x ∷ xs) m k e = by_both (cases_eq x v) (cases_eq x w) m k e (same_place v w xs)
  where
    by_both : (x ≡ v) ⊎ (x ≡ v → ⊥)
        → (x ≡ w) ⊎ (x ≡ w → ⊥)
        → IsIn v (x ∷ xs)
        → IsIn w (x ∷ xs)
        → cond (x == v) 0 (suc (place v xs)) ≡ cond (x == w) 0 (suc (place w xs))
        → (IsIn v xs → IsIn w xs → place v xs ≡ place w xs → v ≡ w)
        → v ≡ w
    by_both (inl h) (inl i) a b q next = sym h ∙ i
    by_both (inl h) (inr n) a b q next =
        absurd (omega (
          arith,
          sym (ap (λ c. cond c 0 (suc (place v xs))) (eq-eqb x v h))
              ∙ q
              ∙ ap (λ c. cond c 0 (suc (place w xs))) (eqb_not x w n),
        ))
    by_both (inr n) (inl i) a b q next =
        absurd (omega (
          arith,
          sym (ap (λ c. cond c 0 (suc (place v xs))) (eqb_not x v n))
              ∙ q
              ∙ ap (λ c. cond c 0 (suc (place w xs))) (eq-eqb x w i),
        ))
    by_both (inr n) (inr o) (inl a) b q next = absurd (n (sym a))
    by_both (inr n) (inr o) (inr a) (inl b) q next = absurd (o (sym b))
    by_both (inr n) (inr o) (inr a) (inr b) q next =
        next a b
        (omega (
          arith,
          sym (ap (λ c. cond c 0 (suc (place v xs))) (eqb_not x v n))
              ∙ q
              ∙ ap (λ c. cond c 0 (suc (place w xs))) (eqb_not x w o),
        ))

-- at the place of a number stands a variable of that number
pub at_place : (P : Held → Type 0) (v : ℕ) (hs : List Held)
    → Each P hs
    → IsIn v (numbers hs)
    → (h : Held) × (P h × ((h.number ≡ v) × (slice_get (variables hs) (place v (numbers hs)) ≡ Some h.variable)))
at_place P v [] all m = absurd m
at_place P v (h ∷ hs) all m = by_case (cases_eq h.number v) m (at_place P v hs all.1)
  where
    by_case : (h.number ≡ v) ⊎ (h.number ≡ v → ⊥)
        → IsIn v (h.number ∷ numbers hs)
        → (IsIn v (numbers hs) → (g : Held) × (P g × ((g.number ≡ v) × (slice_get (variables hs) (place v (numbers hs)) ≡ Some g.variable))))
        → (g : Held) × (P g × ((g.number ≡ v) × (slice_get (variables (h ∷ hs)) (place v (numbers (h ∷ hs))) ≡ Some g.variable)))
    by_case (inl e) k next =
        (h, (all.0, (e, ap (λ c. slice_get (variables (h ∷ hs)) (cond c 0 (suc (place v (numbers hs))))) (eq-eqb h.number v e))))
    by_case (inr n) (inl e) next = absurd (n (sym e))
    by_case (inr n) (inr k) next =
        let g = next k in (
          g.0,
          (
            g.1.0,
            (
              g.1.1.0,
              ap (λ c. slice_get (variables (h ∷ hs)) (cond c 0 (suc (place v (numbers hs))))) (eqb_not h.number v n)
                  ∙ g.1.1.1,
            ),
          ),
        )

in_all : (v b : ℕ) (p : Parts) (bs : List ℕ) → IsIn b bs → IsIn v (block_at p.graph b) → IsIn v (all_ops p.graph bs)
in_all v b p [] m k = absurd m
in_all v b p (c ∷ bs) (inl e) k =
    in_left v (block_at p.graph c) (all_ops p.graph bs) (subst (λ z. IsIn v (block_at p.graph z)) e k)
in_all v b p (c ∷ bs) (inr m) k = in_right v (block_at p.graph c) (all_ops p.graph bs) (in_all v b p bs m k)

module _ (l : Listing) (p : Parts) (e : Entry) (whole : IsWhole p.graph) (ssa : IsSsa (form p)) where
  -- a variable has the width and the first word that its number has in the function with copies
  pub record IsRight (h : Held) : Type 0 where
    pub width : h.variable.width.bytes ≡ variable_width p h.number
    pub first : (f : Entry) → code.first_word l f (Some h.variable) ≡ first_word l f (op_at p.graph h.number)

  count : ℕ
  count = length p.graph.ops

  pub width_low : (v : ℕ) (r : OpRow) → op_at p.graph v ≡ Some r → variable_width p v ≡ bytes_of r.width
  width_low v r is =
      ap (λ c. cond c (width_at (op_at p.graph) v) (width_at (op_at p.graph) (v - length p.graph.ops)))
      (lt-ltb v (length p.graph.ops) (op_low l p e whole ssa v (r, is)))
      ∙ ap width_in is

  own_right : (x : ℕ) (r : OpRow) (w : Width)
      → op_at p.graph x ≡ Some r
      → r.width ≡ Some w
      → ((f : Entry) → first_by l f (bytes_of r.width) (role_of r.code) ≡ None)
      → IsRight (local_of x w)
  own_right x r w is wide none = record {
    width = sym (width_low x r is ∙ ap bytes_of wide);
    first = λ f. sym (ap (first_word l f) is ∙ none f);
  }

  fresh_right : (x : ℕ) (r : OpRow) (w : Width)
      → op_at p.graph x ≡ Some r
      → r.width ≡ Some w
      → IsRight (local_of (fresh p x) w)
  fresh_right x r w is wide = record {
    width = sym (by_less (nat_lt (fresh p x) (length p.graph.ops)) refl);
    first = λ f. sym (ap (λ o. first_word l f (op_slot o)) (slice_get_past p.graph.ops (fresh p x) past));
  }
    where
      past : length p.graph.ops ≤ fresh p x
      past = omega arith

      back : fresh p x - length p.graph.ops ≡ x
      back = omega arith

      by_less : (c : Bool)
          → nat_lt (fresh p x) (length p.graph.ops) ≡ c
          → cond c (width_at (op_at p.graph) (fresh p x))
          (width_at (op_at p.graph) (fresh p x - length p.graph.ops))
          ≡ w.bytes
      by_less true less = let low = ltb-true (fresh p x) (length p.graph.ops) less in absurd (omega (arith, low))
      by_less false less = ap (width_at (op_at p.graph)) back ∙ ap width_in is ∙ ap bytes_of wide

  no_first : (role : Role) (r : OpRow)
      → role_of r.code ≡ role
      → ((f : Entry) → first_by l f (bytes_of r.width) role ≡ None)
      → (f : Entry)
      → first_by l f (bytes_of r.width) (role_of r.code) ≡ None
  no_first role r same none f = ap (first_by l f (bytes_of r.width)) same ∙ none f

  held_right : (x : ℕ) (r : OpRow) (role : Role) (o : Option Width)
      → op_at p.graph x ≡ Some r
      → role_of r.code ≡ role
      → r.width ≡ o
      → Each IsRight (held_by p x role o)
  held_right x r role None is same wide = tt
  held_right x r (Constant n) (Some w) is same wide = tt
  held_right x r (Starts s) (Some w) is same wide = tt
  held_right x r (Joins atom) (Some w) is same wide =
      (own_right x r w is wide (no_first (Joins atom) r same (λ f. refl)), (fresh_right x r w is wide, tt))
  held_right x r role (Some w) is same wide = (own_right x r w is wide (no_first role r same (λ f. refl)), tt)

  parameter_right : (x : ℕ) (r : OpRow) (role : Role) (o : Option Width)
      → op_at p.graph x ≡ Some r
      → role_of r.code ≡ role
      → r.width ≡ o
      → Each IsRight (parameter_by x role o)
  parameter_right x r (Starts s) None is same wide = tt
  parameter_right x r (Starts s) (Some w) is same wide = (
    record {
      width = sym (width_low x r is ∙ ap bytes_of wide);
      first = λ f.
          sym (ap (first_word l f) is ∙ (λ i. first_by l f (bytes_of (wide i)) (same i)));
    },
    tt,
  )
  parameter_right x r role o is same wide = tt

  all_right : Each IsRight (held_of p)
  all_right =
      each_append IsRight (flat_map (λ (x : ℕ). parameter_in x (op_at p.graph x)) (starting p))
      (flat_map (λ (x : ℕ). held_in p x (op_at p.graph x)) (all_ops p.graph (up_to (length p.graph.blocks))))
      (each_by IsRight (λ (x : ℕ). parameter_in x (op_at p.graph x)) first_part (starting p))
      (each_by IsRight (λ (x : ℕ). held_in p x (op_at p.graph x)) later_part
      (all_ops p.graph (up_to (length p.graph.blocks))))
    where
      first_part : (x : ℕ) → Each IsRight (parameter_in x (op_at p.graph x))
      first_part x = by_row (op_at p.graph x) refl
        where
          by_row : (o : Option OpRow) → op_at p.graph x ≡ o → Each IsRight (parameter_in x o)
          by_row None is = tt
          by_row (Some r) is = parameter_right x r (role_of r.code) r.width is refl refl

      later_part : (x : ℕ) → Each IsRight (held_in p x (op_at p.graph x))
      later_part x = by_row (op_at p.graph x) refl
        where
          by_row : (o : Option OpRow) → op_at p.graph x ≡ o → Each IsRight (held_in p x o)
          by_row None is = tt
          by_row (Some r) is = held_right x r (role_of r.code) r.width is refl refl

  -- What stands at a number's place is what the number is.
  pub variable_at : (v : ℕ)
      → IsIn v (held_numbers p)
      → (h : Held)
      × (IsRight h × ((h.number ≡ v) × (slice_get (variables (held_of p)) (name_of p v) ≡ Some h.variable)))
  variable_at v m = at_place IsRight v (held_of p) all_right m

  pub width_there : (v : ℕ)
      → IsIn v (held_numbers p)
      → code.widths (variables (held_of p)) (name_of p v) ≡ variable_width p v
  width_there v m =
      let h = variable_at v m in
      ap code.width_in h.1.1.1 ∙ h.1.0.width ∙ ap (variable_width p) h.1.1.0

  pub first_there : (v : ℕ)
      → IsIn v (held_numbers p)
      → (f : Entry)
      → code.first_word l f (slice_get (variables (held_of p)) (name_of p v)) ≡ first_word l f (op_at p.graph v)
  first_there v m f =
      let h = variable_at v m in
      ap (code.first_word l f) h.1.1.1 ∙ h.1.0.first f ∙ ap (λ z. first_word l f (op_at p.graph z)) h.1.1.0

  -- ---- what has a variable

  -- a variable of the code, or a constant
  abbrev pub HasPlace : ℕ → Type 0
  HasPlace v = IsIn v (held_numbers p) ⊎ ((w : Word) × (constant_in (op_at p.graph v) ≡ Some w))

  held_later : (v x : ℕ) (r : OpRow)
      → op_at p.graph x ≡ Some r
      → IsIn v (numbers (held_by p x (role_of r.code) r.width))
      → IsIn v (held_numbers p)
  held_later v x r is m =
      subst (IsIn v)
      (sym (numbers_append (flat_map (λ (y : ℕ). parameter_in y (op_at p.graph y)) (starting p)) later))
      (in_right v (numbers (flat_map (λ (y : ℕ). parameter_in y (op_at p.graph y)) (starting p))) (numbers later)
      (numbers_by (λ (y : ℕ). held_in p y (op_at p.graph y)) v x (all_ops p.graph (up_to (length p.graph.blocks)))
      (in_all x r.block p (up_to (length p.graph.blocks)) (below_in r.block (length p.graph.blocks) low) here)
      (subst (λ o. IsIn v (numbers (held_in p x o))) (sym is) m)))
    where
      later : List Held
      later = flat_map (λ (y : ℕ). held_in p y (op_at p.graph y)) (all_ops p.graph (up_to (length p.graph.blocks)))

      here : IsIn x (block_at p.graph r.block)
      here = (whole.ops r.block x).1 (subst (in_block r.block) (sym is) refl)

      low : r.block < length p.graph.blocks
      low = in_low p r.block x here

  held_first : (x : ℕ) (r : OpRow)
      → op_at p.graph x ≡ Some r
      → is_start (Some (role_of r.code)) ≡ true
      → IsIn x (numbers (parameter_by x (role_of r.code) r.width))
      → IsIn x (held_numbers p)
  held_first x r is start m =
      subst (IsIn x) (sym (numbers_append first later))
      (in_left x (numbers first) (numbers later)
      (numbers_by (λ (y : ℕ). parameter_in y (op_at p.graph y)) x x (starting p) among
      (subst (λ o. IsIn x (numbers (parameter_in x o))) (sym is) m)))
    where
      first : List Held
      first = flat_map (λ (y : ℕ). parameter_in y (op_at p.graph y)) (starting p)

      later : List Held
      later = flat_map (λ (y : ℕ). held_in p y (op_at p.graph y)) (all_ops p.graph (up_to (length p.graph.blocks)))

      here : IsIn x (block_at p.graph r.block)
      here = (whole.ops r.block x).1 (subst (in_block r.block) (sym is) refl)

      among : IsIn x (starting p)
      among =
          order_in (λ y. start_rank (role_at (op_at p.graph) y)) x
          (only (λ y. is_start (role_at (op_at p.graph) y)) (all_ops p.graph (ids p.blocks)))
          (only_in (λ y. is_start (role_at (op_at p.graph) y)) x (all_ops p.graph (ids p.blocks))
          (in_all x r.block p (ids p.blocks) ((ssa.formed.all r.block).1 (in_low p r.block x here)) here)
          (ap (λ o. is_start (role_in o)) is ∙ start))

  -- Each value has one.
  pub value_placed : (v : ℕ) (r : OpRow) → op_at p.graph v ≡ Some r → 0 < bytes_of r.width → HasPlace v
  value_placed v r is wide = by_role (role_of r.code) r.width refl refl wide
    where
      in_later : (role : Role) (o : Option Width)
          → role_of r.code ≡ role
          → r.width ≡ o
          → IsIn v (numbers (held_by p v role o))
          → HasPlace v
      in_later role o same width m =
          inl (held_later v v r is
          (subst (λ z. IsIn v (numbers (held_by p v z r.width))) (sym same)
          (subst (λ z. IsIn v (numbers (held_by p v role z))) (sym width) m)))

      by_role : (role : Role) (o : Option Width) → role_of r.code ≡ role → r.width ≡ o → 0 < bytes_of o → HasPlace v
      by_role role None same width h = absurd (omega (arith, h))
      by_role (Constant n) (Some w) same width h =
          inr (_, ap constant_in is ∙ (λ i. constant_by (same i) (width i)))
      by_role (Starts s) (Some w) same width h =
          inl (held_first v r is (ap (λ z. is_start (Some z)) same)
          (subst (λ z. IsIn v (numbers (parameter_by v z r.width))) (sym same)
          (subst (λ z. IsIn v (numbers (parameter_by v (Starts s) z))) (sym width) (inl refl))))
      by_role role (Some w) same width h = in_later role (Some w) same width (inl refl)

  -- Each MULTIEQUAL has a second one.
  pub fresh_placed : (v : ℕ) (r : OpRow)
      → op_at p.graph v ≡ Some r
      → IsJoin (role_of r.code)
      → 0 < bytes_of r.width
      → IsIn (fresh p v) (held_numbers p)
  fresh_placed v r is join wide = held_later (fresh p v) v r is (by_role (role_of r.code) r.width join wide)
    where
      by_role : (role : Role) (o : Option Width)
          → IsJoin role
          → 0 < bytes_of o
          → IsIn (fresh p v) (numbers (held_by p v role o))
      by_role role None j h = absurd (omega (arith, h))
      by_role (Joins atom) (Some w) j h = inr (inl refl)
      by_role role (Some w) j h = absurd j
