-- Edits of one op, slot by slot.
use Rattle.std.proofs.Common.{◌≡◌, ℕ, zero, suc, ◌+◌, ◌-◌, ◌<◌, ◌≤◌, List, [], ◌∷◌, ◌++◌, length, take, inl, inr, Some, IsSome, refl, sym, ap, ◌∙◌, subst, arith, append_assoc}
use Rattle.std.proofs.Math.Path.{fun_ext}
use Rattle.std.proofs.lemmas.Bool.{cases_eq}
use Rattle.std.proofs.lemmas.List.{append-nil}
use Rattle.node_lists.specs.Chains.{put_at}
use Rattle.node_lists.proofs.Chains.{put_here, put_away}
use Rattle.opgraph.specs.declared.ids.ValueId.{ValueId}
use Rattle.opgraph.specs.Graph.{OpRow, Graph, op_at, IsOp, IsValue, IsWhole, AreValues, numbers, Rewritten, inputs_in, front}
use Rattle.heap_nodes.proofs.Places.{some_same}
use Rattle.opgraph.proofs.Tables.{value_of}
use Rattle.opgraph.proofs.Sames.{row_after, rewritten_trans, value_stays}

put_same : (x : ℕ) (r : OpRow) (g : Graph) → op_at g x ≡ Some r → op_at g ≡ put_at (Some x) (Some r) (op_at g)
put_same x r g e =
    fun_ext (λ y.
    elim (cases_eq x y) [
      | inl d ↦ ap (op_at g) (sym d) ∙ e ∙ sym (put_here (Some r) (Some x) (op_at g) y (ap Some d))
      | inr n ↦ sym (put_away (Some r) (Some x) (op_at g) y (λ z. n (some_same z)))
    ])

still : (x : ℕ) (r s : OpRow) (g : Graph) → IsWhole g → op_at g x ≡ Some r → r ≡ s → Rewritten x s g g
still x r s g w e d = record { ops = put_same x s g (e ∙ ap Some d); blocks = refl; count = refl; whole = w }

-- so far: the op has these inputs more
abbrev pub Extended : ℕ → List ℕ → Graph → Graph → Type 0
Extended x vs g h = (r : OpRow) → op_at g x ≡ Some r → Rewritten x (record r { inputs = r.inputs ++ vs }) g h

pub extended_none : (x : ℕ) (g : Graph) → IsWhole g → Extended x [] g g
extended_none x g w r e =
    still x r (record r { inputs = r.inputs ++ [] }) g w e (λ j. record r { inputs = sym (append-nil r.inputs) j })

pub extended_op : (x : ℕ) (vs : List ℕ) (g h : Graph) → IsOp g x → Extended x vs g h → IsOp h x
extended_op x vs g h o f =
    let r = value_of (op_at g x) o in
    subst IsSome (sym (row_after x (record r.0 { inputs = r.0.inputs ++ vs }) g h (f r.0 r.1))) refl

pub extended_value : (x : ℕ) (vs : List ℕ) (g h : Graph)
    → IsOp g x
    → Extended x vs g h
    → (v : ℕ)
    → IsValue g v
    → IsValue h v
extended_value x vs g h o f v q =
    let r = value_of (op_at g x) o in
    value_stays x r.0 (record r.0 { inputs = r.0.inputs ++ vs }) g h r.1 refl (f r.0 r.1) v q

pub extended_more : (x v : ℕ) (vs ws : List ℕ) (g h k : Graph)
    → Extended x vs g h
    → Extended x (v ∷ []) h k
    → vs ++ v ∷ [] ≡ ws
    → Extended x ws g k
extended_more x v vs ws g h k f m d r e =
    let s : OpRow = record r { inputs = r.inputs ++ vs } in let a = f r e in let b = m s (row_after x s g h a) in
    let z : r.inputs ++ vs ++ v ∷ [] ≡ r.inputs ++ ws =
    append_assoc r.inputs vs (v ∷ []) ∙ ap (λ us. r.inputs ++ us) d in
    subst (λ us. Rewritten x (record r { inputs = us }) g k) z
    (rewritten_trans x s (record s { inputs = s.inputs ++ v ∷ [] }) g h k a b)

-- so far: the op has these many inputs less
abbrev pub Shortened : ℕ → ℕ → Graph → Graph → Type 0
Shortened x n g h =
    (r : OpRow) → op_at g x ≡ Some r → Rewritten x (record r { inputs = take (length r.inputs - n) r.inputs }) g h

take_all : (xs : List ℕ) (n : ℕ) → n ≡ length xs → take n xs ≡ xs
take_all xs n e = ap (λ k. take k xs) e ∙ here xs
  where
    here : (ys : List ℕ) → take (length ys) ys ≡ ys
    here [] = refl
    here (y ∷ ys) = ap (λ zs. y ∷ zs) (here ys)

front_take : (n : ℕ) (xs : List ℕ) → suc n ≤ length xs → front (take (suc n) xs) ≡ take n xs
front_take n [] h = absurd (omega arith)
front_take zero (x ∷ xs) h = refl
front_take (suc n) (x ∷ []) h = absurd (omega arith)
front_take (suc n) (x ∷ y ∷ ys) h = ap (λ zs. x ∷ zs) (front_take n (y ∷ ys) (omega arith))

pub shortened_none : (x : ℕ) (g : Graph) → IsWhole g → Shortened x 0 g g
shortened_none x g w r e =
    still x r (record r { inputs = take (length r.inputs - 0) r.inputs }) g w e
    (λ j. record r { inputs = sym (take_all r.inputs (length r.inputs - 0) (omega arith)) j })

pub shortened_op : (x n : ℕ) (g h : Graph) → IsOp g x → Shortened x n g h → IsOp h x
shortened_op x n g h o f =
    let r = value_of (op_at g x) o in
    subst IsSome (sym (row_after x (record r.0 { inputs = take (length r.0.inputs - n) r.0.inputs }) g h (f r.0 r.1)))
    refl

length_take : (n : ℕ) (xs : List ℕ) → n ≤ length xs → length (take n xs) ≡ n
length_take zero xs h = refl
length_take (suc n) [] h = absurd (omega arith)
length_take (suc n) (x ∷ xs) h = ap suc (length_take n xs (omega arith))

pub shortened_some : (x n : ℕ) (g h : Graph)
    → IsOp g x
    → Shortened x n g h
    → n < length (inputs_in (op_at g x))
    → 0 < length (inputs_in (op_at h x))
shortened_some x n g h o f low =
    let r = value_of (op_at g x) o in
    let a = row_after x (record r.0 { inputs = take (length r.0.inputs - n) r.0.inputs }) g h (f r.0 r.1) in
    let low' : n < length r.0.inputs = subst (λ z. n < length (inputs_in z)) r.1 low in
    let l = length_take (length r.0.inputs - n) r.0.inputs (omega arith) in
    subst (λ z. 0 < length (inputs_in z)) (sym a) (subst (λ z. 0 < z) (sym l) (omega arith))

pub shortened_more : (x n : ℕ) (g h k : Graph)
    → Shortened x n g h
    → ((r : OpRow) → op_at h x ≡ Some r → Rewritten x (record r { inputs = front r.inputs }) h k)
    → n < length (inputs_in (op_at g x))
    → Shortened x (n + 1) g k
shortened_more x n g h k f m low r e =
    let s : OpRow = record r { inputs = take (length r.inputs - n) r.inputs } in
    let a = f r e in let b = m s (row_after x s g h a) in
    let low' : n < length r.inputs = subst (λ z. n < length (inputs_in z)) e low in
    let one : length r.inputs - n ≡ suc (length r.inputs - (n + 1)) = omega arith in
    let z : front (take (length r.inputs - n) r.inputs) ≡ take (length r.inputs - (n + 1)) r.inputs =
    ap (λ c. front (take c r.inputs)) one ∙ front_take (length r.inputs - (n + 1)) r.inputs (omega arith) in
    subst (λ us. Rewritten x (record r { inputs = us }) g k) z
    (rewritten_trans x s (record s { inputs = front s.inputs }) g h k a b)

pub shortened_all : (x n : ℕ) (g h : Graph)
    → n ≡ length (inputs_in (op_at g x))
    → Shortened x n g h
    → (r : OpRow)
    → op_at g x ≡ Some r
    → Rewritten x (record r { inputs = [] }) g h
shortened_all x n g h d f r e =
    let none : length r.inputs - n ≡ 0 = let q = d ∙ ap (λ z. length (inputs_in z)) e in omega arith in
    subst (λ c. Rewritten x (record r { inputs = take c r.inputs }) g h) none (f r e)

-- the values of a list, one by one

pub value_at : (g : Graph) (vs : List ValueId) (k : ℕ)
    → AreValues g (numbers vs)
    → k < length vs
    → IsValue g (Rattle.std.proofs.Common.get_or vs k (record { 0 = 0 })).0
value_at g [] k a low = absurd (omega arith)
value_at g (v ∷ vs) zero a low = a.0
value_at g (v ∷ vs) (suc k) a low = value_at g vs k a.1 (omega arith)

pub numbers_more : (vs : List ValueId) (k : ℕ)
    → k < length vs
    → numbers (take k vs) ++ (Rattle.std.proofs.Common.get_or vs k (record { 0 = 0 })).0 ∷ []
    ≡ numbers (take (k + 1) vs)
numbers_more vs k low = more vs k low ∙ (let e : suc k ≡ k + 1 = omega arith in ap (λ n. numbers (take n vs)) e)
  where
    more : (ws : List ValueId) (n : ℕ)
        → n < length ws
        → numbers (take n ws) ++ (Rattle.std.proofs.Common.get_or ws n (record { 0 = 0 })).0 ∷ []
        ≡ numbers (take (suc n) ws)
    more [] n h = absurd (omega arith)
    more (w ∷ ws) zero h = refl
    more (w ∷ ws) (suc n) h = ap (λ us. w.0 ∷ us) (more ws n (omega arith))
