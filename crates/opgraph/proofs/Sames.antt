-- Edits one after another.
use Rattle.std.proofs.Common.{◌≡◌, ℕ, List, [], ◌∷◌, inl, inr, Option, Some, None, IsSome, refl, sym, ap, ◌∙◌, subst}
use Rattle.std.proofs.Math.Path.{fun_ext}
use Rattle.std.proofs.lemmas.Bool.{cases_eq}
use Rattle.node_lists.specs.Chains.{put_at}
use Rattle.node_lists.proofs.Chains.{put_here, put_away}
use Rattle.opgraph.specs.Graph.{OpRow, Graph, op_at, block_at, uses_at, IsOp, IsValue, AreValues, Same, Rewritten, Added, Removed, inputs_in, has_width}
use Rattle.heap_nodes.proofs.Places.{some_same}

pub same_refl : (g : Graph) → Same g g
same_refl g = record { ops = refl; blocks = refl; count = refl; uses = refl }

pub same_trans : (g h k : Graph) → Same g h → Same h k → Same g k
same_trans g h k a b = record {
  ops = b.ops ∙ a.ops;
  blocks = b.blocks ∙ a.blocks;
  count = b.count ∙ a.count;
  uses = b.uses ∙ a.uses;
}

module _ {X : Type 0} (x : ℕ) (a b : X) (f : ℕ → X) where
  pub put_twice : put_at (Some x) a (put_at (Some x) b f) ≡ put_at (Some x) a f
  put_twice =
      fun_ext (λ y.
      elim (cases_eq x y) [
        | inl e ↦
            put_here a (Some x) (put_at (Some x) b f) y (ap Some e) ∙ sym (put_here a (Some x) f y (ap Some e))
        | inr n ↦
            put_away a (Some x) (put_at (Some x) b f) y (λ e. n (some_same e))
            ∙ put_away b (Some x) f y (λ e. n (some_same e))
            ∙ sym (put_away a (Some x) f y (λ e. n (some_same e)))
      ])

pub row_after : (x : ℕ) (r : OpRow) (g h : Graph) → Rewritten x r g h → op_at h x ≡ Some r
row_after x r g h w = ap (λ (f : ℕ → Option OpRow). f x) w.ops ∙ put_here (Some r) (Some x) (op_at g) x refl

pub rewritten_trans : (x : ℕ) (r s : OpRow) (g h k : Graph) → Rewritten x r g h → Rewritten x s h k → Rewritten x s g k
rewritten_trans x r s g h k a b = record {
  ops = b.ops ∙ ap (put_at (Some x) (Some s)) a.ops ∙ put_twice x (Some s) (Some r) (op_at g);
  blocks = b.blocks ∙ a.blocks;
  count = b.count ∙ a.count;
  whole = b.whole;
}

-- values stay where no width changes
pub value_stays : (x : ℕ) (r s : OpRow) (g h : Graph)
    → op_at g x ≡ Some r
    → s.width ≡ r.width
    → Rewritten x s g h
    → (v : ℕ)
    → IsValue g v
    → IsValue h v
value_stays x r s g h e w a v q =
    subst has_width (sym (ap (λ (f : ℕ → Option OpRow). f v) a.ops))
    (elim (cases_eq x v) [
      | inl d ↦
          subst has_width (sym (put_here (Some s) (Some x) (op_at g) v (ap Some d)))
          (subst IsSome (sym w) (subst has_width (ap (op_at g) (sym d) ∙ e) q))
      | inr n ↦ subst has_width (sym (put_away (Some s) (Some x) (op_at g) v (λ z. n (some_same z)))) q
    ])

pub values_stay : (g h : Graph) → ((v : ℕ) → IsValue g v → IsValue h v) → (vs : List ℕ)
    → AreValues g vs
    → AreValues h vs
values_stay g h f [] a = tt
values_stay g h f (v ∷ vs) a = (f v a.0, values_stay g h f vs a.1)

pub same_op : (x : ℕ) (g h : Graph) → Same g h → IsOp g x → IsOp h x
same_op x g h s o = subst (λ (f : ℕ → Option OpRow). IsSome (f x)) (sym s.ops) o

pub same_value : (g h : Graph) → Same g h → (v : ℕ) → IsValue g v → IsValue h v
same_value g h s v q = subst (λ (f : ℕ → Option OpRow). has_width (f v)) (sym s.ops) q

pub added_op : (x : ℕ) (row : OpRow) (ps : List ℕ) (g h : Graph) → Added x row ps g h → op_at h x ≡ Some row
added_op x row ps g h a = ap (λ (f : ℕ → Option OpRow). f x) a.ops ∙ put_here (Some row) (Some x) (op_at g) x refl

pub added_value : (x : ℕ) (row : OpRow) (ps : List ℕ) (g h : Graph)
    → Added x row ps g h
    → (v : ℕ)
    → IsValue g v
    → IsValue h v
added_value x row ps g h a v q =
    let other : x ≡ v → ⊥ = λ e. subst has_width (ap (op_at g) (sym e) ∙ a.fresh) q in
    subst has_width
    (sym
    (ap (λ (f : ℕ → Option OpRow). f v) a.ops ∙ put_away (Some row) (Some x) (op_at g) v (λ e. other (some_same e))))
    q

-- room is made, and then the op is there
pub added_after : (x : ℕ) (row : OpRow) (ps qs : List ℕ) (g h k : Graph)
    → Same g h
    → Added x row ps h k
    → ps ≡ qs
    → Added x row qs g k
added_after x row ps qs g h k s a e = record {
  fresh = ap (λ (f : ℕ → Option OpRow). f x) (sym s.ops) ∙ a.fresh;
  ops = a.ops ∙ ap (put_at (Some x) (Some row)) s.ops;
  blocks = a.blocks ∙ (λ j. put_at (Some row.block) (e j) (s.blocks j));
  count = a.count ∙ s.count;
  whole = a.whole;
}

-- and then it has its inputs
pub added_then : (x : ℕ) (row now : OpRow) (ps : List ℕ) (g h k : Graph)
    → Added x row ps g h
    → Rewritten x now h k
    → now.block ≡ row.block
    → Added x now ps g k
added_then x row now ps g h k a w e = record {
  fresh = a.fresh;
  ops = w.ops ∙ ap (put_at (Some x) (Some now)) a.ops ∙ put_twice x (Some now) (Some row) (op_at g);
  blocks = w.blocks ∙ a.blocks ∙ ap (λ b. put_at (Some b) ps (block_at g)) (sym e);
  count = w.count ∙ a.count;
  whole = w.whole;
}

pub rewritten_after : (x : ℕ) (row : OpRow) (g h k : Graph) → Same g h → Rewritten x row h k → Rewritten x row g k
rewritten_after x row g h k s w = record {
  ops = w.ops ∙ ap (put_at (Some x) (Some row)) s.ops;
  blocks = w.blocks ∙ s.blocks;
  count = w.count ∙ s.count;
  whole = w.whole;
}

pub removed_after : (x : ℕ) (r now : OpRow) (g h k : Graph)
    → Rewritten x now g h
    → Removed x now h k
    → now.block ≡ r.block
    → Removed x r g k
removed_after x r now g h k w m e = record {
  ops = m.ops ∙ ap (put_at (Some x) None) w.ops ∙ put_twice x None (Some now) (op_at g);
  blocks =
      m.blocks ∙ (λ j. put_at (Some (e j)) (Rattle.node_lists.specs.Chains.removed x (w.blocks j (e j))) (w.blocks j));
  count = m.count ∙ w.count;
  whole = m.whole;
}

none_among : (us : List Rattle.opgraph.specs.declared.ids.Slot.Slot)
    → ((t : Rattle.opgraph.specs.declared.ids.Slot.Slot) → Rattle.opgraph.specs.Graph.IsAmong t us → ⊥)
    → us ≡ []
none_among [] n = refl
none_among (u ∷ us) n = absurd (n u (inl refl))

-- a value without uses has none where fewer slots read
pub unused_after : (x : ℕ) (r : OpRow) (g h : Graph)
    → Rattle.opgraph.specs.Graph.IsWhole g
    → Rewritten x (record r { inputs = [] }) g h
    → uses_at g x ≡ []
    → uses_at h x ≡ []
unused_after x r g h w a e = none_among (uses_at h x) (λ t m. old t (a.whole.uses x t).0 m)
  where
    old : (t : Rattle.opgraph.specs.declared.ids.Slot.Slot)
        → (Rattle.opgraph.specs.Graph.IsAmong t (uses_at h x) → Rattle.opgraph.specs.Graph.Reads h t x)
        → Rattle.opgraph.specs.Graph.IsAmong t (uses_at h x)
        → ⊥
    old t f m =
        elim (cases_eq x t.op.0) [
          | inl d ↦
              Rattle.heap_nodes.proofs.Places.none_some
              (sym
              (ap (λ z. Rattle.std.proofs.Common.slice_get (inputs_in z) t.slot)
              (ap (op_at h) (sym d) ∙ row_after x (record r { inputs = [] }) g h a))
              ∙ f m)
          | inr n ↦
              subst (Rattle.opgraph.specs.Graph.IsAmong t) e
              ((w.uses x t).1
              (ap (λ z. Rattle.std.proofs.Common.slice_get (inputs_in z) t.slot)
              (sym
              (ap (λ (q : ℕ → Option OpRow). q t.op.0) a.ops
              ∙ put_away (Some (record r { inputs = [] })) (Some x) (op_at g) t.op.0 (λ z. n (some_same z))))
              ∙ f m))
        ]
