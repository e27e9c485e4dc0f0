-- All nodes of one list go to another.
use Rattle.std.proofs.Common.{◌≡◌, ℕ, ◌<◌, List, [], ◌∷◌, length, inl, inr, Option, Some, None, refl, sym, ap, ◌∙◌, subst, cond, arith}
use Rattle.std.proofs.lemmas.Bool.{cases_eq}
use Rattle.node_lists.specs.Chains.{IsIn, removed, head_or}
use Rattle.node_lists.proofs.Chains.{put_here, put_away, key_away, same_key_not, same_key_refl, head_none}
use Rattle.node_lists.proofs.Families.{length_less}
use Rattle.node_lists.specs.Families.{Family, list_at, key_at, IsFull, Moved}
use Rattle.opgraph.specs.Parts.{moved_key, MovedAll}
use Rattle.heap_nodes.proofs.Places.{some_same, none_some}

-- so far: a node that has moved had the list `before`
pub record SoFar (before after : ℕ) (old now : Family (Unit {0})) : Type 0 where
  pub held : now.held ≡ old.held
  pub count : length now.lists ≡ length old.lists
  pub keys : (s : ℕ) → moved_key before after (key_at now s) ≡ moved_key before after (key_at old s)
  pub full : IsFull now

module _ (before after : ℕ) (far : before ≡ after → ⊥) where
  pub stays : (k : Option ℕ) → (k ≡ Some before → ⊥) → moved_key before after k ≡ k
  stays k n = ap (λ t. cond t (Some after) k) (same_key_not k (Some before) n)

  goes : moved_key before after (Some before) ≡ Some after
  goes = ap (λ t. cond t (Some after) (Some before)) (same_key_refl (Some before))

  module _ (s : ℕ) (old now next : Family (Unit {0})) (e : head_or (list_at now (Some before)) None ≡ Some s)
      (m : Moved s (Some after) (s ∷ removed s (list_at now (Some after))) now next) (f : SoFar before after old now)
    where
      member : IsIn s (list_at now (Some before))
      member = head_none (list_at now (Some before)) s e

      pub in_low : s < length now.held
      in_low = (f.full.members (Some before) s member).0

      pub step : SoFar before after old next
      step = record {
        held = m.held ∙ f.held;
        count = m.count ∙ f.count;
        keys =
            λ t.
            elim (cases_eq s t) [
              | inl d ↦
                  ap (moved_key before after)
                  (ap (λ (h : ℕ → Option ℕ). h t) m.keys ∙ put_here (Some after) (Some s) (key_at now) t (ap Some d))
                  ∙ stays (Some after) (λ z. far (some_same (sym z)))
                  ∙ sym goes
                  ∙ ap (moved_key before after) (sym (f.full.members (Some before) s member).1 ∙ ap (key_at now) d)
                  ∙ f.keys t
              | inr n ↦
                  ap (moved_key before after)
                  (ap (λ (h : ℕ → Option ℕ). h t) m.keys
                  ∙ put_away (Some after) (Some s) (key_at now) t (λ z. n (some_same z)))
                  ∙ f.keys t
            ];
        full = m.full;
      }

      pub shorter : length (list_at next (Some before)) < length (list_at now (Some before))
      shorter =
          let l =
          ap (λ (h : Option ℕ → List ℕ). h (Some before)) m.lists
          ∙ key_away (s ∷ removed s (list_at now (Some after))) (Some after)
          (λ j. removed s (list_at now j))
          (Some before)
          (λ z. far (some_same (sym z))) in
          let a = ap length l in let b = length_less s (list_at now (Some before)) member in omega arith

  module _ (old now : Family (Unit {0})) (e : head_or (list_at now (Some before)) None ≡ None)
      (f : SoFar before after old now) where
    empty : (ps : List ℕ) → head_or ps None ≡ None → ps ≡ []
    empty [] z = refl
    empty (p ∷ ps) z = none_some (sym z)

    none_left : (s : ℕ) → key_at now s ≡ Some before → ⊥
    none_left s k =
        subst (IsIn s) (empty (list_at now (Some before)) e)
        (subst (λ j. IsIn s (list_at now j)) k (f.full.everyone s (f.full.low s before k)))

    pub all : MovedAll before after old now
    all = record {
      held = f.held;
      keys = λ s. sym (stays (key_at now s) (none_left s)) ∙ f.keys s;
      count = f.count;
      none = empty (list_at now (Some before)) e;
      full = f.full;
    }

pub start : (before after : ℕ) (old : Family (Unit {0})) → IsFull old → SoFar before after old old
start before after old f = record { held = refl; count = refl; keys = λ s. refl; full = f }
