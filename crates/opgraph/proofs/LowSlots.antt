-- The slots that read a value have numbers of slots, and those of an op have numbers of uses.
use Rattle.std.proofs.Common.{◌≡◌, ℕ, ◌<◌, List, [], ◌∷◌, length, map, inl, inr, Some, refl, ap}
use Rattle.opgraph.specs.declared.code.Body.{Body}
use Rattle.node_lists.specs.Chains.{IsIn}
use Rattle.node_lists.specs.Families.{Family, list_at, key_at}
use Rattle.opgraph.specs.Graph.{value_ids}
use Rattle.opgraph.specs.Parts.{Good, AreLow, value_read, or_zero}
use Rattle.heap_nodes.proofs.Places.{some_of}
use Rattle.opgraph.proofs.Tables.{value_of}

are_low : (ps : List ℕ) (n : ℕ) → ((s : ℕ) → IsIn s ps → s < n) → AreLow ps n
are_low [] n h = tt
are_low (p ∷ ps) n h = (h p (inl refl), are_low ps n (λ s m. h s (inr m)))

pub low_uses : (o : Family Body) (i : Family ℕ) (u : Family (Unit {0}))
    → Good o i u
    → (v : ℕ)
    → AreLow (list_at u (Some v)) (length i.held)
low_uses o i u g v =
    are_low (list_at u (Some v)) (length i.held) (λ s m.
    let x = value_of (key_at i s) (g.spare s (some_of (g.full_uses.members (Some v) s m).1)) in
    g.full_inputs.low s x.0 x.1)

-- the slots of an op have numbers of uses
pub low_inputs : (o : Family Body) (i : Family ℕ) (u : Family (Unit {0}))
    → Good o i u
    → (x : ℕ)
    → AreLow (list_at i (Some x)) (length u.held)
low_inputs o i u g x =
    are_low (list_at i (Some x)) (length u.held) (λ s m.
    let v = value_of (key_at u s) (g.reads s (some_of (g.full_inputs.members (Some x) s m).1)) in
    g.full_uses.low s v.0 v.1)

pub read_by_number : (u : Family (Unit {0})) (ps : List ℕ)
    → map (value_read u) ps ≡ value_ids (map (λ s. or_zero (key_at u s)) ps)
read_by_number u [] = refl
read_by_number u (p ∷ ps) = ap (λ vs. value_read u p ∷ vs) (read_by_number u ps)
