-- What is in a graph, by its lists.
use Rattle.std.proofs.Common.{◌≡◌, ℕ, ◌↔◌, Option, Some, None, IsSome, IfSome, sym, subst, refl}
use Rattle.bits_core.specs.declared.word.Width.{Width}
use Rattle.opgraph.specs.declared.code.Body.{Body}
use Rattle.node_lists.specs.Families.{Family, key_at}
use Rattle.node_lists.specs.Chains.{IsIn}
use Rattle.opgraph.specs.Graph.{OpRow, Graph, op_at, block_at, in_block, IsWhole, IsOp, has_width}
use Rattle.opgraph.specs.Parts.{graph_of, Good}
use Rattle.heap_nodes.proofs.Places.{some_of}
use Rattle.opgraph.proofs.Tables.{op_at_is, value_of}
use Rattle.opgraph.proofs.Whole.{row_is}
use Rattle.opgraph.proofs.SlotEdits.{op_key}

-- an op is in the graph where it is in a block
pub op_there : (o : Family Body) (i : Family ℕ) (u : Family (Unit {0}))
    → Good o i u
    → (x : ℕ)
    → IsSome (key_at o x) ↔ IsOp (graph_of o i u) x
op_there o i u g x = (there, λ h. some_of (op_key o i u g x h).1)
  where
    there : IsSome (key_at o x) → IsOp (graph_of o i u) x
    there h =
        let k = value_of (key_at o x) h in let r = row_is o i u g x k.0 k.1 in
        subst (λ (f : ℕ → Option OpRow). IsSome (f x)) (sym (op_at_is o i u)) (some_of r.2)

-- an op has a value where it has a width
pub width_there : (r : Option OpRow) (w : Option Width)
    → IsSome r
    → IfSome r (λ z. w ≡ z.width)
    → IsSome w ↔ has_width r
width_there None w h e = absurd (Rattle.std.proofs.Common.true≢false (sym h))
width_there (Some r) w h e = (subst IsSome e, subst IsSome (sym e))

-- a value is that of an op
pub has_op : (r : Option OpRow) → has_width r → IsSome r
has_op None h = absurd h
has_op (Some r) h = refl

-- what is in a block is an op
pub op_in_block : (g : Graph)
    → IsWhole g
    → (b x : ℕ)
    → IsIn x (block_at g b)
    → IsOp g x
op_in_block g w b x m = by_row (op_at g x) ((w.ops b x).0 m)
  where
    by_row : (r : Option OpRow) → in_block b r → IsSome r
    by_row None h = absurd h
    by_row (Some r) h = refl
