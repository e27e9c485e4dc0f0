-- Ops of which nothing is seen: a function without them, and with them, shows the same.
use Rattle.std.specs.Prelude.{◌≡◌, ℕ, List, [], ◌∷◌}
use Rattle.pcode_model.specs.declared.listing.Listing.{Listing}
use Rattle.pcode_model.specs.World.{Entry}
use Rattle.cmeaning.specs.declared.tree.Stmt.{Stmt}
use Rattle.node_lists.specs.Chains.{IsIn}
use Rattle.parts.specs.Stmts.{action_of}
use Rattle.edges.specs.Follow.{IsQuiet}
use Rattle.edges.specs.Live.{IsDefined}
use Rattle.edges.specs.Laws.{Shows}
use Rattle.opgraph.specs.Graph.{op_at}
use Rattle.ssa_model.specs.declared.form.Parts.{Parts}
use Rattle.ssa_model.specs.Outline.{form}
use Rattle.ssa_model.specs.Drops.{AreUnread, without_ops}
use Rattle.ssa_model.specs.Lines.{line_of}
use Rattle.ssa_model.specs.Run.{blocks_of}

-- q is p without some ops, whose values they alone read. What they do is quiet: an assignment, a load, or what a call has
-- left; an entry value and a MULTIEQUAL do nothing at all.
pub record IsWithout (l : Listing) (p q : Parts) (xs : List ℕ) : Type 0 where
  pub edited : form q ≡ without_ops xs (form p)
  pub unread : AreUnread (op_at p.graph) xs
  pub quiet : (x : ℕ) (a : Stmt) → IsIn x xs → line_of l x (op_at p.graph x) ≡ a ∷ [] → IsQuiet (action_of a)

-- Without them the function shows what it shows with them, from each entry from which it doesn't end Undefined.
abbrev pub WithoutQuietShows : Listing → Parts → Parts → Type 0
WithoutQuietShows l p q =
    (xs : List ℕ)
    → IsWithout l p q xs
    → (e : Entry)
    → IsDefined l (blocks_of l p) e
    → Shows l (blocks_of l p) (blocks_of l q) e
