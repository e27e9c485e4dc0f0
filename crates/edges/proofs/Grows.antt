-- The run of blocks only adds to what it has shown.
use Rattle.std.proofs.Common.{◌≡◌, ℕ, List, [], ◌∷◌, Option, Some, None, refl}
use Rattle.machine.specs.Trace.{End}
use Rattle.machine.specs.TwoWay.{IsFront}
use Rattle.machine.specs.Machine.{IsMonotone}
use Rattle.machine.proofs.TwoWay.{front_of_going, front_refl}
use Rattle.pcode_model.specs.declared.listing.Listing.{Listing}
use Rattle.pcode_model.specs.World.{shown, unless_over}
use Rattle.pcode_laws.proofs.Grows.{Adds, adds_none}
use Rattle.cmeaning.specs.declared.tree.Stmt.{Stmt}
use Rattle.cmeaning.specs.Do.{Local, values_of}
use Rattle.blockcode.proofs.Grows.{adds_simple}
use Rattle.parts.specs.Exprs.{all_of}
use Rattle.edges.specs.Exits.{exit_args, Where, Onto, Out, leads}
use Rattle.edges.specs.Run.{Blocks, exit_at, returns_at, Going, arrives, leaves, exec, blocks_machine}

adds_arrives : (k : Blocks) (b : ℕ) (h : Where) (x : Local) → Adds x.world (arrives k b h x).local.world
adds_arrives k b (Onto c) x = adds_none x.world
adds_arrives k b (Out e) x = adds_none x.world

adds_leaves : (k : Blocks) (b : ℕ) (o : Option (List ℕ)) (x : Local) → Adds x.world (leaves k b o x).local.world
adds_leaves k b None x = adds_none x.world
adds_leaves k b (Some ns) x = adds_arrives k b (leads (exit_at k b) ns) x

adds_exec : (l : Listing) (k : Blocks) (b : ℕ) (rest : List Stmt) (x : Local)
    → Adds x.world (exec l k b rest x).local.world
adds_exec l k b [] x = adds_leaves k b (all_of (values_of k.widths x.env (exit_args (exit_at k b)))) x
adds_exec l k b (a ∷ rest) x = adds_simple l k.widths (returns_at k b rest) a x

grows_at : (o : Option End) (s t : Going)
    → s.local.world.over ≡ o
    → Adds s.local.world t.local.world
    → IsFront (shown s.local.world) (shown (unless_over o s t).local.world)
grows_at None s t e h = front_of_going (shown s.local.world) (shown t.local.world) e h
grows_at (Some x) s t e h = front_refl (shown s.local.world)

-- So runs of blocks can be compared both ways.
pub blocks_grow : (l : Listing) (k : Blocks) → IsMonotone (blocks_machine l k)
blocks_grow l k s = grows_at s.local.world.over s (exec l k s.block s.rest s.local) refl
    (adds_exec l k s.block s.rest s.local)
