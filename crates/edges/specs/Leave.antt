-- Out of SSA: MULTIEQUALs as copies. Each has a fresh variable beside its own. A block begins with `own = fresh` for
-- each of its MULTIEQUALs and ends with `fresh = input` for those of each block that its exit leads to; no edge
-- renames any more. This project's own.
use Rattle.std.specs.Prelude.{◌≡◌, ◌≢◌, ℕ, Bool, true, false, List, [], ◌∷◌, ◌++◌, Some, None}
use Rattle.pcode_model.specs.declared.listing.Listing.{Listing}
use Rattle.pcode_model.specs.World.{Entry}
use Rattle.cmeaning.specs.declared.tree.Stmt.{Stmt}
use Rattle.parts.specs.Exprs.{Holds, reads_all}
use Rattle.parts.specs.Stmts.{args_of}
use Rattle.edges.specs.Exits.{exit_args, LeadsTo}
use Rattle.edges.specs.Run.{Blocks, stmts_at, exit_at, Going}
use Rattle.edges.specs.Follow.{Needed, In, copies_of, laid}

-- is_head: whether a value is a MULTIEQUAL of a block.
-- heads: the MULTIEQUALs of a block.
-- next: each block that a block's exit leads to with each MULTIEQUAL of it.
-- fresh: the second variable of a MULTIEQUAL.
pub record Shape : Type 0 where
  pub is_head : ℕ → ℕ → Bool
  pub heads : ℕ → List ℕ
  pub next : ℕ → List (ℕ × ℕ)
  pub fresh : ℕ → ℕ

-- the statements read values alone
abbrev pub AreValues : (ℕ → Type 0) → List Stmt → Type 0
AreValues V [] = Unit {0}
AreValues V (a ∷ rest) = Needed (reads_all (args_of a)) V × AreValues V rest

abbrev pub input : Blocks → ℕ → ℕ × ℕ → ℕ
input k b x = k.through b x.0 x.1

-- the copies at the beginning and at the end of a block
abbrev pub ends_with : Shape → Blocks → ℕ → List Stmt
ends_with h k b = laid (copies_of (λ (x : ℕ × ℕ). h.fresh x.1) (input k b) (h.next b)) []

abbrev pub in_copies : Shape → Blocks → ℕ → List Stmt → List Stmt
in_copies h k b body = laid (copies_of (λ v. v) h.fresh (h.heads b)) (body ++ ends_with h k b)

-- V holds of the source's variables, and m is k with the copies. A MULTIEQUAL belongs to one block; the entry has none.
pub record IsLeft (V : ℕ → Type 0) (h : Shape) (k m : Blocks) : Type 0 where
  pub heads : (b v : ℕ) → In v (h.heads b) → V v × (h.is_head b v ≡ true)
  pub listed : (b v : ℕ) → h.is_head b v ≡ true → In v (h.heads b)
  pub home : (b c v : ℕ) → h.is_head b v ≡ true → h.is_head c v ≡ true → b ≡ c
  pub next : (b : ℕ) (x : ℕ × ℕ) → In x (h.next b) → LeadsTo (exit_at k b) x.0 × (h.is_head x.0 x.1 ≡ true)
  pub nexts : (b c v : ℕ) → LeadsTo (exit_at k b) c → h.is_head c v ≡ true → In (c, v) (h.next b)
  pub fresh : (v w : ℕ) → V v → v ≢ h.fresh w
  pub each : (v w : ℕ) → h.fresh v ≡ h.fresh w → v ≡ w
  pub values : (b c v : ℕ) → V v → V (k.through b c v)
  pub plain : (b c v : ℕ) → h.is_head c v ≡ false → k.through b c v ≡ v
  pub start : (v : ℕ) → h.is_head k.entry v ≡ false
  pub stmts : (b : ℕ) → AreValues V (stmts_at k b)
  pub exits : (b : ℕ) → Needed (reads_all (exit_args (exit_at k b))) V
  pub entry : k.entry ≡ m.entry
  pub first : (l : Listing) (e : Entry) (v : ℕ) → V v → m.first l e v ≡ k.first l e v
  pub widths : (v : ℕ) → V v → k.widths v ≡ m.widths v
  pub through : m.through ≡ (λ b c v. v)
  pub same : (b : ℕ) → exit_at m b ≡ exit_at k b
  pub body : (b : ℕ) → stmts_at m b ≡ in_copies h k b (stmts_at k b)

-- the blocks with these copies, whose edges rename nothing
abbrev pub left_of : Shape → Blocks → Blocks
left_of h k = record {
  entry = k.entry;
  widths = k.widths;
  first = k.first;
  block = λ b. Some (record { body = in_copies h k b (stmts_at k b); exit = exit_at k b });
  through = λ b c v. v;
}

-- What must be known of the source: a MULTIEQUAL has a word where its block begins, and each input where its block
-- ends. Where each MULTIEQUAL is live, strictness gives it.
pub record HasInputs (h : Shape) (k : Blocks) (s t : Going) : Type 0 where
  pub begins : s.local.world.over ≡ None
      → s.rest ≡ stmts_at k s.block
      → (v : ℕ) → In v (h.heads s.block) → Holds s.local.env v
  pub ends : s.local.world.over ≡ None
      → s.rest ≡ []
      → (x : ℕ × ℕ) → In x (h.next s.block) → Holds s.local.env (input k s.block x)
