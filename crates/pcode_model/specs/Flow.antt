-- The places that a run can come to, the faults of the flow, and the blocks. This project's own; where branches lead is
-- the P-Code Reference Manual's, BRANCH, CBRANCH and BRANCHIND.
use Rattle.std.specs.Prelude.{◌≡◌, ℕ, ◌+◌, ◌<◌, ◌≤◌, ◌==◌, Bool, true, false, if◌then◌else◌, List, [], ◌∷◌, ◌++◌, slice_get, Option, Some, None, ◌⊎◌, ◌↔◌}
use Rattle.pcode_model.specs.declared.listing.Instruction.{Instruction}
use Rattle.pcode_model.specs.declared.listing.Place.{Place}
use Rattle.pcode_model.specs.declared.listing.Varnode.{Varnode}
use Rattle.pcode_model.specs.declared.listing.Listing.{Listing}
use Rattle.pcode_model.specs.declared.opcode.Opcode.{Opcode}
use Rattle.pcode_model.specs.declared.opcode.Opcode.TheVariants as O
use Rattle.pcode_model.specs.declared.tables.Case.{Case}
use Rattle.pcode_model.specs.declared.tables.Table.{Table}
use Rattle.pcode_model.specs.declared.tables.TableAt.{TableAt}
use Rattle.pcode_model.specs.declared.flow.Turn.{Turn}
use Rattle.pcode_model.specs.declared.flow.Turn.TheVariants.{GoesOn, Returns, Stops, Branches, Tests, Switches}
use Rattle.pcode_model.specs.declared.flow.FlowWhy.{FlowWhy}
use Rattle.pcode_model.specs.declared.flow.FlowWhy.TheVariants.{BadRelative, NoTarget, FallsOff, NoTable, TableEntered}
use Rattle.pcode_model.specs.declared.flow.Exit.{Exit}
use Rattle.pcode_model.specs.declared.flow.Exit.TheVariants.{Return, Jump, Test, Switch, Stop}
use Rattle.pcode_model.specs.declared.flow.Block.{Block}
use Rattle.pcode_model.specs.Places.{Standing, Nothing, Passes, Does, standing, place, next_place, next_instruction, relative_place, branch_place}
use Rattle.pcode_model.specs.Step.{callee_at, returns, varnode_at, first_place}

abbrev pub IsIn : {A : Type 0} → A → List A → Type 0
IsIn x [] = ⊥
IsIn x (y ∷ ys) = (x ≡ y) ⊎ IsIn x ys

-- ---- the order of places

-- by address, and at one address by index
abbrev pub IsBefore : Place → Place → Type 0
IsBefore p q = (p.address < q.address) ⊎ ((p.address ≡ q.address) × (p.index < q.index))

-- each place comes before the one that follows it
abbrev pub Rising : List Place → Type 0
Rising [] = Unit {0}
Rising (p ∷ []) = Unit {0}
Rising (p ∷ q ∷ rest) = IsBefore p q × Rising (q ∷ rest)

-- each instruction has a length, and ends before the next one begins or where it begins
abbrev pub AreApart : List Instruction → Type 0
AreApart [] = Unit {0}
AreApart (i ∷ []) = 0 < i.length
AreApart (i ∷ j ∷ rest) = (0 < i.length) × ((i.address + i.length ≤ j.address) × AreApart (j ∷ rest))

-- ---- how a run goes on after an op

abbrev pub call_turn : Bool → Turn
call_turn true = GoesOn
call_turn false = Stops

abbrev pub turn_of : Listing → Opcode → List Varnode → Turn
turn_of l O.Branch vs = Branches (varnode_at vs 0)
turn_of l O.CBranch vs = Tests (varnode_at vs 0)
turn_of l O.BranchInd vs = Switches
turn_of l O.Call vs = call_turn (returns (callee_at l (varnode_at vs 0).offset))
turn_of l O.Return vs = Returns
turn_of l code vs = GoesOn

-- An instruction without ops is passed.
abbrev pub turn_in : Listing → Standing → Turn
turn_in l Nothing = Stops
turn_in l (Passes i) = GoesOn
turn_in l (Does i op) = turn_of l op.code op.inputs

abbrev pub turn_at : Listing → Place → Turn
turn_at l p = turn_in l (standing l p)

abbrev pub is_branch : Turn → Bool
is_branch GoesOn = false
is_branch Returns = false
is_branch Stops = false
is_branch (Branches to) = true
is_branch (Tests to) = true
is_branch Switches = true

-- the place after what stands at an index
abbrev pub next_in : Standing → ℕ → Option Place
next_in Nothing n = None
next_in (Passes i) n = Some (next_instruction i)
next_in (Does i op) n = Some (next_place i n)

-- ---- edges

-- What stands at a place has ways on: to a place, or, by a fault, nowhere.
pub data Way : Type 0 where
  Leads : Place → Way
  Fails : FlowWhy → Way

abbrev pub stands_by : Standing → Bool
stands_by Nothing = false
stands_by (Passes i) = true
stands_by (Does i op) = true

-- whether an op or an instruction without ops stands at a place
abbrev pub stands : Listing → Place → Bool
stands l p = stands_by (standing l p)

-- to a place, or by this fault nowhere where nothing stands there
abbrev pub way_to : Listing → FlowWhy → Place → Way
way_to l why q = if stands l q then Leads q else Fails why

-- A relative branch stays in its instruction, or goes to the next one, which must stand there.
abbrev pub relative_way : Listing → Option Place → Way
relative_way l None = Fails BadRelative
relative_way l (Some q) = way_to l FallsOff q

-- a branch at an index of an instruction to this destination
abbrev pub branch_way : Listing → Instruction → ℕ → Varnode → Way
branch_way l i n to = if to.space == 0 then relative_way l (relative_place i n to) else way_to l NoTarget (place to.offset 0)

abbrev pub table_in : List TableAt → Place → Option Table
table_in [] p = None
table_in (t ∷ rest) p = if t.place.address == p.address then (if t.place.index == p.index then t.table else table_in rest p) else table_in rest p

abbrev pub case_ways : List Case → List Way
case_ways [] = []
case_ways (c ∷ rest) = Leads c.place ∷ case_ways rest

abbrev pub table_ways : Option Table → List Way
table_ways None = Fails NoTable ∷ []
table_ways (Some t) = case_ways t.cases

abbrev pub turn_ways : Listing → List TableAt → Place → Instruction → Turn → List Way
turn_ways l t p i GoesOn = way_to l FallsOff (next_place i p.index) ∷ []
turn_ways l t p i Returns = []
turn_ways l t p i Stops = []
turn_ways l t p i (Branches to) = branch_way l i p.index to ∷ []
turn_ways l t p i (Tests to) = branch_way l i p.index to ∷ way_to l FallsOff (next_place i p.index) ∷ []
turn_ways l t p i Switches = table_ways (table_in t p)

-- Only the function's first place may be reached with nothing there.
abbrev pub standing_ways : Listing → List TableAt → Place → Standing → List Way
standing_ways l t p Nothing = Fails NoTarget ∷ []
standing_ways l t p (Passes i) = way_to l FallsOff (next_instruction i) ∷ []
standing_ways l t p (Does i op) = turn_ways l t p i (turn_of l op.code op.inputs)

-- the ways on from a place, a CBRANCH's destination before the next place
abbrev pub ways : Listing → List TableAt → Place → List Way
ways l t p = standing_ways l t p (standing l p)

abbrev pub LeadsTo : Listing → List TableAt → Place → Place → Type 0
LeadsTo l t p q = IsIn (Leads q) (ways l t p)

-- the least set that has the function's first place, and all places that its places lead to
pub data Reached (l : Listing) (t : List TableAt) : Place → Type 0 where
  First : Reached l t (first_place l)
  Next : (p q : Place) → Reached l t p → LeadsTo l t p q → Reached l t q

-- ---- slices of jump tables: so many ops, one after another in the listing, that end at the BRANCHIND, and the
-- instructions without ops between them

abbrev pub ops_in : Standing → ℕ
ops_in Nothing = 0
ops_in (Passes i) = 0
ops_in (Does i op) = 1

-- The places from one to the end, over adjacent instructions, have so many ops, the one at the end included.
pub data RunsTo (l : Listing) (end : Place) : Place → ℕ → Type 0 where
  Ends : RunsTo l end end 1
  Over : (p q : Place) (n : ℕ) → next_in (standing l p) p.index ≡ Some q → RunsTo l end q n → RunsTo l end p (ops_in (standing l p) + n)

-- a place of the slice of k ops other than its first
abbrev pub IsInner : Listing → Place → ℕ → Place → Type 0
IsInner l end k p = (n : ℕ) × (RunsTo l end p n × (n < k))

abbrev pub IsInSlice : Listing → Place → ℕ → Place → Type 0
IsInSlice l end k p = IsInner l end k p ⊎ (RunsTo l end p k × (ops_in (standing l p) ≡ 1))

-- The run may come into the slice other than by its first place: the function begins at this place of it, or a reached
-- place outside leads to it.
abbrev pub IsEnteredAt : Listing → List TableAt → Place → ℕ → Place → Type 0
IsEnteredAt l t end k q = (q ≡ first_place l) ⊎ ((p : Place) × (Reached l t p × (LeadsTo l t p q × (IsInSlice l end k p → ⊥))))

abbrev pub IsEntered : Listing → List TableAt → Place → Option Table → Type 0
IsEntered l t end None = ⊥
IsEntered l t end (Some table) = (q : Place) × (IsInner l end table.slice q × IsEnteredAt l t end table.slice q)

-- ---- faults

-- A way of a reached place has this fault, or the slice of a reached BRANCHIND with a table is entered.
abbrev pub FaultAt : Listing → List TableAt → Place → FlowWhy → Type 0
FaultAt l t p why = Reached l t p × (IsIn (Fails why) (ways l t p) ⊎ ((why ≡ TableEntered) × ((turn_at l p ≡ Switches) × IsEntered l t p (table_in t p))))

abbrev pub NoFault : Listing → List TableAt → Type 0
NoFault l t = (p : Place) (why : FlowWhy) → FaultAt l t p why → ⊥

-- of the faults at one place the one of least rank counts
abbrev pub rank : FlowWhy → ℕ
rank BadRelative = 0
rank NoTarget = 1
rank FallsOff = 2
rank NoTable = 3
rank TableEntered = 4

-- the fault that counts: that of the least place, and there that of least rank
pub record FirstFault (l : Listing) (t : List TableAt) (p : Place) (why : FlowWhy) : Type 0 where
  pub here : FaultAt l t p why
  pub least : (q : Place) (other : FlowWhy) → FaultAt l t q other → IsBefore p q ⊎ ((p ≡ q) × (rank why ≤ rank other))

-- ---- blocks

-- A block begins at the function's first place and at each place that a reached branch leads to, be it a destination, a
-- place of a table or the place after a CBRANCH.
pub data BeginsBlock (l : Listing) (t : List TableAt) : Place → Type 0 where
  Entry : BeginsBlock l t (first_place l)
  Led : (p q : Place) → Reached l t p → is_branch (turn_at l p) ≡ true → LeadsTo l t p q → BeginsBlock l t q

-- the places where blocks begin, each once, in rising order
pub record AreStarts (l : Listing) (t : List TableAt) (starts : List Place) : Type 0 where
  pub each : (p : Place) → IsIn p starts ↔ BeginsBlock l t p
  pub rising : Rising starts

-- the place, where there is one, is the start of that number
abbrev pub IsStart : List Place → Option Place → ℕ → Type 0
IsStart starts to n = (q : Place) × ((to ≡ Some q) × (slice_get starts n ≡ Some q))

abbrev pub JumpsTo : List Place → Option Place → Exit → Type 0
JumpsTo starts to Return = ⊥
JumpsTo starts to (Jump n) = IsStart starts to n
JumpsTo starts to (Test m n) = ⊥
JumpsTo starts to (Switch table ns) = ⊥
JumpsTo starts to Stop = ⊥

abbrev pub TestsTo : List Place → Option Place → Option Place → Exit → Type 0
TestsTo starts to next Return = ⊥
TestsTo starts to next (Jump n) = ⊥
TestsTo starts to next (Test m n) = IsStart starts to m × IsStart starts next n
TestsTo starts to next (Switch table ns) = ⊥
TestsTo starts to next Stop = ⊥

abbrev pub CasesTo : List Place → List Case → List ℕ → Type 0
CasesTo starts [] [] = Unit {0}
CasesTo starts [] (n ∷ ns) = ⊥
CasesTo starts (c ∷ cs) [] = ⊥
CasesTo starts (c ∷ cs) (n ∷ ns) = IsStart starts (Some c.place) n × CasesTo starts cs ns

abbrev pub SwitchesTo : List Place → Option Table → Exit → Type 0
SwitchesTo starts None e = ⊥
SwitchesTo starts (Some t) Return = ⊥
SwitchesTo starts (Some t) (Jump n) = ⊥
SwitchesTo starts (Some t) (Test m n) = ⊥
SwitchesTo starts (Some t) (Switch table ns) = (table ≡ t) × CasesTo starts t.cases ns
SwitchesTo starts (Some t) Stop = ⊥

-- where a branch leads, of what stands at an index
abbrev pub branch_in : Standing → ℕ → Varnode → Option Place
branch_in Nothing n to = None
branch_in (Passes i) n to = None
branch_in (Does i op) n to = branch_place i n to

-- The exit is what the last place does; the blocks it names are those that begin at the places it leads to. A test whose
-- two places are one stays a test.
abbrev pub LeavesBy : List TableAt → List Place → Place → Standing → Turn → Exit → Type 0
LeavesBy t starts p s GoesOn e = JumpsTo starts (next_in s p.index) e
LeavesBy t starts p s Returns e = e ≡ Return
LeavesBy t starts p s Stops e = e ≡ Stop
LeavesBy t starts p s (Branches to) e = JumpsTo starts (branch_in s p.index to) e
LeavesBy t starts p s (Tests to) e = TestsTo starts (branch_in s p.index to) (next_in s p.index) e
LeavesBy t starts p s Switches e = SwitchesTo starts (table_in t p) e

abbrev pub Leaves : Listing → List TableAt → List Place → Place → Exit → Type 0
Leaves l t starts p e = LeavesBy t starts p (standing l p) (turn_at l p) e

-- The run goes on from one place to the next one, where no block begins.
pub record GoesOnTo (l : Listing) (starts : List Place) (p q : Place) : Type 0 where
  pub goes_on : turn_at l p ≡ GoesOn
  pub next : next_in (standing l p) p.index ≡ Some q
  pub inside : IsIn q starts → ⊥

-- These places follow one another, and the last one has this exit.
abbrev pub RunsBlock : Listing → List TableAt → List Place → List Place → Exit → Type 0
RunsBlock l t starts [] e = ⊥
RunsBlock l t starts (p ∷ []) e = Leaves l t starts p e
RunsBlock l t starts (p ∷ q ∷ rest) e = GoesOnTo l starts p q × RunsBlock l t starts (q ∷ rest) e

abbrev pub AllRun : Listing → List TableAt → List Place → List Block → Type 0
AllRun l t starts [] = Unit {0}
AllRun l t starts (b ∷ rest) = RunsBlock l t starts b.places b.exit × AllRun l t starts rest

abbrev pub first_in : List Place → List Place
first_in [] = []
first_in (p ∷ rest) = p ∷ []

-- the first places of blocks
abbrev pub starts_of : List Block → List Place
starts_of [] = []
starts_of (b ∷ rest) = first_in b.places ++ starts_of rest

-- the places of blocks, one block after another
abbrev pub places_of : List Block → List Place
places_of [] = []
places_of (b ∷ rest) = b.places ++ places_of rest

-- The blocks of a listing. Their first places are where blocks begin, by rising place. Their places, one block after
-- another, are the reached places in rising order, so each stands in one block and once.
pub record IsFlow (l : Listing) (t : List TableAt) (blocks : List Block) : Type 0 where
  pub run : AllRun l t (starts_of blocks) blocks
  pub starts : AreStarts l t (starts_of blocks)
  pub each : (p : Place) → IsIn p (places_of blocks) ↔ Reached l t p
  pub rising : Rising (places_of blocks)
