-- What is asked of a code below a head, so that the C function that is made of both is a valid tree. This project's own.
use Rattle.std.specs.Prelude.{◌≡◌, ℕ, Bool, true, false, List, [], ◌∷◌, map, Some, None}
use Rattle.cmeaning.specs.declared.tree.Local.{Local}
use Rattle.cmeaning.specs.declared.tree.Param.{Param}
use Rattle.cmeaning.specs.declared.tree.Stmt.{Stmt}
use Rattle.cmeaning.specs.Shape.{shape_of, is_condition}
use Rattle.cmeaning.specs.Mentions.{Mention, Variable, Callee, LabelLine, in_expr, in_option, in_body}
use Rattle.cmeaning.specs.Valid.{all_hold, are_cases_of, is_returned}
use Rattle.naming.specs.declared.head.Head.{Head}
use Rattle.naming.specs.Run.{widths_of}
use Rattle.naming.specs.Covered.{CoversOne}
use Rattle.naming.specs.Rules.{own_rule}
use Rattle.blockcode.specs.declared.code.Variable as code
use Rattle.blockcode.specs.declared.code.Exit.{Exit}
use Rattle.blockcode.specs.declared.code.Exit.TheVariants as X
use Rattle.blockcode.specs.declared.code.Block.{Block}
use Rattle.blockcode.specs.CanLay.{values_of}

-- ---- mentions: variables and callees of the head, and no label

abbrev pub KnowsOne : Head → Mention → Type 0
KnowsOne h (Variable v) = CoversOne h (Variable v)
KnowsOne h (Callee address) = CoversOne h (Callee address)
KnowsOne h (LabelLine n) = ⊥

abbrev pub Knows : Head → List Mention → Type 0
Knows h [] = Unit {0}
Knows h (x ∷ xs) = KnowsOne h x × Knows h xs

-- ---- statements and exits

-- knows: what they mention is the head's.
-- obey: they obey their rules, behind any other statement, and wherever labels lead.
pub record BodySuits (h : Head) (ss : List Stmt) : Type 0 where
  pub knows : Knows h (in_body ss)
  pub obey : (leads : ℕ → Bool) (after_call : Bool) → all_hold after_call (map (own_rule h leads) ss) false 256 ≡ true

-- The result, the condition or the cases obey the rules.
abbrev pub ExitSuits : Head → Exit → Type 0
ExitSuits h (X.Return e) = (is_returned (widths_of h) h.gives e ≡ true) × Knows h (in_option e)
ExitSuits h (X.Jump to) = Unit {0}
ExitSuits h (X.Test c taken other) = (is_condition (shape_of (widths_of h) c) ≡ true) × Knows h (in_expr c)
ExitSuits h (X.Switch e arms) =
    (are_cases_of (values_of arms) (shape_of (widths_of h) e) ≡ true) × Knows h (in_expr e)
ExitSuits h X.Stop = Unit {0}

abbrev pub AllSuit : Head → List Block → Type 0
AllSuit h [] = Unit {0}
AllSuit h (x ∷ xs) = (BodySuits h x.body × ExitSuits h x.exit) × AllSuit h xs

-- ---- variables

-- The first variables are the parameters, with their storages, and the others are the locals.
abbrev pub Declares : List code.Variable → List Param → List Local → Type 0
Declares [] [] [] = Unit {0}
Declares [] [] (x ∷ xs) = ⊥
Declares [] (p ∷ ps) xs = ⊥
Declares (v ∷ vs) (p ∷ ps) xs = ((v.width ≡ p.width) × (v.storage ≡ Some p.storage)) × Declares vs ps xs
Declares (v ∷ vs) [] [] = ⊥
Declares (v ∷ vs) [] (x ∷ xs) = ((v.width ≡ x.width) × (v.storage ≡ None)) × Declares vs [] xs
