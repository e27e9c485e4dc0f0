-- Lines suit a head one by one and one list behind another: what they mention, and the rules that they obey.
use Rattle.std.proofs.Common.{◌≡◌, ℕ, ◌&&◌, Bool, true, false, List, [], ◌∷◌, ◌++◌, map, sym, ap, ◌∙◌, refl, subst}
use Rattle.std.proofs.lemmas.Bool.{and_parts}
use Rattle.cmeaning.specs.declared.tree.Stmt.{Stmt}
use Rattle.cmeaning.specs.Mentions.{Mention, in_stmt, in_body}
use Rattle.cmeaning.specs.Valid.{Rule, all_hold}
use Rattle.cmeaning.proofs.Mentions.{in_append}
use Rattle.naming.specs.declared.head.Head.{Head}
use Rattle.naming.specs.Rules.{own_rule}
use Rattle.layout.specs.Suits.{Knows, BodySuits}

module _ (h : Head) where
  -- ---- what lines mention

  -- the head has the mentions of two lists
  pub knows_append : (xs ys : List Mention) → Knows h xs → Knows h ys → Knows h (xs ++ ys)
  knows_append [] ys k l = l
  knows_append (x ∷ xs) ys k l = (k.0, knows_append xs ys k.1 l)

  -- and those of two lists of lines
  pub knows_in : (xs ys : List Stmt) → Knows h (in_body xs) → Knows h (in_body ys) → Knows h (in_body (xs ++ ys))
  knows_in xs ys k l = subst (Knows h) (sym (in_append xs ys)) (knows_append (in_body xs) (in_body ys) k l)

  -- of one line
  pub knows_one : (s : Stmt) (xs : List Mention) → in_stmt s ≡ xs → Knows h xs → Knows h (in_body (s ∷ []))
  knows_one s xs is k = knows_append (in_stmt s) [] (subst (Knows h) (sym is) k) tt

  -- ---- rules

  module _ (leads : ℕ → Bool) where
    abbrev rules : List Stmt → List Rule
    rules ss = map (own_rule h leads) ss

    -- behind any other statement
    abbrev pub Obey : List Stmt → Type 0
    Obey ss = (after : Bool) → all_hold after (rules ss) false 256 ≡ true

    holds_append : (xs ys : List Stmt) (after : Bool)
        → all_hold after (rules xs) false 256 ≡ true
        → Obey ys
        → all_hold after (rules (xs ++ ys)) false 256 ≡ true
    holds_append [] ys after o p = p after
    holds_append (x ∷ xs) ys after o p =
        let here = (own_rule h leads x).holds after false 255 in
        let parts = and_parts here (all_hold (own_rule h leads x).calls (rules xs) false 256) o in
        ap (λ b. b && all_hold (own_rule h leads x).calls (rules (xs ++ ys)) false 256) parts.0
        ∙ holds_append xs ys (own_rule h leads x).calls parts.1 p

    -- two lists of lines obey their rules
    pub obey_append : (xs ys : List Stmt) → Obey xs → Obey ys → Obey (xs ++ ys)
    obey_append xs ys o p after = holds_append xs ys after (o after) p

    -- no line
    pub obey_none : Obey []
    obey_none after = refl

    -- one line
    pub obey_one : (s : Stmt) → ((after : Bool) → (own_rule h leads s).holds after false 255 ≡ true) → Obey (s ∷ [])
    obey_one s o after = ap (λ b. b && true) (o after)

  -- ---- both

  -- A body without a line suits.
  pub suits_none : BodySuits h []
  suits_none = record { knows = tt; obey = λ leads. obey_none leads }

  -- A body suits where two parts of it do.
  pub suits_append : (xs ys : List Stmt) → BodySuits h xs → BodySuits h ys → BodySuits h (xs ++ ys)
  suits_append xs ys s t = record {
    knows = knows_in xs ys s.knows t.knows;
    obey = λ leads. obey_append leads xs ys (s.obey leads) (t.obey leads);
  }
