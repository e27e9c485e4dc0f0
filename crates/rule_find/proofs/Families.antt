-- The families put together.
use Rattle.std.proofs.Common.{◌≡◌, ℕ, refl, subst}
use Rattle.cmeaning.specs.declared.tree.Expr.{Expr}
use Rattle.rules.specs.Folds.{Folding}
use Rattle.rules.specs.Arithmetic.{Summing}
use Rattle.rules.specs.Shifts.{Shifting}
use Rattle.rules.specs.Parts.{Parting}
use Rattle.rules.specs.Booleans.{Deciding}
use Rattle.rules.specs.Comparisons.{Comparing}
use Rattle.rules.specs.Table.{Form, OfFolds, OfArithmetic, OfShifts, OfParts, OfBooleans, OfComparisons}
use Rattle.rule_views.specs.declared.nodes.Single.{Single}
use Rattle.rule_views.specs.declared.nodes.Pair.{Pair}
use Rattle.rule_views.specs.declared.row.Row.{Row}
use Rattle.rule_views.specs.declared.row.Row.TheVariants as R
use Rattle.rule_views.specs.declared.view.Made.{Made}
use Rattle.rule_views.specs.Nodes.{single_node, pair_node}
use Rattle.rule_views.specs.Rows.{SummingOf, ShiftingOf, PartingOf, DecidingOf, ComparingOf, FormOf}
use Rattle.rule_views.specs.Sees.{Sight, IsSized}
use Rattle.rule_views.specs.Fires.{Family, FiredOfPair, NoneOfPair, FiredOfSingle, NoneOfSingle}
use Rattle.rule_views.specs.Variables.{Variables}
use Rattle.rule_views.proofs.Layers.{pair_no_single}
use Rattle.rule_find.proofs.Lefts.{IsPairNode, Two, shift_pair, boolean_pair, comparison_pair}

module _ {T : Type 0} (sees : Sight T) where
  -- a rule of one family is one of another
  pub as_other : (f g : Family) → ((ws : ℕ → ℕ) (l r : Expr) → f ws l r → g ws l r) → (p : Pair) (a b : T) (made : Made T)
      → FiredOfPair f sees p a b made → FiredOfPair g sees p a b made
  as_other f g to p a b made h = record {
    fires = λ vs x y sized s t. (
        let w = h.fires vs x y sized s t in
        record {
          x = w.x;
          y = w.y;
          r = w.r;
          left = w.left;
          right = w.right;
          rule = to vs.widths (pair_node p w.x w.y) w.r w.rule;
          makes = w.makes;
        });
  }

  pub as_other_single : (f g : Family) → ((ws : ℕ → ℕ) (l r : Expr) → f ws l r → g ws l r)
      → (q : Single) (a : T) (made : Made T) → FiredOfSingle f sees q a made → FiredOfSingle g sees q a made
  as_other_single f g to q a made h = record {
    fires = λ vs x sized s. (
        let w = h.fires vs x sized s in
        record {
          x = w.x;
          r = w.r;
          operand = w.operand;
          rule = to vs.widths (single_node q w.x) w.r w.rule;
          makes = w.makes;
        });
  }

  -- ---- two operands

  module _ (p : Pair) (a b : T) where
    pub folds : (made : Made T) → FiredOfPair Folding sees p a b made → FiredOfPair (FormOf R.F1) sees p a b made
    folds made h = as_other Folding (FormOf R.F1) (λ ws l r f. (OfFolds l r f, refl)) p a b made h

    module _ (row : Row) (made : Made T) where
      pub sums : FiredOfPair (SummingOf row) sees p a b made → FiredOfPair (FormOf row) sees p a b made
      sums h = as_other (SummingOf row) (FormOf row) (λ ws l r f. (OfArithmetic l r f.0, f.1)) p a b made h

      pub shifts : FiredOfPair (ShiftingOf row) sees p a b made → FiredOfPair (FormOf row) sees p a b made
      shifts h = as_other (ShiftingOf row) (FormOf row) (λ ws l r f. (OfShifts l r f.0, f.1)) p a b made h

      pub parts : FiredOfPair (PartingOf row) sees p a b made → FiredOfPair (FormOf row) sees p a b made
      parts h = as_other (PartingOf row) (FormOf row) (λ ws l r f. (OfParts l r f.0, f.1)) p a b made h

      pub booleans : FiredOfPair (DecidingOf row) sees p a b made → FiredOfPair (FormOf row) sees p a b made
      booleans h = as_other (DecidingOf row) (FormOf row) (λ ws l r f. (OfBooleans l r f.0, f.1)) p a b made h

      pub comparisons : FiredOfPair (ComparingOf row) sees p a b made → FiredOfPair (FormOf row) sees p a b made
      comparisons h = as_other (ComparingOf row) (FormOf row) (λ ws l r f. (OfComparisons l r f.0, f.1)) p a b made h

    module _ (f : NoneOfPair Folding sees p a b)
        (s : NoneOfPair Summing sees p a b)
        (h : NoneOfPair Shifting sees p a b)
        (q : NoneOfPair Parting sees p a b)
        (d : NoneOfPair (λ ws. Deciding) sees p a b)
        (c : NoneOfPair (λ ws. Comparing) sees p a b)
        (vs : Variables)
        (x y : Expr)
        (sized : IsSized vs.widths (pair_node p x y))
        (left : sees vs a x)
        (right : sees vs b y) where
      no_form : (l r : Expr) → Form vs.widths l r → l ≡ pair_node p x y → ⊥
      no_form l r (OfFolds m n g) is = f.none vs x y r sized (subst (λ e. Folding vs.widths e r) is g) left right
      no_form l r (OfArithmetic m n g) is = s.none vs x y r sized (subst (λ e. Summing vs.widths e r) is g) left right
      no_form l r (OfShifts m n g) is = h.none vs x y r sized (subst (λ e. Shifting vs.widths e r) is g) left right
      no_form l r (OfParts m n g) is = q.none vs x y r sized (subst (λ e. Parting vs.widths e r) is g) left right
      no_form l r (OfBooleans m n g) is = d.none vs x y r sized (subst (λ e. Deciding e r) is g) left right
      no_form l r (OfComparisons m n g) is = c.none vs x y r sized (subst (λ e. Comparing e r) is g) left right

    pub none_of_pair : NoneOfPair Folding sees p a b → NoneOfPair Summing sees p a b → NoneOfPair Shifting sees p a b
        → NoneOfPair Parting sees p a b → NoneOfPair (λ ws. Deciding) sees p a b
        → NoneOfPair (λ ws. Comparing) sees p a b → NoneOfPair Form sees p a b
    none_of_pair f s h q d c = record {
      none = λ vs x y r sized rule left right. (
          no_form f s h q d c vs x y sized left right (pair_node p x y) r rule refl);
    }

  -- ---- one operand

  module _ (o : Single) (a : T) where
    pub folds_single : (made : Made T) → FiredOfSingle Folding sees o a made → FiredOfSingle (FormOf R.F1) sees o a made
    folds_single made h = as_other_single Folding (FormOf R.F1) (λ ws l r f. (OfFolds l r f, refl)) o a made h

    module _ (row : Row) (made : Made T) where
      pub sums_single : FiredOfSingle (SummingOf row) sees o a made → FiredOfSingle (FormOf row) sees o a made
      sums_single h = as_other_single (SummingOf row) (FormOf row) (λ ws l r f. (OfArithmetic l r f.0, f.1)) o a made h

      pub parts_single : FiredOfSingle (PartingOf row) sees o a made → FiredOfSingle (FormOf row) sees o a made
      parts_single h = as_other_single (PartingOf row) (FormOf row) (λ ws l r f. (OfParts l r f.0, f.1)) o a made h

    pair_no : (l x : Expr) → IsPairNode l → l ≡ single_node o x → ⊥
    pair_no l x (Two p u v is) e = pair_no_single p u v o x (subst (λ k. k ≡ single_node o x) is e)

    module _ (f : NoneOfSingle Folding sees o a)
        (s : NoneOfSingle Summing sees o a)
        (q : NoneOfSingle Parting sees o a)
        (vs : Variables)
        (x : Expr)
        (sized : IsSized vs.widths (single_node o x))
        (seen : sees vs a x) where
      no_form_of_one : (l r : Expr) → Form vs.widths l r → l ≡ single_node o x → ⊥
      no_form_of_one l r (OfFolds m n g) is = f.none vs x r sized (subst (λ e. Folding vs.widths e r) is g) seen
      no_form_of_one l r (OfArithmetic m n g) is = s.none vs x r sized (subst (λ e. Summing vs.widths e r) is g) seen
      no_form_of_one l r (OfShifts m n g) is = pair_no l x (shift_pair vs.widths l r g) is
      no_form_of_one l r (OfParts m n g) is = q.none vs x r sized (subst (λ e. Parting vs.widths e r) is g) seen
      no_form_of_one l r (OfBooleans m n g) is = pair_no l x (boolean_pair l r g) is
      no_form_of_one l r (OfComparisons m n g) is = pair_no l x (comparison_pair l r g) is

    pub none_of_single : NoneOfSingle Folding sees o a → NoneOfSingle Summing sees o a → NoneOfSingle Parting sees o a
        → NoneOfSingle Form sees o a
    none_of_single f s q = record {
      none = λ vs x r sized rule seen. no_form_of_one f s q vs x sized seen (single_node o x) r rule refl;
    }
