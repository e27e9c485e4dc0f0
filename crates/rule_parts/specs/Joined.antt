-- Words put together: no left side of a rule is seen.
use Rattle.std.specs.Prelude.{◌≡◌, ℕ, ◌+◌}
use Rattle.bits_core.specs.declared.word.Width.{Width}
use Rattle.bits_core.specs.declared.word.Word.{Word}
use Rattle.cmeaning.specs.declared.tree.Expr.{Expr}
use Rattle.cmeaning.specs.declared.tree.Expr.TheVariants as E
use Rattle.rules.specs.Letters.{IsAtom}
use Rattle.rule_views.specs.Sees.{Sight, IsSized}
use Rattle.rule_views.specs.Variables.{Variables}

-- not two parts of a letter, the one where the other ends
abbrev pub NoParts : {T : Type 0} → Sight T → T → T → Type 0
NoParts sees a b = (vs : Variables) (x : Expr) (j k : ℕ) (v w : Width) → IsAtom x → j ≡ k + w.bytes
    → IsSized vs.widths (E.Concat (E.Part j v x) (E.Part k w x)) → sees vs a (E.Part j v x) → sees vs b (E.Part k w x) → ⊥

abbrev pub NoZeroAbove : {T : Type 0} → Sight T → T → T → Type 0
NoZeroAbove sees a b = (vs : Variables) (c : Word) (y : Expr) → c.value ≡ 0 → IsSized vs.widths (E.Concat (E.Const c) y)
    → sees vs a (E.Const c) → sees vs b y → ⊥

pub record NoneOfConcat {T : Type 0} (sees : Sight T) (a b : T) : Type 0 where
  pub parts : NoParts sees a b
  pub zero : NoZeroAbove sees a b
