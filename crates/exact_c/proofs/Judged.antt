-- A tree is one of a text where it is valid and has the text.
use Rattle.std.proofs.Common.{◌≡◌, ℕ, Bool, true, false, List, refl}
use Rattle.std.specs.Prelude.{◌↔◌, IsTrue}
use Rattle.cmeaning.specs.declared.tree.CFunction.{CFunction}
use Rattle.cmeaning.specs.Valid.{IsValid}
use Rattle.ctext.specs.Text.{text_of}
use Rattle.exact_c.specs.Tree.{IsTreeOf}

-- what is false holds of nothing
pub not_true : (b : Bool) → b ≡ false → IsTrue b → ⊥
not_true true f h = absurd cc
not_true false f h = absurd (let e : false ≡ true = h in cc)

-- what isn't valid is no tree of the text
pub not_tree : (f : CFunction) (bytes : List ℕ) (right : Bool)
    → (IsTrue right ↔ IsValid f)
    → right ≡ false
    → (IsTrue false ↔ IsTreeOf bytes f)
not_tree f bytes right valid wrong =
    (λ t. absurd (not_true false refl t), λ tree. absurd (not_true right wrong (valid.1 tree.valid)))

-- what is valid is a tree of the text if it has it
pub tree_when : (f : CFunction) (bytes : List ℕ) (right same : Bool)
    → (IsTrue right ↔ IsValid f)
    → right ≡ true
    → (IsTrue same ↔ (bytes ≡ text_of f))
    → (IsTrue same ↔ IsTreeOf bytes f)
tree_when f bytes right same valid holds text =
    (λ t. record { valid = valid.0 holds; text = text.0 t }, λ tree. text.1 tree.text)
