-- The address of a callee, by the first that has its name.
use Rattle.std.proofs.Common.{◌≡◌, ℕ, Bool, true, false, List, [], ◌∷◌, refl, sym, ap, ap₂, ◌∙◌}
use Rattle.std.specs.Prelude.{Option, Some, if◌then◌else◌}
use Rattle.std.specs.Option.{option_map}
use Rattle.std.specs.Str.{bytes_eq}
use Rattle.std.specs.Cmp.Lexicographic.{bytes_decides}
use Rattle.cmeaning.specs.declared.tree.CName.{CName}
use Rattle.cmeaning.specs.declared.tree.CName.TheVariants.{Declared, Bare}
use Rattle.cmeaning.specs.declared.tree.CalleeDecl.{CalleeDecl}
use Rattle.cmeaning.specs.Places.{first_of, has_name, is_text}
use Rattle.cread.specs.Words.{after}
use Rattle.cread.specs.Names.{is_whole, is_named, address_of}
use Rattle.cread.proofs.Calls.{whole_self, whole_is}

whole_text : (name n : List ℕ) → bytes_eq n name ≡ is_whole (after n name)
whole_text name n = by_test (bytes_eq n name) (is_whole (after n name)) refl refl
  where
    never : true ≡ false → ⊥
    never e = cc

    by_test : (t u : Bool) → bytes_eq n name ≡ t → is_whole (after n name) ≡ u → t ≡ u
    by_test true true p q = refl
    by_test false false p q = refl
    by_test true false p q = absurd
        (never (sym (ap (λ m. is_whole (after n m)) (sym ((bytes_decides n name).0 p)) ∙ whole_self n) ∙ q))
    by_test false true p q = absurd (never (sym ((bytes_decides n name).1 (whole_is n name q)) ∙ p))

text_is_named : (name : List ℕ) (d : CName) → is_text name d ≡ is_named name d
text_is_named name (Declared n) = whole_text name n
text_is_named name Bare = refl

pub addressed : (name : List ℕ) (cs : List CalleeDecl)
    → option_map (λ c. c.address) (first_of (has_name name) cs) ≡ address_of name cs
addressed name [] = refl
addressed name (c ∷ cs) =
    picked (is_text name c.name)
    ∙ ap₂ (λ (t : Bool) (o : Option ℕ). if t then Some c.address else o) (text_is_named name c.name) (addressed name cs)
  where
    picked : (t : Bool)
        → option_map (λ d. d.address) (if t then Some c else first_of (has_name name) cs)
        ≡ (if t then Some c.address else option_map (λ d. d.address) (first_of (has_name name) cs))
    picked true = refl
    picked false = refl
