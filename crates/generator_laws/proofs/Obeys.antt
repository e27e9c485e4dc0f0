-- The ops of a generated listing obey their rules, and are built.
use Rattle.std.proofs.Common.{◌≡◌, ◌∙◌, ◌<◌, ◌+◌, ◌*◌, ◌%◌, ◌^◌, ℕ, suc, Bool, true, false, List, [], ◌∷◌, ap, ap₂, refl, arith}
use Rattle.std.specs.Prelude.{◌&&◌, nat_lt, Option, Some, None, if◌then◌else◌}
use Rattle.std.specs.List.{AllByRecursion}
use Rattle.std.proofs.lemmas.Bool.Decides.{nat_tests}
use Rattle.pcode_model.specs.declared.listing.Instruction.{Instruction}
use Rattle.pcode_model.specs.declared.listing.Listing.{Listing}
use Rattle.pcode_model.specs.declared.listing.Op.{Op}
use Rattle.pcode_model.specs.declared.rules.OpFault.{OpFault}
use Rattle.pcode_model.specs.declared.rules.OpWhy.{OpWhy}
use Rattle.pcode_model.specs.declared.rules.OpWhy.TheVariants.{OutOfSpace}
use Rattle.pcode_model.specs.Rules.{at_place, first_bad, first_bad_in, first_bad_of, first_broken}
use Rattle.pcode_model.specs.Spaces.{or}
use Rattle.supported.specs.Supported.{are_supported_ops, is_supported_code_of}
use Rattle.generator.specs.declared.draws.Drawn.{Drawn}
use Rattle.generator.specs.declared.draws.Shape.{Shape}
use Rattle.generator.specs.declared.draws.Shape.TheVariants.{Constant, Sum, Xor, Product, Branch, Store, Load, Byte}
use Rattle.generator.specs.Generated.{address, code_of, listing_of, ops_by}
use Rattle.generator.specs.Fit.{AreFit}
use Rattle.generator_laws.proofs.Each.{all_have}

-- ---- rules

abbrev AllObey : Listing → List Op → Type 0
AllObey l ops = AllByRecursion (λ op. first_broken l op ≡ None) ops

-- no op of an instruction is bad
ops_good : (l : Listing) (a n : ℕ) (ops : List Op) (rest : Option OpFault)
    → AllObey l ops
    → rest ≡ None
    → first_bad_of l a n ops rest ≡ None
ops_good l a n [] rest h e = e
ops_good l a n (op ∷ ops) rest h e =
    ap (λ (o : Option OpWhy). at_place a n o (first_bad_of l a (suc n) ops rest)) h.0
    ∙ ops_good l a (suc n) ops rest h.1 e

code_good : (l : Listing) (code : List Instruction)
    → AllByRecursion (λ i. AllObey l i.ops) code
    → first_bad_in l code ≡ None
code_good l [] h = refl
code_good l (i ∷ code) h = ops_good l i.address 0 i.ops (first_bad_in l code) h.0 (code_good l code h.1)

-- a range of a space of 2^32 bytes
inside : (o k : ℕ) → o + k < 2 ^ 32 → nat_lt (256 ^ 4) (o + k) ≡ false
inside o k h = grind (arith, nat_tests)

abbrev out_if : Bool → Option OpWhy
out_if t = if t then Some OutOfSpace else None

module _ (draws : ℕ → Drawn) where
  abbrev l : Listing
  l = listing_of draws

  by_shape : (s : Shape) (a b w : ℕ) → a < 8 → b < 8 → AllObey l (ops_by s a b w)
  by_shape Constant a b w x y = (ap (λ (p : Bool). out_if p) (inside (4 * a) 4 (omega arith)), tt)
  by_shape Sum a b w x y = (
    ap₂ (λ (p q : Bool). out_if (or (or p (or q false)) p)) (inside (4 * a) 4 (omega arith))
        (inside (4 * b) 4 (omega arith)),
    tt,
  )
  by_shape Xor a b w x y = (
    ap₂ (λ (p q : Bool). out_if (or (or p (or q false)) p)) (inside (4 * a) 4 (omega arith))
        (inside (4 * b) 4 (omega arith)),
    tt,
  )
  by_shape Product a b w x y = (
    ap₂ (λ (p q : Bool). out_if (or (or p (or q false)) p)) (inside (4 * a) 4 (omega arith))
        (inside (4 * b) 4 (omega arith)),
    tt,
  )
  by_shape Branch a b w x y = (
    ap₂ (λ (p q : Bool). out_if (or (or p (or q false)) false)) (inside (4 * a) 4 (omega arith))
        (inside (4 * b) 4 (omega arith)),
    (ap (λ (p : Bool). out_if (or p false)) (inside (address (w % 2001)) 1 (omega arith)), tt),
  )
  by_shape Store a b w x y = (
    ap₂ (λ (p q : Bool). out_if (or (or p (or q false)) false)) (inside (4 * a) 4 (omega arith))
        (inside (4 * b) 4 (omega arith)),
    tt,
  )
  by_shape Load a b w x y = (
    ap₂ (λ (p q : Bool). out_if (or (or q false) p)) (inside (4 * a) 4 (omega arith))
        (inside (4 * b) 4 (omega arith)),
    tt,
  )
  by_shape Byte a b w x y = (
    ap₂ (λ (p q : Bool). out_if (or (or q false) p)) (inside (4 * a) 1 (omega arith))
        (inside (4 * b) 4 (omega arith)),
    tt,
  )

  -- No op of the listing of draws that fit breaks a rule.
  pub obeys : AreFit draws → first_bad (listing_of draws) ≡ None
  obeys fit = code_good l (code_of draws)
      (all_have (λ i. AllObey l i.ops) draws
      (λ i. by_shape (draws i).shape (draws i).first (draws i).second (draws i).word (fit i).first (fit i).second)
      (refl, tt))

-- ---- what is built

abbrev IsBuilt : Instruction → Type 0
IsBuilt i = are_supported_ops i.ops ≡ true

code_built : (code : List Instruction) → AllByRecursion IsBuilt code → is_supported_code_of code ≡ true
code_built [] h = refl
code_built (i ∷ code) h = ap₂ (λ (p q : Bool). p && q) h.0 (code_built code h.1)

shape_built : (s : Shape) (a b w : ℕ) → are_supported_ops (ops_by s a b w) ≡ true
shape_built Constant a b w = refl
shape_built Sum a b w = refl
shape_built Xor a b w = refl
shape_built Product a b w = refl
shape_built Branch a b w = refl
shape_built Store a b w = refl
shape_built Load a b w = refl
shape_built Byte a b w = refl

-- Each op of the listing is one that is built.
pub built : (draws : ℕ → Drawn) → is_supported_code_of (code_of draws) ≡ true
built draws = code_built (code_of draws)
    (all_have IsBuilt draws
    (λ i. shape_built (draws i).shape (draws i).first (draws i).second (draws i).word) refl)
