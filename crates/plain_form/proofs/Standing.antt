-- What holds of each op of the code holds of the one that stands at a place.
use Rattle.std.proofs.Common.{◌≡◌, true, List, [], ◌∷◌, inl, inr, sym, subst}
use Rattle.std.proofs.lemmas.Bool.{and_parts}
use Rattle.pcode_model.specs.declared.listing.Op.{Op}
use Rattle.pcode_model.specs.declared.listing.Instruction.{Instruction}
use Rattle.pcode_model.specs.Flow.{IsIn}
use Rattle.instructions.proofs.Standing.{StandsIn}
use Rattle.supported.specs.Supported.{are_supported_ops, is_supported_code, is_supported_code_of}

-- ---- what the tests say of an op

supported_op : (ops : List Op)
    → are_supported_ops ops ≡ true
    → (op : Op)
    → IsIn op ops
    → is_supported_code op.code ≡ true
supported_op [] h op is = absurd is
supported_op (x ∷ ops) h op (inl e) = let P : Op → Type 0 = λ y. is_supported_code y.code ≡ true in
    subst P (sym e) (and_parts _ _ h).0
supported_op (x ∷ ops) h op (inr is) = supported_op ops (and_parts _ _ h).1 op is

pub supported_in : (code : List Instruction)
    → is_supported_code_of code ≡ true
    → (i : Instruction) (op : Op)
    → StandsIn code i op
    → is_supported_code op.code ≡ true
supported_in [] h i op s = absurd s.code_has
supported_in (x ∷ code) h i op s = elim s.code_has [
  | inl e ↦ let P : Instruction → Type 0 = λ y. IsIn op y.ops in
      supported_op x.ops (and_parts _ _ h).0 op (subst P e s.ops_have)
  | inr is ↦ supported_in code (and_parts _ _ h).1 i op (record { code_has = is; ops_have = s.ops_have })
]
