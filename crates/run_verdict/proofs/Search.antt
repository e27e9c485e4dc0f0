-- The code finds no branch that a jump table leads on exactly where there is none.
use Rattle.std.proofs.Common.{◌≡◌, Bool, true, false, List, [], ◌∷◌, refl, subst, inl, inr}
use Rattle.pcode_model.specs.declared.opcode.Opcode.{Opcode}
use Rattle.pcode_model.specs.declared.opcode.Opcode.TheVariants as O
use Rattle.pcode_model.specs.declared.listing.Op.{Op}
use Rattle.pcode_model.specs.declared.listing.Instruction.{Instruction}
use Rattle.pcode_model.specs.declared.listing.Listing.{Listing}
use Rattle.pcode_model.specs.Flow.{IsIn}
use Rattle.pcode_model.specs.Spaces.{or}
use Rattle.pcode_laws.proofs.Rules.{neither}
use Rattle.run_verdict.specs.Runnable.{IsRunnable}
use Rattle.run_verdict.specs.Search.{is_table_code, is_table, names_table, any_table}

never : true ≡ false → ⊥
never h = cc

no_code : (c : Opcode) → is_table_code c ≡ false → c ≡ O.BranchInd → ⊥
no_code c h e = never (let P : Opcode → Type 0 = λ d. is_table_code d ≡ false in subst P e h)

no_op : (ops : List Op) → names_table ops ≡ false → (op : Op) → IsIn op ops → op.code ≡ O.BranchInd → ⊥
no_op [] h op is e = is
no_op (x ∷ ops) h op (inl same) e =
    no_code x.code (neither _ _ h).0 (let P : Op → Type 0 = λ y. y.code ≡ O.BranchInd in subst P same e)
no_op (x ∷ ops) h op (inr is) e = no_op ops (neither _ _ h).1 op is e

no_table : (code : List Instruction)
    → any_table code ≡ false
    → (i : Instruction)
    → IsIn i code
    → (op : Op)
    → IsIn op i.ops
    → op.code ≡ O.BranchInd
    → ⊥
no_table [] h i is op in_ops e = is
no_table (x ∷ code) h i (inl same) op in_ops e =
    no_op x.ops (neither _ _ h).0 op (let P : Instruction → Type 0 = λ y. IsIn op y.ops in subst P same in_ops) e
no_table (x ∷ code) h i (inr is) op in_ops e = no_table code (neither _ _ h).1 i is op in_ops e

-- Where no branch is found that a jump table leads on, there is none.
pub runnable : (l : Listing) → any_table l.code ≡ false → IsRunnable l
runnable l h = no_table l.code h

both_false : (a b : Bool) → a ≡ false → b ≡ false → or a b ≡ false
both_false a b p q = rw (p, q) refl

code_none : (c : Opcode) → (c ≡ O.BranchInd → ⊥) → is_table_code c ≡ false
code_none (O.Unary op) h = refl
code_none (O.Binary op) h = refl
code_none (O.Divide op) h = refl
code_none O.Load h = refl
code_none O.Store h = refl
code_none O.Branch h = refl
code_none O.CBranch h = refl
code_none O.BranchInd h = absurd (h refl)
code_none O.Call h = refl
code_none O.CallInd h = refl
code_none O.CallOther h = refl
code_none O.Return h = refl
code_none (O.Float word) h = refl
code_none (O.FloatConversion op) h = refl
code_none (O.Analysis op) h = refl
code_none (O.LeftOut op) h = refl

ops_none : (ops : List Op) → ((op : Op) → IsIn op ops → op.code ≡ O.BranchInd → ⊥) → names_table ops ≡ false
ops_none [] h = refl
ops_none (op ∷ ops) h = both_false (is_table op) (names_table ops) (code_none op.code (h op (inl refl)))
    (ops_none ops (λ o is. h o (inr is)))

no_instruction : (code : List Instruction)
    → ((i : Instruction) → IsIn i code → (op : Op) → IsIn op i.ops → op.code ≡ O.BranchInd → ⊥)
    → any_table code ≡ false
no_instruction [] h = refl
no_instruction (i ∷ code) h = both_false (names_table i.ops) (any_table code) (ops_none i.ops (h i (inl refl)))
    (no_instruction code (λ j is. h j (inr is)))

-- And where there is none, none is found.
pub none_found : (l : Listing) → IsRunnable l → any_table l.code ≡ false
none_found l h = no_instruction l.code h
