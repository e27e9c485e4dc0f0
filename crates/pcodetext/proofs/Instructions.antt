-- Instructions as they are added.
use Rattle.std.proofs.Common.{◌≡◌, ◌<◌, ◌≤◌, ◌+◌, ◌^◌, ℕ, false, List, [], ◌∷◌, ◌++◌, length, sym, refl, arith, subst}
use Rattle.std.specs.Prelude.{Option, Some, None}
use Rattle.std.specs.List.{AllByRecursion}
use Rattle.std.specs.Option.{is_some, option_to_list}
use Rattle.std.proofs.lemmas.Bool.{ltb-false}
use Rattle.pcode_model.specs.declared.listing.Instruction.{Instruction}
use Rattle.pcode_model.specs.declared.listing.Op.{Op}
use Rattle.pcode_model.specs.Flow.{AreApart}
use Rattle.pcode_model.specs.Rules.{HasFewOps}
use Rattle.pcodetext.specs.AtLine.{is_behind}
use Rattle.pcodetext.specs.Checks.{of_some}
use Rattle.pcode_model.specs.WellFormed.{total_ops}
use Rattle.pcodetext.proofs.Passing.{all_last, all_snoc, length_snoc, right_false}

apart_snoc : (xs : List Instruction) (x y : Instruction)
    → AreApart (xs ++ x ∷ [])
    → x.address + x.length ≤ y.address
    → 0 < y.length
    → AreApart ((xs ++ x ∷ []) ++ y ∷ [])
apart_snoc [] x y h le pos = (h, (le, pos))
apart_snoc (a ∷ []) x y h le pos = (h.0, (h.1.0, (h.1.1, (le, pos))))
apart_snoc (a ∷ b ∷ rest) x y h le pos = (h.0, (h.1.0, apart_snoc (b ∷ rest) x y h.1.1 le pos))

-- an instruction more
pub apart_more : (done : List Instruction) (last : Option Instruction) (y : Instruction)
    → AreApart (done ++ option_to_list last)
    → (is_some last ≡ false → done ≡ [])
    → of_some (is_behind y.address) last ≡ false → 0 < y.length → AreApart ((done ++ option_to_list last) ++ y ∷ [])
apart_more done None y h empty behind pos =
    subst (λ (xs : List Instruction). AreApart ((xs ++ []) ++ y ∷ [])) (sym (empty refl)) pos
apart_more done (Some x) y h empty behind pos =
    apart_snoc done x y h (ltb-false y.address (x.address + x.length) (right_false _ _ behind)) pos

-- another last instruction at the same place
pub apart_same : (done : List Instruction) (x y : Instruction)
    → x.address ≡ y.address
    → x.length ≡ y.length
    → AreApart (done ++ x ∷ [])
    → AreApart (done ++ y ∷ [])
apart_same [] x y at long h = subst (λ (n : ℕ). 0 < n) long h
apart_same (a ∷ []) x y at long h =
    (h.0, (subst (λ (n : ℕ). a.address + a.length ≤ n) at h.1.0, subst (λ (n : ℕ). 0 < n) long h.1.1))
apart_same (a ∷ b ∷ rest) x y at long h = (h.0, (h.1.0, apart_same (b ∷ rest) x y at long h.1.1))

pub total_more : (xs : List Instruction) (y : Instruction) → total_ops (xs ++ y ∷ []) ≡ total_ops xs + length y.ops
total_more [] y = omega arith
total_more (x ∷ xs) y = let next = total_more xs y in omega (arith, next)

pub few_ops : (xs : List Instruction) → total_ops xs < 2 ^ 32 → HasFewOps xs
few_ops [] h = tt
few_ops (x ∷ xs) h =
    let small : length x.ops < 2 ^ 32 = omega arith in
    let rest : total_ops xs < 2 ^ 32 = omega arith in
    (small, few_ops xs rest)

pub total_op : (done : List Instruction) (x : Instruction) (op : Op)
    → total_ops (done ++ record x { ops = x.ops ++ op ∷ [] } ∷ []) ≡ total_ops (done ++ x ∷ []) + 1
total_op done x op =
    let new = total_more done (record x { ops = x.ops ++ op ∷ [] }) in
    let old = total_more done x in
    let one = length_snoc x.ops op in
    omega (arith, new, old, one)

-- what holds of the ops of each instruction
abbrev pub EachOp : (Op → Type 0) → Instruction → Type 0
EachOp P i = AllByRecursion P i.ops

-- the ops of the last instruction, with one more
pub ops_op : (P : Op → Type 0) (done : List Instruction) (x : Instruction) (op : Op)
    → AllByRecursion (EachOp P) (done ++ x ∷ [])
    → P op
    → AllByRecursion (EachOp P) (done ++ record x { ops = x.ops ++ op ∷ [] } ∷ [])
ops_op P done x op h p =
    all_last (EachOp P) done x (record x { ops = x.ops ++ op ∷ [] }) (λ ops. all_snoc P x.ops op ops p) h
