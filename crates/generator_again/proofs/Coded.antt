-- The lines of the code, by the number of instructions.
use Rattle.std.proofs.Common.{◌≡◌, ◌∙◌, ◌<◌, ◌≤◌, ◌+◌, ◌*◌, ◌^◌, ℕ, zero, suc, Bool, false, List, [], ◌∷◌, ◌++◌, length, map, ap, ap₂, sym, refl, subst, arith, append_assoc, append-nil}
use Rattle.std.specs.Prelude.{◌||◌, nat_le, nat_lt, Option, Some, None, if◌then◌else◌}
use Rattle.std.specs.List.{AllByRecursion}
use Rattle.std.specs.Option.{option_to_list}
use Rattle.std.proofs.lemmas.Bool.Decides.{nat_tests}
use Rattle.listing_lines.specs.Text.{Line}
use Rattle.listing_print.specs.Printed.{at_line, op_line}
use Rattle.pcode_model.specs.declared.listing.Instruction.{Instruction}
use Rattle.pcode_model.specs.declared.listing.Op.{Op}
use Rattle.pcodetext.specs.declared.fault.Why.TheVariants as why
use Rattle.pcodetext.specs.declared.line_kinds.Form.TheVariants as form
use Rattle.pcodetext.specs.AtLine.{is_behind}
use Rattle.pcodetext.specs.Checks.{of_some}
use Rattle.listing_again.proofs.Growth.{code_lines}
use Rattle.listing_again.proofs.Lines.{at_again}
use Rattle.generator.specs.declared.draws.Drawn.{Drawn}
use Rattle.generator.specs.declared.draws.Shape.{Shape}
use Rattle.generator.specs.declared.draws.Shape.TheVariants.{Constant, Sum, Xor, Product, Branch, Store, Load, Byte}
use Rattle.generator.specs.Generated.{address, constant, flag, instructions, low_byte, ops_by, ops_of, placed, register, returning, spaces, target}
use Rattle.generator.proofs.Counted.{no_instructions, one_more}
use Rattle.generator.specs.Fit.{AreFit}
use Rattle.generator_again.proofs.Header.{before_code}
use Rattle.generator_again.proofs.Ops.{IsPrintable, IsPrintableOp, coded, op_says}
use Rattle.generator_again.proofs.Saying.{Says, says_line, says_nothing, says_then}

-- ---- ops

register_prints : (k : ℕ) → k < 9 → IsPrintable (register k)
register_prints k few = record {
  space = (refl, refl);
  offset = omega arith;
  some = refl;
  size = omega arith;
  kept = refl;
}

byte_prints : (k : ℕ) → k < 9 → IsPrintable (low_byte k)
byte_prints k few = record {
  space = (refl, refl);
  offset = omega arith;
  some = refl;
  size = omega arith;
  kept = refl;
}

constant_prints : (w : ℕ) → w < 2 ^ 31 → IsPrintable (constant w)
constant_prints w small = record {
  space = (refl, refl);
  offset = omega arith;
  some = refl;
  size = omega arith;
  kept = omega arith;
}

flag_prints : IsPrintable flag
flag_prints = record { space = (refl, refl); offset = omega arith; some = refl; size = omega arith; kept = refl }

target_prints : (w : ℕ) → IsPrintable (target w)
target_prints w = record {
  space = (refl, refl);
  offset = omega arith;
  some = refl;
  size = omega arith;
  kept = refl;
}

ops_print : (s : Shape) (a b w : ℕ) → a < 8 → b < 8 → w < 2 ^ 31 → AllByRecursion IsPrintableOp (ops_by s a b w)
ops_print Constant a b w x y z = (
  record {
    code = record { name = refl; known = refl };
    out = register_prints a (omega arith);
    inputs = (constant_prints w z, tt);
  },
  tt,
)
ops_print Sum a b w x y z = (
  record {
    code = record { name = refl; known = refl };
    out = register_prints a (omega arith);
    inputs = (register_prints a (omega arith), (register_prints b (omega arith), tt));
  },
  tt,
)
ops_print Xor a b w x y z = (
  record {
    code = record { name = refl; known = refl };
    out = register_prints a (omega arith);
    inputs = (register_prints a (omega arith), (register_prints b (omega arith), tt));
  },
  tt,
)
ops_print Product a b w x y z = (
  record {
    code = record { name = refl; known = refl };
    out = register_prints a (omega arith);
    inputs = (register_prints a (omega arith), (register_prints b (omega arith), tt));
  },
  tt,
)
ops_print Branch a b w x y z = (
  record {
    code = record { name = refl; known = refl };
    out = flag_prints;
    inputs = (register_prints a (omega arith), (register_prints b (omega arith), tt));
  },
  (
    record {
      code = record { name = refl; known = refl };
      out = tt;
      inputs = (target_prints w, (flag_prints, tt));
    },
    tt,
  ),
)
ops_print Store a b w x y z = (
  record {
    code = record { name = refl; known = refl };
    out = tt;
    inputs = (
      constant_prints 1 (omega arith),
      (register_prints a (omega arith), (register_prints b (omega arith), tt)),
    );
  },
  tt,
)
ops_print Load a b w x y z = (
  record {
    code = record { name = refl; known = refl };
    out = register_prints a (omega arith);
    inputs = (constant_prints 1 (omega arith), (register_prints b (omega arith), tt));
  },
  tt,
)
ops_print Byte a b w x y z = (
  record {
    code = record { name = refl; known = refl };
    out = byte_prints a (omega arith);
    inputs = (register_prints b (omega arith), (constant_prints 1 (omega arith), tt));
  },
  tt,
)

pub returning_prints : AllByRecursion IsPrintableOp returning
returning_prints = (
  record {
    code = record { name = refl; known = refl };
    out = tt;
    inputs = (register_prints 8 (omega arith), tt);
  },
  tt,
)

ops_few : (s : Shape) (a b w : ℕ) → length (ops_by s a b w) ≤ 2
ops_few Constant a b w = omega arith
ops_few Sum a b w = omega arith
ops_few Xor a b w = omega arith
ops_few Product a b w = omega arith
ops_few Branch a b w = omega arith
ops_few Store a b w = omega arith
ops_few Load a b w = omega arith
ops_few Byte a b w = omega arith

-- ---- an instruction

few_test : (n : ℕ) → n < 16384 → nat_le 16384 n ≡ false
few_test n few = grind (arith, nat_tests)

ops_say : (done : List Instruction) (i : Instruction) (n : ℕ) (ops : List Op)
    → AllByRecursion IsPrintableOp ops
    → n + length ops ≤ 16384
    → Says (coded done (Some i) n) (map (op_line spaces) ops)
    (coded done (Some (record i { ops = i.ops ++ ops })) (n + length ops))
ops_say done i n [] h few =
    subst (Says (coded done (Some i) n) [])
    (ap₂ (λ (os : List Op) (m : ℕ). coded done (Some (record i { ops = os })) m) (sym (append-nil i.ops)) (omega arith))
    (says_nothing (coded done (Some i) n))
ops_say done i n (op ∷ ops) h few =
    let j : Instruction = record i { ops = i.ops ++ op ∷ [] } in
    subst (Says (coded done (Some i) n) (map (op_line spaces) (op ∷ ops)))
    (ap₂ (λ (os : List Op) (m : ℕ). coded done (Some (record i { ops = os })) m) (append_assoc i.ops (op ∷ []) ops)
    (omega arith))
    (says_then _ (coded done (Some j) (n + 1)) _ _ _ (op_says done i n op h.0 (few_test n (omega arith)))
    (ops_say done j (n + 1) ops h.1 (omega arith)))

abbrev pub lines_of_one : Instruction → List Line
lines_of_one i = at_line i ∷ map (op_line spaces) i.ops

at_fault : (b : Bool) → b ≡ false → (if b then Some why.Order else None) ≡ None
at_fault b e = ap (λ (t : Bool). if t then Some why.Order else None) e

instruction_says : (done : List Instruction) (last : Option Instruction) (n k : ℕ) (ops : List Op)
    → of_some (is_behind (address k)) last ≡ false
    → address k < 16 ^ 16
    → AllByRecursion IsPrintableOp ops
    → n + length ops ≤ 16384
    → Says (coded done last n) (lines_of_one (placed k ops))
    (coded (done ++ option_to_list last) (Some (placed k ops)) (n + length ops))
instruction_says done last n k ops behind far h few =
    says_then (coded done last n) (coded (done ++ option_to_list last) (Some (placed k [])) n) _ (at_line (placed k []) ∷ [])
    _
    (says_line (coded done last n) _ _ (form.At (record { address = address k; length = 4 })) refl
    (at_again (coded done last n) (record { address = address k; length = 4 }) far (omega arith)) (at_fault _ behind) refl)
    (ops_say (done ++ option_to_list last) (placed k []) n ops h few)

-- ---- so many instructions

pub code_append : (xs ys : List Instruction)
    → code_lines spaces (xs ++ ys) ≡ code_lines spaces xs ++ code_lines spaces ys
code_append [] ys = refl
code_append (x ∷ xs) ys =
    ap (λ (r : List Line). at_line x ∷ map (op_line spaces) x.ops ++ r) (code_append xs ys)
    ∙ ap (λ (r : List Line). at_line x ∷ r)
    (sym (append_assoc (map (op_line spaces) x.ops) (code_lines spaces xs) (code_lines spaces ys)))

pub one_line : (i : Instruction) → code_lines spaces (i ∷ []) ≡ lines_of_one i
one_line i = ap (λ (r : List Line). at_line i ∷ r) (append-nil (map (op_line spaces) i.ops))

module _ (draws : ℕ → Drawn) (fit : AreFit draws) where
  -- all instructions but the last one, and that one
  abbrev pub front : ℕ → List Instruction
  front zero = []
  front (suc n) = instructions draws n

  abbrev pub last_of : ℕ → Option Instruction
  last_of zero = None
  last_of (suc n) = Some (placed n (ops_of (draws n)))

  whole_front : (n : ℕ) → front n ++ option_to_list (last_of n) ≡ instructions draws n
  whole_front zero = sym (no_instructions draws)
  whole_front (suc n) = sym (one_more draws n)

  rises : (n : ℕ) → of_some (is_behind (address n)) (last_of n) ≡ false
  rises zero = refl
  rises (suc n) = behind (address (suc n)) (address n) (omega arith)
    where
      behind : (a b : ℕ) → b + 4 ≤ a → nat_le a b || nat_lt a (b + 4) ≡ false
      behind a b h = grind (arith, nat_tests)

  -- the lines of the first n instructions
  pub record CodeSaid (n : ℕ) : Type 0 where
    pub ops : ℕ
    pub few : ops ≤ 2 * n
    pub said : Says before_code (code_lines spaces (instructions draws n)) (coded (front n) (last_of n) ops)

  no_code : CodeSaid 0
  no_code = record {
    ops = 0;
    few = omega arith;
    said = subst (λ (code : List Instruction). Says before_code (code_lines spaces code) before_code)
        (sym (no_instructions draws)) (says_nothing before_code);
  }

  -- one instruction more
  pub more_says : (n m : ℕ) (ops : List Op)
      → n < 2 ^ 32
      → AllByRecursion IsPrintableOp ops
      → m + length ops ≤ 16384
      → Says before_code (code_lines spaces (instructions draws n)) (coded (front n) (last_of n) m)
      → Says before_code (code_lines spaces (instructions draws n ++ placed n ops ∷ []))
      (coded (instructions draws n) (Some (placed n ops)) (m + length ops))
  more_says n m ops far h few said =
      let i : Instruction = placed n ops in
      subst (λ (lines : List Line). Says before_code lines (coded (instructions draws n) (Some i) (m + length ops)))
      (ap (λ (r : List Line). code_lines spaces (instructions draws n) ++ r) (sym (one_line i))
      ∙ sym (code_append (instructions draws n) (i ∷ [])))
      (subst (λ (done : List Instruction).
      Says before_code (code_lines spaces (instructions draws n) ++ lines_of_one i) (coded done (Some i) (m + length ops)))
      (whole_front n)
      (says_then _ (coded (front n) (last_of n) m) _ _ _ said
      (instruction_says (front n) (last_of n) m n ops (rises n) (omega arith) h few)))

  one_code : (n m : ℕ) (d : Drawn)
      → length (ops_of d) ≤ 2
      → m ≤ 2 * n
      → m + length (ops_of d) ≤ 2 * suc n
  one_code n m d few h = omega (arith, few, h)

  -- The lines of the first instructions have no fault, and say these instructions.
  pub code_says : (n : ℕ) → n ≤ 2000 → CodeSaid n
  code_says zero h = no_code
  code_says (suc n) h =
      let before = code_says n (omega arith) in
      let d : Drawn = draws n in
      let few = ops_few d.shape d.first d.second d.word in
      let total = one_code n before.ops d few before.few in
      let prints = ops_print d.shape d.first d.second d.word (fit n).first (fit n).second (fit n).word in
      record {
        ops = before.ops + length (ops_of d);
        few = total;
        said = subst (λ (code : List Instruction). Says before_code (code_lines spaces code)
            (coded (instructions draws n) (Some (placed n (ops_of d))) (before.ops + length (ops_of d))))
            (sym (one_more draws n))
            (more_says n before.ops (ops_of d) (omega arith) prints (omega (arith, total)) before.said);
      }
