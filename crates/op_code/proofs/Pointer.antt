-- The word so many bytes above that of a range, and where memory lies above the stack pointer.
use Rattle.std.proofs.Common.{◌≡◌, ◌≢◌, ℕ, zero, suc, ◌+◌, ◌*◌, ◌%◌, ◌<◌, ◌≤◌, List, Option, Some, sym, ap, ◌∙◌, subst, arith}
use Rattle.std.proofs.Math.Nat.{add-mod-mod, mod-eq_of_lt, mod-lt}
use Rattle.bits_core.specs.declared.ops.Binary.TheVariants as B
use Rattle.bits_core.specs.Value.{add, binary_value, limit}
use Rattle.bits_core.proofs.Limits.{limit_pos}
use Rattle.pcode_model.specs.declared.listing.Varnode.{Varnode}
use Rattle.pcode_model.specs.declared.listing.Listing.{Listing}
use Rattle.pcode_model.specs.Memory.{Bytes}
use Rattle.pcode_model.specs.Spaces.{first_ram}
use Rattle.pcode_model.specs.Step.{byte_address, local_word, stack_address}
use Rattle.range_words.specs.Own.{stack_size, with_own}
use Rattle.range_words.specs.Ranges.{AreBytes, Holds}
use Rattle.range_words.proofs.Own.{word_else}
use Rattle.range_words.proofs.Variables.{local_word_below}
use Rattle.cmeaning.specs.declared.tree.ArithmeticOp.TheVariants.{Add}
use Rattle.cmeaning.specs.declared.tree.Expr.TheVariants as E
use Rattle.cmeaning.proofs.Value.{value_of_arithmetic, value_of_const, width_of_arithmetic, width_of_const}
use Rattle.op_values.specs.Nodes.{constant, word_by}
use Rattle.op_values.proofs.Means.{Means, nearest_is, two}
use Rattle.op_code.specs.Cover.{HasCover}
use Rattle.op_code.specs.Form.{HasPointer, IsNarrow}
use Rattle.op_code.specs.Made.{above, above_stack, range_word}
use Rattle.op_code.proofs.Access.{Points, address_points}
use Rattle.op_code.proofs.Reading.{read_means}
use Rattle.op_code.proofs.Sees.{Setting}

module _ (ws : ℕ → ℕ) (env : ℕ → Option ℕ) where
  -- a constant that may be too great is reduced
  reduced_means : (w n : ℕ) → 0 < w → w ≤ 16 → Means ws env (constant w n) w (n % limit w)
  reduced_means w n some small =
      let e = nearest_is w some small in
      record {
        width = width_of_const ws (word_by w n) ∙ e;
        value = value_of_const ws env (word_by w n) ∙ ap (λ k. Some (n % limit k)) e;
      }

module _
    (l : Listing)
    (ranges : List Varnode)
    (ws : ℕ → ℕ)
    (set : Setting l ranges ws)
    (m : Bytes)
    (env : ℕ → Option ℕ)
    (holds : Holds l ranges m env)
    (are : AreBytes m)
    (v : Varnode)
    (narrow : IsNarrow v)
    (cover : HasCover ranges v)
  where
    -- What stands for the word so many bytes above a range's has it.
    pub above_means : (n : ℕ) → Means ws env (above l ranges v n) v.size ((local_word l v m + n) % limit v.size)
    unfolding add
    above_means zero =
        let a = local_word l v m in
        let M : ℕ → Type 0 = λ b. Means ws env (range_word l ranges v) v.size b in
        let none : a + 0 ≡ a = omega arith in
        subst M (sym (mod-eq_of_lt (local_word_below l v m are)) ∙ ap (λ b. b % limit v.size) (sym none))
        (read_means l ranges set.table ws set.widths m env holds v cover narrow.0 narrow.1)
    above_means (suc n) =
        let d = range_word l ranges v in
        let e = constant v.size (suc n) in
        let a = local_word l v m in
        let word = read_means l ranges set.table ws set.widths m env holds v cover narrow.0 narrow.1 in
        let more = reduced_means ws env v.size (suc n) narrow.0 narrow.1 in
        record {
          width = width_of_arithmetic ws Add d e ∙ word.width;
          value = two ws env (E.Arithmetic Add d e) d e (λ u x w y. binary_value B.Add u x w y u) v.size v.size a
              (suc n % limit v.size) (value_of_arithmetic ws env Add d e) word more
              ∙ ap (λ k. Some k) (add-mod-mod a (suc n) (limit v.size));
        }

-- Where there is a stack pointer, what stands for memory above it lies there.
module _
    (l : Listing)
    (ranges : List Varnode)
    (ws : ℕ → ℕ)
    (set : Setting l ranges ws)
    (own : ℕ → ℕ)
    (m : Bytes)
    (env : ℕ → Option ℕ)
    (holds : Holds l ranges (with_own l own m) env)
    (are : AreBytes (with_own l own m))
    (has : HasPointer l ranges)
  where
    abbrev pointer : Varnode
    pointer = has.pointer

    pointer_off : pointer.space ≢ first_ram l
    pointer_off e = set.registers (sym has.given.0 ∙ e)

    addressed : (n : ℕ)
        → byte_address l (first_ram l) ((local_word l pointer (with_own l own m) + n) % limit pointer.size)
        ≡ stack_address l n (Some pointer) m
    addressed n =
        let a = local_word l pointer (with_own l own m) in
        let k = limit pointer.size in
        let b = (a + n) % k in
        let one : b * 1 ≡ b = omega arith in
        ap (λ w. b * w % stack_size l) has.word
        ∙ ap (λ c. c % stack_size l) one
        ∙ ap (λ j. b % j) has.wide
        ∙ mod-eq_of_lt (mod-lt (a + n) (limit_pos pointer.size))
        ∙ ap (λ j. (a + n) % j) (sym has.wide)
        ∙ ap (λ c. (c + n) % stack_size l) (word_else l own m pointer pointer_off)

    pub stack_points : (n : ℕ)
        → Points ws env l (first_ram l) (above_stack l ranges l.stack n) (stack_address l n l.stack m)
    stack_points n =
        let a = (local_word l pointer (with_own l own m) + n) % limit pointer.size in
        let P : ℕ → Type 0 = λ at. Points ws env l (first_ram l) (above_stack l ranges (Some pointer) n) at in
        let Q : Option Varnode → Type 0 =
        λ st. Points ws env l (first_ram l) (above_stack l ranges st n) (stack_address l n st m) in
        let narrow = has.given.1.0 in
        subst Q (sym has.is)
        (subst P (addressed n)
        (address_points ws env l (first_ram l) pointer.size a (above l ranges pointer n) has.memory narrow.0 narrow.1
        (above_means l ranges ws set (with_own l own m) env holds are pointer narrow has.given.1.1 n)))
