-- What the lines have said lies in the listing.
use Rattle.std.proofs.Common.{◌≡◌, ℕ, ◌+◌, ◌<◌, ◌≤◌, true, false, List, [], ◌∷◌, ◌++◌, length, arith}
use Rattle.std.specs.Prelude.{Option, Some, None, IfSome}
use Rattle.std.specs.List.{AllByRecursion}
use Rattle.std.specs.Option.{is_none, option_map, option_to_list}
use Rattle.std.proofs.lemmas.Bool.{ltb-false}
use Rattle.line_reader.specs.Faults.{first_fault}
use Rattle.line_reader.proofs.Faults.{AllFalse, all_false}
use Rattle.pcode_model.specs.declared.listing.Listing.{Listing}
use Rattle.pcode_model.specs.declared.listing.SpaceKind.TheVariants.{Ram}
use Rattle.pcode_model.specs.Ranges.{is_kind}
use Rattle.pcode_model.specs.Spaces.{first_ram, is_fixed, register_space, size_of}
use Rattle.run_world.specs.declared.entry.Answer.{Answer}
use Rattle.entrytext.specs.declared.form.BytesLine.{BytesLine}
use Rattle.entrytext.specs.declared.form.Form.{Form}
use Rattle.entrytext.specs.declared.form.Form.TheVariants as form
use Rattle.entrytext.specs.declared.form.Part.{Part}
use Rattle.entrytext.specs.declared.form.Part.TheVariants as part
use Rattle.entrytext.specs.declared.partial_entry.PartialEntry.{PartialEntry}
use Rattle.entrytext.specs.Faults.{faults, is_read_only, leaves_known}
use Rattle.entrytext.specs.Lies.{AnswerLiesIn, IsIn, IsInRam, IsInside, IsOfState}
use Rattle.entrytext.specs.Meaning.{after, bytes_from, bytes_in, number, with_part}
use Rattle.entrytext.proofs.Bytes.{IsSmall, byte_at, from_all, none_at}
use Rattle.entrytext.proofs.Good.{IsGood, IsLine, IsOfPart}
use Rattle.entrytext.proofs.Named.{IsReal}

pub all_joined : {A : Type 0} (P : A → Type 0) (xs ys : List A)
    → AllByRecursion P xs
    → AllByRecursion P ys
    → AllByRecursion P (xs ++ ys)
all_joined P [] ys h g = g
all_joined P (x ∷ xs) ys h g = (h.0, all_joined P xs ys h.1 g)

never : true ≡ false → ⊥
never h = cc

module _ (l : Listing) where
  -- what the lines so far have said
  pub record IsKept (s : PartialEntry) : Type 0 where
    pub state : AllByRecursion (IsOfState l) s.state
    pub hidden : AllByRecursion (IsIn l (first_ram l)) s.hidden
    pub done : AllByRecursion (AnswerLiesIn l) s.done
    pub last : IfSome s.last (AnswerLiesIn l)

  -- ---- the bytes of a line

  inside : (n offset i b count : ℕ)
      → offset + count ≤ size_of l n
      → i < count
      → b < 256
      → IsInside l (byte_at n (offset + i) b)
  inside n offset i b count fits within less = record { offset = omega (arith, fits, within); value = less }

  module _ (offset : ℕ) (bytes : List ℕ) (small : AllByRecursion IsSmall bytes) where
    state_bytes : (o : Option ℕ)
        → IfSome o (IsReal l)
        → is_none o ≡ false
        → leaves_known l o offset (length bytes) ≡ false
        → is_read_only l o offset (length bytes) ≡ false
        → AllByRecursion (IsOfState l) (bytes_from (number o) offset bytes)
    state_bytes None real known leaves free = absurd (never known)
    state_bytes (Some n) real known leaves free = from_all (IsOfState l) n bytes offset each small
      where
        fits : offset + length bytes ≤ size_of l n
        fits = ltb-false _ _ leaves

        each : (i b : ℕ) → i < length bytes → b < 256 → IsOfState l (byte_at n (offset + i) b)
        each i b within less = record {
          inside = inside n offset i b (length bytes) fits within less;
          space = real;
          free = none_at (size_of l n) (is_fixed l n) (length bytes) offset fits free i within;
        }

    in_bytes : (m : ℕ) (o : Option ℕ)
        → IfSome o (λ n. n ≡ m)
        → is_none o ≡ false
        → leaves_known l o offset (length bytes) ≡ false
        → AllByRecursion (IsIn l m) (bytes_from (number o) offset bytes)
    in_bytes m None is known leaves = absurd (never known)
    in_bytes m (Some n) is known leaves = from_all (IsIn l m) n bytes offset each small
      where
        each : (i b : ℕ) → i < length bytes → b < 256 → IsIn l m (byte_at n (offset + i) b)
        each i b within less =
            record { inside = inside n offset i b (length bytes) (ltb-false _ _ leaves) within less; space = is }

    ram_bytes : (o : Option ℕ)
        → IfSome o (λ n. is_kind Ram l.spaces n ≡ true)
        → is_none o ≡ false
        → leaves_known l o offset (length bytes) ≡ false
        → AllByRecursion (IsInRam l) (bytes_from (number o) offset bytes)
    ram_bytes None is known leaves = absurd (never known)
    ram_bytes (Some n) is known leaves = from_all (IsInRam l) n bytes offset each small
      where
        each : (i b : ℕ) → i < length bytes → b < 256 → IsInRam l (byte_at n (offset + i) b)
        each i b within less =
            record { inside = inside n offset i b (length bytes) (ltb-false _ _ leaves) within less; ram = is }

  -- ---- answers

  module _ (b : BytesLine) (known : is_none b.space ≡ false)
      (leaves : leaves_known l b.space b.offset (length b.bytes) ≡ false) where
    part_kept : (p : Part) (a : Answer)
        → IsLine (IsOfPart l p) b
        → AnswerLiesIn l a
        → AnswerLiesIn l (with_part p (bytes_in b) a)
    part_kept part.Registers a is good = record {
      registers = all_joined (IsIn l (register_space l)) a.registers (bytes_in b) good.registers
          (in_bytes b.offset b.bytes is.small (register_space l) b.space is.space known leaves);
      memory = good.memory;
      hidden = good.hidden;
    }
    part_kept part.Memory a is good = record {
      registers = good.registers;
      memory = all_joined (IsInRam l) a.memory (bytes_in b) good.memory
          (ram_bytes b.offset b.bytes is.small b.space is.space known leaves);
      hidden = good.hidden;
    }
    part_kept part.Hidden a is good = record {
      registers = good.registers;
      memory = good.memory;
      hidden = all_joined (IsIn l (first_ram l)) a.hidden (bytes_in b) good.hidden
          (in_bytes b.offset b.bytes is.small (first_ram l) b.space is.space known leaves);
    }

    last_kept : (p : Part) (o : Option Answer)
        → IsLine (IsOfPart l p) b
        → IfSome o (AnswerLiesIn l)
        → IfSome (option_map (with_part p (bytes_in b)) o) (AnswerLiesIn l)
    last_kept p None is good = tt
    last_kept p (Some a) is good = part_kept p a is good

  pub last_all : (o : Option Answer)
      → IfSome o (AnswerLiesIn l)
      → AllByRecursion (AnswerLiesIn l) (option_to_list o)
  last_all None good = tt
  last_all (Some a) good = (good, tt)

  -- ---- each line

  module _ (s : PartialEntry) (k : IsKept s) where
    state_kept : (b : BytesLine)
        → IsLine (IsReal l) b
        → AllFalse (faults l s (form.State b))
        → IsKept (after s (form.State b))
    state_kept b is p = record {
      state = all_joined (IsOfState l) s.state (bytes_in b) k.state
          (state_bytes b.offset b.bytes is.small b.space is.space p.1.0 p.1.1.0 p.1.1.1.0);
      hidden = k.hidden;
      done = k.done;
      last = k.last;
    }

    hidden_kept : (b : BytesLine)
        → IsLine (λ n. n ≡ first_ram l) b
        → AllFalse (faults l s (form.Hidden b))
        → IsKept (after s (form.Hidden b))
    hidden_kept b is p = record {
      state = k.state;
      hidden = all_joined (IsIn l (first_ram l)) s.hidden (bytes_in b) k.hidden
          (in_bytes b.offset b.bytes is.small (first_ram l) b.space is.space p.1.0 p.1.1.0);
      done = k.done;
      last = k.last;
    }

    answer_kept : (word : ℕ) → IsKept (after s (form.Answer word))
    answer_kept word = record {
      state = k.state;
      hidden = k.hidden;
      done = all_joined (AnswerLiesIn l) s.done (option_to_list s.last) k.done (last_all s.last k.last);
      last = record { registers = tt; memory = tt; hidden = tt };
    }

    answered_kept : (q : Part) (b : BytesLine)
        → IsLine (IsOfPart l q) b
        → AllFalse (faults l s (form.Answered q b))
        → IsKept (after s (form.Answered q b))
    answered_kept q b is p = record {
      state = k.state;
      hidden = k.hidden;
      done = k.done;
      last = last_kept b p.1.0 p.1.1.0 q s.last is k.last;
    }

    -- a line without a fault adds bytes of its own space alone
    pub kept : (f : Form) → IsGood l f → first_fault (faults l s f) ≡ None → IsKept (after s f)
    kept (form.State b) good none = state_kept b good (all_false (faults l s (form.State b)) none)
    kept (form.Hidden b) good none = hidden_kept b good (all_false (faults l s (form.Hidden b)) none)
    kept (form.Answer word) good none = answer_kept word
    kept (form.Answered q b) good none = answered_kept q b good (all_false (faults l s (form.Answered q b)) none)
    kept form.Entry good none = record { state = k.state; hidden = k.hidden; done = k.done; last = k.last }
    kept form.End good none = record { state = k.state; hidden = k.hidden; done = k.done; last = k.last }
    kept form.Nothing good none = k
