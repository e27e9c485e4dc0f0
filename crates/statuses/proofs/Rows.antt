-- What each status says, by the answer.
use Rattle.std.proofs.Common.{◌≡◌, ℕ, List, refl, inl, inr, arith}
use Rattle.outside.specs.Told.{Held}
use Rattle.outside.specs.Writing.{WroteShort}
use Rattle.statuses.specs.Answer.{Answer, Shown, Refused, BadArguments, ReadFault, TooLong, Memory}
use Rattle.statuses.specs.Delivery.{Delivers}
use Rattle.statuses.specs.Table.{CutShort, MayComplain, Rows}

module _ (name : List ℕ) (Why : Answer → Type 0) (out out_new err err_new : Held) where
  failed : (status : ℕ)
      → status ≡ 4
      → CutShort name Why out out_new err err_new
      → Rows name Why out out_new err err_new status
  failed status is w = record {
    done = λ e. absurd (omega arith);
    refused = λ e. absurd (omega arith);
    arguments = λ e. absurd (omega arith);
    read = λ e. absurd (omega arith);
    write = λ e. w;
    memory = λ e. absurd (omega arith);
    long = λ e. absurd (omega arith);
    range = omega arith;
  }

  line_failed : (status : ℕ) (line : List ℕ)
      → (status ≡ 4) × WroteShort err err_new line
      → MayComplain name Why line
      → out_new ≡ out
      → Rows name Why out out_new err err_new status
  line_failed status line w why same = failed status w.0 (inr ((line, (why, w.1)), same))

  -- The rows hold of what was delivered.
  pub rows : (a : Answer) (status : ℕ)
      → Why a
      → Delivers name a out out_new err err_new status
      → Rows name Why out out_new err err_new status
  rows (Shown text) status why (inl w, same) = record {
    done = λ e. ((text, (why, w.1)), same);
    refused = λ e. absurd (omega arith);
    arguments = λ e. absurd (omega arith);
    read = λ e. absurd (omega arith);
    write = λ e. absurd (omega arith);
    memory = λ e. absurd (omega arith);
    long = λ e. absurd (omega arith);
    range = omega arith;
  }
  rows (Shown text) status why (inr w, same) = failed status w.0 (inl ((text, (why, w.1)), same))
  rows (Refused line) status why (inl w, same) = record {
    done = λ e. absurd (omega arith);
    refused = λ e. ((line, (why, w.1)), same);
    arguments = λ e. absurd (omega arith);
    read = λ e. absurd (omega arith);
    write = λ e. absurd (omega arith);
    memory = λ e. absurd (omega arith);
    long = λ e. absurd (omega arith);
    range = omega arith;
  }
  rows (Refused line) status why (inr w, same) = line_failed status _ w (inl why) same
  rows BadArguments status why (inl w, same) = record {
    done = λ e. absurd (omega arith);
    refused = λ e. absurd (omega arith);
    arguments = λ e. (why, (w.1, same));
    read = λ e. absurd (omega arith);
    write = λ e. absurd (omega arith);
    memory = λ e. absurd (omega arith);
    long = λ e. absurd (omega arith);
    range = omega arith;
  }
  rows BadArguments status why (inr w, same) = line_failed status _ w (inr (inl (why, refl))) same
  rows ReadFault status why (inl w, same) = record {
    done = λ e. absurd (omega arith);
    refused = λ e. absurd (omega arith);
    arguments = λ e. absurd (omega arith);
    read = λ e. (why, (w.1, same));
    write = λ e. absurd (omega arith);
    memory = λ e. absurd (omega arith);
    long = λ e. absurd (omega arith);
    range = omega arith;
  }
  rows ReadFault status why (inr w, same) = line_failed status _ w (inr (inr (inl (why, refl)))) same
  rows TooLong status why (inl w, same) = record {
    done = λ e. absurd (omega arith);
    refused = λ e. absurd (omega arith);
    arguments = λ e. absurd (omega arith);
    read = λ e. absurd (omega arith);
    write = λ e. absurd (omega arith);
    memory = λ e. absurd (omega arith);
    long = λ e. (why, (w.1, same));
    range = omega arith;
  }
  rows TooLong status why (inr w, same) = line_failed status _ w (inr (inr (inr (why, refl)))) same
  rows Memory status why d = record {
    done = λ e. absurd (omega arith);
    refused = λ e. absurd (omega arith);
    arguments = λ e. absurd (omega arith);
    read = λ e. absurd (omega arith);
    write = λ e. absurd (omega arith);
    memory = λ e. (d.1.0, d.1.1);
    long = λ e. absurd (omega arith);
    range = omega arith;
  }
