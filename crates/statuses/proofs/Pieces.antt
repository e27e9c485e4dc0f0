-- A line that is written in two pieces.
use Rattle.std.proofs.Common.{◌≡◌, ◌∙◌, ◌+◌, ℕ, List, ◌++◌, length, length-append, take, inl, inr, sym, subst, arith}
use Rattle.std.proofs.KnownBytes.{Appends-trans}
use Rattle.std.proofs.Math.Seq.{take-append-add}
use Rattle.std.proofs.lemmas.List.{take-append-le}
use Rattle.std.specs.Io.KnownBytes.{Appends}
use Rattle.outside.specs.Causes.{Rose}
use Rattle.outside.specs.Told.{Held}
use Rattle.outside.specs.Writing.{Wrote, WroteShort}
use Rattle.statuses.specs.Delivery.{Writes}

module _ (old mid new : Held) (name words : List ℕ) where
  both : Wrote old mid name → Wrote mid new words → Wrote old new (name ++ words)
  both first second = (Appends-trans old.taken mid.taken new.taken name words first.0 second.0, second.1 ∙ first.1)

  short_rest : Wrote old mid name → WroteShort mid new words → WroteShort old new (name ++ words)
  short_rest first (rose, (k, few, came)) = (
    subst (λ (n : ℕ). Rose n new.faults) first.1 rose,
    (
      length name + k,
      omega (arith, few, length-append name words),
      subst (Appends old.taken new.taken) (sym (take-append-add name words k))
          (Appends-trans old.taken mid.taken new.taken name (take k words) first.0 came),
    ),
  )

-- a sink that failed in the name failed in the line
pub short_front : (told : ℕ) (old new : Held) (name words : List ℕ) (status : ℕ)
    → status ≡ 4
    → WroteShort old new name
    → Writes told (name ++ words) old new status
short_front told old new name words status is (rose, (k, few, came)) = inr (
  is,
  (
    rose,
    (
      k,
      omega (arith, few, length-append name words),
      subst (Appends old.taken new.taken) (sym (take-append-le k name words (omega (arith, few)))) came,
    ),
  ),
)

-- after the name the rest was written, or the sink failed in it
pub after_front : (told : ℕ) (old mid new : Held) (name words : List ℕ) (status : ℕ)
    → Wrote old mid name
    → Writes told words mid new status
    → Writes told (name ++ words) old new status
after_front told old mid new name words status first (inl w) = inl (w.0, both old mid new name words first w.1)
after_front told old mid new name words status first (inr w) = inr (w.0, short_rest old mid new name words first w.1)
