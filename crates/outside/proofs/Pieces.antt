-- Bytes that move in several calls.
use Rattle.std.proofs.Common.{◌+◌, ◌-◌, ◌<◌, ◌≡◌, ◌∙◌, refl, ap, ℕ, List, take, drop, length, sym, subst, arith, ◌++◌, length-append}
use Rattle.std.specs.Prelude.{Bool, IsErrOf, Option, Err}
use Rattle.outside.specs.Causes.{Rose}
use Rattle.outside.specs.Told.{Told}
use Rattle.outside.specs.Reading.{Gave, TookAtMost}
use Rattle.outside.specs.declared.reading.ReadEnd.{ReadEnd}
use Rattle.outside.specs.declared.reading.ReadEnd.TheVariants.{Fault, TooLong, Memory}
use Rattle.std.proofs.Math.Seq.{take-add}
use Rattle.std.proofs.lemmas.List.{take_all, length-drop}
use Rattle.std.proofs.KnownBytes.{Appends-trans, Consumes-kept, Consumes-trans}
use Rattle.std.specs.Io.KnownBytes.{Appends, Consumes, Keeps}

-- a second call took the next n bytes of what was left of the piece
pub appends_next : (a b c : Option (List ℕ)) (piece : List ℕ) (done n : ℕ) → Appends a b (take done piece)
    → Appends b c (take n (take (length piece - done) (drop done piece))) → Appends a c (take (done + n) piece)
appends_next a b c piece done n p q =
    let whole : take n (take (length piece - done) (drop done piece)) ≡ take n (drop done piece) =
    ap (take n) (take_all _ _ (omega (arith, length-drop done piece))) in
    subst (Appends a c) (ap (λ l. take done piece ++ l) whole ∙ sym (take-add done n piece)) (Appends-trans a b c _ _ p q)

-- a read that ended, after what had come before
pub gave_end : (limit most : ℕ) (a b c : Told) (had : List ℕ) (e : ReadEnd) → most ≡ limit + 1 → length had < most → Consumes a.left b.left had → b.faults ≡ a.faults
    → (IsErrOf {T = Bool} (Err e) Fault → Keeps b.left c.left × Rose b.faults c.faults) → TookAtMost b.left c.left (most - length had) → (IsErrOf {T = Bool} (Err e) TooLong → ⊥) → ((IsErrOf {T = Bool} (Err e) Fault → ⊥) → c.faults ≡ b.faults)
    → Gave limit a c (Err e)
gave_end limit most a b c had Fault is_most short came same fault lost long kept =
    let f = fault refl in ((had, Consumes-kept _ _ _ had came f.0, omega arith), subst (λ (n : ℕ). Rose n c.faults) same f.1)
gave_end limit most a b c had TooLong is_most short came same fault lost long kept = absurd (long refl)
gave_end limit most a b c had Memory is_most short came same fault lost long kept =
    ((had ++ lost.0, Consumes-trans _ _ _ _ _ came lost.1, omega (arith, length-append had lost.0)), kept (λ bad. absurd (cc)) ∙ same)
