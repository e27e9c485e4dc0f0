-- Which status comes where no fault was counted and the shelf's files are told, and the whole table.
use Rattle.std.proofs.Common.{◌≡◌, ◌∙◌, ◌⊎◌, ℕ, List, Option, Some, Result, Ok, Err, refl, sym, ap, subst, inl, inr, arith}
use Rattle.outside.specs.Told.{Folder, Held, Told}
use Rattle.outside.specs.declared.reading.ReadEnd.{ReadEnd}
use Rattle.outside.specs.declared.reading.ReadEnd.TheVariants.{Memory}
use Rattle.pcode_model.specs.Limits.{max_input}
use Rattle.statuses.specs.Answer as answer
use Rattle.statuses.specs.Answer.{Answer}
use Rattle.statuses.specs.Delivery.{Delivers}
use Rattle.statuses.specs.Fetched.{in_folder}
use Rattle.statuses.specs.Told.{Quiet}
use Rattle.statuses.proofs.Cause.{settled}
use Rattle.statuses.proofs.Table as any
use Rattle.statuses.proofs.Fetched.{fetched_bytes, fetched_end}
use Rattle.runwords.specs.Fetched.{AllFetched, all_in, with_c_text, with_entry, with_listing}
use Rattle.runwords.specs.Request.{Asked}
use Rattle.runwords.specs.Table.{Because, IsGathered, IsJudged, Table, program}
use Rattle.runwords.specs.declared.files.Inputs.{Inputs}
use Rattle.runwords.specs.declared.gathering.Gathered.{Gathered}

module _ (files : Folder) where
  on : (old new : Told) (n : ℕ) → new.faults ≡ old.faults → Quiet old.faults n → Quiet new.faults n
  on old new n same quiet = (omega (arith, same, quiet.0), quiet.1 ∙ sym same)

  stopped : (a : Asked) (end : ReadEnd) (came : Result Inputs ReadEnd)
      → came ≡ Err end
      → (end ≡ Memory) ⊎ (all_in files a ≡ Err end)
      → (came ≡ Err Memory) ⊎ (all_in files a ≡ came)
  stopped a end came is (inl e) = inl (is ∙ ap Err e)
  stopped a end came is (inr e) = inr (e ∙ sym is)

  or_on : (end : ReadEnd) (x y : Result Inputs ReadEnd)
      → x ≡ y
      → (end ≡ Memory) ⊎ (y ≡ Err end)
      → (end ≡ Memory) ⊎ (x ≡ Err end)
  or_on end x y is (inl e) = inl e
  or_on end x y is (inr e) = inr (is ∙ e)

  lift : (end : ReadEnd) (f : Result (List ℕ) ReadEnd → Result Inputs ReadEnd) (x : Result (List ℕ) ReadEnd)
      → f (Err end) ≡ Err end
      → (end ≡ Memory) ⊎ (x ≡ Err end)
      → (end ≡ Memory) ⊎ (f x ≡ Err end)
  lift end f x passes (inl e) = inl e
  lift end f x passes (inr e) = inr (ap f e ∙ passes)

  module _ (a : Asked) (old new : Told) (told : old.files ≡ Some files) (quiet : Quiet old.faults new.faults) where
    -- the files, as they were read or not
    pub all_is : (came : Result Inputs ReadEnd)
        → AllFetched a old new came
        → (came ≡ Err Memory) ⊎ (all_in files a ≡ came)
    all_is (Ok inputs) (first, (second, (p, (q, r)))) =
        let one = fetched_bytes max_input files a.listing old first told inputs.listing p.0 in
        let two = fetched_bytes max_input files a.c_text first second (p.1 ∙ told) inputs.c_text q.0 in
        let three = fetched_bytes max_input files a.entry second new (q.1 ∙ p.1 ∙ told) inputs.entry r.0 in
        inr (ap (with_listing files a) one.0 ∙ ap (with_c_text files a inputs.listing) two.0
        ∙ ap (with_entry inputs.listing inputs.c_text) three.0)
    all_is (Err end) (inl f) = stopped a end (Err end) refl
        (lift end (with_listing files a) (in_folder max_input files a.listing) refl (fetched_end max_input files a.listing old new told end quiet f))
    all_is (Err end) (inr (inl (first, (bytes, (p, f))))) =
        let one = fetched_bytes max_input files a.listing old first told bytes p.0 in
        let two = fetched_end max_input files a.c_text first new (p.1 ∙ told) end (on old first new.faults one.1 quiet) f in
        stopped a end (Err end) refl (or_on end (all_in files a)
        (with_c_text files a bytes (in_folder max_input files a.c_text)) (ap (with_listing files a) one.0)
        (lift end (with_c_text files a bytes) (in_folder max_input files a.c_text) refl two))
    all_is (Err end) (inr (inr (first, (second, (bytes, (more, (p, (q, f)))))))) =
        let one = fetched_bytes max_input files a.listing old first told bytes p.0 in
        let two = fetched_bytes max_input files a.c_text first second (p.1 ∙ told) more q.0 in
        let three = fetched_end max_input files a.entry second new (q.1 ∙ p.1 ∙ told) end
        (on first second new.faults two.1 (on old first new.faults one.1 quiet)) f in
        let is : all_in files a ≡ with_entry bytes more (in_folder max_input files a.entry) = ap (with_listing files a) one.0
        ∙ ap (with_c_text files a bytes) two.0 in
        stopped a end (Err end) refl (or_on end (all_in files a) (with_entry bytes more (in_folder max_input files a.entry)) is
        (lift end (with_entry bytes more) (in_folder max_input files a.entry) refl three))

-- what isn't want of memory was read so
sure : (came expected : Result Inputs ReadEnd)
    → (came ≡ Err Memory → ⊥)
    → (came ≡ Err Memory) ⊎ (expected ≡ came)
    → came ≡ expected
sure came expected not (inl e) = absurd (not e)
sure came expected not (inr e) = sym e

-- ---- the whole table

module _ (Shows : Inputs → ℕ → List ℕ → Type 0) (Faults : Inputs → List ℕ → Type 0) (asked : Option Asked) where
  -- The inputs that the words ask for were read whole and judged.
  pub judged : (reads : Asked → Result Inputs ReadEnd → Type 0) (g : Gathered) (o : Answer)
      → IsGathered asked reads g → IsJudged Shows Faults g.inputs g.steps o → Because Shows Faults asked reads o
  judged reads g (answer.Shown text) (a, (is, (read, steps))) h =
      (a, (g.inputs, (is, (read, (let P : ℕ → Type 0 = λ n. Shows g.inputs n text in subst P steps h)))))
  judged reads g (answer.Refused line) (a, (is, (read, steps))) h = (a, (g.inputs, (is, (read, h))))
  judged reads g answer.BadArguments w h = absurd h
  judged reads g answer.ReadFault w h = absurd h
  judged reads g answer.TooLong w h = absurd h
  judged reads g answer.Memory w h = tt

  -- The table of a call that came to an answer by the files that it read, and delivered it.
  pub table : (shelf shelf_new : Told) (out out_new err err_new : Held) (o : Answer) (status : ℕ)
      → Because Shows Faults asked (λ a came. AllFetched a shelf shelf_new came) o → Delivers program o out out_new
      err err_new status
      → Table Shows Faults asked shelf shelf_new out out_new err err_new status
  table shelf shelf_new out out_new err err_new o status why told =
      any.table program out out_new err err_new
      (Because Shows Faults asked (λ a came. AllFetched a shelf shelf_new came))
      (λ (files : Folder). Quiet shelf.faults shelf_new.faults × (shelf.files ≡ Some files))
      (λ files. Because Shows Faults asked (λ a came. came ≡ all_in files a))
      (λ files known. settled (λ (a : Asked) (i : Inputs) text. Shows i a.steps text)
      (λ (a : Asked) (i : Inputs) line. Faults i line) asked (λ a came. AllFetched a shelf shelf_new came)
      (λ a came. came ≡ all_in files a)
      (λ a is came read not. sure came (all_in files a) not
      (all_is files a shelf shelf_new known.1 known.0 came read)))
      o status why told
