-- What came of reading a file where no fault was counted and the files are told.
use Rattle.std.proofs.Common.{◌≡◌, ◌∙◌, ◌⊎◌, ℕ, List, Option, Some, Result, Ok, Err, refl, sym, ap, subst, inl, inr}
use Rattle.outside.specs.Causes.{Rose}
use Rattle.outside.specs.Files.{IsFile, IsMissing}
use Rattle.outside.specs.Told.{Folder, Told}
use Rattle.outside.specs.declared.reading.ReadEnd.{ReadEnd}
use Rattle.outside.specs.declared.reading.ReadEnd.TheVariants.{Fault, TooLong, Memory}
use Rattle.statuses.specs.Fetched.{Fetched, file_whole, in_folder}
use Rattle.statuses.specs.Told.{Quiet}
use Rattle.statuses.proofs.Told.{all_whole, no_fault, too_many}

ok_not : (bytes : List ℕ) (end : ReadEnd) → ◌≡◌ {A = Result (List ℕ) ReadEnd} (Ok bytes) (Err end) → ⊥
ok_not bytes end h = cc

long_not : ◌≡◌ {A = Result (List ℕ) ReadEnd} (Err TooLong) (Err Fault) → ⊥
long_not h = cc

module _ (limit : ℕ) (files : Folder) (name : List ℕ) (old new : Told) (told : old.files ≡ Some files) where
  named : (left : Option (List ℕ)) → IsFile name old.files left → IsFile name (Some files) left
  named left file = subst (λ (f : Option Folder). IsFile name f left) told file

  -- The bytes that were read are those of the file, and no fault was counted.
  pub fetched_bytes : (bytes : List ℕ)
      → Fetched limit name old new (Ok bytes)
      → (in_folder limit files name ≡ Ok bytes) × (new.faults ≡ old.faults)
  fetched_bytes bytes (inl (mid, (selected, gave))) =
      let file = named mid.left selected.chosen in (
        ap (file_whole limit) file.1 ∙ sym (all_whole limit mid new file.0 file.2 bytes gave),
        gave.3 ∙ selected.kept,
      )
  fetched_bytes bytes (inr (e, why)) = absurd (ok_not bytes Fault e)

  -- Where reading the file failed and no fault was counted, memory ran out, or it can't be read whole.
  pub fetched_end : (end : ReadEnd)
      → Quiet old.faults new.faults
      → Fetched limit name old new (Err end)
      → (end ≡ Memory) ⊎ (in_folder limit files name ≡ Err end)
  fetched_end Memory quiet fetched = inl refl
  fetched_end Fault quiet (inl (mid, (selected, gave))) =
      no_fault old.faults new.faults quiet (let P : ℕ → Type 0 = λ n. Rose n new.faults in subst P selected.kept gave.1)
  fetched_end Fault quiet (inr (e, inl rose)) = no_fault old.faults new.faults quiet rose
  fetched_end Fault quiet (inr (e, inr missing)) =
      inr (ap (file_whole limit) (subst (λ (f : Option Folder). IsMissing name f) told missing))
  fetched_end TooLong quiet (inl (mid, (selected, gave))) =
      let file = named mid.left selected.chosen in
      inr (ap (file_whole limit) file.1 ∙ sym (too_many limit mid new file.0 file.2 gave))
  fetched_end TooLong quiet (inr (e, why)) = absurd (long_not e)

  -- Reading a file of a shelf that tells its files gave what must come, unless memory ran out.
  pub fetched_whole : Quiet old.faults new.faults
      → (came : Result (List ℕ) ReadEnd)
      → Fetched limit name old new came
      → (came ≡ Err Memory → ⊥)
      → came ≡ in_folder limit files name
  fetched_whole quiet (Ok bytes) fetched not = sym (fetched_bytes bytes fetched).0
  fetched_whole quiet (Err end) fetched not = by_end (fetched_end end quiet fetched)
    where
      by_end : (end ≡ Memory) ⊎ (in_folder limit files name ≡ Err end) → Err end ≡ in_folder limit files name
      by_end (inl memory) = absurd (not (ap Err memory))
      by_end (inr is) = sym is
