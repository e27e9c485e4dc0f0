-- What lists of words ask for. This project's own.
use Rattle.std.specs.Prelude.{◌≡◌, ◌-◌, ◌^◌, ℕ, List, [], ◌∷◌, codes, Some, None}
use Rattle.words.specs.declared.request.Stage.TheVariants.{C, Ssa, Plain, Listing}
use Rattle.words.specs.Request.{Numbers, Prints, asked_by}

-- Options may stand before and after the file, and take their text as a word of its own or behind `=`.
pub record Taken : Type 0 where
  pub nothing : asked_by [] ≡ Some (Prints C None)
  pub input : asked_by (codes "-" ∷ []) ≡ Some (Prints C None)
  pub file : asked_by (codes "a.txt" ∷ []) ≡ Some (Prints C (Some (codes "a.txt")))
  pub stage : asked_by (codes "--stage" ∷ codes "plain" ∷ []) ≡ Some (Prints Plain None)
  pub stage_file : asked_by (codes "--stage" ∷ codes "ssa" ∷ codes "a.txt" ∷ []) ≡ Some (Prints Ssa (Some (codes "a.txt")))
  pub file_stage : asked_by (codes "a.txt" ∷ codes "--stage" ∷ codes "c" ∷ []) ≡ Some (Prints C (Some (codes "a.txt")))
  pub equals : asked_by (codes "--stage=listing" ∷ []) ≡ Some (Prints Listing None)
  pub dashes : asked_by (codes "--" ∷ codes "--gen" ∷ []) ≡ Some (Prints C (Some (codes "--gen")))
  pub empty : asked_by ([] ∷ []) ≡ Some (Prints C (Some []))
  pub least : asked_by (codes "--gen" ∷ codes "0" ∷ []) ≡ Some (Numbers 0)
  pub zeros : asked_by (codes "--gen" ∷ codes "0000000001" ∷ []) ≡ Some (Numbers 1)
  pub greatest : asked_by (codes "--gen" ∷ codes "4294967295" ∷ []) ≡ Some (Numbers (2 ^ 32 - 1))

-- an unknown stage, numbers that are too great, too long or none, words beside `--gen`, an option twice, two files, help
pub record Refused : Type 0 where
  pub stage : asked_by (codes "--stage" ∷ codes "x" ∷ []) ≡ None
  pub no_stage : asked_by (codes "--stage" ∷ []) ≡ None
  pub great : asked_by (codes "--gen" ∷ codes "4294967296" ∷ []) ≡ None
  pub long : asked_by (codes "--gen" ∷ codes "00000000001" ∷ []) ≡ None
  pub no_digits : asked_by (codes "--gen" ∷ codes "1f" ∷ []) ≡ None
  pub beside_file : asked_by (codes "--gen" ∷ codes "1" ∷ codes "a.txt" ∷ []) ≡ None
  pub beside_stage : asked_by (codes "--gen" ∷ codes "1" ∷ codes "--stage" ∷ codes "c" ∷ []) ≡ None
  pub twice : asked_by (codes "--gen" ∷ codes "1" ∷ codes "--gen" ∷ codes "1" ∷ []) ≡ None
  pub two_files : asked_by (codes "a.txt" ∷ codes "b.txt" ∷ []) ≡ None
  pub help : asked_by (codes "--help" ∷ []) ≡ None
  pub version : asked_by (codes "--version" ∷ []) ≡ None
  pub unknown : asked_by (codes "-x" ∷ []) ≡ None
