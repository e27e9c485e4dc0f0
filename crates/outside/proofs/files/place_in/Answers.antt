use Rattle.std.proofs.Common.{◌≡◌, ◌∙◌, ◌<◌, ℕ, Bool, List, [], ◌∷◌, Option, Some, zero, suc, true, length, drop, slice_index_or, ap, sym, arith, rules}
use Rattle.std.specs.Prelude.{if◌then◌else◌, string_bytes}
use Rattle.std.specs.Str.{bytes_eq}
use Rattle.outside.specs.Files.{file_of}
use Rattle.outside.specs.Files.{bytes_at, folder_of}
use Rattle.outside.specs.declared.files.File.{File}
use Rattle.outside.proofs.files.place_in.Goals as goal

found : (files : List File) (i : ℕ) (file : File) (name : List ℕ) (whole : Option (List ℕ)) → i < length files → file ≡ slice_index_or files i file → bytes_eq (string_bytes file.name) name ≡ true
    → whole ≡ file_of name (folder_of (drop i files)) → whole ≡ Some (bytes_at files i)
found [] i file name whole within is eq e = absurd (omega arith)
found (f ∷ files) zero file name whole within is eq e =
    e ∙ ap (λ (b : Bool). if b then Some f.bytes else file_of name (folder_of files)) (ap (λ (x : File). bytes_eq (string_bytes x.name) name) (sym is) ∙ eq)
found (f ∷ files) (suc i) file name whole within is eq e = found files i file name whole (omega arith) is eq e

pub returns-then-eq : goal.returns-then-eq
returns-then-eq c =
    let file = c.index-files-i.result in
    let eq : bytes_eq (string_bytes file.name) c.args.name.now ≡ true = search rules in
    (omega arith, found c.args.files.now c.loop-i.i file c.args.name.now _ (omega arith) c.index-files-i.is eq c.loop-i.invariant)
