-- Writing a word to a register or unique range.
use Rattle.std.proofs.Common.{◌≡◌, ℕ, Bool, List, ap, ◌∙◌}
use Rattle.bits_core.specs.Bytes.{word_bytes}
use Rattle.pcode_model.specs.declared.listing.Listing.{Listing}
use Rattle.pcode_model.specs.declared.listing.Varnode.{Varnode}
use Rattle.pcode_model.specs.Memory.{Bytes}
use Rattle.pcode_model.specs.Spaces.{each_at, put_in, size_of}
use Rattle.pcode_model.specs.Step.{with_word}
use Rattle.run_world.specs.declared.shape.Shape.{Shape}
use Rattle.run_world.specs.Setting.{HasShape, size}

pub write_is : (l : Listing) (v : Varnode) (n : ℕ) (shape : Shape) (m : Bytes) (bs : List ℕ)
    → HasShape l v.space shape
    → bs ≡ word_bytes shape.big v.size n
    → each_at (size shape) (put_in v.space) v.offset bs m ≡ with_word l v n m
write_is l v n shape m bs has e =
    ap (λ (xs : List ℕ). each_at (size shape) (put_in v.space) v.offset xs m) e
    ∙ ap (λ (z : ℕ). each_at z (put_in v.space) v.offset (word_bytes shape.big v.size n) m) has.size
    ∙ ap (λ (b : Bool). each_at (size_of l v.space) (put_in v.space) v.offset (word_bytes b v.size n) m) has.big
