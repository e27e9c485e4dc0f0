-- A frame variable of 8 bytes at -4, in a space of 2 to the 16 bytes: it lies on both sides of the entry word.
use Rattle.std.proofs.Common.{◌≡◌, true, false, List, [], ◌∷◌, refl}
use Rattle.std.specs.Prelude.{negsuc}
use Rattle.pcode_model.specs.declared.frame.FrameVariable.{FrameVariable}
use Rattle.pcode_model.specs.Frame.{framed_in}

across : List FrameVariable
across = record { offset = negsuc 3; size = 8 } ∷ []

before_it : framed_in 65536 across 65531 ≡ false
unfolding across
before_it = refl

its_first : framed_in 65536 across 65532 ≡ true
unfolding across
its_first = refl

its_fifth : framed_in 65536 across 0 ≡ true
unfolding across
its_fifth = refl

its_last : framed_in 65536 across 3 ≡ true
unfolding across
its_last = refl

after_it : framed_in 65536 across 4 ≡ false
unfolding across
after_it = refl
