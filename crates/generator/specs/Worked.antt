-- What is drawn first for the listing with the number 0, and what is printed of it.
use Rattle.std.specs.Prelude.{◌≡◌, ◌∷◌, codes, []}
use Rattle.listing_print.specs.Printed.{code_text, ended, header_text}
use Rattle.generator.specs.declared.draws.Shape.TheVariants.{Load}
use Rattle.generator.specs.Draws.{drawn_at}
use Rattle.generator.specs.Generated.{listing_of, ops_of, placed, returning, spaces}

pub record Begins : Type 0 where
  -- the header of each listing
  pub header : header_text (listing_of (drawn_at 0)) ≡ ended
      (codes "pcode 1" ∷ codes "space ram ram 4 le" ∷ codes "space register register 4 le" ∷ codes "space unique unique 4 le"
      ∷ codes "proto c args register:0x0:4 register:0x4:4 result register:0x0:4 pop 0x0 keep"
      ∷ codes "func gen ram:0x1000 c" ∷ [])
  -- the first instruction of the listing with the number 0
  pub shape : (drawn_at 0 0).shape ≡ Load
  pub first : code_text spaces (placed 0 (ops_of (drawn_at 0 0)) ∷ []) ≡ ended
      (codes "at 0x1000 4" ∷ codes "  register:0x1c:4 = LOAD const:0x1:4 register:0x1c:4" ∷ [])
  -- the last instruction of each listing
  pub last : code_text spaces (placed 2000 returning ∷ []) ≡ ended (codes "at 0x2f40 4" ∷ codes "  RETURN register:0x20:4" ∷ [])
