-- What is made next, numbered behind the variables of then.
use Rattle.std.proofs.Common.{◌≡◌, ℕ, List, ◌∷◌, ◌++◌, length, ap}
use Rattle.pcode_model.specs.declared.listing.Varnode.{Varnode}
use Rattle.pcode_model.specs.declared.listing.Place.{Place}
use Rattle.pcode_model.specs.declared.listing.Listing.{Listing}
use Rattle.pcode_model.specs.declared.flow.Block as flow_block
use Rattle.blockcode.specs.declared.code.Variable.{Variable}
use Rattle.op_code.specs.Made.{Own, followed}
use Rattle.op_code.specs.Lowered.{BlocksMade, block_made, blocks_made, place_made}
use Rattle.op_code.proofs.Each.{grown_length}
use Rattle.plaincode.specs.Body.{body_made}

module _ (l : Listing) (own : Place → Own) (ranges : List Varnode) (variables all : List Variable) where
  pub body_from : (p : Place) (ps : List Place)
      → all ≡ variables ++ (place_made l own ranges (length variables) p).locals
      → body_made l own ranges (length variables) (p ∷ ps)
      ≡ followed (place_made l own ranges (length variables) p) (body_made l own ranges (length all) ps)
  body_from p ps grown = let here = place_made l own ranges (length variables) p in
      ap (λ n. followed here (body_made l own ranges n ps)) (grown_length variables all here.locals grown)

  pub blocks_from : (b : flow_block.Block) (bs : List flow_block.Block)
      → all ≡ variables ++ (block_made l own ranges (length variables) b).locals
      → blocks_made l own ranges (length variables) (b ∷ bs) ≡ record {
        blocks =
            (block_made l own ranges (length variables) b).block
            ∷ (blocks_made l own ranges (length all) bs).blocks;
        locals =
            (block_made l own ranges (length variables) b).locals
            ++ (blocks_made l own ranges (length all) bs).locals;
      }
  blocks_from b bs grown =
      let here = block_made l own ranges (length variables) b in
      let made : ℕ → BlocksMade = λ n. record {
        blocks = here.block ∷ (blocks_made l own ranges n bs).blocks;
        locals = here.locals ++ (blocks_made l own ranges n bs).locals;
      } in
      ap made (grown_length variables all here.locals grown)
