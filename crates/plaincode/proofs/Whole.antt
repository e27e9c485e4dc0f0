-- The code that is made is the lowering's.
use Rattle.std.proofs.Common.{◌≡◌, ◌∙◌, ◌++◌, ℕ, List, length, map, ap}
use Rattle.std.proofs.lemmas.List.{length-map}
use Rattle.pcode_model.specs.declared.atoms.Atom.{Atom}
use Rattle.pcode_model.specs.declared.flow.Block as flow_block
use Rattle.pcode_model.specs.declared.listing.Listing.{Listing}
use Rattle.pcode_model.specs.declared.listing.Place.{Place}
use Rattle.pcode_model.specs.declared.listing.Varnode.{Varnode}
use Rattle.pcode_model.specs.Flow.{starts_of}
use Rattle.pcode_model.specs.Memory.{Frame}
use Rattle.pcode_model.specs.Step.{first_place}
use Rattle.blockcode.specs.declared.code.Block.{Block}
use Rattle.blockcode.specs.declared.code.Code.{Code}
use Rattle.blockcode.specs.declared.code.Variable.{Variable}
use Rattle.op_code.specs.Made.{Own}
use Rattle.op_code.specs.Lowered.{BlocksMade, blocks_made, lowered, place_number, ranges_of, variable_for}

-- From the parts that were made of a listing's parts.
pub lowered_is : (l : Listing) (f : Frame) (flow : List flow_block.Block) (atoms : List Atom)
    (own : Place → Own) (ranges : List Varnode) (first vs : List Variable) (w : List flow_block.Block)
    (bs : List Block) (n : ℕ)
    → own ≡ f.own
    → ranges ≡ ranges_of l atoms
    → first ≡ map variable_for atoms
    → w ≡ flow
    → bs ≡ (blocks_made l own ranges (length first) w).blocks
    → vs ≡ first ++ (blocks_made l own ranges (length first) w).locals
    → n ≡ place_number (starts_of flow) (first_place l)
    → (let k : Code = record { variables = vs; blocks = bs; entry = n } in k) ≡ lowered l f flow atoms
lowered_is l f flow atoms own ranges first vs w bs n owned ranged firsts flows blocks locals number =
    let made : BlocksMade = blocks_made l f.own (ranges_of l atoms) (length atoms) flow in
    let long : length first ≡ length atoms = ap (λ (xs : List Variable). length xs) firsts ∙ length-map atoms variable_for in
    let same : blocks_made l own ranges (length first) w ≡ made =
    ap (λ o. blocks_made l o ranges (length first) w) owned
    ∙ ap (λ r. blocks_made l f.own r (length first) w) ranged
    ∙ ap (λ k. blocks_made l f.own (ranges_of l atoms) k w) long
    ∙ ap (λ x. blocks_made l f.own (ranges_of l atoms) (length atoms) x) flows in
    let variables : vs ≡ map variable_for atoms ++ made.locals =
    locals ∙ ap (λ (m : BlocksMade). first ++ m.locals) same
    ∙ ap (λ (xs : List Variable). xs ++ made.locals) firsts in
    let all : bs ≡ made.blocks = blocks ∙ ap (λ (m : BlocksMade). m.blocks) same in
    ap (λ (x : List Variable). let k : Code = record { variables = x; blocks = bs; entry = n } in k) variables
    ∙ ap (λ (x : List Block). let k : Code = record { variables = map variable_for atoms ++ made.locals; blocks = x; entry = n } in k) all
    ∙ ap (λ (x : ℕ). let k : Code = record { variables = map variable_for atoms ++ made.locals; blocks = made.blocks; entry = x } in k) number
