use Rattle.std.proofs.Common.{◌≡◌, ℕ, ◌∷◌, ◌++◌, [], List, append-nil, sym, ap, ◌∙◌}
use Rattle.pcode_model.specs.declared.listing.Varnode.{Varnode}
use Rattle.op_code.specs.Cover.{Piece, piece_of, pieces_at}
use Rattle.op_code.proofs.Numbers.{pieces_none, pieces_some}
use Rattle.op_code.proofs.table.Table.add_piece.Goals as goal

-- nothing is added
same : (done more : List Piece) → more ≡ [] → done ≡ done ++ more
same done more none = sym (append-nil done) ∙ ap (λ ps. done ++ ps) (sym none)

module _ (space offset : ℕ) (ranges now : List Varnode) (is : ranges ≡ now) (ps : List Piece) where
  in_view : pieces_at ranges space offset ≡ ps → pieces_at now space offset ≡ ps
  in_view e = ap (λ rs. pieces_at rs space offset) (sym is) ∙ e

pub returns-in_default : goal.returns-in_default
returns-in_default c =
    same c.args.pieces.now.items (pieces_at c.args.self.now c.args.space c.args.offset)
    (in_view c.args.space c.args.offset c.self.inside.ranges c.args.self.now c.self.view_is []
    (pieces_none c.self.inside.ranges c.self.inside.numbers c.self.invariant c.args.space c.args.offset
    c.in_default.ensures.value))

pub returns-in_default-get : goal.returns-in_default-get
returns-in_default-get c =
    let n = c.in-Some.number.now in
    same c.args.pieces.now.items (pieces_at c.args.self.now c.args.space c.args.offset)
    (in_view c.args.space c.args.offset c.self.inside.ranges c.args.self.now c.self.view_is []
    (pieces_some c.self.inside.ranges c.self.inside.numbers c.self.invariant c.args.space c.args.offset n
    c.in-Some.ensures.value
    ∙ ap (piece_of n) (sym c.in_default-get.ensures.value)))

pub returns : goal.returns
returns c =
    let n = c.in-Some.number.now in
    let added : Piece = record { variable = n; range = c.in-Some-get.range.now } in
    c.in_ok-push.ensures.items
    ∙ ap (λ ps. c.args.pieces.now.items ++ ps)
    (sym (in_view c.args.space c.args.offset c.self.inside.ranges c.args.self.now c.self.view_is (added ∷ [])
    (pieces_some c.self.inside.ranges c.self.inside.numbers c.self.invariant c.args.space c.args.offset n
    c.in-Some.ensures.value
    ∙ ap (piece_of n) (sym c.in-Some-get.ensures.value))))
