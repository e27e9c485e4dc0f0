-- A walk along a range, which adds the variables that begin at its offsets.
use Rattle.std.proofs.Common.{◌≡◌, ℕ, suc, ◌+◌, ◌-◌, ◌<◌, List, ◌++◌, ap, ◌∙◌, append_assoc, arith}
use Rattle.pcode_model.specs.declared.listing.Varnode.{Varnode}
use Rattle.op_code.specs.Cover.{Piece, pieces_at, pieces_from}

pub cover_step : (ranges : List Varnode) (space offset at size : ℕ) (done more all : List Piece)
    → more ≡ done ++ pieces_at ranges space (offset + at)
    → at < size
    → done ++ pieces_from ranges space (offset + at) (size - at) ≡ all
    → more ++ pieces_from ranges space (offset + (at + 1)) (size - (at + 1)) ≡ all
cover_step ranges space offset at size done more all adds within is =
    let k = size - (at + 1) in
    let here = pieces_at ranges space (offset + at) in
    let left : suc k ≡ size - at = omega (arith, within) in
    let next : offset + (at + 1) ≡ suc (offset + at) = omega arith in
    ap (λ ps. ps ++ pieces_from ranges space (offset + (at + 1)) k) adds
    ∙ ap (λ o. (done ++ here) ++ pieces_from ranges space o k) next
    ∙ append_assoc done here (pieces_from ranges space (suc (offset + at)) k)
    ∙ ap (λ n. done ++ pieces_from ranges space (offset + at) n) left
    ∙ is
