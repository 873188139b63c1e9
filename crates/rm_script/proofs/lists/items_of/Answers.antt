use Rattle.std.proofs.Common.{map, length, ap, ◌∙◌, arith}
use Rattle.std.proofs.lemmas.List.{length-map}
use Rattle.rm_script.proofs.Listing.{list_found, too_long}
use Rattle.rm_script.proofs.lists.items_of.Goals as goal

pub returns-then-len-gt-MOST_LISTED : goal.returns-then-len-gt-MOST_LISTED
returns-then-len-gt-MOST_LISTED g c =
    too_long g.R.Reading.text g.R.Reading.is g.met.R.Reading.no_comma c.args.text.now
    (omega (arith, ap length c.in_ok-pieces.ensures.pieces, length-map c.in_ok-pieces.pieces.items (λ piece. piece.now), c.len.ensures, c.if-len-gt-MOST_LISTED.true))

pub returns : goal.returns
returns g c =
    let all = ap (map (λ piece. piece.now)) c.as_slice.ensures.value ∙ c.in_ok-pieces.ensures.pieces in
    list_found g.R.Reading.text g.R.Reading.is g.met.R.Reading.no_comma c.args.text.now c.items_of.result
    (omega (arith, ap length c.in_ok-pieces.ensures.pieces, length-map c.in_ok-pieces.pieces.items (λ piece. piece.now), c.len.ensures, c.if-len-gt-MOST_LISTED.false)) (rw all at c.items_of.ensures)
