use Rattle.std.proofs.Common.{map, ap, ◌∙◌}
use Rattle.rm_page_reader.proofs.Listing.{list_found}
use Rattle.rm_page_reader.proofs.lists.items_of.Goals as goal

pub returns : goal.returns
returns g c =
    let all = ap (map (λ piece. piece.now)) c.as_slice.ensures.value ∙ c.in_ok-pieces.ensures.pieces in
    list_found g.R.Reading.text g.R.Reading.is g.met.R.Reading.no_comma c.args.text.now c.items_of.result c.requires (rw all at c.items_of.ensures)
