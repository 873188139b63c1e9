use Rattle.std.proofs.Common.{◌≡◌, ℕ, List, ◌<◌, length, map, get_or, All, sym, arith}
use Rattle.std.proofs.lemmas.List.{length-map, get_or-map}
use Rattle.std.proofs.lemmas.List.Elements.{recursion_from_All}
use Rattle.rm_lines.specs.Results.{IsOf}
use Rattle.rm_lines.proofs.Parts.{stops}
use Rattle.rm_lines.proofs.Listing.{item_at}
use Rattle.rm_lines.proofs.lists.items_of.Goals as goal

pub returns-in_err-read : goal.returns-in_err-read
returns-in_err-read g c =
    let refs = c.args.pieces.now in
    let place : ℕ = c.pieces.piece-index in
    let texts : List (List ℕ) = map (λ piece. piece.now) refs in
    let there : place < length texts = omega (arith, length-map refs (λ piece. piece.now), c.pieces-test.true) in
    let word : List ℕ = (get_or refs place _).now in
    let at : word ≡ get_or texts place word = sym (get_or-map (λ piece. piece.now) refs place _ word c.pieces-test.true) in
    stops c.from_residual.result c.in_err-read.field-0.0 (IsOf (map g.R.Reading.text) (All g.R.Reading.is) texts) (IsOf g.R.Reading.text g.R.Reading.is word)
    c.from_residual.ensures.1 c.in_err-read.ensures
    (λ items is. item_at g.R.Reading.text g.R.Reading.is texts items place word is.same (recursion_from_All g.R.Reading.is items is.fits) there at)
