use Rattle.std.proofs.Common.{map}
use Rattle.rm_formats.specs.Wording.{listed}
use Rattle.rm_lines.specs.Results.{IsOf}
use Rattle.rm_lines.proofs.Parts.{stops}
use Rattle.rm_script.specs.Pieces.{IsSomeList}
use Rattle.rm_script.proofs.Listing.{SayOne, two_said}
use Rattle.rm_script.proofs.lists.two_lists.Goals as goal

pub returns-in_err-one-in-Some : goal.returns-in_err-one-in-Some
returns-in_err-one-in-Some g c =
    stops c.from_residual.result c.in_err-one-in-Some.field-0.0 _ (IsOf (λ items. listed (map g.R.Reading.text items)) (IsSomeList g.R.Reading.is) c.in-Some.text.now) c.from_residual.ensures.1 c.in_err-one-in-Some.ensures
    (λ lists is. (lists.0, (two_said g.R.Reading.text g.R.Reading.is g.S.Reading.text g.S.Reading.is c.args.first.now c.args.second.now c.in-Some.text.now c.args.words c.optional_field.new.self lists.0 lists.1 c.requires c.in-Some.ensures.field is).0))

pub returns-in_err-other-in-Some : goal.returns-in_err-other-in-Some
returns-in_err-other-in-Some g c =
    stops c.from_residual-in_err-other-in-Some.result c.in_err-other-in-Some.field-0.0 _ (SayOne g.S.Reading.text g.S.Reading.is c.args.second.now c.optional_field.new.self)
    c.from_residual-in_err-other-in-Some.ensures.1 c.in_err-other-in-Some.ensures
    (λ lists is. (lists.1, (two_said g.R.Reading.text g.R.Reading.is g.S.Reading.text g.S.Reading.is c.args.first.now c.args.second.now c.in-Some.text.now c.args.words c.optional_field.new.self lists.0 lists.1 c.requires c.in-Some.ensures.field is).1))
