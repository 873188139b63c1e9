use Rattle.std.proofs.Common.{◌∙◌}
use Rattle.std.proofs.lemmas.List.{take_all}
use Rattle.rm_page.specs.Ranges.{IsGrant}
use Rattle.rm_page_reader.proofs.Fronts.{all_pushed}
use Rattle.rm_page_reader.proofs.EntryParts.{more_ids}
use Rattle.rm_page_reader.proofs.entries.grants_on.Goals as goal

pub ids-preserved : goal.ids-preserved
ids-preserved c =
    let pushed = c.in_ok-push.ensures.ok in
    let same = c.as_slice-id-items.ensures in
    record {
      ranges = all_pushed IsGrant c.ids.grants c.push.new.self c.in_ok-grant_on.field-0 pushed c.ids.invariant.ranges c.in_ok-grant_on.ensures.0;
      first = more_ids c.ids.grants c.push.new.self c.in_ok-grant_on.field-0 c.as_slice-id-items.result.now c.args.ids.now c.ids.id-index same pushed c.ids.invariant.first c.in_ok-grant_on.ensures.1 c.ids-test.true;
    }

pub returns : goal.returns
returns c =
    let same = c.as_slice-id-items.ensures in
    (c.ids.invariant.ranges, c.ids.invariant.first ∙ take_all c.ids.id-index c.args.ids.now (rw (← same) c.ids-test.false))
