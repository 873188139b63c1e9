use Rattle.std.proofs.Common.{sym, subst, ◌∙◌}
use Rattle.std.proofs.lemmas.List.Elements.{All-nil}
use Rattle.rm_page_reader.specs.Answers.{IsToldEntry}
use Rattle.rm_page_reader.proofs.Fronts.{all_pushed}
use Rattle.rm_page_reader.proofs.Paging.{IsLeft, all_left, next_line, moves_line_is, end_is, some_bytes, none_left, want_at}
use Rattle.rm_page_reader.proofs.pages.read_lines.Goals as goal

pub lines-init : goal.lines-init
lines-init c = record {
  told = rw c.new-heard.ensures (All-nil IsToldEntry);
  only = λ log moves all e. rw (c.new-heard.ensures, e) (all_left log moves all);
}

pub returns-in-Some-clause-heard : goal.returns-in-Some-clause-heard
returns-in-Some-clause-heard c = λ log moves all e.
    let some = some_bytes c.lines.rest.now (sym c.is_empty.ensures ∙ c.lines-test.true) in
    moves_line_is log moves c.lines.heard c.lines.rest.now c.cut_line.result.0.now c.cut_line.result.1.now c.in-Some.letters.now (c.lines.invariant.only log moves all e) some c.cut_line.ensures.cut c.in-Some.ensures.moves

pub returns-in-Err-clause-want : goal.returns-in-Err-clause-want
returns-in-Err-clause-want c = λ log moves all e.
    let some = some_bytes c.lines.rest.now (sym c.is_empty.ensures ∙ c.lines-test.true) in
    let next =
    next_line log moves c.lines.heard c.lines.rest.now c.cut_line.result.0.now c.cut_line.result.1.now (c.lines.invariant.only log moves all e) some c.cut_line.ensures.cut (c.letters_in.ensures.none c.in_default.is) in
    rw c.at.ensures (want_at c.in-Err.error c.saturating_add-count.result (c.in-Err.ensures.only next.entry next.is next.line_is))

pub lines-preserved : goal.lines-preserved
lines-preserved c =
    let pushed = c.in_ok-push-in-Ok.ensures.ok in
    let some = some_bytes c.lines.rest.now (sym c.is_empty.ensures ∙ c.lines-test.true) in
    record {
      told = all_pushed IsToldEntry c.lines.heard c.push.new.self c.in-Ok.entry pushed c.lines.invariant.told c.in-Ok.ensures.told;
      only = λ log moves all e.
          let next =
          next_line log moves c.lines.heard c.lines.rest.now c.cut_line.result.0.now c.cut_line.result.1.now (c.lines.invariant.only log moves all e) some c.cut_line.ensures.cut (c.letters_in.ensures.none c.in_default.is) in
          rw pushed (next.goes_on c.in-Ok.entry c.in-Ok.ensures.told (c.in-Ok.ensures.only next.entry next.is next.line_is));
    }

pub returns-clause-heard : goal.returns-clause-heard
returns-clause-heard c = λ log moves all e.
    let empty = none_left c.lines.rest.now (sym c.is_empty.ensures ∙ c.lines-test.false) in
    end_is log moves c.lines.heard (subst (IsLeft log moves c.lines.heard) empty (c.lines.invariant.only log moves all e))
