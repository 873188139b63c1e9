use Rattle.std.proofs.Common.{◌≡◌, ◌∷◌, ◌++◌, All, get_or, refl, sym, ap, subst, ◌∙◌}
use Rattle.std.specs.Vec.Iter.{into_iter_items}
use Rattle.std.proofs.lemmas.List.Elements.{All-nil, All-from_recursion, recursion_from_All}
use Rattle.std.specs.Option.{option_to_list}
use Rattle.rm_formats.specs.Page.{letters}
use Rattle.rm_page.specs.Ranges.{IsEntry}
use Rattle.rm_page_reader.specs.Answers.{Fit, IsToldEntry}
use Rattle.rm_page_reader.proofs.Fronts.{all_pushed}
use Rattle.rm_page_reader.proofs.Moving.{own_letters, none_left, taken_lines, silent_lines, more_letters, taken_letter, fits_taken, fits_skipped}
use Rattle.rm_page_reader.proofs.moves.with_moves.Goals as goal
use Rattle.rm_page_reader.proofs.moves.with_moves.Goals.{then-is_at+in_ok-ok_or+in_ok-push, else-is_at+in_ok-silent+in_ok-push-2}

pub letters-init : goal.letters-init
letters-init c =
    let own : c.letters_at_end-own.result.now ≡ letters c.args.heard =
    own_letters c.args.heard c.as_slice.result.now c.letters_at_end-own.result.now (c.as_slice.ensures.value ∙ c.in_ok-text.ensures) c.letters_at_end-own.ensures.none
    (λ front last e size. c.letters_at_end-own.ensures.own front last e (c.len.ensures ∙ size)) in
    let left = c.into_iter-left.ensures.rest ∙ c.into_vec.ensures in
    record {
      ranges = rw c.new-log.ensures (All-nil IsEntry);
      told = rw left c.requires;
      lines = rw (c.new-log.ensures, left) refl;
      first = rw c.new-log.ensures refl;
      own = rw left (sym own);
      fit = λ fit. subst (Fit c.args.moves.now) (sym own) fit;
    }

pub letters-preserved : goal.letters-preserved
letters-preserved c =
    let moves = c.args.moves.now in
    let own = c.letters_at_end-own.result.now in
    let before = c.letters.invariant in
    elim c.if-is_at.branch [
      | then-is_at+in_ok-ok_or+in_ok-push w ↦
          let there = c.is_at.ensures.there w.if-is_at.true in
          let first = w.next.ensures.items ∙ ap (λ next. option_to_list next ++ into_iter_items w.next.new.self) w.in_ok-ok_or.ensures.ok_part in
          let letter = taken_letter (into_iter_items c.letters.left) (into_iter_items w.next.new.self) w.in_ok-ok_or.field-0 own c.letters.place (get_or moves c.letters.letter-index 0) before.own first there in
          let told = recursion_from_All IsToldEntry (w.in_ok-ok_or.field-0 ∷ into_iter_items w.next.new.self) (subst (All IsToldEntry) first before.told) in
          let pushed = w.log-is ∙ w.in_ok-push.ensures.ok in
          record {
            ranges = all_pushed IsEntry c.letters.log c.if-is_at.log w.in_ok-ok_or.field-0 pushed before.ranges told.0.ranges;
            told = rw w.left-is (All-from_recursion IsToldEntry (into_iter_items w.next.new.self) told.1);
            lines = rw (pushed, w.left-is) (taken_lines c.args.heard c.letters.log (into_iter_items c.letters.left) (into_iter_items w.next.new.self) w.in_ok-ok_or.field-0 before.lines first);
            first = rw pushed (more_letters c.letters.log w.in_ok-ok_or.field-0 moves c.letters.letter-index before.first letter.0 c.letters-test.true);
            own = rw (w.left-is, w.place-is) letter.1;
            fit = λ fit. rw w.place-is (fits_taken moves own c.letters.letter-index c.letters.place c.letters-test.true there (before.fit fit));
          }
      | else-is_at+in_ok-silent+in_ok-push-2 w ↦
          let is = w.in_ok-silent.ensures.entry in
          let pushed = w.log-is ∙ w.in_ok-push-2.ensures.ok in
          record {
            ranges = all_pushed IsEntry c.letters.log c.if-is_at.log w.in_ok-silent.field-0 pushed before.ranges is.0;
            told = rw w.left-is before.told;
            lines = rw (pushed, w.left-is) (silent_lines c.args.heard c.letters.log (into_iter_items c.letters.left) w.in_ok-silent.field-0 is.1 before.lines);
            first = rw pushed (more_letters c.letters.log w.in_ok-silent.field-0 moves c.letters.letter-index before.first is.2 c.letters-test.true);
            own = rw (w.left-is, w.place-is) before.own;
            fit = λ fit. rw w.place-is (fits_skipped moves own c.letters.letter-index c.letters.place c.letters-test.true (c.is_at.ensures.not_there w.if-is_at.false) (before.fit fit)).1;
          }
    ]

pub returns-in-Some-clause-only : goal.returns-in-Some-clause-only
returns-in-Some-clause-only c = λ fit.
    absurd (none_left c.args.moves.now c.letters_at_end-own.result.now c.letters.letter-index c.letters.place (into_iter_items c.letters.left) _ c.in-Some.field-0 c.letters-test.false (c.letters.invariant.fit fit) c.letters.invariant.own c.in-Some.ensures.items)
