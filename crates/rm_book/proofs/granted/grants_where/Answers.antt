use Rattle.rm_book.proofs.Common.{append-nil, Option, ◌∷◌, [], ◌++◌, take, refl, sym, ap, ◌∙◌, filter_map, Grant, is_app}
use Rattle.std.specs.List.{cons_option}
use Rattle.std.specs.Option.{option_copied}
use Rattle.std.proofs.lemmas.List.{take_all}
use Rattle.rm_book.specs.Granted.{passing_grant, row_grant}
use Rattle.rm_book.proofs.IdLists.{passing_all, passing_more, passing_none, passing_not, passing_some}
use Rattle.rm_book.proofs.granted.grants_where.Goals.{in-Some+then-test+in_ok-grant_of+in_ok-push, in-Some+else-test, in_default}
use Rattle.rm_book.proofs.granted.grants_where.Goals as goal

pub ids-preserved : goal.ids-preserved
ids-preserved g c = λ p says.
    let rows = c.args.rows.now in
    let before = filter_map (passing_grant p rows) (take c.ids.id-index c.as_slice-id-items.result.now) in
    let more = passing_more p rows c.as_slice-id-items.result.now c.ids.id-index _ c.ids-test.true in
    let so_far = c.ids.invariant p says in
    elim c.match-get.branch [
      | in-Some+then-test+in_ok-grant_of+in_ok-push w ↦
          let pass = sym (says w.in-Some.row.now w.test.result (record { shown = w.in-Some.row; shows = refl; says = record { met = w.test.ensures } })) ∙ w.if-test.true in
          let one = passing_some p rows _ w.in-Some.row.now (sym c.get.ensures.row ∙ ap option_copied w.in-Some.is) pass in
          rw w.grants-is (w.in_ok-push.ensures.ok ∙ ap (λ (grant : Grant). c.ids.grants ++ grant ∷ []) w.in_ok-grant_of.ensures
          ∙ ap (λ l. l ++ row_grant w.in-Some.row.now ∷ []) so_far ∙ sym (more ∙ ap (λ (o : Option Grant). before ++ cons_option o []) one))
      | in-Some+else-test w ↦
          let fail = sym (says w.in-Some.row.now w.test.result (record { shown = w.in-Some.row; shows = refl; says = record { met = w.test.ensures } })) ∙ w.if-test.false in
          let one = passing_not p rows _ w.in-Some.row.now (sym c.get.ensures.row ∙ ap option_copied w.in-Some.is) fail in
          rw w.grants-is (so_far ∙ sym (more ∙ ap (λ (o : Option Grant). before ++ cons_option o []) one ∙ append-nil before))
      | in_default w ↦
          let one = passing_none p rows _ (sym c.get.ensures.row ∙ ap option_copied w.in_default.is) in
          rw w.grants-is (so_far ∙ sym (more ∙ ap (λ (o : Option Grant). before ++ cons_option o []) one ∙ append-nil before))
    ]

pub returns : goal.returns
returns g c = λ p says.
    c.ids.invariant p says
    ∙ ap (filter_map (passing_grant p c.args.rows.now)) (take_all c.ids.id-index c.as_slice-id-items.result.now c.ids-test.false ∙ c.as_slice-id-items.ensures ∙ c.in_ok-ids.ensures.ids)
    ∙ passing_all p (λ row. is_app row.id.attempt.app c.args.app) c.args.rows.now c.in_ok-ids.ensures.apart
