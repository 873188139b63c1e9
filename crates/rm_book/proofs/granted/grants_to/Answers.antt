use Rattle.rm_book.proofs.Common.{append-nil, ◌≡◌, ◌∷◌, [], ◌++◌, take, sym, ap, ◌∙◌, subst, filter_map}
use Rattle.std.specs.List.{cons_option}
use Rattle.std.proofs.lemmas.List.{take_all}
use Rattle.rm_book.specs.Granted.{AllMayBeTold, grant_in, grants_to}
use Rattle.rm_book.proofs.IdLists.{granted_all, granted_more}
use Rattle.rm_book.proofs.UntoldGrants.{granted_to_told}
use Rattle.rm_book.proofs.granted.grants_to.Goals.{in-Some+in_ok-push, in_default}
use Rattle.rm_book.proofs.granted.grants_to.Goals as goal

pub ids-preserved : goal.ids-preserved
ids-preserved c =
    elim c.match-branch-3.branch [
      | in-Some+in_ok-push w ↦
          rw w.grants-is (w.in_ok-push.ensures.ok ∙ ap (λ l. l ++ w.in-Some.grant ∷ []) c.ids.invariant
          ∙ sym (granted_more c.args.rows.now c.as_slice-id-items.result.now c.ids.id-index _ c.ids-test.true
          ∙ ap (λ o. filter_map (grant_in c.args.rows.now) (take c.ids.id-index c.as_slice-id-items.result.now) ++ cons_option o []) (sym c.in_ok-grant.ensures ∙ w.in-Some.is)))
      | in_default w ↦
          rw w.grants-is (c.ids.invariant
          ∙ sym (granted_more c.args.rows.now c.as_slice-id-items.result.now c.ids.id-index _ c.ids-test.true
          ∙ ap (λ o. filter_map (grant_in c.args.rows.now) (take c.ids.id-index c.as_slice-id-items.result.now) ++ cons_option o []) (sym c.in_ok-grant.ensures ∙ w.in_default.is)
          ∙ append-nil (filter_map (grant_in c.args.rows.now) (take c.ids.id-index c.as_slice-id-items.result.now))))
    ]

all_granted : (c : goal.After-drop-ids-inside-2) → c.ids.grants ≡ grants_to c.args.rows.now c.args.attempt
all_granted c =
    c.ids.invariant
    ∙ ap (filter_map (grant_in c.args.rows.now)) (take_all c.ids.id-index c.as_slice-id-items.result.now c.ids-test.false ∙ c.as_slice-id-items.ensures ∙ c.in_ok-ids.ensures.ids)
    ∙ granted_all c.args.attempt c.args.rows.now c.in_ok-ids.ensures.apart

pub returns-clause-grants : goal.returns-clause-grants
returns-clause-grants c = all_granted c

pub returns-clause-told : goal.returns-clause-told
returns-clause-told c = subst (AllMayBeTold c.args.rows.now) (sym (all_granted c)) (granted_to_told c.args.attempt c.args.rows.now c.in_ok-ids.ensures.apart)
