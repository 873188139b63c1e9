use Rattle.std.proofs.Common.{◌<◌, ◌+◌, ◌^◌, ◌∙◌, length, sym}
use Rattle.rm_types.specs.declared.records.AppRecord.{AppRecord}
use Rattle.rm_sched.proofs.Turned.{found_so, turned_more, turned_none}
use Rattle.rm_sched.proofs.passing.turns_of.Goals.{in-Some+in_ok-push_turn, in_default}
use Rattle.rm_sched.proofs.passing.turns_of.Goals as goal

pub records-preserved : goal.records-preserved
records-preserved c = elim c.match-find.branch [
  | in-Some+in_ok-push_turn w ↦
      let value = rw w.in-Some.is at c.find.ensures.record in
      let pushed = rw w.attempt_at.ensures at w.in_ok-push_turn.ensures.ok in
      rw w.turns-is (pushed ∙ rw c.records.invariant (sym (turned_more c.args.t.now c.args.ids.now c.records.id-index _ w.in-Some.app.now c.records-test.true (sym value))))
  | in_default w ↦
      let value = rw w.in_default.is at c.find.ensures.record in
      rw w.turns-is (c.records.invariant ∙ sym (turned_none c.args.t.now c.args.ids.now c.records.id-index _ c.records-test.true (sym value)))
]

pub attempt_at-requires : goal.attempt_at-requires
attempt_at-requires c =
    let value = rw c.in-Some.is at c.find.ensures.record in
    record { few = found_so (λ (app : AppRecord). length app.attempts + 1 < 2 ^ 32) c.args.t.now.tree.apps _ c.in-Some.app.now c.requires.few (sym value) }
