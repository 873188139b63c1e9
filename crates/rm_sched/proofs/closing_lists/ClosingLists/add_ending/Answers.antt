use Rattle.std.proofs.Common.{is_some, sym, ap, ◌∙◌}
use Rattle.std.specs.Map.{set_value}
use Rattle.rm_types.specs.Ids.{is_app}
use Rattle.rm_sched.proofs.Listed.{ending_found, ending_none}
use Rattle.rm_sched.proofs.closing_lists.ClosingLists.add_ending.Goals.{in-Some+in_ok-push-in-Some, in-None}
use Rattle.rm_sched.proofs.closing_lists.ClosingLists.add_ending.Goals as goal

pub returns-clause-there : goal.returns-clause-there
returns-clause-there c = elim c.match-get_mut.branch [
  | in-Some+in_ok-push-in-Some w ↦
      let value = rw w.in-Some.is at c.get_mut.ensures.value in
      rw w.result-is (rw (← c.self.view_is) (ap is_some value))
  | in-None w ↦
      let value = rw w.in-None.is at c.get_mut.ensures.value in
      rw w.result-is (rw (← c.self.view_is) (ap is_some value))
]

pub returns-clause-ok : goal.returns-clause-ok
returns-clause-ok c = elim c.match-get_mut.branch [
  | in-Some+in_ok-push-in-Some w ↦
      let value = rw w.in-Some.is at c.get_mut.ensures.value in
      let found = ending_found c.args.closing w.in-Some.list.now c.self.inside.map.entries (sym value) in
      rw (w.self-inside-is, w.result-is) (rw (← c.self.view_is) ((c.get_mut.follows.holds w.push.new.self).0
      ∙ ap (set_value (is_app c.args.closing.attempt.app) c.self.inside.map.entries) w.in_ok-push-in-Some.ensures.ok ∙ sym found))
  | in-None w ↦
      let value = rw w.in-None.is at c.get_mut.ensures.value in
      rw (w.self-inside-is, w.result-is) (rw (← c.self.view_is) (ap (λ m. m.entries) c.get_mut.follows.holds-at-none ∙ sym (ending_none c.args.closing c.self.inside.map.entries (sym value))))
]
