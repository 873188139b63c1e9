use Rattle.std.proofs.Common.{sym, ap}
use Rattle.std.specs.Fn.{FnOnceReturnsAtMut}
use Rattle.rm_keyed.proofs.Slots.{IsUpdated, live_unique, updated, unknown}
use Rattle.rm_keyed.proofs.keyed.Keyed.update.Goals.{in-Some, in-None}
use Rattle.rm_keyed.proofs.keyed.Keyed.update.Goals as goal

kept : (g : _) (c : goal.Joined-get_mut g) → IsUpdated g.K.PartialEq.eq c.args.key.now (λ v r w. FnOnceReturnsAtMut g.F.FnOnce c.args.change v r w) c.self.inside.slots.entries c.match-get_mut.self-inside.slots.entries c.match-get_mut.self-inside.count c.match-get_mut.result
kept g c = elim c.match-get_mut.branch [
  | in-Some w ↦
      let value = rw w.in-Some.is at c.get_mut.ensures.value in
      let entries = (c.get_mut.follows.holds w.update_slot.new.slot).0 in
      rw (w.self-inside-is, w.result-is) (updated g.met.K.Eq.laws c.args.key.now (λ v r w. FnOnceReturnsAtMut g.F.FnOnce c.args.change v r w) c.self.inside.slots.entries _ c.self.inside.count w.in-Some.slot.now _ _
      c.self.invariant (sym value) entries w.update_slot.ensures.there w.update_slot.ensures.some w.update_slot.ensures.none)
  | in-None w ↦
      let value = rw w.in-None.is at c.get_mut.ensures.value in
      rw (w.self-inside-is, w.result-is) (unknown g.met.K.Eq.laws c.args.key.now (λ v r w. FnOnceReturnsAtMut g.F.FnOnce c.args.change v r w) c.self.inside.slots.entries _ c.self.inside.count
      c.self.invariant (sym value) (ap (λ m. m.entries) c.get_mut.follows.holds-at-none))
]

pub invariant_of-self : goal.invariant_of-self
invariant_of-self g c = (kept g c).slots

pub returns-clause-there : goal.returns-clause-there
returns-clause-there g c = rw (← c.self.view_is) (kept g c).there

pub returns-clause-some : goal.returns-clause-some
returns-clause-some g c = rw (← c.self.view_is) (kept g c).some

pub returns-clause-none : goal.returns-clause-none
returns-clause-none g c = rw (← c.self.view_is) (kept g c).none

pub returns-clause-unique : goal.returns-clause-unique
returns-clause-unique g c = rw (← c.self.view_is) (live_unique g.K.PartialEq.eq c.self.inside.slots.entries c.self.invariant.unique)
