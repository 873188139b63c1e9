use Rattle.std.proofs.Common.{◌≡◌, ◌+◌, [], ◌∷◌, ◌++◌, length, Some, sym, ap, ◌∙◌}
use Rattle.indexmap.proofs.CallerLemmas.{insert_entry-new}
use Rattle.rm_keyed.specs.Slots.{live}
use Rattle.rm_keyed.proofs.Slots.{live_unique, gap_gone, length_end, live_end, on_err}
use Rattle.rm_keyed.proofs.keyed.Keyed.insert.Goals as goal

pub invariant_of-self : goal.invariant_of-self
invariant_of-self g c =
    let none = rw (← c.self.view_is) at c.requires in
    let same = gap_gone g.met.K.Eq.laws c.args.key c.self.inside.slots.entries c.shift_remove.new.self.entries c.self.inside.count c.self.invariant none c.shift_remove.ensures.entries in
    record {
      unique = c.insert.ensures.unique;
      counted = ap (λ slots. length (live slots)) c.in_err-insert.ensures.err ∙ ap length same ∙ c.self.invariant.counted;
    }

pub returns-in_err-insert-clause-err : goal.returns-in_err-insert-clause-err
returns-in_err-insert-clause-err g c =
    let none = rw (← c.self.view_is) at c.requires in
    let same = gap_gone g.met.K.Eq.laws c.args.key c.self.inside.slots.entries c.shift_remove.new.self.entries c.self.inside.count c.self.invariant none c.shift_remove.ensures.entries in
    on_err _ (ap live c.in_err-insert.ensures.err ∙ same ∙ c.self.view_is)

added : (g : _) (c : goal.After-self-1 g) → live c.insert.new.self.entries ≡ live c.self.inside.slots.entries ++ (c.args.key, c.args.value) ∷ []
added g c =
    let none = rw (← c.self.view_is) at c.requires in
    let same = gap_gone g.met.K.Eq.laws c.args.key c.self.inside.slots.entries c.shift_remove.new.self.entries c.self.inside.count c.self.invariant none c.shift_remove.ensures.entries in
    let e = c.in_ok-insert.ensures.entries ∙ insert_entry-new g.K.PartialEq.eq c.shift_remove.new.self c.args.key (Some c.args.value) c.shift_remove.ensures.updates.1 in
    ap live e ∙ live_end c.shift_remove.new.self.entries c.args.key c.args.value ∙ ap (λ es. es ++ (c.args.key, c.args.value) ∷ []) same

pub invariant_of-self-2 : goal.invariant_of-self-2
invariant_of-self-2 g c = record {
  unique = c.insert.ensures.unique;
  counted = ap length (added g c) ∙ length_end _ _ ∙ ap (λ n. n + 1) c.self.invariant.counted ∙ sym c.in-Some.ensures.1;
}

pub returns-clause-ok : goal.returns-clause-ok
returns-clause-ok g c = rw (← c.self.view_is) (added g c)

pub returns-in_default-clause-unique : goal.returns-in_default-clause-unique
returns-in_default-clause-unique g c = rw (← c.self.view_is) (live_unique g.K.PartialEq.eq c.self.inside.slots.entries c.self.invariant.unique)

pub returns-in_err-insert-clause-unique : goal.returns-in_err-insert-clause-unique
returns-in_err-insert-clause-unique g c = live_unique g.K.PartialEq.eq c.insert.new.self.entries c.insert.ensures.unique

pub returns-clause-unique : goal.returns-clause-unique
returns-clause-unique g c = live_unique g.K.PartialEq.eq c.insert.new.self.entries c.insert.ensures.unique
