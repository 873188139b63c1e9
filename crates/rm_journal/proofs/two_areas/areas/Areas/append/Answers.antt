use Rattle.std.proofs.Common.{Bool, ◌+◌, length, ◌∙◌, ap}
use Rattle.rm_journal.specs.Journal.{broken_after}
use Rattle.rm_journal.proofs.two_areas.Appends.{IsAdding, appending, append_stands, refused_view, added_all}
use Rattle.rm_disk.proofs.Views.{quiet_same, quiet_writes}
use Rattle.rm_journal.proofs.two_areas.areas.Areas.append.Goals as goal

-- the areas that an append found, and what it writes
adding : (g : _) (c : goal.After-self-1 g)
    → IsAdding (g.D.Disk.view c.args.disk.now) (g.D.Disk.view c.append-outcome.new.disk) (record { half = c.self.inside.half; second = c.self.inside.second; generation = c.self.inside.generation; journal = c.self.inside.journal; other_live = c.self.inside.other_live; build = c.self.inside.build; is_broken = c.self.inside.is_broken }) c.args.payload.now
adding g c = record {
  stands = rw (← c.self.view_is) at c.requires.stands;
  sound = c.if-self.false;
  reads = g.met.D.Disk.as_it_reads c.args.disk.now;
  live = rw (← c.self.view_is) at c.requires.live;
  wrote = c.append-outcome.ensures.region_alone;
}

pub returns-clause-stands : goal.returns-clause-stands
returns-clause-stands g c =
    let r = c.append-outcome.result in
    let whole = (adding g c).stands.unbroken c.if-self.false in
    let none = rw (← c.self.view_is) at c.requires.no_build in
    rw (c.breaks-self-inside.ensures) (append_stands _ _ _ _ (adding g c) r c.append-outcome.new.self c.append-outcome.ensures.stands c.append-outcome.ensures.region (λ e. c.append-outcome.ensures.broken ∙ ap (λ (b : Bool). broken_after r b) whole ∙ e) none
    (g.met.D.Disk.as_it_reads c.append-outcome.new.disk) c.append-outcome.ensures.added (refused_view r _ _ _ (λ e payloads each. rw e each) c.append-outcome.ensures.refused) c.append-outcome.ensures.errors)

pub returns-clause-any_moment : goal.returns-clause-any_moment
returns-clause-any_moment g c =
    rw (← c.self.view_is) (λ _ bytes told payloads has. appending _ _ _ _ (adding g c) (c.append-outcome.ensures.any_moment ((adding g c).stands.unbroken c.if-self.false)) bytes payloads told has)

pub returns-clause-added : goal.returns-clause-added
returns-clause-added g c = rw (← c.self.view_is) (added_all _ _ _ _ (adding g c) (g.met.D.Disk.as_it_reads c.append-outcome.new.disk) c.append-outcome.result c.append-outcome.ensures.added)

pub returns-clause-place_alone : goal.returns-clause-place_alone
returns-clause-place_alone g c = rw (← c.self.view_is) c.append-outcome.ensures.place_alone

pub returns-then-self-clause-place_alone : goal.returns-then-self-clause-place_alone
returns-then-self-clause-place_alone g c =
    let v0 = g.D.Disk.view c.args.disk.now in
    quiet_writes c.args.self.now.journal.gate (length c.args.payload.now + 6) v0 v0 (quiet_same v0)
