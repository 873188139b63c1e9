use Rattle.std.proofs.lemmas.Result.{err_from_is_err_and}
use Rattle.std.proofs.Common.{◌≡◌, true, false, [], ◌∷◌}
use Rattle.std.specs.Prelude.{option_map}
use Rattle.rm_disk.specs.Disk.{put}
use Rattle.rm_disk.proofs.Views.{quiet_same, quiet_writes}
use Rattle.rm_journal.specs.two_areas.Areas.{other_from}
use Rattle.rm_journal.proofs.two_areas.Steps.{IsWhole, IsOpening, building_whole, broken_quiet, each_has, quiet_either, opening_broken, opening_alone, opening_leaves, finished_has, finished_stands}
use Rattle.rm_journal.proofs.two_areas.areas.Areas.finish.Goals as goal

pub returns-in_err-sync-clause-stands : goal.returns-in_err-sync-clause-stands
returns-in_err-sync-clause-stands g c =
    let s = c.args.self.now in
    rw (← c.self.view_is) at (broken_quiet _ _ s s.other_live s.build c.requires.stands c.sync.ensures.quiet)

pub returns-in_err-sync-clause-any_moment : goal.returns-in_err-sync-clause-any_moment
returns-in_err-sync-clause-any_moment g c = λ sound bytes told payloads added has built.
    quiet_either _ c.args.self.now _ c.sync.ensures.quiet added payloads (each_has _ _ c.requires.stands sound (g.met.D.Disk.as_it_reads c.args.disk.now) bytes payloads told has)

pub returns-in_err-sync-clause-place_alone : goal.returns-in_err-sync-clause-place_alone
returns-in_err-sync-clause-place_alone g c = quiet_writes (other_from c.args.self.now) 1 _ _ c.sync.ensures.quiet

-- the areas that a call found whose write of the first gate a fault broke
faulted_whole : (g : _) (c : goal.After-from_residual-in_err-write_through g) → IsWhole (g.D.Disk.view c.args.disk.now) c.args.self.now
faulted_whole g c = building_whole c.self.view_is c.requires.stands c.if-self.false (g.met.D.Disk.image_size c.args.disk.now) (g.met.D.Disk.as_it_reads c.args.disk.now) c.in-Some.gate c.in-Some.is

-- the gate that it opens
faulted : (g : _) (c : goal.After-from_residual-in_err-write_through g) → IsOpening (g.D.Disk.view c.args.disk.now) (g.D.Disk.view c.sync.new.self) (g.D.Disk.view c.write_through.new.disk) c.args.self.now
faulted g c = record { synced = c.sync.ensures.quiet; durable = c.in_ok-sync.ensures.durable; opens = rw (← c.self.view_is, ← c.other_from-from.ensures) c.write_through.ensures.in_range }

pub returns-in_err-write_through-clause-stands : goal.returns-in_err-write_through-clause-stands
returns-in_err-write_through-clause-stands g c = rw (← c.self.view_is) at (opening_broken _ _ (faulted_whole g c) _ _ (faulted g c))

pub returns-in_err-write_through-clause-any_moment : goal.returns-in_err-write_through-clause-any_moment
returns-in_err-write_through-clause-any_moment g c = λ _. opening_leaves _ _ (faulted_whole g c) _ _ (faulted g c)

pub returns-in_err-write_through-clause-place_alone : goal.returns-in_err-write_through-clause-place_alone
returns-in_err-write_through-clause-place_alone g c = opening_alone _ _ (faulted_whole g c) _ _ (faulted g c)

pub returns-in_err-write_through-clause-kept : goal.returns-in_err-write_through-clause-kept
returns-in_err-write_through-clause-kept g c =
    let p = err_from_is_err_and c.from_residual-in_err-write_through.result c.from_residual-in_err-write_through.ensures.1 in
    rw p.1 (g.met.D.Disk.keeps_on true false _ _ _ c.in_ok-sync.ensures.kept c.in_err-write_through.ensures.kept)

-- the areas that a call found which opened the first gate
whole : (g : _) (c : goal.After-self-6-1 g) → IsWhole (g.D.Disk.view c.args.disk.now) c.args.self.now
whole g c = building_whole c.self.view_is c.requires.stands c.if-self.false (g.met.D.Disk.image_size c.args.disk.now) (g.met.D.Disk.as_it_reads c.args.disk.now) c.in-Some.gate c.in-Some.is

-- the gate that it opens
opening : (g : _) (c : goal.After-self-6-1 g) → IsOpening (g.D.Disk.view c.args.disk.now) (g.D.Disk.view c.sync.new.self) (g.D.Disk.view c.write_through.new.disk) c.args.self.now
opening g c = record { synced = c.sync.ensures.quiet; durable = c.in_ok-sync.ensures.durable; opens = rw (← c.self.view_is, ← c.other_from-from.ensures) c.write_through.ensures.in_range }

-- what the disk tells then
written : (g : _) (c : goal.After-self-6-1 g) → (g.D.Disk.view c.write_through.new.disk).told ≡ option_map (put (other_from c.args.self.now) (1 ∷ [])) (g.D.Disk.view c.sync.new.self).told
written g c = rw (← c.self.view_is, ← c.other_from-from.ensures) c.in_ok-write_through.ensures.written

pub returns-clause-stands : goal.returns-clause-stands
returns-clause-stands g c =
    rw (← c.self.view_is) at (finished_stands _ _ (whole g c) _ _ (opening g c) (written g c) c.in_ok-write_through.ensures.durable c.in-Some.gate c.move_to.new.self
    (rw (← c.self.view_is) c.in-Some.is) (rw (← c.self.view_is, ← c.other_from-from.ensures) c.move_to.ensures))

pub returns-clause-any_moment : goal.returns-clause-any_moment
returns-clause-any_moment g c = λ _. opening_leaves _ _ (whole g c) _ _ (opening g c)

pub returns-clause-added : goal.returns-clause-added
returns-clause-added g c = λ added built. rw (← c.self.view_is) at (finished_has _ _ (whole g c) _ _ (opening g c) (written g c) c.in_ok-write_through.ensures.durable added built)

pub returns-clause-place_alone : goal.returns-clause-place_alone
returns-clause-place_alone g c = opening_alone _ _ (whole g c) _ _ (opening g c)

pub returns-clause-kept : goal.returns-clause-kept
returns-clause-kept g c = g.met.D.Disk.keeps_on true true _ _ _ c.in_ok-sync.ensures.kept c.in_ok-write_through.ensures.kept

pub returns-then-self-clause-place_alone : goal.returns-then-self-clause-place_alone
returns-then-self-clause-place_alone g c = quiet_writes (other_from c.args.self.now) 1 _ _ (quiet_same _)
