use Rattle.std.proofs.Common.{◌≡◌, ◌+◌, ◌-◌, ◌≤◌, ℕ, Some, List, [], ◌∷◌, ◌++◌, length, ap, ◌∙◌, arith}
use Rattle.rm_formats.specs.Device.{journal_record}
use Rattle.rm_disk.specs.Disk.{DiskView, MayWrite}
use Rattle.rm_disk.proofs.Views.{quiet_same, quiet_writes}
use Rattle.rm_journal.specs.two_areas.Areas.{AreasAt, other_from}
use Rattle.rm_journal.proofs.two_areas.Moments.{at_once}
use Rattle.rm_journal.proofs.two_areas.Steps.{IsWhole, IsAdding, building_whole, leaves_payloads, tells_payloads, adding_broken, adding_alone, adding_has, adding_builds, adding_stands}
use Rattle.rm_journal.proofs.two_areas.areas.Areas.add.Goals as goal

-- a payload that a call adds, to areas that it found
adding_of : {v0 v1 : DiskView} {a s : AreasAt} {from gate : ℕ} {payload body : List ℕ} → a ≡ s → from ≡ other_from s → a.build ≡ Some gate → body ≡ journal_record payload ++ 0 ∷ [] → 1 ≤ length payload → length payload ≤ 1024 → length payload + 6 ≤ from + a.half - gate → MayWrite gate (length body) v0 v1 → IsAdding v0 v1 s gate payload body
adding_of {v0} {v1} {a} {s} {from} {gate} {payload} {body} same from_is begun is low high fits wrote =
    let half = ap (λ (q : AreasAt). q.half) same in
    record { begun = rw (← same) begun; is = is; small = (low, high); fits = omega (arith, fits, from_is, half); wrote = wrote }

pub returns-then-needed-room-clause-any_moment : goal.returns-then-needed-room-clause-any_moment
returns-then-needed-room-clause-any_moment g c =
    let d = g.met.D.Disk in
    let whole = building_whole c.self.view_is c.requires.stands c.if-self.false (d.image_size c.args.disk.now) (d.as_it_reads c.args.disk.now) c.in-Some.gate c.in-Some.is in
    λ _. leaves_payloads _ _ whole _ (λ payloads each. at_once _ _ each)

-- the areas that a call found whose write a fault broke
faulted_whole : (g : _) (c : goal.After-from_residual g) → IsWhole (g.D.Disk.view c.args.disk.now) c.args.self.now
faulted_whole g c = building_whole c.self.view_is c.requires.stands c.if-self.false (g.met.D.Disk.image_size c.args.disk.now) (g.met.D.Disk.as_it_reads c.args.disk.now) c.in-Some.gate c.in-Some.is

-- the payload that it writes
faulted : (g : _) (c : goal.After-from_residual g) → IsAdding (g.D.Disk.view c.args.disk.now) (g.D.Disk.view c.write.new.self) c.args.self.now c.in-Some.gate c.args.payload.now c.deref.result.now
faulted g c = adding_of c.self.view_is c.other_from.ensures c.in-Some.is (c.deref.ensures.value ∙ c.fill_record.ensures.items) c.requires.low c.requires.high c.if-needed-room.false c.write.ensures.in_range

pub returns-in_err-write-clause-stands : goal.returns-in_err-write-clause-stands
returns-in_err-write-clause-stands g c = rw (← c.self.view_is) at (adding_broken _ _ (faulted_whole g c) _ _ _ _ (faulted g c))

pub returns-in_err-write-clause-any_moment : goal.returns-in_err-write-clause-any_moment
returns-in_err-write-clause-any_moment g c = λ _. leaves_payloads _ _ (faulted_whole g c) _ (adding_has _ _ (faulted_whole g c) _ _ _ _ (faulted g c))

pub returns-in_err-write-clause-place_alone : goal.returns-in_err-write-clause-place_alone
returns-in_err-write-clause-place_alone g c = adding_alone _ _ (faulted_whole g c) _ _ _ _ (faulted g c)

-- the areas that a call found which added the payload
whole : (g : _) (c : goal.After-self-3-1 g) → IsWhole (g.D.Disk.view c.args.disk.now) c.args.self.now
whole g c = building_whole c.self.view_is c.requires.stands c.if-self.false (g.met.D.Disk.image_size c.args.disk.now) (g.met.D.Disk.as_it_reads c.args.disk.now) c.in-Some.gate c.in-Some.is

-- the payload that it writes
adding : (g : _) (c : goal.After-self-3-1 g) → IsAdding (g.D.Disk.view c.args.disk.now) (g.D.Disk.view c.write.new.self) c.args.self.now c.in-Some.gate c.args.payload.now c.deref.result.now
adding g c = adding_of c.self.view_is c.other_from.ensures c.in-Some.is (c.deref.ensures.value ∙ c.fill_record.ensures.items) c.requires.low c.requires.high c.if-needed-room.false c.write.ensures.in_range

pub returns-clause-stands : goal.returns-clause-stands
returns-clause-stands g c = rw (← c.self.view_is) at (adding_stands _ _ (whole g c) _ _ _ _ (adding g c) c.in_ok-write.ensures.written (c.in-Some.gate + (length c.args.payload.now + 6 - 1)) (omega arith))

pub returns-clause-builds : goal.returns-clause-builds
returns-clause-builds g c = λ added built.
    rw (← c.self.view_is) at (adding_builds _ _ (whole g c) _ _ _ _ (adding g c) c.in_ok-write.ensures.written (c.in-Some.gate + (length c.args.payload.now + 6 - 1)) (omega arith) added built)

pub returns-clause-any_moment : goal.returns-clause-any_moment
returns-clause-any_moment g c = λ _. leaves_payloads _ _ (whole g c) _ (adding_has _ _ (whole g c) _ _ _ _ (adding g c))

pub returns-clause-told : goal.returns-clause-told
returns-clause-told g c = rw (← c.self.view_is) (rw (← c.self.view_is) at (tells_payloads _ _ (whole g c) _ (g.met.D.Disk.as_it_reads c.write.new.self) (adding_has _ _ (whole g c) _ _ _ _ (adding g c))))

pub returns-clause-place_alone : goal.returns-clause-place_alone
returns-clause-place_alone g c = adding_alone _ _ (whole g c) _ _ _ _ (adding g c)

pub returns-then-self-clause-place_alone : goal.returns-then-self-clause-place_alone
returns-then-self-clause-place_alone g c = λ gate is.
    let v0 = g.D.Disk.view c.args.disk.now in
    quiet_writes gate (length c.args.payload.now + 6) v0 v0 (quiet_same v0)

pub returns-then-needed-room-clause-place_alone : goal.returns-then-needed-room-clause-place_alone
returns-then-needed-room-clause-place_alone g c = λ gate is.
    let v0 = g.D.Disk.view c.args.disk.now in
    quiet_writes gate (length c.args.payload.now + 6) v0 v0 (quiet_same v0)
