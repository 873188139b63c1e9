use Rattle.std.proofs.lemmas.Result.{err_from_is_err_and}
use Rattle.std.proofs.Common.{◌≡◌, ◌+◌, ℕ, suc, true, false, Some, None, List, [], ◌∷◌, ◌++◌, length, ◌∙◌, ap, subst, arith}
use Rattle.std.specs.Prelude.{option_map}
use Rattle.std.specs.Int.{w64, to_be_bytes}
use Rattle.rm_formats.specs.Device.{sized}
use Rattle.rm_disk.specs.Disk.{DiskView, EachImage, MayWrite, put}
use Rattle.rm_disk.proofs.Views.{quiet_same, quiet_writes, write_wider}
use Rattle.rm_journal.specs.two_areas.Areas.{AreasAt, ClosesGate, other_from}
use Rattle.rm_journal.proofs.two_areas.Steps.{IsWhole, IsHeading, whole_of, broken_on, leaves_payloads, tells_payloads, closing_live, headed_has, headed_broken, headed_alone, headed_builds, headed_stands}
use Rattle.rm_journal.proofs.two_areas.areas.Areas.begin.Goals as goal

-- a head that a call writes, of areas that it found
heading_of : {v0 v1 v2 : DiskView} {a s : AreasAt} {from : ℕ} {bytes head : List ℕ} → a ≡ s → from ≡ other_from a → ClosesGate a.other_live from v0 v1 → MayWrite from 1 v0 v1 → EachImage v1 (λ image. length image ≡ v1.size) → ((told : List ℕ) → v1.told ≡ Some told → v1.images told)
    → bytes ≡ to_be_bytes w64 (a.generation + 1) → head ≡ sized bytes ++ 0 ∷ [] → MayWrite (from + 1) (length head) v1 v2 → IsHeading v0 v1 v2 s head
heading_of {v0} {v1} {v2} {a} {s} {from} {bytes} {head} same from_is shuts wrote sizes reads bytes_are is headed =
    let next : a.generation + 1 ≡ suc a.generation = omega arith in
    subst (λ (q : AreasAt). IsHeading v0 v1 v2 q head) same (record {
      shuts = subst (λ (n : ℕ). ClosesGate a.other_live n v0 v1) from_is shuts;
      wrote = subst (λ (n : ℕ). MayWrite n 1 v0 v1) from_is wrote;
      sizes = sizes;
      reads = reads;
      is = is ∙ ap (λ (l : List ℕ). sized l ++ 0 ∷ []) (bytes_are ∙ ap (λ (n : ℕ). to_be_bytes w64 n) next);
      headed = subst (λ (n : ℕ). MayWrite (n + 1) (length head) v1 v2) from_is headed;
    })

-- the first gate is closed, or a fault left it open whether it is
closing : (g : _) (c : goal.After-from_residual g) → MayWrite (other_from c.args.self.now) 1 (g.D.Disk.view c.args.disk.now) (g.D.Disk.view c.shut.new.disk)
closing g c = rw (← c.self.view_is, ← c.other_from-from.ensures) c.shut.ensures.in_range

pub returns-in_err-shut-clause-stands : goal.returns-in_err-shut-clause-stands
returns-in_err-shut-clause-stands g c =
    let s = c.args.self.now in
    rw (← c.self.view_is) at (broken_on _ _ s (other_from s) 1 s.other_live None c.requires.stands (omega arith) (omega (arith, c.requires.half)) (closing g c))

pub returns-in_err-shut-clause-any_moment : goal.returns-in_err-shut-clause-any_moment
returns-in_err-shut-clause-any_moment g c =
    let d = g.met.D.Disk in
    let whole = whole_of c.self.view_is c.requires.stands c.if-self.false (d.image_size c.args.disk.now) (d.as_it_reads c.args.disk.now) c.requires.half in
    λ _. leaves_payloads _ _ whole _ (closing_live _ _ whole _ (closing g c) (rw (← c.self.view_is) c.in_err-shut.ensures.err))

pub returns-in_err-shut-clause-place_alone : goal.returns-in_err-shut-clause-place_alone
returns-in_err-shut-clause-place_alone g c =
    let from = other_from c.args.self.now in
    write_wider from 14 from 1 _ _ (omega arith) (omega arith) (closing g c)

-- the areas that a call found whose write of the head a fault broke
faulted_whole : (g : _) (c : goal.After-from_residual-in_err-write g) → IsWhole (g.D.Disk.view c.args.disk.now) c.args.self.now
faulted_whole g c = whole_of c.self.view_is c.requires.stands c.if-self.false (g.met.D.Disk.image_size c.args.disk.now) (g.met.D.Disk.as_it_reads c.args.disk.now) c.requires.half

-- the head that it writes
faulted : (g : _) (c : goal.After-from_residual-in_err-write g) → IsHeading (g.D.Disk.view c.args.disk.now) (g.D.Disk.view c.shut.new.disk) (g.D.Disk.view c.write.new.self) c.args.self.now c.deref.result.now
faulted g c = heading_of c.self.view_is c.other_from-from.ensures c.in_ok-shut.ensures.shuts c.shut.ensures.in_range (g.met.D.Disk.image_size c.shut.new.disk) (g.met.D.Disk.as_it_reads c.shut.new.disk) c.to_be_bytes-generation.ensures (c.deref.ensures.value ∙ c.fill_body.ensures.items) c.write.ensures.in_range

pub returns-in_err-write-clause-stands : goal.returns-in_err-write-clause-stands
returns-in_err-write-clause-stands g c = rw (← c.self.view_is) at (headed_broken _ _ (faulted_whole g c) _ _ _ (faulted g c))

pub returns-in_err-write-clause-any_moment : goal.returns-in_err-write-clause-any_moment
returns-in_err-write-clause-any_moment g c = λ _. leaves_payloads _ _ (faulted_whole g c) _ (headed_has _ _ (faulted_whole g c) _ _ _ (faulted g c))

pub returns-in_err-write-clause-place_alone : goal.returns-in_err-write-clause-place_alone
returns-in_err-write-clause-place_alone g c = headed_alone _ _ (faulted_whole g c) _ _ _ (faulted g c)

pub returns-in_err-write-clause-kept : goal.returns-in_err-write-clause-kept
returns-in_err-write-clause-kept g c =
    let p = err_from_is_err_and c.from_residual-in_err-write.result c.from_residual-in_err-write.ensures.1 in
    rw p.1 (g.met.D.Disk.keeps_on true false _ _ _ c.in_ok-shut.ensures.kept c.in_err-write.ensures.kept)

-- the areas that a call found which wrote the head
whole : (g : _) (c : goal.After-self-5-1 g) → IsWhole (g.D.Disk.view c.args.disk.now) c.args.self.now
whole g c = whole_of c.self.view_is c.requires.stands c.if-self.false (g.met.D.Disk.image_size c.args.disk.now) (g.met.D.Disk.as_it_reads c.args.disk.now) c.requires.half

-- the head that it writes
heading : (g : _) (c : goal.After-self-5-1 g) → IsHeading (g.D.Disk.view c.args.disk.now) (g.D.Disk.view c.shut.new.disk) (g.D.Disk.view c.write.new.self) c.args.self.now c.deref.result.now
heading g c = heading_of c.self.view_is c.other_from-from.ensures c.in_ok-shut.ensures.shuts c.shut.ensures.in_range (g.met.D.Disk.image_size c.shut.new.disk) (g.met.D.Disk.as_it_reads c.shut.new.disk) c.to_be_bytes-generation.ensures (c.deref.ensures.value ∙ c.fill_body.ensures.items) c.write.ensures.in_range

-- what the disk tells then
written : (g : _) (c : goal.After-self-5-1 g) → (g.D.Disk.view c.write.new.self).told ≡ option_map (put (other_from c.args.self.now + 1) c.deref.result.now) (g.D.Disk.view c.shut.new.disk).told
written g c = rw (← c.self.view_is, ← c.other_from-from.ensures) c.in_ok-write.ensures.written

pub returns-clause-stands : goal.returns-clause-stands
returns-clause-stands g c = rw (← c.self.view_is, ← c.other_from-from.ensures) at (headed_stands _ _ (whole g c) _ _ _ (heading g c) (written g c) (omega (arith, c.requires.generation)))

pub returns-clause-builds : goal.returns-clause-builds
returns-clause-builds g c = rw (← c.self.view_is, ← c.other_from-from.ensures) at (headed_builds _ _ (whole g c) _ _ _ (heading g c) (written g c) (omega (arith, c.requires.generation)))

pub returns-clause-any_moment : goal.returns-clause-any_moment
returns-clause-any_moment g c = λ _. leaves_payloads _ _ (whole g c) _ (headed_has _ _ (whole g c) _ _ _ (heading g c))

pub returns-clause-told : goal.returns-clause-told
returns-clause-told g c = rw (← c.self.view_is) (rw (← c.self.view_is) at (tells_payloads _ _ (whole g c) _ (g.met.D.Disk.as_it_reads c.write.new.self) (headed_has _ _ (whole g c) _ _ _ (heading g c))))

pub returns-clause-place_alone : goal.returns-clause-place_alone
returns-clause-place_alone g c = headed_alone _ _ (whole g c) _ _ _ (heading g c)

pub returns-clause-kept : goal.returns-clause-kept
returns-clause-kept g c = g.met.D.Disk.keeps_on true true _ _ _ c.in_ok-shut.ensures.kept c.in_ok-write.ensures.kept

pub returns-then-self-clause-place_alone : goal.returns-then-self-clause-place_alone
returns-then-self-clause-place_alone g c =
    let v0 = g.D.Disk.view c.args.disk.now in
    quiet_writes (other_from c.args.self.now) 14 v0 v0 (quiet_same v0)
