use Rattle.std.proofs.Common.{◌≡◌, ◌+◌, ◌-◌, ℕ, List, sym, ◌∙◌, ap, subst}
use Rattle.std.specs.Prelude.{IfOk}
use Rattle.rm_disk.specs.Disk.{IfTold}
use Rattle.rm_formats.specs.Device.{IsDamagedAt}
use Rattle.rm_journal.specs.Journal.{region_of}
use Rattle.rm_journal.specs.Walk.{WalkAt, HasWalked, GivesWalked}
use Rattle.rm_journal.specs.two_areas.Areas.{IsDamagedLayout, area_from}
use Rattle.rm_journal.specs.two_areas.Reading.{ReadingAt}
use Rattle.rm_journal.proofs.two_areas.Opening.{damaged_later}
use Rattle.rm_journal.proofs.two_areas.areas.Reading.next.Goals as goal

pub returns-clause-next : goal.returns-clause-next
returns-clause-next g c =
    let v0 = g.D.Disk.view c.args.disk.now in
    subst (λ (q : ReadingAt). IfOk c.next.result (λ gate. IfTold v0 (λ bytes. (given : List (List ℕ)) → HasWalked q.walk bytes given → GivesWalked q.walk c.next.new.self c.next.new.out.items bytes given gate))) c.self.view_is c.next.ensures.next

pub returns-clause-damaged : goal.returns-clause-damaged
returns-clause-damaged g c = λ offset is bytes told.
    let v0 = g.D.Disk.view c.args.disk.now in
    let r = c.args.self.now in
    let q = c.requires in
    let found = c.next.ensures.damaged offset is in
    let walk : c.self.inside.walk ≡ r.walk = ap (λ (x : ReadingAt). x.walk) c.self.view_is in
    let from : c.self.inside.walk.from ≡ area_from r.half r.second = ap (λ (k : WalkAt). k.from) walk ∙ q.from in
    let end : c.self.inside.walk.end ≡ c.self.inside.walk.from + r.half = ap (λ (k : WalkAt). k.end) walk ∙ q.end ∙ ap (λ (n : ℕ). n + r.half) (sym from) in
    let damage = subst (λ (n : ℕ). IsDamagedAt (region_of c.self.inside.walk.from n bytes) (offset - c.self.inside.walk.from)) end (found.1 bytes told) in
    subst (λ (n : ℕ). IsDamagedLayout n bytes offset) q.half (damaged_later v0 r.half r.second r.generation q.other q.picked c.self.inside.walk.from offset from found.0 bytes told damage)
