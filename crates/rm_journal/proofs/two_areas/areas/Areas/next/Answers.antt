use Rattle.std.proofs.Common.{ℕ, List, sym, ap, subst}
use Rattle.std.specs.Prelude.{IfOk}
use Rattle.rm_disk.specs.Disk.{IfTold}
use Rattle.rm_journal.specs.Journal.{JournalPlace, HasRead, GivesNext}
use Rattle.rm_journal.specs.two_areas.Areas.{AreasAt, AreasInvariant}
use Rattle.rm_journal.proofs.two_areas.Steps.{stands_read}
use Rattle.rm_journal.proofs.two_areas.areas.Areas.next.Goals as goal

pub returns-clause-stands : goal.returns-clause-stands
returns-clause-stands g c =
    let v0 = g.D.Disk.view c.args.disk.now in
    let v1 = g.D.Disk.view c.next.new.disk in
    let a : AreasAt = record { half = c.self.inside.half; second = c.self.inside.second; generation = c.self.inside.generation; journal = c.self.inside.journal; other_live = c.self.inside.other_live; build = c.self.inside.build; is_broken = c.self.inside.is_broken } in
    let stands : AreasInvariant v0 a = subst (λ (q : AreasAt). AreasInvariant v0 q) (sym c.self.view_is) c.requires in
    let others = c.next.ensures.others in
    stands_read v0 v1 a c.next.new.self stands c.next.ensures.quiet c.next.ensures.stands (ap (λ (j : JournalPlace). j.from) others) (ap (λ (j : JournalPlace). j.end) others) (ap (λ (j : JournalPlace). j.is_broken) others)

pub returns-clause-next : goal.returns-clause-next
returns-clause-next g c =
    let v0 = g.D.Disk.view c.args.disk.now in
    subst (λ (q : AreasAt). IfOk c.next.result (λ gate. IfTold v0 (λ bytes. (given left : List (List ℕ)) → HasRead q.journal bytes given left → GivesNext q.journal c.next.new.self c.args.out.now.items c.next.new.out.items bytes given left gate))) c.self.view_is c.next.ensures.next
