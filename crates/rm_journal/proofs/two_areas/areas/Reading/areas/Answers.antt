use Rattle.std.proofs.Common.{◌≡◌, ◌+◌, ℕ, true, false, None, ◌++◌, sym, ◌∙◌, ap, subst}
use Rattle.rm_journal.specs.Journal.{JournalPlace}
use Rattle.rm_journal.specs.Walk.{HasWalked}
use Rattle.rm_journal.specs.two_areas.Areas.{AreasInvariant, area_from, head_of}
use Rattle.rm_journal.specs.two_areas.Reading.{ReadingAt, IsReading}
use Rattle.rm_journal.proofs.two_areas.Opening.{read_stands, read_holds}
use Rattle.rm_journal.proofs.two_areas.areas.Reading.areas.Goals as goal

pub returns-clause-stands : goal.returns-clause-stands
returns-clause-stands g c =
    let v = g.D.Disk.view c.args.disk.now in
    let i : ReadingAt = record { half = c.self.inside.half; second = c.self.inside.second; generation = c.self.inside.generation; other_live = c.self.inside.other_live; walk = c.self.inside.walk } in
    let is : IsReading v i = subst (λ (q : ReadingAt). IsReading v q) (sym c.self.view_is) c.requires.reading in
    let done : i.walk.is_done ≡ true = ap (λ (q : ReadingAt). q.walk.is_done) c.self.view_is ∙ c.requires.done in
    let j : JournalPlace = c.journal-journal.result in
    let cursor : c.start_of.result + c.head_size.result ≡ area_from i.half i.second + c.head_size.result = ap (λ (n : ℕ). n + c.head_size.result) c.start_of.ensures in
    let place_is : c.pass.new.self ≡ record j { cursor = area_from i.half i.second + c.head_size.result } = c.pass.ensures ∙ ap (λ (n : ℕ). record j { cursor = n }) cursor in
    subst (λ (q : JournalPlace). AreasInvariant v (record { half = i.half; second = i.second; generation = i.generation; journal = q; other_live = i.other_live; build = None; is_broken = false })) (sym place_is)
    (read_stands v i is done (g.met.D.Disk.as_it_reads c.args.disk.now) (g.met.D.Disk.image_size c.args.disk.now) j c.journal-journal.ensures c.head_size.result c.head_size.ensures.none c.head_size.ensures.some)

pub returns-clause-holds : goal.returns-clause-holds
returns-clause-holds g c = λ bytes told payloads walked.
    let v = g.D.Disk.view c.args.disk.now in
    let i : ReadingAt = record { half = c.self.inside.half; second = c.self.inside.second; generation = c.self.inside.generation; other_live = c.self.inside.other_live; walk = c.self.inside.walk } in
    let is : IsReading v i = subst (λ (q : ReadingAt). IsReading v q) (sym c.self.view_is) c.requires.reading in
    let done : i.walk.is_done ≡ true = ap (λ (q : ReadingAt). q.walk.is_done) c.self.view_is ∙ c.requires.done in
    let inside = subst (λ (q : ReadingAt). HasWalked q.walk bytes (head_of q.generation ++ payloads)) (sym c.self.view_is) walked in
    read_holds v i is done (g.met.D.Disk.as_it_reads c.args.disk.now) (g.met.D.Disk.image_size c.args.disk.now) c.journal-journal.result c.journal-journal.ensures c.head_size.result c.head_size.ensures.none c.head_size.ensures.some bytes told payloads inside
