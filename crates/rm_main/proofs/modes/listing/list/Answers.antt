use Rattle.std.proofs.Common.{[], refl}
use Rattle.rm_formats.specs.Page.{store_page}
use Rattle.rm_main.proofs.Devices.{left_alone}
use Rattle.rm_main.proofs.Endings.{listing_ends}
use Rattle.rm_main.proofs.Outcomes.{listed, listed_held, of_listing, still_page}
use Rattle.rm_main.proofs.modes.listing.list.Goals as goal

pub returns-clause-ends : goal.returns-clause-ends
returns-clause-ends g c =
    let made = c.list_store-listed.result in
    let of = c.list_store-listed.ensures in
    let written = c.write_store-written in
    rw (c.outcome_of.ensures, c.new.ensures)
    (listing_ends g.D.Disk.view (record { opening = made.ops; log = []; before = c.args.disk; after = made.disk }) _ (of_listing g.D.Disk.view c.args.disk made.disk made.ended written.result written.ensures.of_writing of.stopped) (record { empty = refl; fallen = of.falls })
    (listed g.D.Disk.view (record { opening = made.ops; log = []; before = c.args.disk; after = made.disk }) made.ended written.result written.ensures.of_writing of.stopped of.empty (λ ok bytes told. (of.holds ok bytes told, of.lasts ok bytes told))))

pub returns-clause-device : goal.returns-clause-device
returns-clause-device g c =
    let made = c.list_store-listed.result in
    let of = c.list_store-listed.ensures in
    rw c.new.ensures
    (left_alone g.D.Disk.view made.ops c.args.disk made.disk of.quiet of.stays of.at_ease.unarmed (λ unblown. of.at_ease.unblown) (listed_held g.D.Disk.view c.args.disk made.ops made.ended of.empty of.holds))

pub returns-clause-writes : goal.returns-clause-writes
returns-clause-writes g c =
    let made = c.list_store-listed.result in
    let written = c.write_store-written in
    rw c.outcome_of.ensures
    (still_page g.K.Sink.taken g.K.Sink.faults g.K.Sink.idle c.args.sink.now written.new.sink (store_page made.ops) made.ended written.result written.ensures.of_writing
    (record { writes = written.ensures.writes; write_fault = written.ensures.write_fault; took_nothing = written.ensures.took_nothing; quiet = written.ensures.quiet; untouched = written.ensures.untouched }))
