use Rattle.std.proofs.Common.{◌≡◌, None, Some, ap, refl, subst}
use Rattle.std.specs.Prelude.{map, string_bytes}
use Rattle.rm_main.specs.Complete.{HasPlaceFor, IsAccepted, ScheduleIsFollowed}
use Rattle.rm_main.specs.Made.{made_by}
use Rattle.rm_main.proofs.Completing.{complete}
use Rattle.rm_main.proofs.StoreStays.{stays}
use Rattle.rm_words.specs.Words.{asked, mode_of, plain_mode_of, without_threads}
use Rattle.rm_main.proofs.plain.top_plain.Goals as goal

pub returns-in-Ok-Some-clause-complete : goal.returns-in-Ok-Some-clause-complete
returns-in-Ok-Some-clause-complete g c = λ accepted place followed none.
    let told = g.F.Shelf.bytes_of c.args.shelf.now in
    let run = c.plain_line.ensures in
    let made = made_by c.args.disk c.plain_line.result in
    let asks : plain_mode_of (map string_bytes c.args.words.now) ≡ without_threads (Some (asked c.in-Ok-Some.line.mode)) = ap without_threads (rw c.in-Ok-Some.field-0-is at c.in-Ok-Some.ensures.some) in
    complete g.D.Disk.view told made (without_threads (Some (asked c.in-Ok-Some.line.mode))) (subst (λ o. HasPlaceFor g.D.Disk.view told o made) asks place) (subst (IsAccepted told) asks accepted) (subst (λ o. ScheduleIsFollowed told o made) asks followed)
    _ _ _ _ _ _ none c.plain_line.result.outcome run.ends run.read_fault run.writes.write_fault run.writes.took_nothing

pub returns-in-Ok-Some-clause-flags : goal.returns-in-Ok-Some-clause-flags
returns-in-Ok-Some-clause-flags g c = λ wrong.
    let asks : mode_of (map string_bytes c.args.words.now) ≡ Some (asked c.in-Ok-Some.line.mode) = rw c.in-Ok-Some.field-0-is at c.in-Ok-Some.ensures.some in
    let none : mode_of (map string_bytes c.args.words.now) ≡ None = rw wrong refl in
    absurd (cc)

pub returns-in-Ok-Some-clause-store : goal.returns-in-Ok-Some-clause-store
returns-in-Ok-Some-clause-store g c =
    stays g.D.Disk.view (g.F.Shelf.bytes_of c.args.shelf.now) (made_by c.args.disk c.plain_line.result) _ c.plain_line.result.outcome c.plain_line.ensures.ends c.plain_line.ensures.device
