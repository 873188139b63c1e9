use Rattle.std.proofs.Common.{Some, subst, sym}
use Rattle.rm_main.specs.Made.{made_by}
use Rattle.rm_main.specs.modes.{CallEnds}
use Rattle.rm_words.specs.declared.modes.Mode.{Mode}
use Rattle.rm_words.specs.Words.{asked, without_threads}
use Rattle.rm_main.proofs.modes.plain_line.Goals as goal

pub returns-in-Soak-clause-ends : goal.returns-in-Soak-clause-ends
returns-in-Soak-clause-ends g c =
    let told = g.F.Shelf.bytes_of c.args.shelf.now in
    subst (λ (mode : Mode). CallEnds g.D.Disk.view told (without_threads (Some (asked mode))) (made_by c.args.disk c.soak.result) c.soak.result.outcome) (sym c.in-Soak.is) c.soak.ensures.ends

pub returns-in-Store-clause-ends : goal.returns-in-Store-clause-ends
returns-in-Store-clause-ends g c =
    let told = g.F.Shelf.bytes_of c.args.shelf.now in
    subst (λ (mode : Mode). CallEnds g.D.Disk.view told (without_threads (Some (asked mode))) (made_by c.args.disk c.list.result) c.list.result.outcome) (sym c.in-Store.is) c.list.ensures.ends
