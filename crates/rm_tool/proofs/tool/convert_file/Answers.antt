use Rattle.std.proofs.Common.{sym, subst}
use Rattle.rm_tool.specs.Runs.{Converts}
use Rattle.rm_tool.proofs.Moments.{store_written}
use Rattle.rm_tool.proofs.tool.convert_file.Goals as goal

pub returns-in-Err-Faulty-clause-comes : goal.returns-in-Err-Faulty-clause-comes
returns-in-Err-Faulty-clause-comes g c =
    subst (Converts (g.F.Shelf.bytes_of c.args.shelf.now c.args.old.now) (g.D.Disk.view c.args.new.now)) (sym c.stopped-in-Err-Faulty.ensures)
    (record { bytes = c.in-Ok.disk; read = c.in-Ok.ensures.bytes; faulty = c.in-Err-Faulty.ensures.faulty c.in-Err-Faulty.fault (cc (c.in-Err-Faulty.is, c.in-Err-Faulty.field-0-is)) })

pub returns-in-Err-OtherForm-clause-comes : goal.returns-in-Err-OtherForm-clause-comes
returns-in-Err-OtherForm-clause-comes g c =
    subst (Converts (g.F.Shelf.bytes_of c.args.shelf.now c.args.old.now) (g.D.Disk.view c.args.new.now)) (sym c.stopped-in-Err-OtherForm.ensures)
    (record { bytes = c.in-Ok.disk; read = c.in-Ok.ensures.bytes; other = c.in-Err-OtherForm.ensures.other_form (cc (c.in-Err-OtherForm.is, c.in-Err-OtherForm.field-0-is)) })

pub returns-clause-any_moment : goal.returns-clause-any_moment
returns-clause-any_moment g c = store_written _ (g.D.Disk.view c.args.new.now) (g.D.Disk.view c.write_anew.new.disk) c.write_anew.ensures.any_moment
