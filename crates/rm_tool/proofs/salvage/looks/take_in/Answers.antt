use Rattle.std.proofs.Common.{◌≡◌, Bool, true, false, refl, sym, ◌∙◌, ap}
use Rattle.rm_types.specs.Records.{records, fits_records}
use Rattle.rm_store.proofs.Ops.{records_push}
use Rattle.rm_tool.proofs.salvage.looks.take_in.Goals as goal

pub returns-in-Ok : goal.returns-in-Ok
returns-in-Ok c =
    let op = c.in-Some.op in
    let tree = rw c.requires at c.in-Ok.ensures.ok in
    let grown = c.in_ok-push-in-Ok.ensures.ok in
    record {
      op = op;
      framed = rw c.in-Some.is at c.in_ok-op.ensures.some;
      fits = fits (fits_records (records c.args.ops.now) op) refl;
      grown = grown;
      amounts = tree ∙ sym (records_push c.args.ops.now op) ∙ ap records (sym grown);
    }
  where
    fits : (b : Bool) → fits_records (records c.args.ops.now) c.in-Some.op ≡ b → fits_records (records c.args.ops.now) c.in-Some.op ≡ true
    fits true e = e
    fits false e = absurd (let s = c.in-Ok.ensures.stray (rw c.requires e) in cc)

pub returns-in-Err-Stray : goal.returns-in-Err-Stray
returns-in-Err-Stray c =
    let stray = rw c.requires at c.in-Err-Stray.ensures.only_stray in
    (refl, c.in-Err-Stray.ensures.err, record { op = c.in-Some.op; framed = rw c.in-Some.is at c.in_ok-op.ensures.some; stray = stray c.in-Err-Stray.field-0-is })
