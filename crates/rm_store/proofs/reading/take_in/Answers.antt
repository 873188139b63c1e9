use Rattle.rm_store.proofs.Common.{◌≡◌, Bool, true, false, length, refl, sym, ap, ◌∙◌, records, fits_records}
use Rattle.rm_store.proofs.Ops.{records_push, told_count}
use Rattle.rm_store.proofs.reading.take_in.Goals as goal

pub returns-in-Ok-clause-ok : goal.returns-in-Ok-clause-ok
returns-in-Ok-clause-ok c =
    let op = c.in-Some.op in
    let tree = rw c.requires at c.in-Ok.ensures.ok in
    let framed = rw c.in-Some.is at c.in_ok-op.ensures.some in
    (op, framed, fits (fits_records (records c.args.ops.now) op) refl, c.in_ok-push-in-Ok.ensures.ok, tree ∙ sym (records_push c.args.ops.now op))
  where
    fits : (b : Bool) → fits_records (records c.args.ops.now) c.in-Some.op ≡ b → fits_records (records c.args.ops.now) c.in-Some.op ≡ true
    fits true e = e
    fits false e = absurd (let s = c.in-Ok.ensures.stray (rw c.requires e) in cc)

pub returns-in-Err-Stray-clause-stray : goal.returns-in-Err-Stray-clause-stray
returns-in-Err-Stray-clause-stray c = λ number offset e.
    let op = c.in-Some.op in
    let framed = rw c.in-Some.is at c.in_ok-op.ensures.some in
    let same : c.apply.new.self ≡ records c.args.ops.now = c.in-Err-Stray.ensures.err ∙ c.requires in
    let told : c.applied.result ≡ length c.args.ops.now = c.applied.ensures ∙ ap (λ r. r.applied) same ∙ told_count c.args.ops.now in
    let n : number ≡ c.applied.result = cc in
    let f : offset ≡ c.args.gate = cc in
    (f, n ∙ told, (op, framed, (let stray = rw c.requires at c.in-Err-Stray.ensures.only_stray in stray c.in-Err-Stray.field-0-is)))
