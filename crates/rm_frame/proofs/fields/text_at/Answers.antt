use Rattle.std.proofs.Common.{◌∙◌, arith, rules}
use Rattle.rm_frame.specs.Fields.{TextOf}
use Rattle.rm_frame.proofs.Faults.{text_reads, text_stands, no_text, stops_at}
use Rattle.rm_frame.proofs.fields.text_at.Goals as goal

pub returns-in_default-clause-bad : goal.returns-in_default-clause-bad
returns-in_default-clause-bad c =
    stops_at (TextOf c.args.kind) c.args.bytes.now
    (λ s. let t = text_stands c.args.kind c.args.bytes.now s in let short = c.u16_at.ensures.none (search rules) in omega arith)

pub returns-then-rest-length-clause-bad : goal.returns-then-rest-length-clause-bad
returns-then-rest-length-clause-bad c =
    let e = c.in-Some.ensures.some in
    stops_at (TextOf c.args.kind) c.args.bytes.now
    (no_text c.args.kind c.from-length.result c.args.bytes.now c.in-Some.rest.now (c.from-length.ensures ∙ e.1) e.2
    (λ long none. omega (arith, c.if-rest-length.true)))

pub returns-in-Ok-clause-read : goal.returns-in-Ok-clause-read
returns-in-Ok-clause-read c =
    let e = c.in-Some.ensures.some in
    text_reads c.args.kind c.from-length.result c.args.bytes.now c.in-Some.rest.now c.in-Ok.text c.split_at.result.1.now (λ i. omega (arith, c.type_inv.bytes i))
    e.0 (c.from-length.ensures ∙ e.1) e.2 (omega (arith, c.if-rest-length.false)) (c.in-Ok.ensures.text.0 ∙ c.split_at.ensures.front) c.split_at.ensures.back
    (rw c.in-Ok.ensures.text.0 c.in-Ok.ensures.text.1)

pub returns-in-Err-NotText-clause-bad : goal.returns-in-Err-NotText-clause-bad
returns-in-Err-NotText-clause-bad c =
    let e = c.in-Some.ensures.some in
    let bad = c.in-Err-NotText.ensures.not_text c.in-Err-NotText.field-0-0 c.in-Err-NotText.field-0-is in
    stops_at (TextOf c.args.kind) c.args.bytes.now
    (no_text c.args.kind c.from-length.result c.args.bytes.now c.in-Some.rest.now (c.from-length.ensures ∙ e.1) e.2
    (λ long none. let fault = rw c.split_at.ensures.front at bad in absurd cc))
