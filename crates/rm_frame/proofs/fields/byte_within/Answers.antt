use Rattle.std.proofs.Common.{arith, rules}
use Rattle.rm_frame.specs.Fields.{ByteFrom}
use Rattle.rm_frame.proofs.Faults.{byte_reads, byte_stands, no_byte, stops_at}
use Rattle.rm_frame.proofs.fields.byte_within.Goals.{then-byte-least-via-then-byte-least, then-byte-least-via-else-byte-least+then-greatest-byte}
use Rattle.rm_frame.proofs.fields.byte_within.Goals as goal

pub returns-in_default-clause-bad : goal.returns-in_default-clause-bad
returns-in_default-clause-bad c =
    stops_at (ByteFrom c.args.least c.args.greatest) c.args.bytes.now
    (no_byte c.args.least c.args.greatest c.args.bytes.now (c.byte_at.ensures.none (search rules)))

pub returns-then-byte-least-clause-bad : goal.returns-then-byte-least-clause-bad
returns-then-byte-least-clause-bad c =
    stops_at (ByteFrom c.args.least c.args.greatest) c.args.bytes.now
    (λ s. let t = byte_stands c.args.least c.args.greatest c.in-Some.byte c.args.bytes.now c.in-Some.rest.now c.in-Some.ensures.some s in
    elim c.then-byte-least.branch [
      | then-byte-least-via-then-byte-least w ↦ omega (arith, w.if-byte-least.true)
      | then-byte-least-via-else-byte-least+then-greatest-byte w ↦ omega (arith, w.if-greatest-byte.true)
    ])

pub returns-clause-read : goal.returns-clause-read
returns-clause-read c =
    byte_reads c.args.least c.args.greatest c.in-Some.byte c.args.bytes.now c.in-Some.rest.now c.in-Some.ensures.some
    (omega (arith, c.if-byte-least.false)) (omega (arith, c.if-greatest-byte.false))
