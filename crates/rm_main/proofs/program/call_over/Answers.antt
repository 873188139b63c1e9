use Rattle.std.proofs.Common.{sym}
use Rattle.rm_main.proofs.program.call_over.Goals as goal

pub returns-clause-ran : goal.returns-clause-ran
returns-clause-ran g c =
    let result = c.top_line-outcome.result in
    record {
      made = record { opening = result.opening; log = result.log; before = c.new-fuse.result; after = result.disk };
      over = c.new-fuse.ensures;
      given_back = sym c.inner-device.ensures;
      ends = c.top_line-outcome.ensures.ends;
      unused = c.top_line-outcome.ensures.unused;
      device = c.top_line-outcome.ensures.device;
    }

pub returns-clause-faults : goal.returns-clause-faults
returns-clause-faults g c =
    record {
      read_fault = rw c.new-shelf.ensures at c.top_line-outcome.ensures.read_fault;
      write_fault = rw c.new-sink.ensures at c.top_line-outcome.ensures.writes.write_fault;
      took_nothing = rw c.new-sink.ensures at c.top_line-outcome.ensures.writes.took_nothing;
    }
