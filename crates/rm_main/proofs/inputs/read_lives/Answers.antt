use Rattle.std.proofs.Common.{Err, ap}
use Rattle.rm_main.proofs.Scripts.{can_run}
use Rattle.rm_main.proofs.inputs.read_lives.Goals as goal

pub returns-in-Ok-read_script-clause-read : goal.returns-in-Ok-read_script-clause-read
returns-in-Ok-read_script-clause-read g c =
    record { bytes = c.in-Ok.bytes.items; read = c.in-Ok.ensures.bytes; spelled = rw c.as_slice.ensures.value at c.in-Ok-read_script.ensures.read }

pub returns-in-Ok-read_script-clause-can_run : goal.returns-in-Ok-read_script-clause-can_run
returns-in-Ok-read_script-clause-can_run g c = can_run _ _ c.in-Ok-read_script.ensures.read

pub returns-in-Err-Refused-clause-refused : goal.returns-in-Err-Refused-clause-refused
returns-in-Err-Refused-clause-refused g c =
    record {
      bytes = c.in-Ok.bytes.items;
      read = c.in-Ok.ensures.bytes;
      none = rw c.as_slice.ensures.value at (c.in-Err-Refused.ensures.refused _ (ap Err c.in-Err-Refused.field-0-is));
    }
