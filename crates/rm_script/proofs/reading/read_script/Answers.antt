use Rattle.rm_script.proofs.Answered.{is_read, is_refused, script_told, line_told}
use Rattle.rm_script.proofs.reading.read_script.Goals as goal

pub returns-clause-read : goal.returns-clause-read
returns-clause-read c = is_read c.script_of.result c.args.bytes.now c.script_of.ensures

pub returns-clause-refused : goal.returns-clause-refused
returns-clause-refused c = is_refused c.script_of.result c.args.bytes.now c.script_of.ensures

pub returns-clause-script_told : goal.returns-clause-script_told
returns-clause-script_told c = script_told c.script_of.result c.args.bytes.now c.script_of.ensures

pub returns-clause-line_told : goal.returns-clause-line_told
returns-clause-line_told c = line_told c.script_of.result c.args.bytes.now c.script_of.ensures
