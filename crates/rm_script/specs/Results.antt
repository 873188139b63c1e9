-- What reading a script answers where a line of it is refused.
use Rattle.std.specs.Prelude.{ℕ}
use Rattle.rm_lines.specs.declared.errors.LineError.{LineError}
use Rattle.rm_lines.specs.declared.errors.LineError.TheVariants.{Refused, Memory}
use Rattle.rm_script.specs.declared.errors.ScriptError.{ScriptError}
use Rattle.rm_script.specs.declared.errors.ScriptError.TheVariants as scripts

-- the error of the script whose line this is
abbrev pub at_line : LineError → ℕ → ScriptError
at_line (Refused fault) line = scripts.Refused line
at_line Memory line = scripts.Memory
