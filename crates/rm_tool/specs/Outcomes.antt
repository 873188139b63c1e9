-- What a call of the tool came to, and its exit status. This project's own: the statuses are those of the program where they say the same.
use Rattle.std.specs.Prelude.{ℕ, true, false, Option, None, Some}
use Rattle.rm_tool.specs.declared.salvage.checks.Fault.{Fault}
use Rattle.rm_outside.specs.declared.writes.Written.{Written}
use Rattle.rm_outside.specs.declared.writes.Written.TheVariants as written
use Rattle.rm_tool.specs.declared.salvage.errors.WriteError.{WriteError}
use Rattle.rm_tool.specs.declared.salvage.errors.WriteError.TheVariants as errors
use Rattle.rm_page_reader.specs.declared.errors.PageError.{PageError}
use Rattle.rm_page_reader.specs.declared.errors.PageError.TheVariants as pages
use Rattle.rm_report.specs.declared.errors.ReportError.{ReportError}
use Rattle.rm_report.specs.declared.errors.ReportError.TheVariants as reports
use Rattle.rm_tool.specs.declared.outcomes.ToolOutcome.{ToolOutcome}
use Rattle.rm_tool.specs.declared.outcomes.ToolOutcome.TheVariants.{Done, Usage, ReadFault, WriteFault, OtherLength, TooLong, OtherForm, Faulty, DiskFault, NotNew, Full, NotAPage, NotAnId, Memory}

-- the status with which the tool ends
abbrev pub tool_status : ToolOutcome → ℕ
tool_status Done = 0
tool_status Usage = 1
tool_status ReadFault = 2
tool_status (WriteFault took_nothing) = 3
tool_status (OtherLength length) = 8
tool_status TooLong = 5
tool_status OtherForm = 8
tool_status (Faulty fault) = 8
tool_status DiskFault = 7
tool_status NotNew = 7
tool_status (Full size) = 9
tool_status (NotAPage line) = 5
tool_status NotAnId = 1
tool_status Memory = 11

-- what a call came to whose store was not written
abbrev pub of_write : WriteError → ToolOutcome
of_write errors.DiskFault = DiskFault
of_write (errors.Damaged offset) = NotNew
of_write errors.Used = NotNew
of_write (errors.Full size) = Full size
of_write errors.Memory = Memory

-- what a call came to whose page was not read
abbrev pub outcome_of_page : PageError → ToolOutcome
outcome_of_page (pages.NotAPage line) = NotAPage line
outcome_of_page pages.Memory = Memory

-- what a call came to whose report was not made
abbrev pub of_report : ReportError → ToolOutcome
of_report (reports.NotAPage line) = NotAPage line
of_report reports.NotAnId = NotAnId
of_report reports.Memory = Memory

-- what a call comes to behind its page, which was written so
abbrev pub after_page : ToolOutcome → Written → ToolOutcome
after_page outcome written.All = outcome
after_page outcome written.Fault = WriteFault false
after_page outcome written.Nothing = WriteFault true
after_page outcome written.Memory = Memory

-- what a check comes to that found this fault, or none
abbrev pub of_fault : Option Fault → ToolOutcome
of_fault None = Done
of_fault (Some fault) = Faulty fault

-- before its page a call comes to no fault of the output
abbrev pub IsBeforePage : ToolOutcome → Type 0
IsBeforePage (WriteFault took_nothing) = ⊥
IsBeforePage _ = Unit {0}
