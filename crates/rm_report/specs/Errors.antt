-- How a report says that a page wasn't read.
use Rattle.rm_page_reader.specs.declared.errors.PageError.{PageError}
use Rattle.rm_page_reader.specs.declared.errors.PageError.TheVariants as pages
use Rattle.rm_report.specs.declared.errors.ReportError.{ReportError}
use Rattle.rm_report.specs.declared.errors.ReportError.TheVariants as reports

-- the same line, or want of memory
abbrev pub of_page : PageError → ReportError
of_page (pages.NotAPage line) = reports.NotAPage line
of_page pages.Memory = reports.Memory
