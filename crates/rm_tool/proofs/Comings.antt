-- What a call comes to behind its page.
use Rattle.std.proofs.Common.{◌≡◌, ◌⊎◌, inl, inr, ℕ, Bool, true, false, Option, None, Some, List, refl, sym, subst}
use Rattle.std.specs.Prelude.{◌<◌, IfNone, IfSome, length}
use Rattle.rm_types.specs.declared.operations.Op.{Op}
use Rattle.rm_disk.specs.Disk.{DiskView}
use Rattle.rm_outside.specs.declared.writes.Written.{Written}
use Rattle.rm_outside.specs.declared.writes.Written.TheVariants as written
use Rattle.rm_tool.specs.declared.outcomes.ToolOutcome.{ToolOutcome}
use Rattle.rm_tool.specs.declared.outcomes.ToolOutcome.TheVariants.{Done, Usage, ReadFault, WriteFault, OtherLength, TooLong, OtherForm, Faulty, DiskFault, NotNew, Full, NotAPage, NotAnId, Memory}
use Rattle.rm_tool.specs.declared.salvage.checks.Fault.{Fault}
use Rattle.rm_tool.specs.declared.salvage.forms.Form.{Form}
use Rattle.rm_tool.specs.salvage.Checks.{IsFault, IsWhole}
use Rattle.rm_tool.specs.salvage.Forms.{IsForm}
use Rattle.rm_page_reader.specs.declared.errors.PageError.{PageError}
use Rattle.rm_page_reader.specs.declared.errors.PageError.TheVariants as pages
use Rattle.rm_report.specs.declared.errors.ReportError.{ReportError}
use Rattle.rm_report.specs.declared.errors.ReportError.TheVariants as reports
use Rattle.rm_tool.specs.Outcomes.{IsBeforePage, after_page, of_fault, outcome_of_page, of_report}
use Rattle.rm_types.specs.Ranges.{IsText}
use Rattle.rm_types.specs.declared.texts.TextKind.TheVariants as kinds
use Rattle.rm_page_reader.specs.Told.{IsNoPage}
use Rattle.rm_outside.specs.declared.shelves.TheConstants.{MOST_READ}
use Rattle.rm_tool.specs.Runs.{Checks, Comes, FollowsReport, IsNotReadWhole, Reports}
use Rattle.rm_outside.specs.Shelves.{ShelfTells, WereRead}
use Rattle.rm_tool.specs.Words.{ToolRequest, Check, Convert, Salvage, Summary, Follow, Draw}

pub comes_after : (told : ShelfTells) (asked : ToolRequest) (new : DiskView) (outcome : ToolOutcome) (w : Written) → Comes told (Some asked) new outcome → Comes told (Some asked) new (after_page outcome w)
comes_after told asked new outcome written.All comes = comes
comes_after told (Check file) new outcome written.Fault comes = tt
comes_after told (Check file) new outcome written.Nothing comes = tt
comes_after told (Check file) new outcome written.Memory comes = tt
comes_after told (Convert old target) new outcome written.Fault comes = tt
comes_after told (Convert old target) new outcome written.Nothing comes = tt
comes_after told (Convert old target) new outcome written.Memory comes = tt
comes_after told (Salvage file target) new outcome written.Fault comes = tt
comes_after told (Salvage file target) new outcome written.Nothing comes = tt
comes_after told (Salvage file target) new outcome written.Memory comes = tt
comes_after told (Summary page) new outcome written.Fault comes = tt
comes_after told (Summary page) new outcome written.Nothing comes = tt
comes_after told (Summary page) new outcome written.Memory comes = tt
comes_after told (Follow page id) new outcome written.Fault comes = tt
comes_after told (Follow page id) new outcome written.Nothing comes = tt
comes_after told (Follow page id) new outcome written.Memory comes = tt
comes_after told (Draw page) new outcome written.Fault comes = tt
comes_after told (Draw page) new outcome written.Nothing comes = tt
comes_after told (Draw page) new outcome written.Memory comes = tt

pub read_before : (outcome : ToolOutcome) (w : Written) → after_page outcome w ≡ ReadFault → outcome ≡ ReadFault
read_before outcome written.All is = is
read_before outcome written.Fault is = cc
read_before outcome written.Nothing is = cc
read_before outcome written.Memory is = cc

pub disk_before : (outcome : ToolOutcome) (w : Written) → after_page outcome w ≡ DiskFault → outcome ≡ DiskFault
disk_before outcome written.All is = is
disk_before outcome written.Fault is = cc
disk_before outcome written.Nothing is = cc
disk_before outcome written.Memory is = cc

-- a call that is Done wrote its page whole
pub done_before : (outcome : ToolOutcome) (w : Written) → after_page outcome w ≡ Done → (outcome ≡ Done) × (w ≡ written.All)
done_before outcome written.All is = (is, refl)
done_before outcome written.Fault is = cc
done_before outcome written.Nothing is = cc
done_before outcome written.Memory is = cc

-- a call whose file was not read whole is not Done
pub unread_not_done : (told : Option (List ℕ)) (outcome : ToolOutcome) → IsNotReadWhole told outcome → outcome ≡ Done → ⊥
unread_not_done told Done unread is = unread
unread_not_done told Usage unread is = unread
unread_not_done told ReadFault unread is = cc
unread_not_done told (WriteFault took_nothing) unread is = unread
unread_not_done told (OtherLength many) unread is = unread
unread_not_done told TooLong unread is = cc
unread_not_done told OtherForm unread is = unread
unread_not_done told (Faulty fault) unread is = unread
unread_not_done told DiskFault unread is = unread
unread_not_done told NotNew unread is = unread
unread_not_done told (Full size) unread is = unread
unread_not_done told (NotAPage line) unread is = unread
unread_not_done told NotAnId unread is = unread
unread_not_done told Memory unread is = cc

-- nor is one whose page was not read
pub page_not_done : (error : PageError) → outcome_of_page error ≡ Done → ⊥
page_not_done (pages.NotAPage line) is = cc
page_not_done pages.Memory is = cc

-- nor is one whose report was not made
pub report_not_done : (error : ReportError) → of_report error ≡ Done → ⊥
report_not_done (reports.NotAPage line) is = cc
report_not_done reports.NotAnId is = cc
report_not_done reports.Memory is = cc

-- a page that was not read comes to what a report may, where it is refused only as no page
pub page_refused : (told : Option (List ℕ)) (bytes : List ℕ) (error : PageError) → WereRead told bytes → length bytes < MOST_READ → ((line : ℕ) → error ≡ pages.NotAPage line → IsNoPage bytes) → Reports told (outcome_of_page error)
page_refused told bytes (pages.NotAPage line) read whole cause = record { bytes = bytes; read = read; whole = whole; none = cause line refl }
page_refused told bytes pages.Memory read whole cause = tt

-- and so does a report that was not made
pub report_refused : (told : Option (List ℕ)) (id bytes : List ℕ) (error : ReportError) → WereRead told bytes → length bytes < MOST_READ → (error ≡ reports.NotAnId → IsText kinds.Node id → ⊥) → ((line : ℕ) → error ≡ reports.NotAPage line → IsNoPage bytes)
    → FollowsReport told id (of_report error)
report_refused told id bytes (reports.NotAPage line) read whole no_id cause = record { bytes = bytes; read = read; whole = whole; none = cause line refl }
report_refused told id bytes reports.NotAnId read whole no_id cause = no_id refl
report_refused told id bytes reports.Memory read whole no_id cause = tt

-- a file that was not read whole comes to what a report may
pub unread_reports : (told : Option (List ℕ)) (outcome : ToolOutcome) → IsNotReadWhole told outcome → Reports told outcome
unread_reports told ReadFault unread = tt
unread_reports told Memory unread = tt
unread_reports told Done unread = absurd unread
unread_reports told Usage unread = absurd unread
unread_reports told (WriteFault took_nothing) unread = absurd unread
unread_reports told (OtherLength many) unread = absurd unread
unread_reports told TooLong unread = unread
unread_reports told OtherForm unread = absurd unread
unread_reports told (Faulty fault) unread = absurd unread
unread_reports told DiskFault unread = absurd unread
unread_reports told NotNew unread = absurd unread
unread_reports told (Full size) unread = absurd unread
unread_reports told (NotAPage line) unread = absurd unread
unread_reports told NotAnId unread = absurd unread

-- and to what a report of an id may
pub unread_follows : (told : Option (List ℕ)) (id : List ℕ) (outcome : ToolOutcome) → IsNotReadWhole told outcome → FollowsReport told id outcome
unread_follows told id ReadFault unread = tt
unread_follows told id Memory unread = tt
unread_follows told id Done unread = absurd unread
unread_follows told id Usage unread = absurd unread
unread_follows told id (WriteFault took_nothing) unread = absurd unread
unread_follows told id (OtherLength many) unread = absurd unread
unread_follows told id TooLong unread = unread
unread_follows told id OtherForm unread = absurd unread
unread_follows told id (Faulty fault) unread = absurd unread
unread_follows told id DiskFault unread = absurd unread
unread_follows told id NotNew unread = absurd unread
unread_follows told id (Full size) unread = absurd unread
unread_follows told id (NotAPage line) unread = absurd unread
unread_follows told id NotAnId unread = absurd unread

-- before its page no outcome is a fault of the output
no_write : (outcome : ToolOutcome) (took_nothing : Bool) → IsBeforePage outcome → outcome ≡ WriteFault took_nothing → ⊥
no_write (WriteFault took) took_nothing before is = before
no_write Done took_nothing before is = cc
no_write Usage took_nothing before is = cc
no_write ReadFault took_nothing before is = cc
no_write (OtherLength many) took_nothing before is = cc
no_write TooLong took_nothing before is = cc
no_write OtherForm took_nothing before is = cc
no_write (Faulty fault) took_nothing before is = cc
no_write DiskFault took_nothing before is = cc
no_write NotNew took_nothing before is = cc
no_write (Full size) took_nothing before is = cc
no_write (NotAPage line) took_nothing before is = cc
no_write NotAnId took_nothing before is = cc
no_write Memory took_nothing before is = cc

pub fault_before : (outcome : ToolOutcome) (w : Written) → IsBeforePage outcome → after_page outcome w ≡ WriteFault false → w ≡ written.Fault
fault_before outcome written.All before is = absurd (no_write outcome false before is)
fault_before outcome written.Fault before is = refl
fault_before outcome written.Nothing before is = cc
fault_before outcome written.Memory before is = cc

pub nothing_before : (outcome : ToolOutcome) (w : Written) → IsBeforePage outcome → after_page outcome w ≡ WriteFault true → w ≡ written.Nothing
nothing_before outcome written.All before is = absurd (no_write outcome true before is)
nothing_before outcome written.Fault before is = cc
nothing_before outcome written.Nothing before is = refl
nothing_before outcome written.Memory before is = cc

-- with its page, or without memory for that
pub either_page : (P : ToolOutcome → Type 0) (given outcome : ToolOutcome) → (outcome ≡ given) ⊎ (outcome ≡ Memory) → P given → P Memory → P outcome
either_page P given outcome (inl is) p q = subst P (sym is) p
either_page P given outcome (inr is) p q = subst P (sym is) q

-- what a check comes to by the fault that was found, or none
pub checks_by : (told : Option (List ℕ)) (bytes : List ℕ) (form : Form) (ops : List Op) (fault : Option Fault) → WereRead told bytes → IsForm bytes form → IfNone fault (IsWhole form bytes ops) → IfSome fault (IsFault form bytes)
    → Checks told (of_fault fault)
checks_by told bytes form ops None read of_form whole fault = record { bytes = bytes; read = read; form = form; of_form = of_form; ops = ops; whole = whole }
checks_by told bytes form ops (Some one) read of_form whole fault = record { bytes = bytes; read = read; form = form; of_form = of_form; faulty = fault }
