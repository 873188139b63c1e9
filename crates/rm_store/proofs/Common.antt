-- What this crate's proofs take of the crates below it, passed on by one module.
pub use Rattle.std.proofs.Common.{Bool, Err, List, None, Ok, Option, Result, Some, ap, append_assoc, arith, drop, false, filter, fold, if◌then◌else◌, inl, inr, is_none, is_some, length, map, not, option_map, refl, slice_get, subst, suc, sum, sym, take, true, zero, ℕ, [], ◌&&◌, ◌++◌, ◌+◌, ◌-◌, ◌/◌, ◌<◌, ◌∙◌, ◌∷◌, ◌≡◌, ◌≤◌, ◌⊎◌}
pub use Rattle.std.proofs.lemmas.Bool.Decides.{nat_tests}
pub use Rattle.std.proofs.lemmas.List.{append-nil, length-append}
pub use Rattle.std.proofs.lemmas.List.Elements.{All-cons, All-nil}
pub use Rattle.std.proofs.lemmas.Result.{err_from_is_err_and}
pub use Rattle.std.specs.Prelude.{All, OnOk}
pub use Rattle.rm_disk.proofs.Views.{quiet_trans, told_after}
pub use Rattle.rm_disk.specs.Disk.{AtEachMoment, DiskView, IfTold, IsQuiet}
pub use Rattle.rm_formats.specs.Device.{journal_record, journal_records}
pub use Rattle.rm_formats.specs.Frames.{frame}
pub use Rattle.rm_journal.proofs.two_areas.Moments.{moment_of}
pub use Rattle.rm_journal.proofs.two_areas.Steps.{each_has, layout}
pub use Rattle.rm_journal.proofs.two_areas.Unique.{one_layout}
pub use Rattle.rm_journal.specs.Journal.{broken_after}
pub use Rattle.rm_journal.specs.Walk.{HasWalked}
pub use Rattle.rm_journal.specs.declared.fault.JournalError.{JournalError}
pub use Rattle.rm_journal.specs.two_areas.Areas.{AreasAt, AreasHold, AreasInvariant, HasLayout, IsBuilt, IsDamagedLayout, head_of}
pub use Rattle.rm_types.specs.Alike.{IsAlike}
pub use Rattle.rm_types.specs.Folded.{folded, stays}
pub use Rattle.rm_types.specs.Ids.{is_app}
pub use Rattle.rm_types.specs.Ranges.{IsOperation}
pub use Rattle.rm_types.specs.Records.{Records, fits_records, no_records, record_of, recorded, records, stray, stray_from, with_end, with_record}
pub use Rattle.rm_types.specs.declared.ids.AppId.{AppId}
pub use Rattle.rm_types.specs.declared.operations.Op.{Op}
pub use Rattle.rm_types.specs.declared.operations.Op.TheVariants.{App, AppEnd, Attempt, AttemptEnd, Epoch, Remove}
pub use Rattle.rm_types.specs.declared.records.AppRecord.{AppRecord}
