-- What this crate's proofs take of the crates below it, passed on by one module.
pub use Rattle.std.proofs.Common.{Bool, Err, List, None, Ok, Option, Result, Some, ap, arith, false, inl, inr, refl, subst, sym, true, ℕ, [], ⊎_elim, ◌++◌, ◌<◌, ◌∙◌, ◌∷◌, ◌≢◌, ◌⊎◌}
pub use Rattle.std.proofs.lemmas.List.{append-nil, append_assoc}
pub use Rattle.std.proofs.lemmas.List.Sums.{fold_push}
pub use Rattle.std.proofs.lemmas.Option.{same_Some}
pub use Rattle.std.proofs.lemmas.Result.{err_from_is_err_and}
pub use Rattle.std.specs.Prelude.{IfErr, OnOk, is_ok}
pub use Rattle.rm_core.specs.Moves.{IsLeftAfter}
pub use Rattle.rm_core.specs.Seen.{Seen, StandsFor}
pub use Rattle.rm_core.specs.Words.{as_new, is_blown, landed_over, stands}
pub use Rattle.rm_desk.specs.Effects.{IsHanded, LaneEffect}
pub use Rattle.rm_desk.specs.Lanes.{HasNoWork, is_ready_at}
pub use Rattle.rm_desk.specs.Runs.{HasBlown}
pub use Rattle.rm_desk.specs.View.{DeskView}
pub use Rattle.rm_disk.proofs.Views.{leaves_of, leaves_same, leaves_trans}
pub use Rattle.rm_disk.specs.Disk.{DiskView}
pub use Rattle.rm_disk.specs.Fuse.{Fused, KeepsFuse}
pub use Rattle.rm_disk.specs.declared.fallen.Fallen.{Fallen}
pub use Rattle.rm_model.specs.Changes.{after, after_where, kept_after_landing}
pub use Rattle.rm_model.specs.Lawful.{state_after}
pub use Rattle.rm_model.specs.Place.{Place, close_left}
pub use Rattle.rm_model.specs.State.{LifeState, Manager, opening_state}
pub use Rattle.rm_store.specs.Content.{DeviceHolds}
pub use Rattle.rm_store.specs.Store.{IsBelowLast, StoreState, seen}
pub use Rattle.rm_store.specs.declared.fault.StoreError.{StoreError}
pub use Rattle.rm_types.proofs.TestLemmas.{on_ok, on_ok_map}
pub use Rattle.rm_types.specs.Lanes.{lane_of_entry}
pub use Rattle.rm_types.specs.Records.{Records, records}
pub use Rattle.rm_types.specs.declared.entries.Entry.{Entry}
pub use Rattle.rm_types.specs.declared.entries.Entry.TheVariants.{Blown}
pub use Rattle.rm_types.specs.declared.messages.Lane.{Lane}
pub use Rattle.rm_types.specs.declared.messages.Lane.TheVariants.{Begin, Client, Clock, End, Hand, Main, Master, Node, Sched, Write}
pub use Rattle.rm_types.specs.declared.operations.Op.{Op}
pub use Rattle.rm_types.specs.declared.scripts.Close.{Close}
pub use Rattle.rm_types.specs.declared.scripts.Close.TheVariants.{Crash, Settle}
pub use Rattle.rm_types.specs.declared.scripts.Life.{Life}
pub use Rattle.rm_types.specs.declared.scripts.Script.{Script}
pub use Rattle.rm_types.specs.declared.settings.Settings.{Settings}
