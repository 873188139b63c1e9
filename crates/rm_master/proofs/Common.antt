-- What this crate's proofs take of the crates below it, passed on by one module.
pub use Rattle.std.proofs.Common.{Bool, List, None, Option, Some, ap, arith, count_by, false, filter, find, is_none, is_some, length, map, not, refl, subst, sym, take, true, ℕ, [], ◌&&◌, ◌++◌, ◌+◌, ◌||◌, ◌∙◌, ◌∷◌, ◌≡◌}
pub use Rattle.std.proofs.lemmas.Bool.{eqb-true, false≢true}
pub use Rattle.std.proofs.lemmas.Bool.Decides.{nat_tests}
pub use Rattle.std.specs.List.{list_any}
pub use Rattle.std.specs.Prelude.{if◌then◌else◌, nat_lt, option_map, ◌==◌}
pub use Rattle.rm_book.specs.Books.{BookOf}
pub use Rattle.rm_model.specs.Attempts.{is_live, is_registered, master_of}
pub use Rattle.rm_model.specs.Facts.{has_app}
pub use Rattle.rm_model.specs.MasterReplies.{untold_rows, with_asks}
pub use Rattle.rm_model.specs.State.{MasterState, Row, Scene}
pub use Rattle.rm_refinement.specs.Agreement.{SameRows, bare_dialogue, closings_for, plain_dialogue, session_of}
pub use Rattle.rm_refinement.specs.Services.{RefinesLife, lives_by}
pub use Rattle.rm_states.specs.attempt.Table.{is_alive}
pub use Rattle.rm_tables.specs.Leaving.{is_masters_in}
pub use Rattle.rm_tables.specs.Rows.{row_of}
pub use Rattle.rm_tables.specs.declared.rows.AppRow.{AppRow}
pub use Rattle.rm_tables.specs.declared.rows.Dialogue.{Dialogue}
pub use Rattle.rm_tables.specs.declared.tables.Tables.{Tables}
pub use Rattle.rm_types.specs.Ids.{is_app, is_attempt}
pub use Rattle.rm_types.specs.declared.containers.Ask.{Ask}
pub use Rattle.rm_types.specs.declared.containers.BookRow.{BookRow}
pub use Rattle.rm_types.specs.declared.containers.Closing.{Closing}
pub use Rattle.rm_types.specs.declared.containers.ContainerState.{ContainerState}
pub use Rattle.rm_types.specs.declared.containers.ContainerState.TheVariants.{Acquired}
pub use Rattle.rm_types.specs.declared.containers.Grant.{Grant}
pub use Rattle.rm_types.specs.declared.ids.AttemptId.{AttemptId}
pub use Rattle.rm_types.specs.declared.ids.ContainerId.{ContainerId}
pub use Rattle.rm_types.specs.declared.messages.MasterAsk.{MasterAsk}
pub use Rattle.rm_types.specs.declared.messages.MasterAsk.TheVariants.{Allocate, Finish, Register}
pub use Rattle.rm_types.specs.declared.replies.Reply.{Reply}
pub use Rattle.rm_types.specs.declared.replies.Reply.TheVariants.{Allocated, Full, Resync, TooLarge, WrongId}
