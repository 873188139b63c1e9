-- What this crate's proofs take of the crates below it, passed on by one module.
pub use Rattle.std.proofs.Common.{Bool, List, None, Option, Some, ap, append-nil, append_assoc, arith, cond, count_by, drop, false, filter, find, flat_map, fold, if◌then◌else◌, inl, inr, is_none, is_some, length, map, not, refl, subst, suc, sym, take, true, zero, ℕ, [], ◌&&◌, ◌++◌, ◌+◌, ◌<◌, ◌==◌, ◌||◌, ◌∙◌, ◌∷◌, ◌≡◌, ◌≢◌, ◌≤◌, ◌⊎◌}
pub use Rattle.std.proofs.lemmas.Bool.{and_parts, not-true, or_left, or_parts, or_right}
pub use Rattle.std.proofs.lemmas.Bool.Decides.{nat_tests}
pub use Rattle.std.proofs.lemmas.List.Folds.{list_any-append}
pub use Rattle.std.proofs.lemmas.List.Sums.{fold_push, sum_by-append}
pub use Rattle.std.proofs.lemmas.Map.Views.{any-filter_same}
pub use Rattle.std.specs.List.{list_all, list_any, range_with_len}
pub use Rattle.std.specs.Prelude.{IsSomeAnd, nat_le, nat_lt, option_and_then, slice_get, sum_by}
pub use Rattle.std.specs.Str.{bytes_eq}
pub use Rattle.rm_model.specs.Absorbing.{book_taken, row_absorbed, row_taken, taken_of}
pub use Rattle.rm_model.specs.Attempts.{has_registered, is_registered}
pub use Rattle.rm_model.specs.Changes.{after, after_all, life_issues, life_keeps}
pub use Rattle.rm_model.specs.Containers.{ids_on, is_living, lives_elsewhere, lives_on}
pub use Rattle.rm_model.specs.Facts.{attempts_in, end_in, has_app, has_container, is_app_end_op, is_app_op, is_epoch_op, is_known, is_remove_op, is_submitted, submission_of}
pub use Rattle.rm_model.specs.Issuing.{MayIssue}
pub use Rattle.rm_model.specs.Lawful.{AllAllowed}
pub use Rattle.rm_model.specs.MasterReplies.{allocates, row_allocated}
pub use Rattle.rm_model.specs.NodeReplies.{beats, expired, nodes_registered, reported, row_beaten}
pub use Rattle.rm_model.specs.Nodes.{judged_node, tidied, with_judged_node}
pub use Rattle.rm_model.specs.Passing.{asks_of, first_fit_on, pass_node, pass_of, row_granted, turns}
pub use Rattle.rm_model.specs.Replies.{life_after, reply_to}
pub use Rattle.rm_model.specs.Rules.{Allowed, AllowedIn, MayAbsorb, MayOpen, MayPass}
pub use Rattle.rm_model.specs.State.{LifeState, Manager, NodeState, Row, Scene, opening_state, scene}
pub use Rattle.rm_types.proofs.IdLemmas.{same_app, same_attempt, same_container}
pub use Rattle.rm_types.proofs.TestLemmas.{is_some-find, none_from_is_none, same_text}
pub use Rattle.rm_types.specs.Containers.{is_held}
pub use Rattle.rm_types.specs.Ids.{is_app, is_attempt, is_container}
pub use Rattle.rm_types.specs.Passes.{PassNode, by_priority, fitting, left_of, seq_after, turn_grant, with_granted, with_turn}
pub use Rattle.rm_types.specs.Records.{Records, all_ended, fits_records, is_some_and, last_attempt, no_records, record_of, recorded, records, with_end, with_record}
pub use Rattle.rm_types.specs.declared.containers.Ask.{Ask}
pub use Rattle.rm_types.specs.declared.containers.AskOf.{AskOf}
pub use Rattle.rm_types.specs.declared.containers.Grant.{Grant}
pub use Rattle.rm_types.specs.declared.containers.Held.{Held}
pub use Rattle.rm_types.specs.declared.containers.Turn.{Turn}
pub use Rattle.rm_types.specs.declared.entries.Entry.{Entry}
pub use Rattle.rm_types.specs.declared.entries.Entry.TheVariants.{Absorbed, Down, Ended, Issued, Kept, Opened, Pass, Served}
pub use Rattle.rm_types.specs.declared.ids.AppId.{AppId}
pub use Rattle.rm_types.specs.declared.ids.AttemptId.{AttemptId}
pub use Rattle.rm_types.specs.declared.ids.ContainerId.{ContainerId}
pub use Rattle.rm_types.specs.declared.messages.MasterAsk.TheVariants.{Allocate, Finish, Register}
pub use Rattle.rm_types.specs.declared.messages.Message.{Message}
pub use Rattle.rm_types.specs.declared.operations.How.{How}
pub use Rattle.rm_types.specs.declared.operations.Op.{Op}
pub use Rattle.rm_types.specs.declared.operations.Op.TheVariants.{App, AppEnd, Attempt, AttemptEnd, Epoch, Remove}
pub use Rattle.rm_types.specs.declared.operations.Submission.{Submission}
pub use Rattle.rm_types.specs.declared.operations.Submitted.{Submitted}
pub use Rattle.rm_types.specs.declared.records.AppRecord.{AppRecord}
pub use Rattle.rm_types.specs.declared.records.AttemptRecord.{AttemptRecord}
pub use Rattle.rm_types.specs.declared.replies.Reply.{Reply}
pub use Rattle.rm_types.specs.declared.resources.Resource.{Resource}
pub use Rattle.rm_types.specs.declared.settings.Settings.{Settings}
