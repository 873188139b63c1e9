-- What this crate's proofs take of the crates below it, passed on by one module.
pub use Rattle.std.proofs.Common.{Bool, List, None, Option, Some, ap, arith, drop, false, filter, find, fold, get_or, inl, inr, is_none, length, map, nat_le, not, refl, subst, suc, sym, true, zero, ℕ, [], ◌&&◌, ◌*◌, ◌++◌, ◌+◌, ◌-◌, ◌<◌, ◌^◌, ◌||◌, ◌∙◌, ◌∷◌, ◌≡◌, ◌≤◌, ◌⊎◌}
pub use Rattle.std.proofs.lemmas.Bool.{and_from, and_parts, false≢true, not-true, or_right}
pub use Rattle.std.proofs.lemmas.Bool.Decides.{nat_tests}
pub use Rattle.std.proofs.lemmas.Grind.{flat_map-append}
pub use Rattle.std.proofs.lemmas.List.{length-map, map-append}
pub use Rattle.std.proofs.lemmas.List.Elements.{filter-append, filter_agree}
pub use Rattle.std.proofs.lemmas.List.Folds.{list_any-append}
pub use Rattle.std.proofs.lemmas.List.Sorted.{IsPermutation-sym}
pub use Rattle.std.proofs.lemmas.List.Sums.{sum_by-append, sum_by-cons}
pub use Rattle.std.proofs.lemmas.Map.{lookup-set_value}
pub use Rattle.std.specs.List.{flat_map, list_all, list_any, range_with_len}
pub use Rattle.std.specs.Prelude.{Contains, if◌then◌else◌, slice_get}
pub use Rattle.std.specs.Str.{bytes_eq}
pub use Rattle.rm_book.specs.AskTables.{AsksOf, asks_granted, asks_set, attempt_asks, is_for, one_less, renewed_ask, table_granted, with_asks_of, without_asks_of}
pub use Rattle.rm_book.specs.Books.{BookOf, book_row_taken, book_with_taken, capability_of, entering, granted_rows, has_row, is_of, sizes_on, taken_rows, with_grants, without_rows}
pub use Rattle.rm_book.specs.ManyAsks.{all_asked}
pub use Rattle.rm_book.specs.declared.plain.NodeCapability.{NodeCapability}
pub use Rattle.rm_client.specs.Answers.{after_client, submitted_row, taken_by, wished_by}
pub use Rattle.rm_master.specs.Answers.{acquired, acquired_row, after_master, allocated_with, is_new_to, registered, release_events, said}
pub use Rattle.rm_master.specs.Told.{goes_on, spoken_by}
pub use Rattle.rm_model.specs.Absorbing.{absorbed, absorbs, as_booked, as_counted, as_reported, row_absorbed, row_taken, taken_of}
pub use Rattle.rm_model.specs.Attempts.{attempt_at, attempt_was_first, finishing_text, has_expired, has_failed, has_registered, is_live, is_masters, is_registered, is_stale, is_wanted, kept_attempt}
pub use Rattle.rm_model.specs.Changes.{after, asks_without, life_keeps}
pub use Rattle.rm_model.specs.ClientReplies.{client_reply}
pub use Rattle.rm_model.specs.Containers.{ids_on, is_living, is_size, leave, lives_on, once, released_by, without_launches}
pub use Rattle.rm_model.specs.Facts.{attempts_in, end_in, has_app, has_container, is_app_end_op, is_app_op, is_attempt_end_op, is_attempt_op, is_epoch_op, is_known, last_end, reaches_bound, waiting_submission}
pub use Rattle.rm_model.specs.Issuing.{EndsFor, MayIssueApp, expired_text, killed_text, lost_text}
pub use Rattle.rm_model.specs.MasterReplies.{is_finished_op, is_new_to_master, life_after_master, master_reply, register_reply, row_allocated, untold_rows}
pub use Rattle.rm_model.specs.NodeReplies.{beaten, expired, is_later_turn, is_new_to_node, life_after_clock, life_after_node, new_node, node_after_registration, node_reply, reported, row_beaten}
pub use Rattle.rm_model.specs.Nodes.{is_waiting, judged_node, tidied, tidied_node, with_judged_node, without_idle}
pub use Rattle.rm_model.specs.Passing.{passed, passes, row_granted}
pub use Rattle.rm_model.specs.Replies.{life_after, reply_to}
pub use Rattle.rm_model.specs.Rules.{Allowed, AllowedIn}
pub use Rattle.rm_model.specs.State.{Beat, Expired, LifeState, Lost, Manager, MasterState, Registered, Registration, Row, Scene, Undone, Waiting, scene}
pub use Rattle.rm_refinement.proofs.Found.{found_each, other_added, other_row, own_row}
pub use Rattle.rm_refinement.proofs.Nodes.{tidied_same, with_same}
pub use Rattle.rm_refinement.specs.Agreement.{AttemptAgrees, ClosingsAgree, CurrentAgrees, NumberAgrees, PlainDialogue, PlainNode, PlainRow, RowAgrees, SameAsks, SameNodes, SameRows, bare_dialogue, bare_node, bare_row, closings_for, grants_of, plain_dialogue, plain_node, plain_row, session_of}
pub use Rattle.rm_refinement.specs.History.{History, abstract_life, abstract_scene, live_state}
pub use Rattle.rm_refinement.specs.Services.{RefinesLife, finishes_by, is_ending, lives_by}
pub use Rattle.rm_states.specs.app.Table.{next_app_state}
pub use Rattle.rm_states.specs.attempt.Table.{is_alive}
pub use Rattle.rm_states.specs.declared.app.states.AppState.{AppState}
pub use Rattle.rm_states.specs.declared.attempt.states.AttemptState.{AttemptState}
pub use Rattle.rm_tables.specs.Absorbing.{absorbed_by, absorbed_if, absorbed_with, counted_in, tables_may_take, tables_with_counted, taken_in, unlaunched_here, unlaunched_on, was_first}
pub use Rattle.rm_tables.specs.Actions.{app_changed, app_ends, attempt_ends, ends_app, found_in, main_popped, main_quiet, main_worked, next_in, sched_popped, sched_quiet, sched_worked, schedules}
pub use Rattle.rm_tables.specs.Changes.{after_failure, attempt_after, changed, current_after, granted, granted_at, killed_state, scheduled}
pub use Rattle.rm_tables.specs.Completed.{completion_of, completions_in, ended_in, put_completion, with_completed}
pub use Rattle.rm_tables.specs.KeptOps.{kept, removed_at, removed_by, removed_if, removed_of}
pub use Rattle.rm_tables.specs.Leaving.{closed, closed_in, closed_one, closings_of, ended_by, is_masters_in, left_all, losts_of, unlaunched, unlaunched_at, unlaunched_one}
pub use Rattle.rm_tables.specs.Lives.{begun, handed_out, refused}
pub use Rattle.rm_tables.specs.MainEvents.{accept_of_row, accept_of_state, attempt_kill, decision_of_attempt_state, decision_of_current, decision_of_end, decision_of_row, end_with, expiry_of_current, expiry_of_living, expiry_of_row, finish_of_current, finish_of_living, finish_of_row, finishing_in, grant_of_current, grant_of_place, grant_of_row, grant_of_state, is_living_one, is_master_of, kill_of_attempt_state, kill_of_row, kill_of_state, last_end_in, launch_of_current, launch_of_living, launch_of_master, launch_of_place, launch_of_row, launch_of_tests, loss_of_current, loss_of_row, loss_of_state, main_step, node_at, removal_of_first, save_of_row, save_of_state, start_of_submission, with_attempt_requeued, with_order}
pub use Rattle.rm_tables.specs.Nodes.{beaten_row, changed_row, is_ready_row, is_waiting_row, new_node_row, node_row, ordered_row, registered_node_row, with_node}
pub use Rattle.rm_tables.specs.Opening.{going_in, main_by, main_of, opening_main, opening_sched, recovered_attempt, recovered_row, recovered_rows, sched_by, sched_of}
pub use Rattle.rm_tables.specs.Passing.{asks_after_answer, asks_some, fitted_on, granted_number, granted_to, grants_on, masters_granted, passed_with, rows_after_grant, still_waits, table_without_granted, turn_in, turns_in, updated_by, waits_for_master}
pub use Rattle.rm_tables.specs.Rows.{is_empty_slot, is_retired, row_in, row_of, slot_of, with_row, without_row}
pub use Rattle.rm_tables.specs.SchedEvents.{EndsByEvent, is_on, is_released, master_asked, queued_at, queued_by, queued_with, sched_step}
pub use Rattle.rm_tables.specs.Talks.{dialogue_begun, registered_row, said_row, told_row, with_answer, with_text, without_closings}
pub use Rattle.rm_tables.specs.declared.changes.AttemptChange.{AttemptChange}
pub use Rattle.rm_tables.specs.declared.changes.RowChange.{RowChange}
pub use Rattle.rm_tables.specs.declared.completed.Completion.{Completion}
pub use Rattle.rm_tables.specs.declared.events.MainEvent.{MainEvent}
pub use Rattle.rm_tables.specs.declared.events.SchedEvent.{SchedEvent}
pub use Rattle.rm_tables.specs.declared.nodes.NodeChange.{NodeChange}
pub use Rattle.rm_tables.specs.declared.nodes.NodeChange.TheVariants.{Absorb, Lose, Unlaunch}
pub use Rattle.rm_tables.specs.declared.nodes.NodeRow.{NodeRow}
pub use Rattle.rm_tables.specs.declared.rows.AppRow.{AppRow}
pub use Rattle.rm_tables.specs.declared.rows.Current.{Current}
pub use Rattle.rm_tables.specs.declared.rows.Dialogue.{Dialogue}
pub use Rattle.rm_tables.specs.declared.tables.Tables.{Tables}
pub use Rattle.rm_tracker.specs.Answers.{after_clock, after_node, beat_events, beaten_book, is_next_beat, is_row_on, is_untold_row, registered_by}
pub use Rattle.rm_tracker.specs.Offers.{OnlyNodesOffer}
pub use Rattle.rm_types.proofs.IdLemmas.{app_itself, attempt_itself, container_itself, same_app, same_attempt, same_container}
pub use Rattle.rm_types.proofs.TestLemmas.{and_false, and_first, same_text, text_itself}
pub use Rattle.rm_types.specs.Containers.{is_granted, is_held}
pub use Rattle.rm_types.specs.Ids.{is_app, is_attempt, is_container}
pub use Rattle.rm_types.specs.Lists.{is_nil}
pub use Rattle.rm_types.specs.Messages.{IsAsk, IsHeld, IsList, IsSize}
pub use Rattle.rm_types.specs.Order.{Ascend}
pub use Rattle.rm_types.specs.Passes.{PassNode, by_priority, fitting, left_of, pass_list, seq_after, turn_grant, with_granted, with_turn}
pub use Rattle.rm_types.specs.Ranges.{IsAppId, IsContainerId, IsOperation, IsText, IsWithin}
pub use Rattle.rm_types.specs.Records.{Records, all_ended, fits_records, is_some_and, last_attempt, new_record, no_records, record_of, recorded, records, with_end, with_record}
pub use Rattle.rm_types.specs.declared.containers.Ask.{Ask}
pub use Rattle.rm_types.specs.declared.containers.AskOf.{AskOf}
pub use Rattle.rm_types.specs.declared.containers.BookRow.{BookRow}
pub use Rattle.rm_types.specs.declared.containers.Cause.{Cause}
pub use Rattle.rm_types.specs.declared.containers.Closing.{Closing}
pub use Rattle.rm_types.specs.declared.containers.ContainerState.{ContainerState}
pub use Rattle.rm_types.specs.declared.containers.ContainerState.TheVariants.{Acquired, Running}
pub use Rattle.rm_types.specs.declared.containers.Grant.{Grant}
pub use Rattle.rm_types.specs.declared.containers.Held.{Held}
pub use Rattle.rm_types.specs.declared.containers.Turn.{Turn}
pub use Rattle.rm_types.specs.declared.entries.Entry.{Entry}
pub use Rattle.rm_types.specs.declared.entries.Entry.TheVariants.{Accepted, Ended, Issued, Ordered, Quiet, Served}
pub use Rattle.rm_types.specs.declared.ids.AppId.{AppId}
pub use Rattle.rm_types.specs.declared.ids.AttemptId.{AttemptId}
pub use Rattle.rm_types.specs.declared.ids.ContainerId.{ContainerId}
pub use Rattle.rm_types.specs.declared.messages.ClientAsk.{ClientAsk}
pub use Rattle.rm_types.specs.declared.messages.ClockAsk.{ClockAsk}
pub use Rattle.rm_types.specs.declared.messages.ClockAsk.TheVariants.{ExpireMaster, ExpireNode, Tick}
pub use Rattle.rm_types.specs.declared.messages.MasterAsk.{MasterAsk}
pub use Rattle.rm_types.specs.declared.messages.MasterAsk.TheVariants.{Allocate, Finish, Register}
pub use Rattle.rm_types.specs.declared.messages.Message.{Message}
pub use Rattle.rm_types.specs.declared.messages.NodeAsk.{NodeAsk}
pub use Rattle.rm_types.specs.declared.operations.How.{How}
pub use Rattle.rm_types.specs.declared.operations.Op.{Op}
pub use Rattle.rm_types.specs.declared.operations.Submission.{Submission}
pub use Rattle.rm_types.specs.declared.operations.Submitted.{Submitted}
pub use Rattle.rm_types.specs.declared.records.AppRecord.{AppRecord}
pub use Rattle.rm_types.specs.declared.records.AttemptRecord.{AttemptRecord}
pub use Rattle.rm_types.specs.declared.replies.Reply.{Reply}
pub use Rattle.rm_types.specs.declared.resources.Resource.{Resource}
pub use Rattle.rm_types.specs.declared.settings.Settings.{Settings}
pub use Rattle.rm_types.specs.declared.texts.TextKind.TheVariants.{Node, Note}
