-- What this crate's proofs take of the crates below it, passed on by one module.
pub use Rattle.std.proofs.Common.{Bool, IfSome, List, None, Option, Some, ap, append-nil, append_assoc, arith, cond, drop, false, filter, find, get_or, inl, inr, is_some, length, map, nat_lt, not, refl, rules, subst, sym, take, true, unwrap_or, ℕ, [], ◌&&◌, ◌++◌, ◌+◌, ◌<◌, ◌||◌, ◌∙◌, ◌∷◌, ◌≡◌}
pub use Rattle.std.proofs.lemmas.Bool.{and_from, and_parts, cases_Bool, or_from, or_parts}
pub use Rattle.std.proofs.lemmas.Bool.Decides.{nat_tests}
pub use Rattle.std.proofs.lemmas.Fn.{filter_same}
pub use Rattle.std.proofs.lemmas.List.{length-map, map-append, take_more}
pub use Rattle.std.proofs.lemmas.List.Elements.{filter-append}
pub use Rattle.std.proofs.lemmas.List.Folds.{list_any-append}
pub use Rattle.std.proofs.lemmas.List.Sums.{sum_by-cons}
pub use Rattle.std.proofs.lemmas.Result.{on_ok_weaker}
pub use Rattle.std.specs.List.{filter_map, list_all, list_any, sum_by}
pub use Rattle.std.specs.Map.{keys_of, lookup, set_value, values_of}
pub use Rattle.std.specs.Option.{option_map}
pub use Rattle.std.specs.Str.{bytes_eq}
pub use Rattle.indexmap.specs.IndexMap.{insert_entry}
pub use Rattle.rm_states.specs.container.Table.{next_container_state}
pub use Rattle.rm_states.specs.declared.container.states.ContainerEvent.TheVariants.{Run, Tell}
pub use Rattle.rm_types.proofs.IdLemmas.{container_back, container_itself, same_attempt, same_container}
pub use Rattle.rm_types.proofs.TestLemmas.{same_text}
pub use Rattle.rm_types.specs.Containers.{is_granted, is_held}
pub use Rattle.rm_types.specs.Ids.{is_app, is_attempt, is_container}
pub use Rattle.rm_types.specs.Passes.{total_of}
pub use Rattle.rm_types.specs.Resources.{Fits, difference_of}
pub use Rattle.rm_types.specs.declared.containers.Ask.{Ask}
pub use Rattle.rm_types.specs.declared.containers.AskLine.{AskLine}
pub use Rattle.rm_types.specs.declared.containers.BookRow.{BookRow}
pub use Rattle.rm_types.specs.declared.containers.ContainerState.{ContainerState}
pub use Rattle.rm_types.specs.declared.containers.ContainerState.TheVariants.{Acquired, Completed, Granted, Running}
pub use Rattle.rm_types.specs.declared.containers.Grant.{Grant}
pub use Rattle.rm_types.specs.declared.containers.Held.{Held}
pub use Rattle.rm_types.specs.declared.ids.AttemptId.{AttemptId}
pub use Rattle.rm_types.specs.declared.ids.ContainerId.{ContainerId}
pub use Rattle.rm_types.specs.declared.resources.Resource.{Resource}
