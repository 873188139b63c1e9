-- Rows under their containers' ids, and the containers of those that pass a test, after one row comes, goes or changes.
use Rattle.rm_book.proofs.Common.{◌≡◌, ℕ, Bool, true, false, ◌&&◌, cond, not, List, [], ◌∷◌, ◌++◌, filter, map, find, length, Option, None, Some, refl, sym, ap, subst, ◌∙◌, is_some, append-nil, list_any, bytes_eq, values_of, lookup, set_value, or_parts, or_from, length-map, map-append, filter-append, BookRow, ContainerState, Granted, Acquired, Running, Completed, AttemptId, ContainerId, is_app, is_attempt, is_container, container_back, container_itself, same_container, next_container_state, Tell, Run, is_granted, inl, inr, cases_Bool}
use Rattle.std.proofs.Common.{count_by}
use Rattle.std.specs.Map.{remove_entry}
use Rattle.indexmap.specs.IndexSet.{remove_key}
use Rattle.std.proofs.lemmas.List.Sums.{length-filter}
use Rattle.rm_types.specs.declared.ids.AppId.{AppId}
use Rattle.rm_types.proofs.TestLemmas.{found_passes, is_some-find}
use Rattle.rm_states.specs.declared.container.states.ContainerEvent.{ContainerEvent}
use Rattle.rm_states.specs.declared.container.states.ContainerEvent.TheVariants.{End}
use Rattle.rm_book.specs.Books.{BookRowsAreApart, is_of}
use Rattle.rm_book.specs.Granted.{is_granted_to, is_untold_to_attempt}
use Rattle.rm_book.specs.Kept.{RowsAreIndexed, AreWith, AreWithout, AreSame, by_id, ids_under, ids_where}
use Rattle.rm_book.proofs.Rows.{apart_filter, apart_push}
use Rattle.rm_book.proofs.Splits.{filter_none, map_none}

abbrev Groups : Type 0 → Type 0
Groups K = List (K × List (ContainerId × Unit {0}))

values_back : (rows : List BookRow) → values_of (map by_id rows) ≡ rows
values_back [] = refl
values_back (row ∷ rows) = ap (λ more. row ∷ more) (values_back rows)

-- what is kept of these rows
are_rows : (list : List (ContainerId × BookRow)) (rows : List BookRow) (nodes : Groups (List ℕ)) (apps : Groups AppId) (untold : Groups AttemptId) → list ≡ map by_id rows → BookRowsAreApart rows
    → ((node : List ℕ) → ids_under bytes_eq nodes node ≡ ids_where (λ row. bytes_eq row.node node) rows)
    → ((app : AppId) → ids_under is_app apps app ≡ ids_where (λ row. is_app row.id.attempt.app app) rows)
    → ((attempt : AttemptId) → ids_under is_attempt untold attempt ≡ ids_where (is_granted_to attempt) rows) → RowsAreIndexed list nodes apps untold
are_rows list rows nodes apps untold e apart on of to =
    let v : values_of list ≡ rows = ap values_of e ∙ values_back rows in
    record {
      own = e ∙ ap (map by_id) (sym v);
      apart = subst BookRowsAreApart (sym v) apart;
      by_node = λ node. on node ∙ ap (ids_where (λ row. bytes_eq row.node node)) (sym v);
      by_app = λ app. of app ∙ ap (ids_where (λ row. is_app row.id.attempt.app app)) (sym v);
      by_attempt = λ attempt. to attempt ∙ ap (ids_where (is_granted_to attempt)) (sym v);
    }

module _ (id : ContainerId) where
  abbrev pub without : List BookRow → List BookRow
  without rows = filter (λ row. not (is_of id row)) rows

  found_in : (rows : List BookRow) → lookup (is_container id) (map by_id rows) ≡ find (is_of id) rows
  found_in [] = refl
  found_in (row ∷ rows) = rw (container_back row.id id, found_in rows) refl

  removed_in : (rows : List BookRow) → BookRowsAreApart rows → remove_entry (is_container id) (map by_id rows) ≡ map by_id (without rows)
  removed_in [] apart = refl
  removed_in (row ∷ rows) apart = elim (cases_Bool (is_container id row.id)) [
    | inl e ↦
        let none : list_any (is_of id) rows ≡ false = rw (← same_container id row.id e) at apart.0 in
        rw (container_back row.id id, e, filter_none (is_of id) rows none) refl
    | inr e ↦ rw (container_back row.id id, e) (ap (λ more. by_id row ∷ more) (removed_in rows apart.1))
  ]

  module _ (change : BookRow → BookRow) (keeps : (row : BookRow) → (change row).id ≡ row.id) where
    abbrev changed : List BookRow → List BookRow
    changed rows = map (λ row. cond (is_of id row) (change row) row) rows

    changed_in : (rows : List BookRow) (old : BookRow) → BookRowsAreApart rows → lookup (is_container id) (map by_id rows) ≡ Some old
        → set_value (is_container id) (map by_id rows) (change old) ≡ map by_id (changed rows)
    changed_in [] old apart at = cc
    changed_in (row ∷ rows) old apart at = elim (cases_Bool (is_container id row.id)) [
      | inl e ↦
          let none : list_any (is_of id) rows ≡ false = rw (← same_container id row.id e) at apart.0 in
          let is : row ≡ old = let at' = rw e at at in cc in
          rw (container_back row.id id, e, map_none (is_of id) change rows none, ← is) (ap (λ (one : ContainerId). (one, change row) ∷ map by_id rows) (sym (keeps row)))
      | inr e ↦
          let at' = rw e at at in
          rw (container_back row.id id, e) (ap (λ more. by_id row ∷ more) (changed_in rows old apart.1 at'))
    ]

    any_changed : (other : ContainerId) (rows : List BookRow) → list_any (is_of other) (changed rows) ≡ list_any (is_of other) rows
    any_changed other [] = refl
    any_changed other (row ∷ rows) = by (is_of id row) (any_changed other rows)
      where
        by : (b : Bool) → list_any (is_of other) (changed rows) ≡ list_any (is_of other) rows
            → list_any (is_of other) (cond b (change row) row ∷ changed rows) ≡ list_any (is_of other) (row ∷ rows)
        by true rest = rw (keeps row, rest) refl
        by false rest = rw rest refl

    id_changed : (row : BookRow) (b : Bool) → (cond b (change row) row).id ≡ row.id
    id_changed row true = keeps row
    id_changed row false = refl

    pub apart_changed : (rows : List BookRow) → BookRowsAreApart rows → BookRowsAreApart (changed rows)
    apart_changed [] apart = tt
    apart_changed (row ∷ rows) apart = (rw (id_changed row (is_of id row), any_changed row.id rows) apart.0, apart_changed rows apart.1)

    ids_changed : (p : BookRow → Bool) → ((row : BookRow) → p (change row) ≡ p row) → (rows : List BookRow) → ids_where p (changed rows) ≡ ids_where p rows
    ids_changed p same [] = refl
    ids_changed p same (row ∷ rows) = by (is_of id row) (p row) refl (ids_changed p same rows)
      where
        by : (b t : Bool) → p row ≡ t → ids_where p (changed rows) ≡ ids_where p rows → ids_where p (cond b (change row) row ∷ changed rows) ≡ ids_where p (row ∷ rows)
        by true true e rest = rw (same row, e, keeps row) (ap (λ more. row.id ∷ more) rest)
        by true false e rest = rw (same row, e) rest
        by false true e rest = rw e (ap (λ more. row.id ∷ more) rest)
        by false false e rest = rw e rest

    -- a row that no more passes is left out, as one that is gone
    ids_failed : (p : BookRow → Bool) → ((row : BookRow) → p (change row) ≡ false) → (rows : List BookRow) → ids_where p (changed rows) ≡ ids_where p (without rows)
    ids_failed p fails [] = refl
    ids_failed p fails (row ∷ rows) = by (is_of id row) refl (ids_failed p fails rows)
      where
        on : (t : Bool) → p row ≡ t → ids_where p (changed rows) ≡ ids_where p (without rows) → ids_where p (row ∷ changed rows) ≡ ids_where p (row ∷ without rows)
        on true f rest = rw f (ap (λ more. row.id ∷ more) rest)
        on false f rest = rw f rest

        by : (b : Bool) → is_of id row ≡ b → ids_where p (changed rows) ≡ ids_where p (without rows) → ids_where p (changed (row ∷ rows)) ≡ ids_where p (without (row ∷ rows))
        by true e rest = rw (e, fails row) rest
        by false e rest = rw e (on (p row) refl rest)

  -- no container of these rows where none is of it
  none_where : (p : BookRow → Bool) (rows : List BookRow) → list_any (is_of id) rows ≡ false → list_any (is_container id) (ids_where p rows) ≡ false
  none_where p [] none = refl
  none_where p (row ∷ rows) none =
      let parts = or_parts (is_of id row) (list_any (is_of id) rows) none in
      by (p row) refl (container_back id row.id ∙ parts.0) (none_where p rows parts.1)
    where
      by : (b : Bool) → p row ≡ b → is_container id row.id ≡ false → list_any (is_container id) (ids_where p rows) ≡ false
          → list_any (is_container id) (ids_where p (row ∷ rows)) ≡ false
      by true e first rest = rw e (or_from (is_container id row.id) _ first rest)
      by false e first rest = rw e rest

  not_there : (ids : List ContainerId) → list_any (is_container id) ids ≡ false → remove_key (is_container id) ids ≡ ids
  not_there [] none = refl
  not_there (one ∷ ids) none =
      let parts = or_parts (is_container id one) (list_any (is_container id) ids) none in
      rw parts.0 (ap (λ more. one ∷ more) (not_there ids parts.1))

  -- a container that was added goes again
  undone : (ids : List ContainerId) → list_any (is_container id) ids ≡ false → remove_key (is_container id) (ids ++ id ∷ []) ≡ ids
  undone [] none = rw (container_itself id) refl
  undone (one ∷ ids) none =
      let parts = or_parts (is_container id one) (list_any (is_container id) ids) none in
      rw parts.0 (ap (λ more. one ∷ more) (undone ids parts.1))

  -- the containers of rows without one
  ids_without : (p : BookRow → Bool) (rows : List BookRow) (gone : BookRow) → BookRowsAreApart rows → find (is_of id) rows ≡ Some gone
      → ids_where p (without rows) ≡ cond (p gone) (remove_key (is_container id) (ids_where p rows)) (ids_where p rows)
  ids_without p [] gone apart at = cc
  ids_without p (row ∷ rows) gone apart at = by (is_of id row) (p row) refl refl (ids_without p rows gone apart.1)
    where
      here : is_of id row ≡ true → without rows ≡ rows
      here e = filter_none (is_of id) rows (rw (same_container row.id id e) at apart.0)

      past : (b : Bool) → row.id ∷ cond b (remove_key (is_container id) (ids_where p rows)) (ids_where p rows)
          ≡ cond b (row.id ∷ remove_key (is_container id) (ids_where p rows)) (row.id ∷ ids_where p rows)
      past true = refl
      past false = refl

      by : (b t : Bool) → is_of id row ≡ b → p row ≡ t → (find (is_of id) rows ≡ Some gone → ids_where p (without rows) ≡ cond (p gone) (remove_key (is_container id) (ids_where p rows)) (ids_where p rows))
          → ids_where p (without (row ∷ rows)) ≡ cond (p gone) (remove_key (is_container id) (ids_where p (row ∷ rows))) (ids_where p (row ∷ rows))
      by true true e f rest =
          let is : row ≡ gone = let at' = rw e at at in cc in
          let back : is_container id row.id ≡ true = container_back id row.id ∙ e in
          rw (e, here e, ← is, f, back) refl
      by true false e f rest =
          let is : row ≡ gone = let at' = rw e at at in cc in
          rw (e, here e, ← is, f) refl
      by false true e f rest =
          let at' = rw e at at in
          let back : is_container id row.id ≡ false = container_back id row.id ∙ e in
          rw (e, f, back) (ap (λ more. row.id ∷ more) (rest at') ∙ past (p gone))
      by false false e f rest =
          let at' = rw e at at in
          rw (e, f) (rest at')

ids_push : (p : BookRow → Bool) (rows : List BookRow) (row : BookRow) → ids_where p (rows ++ row ∷ []) ≡ cond (p row) (ids_where p rows ++ row.id ∷ []) (ids_where p rows)
ids_push p rows row = ap (map (λ (row : BookRow). row.id)) (filter-append p rows (row ∷ [])) ∙ map-append _ (filter p rows) (filter p (row ∷ [])) ∙ by (p row) refl
  where
    by : (b : Bool) → p row ≡ b → ids_where p rows ++ ids_where p (row ∷ []) ≡ cond (p row) (ids_where p rows ++ row.id ∷ []) (ids_where p rows)
    by true e = rw e refl
    by false e = rw e (append-nil (ids_where p rows))

-- how many rows pass
pub count_where : (p : BookRow → Bool) (rows : List BookRow) → length (ids_where p rows) ≡ count_by p rows
count_where p rows = length-map (filter p rows) (λ row. row.id) ∙ length-filter p rows

-- no event leads to Granted, and each leads out of it
granted_no_more : (state : ContainerState) (event : ContainerEvent) → is_granted (next_container_state state event) ≡ false
granted_no_more Granted Tell = refl
granted_no_more Granted Run = refl
granted_no_more Granted End = refl
granted_no_more Acquired Tell = refl
granted_no_more Acquired Run = refl
granted_no_more Acquired End = refl
granted_no_more Running Tell = refl
granted_no_more Running Run = refl
granted_no_more Running End = refl
granted_no_more Completed Tell = refl
granted_no_more Completed Run = refl
granted_no_more Completed End = refl

and_false : (a b : Bool) → b ≡ false → (a && b) ≡ false
and_false true b e = e
and_false false b e = refl

-- rows as they are kept
module _ {list : List (ContainerId × BookRow)} {nodes : Groups (List ℕ)} {apps : Groups AppId} {untold : Groups AttemptId} (kept : RowsAreIndexed list nodes apps untold) where
  abbrev rows : List BookRow
  rows = values_of list

  pub found_kept : (id : ContainerId) → lookup (is_container id) list ≡ find (is_of id) rows
  found_kept id = ap (lookup (is_container id)) kept.own ∙ found_in id rows

  pub has_kept : (id : ContainerId) → is_some (lookup (is_container id) list) ≡ list_any (is_of id) rows
  has_kept id = ap is_some (found_kept id) ∙ is_some-find (is_of id) rows

  pub removed_view : (id : ContainerId) → values_of (remove_entry (is_container id) list) ≡ without id rows
  removed_view id = ap values_of (ap (remove_entry (is_container id)) kept.own ∙ removed_in id rows kept.apart) ∙ values_back (without id rows)

  pub none_kept : (id : ContainerId) → list_any (is_of id) rows ≡ false → lookup (is_container id) list ≡ None
  none_kept id none = none_from (lookup (is_container id) list) (has_kept id ∙ none)
    where
      none_from : {X : Type 0} (o : Option X) → is_some o ≡ false → o ≡ None
      none_from None e = refl
      none_from (Some x) e = cc

  pub new_on : (id : ContainerId) (node : List ℕ) → list_any (is_of id) rows ≡ false → list_any (is_container id) (ids_under bytes_eq nodes node) ≡ false
  new_on id node none = ap (list_any (is_container id)) (kept.by_node node) ∙ none_where id (λ row. bytes_eq row.node node) rows none

  pub new_of : (id : ContainerId) (app : AppId) → list_any (is_of id) rows ≡ false → list_any (is_container id) (ids_under is_app apps app) ≡ false
  new_of id app none = ap (list_any (is_container id)) (kept.by_app app) ∙ none_where id (λ row. is_app row.id.attempt.app app) rows none

  pub new_to : (id : ContainerId) (attempt : AttemptId) → list_any (is_of id) rows ≡ false → list_any (is_container id) (ids_under is_attempt untold attempt) ≡ false
  new_to id attempt none = ap (list_any (is_container id)) (kept.by_attempt attempt) ∙ none_where id (is_granted_to attempt) rows none

  -- those of an attempt that nobody was told of, where a container was taken away from among them
  to_left : (id : ContainerId) (gone : BookRow) → find (is_of id) rows ≡ Some gone → (attempt : AttemptId) {ids : List ContainerId}
      → ids ≡ cond (is_untold_to_attempt id gone.state attempt) (remove_key (is_container id) (ids_under is_attempt untold attempt)) (ids_under is_attempt untold attempt)
      → ids ≡ cond (is_granted_to attempt gone) (remove_key (is_container id) (ids_where (is_granted_to attempt) rows)) (ids_where (is_granted_to attempt) rows)
  to_left id gone there attempt to =
      let own : gone.id ≡ id = same_container gone.id id (found_passes (is_of id) rows gone there) in
      to ∙ ap (λ ids. cond (is_untold_to_attempt id gone.state attempt) (remove_key (is_container id) ids) ids) (kept.by_attempt attempt)
      ∙ ap (λ one. cond (is_untold_to_attempt one gone.state attempt) (remove_key (is_container id) (ids_where (is_granted_to attempt) rows)) (ids_where (is_granted_to attempt) rows)) (sym own)

  module _ {nodes' : Groups (List ℕ)} {apps' : Groups AppId} {untold' : Groups AttemptId} where
    pub same_kept : AreSame bytes_eq nodes nodes' → AreSame is_app apps apps' → AreSame is_attempt untold untold' → RowsAreIndexed list nodes' apps' untold'
    same_kept on of to = record {
      own = kept.own;
      apart = kept.apart;
      by_node = λ node. on node ∙ kept.by_node node;
      by_app = λ app. of app ∙ kept.by_app app;
      by_attempt = λ attempt. to attempt ∙ kept.by_attempt attempt;
    }

    pub added_kept : (row : BookRow) (list' : List (ContainerId × BookRow)) → list_any (is_of row.id) rows ≡ false → list' ≡ list ++ (row.id, row) ∷ []
        → AreWith bytes_eq (bytes_eq row.node) row.id nodes nodes' → AreWith is_app (is_app row.id.attempt.app) row.id apps apps'
        → AreWith is_attempt (is_untold_to_attempt row.id row.state) row.id untold untold' → RowsAreIndexed list' nodes' apps' untold'
    added_kept row list' none is on of to =
        are_rows list' (rows ++ row ∷ []) nodes' apps' untold'
        (is ∙ ap (λ l. l ++ (row.id, row) ∷ []) kept.own ∙ sym (map-append by_id rows (row ∷ [])))
        (apart_push rows row kept.apart none)
        (λ node. on node ∙ ap (λ ids. cond (bytes_eq row.node node) (ids ++ row.id ∷ []) ids) (kept.by_node node) ∙ sym (ids_push (λ row. bytes_eq row.node node) rows row))
        (λ app. of app ∙ ap (λ ids. cond (is_app row.id.attempt.app app) (ids ++ row.id ∷ []) ids) (kept.by_app app)
        ∙ sym (ids_push (λ row. is_app row.id.attempt.app app) rows row))
        (λ attempt. to attempt ∙ ap (λ ids. cond (is_untold_to_attempt row.id row.state attempt) (ids ++ row.id ∷ []) ids) (kept.by_attempt attempt)
        ∙ sym (ids_push (is_granted_to attempt) rows row))

    pub removed_kept : (id : ContainerId) (gone : BookRow) (list' : List (ContainerId × BookRow)) → Some gone ≡ lookup (is_container id) list → list' ≡ remove_entry (is_container id) list
        → AreWithout bytes_eq (bytes_eq gone.node) id nodes nodes' → AreWithout is_app (is_app id.attempt.app) id apps apps'
        → AreWithout is_attempt (is_untold_to_attempt id gone.state) id untold untold' → RowsAreIndexed list' nodes' apps' untold'
    removed_kept id gone list' at is on of to =
        let there : find (is_of id) rows ≡ Some gone = sym (found_kept id) ∙ sym at in
        let own : gone.id ≡ id = same_container gone.id id (found_passes (is_of id) rows gone there) in
        are_rows list' (without id rows) nodes' apps' untold'
        (is ∙ ap (remove_entry (is_container id)) kept.own ∙ removed_in id rows kept.apart)
        (apart_filter (λ row. not (is_of id row)) rows kept.apart)
        (λ node. on node ∙ ap (λ ids. cond (bytes_eq gone.node node) (remove_key (is_container id) ids) ids) (kept.by_node node)
        ∙ sym (ids_without id (λ row. bytes_eq row.node node) rows gone kept.apart there))
        (λ app. of app ∙ ap (λ ids. cond (is_app id.attempt.app app) (remove_key (is_container id) ids) ids) (kept.by_app app)
        ∙ ap (λ one. cond (is_app one.attempt.app app) (remove_key (is_container id) (ids_where (λ row. is_app row.id.attempt.app app) rows)) (ids_where (λ row. is_app row.id.attempt.app app) rows)) (sym own)
        ∙ sym (ids_without id (λ row. is_app row.id.attempt.app app) rows gone kept.apart there))
        (λ attempt. to_left id gone there attempt (to attempt) ∙ sym (ids_without id (is_granted_to attempt) rows gone kept.apart there))

  module _ (id : ContainerId) (event : ContainerEvent) where
    abbrev stepped : BookRow → BookRow
    stepped row = record row { state = next_container_state row.state event }

    abbrev pub rows_stepped : List BookRow
    rows_stepped = changed id stepped (λ row. refl) rows

    -- an event comes to a container that has this row
    step_of : (old : BookRow) {list' : List (ContainerId × BookRow)} {untold' : Groups AttemptId} → lookup (is_container id) list ≡ Some old
        → list' ≡ set_value (is_container id) list (stepped old) → AreWithout is_attempt (is_untold_to_attempt id old.state) id untold untold'
        → RowsAreIndexed list' nodes apps untold' × (values_of list' ≡ rows_stepped)
    step_of old {list'} {untold'} at is to =
        let there : find (is_of id) rows ≡ Some old = sym (found_kept id) ∙ at in
        let e : list' ≡ map by_id rows_stepped =
        is ∙ ap (λ l. set_value (is_container id) l (stepped old)) kept.own
        ∙ changed_in id stepped (λ row. refl) rows old kept.apart (sym (ap (lookup (is_container id)) kept.own) ∙ at) in (
          are_rows list' rows_stepped nodes apps untold' e (apart_changed id stepped (λ row. refl) rows kept.apart)
              (λ node. kept.by_node node ∙ sym (ids_changed id stepped (λ row. refl) (λ row. bytes_eq row.node node) (λ row. refl) rows))
              (λ app. kept.by_app app ∙ sym (ids_changed id stepped (λ row. refl) (λ row. is_app row.id.attempt.app app) (λ row. refl) rows))
              (λ attempt. to_left id old there attempt (to attempt)
              ∙ sym (ids_failed id stepped (λ row. refl) (is_granted_to attempt)
              (λ row. and_false (is_attempt row.id.attempt attempt) (is_granted (next_container_state row.state event)) (granted_no_more row.state event)) rows
              ∙ ids_without id (is_granted_to attempt) rows old kept.apart there)),
          ap values_of e ∙ values_back rows_stepped,
        )

    -- and to one that has some row
    pub stepped_kept : {list' : List (ContainerId × BookRow)} {untold' : Groups AttemptId} {former : ContainerState} → true ≡ is_some (lookup (is_container id) list)
        → ((old : BookRow) → lookup (is_container id) list ≡ Some old → (former ≡ old.state) × (list' ≡ set_value (is_container id) list (stepped old)))
        → AreWithout is_attempt (is_untold_to_attempt id former) id untold untold' → RowsAreIndexed list' nodes apps untold' × (values_of list' ≡ rows_stepped)
    stepped_kept {list'} {untold'} {former} some wrote to = by (lookup (is_container id) list) refl
      where
        by : (o : Option BookRow) → lookup (is_container id) list ≡ o → RowsAreIndexed list' nodes apps untold' × (values_of list' ≡ rows_stepped)
        by (Some old) at = step_of old at (wrote old at).1 (subst (λ state. AreWithout is_attempt (is_untold_to_attempt id state) id untold untold') (wrote old at).0 to)
        by None at = let some' : true ≡ false = some ∙ ap is_some at in cc

    -- where it has none, nothing changes
    pub unstepped_view : false ≡ is_some (lookup (is_container id) list) → rows_stepped ≡ rows
    unstepped_view none = map_none (is_of id) stepped rows (sym (none ∙ has_kept id))

-- nothing of a container stands under a key that equals one under which nothing stands
pub none_under : {K : Type 0} (eq : K → K → Bool) → ((a b : K) → eq a b ≡ true → a ≡ b) → (key : K) (id : ContainerId) (groups : Groups K)
    → list_any (is_container id) (ids_under eq groups key) ≡ false → (other : K) → eq key other ≡ true → list_any (is_container id) (ids_under eq groups other) ≡ false
none_under {K} eq same key id groups none other e = subst (λ (k : K). list_any (is_container id) (ids_under eq groups k) ≡ false) (same key other e) none

-- a container that was added under some keys, and taken away again
pub added_undone : {K : Type 0} (eq : K → K → Bool) (test : K → Bool) (id : ContainerId) (old mid new : Groups K)
    → ((key : K) → test key ≡ true → list_any (is_container id) (ids_under eq old key) ≡ false) → AreWith eq test id old mid → AreWithout eq test id mid new → AreSame eq old new
added_undone {K} eq test id old mid new none on off key = elim (cases_Bool (test key)) [
  | inl e ↦
      let added : ids_under eq mid key ≡ ids_under eq old key ++ id ∷ [] = on key ∙ rw e refl in
      off key ∙ rw (e, added) (undone id (ids_under eq old key) (none key e))
  | inr e ↦ off key ∙ rw e (on key ∙ rw e refl)
]

-- no row yet
pub none_kept_yet : {list : List (ContainerId × BookRow)} {nodes : Groups (List ℕ)} {apps : Groups AppId} {untold : Groups AttemptId} → list ≡ []
    → ((node : List ℕ) → ids_under bytes_eq nodes node ≡ []) → ((app : AppId) → ids_under is_app apps app ≡ []) → ((attempt : AttemptId) → ids_under is_attempt untold attempt ≡ [])
    → RowsAreIndexed list nodes apps untold
none_kept_yet {list} {nodes} {apps} {untold} e on of to = are_rows list [] nodes apps untold e tt on of to

-- where a container has no row, none is taken away
pub removed_none : {list : List (ContainerId × BookRow)} {nodes : Groups (List ℕ)} {apps : Groups AppId} {untold : Groups AttemptId} → RowsAreIndexed list nodes apps untold
    → (id : ContainerId) {list' : List (ContainerId × BookRow)} → lookup (is_container id) list ≡ None → list' ≡ remove_entry (is_container id) list → RowsAreIndexed list' nodes apps untold
removed_none {list} {nodes} {apps} {untold} kept id none is = subst (λ l. RowsAreIndexed l nodes apps untold) (sym (is ∙ nothing list none)) kept
  where
    nothing : (es : List (ContainerId × BookRow)) → lookup (is_container id) es ≡ None → remove_entry (is_container id) es ≡ es
    nothing [] none = refl
    nothing (e ∷ es) none = by (is_container id e.0) refl (nothing es)
      where
        by : (b : Bool) → is_container id e.0 ≡ b → (lookup (is_container id) es ≡ None → remove_entry (is_container id) es ≡ es) → remove_entry (is_container id) (e ∷ es) ≡ e ∷ es
        by true p rest = let none' = rw p at none in cc
        by false p rest = let none' = rw p at none in rw p (ap (λ more. e ∷ more) (rest none'))
