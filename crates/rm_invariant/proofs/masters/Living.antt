-- An attempt is live for the judge exactly where it is the current one of its application and lives.
use Rattle.rm_invariant.proofs.Common.{◌≡◌, ◌⊎◌, inl, inr, ℕ, ◌||◌, List, [], ◌∷◌, Bool, true, false, Option, None, Some, find, refl, sym, ◌∙◌, subst, arith, list_all, list_any, nat_tests, AttemptId, How, Op, AppRecord, AttemptRecord, Settings, is_attempt, all_ended, record_of, and_false, and_first, is_live, kept_attempt, attempts_in, end_in, is_attempt_end_op, is_attempt_op, AppState, AttemptState, is_alive, AppRow, Current, Tables, row_of, lives_by, History, abstract_scene}
use Rattle.std.proofs.Common.{◌==◌, is_some, option_map}
use Rattle.rm_types.specs.declared.operations.How.TheVariants as ways
use Rattle.rm_states.specs.declared.app.states.AppState.TheVariants as apps
use Rattle.rm_states.specs.declared.attempt.states.AttemptState.TheVariants as attempts
use Rattle.rm_refinement.specs.Services.{lives_with}
use Rattle.rm_invariant.specs.apps.Invariant.{EndIssuedInvariant, ActiveInvariant, AttemptCounts, CurrentInvariant, LastIsOpen, AllHaveEnded, RowInvariant, StateInvariant, has_ended_or_is, ops_of}
use Rattle.rm_invariant.specs.Step.{AppsInvariant}
use Rattle.rm_invariant.specs.apps.View.{View, is_attempt_end_op_of, is_attempt_op_of, is_own_op, view}
use Rattle.rm_invariant.proofs.apps.Counts.{none_under, some_passes}
use Rattle.rm_invariant.specs.masters.Sound.{RecordsAreSound}
use Rattle.rm_invariant.proofs.masters.Tests.{and_right}
use Rattle.rm_invariant.proofs.masters.Ends.{last_in, Alive, alive_by}
use Rattle.rm_invariant.proofs.masters.Granted.{under_app}
use Rattle.rm_invariant.proofs.masters.Launched.{under_end}

-- an attempt that isn't found, or is found with an end
abbrev pub IsPast : Option AttemptRecord → Type 0
IsPast None = Unit {0}
IsPast (Some one) = is_some one.ending ≡ true

-- where all have ended it is such a one
past_more : (q : AttemptId) (one : AttemptRecord) (more : List AttemptRecord) (b c : Bool) → is_attempt one.id q ≡ b → is_some one.ending ≡ c → all_ended (one ∷ more) ≡ true
    → (all_ended more ≡ true → IsPast (find (λ x. is_attempt x.id q) more)) → IsPast (find (λ x. is_attempt x.id q) (one ∷ more))
past_more q one more b false e f all rest = absurd (let x = rw f at all in cc)
past_more q one more true true e f all rest = rw e f
past_more q one more false true e f all rest = rw e (rest (let x = rw f at all in x))

past_all : (q : AttemptId) (attempts : List AttemptRecord) → all_ended attempts ≡ true → IsPast (find (λ x. is_attempt x.id q) attempts)
past_all q [] all = tt
past_all q (one ∷ more) all = past_more q one more (is_attempt one.id q) (is_some one.ending) refl refl all (past_all q more)

-- and where all but another one have
past_but_more : (id q : AttemptId) (one : AttemptRecord) (more : List AttemptRecord) → is_attempt q id ≡ false → (b c : Bool) → is_attempt one.id q ≡ b → is_some one.ending ≡ c → list_all (has_ended_or_is id) (one ∷ more) ≡ true
    → (list_all (has_ended_or_is id) more ≡ true → IsPast (find (λ x. is_attempt x.id q) more)) → IsPast (find (λ x. is_attempt x.id q) (one ∷ more))
past_but_more id q one more other true true e f all rest = rw e f
past_but_more id q one more other true false e f all rest =
    let apart : is_attempt one.id id ≡ false = grind (arith, nat_tests) in
    absurd (let x = rw (f, apart) at all in cc)
past_but_more id q one more other false c e f all rest = rw e (rest (and_right (is_some one.ending || is_attempt one.id id) (list_all (has_ended_or_is id) more) all))

past_but : (id q : AttemptId) (attempts : List AttemptRecord) → is_attempt q id ≡ false → list_all (has_ended_or_is id) attempts ≡ true → IsPast (find (λ x. is_attempt x.id q) attempts)
past_but id q [] other all = tt
past_but id q (one ∷ more) other all = past_but_more id q one more other (is_attempt one.id q) (is_some one.ending) refl refl all (past_but id q more other)

module _ (h : History) (t : Tables) (q : AttemptId) where
  -- such an attempt isn't live
  past_dead : IsPast (kept_attempt (abstract_scene h t) q) → is_live (abstract_scene h t) q ≡ false
  past_dead past = by (kept_attempt (abstract_scene h t) q) refl past
    where
      or_true : (b : Bool) → (b || true) ≡ true
      or_true true = refl
      or_true false = refl

      by : (o : Option AttemptRecord) → kept_attempt (abstract_scene h t) q ≡ o → IsPast o → is_live (abstract_scene h t) q ≡ false
      by None e p = rw e refl
      by (Some one) e p = rw (e, p, or_true (list_any (is_attempt_end_op q) t.awaiting)) refl

  -- nor is one whose end awaits
  ending_dead : list_any (is_attempt_end_op q) t.awaiting ≡ true → is_live (abstract_scene h t) q ≡ false
  ending_dead e = rw e (and_false (is_some (kept_attempt (abstract_scene h t) q)))

-- an operation of the attempt that is no Attempt is its AttemptEnd
end_awaits_more : (q : AttemptId) (op : Op) (ops_ : List Op) → list_any (is_own_op q) (op ∷ ops_) ≡ true → list_any (is_attempt_op q) (op ∷ ops_) ≡ false
    → (list_any (is_own_op q) ops_ ≡ true → list_any (is_attempt_op q) ops_ ≡ false → list_any (is_attempt_end_op q) ops_ ≡ true) → list_any (is_attempt_end_op q) (op ∷ ops_) ≡ true
end_awaits_more q op ops_ some none rest = by (is_attempt_op q op) (is_attempt_end_op q op) refl refl
  where
    by : (a b : Bool) → is_attempt_op q op ≡ a → is_attempt_end_op q op ≡ b → list_any (is_attempt_end_op q) (op ∷ ops_) ≡ true
    by true b e f = absurd (let x = rw e at none in cc)
    by false true e f = rw f refl
    by false false e f = rw f (rest (let x = rw (e, f) at some in x) (let x = rw e at none in x))

end_awaits_here : (q : AttemptId) (ops_ : List Op) → list_any (is_own_op q) ops_ ≡ true → list_any (is_attempt_op q) ops_ ≡ false → list_any (is_attempt_end_op q) ops_ ≡ true
end_awaits_here q [] some none = cc
end_awaits_here q (op ∷ ops_) some none = end_awaits_more q op ops_ some none (end_awaits_here q ops_)

-- how an application ended
abbrev pub end_how : Option AppRecord → Option How
end_how found = option_map (λ e. e.0) (end_in found)

pub some_ending : (end : Option (How × List ℕ)) (how : How) → option_map (λ e. e.0) end ≡ Some how → is_some end ≡ true
some_ending None how e = cc
some_ending (Some x) how e = refl

module _ (settings : Settings) (h : History) (t : Tables) (k : AppsInvariant settings h t) (each : RecordsAreSound t.tree.apps) (q : AttemptId) where
  -- what is seen of the attempt
  abbrev here : View
  here = view h t q

  stopped_dead : AllHaveEnded (record_of t.tree.apps q.app) → is_live (abstract_scene h t) q ≡ false
  stopped_dead stopped = past_dead h t q (past_all q (attempts_in (record_of t.tree.apps q.app)) stopped.2)

  -- of a current attempt that has another number
  other_dead : (row : AppRow) (current : Current) (s : AttemptState) → (current.number == q.number) ≡ false → CurrentInvariant settings s (record { app = q.app; number = current.number }) row.wish here → is_live (abstract_scene h t) q ≡ false
  other_dead row current s n says = by s says
    where
      goes : LastIsOpen (record_of t.tree.apps q.app) (record { app = q.app; number = current.number }) → is_live (abstract_scene h t) q ≡ false
      goes g =
          let apart : is_attempt q (record { app = q.app; number = current.number }) ≡ false = grind (arith, nat_tests) in
          past_dead h t q (past_but (record { app = q.app; number = current.number }) q (attempts_in (record_of t.tree.apps q.app)) apart g.4)

      by : (s : AttemptState) → CurrentInvariant settings s (record { app = q.app; number = current.number }) row.wish here → is_live (abstract_scene h t) q ≡ false
      by attempts.Live says = goes says.0
      by attempts.Registered says = goes says.0
      by attempts.Finishing says = goes says.0
      by attempts.Ending says = goes says.0
      by attempts.Dropped says = absurd says
      by _ says = stopped_dead says.0

  -- of the current one
  own_live : (row : AppRow) (current : Current) (s : AttemptState) → (current.number == q.number) ≡ true → CurrentInvariant settings s (record { app = q.app; number = current.number }) row.wish here → AttemptCounts q.number true s row.wish here
      → is_live (abstract_scene h t) q ≡ is_alive s
  own_live row current s n says own = by s says own
    where
      number : current.number ≡ q.number
      number = grind (arith, nat_tests)

      lives : LastIsOpen (record_of t.tree.apps q.app) (record { app = q.app; number = current.number }) → ops_of here.count ≡ 0 → is_live (abstract_scene h t) q ≡ true
      lives g none =
          let goes : LastIsOpen (record_of t.tree.apps q.app) q = subst (λ (n : ℕ). LastIsOpen (record_of t.tree.apps q.app) (record { app = q.app; number = n })) number g in
          let kept = last_in q (attempts_in (record_of t.tree.apps q.app)) goes.2 in
          let unended = goes.5 in
          let ended : list_any (is_attempt_end_op q) t.awaiting ≡ false = none_under (is_attempt_end_op_of q.app) (is_attempt_end_op q) (under_end q) t.awaiting (omega (arith, none)) in
          rw (kept, ended, unended) refl

      by : (s : AttemptState) → CurrentInvariant settings s (record { app = q.app; number = current.number }) row.wish here → AttemptCounts q.number true s row.wish here → is_live (abstract_scene h t) q ≡ is_alive s
      by attempts.Live says own = lives says.0 says.1
      by attempts.Registered says own = lives says.0 says.1
      by attempts.Finishing says own = lives says.0 says.1
      by attempts.Ending says own =
          let ends = says.1 in
          let one = says.2 in
          let mine = own.1 in
          let some : list_any (is_own_op q) t.awaiting ≡ true = some_passes (is_own_op q) t.awaiting (omega (arith, mine)) in
          let none : list_any (is_attempt_op q) t.awaiting ≡ false = none_under (is_attempt_op_of q.app) (is_attempt_op q) (under_app q) t.awaiting (omega (arith, ends, one)) in
          ending_dead h t q (end_awaits_here q t.awaiting some none)
      by attempts.Dropped says own = absurd says
      by _ says own = stopped_dead says.0

  active_live : (row : AppRow) (c : Option Current) → ActiveInvariant settings q c row.wish here → is_live (abstract_scene h t) q ≡ lives_with q c
  active_live row None says = absurd says
  active_live row (Some current) says = by (current.number == q.number) refl says.1
    where
      by : (b : Bool) → (current.number == q.number) ≡ b → AttemptCounts q.number b current.state row.wish here → is_live (abstract_scene h t) q ≡ lives_with q (Some current)
      by true n own = rw n (own_live row current current.state n says.0 own)
      by false n own = rw n (other_dead row current current.state n says.0)

  -- an application that isn't active has no attempt that lives
  idle_with : (c : Option Current) → EndIssuedInvariant c here → false ≡ lives_with q c
  idle_with None says = refl
  idle_with (Some current) says = by says.0
    where
      by : (current.state ≡ attempts.Ended) ⊎ (current.state ≡ attempts.Dropped) → false ≡ lives_with q (Some current)
      by (inl e) = rw e (sym (and_false (current.number == q.number)))
      by (inr e) = rw e (sym (and_false (current.number == q.number)))

  unkept_dead : record_of t.tree.apps q.app ≡ None → is_live (abstract_scene h t) q ≡ false
  unkept_dead none = past_dead h t q (rw none tt)

  alone_dead : (c : Option Current) → c ≡ None → is_live (abstract_scene h t) q ≡ false → is_live (abstract_scene h t) q ≡ lives_with q c
  alone_dead c is dead = rw is dead

  over_dead : (found : Option AppRecord) → record_of t.tree.apps q.app ≡ found → (how : How) → end_how found ≡ Some how → is_live (abstract_scene h t) q ≡ false
  over_dead None f how e = cc
  over_dead (Some one) f how e =
      let sound = each q.app one f in
      let ended : is_some one.ending ≡ true = some_ending one.ending how e in
      let all = sound.over ended in
      past_dead h t q (rw f (past_all q one.attempts all))

  state_live : (row : AppRow) (s : AppState) → StateInvariant settings q s row here → is_live (abstract_scene h t) q ≡ lives_with q row.current
  state_live row apps.New says = alone_dead row.current says.0.no_attempt (unkept_dead says.0.no_record)
  state_live row apps.NewSaving says = alone_dead row.current says.0.no_attempt (unkept_dead says.0.no_record)
  state_live row apps.Submitted says = alone_dead row.current says.3 (stopped_dead says.0)
  state_live row apps.Accepted says = active_live row row.current says.3
  state_live row apps.Running says = active_live row row.current says.3
  state_live row apps.Killing says = active_live row row.current says.5
  state_live row apps.FinalSaving says = stopped_dead says.0 ∙ idle_with row.current says.6
  state_live row apps.Finished says = over_dead (record_of t.tree.apps q.app) refl ways.Finished says.0 ∙ idle_with row.current says.5
  state_live row apps.Failed says = over_dead (record_of t.tree.apps q.app) refl ways.Failed says.0 ∙ idle_with row.current says.5
  state_live row apps.Killed says = over_dead (record_of t.tree.apps q.app) refl ways.Killed says.0 ∙ idle_with row.current says.5

  -- for every row
  pub live_is : is_live (abstract_scene h t) q ≡ lives_by q (row_of t.rows q.app)
  live_is = by (row_of t.rows q.app) (k.all q)
    where
      by : (row : Option AppRow) → RowInvariant settings q row here → is_live (abstract_scene h t) q ≡ lives_by q row
      by None good = unkept_dead good.no_record
      by (Some row) good = state_live row row.state good.1

-- an attempt that lives, as the tables have it
pub record LivesHere (t : Tables) (q : AttemptId) : Type 0 where
  pub row : AppRow
  pub found : row_of t.rows q.app ≡ Some row
  pub current : Current
  pub is : row.current ≡ Some current
  pub number : (current.number == q.number) ≡ true
  pub alive : Alive current.state

lives_found : (t : Tables) (q : AttemptId) (o : Option AppRow) → row_of t.rows q.app ≡ o → lives_by q o ≡ true → LivesHere t q
lives_found t q None f e = cc
lives_found t q (Some row) f e = by row.current refl e
  where
    by : (c : Option Current) → row.current ≡ c → lives_with q c ≡ true → LivesHere t q
    by None is e = cc
    by (Some current) is e =
        record { row = row; found = f; current = current; is = is; number = and_first (current.number == q.number) (is_alive current.state) e; alive = alive_by current.state (and_right (current.number == q.number) (is_alive current.state) e) }

-- where an attempt is live, its application has a row, and it is the current one there
pub live_here : (settings : Settings) (h : History) (t : Tables) (k : AppsInvariant settings h t) (each : RecordsAreSound t.tree.apps) (q : AttemptId) → is_live (abstract_scene h t) q ≡ true → LivesHere t q
live_here settings h t k each q e = lives_found t q (row_of t.rows q.app) refl (sym (live_is settings h t k each q) ∙ e)
