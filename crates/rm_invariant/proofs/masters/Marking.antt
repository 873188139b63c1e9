-- What the events of masters do to what holds of a container.
use Rattle.rm_invariant.proofs.Common.{◌≡◌, ◌≤◌, ◌⊎◌, inl, inr, ℕ, ◌+◌, suc, Bool, true, false, Option, None, Some, length, refl, arith, nat_tests, ContainerId, How, AppRecord, attempts_in, AttemptState, AppRow, Current, changed, is_master_of}
use Rattle.std.proofs.Common.{◌==◌}
use Rattle.rm_states.specs.declared.attempt.states.AttemptState.TheVariants as attempts
use Rattle.rm_tables.specs.declared.changes.RowChange.TheVariants as of_app
use Rattle.rm_tables.specs.declared.changes.AttemptChange.TheVariants as of_attempt
use Rattle.rm_invariant.specs.apps.View.{one_if, set_if}
use Rattle.rm_invariant.specs.masters.Invariant.{AliveInvariant, ContainerByNumber, ContainerByState, ContainerByCurrent, ContainerInvariant, MasterAlive, Untouched, own_of}
use Rattle.rm_invariant.specs.masters.View.{ContainerView}

master_unordered : (v : ContainerView) (lost : Bool) → lost ≡ false → v.living ≡ false → v.first ≡ false → MasterAlive lost (record v { launches = suc v.launches }) → MasterAlive lost v
master_unordered v lost unlost gone here says = grind arith

unordered_by : (c : ContainerId) (v : ContainerView) (lost m : Bool) → lost ≡ false → (m ≡ true → v.living ≡ false) → AliveInvariant c lost m (record v { launches = suc v.launches }) → AliveInvariant c lost m v
unordered_by c v lost m unlost gone says =
    let one = says.1 in
    let here : v.first ≡ false = says.2 (omega arith) in
    (says.0, omega (arith, one), (λ n. absurd (omega (arith, n, one))), (λ n. absurd (omega (arith, n, one))), says.4, says.5, says.6, λ e. master_unordered v lost unlost (gone e) here (says.7 e))

alive_unordered : (c : ContainerId) (v : ContainerView) (s : AttemptState) → (s ≡ attempts.Live) ⊎ (s ≡ attempts.Registered) ⊎ (s ≡ attempts.Finishing) → (lost m : Bool) → lost ≡ false → (m ≡ true → v.living ≡ false)
    → ContainerByState c s lost m (record v { launches = suc v.launches }) → ContainerByState c s lost m v
alive_unordered c v s (inl is) lost m unlost gone says = rw is (unordered_by c v lost m unlost gone (rw is at says))
alive_unordered c v s (inr (inl is)) lost m unlost gone says = rw is (unordered_by c v lost m unlost gone (rw is at says))
alive_unordered c v s (inr (inr is)) lost m unlost gone says = rw is (unordered_by c v lost m unlost gone (rw is at says))

module _ (c : ContainerId) (row : AppRow) (current : Current) (v : ContainerView) (is : row.current ≡ Some current) where
  -- MasterGranted with this container or another one, which is in the book and so did not leave: the attempt goes to be saved
  pub granted_marks : current.state ≡ attempts.Granted → (granting b : Bool) → (current.number == c.attempt.number) ≡ b → (m : Bool) → is_master_of c current.master ≡ m
      → (b ≡ true → m ≡ true → v.living ≡ true) → (saving : Bool) → (b ≡ true → m ≡ false → saving ≡ false) → (b ≡ false → saving ≡ false)
      → ContainerInvariant c (Some row) (record v { grants = one_if granting v.grants })
      → ContainerInvariant c (Some (changed (of_app.OfAttempt of_attempt.Issue) row)) (record v { savings = one_if saving v.savings })
  granted_marks st granting b n m o there saving not_mine not_here good =
      let says : ContainerByNumber c (current.number == c.attempt.number) current (record v { grants = one_if granting v.grants }) = rw is at good.1 in
      let lost = good.0 in
      rw is (grind (arith, nat_tests))

  -- or it isn't in the book, and the attempt waits again
  pub requeued_marks : current.state ≡ attempts.Granted → (granting b : Bool) → (current.number == c.attempt.number) ≡ b → (m : Bool) → is_master_of c current.master ≡ m
      → (b ≡ true → m ≡ true → v.living ≡ false) → (b ≡ true → m ≡ true → granting ≡ true)
      → ContainerInvariant c (Some row) (record v { grants = one_if granting v.grants })
      → ContainerInvariant c (Some (changed (of_app.OfAttempt of_attempt.Requeue) row)) v
  requeued_marks st granting b n m o gone is_it good =
      let says : ContainerByNumber c (current.number == c.attempt.number) current (record v { grants = one_if granting v.grants }) = rw is at good.1 in
      let lost = good.0 in
      rw is (grind (arith, nat_tests))

  -- an attempt that lives goes to have its end saved, by any of four events
  pub ending_marks : (how : How) (state : AttemptState) → current.state ≡ state → (state ≡ attempts.Live) ⊎ (state ≡ attempts.Registered) ⊎ (state ≡ attempts.Finishing) → (b : Bool) → (current.number == c.attempt.number) ≡ b → (launching losing expiring finished : Bool)
      → ContainerInvariant c (Some row) (record v { launches = one_if launching v.launches; losses = one_if losing v.losses; expiries = one_if expiring v.expiries; finishes = one_if finished v.finishes })
      → ContainerInvariant c (Some (changed (of_app.OfAttempt (of_attempt.End how)) row)) v
  ending_marks how state s e b n launching losing expiring finished good =
      let says : ContainerByNumber c (current.number == c.attempt.number) current (record v { launches = one_if launching v.launches; losses = one_if losing v.losses; expiries = one_if expiring v.expiries; finishes = one_if finished v.finishes }) = rw is at good.1 in
      let lost = good.0 in
      rw is (grind (arith, nat_tests))

  -- AttemptSaved: the launch is ordered
  pub ordering_marks : (state : AttemptState) → current.state ≡ state → (state ≡ attempts.Live) ⊎ (state ≡ attempts.Registered) ⊎ (state ≡ attempts.Finishing) → (b : Bool) → (current.number == c.attempt.number) ≡ b → (m : Bool) → is_master_of c current.master ≡ m
      → current.lost ≡ false → (b ≡ false → m ≡ false)
      → ContainerInvariant c (Some row) (record v { launches = one_if b v.launches })
      → ContainerInvariant c (Some row) (record v { ordered = set_if m v.ordered })
  ordering_marks state s e b n m o unlost apart good =
      let says : ContainerByNumber c (current.number == c.attempt.number) current (record v { launches = one_if b v.launches }) = rw is at good.1 in
      let lost = good.0 in
      (lost, rw is (grind (arith, nat_tests)))

  -- or nothing is to be done, since its master left the book
  pub unordered_marks : (state : AttemptState) → current.state ≡ state → (state ≡ attempts.Live) ⊎ (state ≡ attempts.Registered) ⊎ (state ≡ attempts.Finishing) → (b : Bool) → (current.number == c.attempt.number) ≡ b → (m : Bool) → is_master_of c current.master ≡ m
      → current.lost ≡ false → (b ≡ true → m ≡ true → v.living ≡ false)
      → ContainerInvariant c (Some row) (record v { launches = one_if b v.launches })
      → ContainerInvariant c (Some row) v
  unordered_marks state s e b n m o unlost gone good =
      let says : ContainerByNumber c (current.number == c.attempt.number) current (record v { launches = one_if b v.launches }) = rw is at good.1 in
      let lost = good.0 in
      (lost, rw is (by b n gone says))
    where
      alive : (s : AttemptState) → (s ≡ attempts.Live) ⊎ (s ≡ attempts.Registered) ⊎ (s ≡ attempts.Finishing) → (l : Bool) → l ≡ false → (m ≡ true → v.living ≡ false) → ContainerByState c s l m (record v { launches = suc v.launches }) → ContainerByState c s l m v
      alive s e l unlost gone says = alive_unordered c v s e l m unlost gone says

      by : (b : Bool) → (current.number == c.attempt.number) ≡ b → (b ≡ true → m ≡ true → v.living ≡ false) → ContainerByNumber c (current.number == c.attempt.number) current (record v { launches = one_if b v.launches }) → ContainerByNumber c (current.number == c.attempt.number) current v
      by true n gone says = rw (n, o, s) (alive state e current.lost unlost (gone refl) (rw (n, o, s) at says))
      by false n gone says = says

  -- MasterLost of one that is being saved
  pub losing_marks : current.state ≡ attempts.Saving → (losing b : Bool) → (current.number == c.attempt.number) ≡ b → (m : Bool) → is_master_of c current.master ≡ m → (b ≡ true → m ≡ true → losing ≡ true)
      → ContainerInvariant c (Some row) (record v { losses = one_if losing v.losses })
      → ContainerInvariant c (Some (changed (of_app.OfAttempt of_attempt.Lose) row)) v
  losing_marks st losing b n m o is_it good =
      let says : ContainerByNumber c (current.number == c.attempt.number) current (record v { losses = one_if losing v.losses }) = rw is at good.1 in
      let lost = good.0 in
      rw is (grind (arith, nat_tests))

-- what an event of each kind needs where it has nothing to do, so that it may go
abbrev pub MayGo : AttemptState → (mine granting losing launching expiring finished finishing : Bool) → Type 0
MayGo attempts.Scheduled mine granting losing launching expiring finished finishing = Unit {0}
MayGo attempts.Granted mine granting losing launching expiring finished finishing = mine ≡ true → granting ≡ false
MayGo attempts.Saving mine granting losing launching expiring finished finishing = mine ≡ true → losing ≡ false
MayGo attempts.Live mine granting losing launching expiring finished finishing = (mine ≡ true → losing ≡ false) × (launching ≡ false) × (expiring ≡ false) × (finishing ≡ true → finished ≡ false)
MayGo attempts.Registered mine granting losing launching expiring finished finishing = (mine ≡ true → losing ≡ false) × (launching ≡ false) × (expiring ≡ false) × (finishing ≡ true → finished ≡ false)
MayGo attempts.Finishing mine granting losing launching expiring finished finishing = (mine ≡ true → losing ≡ false) × (launching ≡ false) × (expiring ≡ false) × (finishing ≡ true → finished ≡ false)
MayGo attempts.Ending mine granting losing launching expiring finished finishing = Unit {0}
MayGo attempts.Ended mine granting losing launching expiring finished finishing = Unit {0}
MayGo attempts.Dropped mine granting losing launching expiring finished finishing = Unit {0}

module _ (c : ContainerId) (v : ContainerView) (granting losing launching expiring finished : Bool) where
  -- the marks with one event of each kind, where it is of the container
  abbrev with_events : ContainerView
  with_events = record v { grants = one_if granting v.grants; losses = one_if losing v.losses; launches = one_if launching v.launches; expiries = one_if expiring v.expiries; finishes = one_if finished v.finishes }

  alive_by : (launching expiring lost m : Bool) → (m ≡ true → losing ≡ false) × (launching ≡ false) × (expiring ≡ false) × (v.finishing ≡ true → finished ≡ false)
      → AliveInvariant c lost m (record v { grants = one_if granting v.grants; losses = one_if losing v.losses; launches = one_if launching v.launches; expiries = one_if expiring v.expiries; finishes = one_if finished v.finishes }) → AliveInvariant c lost m v
  alive_by true expiring lost m may says = absurd (let e = may.1 in cc)
  alive_by false true lost m may says = absurd (let e = may.2 in cc)
  alive_by false false lost m may says =
      (says.0, says.1, says.2, says.3, says.4, says.5, (λ f. let e = may.3 f in let n = says.6 f in rw e at n), λ o. let e = may.0 o in let n = says.7 o in rw e at n)

  untouched_goes : Untouched with_events → Untouched v
  untouched_goes says = grind arith

  own_goes : (s : AttemptState) (lost m : Bool) → MayGo s m granting losing launching expiring finished v.finishing → ContainerByState c s lost m with_events → ContainerByState c s lost m v
  own_goes attempts.Live lost m may says = alive_by launching expiring lost m may says
  own_goes attempts.Registered lost m may says = alive_by launching expiring lost m may says
  own_goes attempts.Finishing lost m may says = alive_by launching expiring lost m may says
  own_goes attempts.Ending lost m may says = tt
  own_goes attempts.Ended lost m may says = λ l. untouched_goes (says l)
  own_goes attempts.Dropped lost m may says = tt
  own_goes _ lost m may says = grind (arith, nat_tests)

  number_goes : (b : Bool) (current : Current) → (b ≡ true → MayGo current.state (is_master_of c current.master) granting losing launching expiring finished v.finishing) → ContainerByNumber c b current with_events → ContainerByNumber c b current v
  number_goes true current may says = own_goes current.state current.lost (is_master_of c current.master) (may refl) says
  number_goes false current may says = λ n. untouched_goes (says n)

  current_goes : (o : Option Current) → ((current : Current) → o ≡ Some current → (current.number == c.attempt.number) ≡ true → MayGo current.state (is_master_of c current.master) granting losing launching expiring finished v.finishing) → ContainerByCurrent c o with_events → ContainerByCurrent c o v
  current_goes None may says = untouched_goes says
  current_goes (Some current) may says = number_goes (current.number == c.attempt.number) current (may current refl) says

  loss_goes : (b : Bool) (n : ℕ) (left : Bool) → (1 ≤ one_if b n → left ≡ true) → 1 ≤ n → left ≡ true
  loss_goes b n left lost some = grind arith

  -- events that have nothing to do may go, for every row
  pub event_goes : (row : Option AppRow) → ((one : AppRow) (current : Current) → row ≡ Some one → one.current ≡ Some current → (current.number == c.attempt.number) ≡ true → MayGo current.state (is_master_of c current.master) granting losing launching expiring finished v.finishing)
      → ContainerInvariant c row with_events → ContainerInvariant c row v
  event_goes None may says = (loss_goes losing v.losses v.left says.0, λ r. untouched_goes (says.1 r))
  event_goes (Some row) may says = (loss_goes losing v.losses v.left says.0, current_goes row.current (λ current. may row current refl) says.1)

-- an Attempt is kept: it lives
pub saved_marks : (c : ContainerId) (row : AppRow) (current : Current) (v : ContainerView) (is : row.current ≡ Some current) (new : Option AppRecord) → current.state ≡ attempts.Saving → (s b : Bool) → (current.number == c.attempt.number) ≡ b → (m : Bool) → is_master_of c current.master ≡ m
    → (b ≡ true → own_of c new ≡ m) → length (attempts_in new) ≡ length (attempts_in v.found) + 1
    → ContainerInvariant c (Some row) (record v { savings = one_if s v.savings })
    → ContainerInvariant c (Some (changed (of_app.OfAttempt of_attempt.Keep) row)) (record v { found = new; launches = one_if b v.launches })
saved_marks c row current v is new st s b n m o own longer good =
    let says : ContainerByNumber c (current.number == c.attempt.number) current (record v { savings = one_if s v.savings }) = rw is at good.1 in
    let lost = good.0 in
    rw is (grind (arith, nat_tests))
