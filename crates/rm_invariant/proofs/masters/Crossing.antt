-- What the entries of nodes do to what holds of a container, over its marks alone: containers leave the book, and enter it.
use Rattle.rm_invariant.proofs.Common.{◌⊎◌, inl, inr, ◌≡◌, ◌≤◌, ℕ, ◌+◌, ◌&&◌, ◌||◌, not, Bool, true, false, Option, None, Some, refl, arith, nat_tests, AttemptId, ContainerId, Settings, is_container, AppState, AttemptState, is_alive, AppRow, Current, changed, granted, is_master_of, is_ending, attempts_in, length}
use Rattle.std.proofs.Common.{◌==◌, is_some}
use Rattle.rm_states.specs.declared.attempt.states.AttemptState.TheVariants as attempts
use Rattle.rm_tables.specs.declared.changes.RowChange.TheVariants as of_app
use Rattle.rm_tables.specs.declared.changes.AttemptChange.TheVariants as of_attempt
use Rattle.rm_invariant.specs.apps.Invariant.{ActiveInvariant, RowInvariant, StateInvariant, is_active}
use Rattle.rm_invariant.specs.apps.View.{View, one_if, set_if}
use Rattle.rm_invariant.proofs.apps.Own.{active_row}
use Rattle.rm_invariant.specs.masters.Invariant.{AliveInvariant, ContainerByNumber, ContainerByState, ContainerByCurrent, ContainerInvariant, MasterAlive, Unsaved, Untouched}
use Rattle.rm_invariant.specs.masters.View.{ContainerView}

-- a container that leaves is in the book, or its attempt was kept when the life began
abbrev pub MayLeave : ContainerView → Type 0
MayLeave v = (v.living ≡ true) ⊎ (v.first ≡ true)

-- containers leave, and this one does or not; so many MasterLost of it are posted
abbrev pub left_marks : Bool → ℕ → ContainerView → ContainerView
left_marks gone n v = record v { living = v.living && not gone; left = v.left || gone; losses = v.losses + n }

-- a master of an attempt that is being saved or lives is told of
abbrev pub IsTold : AttemptState → Bool → Bool → ℕ → Type 0
IsTold attempts.Saving true true n = 1 ≤ n
IsTold attempts.Live true true n = 1 ≤ n
IsTold attempts.Registered true true n = 1 ≤ n
IsTold attempts.Finishing true true n = 1 ≤ n
IsTold s mine gone n = Unit {0}

module _ (c : ContainerId) (v : ContainerView) where
  alive_leaves : (lost m gone : Bool) (n : ℕ) → (gone ≡ true → MayLeave v) → (gone ≡ false → n ≡ 0) → (m ≡ true → gone ≡ true → 1 ≤ n) → AliveInvariant c lost m v → AliveInvariant c lost m (left_marks gone n v)
  alive_leaves lost m gone n lives none told says =
      (says.0, says.1, says.2, says.3, says.4, says.5, says.6, λ o. master lost gone (told o) lives none (says.7 o))
    where
      master : (lost gone : Bool) → (gone ≡ true → 1 ≤ n) → (gone ≡ true → MayLeave v) → (gone ≡ false → n ≡ 0) → MasterAlive lost v → MasterAlive lost (left_marks gone n v)
      master lost true told lives none says = grind arith
      master lost false told lives none says = grind arith

  untouched_leaves : (gone : Bool) (n : ℕ) → (gone ≡ true → MayLeave v) → Untouched v → Untouched (left_marks gone n v)
  untouched_leaves gone n lives says = grind arith

  own_leaves : (s : AttemptState) (lost m gone : Bool) (n : ℕ) → (gone ≡ true → MayLeave v) → (gone ≡ false → n ≡ 0) → (m ≡ true → gone ≡ true → IsTold s true true n) → ContainerByState c s lost m v → ContainerByState c s lost m (left_marks gone n v)
  own_leaves attempts.Scheduled lost m gone n lives none told says = untouched_leaves gone n lives says
  own_leaves attempts.Granted lost false gone n lives none told says = untouched_leaves gone n lives says
  own_leaves attempts.Live lost m gone n lives none told says = alive_leaves lost m gone n lives none told says
  own_leaves attempts.Registered lost m gone n lives none told says = alive_leaves lost m gone n lives none told says
  own_leaves attempts.Finishing lost m gone n lives none told says = alive_leaves lost m gone n lives none told says
  own_leaves attempts.Ending lost m gone n lives none told says = tt
  own_leaves attempts.Ended lost m gone n lives none told says = λ l. untouched_leaves gone n lives (says l)
  own_leaves attempts.Dropped lost m gone n lives none told says = tt
  own_leaves _ lost _ _ n lives none told says = grind arith

  loss_leaves : (gone : Bool) (n : ℕ) → (gone ≡ false → n ≡ 0) → (1 ≤ v.losses → v.left ≡ true) → 1 ≤ v.losses + n → (v.left || gone) ≡ true
  loss_leaves true n none says some = by v.left
    where
      by : (b : Bool) → (b || true) ≡ true
      by true = refl
      by false = refl
  loss_leaves false n none says some = let z = none refl in let l = says (omega (arith, some, z)) in rw l refl

  number_leaves : (b : Bool) (current : Current) (gone : Bool) (n : ℕ) → (gone ≡ true → MayLeave v) → (gone ≡ false → n ≡ 0) → (b ≡ true → is_master_of c current.master ≡ true → gone ≡ true → IsTold current.state true true n) → ContainerByNumber c b current v → ContainerByNumber c b current (left_marks gone n v)
  number_leaves true current gone n lives none told says = own_leaves current.state current.lost (is_master_of c current.master) gone n lives none (told refl) says
  number_leaves false current gone n lives none told says = λ l. untouched_leaves gone n lives (says l)

  current_leaves : (o : Option Current) (gone : Bool) (n : ℕ) → (gone ≡ true → MayLeave v) → (gone ≡ false → n ≡ 0) → ((current : Current) → o ≡ Some current → (current.number == c.attempt.number) ≡ true → is_master_of c current.master ≡ true → gone ≡ true → IsTold current.state true true n) → ContainerByCurrent c o v → ContainerByCurrent c o (left_marks gone n v)
  current_leaves None gone n lives none told says = untouched_leaves gone n lives says
  current_leaves (Some current) gone n lives none told says = number_leaves (current.number == c.attempt.number) current gone n lives none (told current refl) says

  -- any containers that live leave for any cause, for every row
  pub leaving_marks : (row : Option AppRow) (gone : Bool) (n : ℕ) → (gone ≡ true → MayLeave v) → (gone ≡ false → n ≡ 0)
      → ((one : AppRow) (current : Current) → row ≡ Some one → one.current ≡ Some current → (current.number == c.attempt.number) ≡ true → is_master_of c current.master ≡ true → gone ≡ true → IsTold current.state true true n)
      → ContainerInvariant c row v → ContainerInvariant c row (left_marks gone n v)
  leaving_marks None gone n lives none told says = (loss_leaves gone n none says.0, λ r. untouched_leaves gone n lives (says.1 r))
  leaving_marks (Some row) gone n lives none told says = (loss_leaves gone n none says.0, current_leaves row.current gone n lives none (λ current. told row current refl) says.1)

-- an attempt may come to have no container: nothing that is said of it is lost
module _ (settings : Settings) (q : AttemptId) (v : View) where
  unheld_state : (s : AppState) (row : AppRow) → StateInvariant settings q s row v → StateInvariant settings q s row (record v { held = false })
  unheld_state s row says = grind arith

  -- for every row
  pub unheld : (row : Option AppRow) → RowInvariant settings q row v → RowInvariant settings q row (record v { held = false })
  unheld None good = grind arith
  unheld (Some row) good =
      let known = good.0 in
      (record { wish = known.wish; pending = known.pending; stays = known.stays; one_kill = known.one_kill; killed = known.killed }, unheld_state row.state row good.1)

-- a master's container is granted: it is new, so it neither lives nor left
pub granting_marks : (c : ContainerId) (row : AppRow) (current : Current) (v : ContainerView) → row.current ≡ Some current → current.state ≡ attempts.Scheduled → (new : ContainerId) (e b : Bool) → (current.number == c.attempt.number) ≡ b → is_container new c ≡ e
    → (e ≡ true → v.left ≡ false) → (e ≡ true → b ≡ true) → ContainerInvariant c (Some row) v → ContainerInvariant c (Some (changed (of_app.OfAttempt (of_attempt.Grant new)) row)) (record v { living = set_if e v.living; grants = one_if e v.grants })
granting_marks c row current v is st new e b n is_new fresh here good =
    let says : ContainerByNumber c (current.number == c.attempt.number) current v = rw is at good.1 in
    let lost = good.0 in
    rw is (grind (arith, nat_tests))

-- and what is said of its attempt
pub granting_says : (settings : Settings) (q : AttemptId) (row : AppRow) (current : Current) (v : View) (is : row.current ≡ Some current) (a : is_active row.state ≡ true) → current.state ≡ attempts.Scheduled → (new : ContainerId) (b : Bool) → (current.number == q.number) ≡ b
    → RowInvariant settings q (Some row) (record v { count = record v.count { asks = one_if b v.count.asks } })
    → RowInvariant settings q (Some (changed (of_app.OfAttempt (of_attempt.Grant new)) row)) (record v { held = set_if b v.held; count = record v.count { grants = one_if b v.count.grants } })
granting_says settings q row current v is a st new b n good =
    let known = good.0 in
    let active = active_row settings q row (record v { count = record v.count { asks = one_if b v.count.asks } }) a good in
    let says : ActiveInvariant settings q (Some current) row.wish (record v { count = record v.count { asks = one_if b v.count.asks } }) = rw is at active.current in
    rw is (grind (arith, nat_tests))

-- a container is granted to an attempt that lives, or taken of a node's report. A new one neither lives nor left, so it isn't the
-- master of an attempt that was kept in this life; a taken one is of an attempt that was kept when the life began
fresh_first : (v : ContainerView) (lost : Bool) → MasterAlive lost v → v.living ≡ false → v.left ≡ false → v.first ≡ true
fresh_first v lost says new there = by v.first refl
  where
    by : (b : Bool) → v.first ≡ b → v.first ≡ true
    by true f = f
    by false f = absurd (let e = says.2 f in let g = rw (new, there) at e in cc)

alive_enters : (c : ContainerId) (v : ContainerView) (lost m : Bool) → ((v.living ≡ false) × (v.left ≡ false)) ⊎ (v.first ≡ true) → AliveInvariant c lost m v → AliveInvariant c lost m (record v { living = true })
alive_enters c v lost m fresh says =
    (says.0, says.1, says.2, says.3, says.4, says.5, says.6, λ o. let x = says.7 o in (x.0, x.1, (λ n. absurd (let f = first fresh x in cc)), x.3))
  where
    first : ((v.living ≡ false) × (v.left ≡ false)) ⊎ (v.first ≡ true) → MasterAlive lost v → v.first ≡ true
    first (inl n) x = fresh_first v lost x n.0 n.1
    first (inr f) x = f

own_enters : (c : ContainerId) (v : ContainerView) (s : AttemptState) (lost m : Bool) → (is_alive s || is_ending s) ≡ true → ((v.living ≡ false) × (v.left ≡ false)) ⊎ (v.first ≡ true) → ContainerByState c s lost m v → ContainerByState c s lost m (record v { living = true })
own_enters c v attempts.Live lost m a fresh says = alive_enters c v lost m fresh says
own_enters c v attempts.Registered lost m a fresh says = alive_enters c v lost m fresh says
own_enters c v attempts.Finishing lost m a fresh says = alive_enters c v lost m fresh says
own_enters c v attempts.Ending lost m a fresh says = tt
own_enters c v _ lost m a fresh says = cc

-- a container enters the book of an attempt that lives, or whose end is issued
pub entering_marks : (c : ContainerId) (row : AppRow) (current : Current) (v : ContainerView) → row.current ≡ Some current → (is_alive current.state || is_ending current.state) ≡ true
    → (e : Bool) → (e ≡ true → (current.number == c.attempt.number) ≡ true) → (e ≡ true → ((v.living ≡ false) × (v.left ≡ false)) ⊎ (v.first ≡ true))
    → ContainerInvariant c (Some row) v → ContainerInvariant c (Some row) (record v { living = set_if e v.living })
entering_marks c row current v is a false here fresh good = good
entering_marks c row current v is a true here fresh good =
    let says : ContainerByNumber c (current.number == c.attempt.number) current v = rw is at good.1 in
    let n = here refl in
    let at_ : ContainerByState c current.state current.lost (is_master_of c current.master) v = rw n at says in
    let new : ContainerByNumber c true current (record v { living = true }) = own_enters c v current.state current.lost (is_master_of c current.master) a (fresh refl) at_ in
    (good.0, rw (is, n) new)

-- a container is granted to an attempt that lives, or whose end is issued: its row counts the grant
same_counted : (current : Current) (new : ContainerId) → (is_alive current.state || is_ending current.state) ≡ true → granted new current ≡ record current { granted = new.seq }
same_counted current new a = by current.state refl
  where
    by : (s : AttemptState) → current.state ≡ s → granted new current ≡ record current { granted = new.seq }
    by attempts.Live e = rw e refl
    by attempts.Registered e = rw e refl
    by attempts.Finishing e = rw e refl
    by attempts.Ending e = rw e refl
    by _ e = absurd (let x = rw e at a in cc)

number_counted : (c : ContainerId) (b : Bool) (current : Current) (n : ℕ) (v : ContainerView) → ContainerByNumber c b current v → ContainerByNumber c b (record current { granted = n }) v
number_counted c true current n v says = says
number_counted c false current n v says = says

-- nothing is lost that is said of containers
pub counted_marks : (c : ContainerId) (row : AppRow) (current : Current) (v : ContainerView) → row.current ≡ Some current → (is_alive current.state || is_ending current.state) ≡ true → (new : ContainerId)
    → ContainerInvariant c (Some row) v → ContainerInvariant c (Some (changed (of_app.OfAttempt (of_attempt.Grant new)) row)) v
counted_marks c row current v is a new good =
    let says : ContainerByNumber c (current.number == c.attempt.number) current v = rw is at good.1 in
    let same = same_counted current new a in
    let after : ContainerByCurrent c (Some (granted new current)) v = rw same (number_counted c (current.number == c.attempt.number) current new.seq v says) in
    (good.0, rw is after)

-- a container of an attempt that was kept when the life began enters the book, however far the attempt has come: none that isn't kept was
-- first
never_first : {X : Type 0} (v : ContainerView) → v.first ≡ true → Untouched v → X
never_first v f u = let n : Unsaved v = u.0 in absurd (let m = n.5 in cc)

own_first : (c : ContainerId) (v : ContainerView) (s : AttemptState) (lost m : Bool) → v.first ≡ true → ContainerByState c s lost m v → ContainerByState c s lost m (record v { living = true })
own_first c v attempts.Scheduled lost m f says = let u : Unsaved v = says.0 in absurd (let n = u.5 in cc)
own_first c v attempts.Granted lost true f says = let u : Unsaved v = says.2 in absurd (let n = u.5 in cc)
own_first c v attempts.Granted lost false f says = let u : Unsaved v = says.0 in absurd (let n = u.5 in cc)
own_first c v attempts.Saving lost true f says = let u : Unsaved v = says.3 in absurd (let n = u.5 in cc)
own_first c v attempts.Saving lost false f says = let u : Unsaved v = says.2 in absurd (let n = u.5 in cc)
own_first c v attempts.Live lost m f says = alive_enters c v lost m (inr f) says
own_first c v attempts.Registered lost m f says = alive_enters c v lost m (inr f) says
own_first c v attempts.Finishing lost m f says = alive_enters c v lost m (inr f) says
own_first c v attempts.Ending lost m f says = tt
own_first c v attempts.Ended lost m f says = λ l. never_first v f (says l)
own_first c v attempts.Dropped lost m f says = tt

number_first : (c : ContainerId) (v : ContainerView) (b : Bool) (current : Current) → v.first ≡ true → ContainerByNumber c b current v → ContainerByNumber c b current (record v { living = true })
number_first c v true current f says = own_first c v current.state current.lost (is_master_of c current.master) f says
number_first c v false current f says = λ l. never_first v f (says l)

current_first : (c : ContainerId) (v : ContainerView) (o : Option Current) → v.first ≡ true → ContainerByCurrent c o v → ContainerByCurrent c o (record v { living = true })
current_first c v None f says = never_first v f says
current_first c v (Some current) f says = number_first c v (current.number == c.attempt.number) current f says

pub first_enters : (c : ContainerId) (row : Option AppRow) (v : ContainerView) → v.first ≡ true → ContainerInvariant c row v → ContainerInvariant c row (record v { living = true })
first_enters c None v f says = (says.0, λ r. never_first v f (says.1 r))
first_enters c (Some row) v f says = (says.0, current_first c v row.current f says.1)

-- and an attempt that is kept may come to have a container
module _ (settings : Settings) (q : AttemptId) (v : View) (kept : is_some v.found ≡ true) (some : 1 ≤ q.number) (among : q.number ≤ length (attempts_in v.found)) where
  held_state : (s : AppState) (row : AppRow) → StateInvariant settings q s row v → StateInvariant settings q s row (record v { held = true })
  held_state s row says = grind (arith, nat_tests)

  pub first_held : (row : Option AppRow) → RowInvariant settings q row v → RowInvariant settings q row (record v { held = true })
  first_held None good = absurd (let n = good.no_record in cc)
  first_held (Some row) good =
      let known = good.0 in
      (record { wish = known.wish; pending = known.pending; stays = known.stays; one_kill = known.one_kill; killed = known.killed }, held_state row.state row good.1)
