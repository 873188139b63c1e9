-- The cover: why an open life with both queues and the awaiting list empty owes nothing. Each item of what is owed contradicts one of the facts.
use Rattle.rm_invariant.proofs.Common.{◌≡◌, ◌≤◌, ◌<◌, ℕ, zero, suc, List, [], ◌∷◌, Bool, true, false, ◌||◌, length, get_or, refl, subst, arith, is_container, container_itself, is_living, Row, Tables, History, abstract_scene, ◌∙◌}
use Rattle.std.proofs.Common.{count_by}
use Rattle.rm_model.specs.Owed.{Owed, opening, keeping, killing, accepting, deciding, asking, finishing, expiring, losing, ordering, working, leaving, retiring}
use Rattle.rm_invariant.specs.apps.Completed.{is_retire}
use Rattle.rm_invariant.specs.nodes.Book.{All}
use Rattle.rm_invariant.specs.nodes.Names.{NamesApart}
use Rattle.rm_invariant.proofs.resting.Nodes.{nothing_undone}
use Rattle.rm_invariant.proofs.resting.Apps.{rests_at, known_kept, no_wish, accepted_or_kept, asks_master, undecided}
use Rattle.rm_invariant.proofs.apps.Retiring.{as_many}
use Rattle.rm_invariant.proofs.resting.Masters.{not_finishing, not_expired, still_there, is_ordered, row_kept}
use Rattle.rm_invariant.specs.Core.{CoreInvariant}
use Rattle.rm_invariant.specs.auxiliary.Invariant.{AuxInvariant}
use Rattle.rm_tables.specs.Leaving.{is_stale_in}
use Rattle.rm_refinement.proofs.Recorded.{stale_same}
use Rattle.rm_invariant.specs.events.Here.{astray_at}

-- what holds of each row holds of one among them
all_at : (P : Row → Type 0) (rows : List Row) (row : Row) (k : ℕ) → k < length rows → get_or rows k row ≡ row → All P rows → P row
all_at P [] row k lt is h = absurd (omega (arith, lt))
all_at P (one ∷ rows) row zero lt is h = subst P is h.0
all_at P (one ∷ rows) row (suc k) lt is h = all_at P rows row k (omega (arith, lt)) is h.1

-- a row of the book is of a container that lives
living_at : (rows : List Row) (row : Row) (k : ℕ) → k < length rows → get_or rows k row ≡ row → is_living rows row.id ≡ true
living_at [] row k lt is = absurd (omega (arith, lt))
living_at (one ∷ rows) row zero lt is = let own : is_container one.id row.id ≡ true = rw is (container_itself row.id) in rw own refl
living_at (one ∷ rows) row (suc k) lt is = or_last (is_container one.id row.id) (living_at rows row k (omega (arith, lt)) is)
  where
    or_last : (a : Bool) → is_living rows row.id ≡ true → (a || is_living rows row.id) ≡ true
    or_last true e = refl
    or_last false e = e

-- an open life in which nothing is in flight owes nothing
pub owes_nothing : (h : History) (t : Tables) → CoreInvariant t.settings h t → AuxInvariant h t → NamesApart h.nodes → All (λ row. is_stale_in t.tree.apps row.id ≡ false → row.released ≡ false) h.book → t.main ≡ [] → t.sched ≡ [] → t.awaiting ≡ []
    → Owed t.settings (abstract_scene h t) → ⊥
owes_nothing h t w sides apart unmarked main sched awaiting (opening closed) = let k = w.keeps in let o = k.is_open in cc
owes_nothing h t w sides apart unmarked main sched awaiting (keeping id known unkept) =
    let kept = known_kept t.settings h t id (rests_at t.settings h t w.keeps main sched awaiting id) known in
    cc
owes_nothing h t w sides apart unmarked main sched awaiting (killing id goes wish) =
    let free = no_wish t.settings h t id (rests_at t.settings h t w.keeps main sched awaiting id) goes.known goes.unended in
    cc
owes_nothing h t w sides apart unmarked main sched awaiting (accepting id goes unaccepted untried) =
    accepted_or_kept t.settings h t id (rests_at t.settings h t w.keeps main sched awaiting id) goes.known goes.unended unaccepted untried
owes_nothing h t w sides apart unmarked main sched awaiting (deciding id goes tried all decided) =
    let fails = undecided t.settings h t id (rests_at t.settings h t w.keeps main sched awaiting id) goes.known goes.unended tried all in
    cc
owes_nothing h t w sides apart unmarked main sched awaiting (asking id goes all unasked) =
    let asked = asks_master t.settings h t id (rests_at t.settings h t w.keeps main sched awaiting id) goes.known goes.unended all in
    cc
owes_nothing h t w sides apart unmarked main sched awaiting (finishing attempt alive said) =
    let silent = not_finishing t.settings h t w.keeps w.marks w.sound sides.apt main sched awaiting attempt alive in
    cc
owes_nothing h t w sides apart unmarked main sched awaiting (expiring attempt alive ran) =
    let runs = not_expired t.settings h t w.keeps w.marks w.sound sides.apt main sched awaiting attempt alive in
    cc
owes_nothing h t w sides apart unmarked main sched awaiting (losing attempt alive left) =
    let stands = still_there t.settings h t w.keeps w.marks w.sound sides.apt main sched awaiting attempt alive in
    cc
owes_nothing h t w sides apart unmarked main sched awaiting (ordering attempt alive first unordered) =
    is_ordered t.settings h t w.keeps w.marks w.sound sides.apt main sched awaiting attempt alive first unordered
owes_nothing h t w sides apart unmarked main sched awaiting (working node there undone) =
    undone (nothing_undone (astray_at t.settings h t) h.nodes h.book apart (rw sched at w.nodes) node there)
owes_nothing h t w sides apart unmarked main sched awaiting (leaving row there why) =
    let lives = living_at h.book row there.0 there.1 there.2 in
    let stays = row_kept t.settings h t w.keeps w.marks w.sound sides.apt main sched awaiting row.id lives in
    let kept = stays.0 in
    let on = stays.1 in
    let fresh : is_stale_in t.tree.apps row.id ≡ false = stale_same (abstract_scene h t) row.id ∙ on in
    let free : row.released ≡ false = all_at (λ row. is_stale_in t.tree.apps row.id ≡ false → row.released ≡ false) h.book row there.0 there.1 there.2 unmarked fresh in
    absurd (let x = rw (free, on, kept) at why in cc)
owes_nothing h t w sides apart unmarked main sched awaiting (retiring many) =
    let all = as_many t.settings h t w.keeps sides.completes in
    let some = sides.completes.retires (omega (arith, all, many)) in
    absurd (let none : 1 ≤ count_by is_retire [] = rw main at some in omega (arith, none))
