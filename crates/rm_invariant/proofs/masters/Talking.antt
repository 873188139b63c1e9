-- What is said of an application whose row differs in its dialogue with its master alone, and in the endings that are to be told: nothing
-- is said of those.
use Rattle.rm_invariant.proofs.Common.{◌≡◌, List, [], ◌∷◌, Bool, true, false, Option, None, Some, refl, sym, subst, arith, AppId, AttemptId, ContainerId, Settings, is_app, AppState, AppRow, Dialogue, closed, closed_in, closed_one, row_of}
use Rattle.std.proofs.Common.{option_map}
use Rattle.rm_types.specs.declared.containers.ClosingOf.{ClosingOf}
use Rattle.rm_invariant.specs.apps.Invariant.{RowInvariant, StateInvariant}
use Rattle.rm_invariant.specs.apps.View.{View, changed_if}
use Rattle.rm_invariant.proofs.apps.Found.{row_changed}
use Rattle.rm_invariant.specs.masters.View.{ContainerView}
use Rattle.rm_invariant.specs.masters.Invariant.{ContainerInvariant}

-- a row with this dialogue, whose master is to be told these endings
abbrev pub talking : Option Dialogue → List ClosingOf → AppRow → AppRow
talking dialogue closings row = record row { dialogue = dialogue; closings = closings }

-- a row is another one but for those
pub record IsTalking (before now : Option AppRow) : Type 0 where
  pub dialogue : Option Dialogue
  pub closings : List ClosingOf
  pub is : now ≡ option_map (talking dialogue closings) before

-- each row is such a one of itself
pub same_talking : (o : Option AppRow) → IsTalking o o
same_talking None = record { dialogue = None; closings = []; is = refl }
same_talking (Some row) = record { dialogue = row.dialogue; closings = row.closings; is = refl }

-- one more ending is to be told
more_talking : (closing : ClosingOf) (b : Bool) (o now : Option AppRow) → IsTalking (changed_if b (closed closing) o) now → IsTalking o now
more_talking closing true None now t = record { dialogue = t.dialogue; closings = t.closings; is = t.is }
more_talking closing true (Some row) now t = record { dialogue = t.dialogue; closings = t.closings; is = t.is }
more_talking closing false o now t = t

-- the rows with endings that are to be told
pub rows_talking : (closings : List ClosingOf) (rows : List (AppId × Option AppRow)) (q : AppId) → IsTalking (row_of rows q) (row_of (closed_in rows closings) q)
rows_talking [] rows q = same_talking (row_of rows q)
rows_talking (closing ∷ more) rows q =
    let after = rows_talking more (closed_one rows closing) q in
    let changed = row_changed (closed closing) closing.attempt.app q rows in
    more_talking closing (is_app closing.attempt.app q) (row_of rows q) (row_of (closed_in (closed_one rows closing) more) q)
    (subst (λ (o : Option AppRow). IsTalking o (row_of (closed_in (closed_one rows closing) more) q)) changed after)

-- what holds of an attempt holds still
state_talking : (settings : Settings) (q : AttemptId) (row : AppRow) (dialogue : Option Dialogue) (closings : List ClosingOf) (v : View) (s : AppState) → StateInvariant settings q s row v
    → StateInvariant settings q s (talking dialogue closings row) v
state_talking settings q row dialogue closings v s says = grind arith

says_of : (settings : Settings) (q : AttemptId) (o : Option AppRow) (dialogue : Option Dialogue) (closings : List ClosingOf) (v : View) → RowInvariant settings q o v → RowInvariant settings q (option_map (talking dialogue closings) o) v
says_of settings q None dialogue closings v good = good
says_of settings q (Some row) dialogue closings v good =
    let known = good.0 in
    (record { wish = known.wish; pending = known.pending; stays = known.stays; one_kill = known.one_kill; killed = known.killed }, state_talking settings q row dialogue closings v row.state good.1)

-- for every row
pub says_talking : (settings : Settings) (q : AttemptId) (before now : Option AppRow) (v : View) → IsTalking before now → RowInvariant settings q before v → RowInvariant settings q now v
says_talking settings q before now v t good = subst (λ (o : Option AppRow). RowInvariant settings q o v) (sym t.is) (says_of settings q before t.dialogue t.closings v good)

-- and of a container
marks_of : (c : ContainerId) (o : Option AppRow) (dialogue : Option Dialogue) (closings : List ClosingOf) (v : ContainerView) → ContainerInvariant c o v → ContainerInvariant c (option_map (talking dialogue closings) o) v
marks_of c None dialogue closings v says = says
marks_of c (Some row) dialogue closings v says = says

-- for every row
pub marks_talking : (c : ContainerId) (before now : Option AppRow) (v : ContainerView) → IsTalking before now → ContainerInvariant c before v → ContainerInvariant c now v
marks_talking c before now v t says = subst (λ (o : Option AppRow). ContainerInvariant c o v) (sym t.is) (marks_of c before t.dialogue t.closings v says)
