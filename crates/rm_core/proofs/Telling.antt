-- What the state after a log tells of the life that stands in it.
use Rattle.std.proofs.Common.{◌≡◌, List, [], ◌∷◌, true, false, None, Some, refl, sym, ◌∙◌, ap}
use Rattle.rm_types.specs.declared.entries.Entry.{Entry}
use Rattle.rm_types.specs.declared.operations.Op.{Op}
use Rattle.rm_types.specs.Records.{Records, records}
use Rattle.rm_model.specs.Changes.{kept_after_landing}
use Rattle.rm_model.specs.State.{LifeState, Manager}
use Rattle.rm_model.specs.Lawful.{state_after}
use Rattle.rm_tables.specs.declared.tables.Tables.{Tables}
use Rattle.rm_refinement.specs.History.{abstract_life}
use Rattle.rm_core.specs.Moves.{HasLanded, IsLeftAfter}
use Rattle.rm_core.specs.Seen.{Seen, StandsFor}
use Rattle.rm_core.specs.Words.{as_new, is_blown, is_handed, landed_over, manager_after, own_over, stands}
use Rattle.rm_types.specs.Alike.{IsAlike}
use Rattle.rm_invariant.proofs.opening.Whole.{told_standing}
use Rattle.rm_core.proofs.Lives.{landing_none, landing_one, own_is, stands_for}

-- a life stands after the log; it was blown where an operation of it was refused, and an operation is with the store where the manager has handed one
pub record LifeTold (opening : List Op) (s : Seen) : Type 0 where
  pub life : LifeState
  pub is : (state_after opening s.log).life ≡ Some life
  pub blown : life.blown ≡ is_blown s
  pub handed : life.handed ≡ is_handed s

module _ (s : Seen) (opening : List Op) (k : StandsFor opening s) where
  pub told_life : stands s ≡ true → LifeTold opening s
  told_life alive =
      record {
        life = abstract_life k.history s.tables;
        is = ap (λ (m : Manager). m.life) (k.same ∙ told_standing k.history s.tables alive);
        blown = refl;
        handed = refl;
      }

  -- where none stands, none does there
  pub told_none : stands s ≡ false → (state_after opening s.log).life ≡ None
  told_none dead = ap (λ (m : Manager). m.life) k.same ∙ rw dead refl

  -- and the last one blew where an operation of it was refused
  pub told_blew : stands s ≡ false → (state_after opening s.log).blew ≡ is_blown s
  told_blew dead = ap (λ (m : Manager). m.blew) k.same ∙ rw dead refl

  -- and a life that begins then begins over what is kept with so many operations
  pub told_own : stands s ≡ false → (tree : Records) → IsLeftAfter tree opening s.log → own_over s tree ≡ records (kept_after_landing (state_after opening s.log) (landed_over s tree))
  told_own dead tree left =
      own_is opening s.log s.tables k dead tree left.first ∙ sym (ap (λ (m : Manager). records (kept_after_landing m (landed_over s tree))) (stands_for opening s.log s.tables k dead))

  -- none over what is kept, and one over this and the first that awaited
  pub told_none_landed : stands s ≡ false → (tree : Records) → IsAlike tree (records (state_after opening s.log).kept) → landed_over s tree ≡ 0
  told_none_landed dead tree amounts = landing_none opening s.log s.tables k dead tree amounts

  pub told_one_landed : stands s ≡ false → (tree : Records) → HasLanded tree (state_after opening s.log) → landed_over s tree ≡ 1
  told_one_landed dead tree one = landing_one opening s.log s.tables k dead tree one

-- tables with their own records
by_itself : (t told : Tables) → t ≡ told → t ≡ record told { tree = t.tree }
by_itself t told is = rw is refl

-- the manager's tables are those that its own way tells, but for the records before the first life
pub record TablesTold (opening : List Op) (s : Seen) : Type 0 where
  pub tree : Records
  pub is : s.tables ≡ record (manager_after (as_new s) opening s.log).tables { tree = tree }

pub tables_told : (s : Seen) (opening : List Op) → StandsFor opening s → TablesTold opening s
tables_told s opening k = by s.log refl
  where
    by : (log : List Entry) → s.log ≡ log → TablesTold opening s
    by [] none = record { tree = (as_new s).tables.tree; is = k.fresh none ∙ rw none refl }
    by (e ∷ log) some = record { tree = s.tables.tree; is = by_itself s.tables _ (k.told_by (λ none. let x = sym some ∙ none in cc)) }
