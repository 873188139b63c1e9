-- One more entry of a log: a move that is lawful by the tables keeps what holds of them and of the log.
use Rattle.std.proofs.Common.{◌≡◌, ◌≢◌, List, [], ◌∷◌, ◌++◌, true, sym, ◌∙◌, ap, subst}
use Rattle.std.proofs.lemmas.List.Sums.{fold_push}
use Rattle.std.specs.declared.alloc.Global.{Global}
use Rattle.rm_types.specs.declared.entries.Entry.{Entry}
use Rattle.rm_types.specs.declared.operations.Op.{Op}
use Rattle.rm_types.specs.declared.settings.Settings.{Settings}
use Rattle.rm_types.proofs.TestLemmas.{never_nil}
use Rattle.rm_model.specs.State.{Manager, opening_state}
use Rattle.rm_model.specs.Changes.{after, after_all}
use Rattle.rm_model.specs.Rules.{Allowed}
use Rattle.rm_model.specs.Lawful.{AllAllowed}
use Rattle.rm_tables.specs.declared.tables.Tables.{Tables}
use Rattle.rm_refinement.specs.History.{History}
use Rattle.rm_invariant.specs.Phases.{Simulates}
use Rattle.rm_core.specs.Queues.{tables_after, tables_moved, unopened}
use Rattle.rm_core.specs.Invariant.{HasPhase, IsRefusedFramed, LogInvariant}
use Rattle.rm_core.specs.Stores.{IsOfStore}
use Rattle.rm_core.proofs.Stores.{IsOfNone, stored_with, tree_stays}
use Rattle.rm_types.specs.Ranges.{IsOperation}
use Rattle.rm_types.specs.Records.{fits_records, recorded}

-- an entry that is allowed after a log may be added to it
pub AllAllowed-push : (settings : Settings) (s : Manager) (log : List Entry) (e : Entry) → AllAllowed settings s log → Allowed settings (after_all s log) e
    → AllAllowed settings s (log ++ e ∷ [])
AllAllowed-push settings s [] e h a = (a, tt)
AllAllowed-push settings s (x ∷ log) e h a = (h.0, AllAllowed-push settings (after s x) log e h.1 a)

-- what a move does to the tables, with a history, which its entry tells
pub record Moves (h : History) (t : Tables) (e : Entry) (next : Tables) : Type 0 where
  pub leads : Simulates h t e next
  pub own : next ≡ tables_moved t e

-- the tables are told by one more entry, where a life began before
told_more : (opening : List Op) (log : List Entry) (t next : Tables) (e : Entry) → t ≡ tables_after t.alloc t.settings opening log → next.settings ≡ t.settings → next.alloc ≡ t.alloc → next ≡ tables_moved t e
    → next ≡ tables_after next.alloc next.settings opening (log ++ e ∷ [])
told_more opening log t next e before settings alloc own =
    let more : tables_after t.alloc t.settings opening (log ++ e ∷ []) ≡ tables_moved (tables_after t.alloc t.settings opening log) e = fold_push tables_moved (unopened t.alloc t.settings opening) log e in
    let here : next ≡ tables_after t.alloc t.settings opening (log ++ e ∷ []) = own ∙ ap (λ (x : Tables). tables_moved x e) before ∙ sym more in
    here ∙ ap (λ (x : Settings). tables_after t.alloc x opening (log ++ e ∷ [])) (sym settings) ∙ ap (λ (x : Global). tables_after x next.settings opening (log ++ e ∷ [])) (sym alloc)

-- a life stands only after an entry
pub some_entry : (opening : List Op) (log : List Entry) (t : Tables) → LogInvariant opening log t → t.alive ≡ true → log ≢ []
some_entry opening log t k alive = λ none. let fresh = ap (λ (x : Tables). x.alive) (k.fresh none) in cc

-- the same over each store that held an opening list for which the log was lawful
pub keeps_more : (opening : List Op) (log : List Entry) (t next : Tables) (e : Entry) (k : LogInvariant opening log t) → t.alive ≡ true → Moves k.history t e next → LogInvariant opening (log ++ e ∷ []) next
keeps_more opening log t next e k alive m =
    let l = m.leads in
    record {
      allowed = rw l.settings (AllAllowed-push t.settings (opening_state opening) log e k.allowed (subst (λ (s : Manager). Allowed t.settings s e) (sym k.same) l.lawful));
      history = l.history;
      same = fold_push after (opening_state opening) log e ∙ ap (λ (s : Manager). after s e) k.same ∙ l.same;
      recorded = λ some. l.recorded;
      phase = l.phase;
      fresh = λ none. absurd (never_nil log e none);
      told_by = λ some. told_more opening log t next e (k.told_by (some_entry opening log t k alive)) l.settings l.alloc m.own;
    }

-- the tables stay sound, where the entry keeps nothing
pub sound_after : (t : Tables) (s : HasPhase t) (e : Entry) (next : Tables) → Simulates s.history t e next → t.alive ≡ true → IsOfNone e → IsRefusedFramed next → HasPhase next
sound_after t s e next leads alive none framed =
    record { history = leads.history; phase = leads.phase; stored = subst IsOfStore (sym (tree_stays s.history t e next s.phase leads alive none)) s.stored; framed = framed }

-- and where it keeps an operation that fits what is recorded
pub sound_with : (t : Tables) (s : HasPhase t) (e : Entry) (next : Tables) (op : Op) → Simulates s.history t e next → IsOperation op → fits_records t.tree op ≡ true → next.tree ≡ recorded t.tree op → IsRefusedFramed next → HasPhase next
sound_with t s e next op leads can fits is framed =
    record { history = leads.history; phase = leads.phase; stored = subst IsOfStore (sym is) (stored_with t.tree op s.stored can fits); framed = framed }
