-- What entries of the common kinds leave as it is.
use Rattle.std.proofs.Common.{◌≡◌, List, [], ◌∷◌, Bool, Option, None, Some, slice_get, refl, sym, ◌∙◌, subst}
use Rattle.std.proofs.lemmas.List.Sums.{fold-append}
use Rattle.rm_types.specs.declared.entries.Entry.{Entry}
use Rattle.rm_types.specs.declared.entries.Entry.TheVariants.{Opened, Issued, Handed, Kept, Blown, Served, Settled, Down}
use Rattle.rm_types.specs.declared.operations.Op.{Op}
use Rattle.rm_model.specs.Changes.{after, after_all, after_in, after_where}
use Rattle.rm_model.specs.Lawful.{state_after}
use Rattle.rm_model.specs.Place.{Place, close_left, moved}
use Rattle.rm_model.specs.State.{LifeState, Manager, opening_state, scene}
use Rattle.rm_baton.specs.Entries.{AddsCommon, AllCommon, IsCommon}
use Rattle.rm_workers.specs.Still.{SameLife, Still}
use Rattle.rm_model.proofs.Served.{of_issued, of_served}
use Rattle.rm_lives.proofs.Moving.{close_without}
use Rattle.rm_lives.proofs.Longer.{first_more}

-- THE STATE

-- a life of which an operation is with the store, or was refused, where one of another is
abbrev Same : LifeState → Bool → Bool → Type 0
Same life handed blown = (handed ≡ life.handed) × (blown ≡ life.blown)

same_life : (life : Option LifeState) → SameLife life life
same_life None = refl
same_life (Some life) = (refl, refl)

pub still_same : (s : Manager) → Still s s
still_same s = record { kept = refl; first = λ op h. h; life = same_life s.life; blew = refl }

lives_on : (a b c : Option LifeState) → SameLife a b → SameLife b c → SameLife a c
lives_on None b c h k = none (λ o. SameLife o c) b h k
  where
    none : (P : Option LifeState → Type 0) (o : Option LifeState) → o ≡ None → P o → P None
    none P o is p = subst P is p
lives_on (Some a) None c h k = absurd h
lives_on (Some a) (Some b) None h k = absurd k
lives_on (Some a) (Some b) (Some c) h k = (k.0 ∙ h.0, k.1 ∙ h.1)

pub still_on : (s t u : Manager) → Still s t → Still t u → Still s u
still_on s t u a b = record {
  kept = b.kept ∙ a.kept;
  first = λ op h. b.first op (a.first op h);
  life = lives_on s.life t.life u.life a.life b.life;
  blew = b.blew ∙ a.blew;
}

-- an entry in a life
still_in : (s : Manager) (life : LifeState) (e : Entry) → s.life ≡ Some life → IsCommon e → Still s (after_in s (scene s life) e)
still_in s life e is common = record {
  kept = kept e common;
  first = first e common;
  life = subst (λ (o : Option LifeState). SameLife o (after_in s (scene s life) e).life) (sym is) (lives e common);
  blew = blew e common;
}
  where
    kept : (e : Entry) → IsCommon e → (after_in s (scene s life) e).kept ≡ s.kept
    kept (Opened landed epoch stamp) h = absurd h
    kept Handed h = absurd h
    kept (Kept op) h = absurd h
    kept (Blown passed) h = absurd h
    kept Settled h = absurd h
    kept Down h = absurd h
    kept _ h = refl

    blew : (e : Entry) → IsCommon e → (after_in s (scene s life) e).blew ≡ s.blew
    blew (Opened landed epoch stamp) h = absurd h
    blew Handed h = absurd h
    blew (Kept op) h = absurd h
    blew (Blown passed) h = absurd h
    blew Settled h = absurd h
    blew Down h = absurd h
    blew _ h = refl

    first : (e : Entry) → IsCommon e → (op : Op) → slice_get s.awaiting 0 ≡ Some op → slice_get (after_in s (scene s life) e).awaiting 0 ≡ Some op
    first (Opened landed epoch stamp) h op at = absurd h
    first Handed h op at = absurd h
    first (Kept one) h op at = absurd h
    first (Blown passed) h op at = absurd h
    first Settled h op at = absurd h
    first Down h op at = absurd h
    first (Issued one) h op at = first_more s.awaiting one op at
    first _ h op at = at

    lives : (e : Entry) → IsCommon e → SameLife (Some life) (after_in s (scene s life) e).life
    lives (Opened landed epoch stamp) h = absurd h
    lives Handed h = absurd h
    lives (Kept op) h = absurd h
    lives (Blown passed) h = absurd h
    lives Settled h = absurd h
    lives Down h = absurd h
    lives (Issued op) h = of_issued (Same life) (scene s life) op (refl, refl)
    lives (Served sender message reply) h = of_served (Same life) (scene s life) message reply (refl, refl)
    lives _ h = (refl, refl)

still_none : (s : Manager) (e : Entry) → IsCommon e → Still s (after_where s None e)
still_none s (Opened landed epoch stamp) h = absurd h
still_none s _ h = still_same s

still_where : (s : Manager) (life : Option LifeState) (e : Entry) → s.life ≡ life → IsCommon e → Still s (after_where s life e)
still_where s None e is common = still_none s e common
still_where s (Some life) e is common = still_in s life e is common

still_all : (s : Manager) (es : List Entry) → AllCommon es → Still s (after_all s es)
still_all s [] are = still_same s
still_all s (e ∷ es) are = still_on s (after s e) (after_all (after s e) es) (still_where s s.life e refl are.0) (still_all (after s e) es are.1)

-- the state after a log that others added to
pub state_still : (opening : List Op) (old new : List Entry) → AddsCommon old new → Still (state_after opening old) (state_after opening new)
state_still opening old new adds =
    subst (λ (log : List Entry). Still (state_after opening old) (state_after opening log)) adds.grown
    (subst (λ (s : Manager). Still (state_after opening old) s) (sym (fold-append after (opening_state opening) old adds.added)) (still_all (state_after opening old) adds.added adds.common))

-- THE SCRIPT

-- the current segment closes as it did
pub close_still : (p : Place) (e : Entry) → IsCommon e → close_left (moved p e).segments ≡ close_left p.segments
close_still p (Opened landed epoch stamp) common = absurd common
close_still p Settled common = absurd common
close_still p Down common = absurd common
close_still p (Served sender message reply) common = close_without sender p.segments
close_still p _ common = refl
