-- A run with one more entry.
use Rattle.rm_lives.proofs.Common.{◌≢◌, List, [], ◌∷◌, ◌++◌, Bool, true, false, None, Some, Option, refl, sym, ◌∙◌, ap, subst, append-nil, append_assoc, fold_push, Entry, Blown, Op, lane_of_entry, Close, Script, Settings, Fallen, Manager, LifeState, opening_state, after, after_where, state_after, Place, close_left, Seen, as_new, DeskView}
use Rattle.std.proofs.Common.{◌≡◌}
use Rattle.std.specs.List.{fold}
use Rattle.std.specs.Prelude.{slice_get}
use Rattle.rm_types.specs.declared.entries.Entry.TheVariants.{Opened, Issued, Handed, Kept as KeptEntry, Served, Accepted, Queued, Absorbed, Pass, Ordered, Ended, Settled, Down, Quiet}
use Rattle.rm_types.specs.declared.messages.Lane.TheVariants as lanes
use Rattle.rm_model.specs.Changes.{after_all}
use Rattle.rm_model.specs.Downs.{AllGoDownAtRest, GoesDownAtRest}
use Rattle.rm_model.specs.Lawful.{place_after}
use Rattle.rm_model.specs.Place.{beginning, moved}
use Rattle.rm_desk.specs.Runs.{IsScriptRun as GoesAlong}
use Rattle.rm_desk.proofs.Longer.{IsOwn, own_silent}
use Rattle.rm_lives.specs.Falls.{falls_at, falls_from}
use Rattle.rm_lives.specs.Goes.{IsRun}
use Rattle.rm_lives.specs.Order.{Order}

-- a life that goes down at rest may be added
downs-push : (settings : Settings) (s : Manager) (log : List Entry) (e : Entry) → AllGoDownAtRest settings s log → GoesDownAtRest settings (after_all s log) (after_all s log).life e
    → AllGoDownAtRest settings s (log ++ e ∷ [])
downs-push settings s [] e h a = (a, tt)
downs-push settings s (x ∷ log) e h a = (h.0, downs-push settings (after s x) log e h.1 a)

falls-push : (s : Manager) (p : Place) (log : List Entry) (e : Entry)
    → falls_from s p (log ++ e ∷ []) ≡ falls_from s p log ++ falls_at e (after_all s log).life (close_left (fold moved p log).segments)
falls-push s p [] e = append-nil (falls_at e s.life (close_left p.segments))
falls-push s p (x ∷ log) e =
    ap (λ (l : List Fallen). falls_at x s.life (close_left p.segments) ++ l) (falls-push (after s x) (moved p x) log e)
    ∙ sym (append_assoc (falls_at x s.life (close_left p.segments)) (falls_from (after s x) (moved p x) log) (falls_at e (after_all (after s x) log).life (close_left (fold moved (moved p x) log).segments)))

-- the run with one more entry, at which so much falls
pub one_more : {order : Order} (opening : List Op) (script : Script) (fallen more : List Fallen) (d next : DeskView) (e : Entry) → IsRun order opening script fallen d → GoesAlong opening script next
    → next.core.settings ≡ d.core.settings → as_new next.core ≡ as_new d.core → (order.keeps (as_new d.core) script opening d.core.log → order.keeps (as_new d.core) script opening (d.core.log ++ e ∷ [])) → next.core.log ≡ d.core.log ++ e ∷ []
    → (order.rests → GoesDownAtRest d.core.settings (state_after opening d.core.log) (state_after opening d.core.log).life e)
    → falls_at e (state_after opening d.core.log).life (close_left d.place.segments) ≡ more → IsRun order opening script (fallen ++ more) next
one_more {order} opening script fallen more d next e run goes settings began keeps added down falls =
    let log = d.core.log in
    let fell : falls_from (opening_state opening) (beginning script) (log ++ e ∷ []) ≡ fallen ++ more =
    falls-push (opening_state opening) (beginning script) log e
    ∙ ap (λ (l : List Fallen). l ++ falls_at e (state_after opening log).life (close_left (place_after script log).segments)) run.falls
    ∙ ap (λ (p : Place). fallen ++ falls_at e (state_after opening log).life (close_left p.segments)) run.goes.along.at
    ∙ ap (λ (l : List Fallen). fallen ++ l) falls in
    record {
      goes = goes;
      downs = λ rests. rw (settings, added) (downs-push d.core.settings (opening_state opening) log e (run.downs rests) (down rests));
      falls = subst (λ (l : List Entry). falls_from (opening_state opening) (beginning script) l ≡ fallen ++ more) (sym added) fell;
      moves = subst (λ (new : Seen). order.keeps new script opening next.core.log) (sym began)
          (subst (λ (l : List Entry). order.keeps (as_new d.core) script opening l) (sym added) (keeps run.moves));
    }

-- entries by which nothing is kept or refused, no life begins and none goes down
abbrev pub is_plain : Entry → Bool
is_plain (Opened landed epoch stamp) = false
is_plain (KeptEntry op) = false
is_plain (Blown passed) = false
is_plain Down = false
is_plain _ = true

-- nothing falls at an entry by which no life goes down
pub falls_none : (e : Entry) (life : Option LifeState) (close : Option Close) → e ≢ Down → falls_at e life close ≡ []
falls_none (Issued op) life close h = refl
falls_none Handed life close h = refl
falls_none (Blown passed) life close h = refl
falls_none (Served sender message reply) life close h = refl
falls_none (Accepted app) life close h = refl
falls_none (Queued attempt) life close h = refl
falls_none (Absorbed node taken ended) life close h = refl
falls_none (Pass node grants) life close h = refl
falls_none (Ordered container node) life close h = refl
falls_none (Ended cause list) life close h = refl
falls_none Settled life close h = refl
falls_none (Quiet lane) life close h = refl
falls_none (Opened landed epoch stamp) life close h = refl
falls_none (KeptEntry op) life close h = refl
falls_none Down life close h = absurd (h refl)

-- and no life has to be at rest there
pub no_down : (e : Entry) (settings : Settings) (s : Manager) (life : Option LifeState) → e ≢ Down → GoesDownAtRest settings s life e
no_down e settings s None h = tt
no_down (Issued op) settings s (Some life) h = tt
no_down Handed settings s (Some life) h = tt
no_down (Blown passed) settings s (Some life) h = tt
no_down (Served sender message reply) settings s (Some life) h = tt
no_down (Accepted app) settings s (Some life) h = tt
no_down (Queued attempt) settings s (Some life) h = tt
no_down (Absorbed node taken ended) settings s (Some life) h = tt
no_down (Pass node grants) settings s (Some life) h = tt
no_down (Ordered container node) settings s (Some life) h = tt
no_down (Ended cause list) settings s (Some life) h = tt
no_down Settled settings s (Some life) h = tt
no_down (Quiet lane) settings s (Some life) h = tt
no_down (Opened landed epoch stamp) settings s (Some life) h = tt
no_down (KeptEntry op) settings s (Some life) h = tt
no_down Down settings s (Some life) h = absurd (h refl)

kept_none : (e : Entry) (s : Manager) → is_plain e ≡ true → (after_where s None e).kept ≡ s.kept
kept_none (Issued op) s h = refl
kept_none Handed s h = refl
kept_none (Blown passed) s h = cc
kept_none (Served sender message reply) s h = refl
kept_none (Accepted app) s h = refl
kept_none (Queued attempt) s h = refl
kept_none (Absorbed node taken ended) s h = refl
kept_none (Pass node grants) s h = refl
kept_none (Ordered container node) s h = refl
kept_none (Ended cause list) s h = refl
kept_none Settled s h = refl
kept_none (Quiet lane) s h = refl
kept_none (Opened landed epoch stamp) s h = cc
kept_none (KeptEntry op) s h = cc
kept_none Down s h = cc

kept_some : (e : Entry) (s : Manager) (life : LifeState) → is_plain e ≡ true → (after_where s (Some life) e).kept ≡ s.kept
kept_some (Issued op) s life h = refl
kept_some Handed s life h = refl
kept_some (Blown passed) s life h = cc
kept_some (Served sender message reply) s life h = refl
kept_some (Accepted app) s life h = refl
kept_some (Queued attempt) s life h = refl
kept_some (Absorbed node taken ended) s life h = refl
kept_some (Pass node grants) s life h = refl
kept_some (Ordered container node) s life h = refl
kept_some (Ended cause list) s life h = refl
kept_some Settled s life h = refl
kept_some (Quiet lane) s life h = refl
kept_some (Opened landed epoch stamp) s life h = cc
kept_some (KeptEntry op) s life h = cc
kept_some Down s life h = cc

kept_where : (e : Entry) (s : Manager) (life : Option LifeState) → is_plain e ≡ true → (after_where s life e).kept ≡ s.kept
kept_where e s None h = kept_none e s h
kept_where e s (Some life) h = kept_some e s life h

-- what is kept stays
pub kept_stays : (opening : List Op) (log : List Entry) (e : Entry) → is_plain e ≡ true → (state_after opening (log ++ e ∷ [])).kept ≡ (state_after opening log).kept
kept_stays opening log e h =
    ap (λ (s : Manager). s.kept) (fold_push after (opening_state opening) log e) ∙ kept_where e (state_after opening log) (state_after opening log).life h

-- and what awaits first does so still
pub first_more : (ops : List Op) (more op : Op) → slice_get ops 0 ≡ Some op → slice_get (ops ++ more ∷ []) 0 ≡ Some op
first_more [] more op h = cc
first_more (one ∷ ops) more op h = h

first_where : (e : Entry) (s : Manager) (life : Option LifeState) → is_plain e ≡ true → (op : Op) → slice_get s.awaiting 0 ≡ Some op → slice_get (after_where s life e).awaiting 0 ≡ Some op
first_where (Opened landed epoch stamp) s life plain op h = cc
first_where (KeptEntry one) s life plain op h = cc
first_where (Blown passed) s life plain op h = cc
first_where Down s life plain op h = cc
first_where (Issued one) s None plain op h = h
first_where (Issued one) s (Some life) plain op h = first_more s.awaiting one op h
first_where Handed s None plain op h = h
first_where Handed s (Some life) plain op h = h
first_where (Served sender message reply) s None plain op h = h
first_where (Served sender message reply) s (Some life) plain op h = h
first_where (Accepted app) s None plain op h = h
first_where (Accepted app) s (Some life) plain op h = h
first_where (Queued attempt) s None plain op h = h
first_where (Queued attempt) s (Some life) plain op h = h
first_where (Absorbed node taken ended) s None plain op h = h
first_where (Absorbed node taken ended) s (Some life) plain op h = h
first_where (Pass node grants) s None plain op h = h
first_where (Pass node grants) s (Some life) plain op h = h
first_where (Ordered container node) s None plain op h = h
first_where (Ordered container node) s (Some life) plain op h = h
first_where (Ended cause list) s None plain op h = h
first_where (Ended cause list) s (Some life) plain op h = h
first_where Settled s None plain op h = h
first_where Settled s (Some life) plain op h = h
first_where (Quiet lane) s None plain op h = h
first_where (Quiet lane) s (Some life) plain op h = h

pub first_stays : (opening : List Op) (log : List Entry) (e : Entry) → is_plain e ≡ true → (op : Op) → slice_get (state_after opening log).awaiting 0 ≡ Some op → slice_get (state_after opening (log ++ e ∷ [])).awaiting 0 ≡ Some op
first_stays opening log e plain op h =
    let s = state_after opening log in
    ap (λ (m : Manager). slice_get m.awaiting 0) (fold_push after (opening_state opening) log e) ∙ first_where e s s.life plain op h

-- of the manager's own entries no life begins or goes down, and nothing is kept
own_plain : (e : Entry) → IsOwn (lane_of_entry e) → is_plain e ≡ true
own_plain (Issued op) h = refl
own_plain Handed h = refl
own_plain (Accepted app) h = refl
own_plain (Queued attempt) h = refl
own_plain (Absorbed node taken ended) h = refl
own_plain (Pass node grants) h = refl
own_plain (Ordered container node) h = refl
own_plain (Ended cause list) h = refl
own_plain (Quiet lane) h = refl
own_plain (Opened landed epoch stamp) h = absurd h
own_plain (KeptEntry op) h = absurd h
own_plain (Blown passed) h = absurd h
own_plain (Served sender message reply) h = refl
own_plain Settled h = refl
own_plain Down h = absurd h

pub plain_stands : (e : Entry) → is_plain e ≡ true → e ≢ Down
plain_stands e h = λ is. let no = ap is_plain is in let x = sym h ∙ no in cc

-- what a lane's move adds where neither the store nor the script has a part in it
pub record IsQuiet (e : Entry) : Type 0 where
  pub plain : is_plain e ≡ true
  pub stays : (p : Place) → moved p e ≡ p

own_quiet : (e : Entry) → IsOwn (lane_of_entry e) → IsQuiet e
own_quiet e own = record { plain = own_plain e own; stays = (own_silent e own).stays }

pub main_quiet : (e : Entry) → lane_of_entry e ≡ lanes.Main → IsQuiet e
main_quiet e is = own_quiet e (subst IsOwn (sym is) tt)

pub sched_quiet : (e : Entry) → lane_of_entry e ≡ lanes.Sched → IsQuiet e
sched_quiet e is = own_quiet e (subst IsOwn (sym is) tt)

pub hand_quiet : (e : Entry) → e ≡ Handed → IsQuiet e
hand_quiet e is = subst IsQuiet (sym is) (own_quiet Handed tt)
