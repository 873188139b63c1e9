-- In which order the applications of two trees ended, by the numbers of each end.
use Rattle.std.proofs.Common.{◌≡◌, ℕ, zero, suc, ◌+◌, ◌<◌, ◌≤◌, List, [], ◌∷◌, ◌++◌, Bool, true, false, nat_lt, map, length, get_or, None, Some, is_some, if◌then◌else◌, refl, sym, ◌∙◌, ap, subst, add-one, arith, inl, inr}
use Rattle.std.specs.Prelude.{All, Contains}
use Rattle.std.specs.List.{AllAdjacentBelow}
use Rattle.std.specs.List.Sorted.{IsNonDecreasingBy, IsPermutation}
use Rattle.std.proofs.lemmas.Bool.Decides.{nat_tests}
use Rattle.std.proofs.lemmas.List.{get_or_default}
use Rattle.std.proofs.lemmas.List.Sorted.{All-permutation}
use Rattle.std.proofs.lemmas.List.Elements.{All-contains, All-cons, All-nil, All-weaker, Contains-append_right}
use Rattle.rm_types.specs.declared.ids.AppId.{AppId}
use Rattle.rm_types.specs.declared.records.AppRecord.{AppRecord}
use Rattle.rm_types.specs.Alike.{without_end_order, end_number, ends_before}
use Rattle.rm_types.specs.Ids.{is_app}
use Rattle.rm_types.specs.Records.{record_of}
use Rattle.rm_types.proofs.IdLemmas.{app_itself, same_app}
use Rattle.rm_tree.specs.Numbers.{AreApart}
use Rattle.rm_core.specs.declared.ends.EndNumbers.{EndNumbers}
use Rattle.rm_core.specs.Ends.{AreInStep, EndTogether, IsInStep, IsUp, paired_ends}

-- NUMBERS THAT RISE

up_on : (a b c : EndNumbers) → IsUp a b → IsUp b c → IsUp a c
up_on a b c (inl p) (inl q) = inl (omega (arith, p.0, q.0), omega (arith, p.1, q.1))
up_on a b c (inl p) (inr q) = inl (omega (arith, p.0, q.0), omega (arith, p.1, q.1))
up_on a b c (inr p) (inl q) = inl (omega (arith, p.0, q.0), omega (arith, p.1, q.1))
up_on a b c (inr p) (inr q) = inr (p.0 ∙ q.0, p.1 ∙ q.1)

step_up : (a b : EndNumbers) → IsUp a b → IsInStep a b
step_up a b (inl p) = let one = p.0 in let other = p.1 in grind (arith, nat_tests)
step_up a b (inr p) = let one = p.0 in let other = p.1 in grind (arith, nat_tests)

step_down : (a b : EndNumbers) → IsUp a b → IsInStep b a
step_down a b (inl p) = let one = p.0 in let other = p.1 in grind (arith, nat_tests)
step_down a b (inr p) = let one = p.0 in let other = p.1 in grind (arith, nat_tests)

itself : (a : EndNumbers) → IsInStep a a
itself a = grind (arith, nat_tests)

-- two in step of which the first has no higher number
up_of : (a b : EndNumbers) → a.one ≤ b.one → IsInStep a b → IsInStep b a → IsUp a b
up_of a b le there back = by (nat_lt a.one b.one) refl
  where
    by : (t : Bool) → nat_lt a.one b.one ≡ t → IsUp a b
    by true e =
        let f : nat_lt a.other b.other ≡ true = sym there ∙ e in
        inl (grind (arith, nat_tests), grind (arith, nat_tests))
    by false e =
        let same : a.one ≡ b.one = grind (arith, nat_tests) in
        let f : nat_lt a.other b.other ≡ false = sym there ∙ e in
        let g : nat_lt b.one a.one ≡ false = grind (arith, nat_tests) in
        let k : nat_lt b.other a.other ≡ false = sym back ∙ g in
        inr (same, grind (arith, nat_tests))

module _ (ends : List EndNumbers) where
  -- each rises over all before it
  far_up : AllAdjacentBelow IsUp ends (length ends) → (j i : ℕ) (d : EndNumbers) → i < j → j < length ends → IsUp (get_or ends i d) (get_or ends j d)
  far_up near zero i d under within = absurd (omega (arith, under))
  far_up near (suc j) i d under within = by (nat_lt i j) refl (λ below. far_up near j i d below (omega (arith, within)))
    where
      last : IsUp (get_or ends j d) (get_or ends (suc j) d)
      last = subst (λ (n : ℕ). IsUp (get_or ends j d) (get_or ends n d)) (add-one j) (near j d (omega (arith, within)))

      by : (t : Bool) → nat_lt i j ≡ t → (i < j → IsUp (get_or ends i d) (get_or ends j d)) → IsUp (get_or ends i d) (get_or ends (suc j) d)
      by true e more = let below : i < j = grind (arith, nat_tests) in up_on (get_or ends i d) (get_or ends j d) (get_or ends (suc j) d) (more below) last
      by false e more = let same : i ≡ j = grind (arith, nat_tests) in subst (λ (n : ℕ). IsUp (get_or ends n d) (get_or ends (suc j) d)) (sym same) last

  pub step_of_up : AllAdjacentBelow IsUp ends (length ends) → AreInStep ends
  step_of_up near = λ k d under m e within. subst (λ (x : EndNumbers). IsInStep (get_or ends k d) x) (get_or_default ends m d e within) (by k m d under within (nat_lt k m) refl (nat_lt m k) refl)
    where
      by : (k m : ℕ) (d : EndNumbers) → k < length ends → m < length ends → (s : Bool) → nat_lt k m ≡ s → (t : Bool) → nat_lt m k ≡ t → IsInStep (get_or ends k d) (get_or ends m d)
      by k m d under within true e t f = step_up (get_or ends k d) (get_or ends m d) (far_up near m k d (grind (arith, nat_tests)) within)
      by k m d under within false e true f = step_down (get_or ends m d) (get_or ends k d) (far_up near k m d (grind (arith, nat_tests)) under)
      by k m d under within false e false f =
          let same : k ≡ m = grind (arith, nat_tests) in
          subst (λ (n : ℕ). IsInStep (get_or ends k d) (get_or ends n d)) same (itself (get_or ends k d))

  pub up_of_step : AreInStep ends → IsNonDecreasingBy (λ (end : EndNumbers). end.one) ends → (k : ℕ) (d : EndNumbers) → k + 1 < length ends → IsUp (get_or ends k d) (get_or ends (k + 1) d)
  up_of_step all sorted k d under =
      up_of (get_or ends k d) (get_or ends (k + 1) d) (sorted k (k + 1) d (omega arith) under) (all k d (omega (arith, under)) (k + 1) d under) (all (k + 1) d under k d (omega (arith, under)))

-- THE NUMBERS OF EACH END

-- both lists have an end under these numbers
pub record IsEndOf (apps others : List AppRecord) (id : AppId) (end : EndNumbers) : Type 0 where
  pub one : end_number (record_of apps id) ≡ Some end.one
  pub other : end_number (record_of others id) ≡ Some end.other

pub record HasEnd (apps others : List AppRecord) (end : EndNumbers) : Type 0 where
  pub id : AppId
  pub is : IsEndOf apps others id end

-- an application has ended in both lists or in neither
data Found (apps others : List AppRecord) (id : AppId) : Type 0 where
  unended : end_number (record_of apps id) ≡ None → end_number (record_of others id) ≡ None → Found apps others id
  ended : (end : EndNumbers) → Contains (paired_ends apps others) end → IsEndOf apps others id end → Found apps others id

-- the numbers of the first ends
abbrev pub front : AppRecord → AppRecord → List EndNumbers → List EndNumbers
front app other rest = if is_some app.ending then record { one = app.end_order; other = other.end_order } ∷ rest else rest

pub front_some : (app other : AppRecord) (rest : List EndNumbers) → is_some app.ending ≡ true → front app other rest ≡ record { one = app.end_order; other = other.end_order } ∷ rest
front_some app other rest e = rw e refl

pub front_none : (app other : AppRecord) (rest : List EndNumbers) → is_some app.ending ≡ false → front app other rest ≡ rest
front_none app other rest e = rw e refl

contains_rest : (app other : AppRecord) (rest : List EndNumbers) (end : EndNumbers) → Contains rest end → Contains (front app other rest) end
contains_rest app other rest end has = by (is_some app.ending) refl
  where
    by : (t : Bool) → is_some app.ending ≡ t → Contains (front app other rest) end
    by true e = rw e (Contains-append_right (record { one = app.end_order; other = other.end_order } ∷ []) rest end has)
    by false e = rw e has

module _ (app other : AppRecord) (apps others : List AppRecord) (same : without_end_order app ≡ without_end_order other) where
  same_id : app.id ≡ other.id
  same_id = ap (λ (a : AppRecord). a.id) same

  same_ending : app.ending ≡ other.ending
  same_ending = ap (λ (a : AppRecord). a.ending) same

  found_here : (id : AppId) → is_app app.id id ≡ true → Found (app ∷ apps) (other ∷ others) id
  found_here id is = by (is_some app.ending) refl
    where
      also : is_app other.id id ≡ true
      also = ap (λ (a : AppId). is_app a id) (sym same_id) ∙ is

      by : (t : Bool) → is_some app.ending ≡ t → Found (app ∷ apps) (other ∷ others) id
      by true e =
          ended (record { one = app.end_order; other = other.end_order }) (rw e (0, omega arith, refl))
          (record { one = rw (is, e) refl; other = rw (also, sym (ap (λ (x : _). is_some x) same_ending) ∙ e) refl })
      by false e = unended (rw (is, e) refl) (rw (also, sym (ap (λ (x : _). is_some x) same_ending) ∙ e) refl)

  found_there : (id : AppId) → is_app app.id id ≡ false → Found apps others id → Found (app ∷ apps) (other ∷ others) id
  found_there id not_it = by
    where
      also : is_app other.id id ≡ false
      also = ap (λ (a : AppId). is_app a id) (sym same_id) ∙ not_it

      by : Found apps others id → Found (app ∷ apps) (other ∷ others) id
      by (unended one two) = unended (rw not_it one) (rw also two)
      by (ended end has is) = ended end (contains_rest app other (paired_ends apps others) end has) (record { one = rw not_it is.one; other = rw also is.other })

  -- an end of the rest is one of the whole, where the first is of another application
  end_there : record_of apps app.id ≡ None → (end : EndNumbers) → HasEnd apps others end → HasEnd (app ∷ apps) (other ∷ others) end
  end_there none end has = by (is_app app.id has.id) refl
    where
      by : (t : Bool) → is_app app.id has.id ≡ t → HasEnd (app ∷ apps) (other ∷ others) end
      by true e =
          let gone : end_number (record_of apps has.id) ≡ None = ap (λ (id : AppId). end_number (record_of apps id)) (sym (same_app app.id has.id e)) ∙ ap end_number none in
          absurd (let x = sym gone ∙ has.is.one in cc)
      by false e =
          let also : is_app other.id has.id ≡ false = ap (λ (a : AppId). is_app a has.id) (sym same_id) ∙ e in
          record { id = has.id; is = record { one = rw e has.is.one; other = rw also has.is.other } }

  end_here : is_some app.ending ≡ true → HasEnd (app ∷ apps) (other ∷ others) (record { one = app.end_order; other = other.end_order })
  end_here e =
      let itself : is_app app.id app.id ≡ true = app_itself app.id in
      let also : is_app other.id app.id ≡ true = ap (λ (a : AppId). is_app a app.id) (sym same_id) ∙ itself in
      record { id = app.id; is = record { one = rw (itself, e) refl; other = rw (also, sym (ap (λ (x : _). is_some x) same_ending) ∙ e) refl } }

found : (apps others : List AppRecord) → map without_end_order apps ≡ map without_end_order others → (id : AppId) → Found apps others id
found [] [] same id = unended refl refl
found [] (other ∷ others) same id = cc
found (app ∷ apps) [] same id = cc
found (app ∷ apps) (other ∷ others) same id = by (is_app app.id id) refl (found apps others tails id)
  where
    heads : without_end_order app ≡ without_end_order other
    heads = cc

    tails : map without_end_order apps ≡ map without_end_order others
    tails = cc

    by : (t : Bool) → is_app app.id id ≡ t → Found apps others id → Found (app ∷ apps) (other ∷ others) id
    by true e rest = found_here app other apps others heads id e
    by false e rest = found_there app other apps others heads id e rest

-- each pair of numbers is of an end
each : (apps others : List AppRecord) → AreApart apps → map without_end_order apps ≡ map without_end_order others → All (HasEnd apps others) (paired_ends apps others)
each [] others apart same = All-nil (HasEnd [] others)
each (app ∷ apps) [] apart same = All-nil (HasEnd (app ∷ apps) [])
each (app ∷ apps) (other ∷ others) apart same = by (is_some app.ending) refl (All-weaker (HasEnd apps others) (HasEnd (app ∷ apps) (other ∷ others)) (end_there app other apps others heads apart.0) (paired_ends apps others) (each apps others apart.1 tails))
  where
    heads : without_end_order app ≡ without_end_order other
    heads = cc

    tails : map without_end_order apps ≡ map without_end_order others
    tails = cc

    by : (t : Bool) → is_some app.ending ≡ t → All (HasEnd (app ∷ apps) (other ∷ others)) (paired_ends apps others) → All (HasEnd (app ∷ apps) (other ∷ others)) (front app other (paired_ends apps others))
    by true e rest = rw e (All-cons (HasEnd (app ∷ apps) (other ∷ others)) (record { one = app.end_order; other = other.end_order }) (paired_ends apps others) (end_here app other apps others heads e) rest)
    by false e rest = rw e rest

module _ (apps others : List AppRecord) (apart : AreApart apps) (same : map without_end_order apps ≡ map without_end_order others) where
  pub together_of : AreInStep (paired_ends apps others) → EndTogether apps others
  together_of step first next = by (found apps others same first) (found apps others same next)
    where
      by : Found apps others first → Found apps others next → ends_before apps first next ≡ ends_before others first next
      by (unended one two) f = rw (one, two) refl
      by (ended end has is) (unended one two) = rw (is.one, is.other, one, two) refl
      by (ended end has is) (ended late there at_) =
          rw (is.one, is.other, at_.one, at_.other) (All-contains (IsInStep end) (paired_ends apps others) late (All-contains (λ (e : EndNumbers). All (IsInStep e) (paired_ends apps others)) (paired_ends apps others) end step has) there)

  step_two : EndTogether apps others → (end late : EndNumbers) → HasEnd apps others end → HasEnd apps others late → IsInStep end late
  step_two together end late one two = let t = together one.id two.id in rw (one.is.one, one.is.other, two.is.one, two.is.other) at t

  pub step_of_together : EndTogether apps others → AreInStep (paired_ends apps others)
  step_of_together together = λ k d under m e within.
      step_two together (get_or (paired_ends apps others) k d) (get_or (paired_ends apps others) m e) (each apps others apart same k d under) (each apps others apart same m e within)

-- one more application of both lists
pub paired_push : (apps others : List AppRecord) (app other : AppRecord) → length apps ≡ length others → paired_ends (apps ++ app ∷ []) (others ++ other ∷ []) ≡ paired_ends apps others ++ front app other []
paired_push [] [] app other long = refl
paired_push [] (two ∷ others) app other long = cc
paired_push (one ∷ apps) [] app other long = cc
paired_push (one ∷ apps) (two ∷ others) app other long = by (is_some one.ending) refl (paired_push apps others app other (omega (arith, long)))
  where
    by : (t : Bool) → is_some one.ending ≡ t → paired_ends (apps ++ app ∷ []) (others ++ other ∷ []) ≡ paired_ends apps others ++ front app other []
        → front one two (paired_ends (apps ++ app ∷ []) (others ++ other ∷ [])) ≡ front one two (paired_ends apps others) ++ front app other []
    by true e more = rw e (ap (λ (l : List EndNumbers). record { one = one.end_order; other = two.end_order } ∷ l) more)
    by false e more = rw e more

-- ends in another order are in step likewise
pub moved_step : (ends others : List EndNumbers) → IsPermutation ends others → AreInStep ends → AreInStep others
moved_step ends others moved step =
    All-permutation (λ (e : EndNumbers). All (IsInStep e) others) ends others moved
    (All-weaker (λ (e : EndNumbers). All (IsInStep e) ends) (λ (e : EndNumbers). All (IsInStep e) others) (λ e all. All-permutation (IsInStep e) ends others moved all) ends step)
