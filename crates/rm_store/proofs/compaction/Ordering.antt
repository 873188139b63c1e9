-- The numbers of the ends stand in the order in which the applications ended, and folding keeps it.
use Rattle.rm_store.proofs.Common.{◌≡◌, ℕ, Bool, true, false, List, [], ◌∷◌, ◌++◌, map, filter, fold, not, ◌&&◌, Option, None, Some, is_some, refl, sym, ◌∙◌, ap, subst, arith, if◌then◌else◌, ◌<◌, option_map, ◌+◌, nat_tests, AppId, Op, Epoch, App, Attempt, AttemptEnd, AppEnd, Remove, AppRecord, is_app, Records, record_of, with_record, with_end, recorded, no_records, records, folded, IsAlike}
use Rattle.std.proofs.Common.{◌||◌, nat_lt}
use Rattle.std.specs.List.{list_any}
use Rattle.rm_types.specs.declared.operations.Submission.{Submission}
use Rattle.rm_types.specs.Records.{new_record, apps_recorded}
use Rattle.rm_store.specs.compaction.Amounts.{Amounts, amounted, amounts, no_amounts, completed_after}
use Rattle.rm_types.specs.Alike.{without_end_order, end_number, is_lower, ends_before}
use Rattle.rm_store.proofs.compaction.Folded.{Tells, tells_more, bare_found, folded_amounts}

apart : (x id a : AppId) → is_app x id ≡ true → is_app a id ≡ false → is_app x a ≡ false
apart x id a e f = grind (arith, nat_tests)

joined : (x id a : AppId) → is_app x id ≡ true → is_app x a ≡ true → is_app id a ≡ true
joined x id a e f = grind (arith, nat_tests)

turned : (a b : AppId) → is_app a b ≡ false → is_app b a ≡ false
turned a b e = grind (arith, nat_tests)

-- an application stands in a list
abbrev has : List AppId → AppId → Bool
has ids a = list_any (λ one. is_app one a) ids

-- behind the last place of the one stands the other
abbrev before : List AppId → AppId → AppId → Bool
before [] a b = false
before (x ∷ xs) a b = if has xs a then before xs a b else is_app x a && has xs b

and_false : (b : Bool) → b && false ≡ false
and_false true = refl
and_false false = refl

has_push : (ids : List AppId) (id a : AppId) → has (ids ++ id ∷ []) a ≡ has ids a || is_app id a
has_push [] id a = by (is_app id a)
  where
    by : (b : Bool) → b || false ≡ b
    by true = refl
    by false = refl
has_push (x ∷ xs) id a = by (is_app x a) refl (has_push xs id a)
  where
    by : (b : Bool) → is_app x a ≡ b → has (xs ++ id ∷ []) a ≡ has xs a || is_app id a → has ((x ∷ xs) ++ id ∷ []) a ≡ has (x ∷ xs) a || is_app id a
    by true e h = rw e refl
    by false e h = rw e h

or_false : (b : Bool) → b || false ≡ b
or_false true = refl
or_false false = refl

or_true : (b : Bool) → b || true ≡ true
or_true true = refl
or_true false = refl

has_apart : (ids : List AppId) (id a : AppId) → is_app id a ≡ false → has (ids ++ id ∷ []) a ≡ has ids a
has_apart ids id a e = has_push ids id a ∙ ap (λ (b : Bool). has ids a || b) e ∙ or_false (has ids a)

has_there : (ids : List AppId) (id a : AppId) → is_app id a ≡ true → has (ids ++ id ∷ []) a ≡ true
has_there ids id a e = has_push ids id a ∙ ap (λ (b : Bool). has ids a || b) e ∙ or_true (has ids a)

none_before : (ids : List AppId) (a b : AppId) → has ids a ≡ false → before ids a b ≡ false
none_before [] a b none = refl
none_before (x ∷ xs) a b none = by (is_app x a) refl
  where
    by : (c : Bool) → is_app x a ≡ c → before (x ∷ xs) a b ≡ false
    by true e = absurd (let n = rw e at none in cc)
    by false e = let n = rw e at none in rw (n, e) refl

push_first : (ids : List AppId) (id a b : AppId) → is_app id a ≡ true → before (ids ++ id ∷ []) a b ≡ false
push_first [] id a b e = rw e refl
push_first (x ∷ xs) id a b e = rw (has_there xs id a e) (push_first xs id a b e)

push_last : (ids : List AppId) (id a b : AppId) → is_app id b ≡ true → is_app id a ≡ false → before (ids ++ id ∷ []) a b ≡ has ids a
push_last [] id a b e f = rw f refl
push_last (x ∷ xs) id a b e f = by (has xs a) refl (is_app x a) refl (push_last xs id a b e f)
  where
    by : (c : Bool) → has xs a ≡ c → (d : Bool) → is_app x a ≡ d → before (xs ++ id ∷ []) a b ≡ has xs a → before ((x ∷ xs) ++ id ∷ []) a b ≡ has (x ∷ xs) a
    by true g true h more = rw (has_apart xs id a f ∙ g, h) (more ∙ g)
    by true g false h more = rw (has_apart xs id a f ∙ g, h) more
    by false g true h more = rw (has_apart xs id a f ∙ g, h) (has_there xs id b e)
    by false g false h more = rw (has_apart xs id a f ∙ g, h) (sym g)

push_apart : (ids : List AppId) (id a b : AppId) → is_app id a ≡ false → is_app id b ≡ false → before (ids ++ id ∷ []) a b ≡ before ids a b
push_apart [] id a b e f = rw e refl
push_apart (x ∷ xs) id a b e f = by (has xs a) refl (push_apart xs id a b e f)
  where
    by : (c : Bool) → has xs a ≡ c → before (xs ++ id ∷ []) a b ≡ before xs a b → before ((x ∷ xs) ++ id ∷ []) a b ≡ before (x ∷ xs) a b
    by true g more = rw (has_apart xs id a e ∙ g, g) more
    by false g more = rw (has_apart xs id a e ∙ g, g) (ap (λ (c : Bool). is_app x a && c) (has_apart xs id b f))

-- without those of one application
abbrev without : AppId → List AppId → List AppId
without id ids = filter (λ one. not (is_app one id)) ids

has_without : (id : AppId) (ids : List AppId) (a : AppId) → is_app a id ≡ false → has (without id ids) a ≡ has ids a
has_without id [] a other = refl
has_without id (x ∷ xs) a other = by (is_app x id) refl (has_without id xs a other)
  where
    by : (b : Bool) → is_app x id ≡ b → has (without id xs) a ≡ has xs a → has (without id (x ∷ xs)) a ≡ has (x ∷ xs) a
    by true e h = rw (e, apart x id a e other) h
    by false e h = rw e (ap (λ (c : Bool). is_app x a || c) h)

before_without : (id : AppId) (ids : List AppId) (a b : AppId) → is_app a id ≡ false → is_app b id ≡ false → before (without id ids) a b ≡ before ids a b
before_without id [] a b one two = refl
before_without id (x ∷ xs) a b one two = by (is_app x id) refl (has xs a) refl (before_without id xs a b one two)
  where
    by : (c : Bool) → is_app x id ≡ c → (d : Bool) → has xs a ≡ d → before (without id xs) a b ≡ before xs a b → before (without id (x ∷ xs)) a b ≡ before (x ∷ xs) a b
    by true e true f h = rw (e, f) h
    by true e false f h = rw (e, f, apart x id a e one) (h ∙ none_before xs a b f)
    by false e true f h = rw e (rw (has_without id xs a one ∙ f, f) h)
    by false e false f h = rw e (rw (has_without id xs a one ∙ f, f) (ap (λ (c : Bool). is_app x a && c) (has_without id xs b two)))

-- the number of an application's end among records
abbrev end_of : List AppRecord → AppId → Option ℕ
end_of apps a = end_number (record_of apps a)

end_new : (apps : List AppRecord) (id : AppId) (submission : Submission) (a : AppId) → end_of (apps ++ new_record id submission ∷ []) a ≡ end_of apps a
end_new [] id submission a = by (is_app id a) refl
  where
    by : (b : Bool) → is_app id a ≡ b → end_of (new_record id submission ∷ []) a ≡ None
    by true e = rw e refl
    by false e = rw e refl
end_new (app ∷ apps) id submission a = by (is_app app.id a) refl (end_new apps id submission a)
  where
    by : (b : Bool) → is_app app.id a ≡ b → end_of (apps ++ new_record id submission ∷ []) a ≡ end_of apps a → end_of ((app ∷ apps) ++ new_record id submission ∷ []) a ≡ end_of (app ∷ apps) a
    by true e h = rw e refl
    by false e h = rw e h

module _ (change : AppRecord → AppRecord) (keeps : (app : AppRecord) → (change app).id ≡ app.id) where
  -- a change that keeps the end
  end_kept : ((app : AppRecord) → end_number (Some (change app)) ≡ end_number (Some app)) → (id : AppId) (apps : List AppRecord) (a : AppId) → end_of (with_record change id apps) a ≡ end_of apps a
  end_kept same id [] a = refl
  end_kept same id (app ∷ apps) a = by (is_app app.id id) refl (is_app app.id a) refl (end_kept same id apps a)
    where
      by : (b : Bool) → is_app app.id id ≡ b → (c : Bool) → is_app app.id a ≡ c → end_of (with_record change id apps) a ≡ end_of apps a → end_of (with_record change id (app ∷ apps)) a ≡ end_of (app ∷ apps) a
      by true e true f h = let g : is_app (change app).id a ≡ true = ap (λ (i : AppId). is_app i a) (keeps app) ∙ f in rw (e, f) (rw g (same app))
      by true e false f h = let g : is_app (change app).id a ≡ false = ap (λ (i : AppId). is_app i a) (keeps app) ∙ f in rw (e, f) (rw g h)
      by false e true f h = rw (e, f) refl
      by false e false f h = rw (e, f) h

  -- a change of another application
  end_apart : (id : AppId) (apps : List AppRecord) (a : AppId) → is_app id a ≡ false → end_of (with_record change id apps) a ≡ end_of apps a
  end_apart id [] a other = refl
  end_apart id (app ∷ apps) a other = by (is_app app.id id) refl (is_app app.id a) refl (end_apart id apps a other)
    where
      by : (b : Bool) → is_app app.id id ≡ b → (c : Bool) → is_app app.id a ≡ c → end_of (with_record change id apps) a ≡ end_of apps a → end_of (with_record change id (app ∷ apps)) a ≡ end_of (app ∷ apps) a
      by true e true f h = absurd (let j = joined app.id id a e f in cc)
      by true e false f h = let g : is_app (change app).id a ≡ false = ap (λ (i : AppId). is_app i a) (keeps app) ∙ f in rw (e, f) (rw g h)
      by false e true f h = rw (e, f) refl
      by false e false f h = rw (e, f) h

  -- a change that sets the number of the end
  end_set : (number : ℕ) → ((app : AppRecord) → end_number (Some (change app)) ≡ Some number) → (id : AppId) (apps : List AppRecord) (a : AppId) (n : ℕ) → is_app id a ≡ true → end_of (with_record change id apps) a ≡ Some n → n ≡ number
  end_set number sets id [] a n is there = absurd cc
  end_set number sets id (app ∷ apps) a n is there = by (is_app app.id id) refl (is_app app.id a) refl (end_set number sets id apps a n is)
    where
      some_same : Some n ≡ Some number → n ≡ number
      some_same e = cc

      by : (b : Bool) → is_app app.id id ≡ b → (c : Bool) → is_app app.id a ≡ c → (end_of (with_record change id apps) a ≡ Some n → n ≡ number) → n ≡ number
      by true e true f h =
          let g : is_app (change app).id a ≡ true = ap (λ (i : AppId). is_app i a) (keeps app) ∙ f in
          let t : end_number (Some (change app)) ≡ Some n = (let x = rw e at there in rw g at x) in
          some_same (sym t ∙ sets app)
      by true e false f h =
          let g : is_app (change app).id a ≡ false = ap (λ (i : AppId). is_app i a) (keeps app) ∙ f in
          h (let x = rw e at there in rw g at x)
      by false e true f h = absurd (let j = not_joined app.id id a is f e in j)
        where
          not_joined : (x id a : AppId) → is_app id a ≡ true → is_app x a ≡ true → is_app x id ≡ false → ⊥
          not_joined x id a e f g = grind (arith, nat_tests)
      by false e false f h = h (let x = rw e at there in rw f at x)

end_left : (id : AppId) (apps : List AppRecord) (a : AppId) → is_app a id ≡ false → end_of (filter (λ app. not (is_app app.id id)) apps) a ≡ end_of apps a
end_left id [] a other = refl
end_left id (app ∷ apps) a other = by (is_app app.id id) refl (is_app app.id a) refl (end_left id apps a other)
  where
    by : (b : Bool) → is_app app.id id ≡ b → (c : Bool) → is_app app.id a ≡ c → end_of (filter (λ app. not (is_app app.id id)) apps) a ≡ end_of apps a
        → end_of (filter (λ app. not (is_app app.id id)) (app ∷ apps)) a ≡ end_of (app ∷ apps) a
    by true e c f h = rw (e, apart app.id id a e other) h
    by false e true f h = rw (e, f) refl
    by false e false f h = rw (e, f) h

end_gone : (id : AppId) (apps : List AppRecord) (a : AppId) → is_app a id ≡ true → end_of (filter (λ app. not (is_app app.id id)) apps) a ≡ None
end_gone id [] a is = refl
end_gone id (app ∷ apps) a is = by (is_app app.id id) refl (end_gone id apps a is)
  where
    not_it : (x id a : AppId) → is_app a id ≡ true → is_app x id ≡ false → is_app x a ≡ false
    not_it x id a e f = grind (arith, nat_tests)

    by : (b : Bool) → is_app app.id id ≡ b → end_of (filter (λ app. not (is_app app.id id)) apps) a ≡ None → end_of (filter (λ app. not (is_app app.id id)) (app ∷ apps)) a ≡ None
    by true e h = rw e h
    by false e h = rw (e, not_it app.id id a is e) h

-- the numbers of the ends stand as the applications do that have ended
record Ordered (apps : List AppRecord) (applied : ℕ) (ids : List AppId) : Type 0 where
  low : (a : AppId) (n : ℕ) → end_of apps a ≡ Some n → n < applied
  told : (a : AppId) (n : ℕ) → end_of apps a ≡ Some n → has ids a ≡ true
  order : (a b : AppId) (n m : ℕ) → end_of apps a ≡ Some n → end_of apps b ≡ Some m → nat_lt n m ≡ before ids a b

same_order : (apps more : List AppRecord) (applied : ℕ) (ids : List AppId) → ((a : AppId) → end_of more a ≡ end_of apps a) → Ordered apps applied ids → Ordered more (applied + 1) ids
same_order apps more applied ids same o = record {
  low = λ a n is. let l = o.low a n (sym (same a) ∙ is) in omega (arith, l);
  told = λ a n is. o.told a n (sym (same a) ∙ is);
  order = λ a b n m is is'. o.order a b n m (sym (same a) ∙ is) (sym (same b) ∙ is');
}

not_lower : (n m : ℕ) → m < n + 1 → nat_lt n m ≡ false
not_lower n m e = grind (arith, nat_tests)

lower : (n m : ℕ) → n < m → nat_lt n m ≡ true
lower n m e = grind (arith, nat_tests)

order_more : (apps : List AppRecord) (applied : ℕ) (ids : List AppId) (op : Op) → Ordered apps applied ids → Ordered (apps_recorded apps applied op) (applied + 1) (completed_after ids op)
order_more apps applied ids (Epoch next stamp) o = same_order apps apps applied ids (λ a. refl) o
order_more apps applied ids (App id submission) o = same_order apps (apps ++ new_record id submission ∷ []) applied ids (end_new apps id submission) o
order_more apps applied ids (Attempt id master node) o =
    same_order apps (apps_recorded apps applied (Attempt id master node)) applied ids
    (end_kept (λ app. record app { attempts = app.attempts ++ record { id = id; master = master; node = node; ending = None } ∷ [] }) (λ app. refl) (λ app. refl) id.app apps) o
order_more apps applied ids (AttemptEnd id how text) o =
    same_order apps (apps_recorded apps applied (AttemptEnd id how text)) applied ids
    (end_kept (λ app. record app { attempts = map (with_end id how text) app.attempts }) (λ app. refl) (λ app. refl) id.app apps) o
order_more apps applied ids (AppEnd id how text) o = record {
  low = λ a n is. by_low a n is (is_app id a) refl;
  told = λ a n is. by_told a n is (is_app id a) refl;
  order = λ a b n m is is'. by_order a b n m is is' (is_app id a) refl (is_app id b) refl;
}
  where
    change : AppRecord → AppRecord
    change app = record app { ending = Some (how, text); end_order = applied }

    now : List AppRecord
    now = with_record change id apps

    was : (a : AppId) → is_app id a ≡ false → end_of now a ≡ end_of apps a
    was a e = end_apart change (λ app. refl) id apps a e

    is_it : (a : AppId) (n : ℕ) → is_app id a ≡ true → end_of now a ≡ Some n → n ≡ applied
    is_it a n e is = end_set change (λ app. refl) applied (λ app. refl) id apps a n e is

    by_low : (a : AppId) (n : ℕ) → end_of now a ≡ Some n → (b : Bool) → is_app id a ≡ b → n < applied + 1
    by_low a n is true e = let s = is_it a n e is in omega (arith, s)
    by_low a n is false e = let l = o.low a n (sym (was a e) ∙ is) in omega (arith, l)

    by_told : (a : AppId) (n : ℕ) → end_of now a ≡ Some n → (b : Bool) → is_app id a ≡ b → has (ids ++ id ∷ []) a ≡ true
    by_told a n is true e = has_there ids id a e
    by_told a n is false e = has_apart ids id a e ∙ o.told a n (sym (was a e) ∙ is)

    by_order : (a b : AppId) (n m : ℕ) → end_of now a ≡ Some n → end_of now b ≡ Some m → (c : Bool) → is_app id a ≡ c → (d : Bool) → is_app id b ≡ d → nat_lt n m ≡ before (ids ++ id ∷ []) a b
    by_order a b n m is is' true e true f = let s = is_it a n e is in let t = is_it b m f is' in not_lower n m (omega (arith, s, t)) ∙ sym (push_first ids id a b e)
    by_order a b n m is is' true e false f = let s = is_it a n e is in let l = o.low b m (sym (was b f) ∙ is') in not_lower n m (omega (arith, s, l)) ∙ sym (push_first ids id a b e)
    by_order a b n m is is' false e true f =
        let l = o.low a n (sym (was a e) ∙ is) in
        let s = is_it b m f is' in
        lower n m (omega (arith, s, l)) ∙ sym (push_last ids id a b f e ∙ o.told a n (sym (was a e) ∙ is))
    by_order a b n m is is' false e false f = o.order a b n m (sym (was a e) ∙ is) (sym (was b f) ∙ is') ∙ sym (push_apart ids id a b e f)
order_more apps applied ids (Remove id) o = record {
  low = λ a n is. by_low a n is (is_app a id) refl;
  told = λ a n is. by_told a n is (is_app a id) refl;
  order = λ a b n m is is'. by_order a b n m is is' (is_app a id) refl (is_app b id) refl;
}
  where
    now : List AppRecord
    now = filter (λ app. not (is_app app.id id)) apps

    never : (a : AppId) (n : ℕ) → is_app a id ≡ true → end_of now a ≡ Some n → ⊥
    never a n e is = let none = end_gone id apps a e in cc

    by_low : (a : AppId) (n : ℕ) → end_of now a ≡ Some n → (b : Bool) → is_app a id ≡ b → n < applied + 1
    by_low a n is true e = absurd (never a n e is)
    by_low a n is false e = let l = o.low a n (sym (end_left id apps a e) ∙ is) in omega (arith, l)

    by_told : (a : AppId) (n : ℕ) → end_of now a ≡ Some n → (b : Bool) → is_app a id ≡ b → has (without id ids) a ≡ true
    by_told a n is true e = absurd (never a n e is)
    by_told a n is false e = has_without id ids a e ∙ o.told a n (sym (end_left id apps a e) ∙ is)

    by_order : (a b : AppId) (n m : ℕ) → end_of now a ≡ Some n → end_of now b ≡ Some m → (c : Bool) → is_app a id ≡ c → (d : Bool) → is_app b id ≡ d → nat_lt n m ≡ before (without id ids) a b
    by_order a b n m is is' true e d f = absurd (never a n e is)
    by_order a b n m is is' false e true f = absurd (never b m f is')
    by_order a b n m is is' false e false f = o.order a b n m (sym (end_left id apps a e) ∙ is) (sym (end_left id apps b f) ∙ is') ∙ sym (before_without id ids a b e f)

ordered_from : (ops : List Op) (r : Records) (a : Amounts) → Ordered r.apps r.applied a.completed → Ordered (fold recorded r ops).apps (fold recorded r ops).applied (fold amounted a ops).completed
ordered_from [] r a o = o
ordered_from (op ∷ ops) r a o = ordered_from ops (recorded r op) (amounted a op) (order_more r.apps r.applied a.completed op o)

ordered_all : (ops : List Op) → Ordered (records ops).apps (records ops).applied (amounts ops).completed
ordered_all ops = ordered_from ops no_records no_amounts (record { low = λ a n is. absurd cc; told = λ a n is. absurd cc; order = λ a b n m is is'. absurd cc })

tells_from : (ops : List Op) (r : Records) (a : Amounts) → Tells r a → Tells (fold recorded r ops) (fold amounted a ops)
tells_from [] r a t = t
tells_from (op ∷ ops) r a t = tells_from ops (recorded r op) (amounted a op) (tells_more r a op t)

pub tells_all : (ops : List Op) → Tells (records ops) (amounts ops)
tells_all ops = tells_from ops no_records no_amounts (record { epoch = refl; stamp = refl; apps = refl })

-- whether an application has ended doesn't rest on the numbers
ended_bare : (apps : List AppRecord) (a : AppId) → is_some (end_of apps a) ≡ is_some (end_of (map without_end_order apps) a)
ended_bare apps a = by (record_of apps a) ∙ ap (λ (o : Option AppRecord). is_some (end_number o)) (sym (bare_found apps a))
  where
    by : (o : Option AppRecord) → is_some (end_number o) ≡ is_some (end_number (option_map without_end_order o))
    by None = refl
    by (Some app) = if_some (is_some app.ending)
      where
        zero_end : ℕ
        zero_end = 0

        if_some : (b : Bool) → is_some {T = ℕ} (if b then Some app.end_order else None) ≡ is_some {T = ℕ} (if b then Some zero_end else None)
        if_some true = refl
        if_some false = refl

orders_same : (one other : List AppRecord) (n m : ℕ) (ids : List AppId) → Ordered one n ids → Ordered other m ids → map without_end_order one ≡ map without_end_order other → (a b : AppId) → ends_before one a b ≡ ends_before other a b
orders_same one other n m ids o p same a b = by (end_of one a) refl (end_of other a) refl (end_of one b) refl (end_of other b) refl (ended a) (ended b)
  where
    ended : (a : AppId) → is_some (end_of one a) ≡ is_some (end_of other a)
    ended a = ended_bare one a ∙ ap (λ (l : List AppRecord). is_some (end_of l a)) same ∙ sym (ended_bare other a)

    by : (x : Option ℕ) → end_of one a ≡ x → (y : Option ℕ) → end_of other a ≡ y → (z : Option ℕ) → end_of one b ≡ z → (w : Option ℕ) → end_of other b ≡ w
        → is_some (end_of one a) ≡ is_some (end_of other a) → is_some (end_of one b) ≡ is_some (end_of other b) → is_lower (end_of one a) (end_of one b) ≡ is_lower (end_of other a) (end_of other b)
    by None e None f z g w h i j = rw (e, f) refl
    by None e (Some k) f z g w h i j = absurd (let x = sym (ap is_some e) ∙ i ∙ ap is_some f in cc)
    by (Some k) e None f z g w h i j = absurd (let x = sym (ap is_some e) ∙ i ∙ ap is_some f in cc)
    by (Some k) e (Some l) f None g None h i j = rw (e, f, g, h) refl
    by (Some k) e (Some l) f None g (Some q) h i j = absurd (let x = sym (ap is_some g) ∙ j ∙ ap is_some h in cc)
    by (Some k) e (Some l) f (Some q) g None h i j = absurd (let x = sym (ap is_some g) ∙ j ∙ ap is_some h in cc)
    by (Some k) e (Some l) f (Some q) g (Some s) h i j = rw (e, f, g, h) (o.order a b k q e g ∙ sym (p.order a b l s f h))

pub same_amounts : (one other : List Op) → folded one ≡ folded other → amounts one ≡ amounts other
same_amounts one other same = sym (folded_amounts one) ∙ ap amounts same ∙ folded_amounts other

-- lists that are the same once they are folded have records that are alike
pub alike : (one other : List Op) → folded one ≡ folded other → IsAlike (records one) (records other)
alike one other same =
    let amount = same_amounts one other same in
    let t = tells_all one in
    let u = tells_all other in
    let apps = t.apps ∙ ap (λ (a : Amounts). a.apps) amount ∙ sym u.apps in
    record {
      epoch = t.epoch ∙ ap (λ (a : Amounts). a.next_epoch) amount ∙ sym u.epoch;
      stamp = t.stamp ∙ ap (λ (a : Amounts). a.stamp) amount ∙ sym u.stamp;
      apps = apps;
      order = orders_same (records one).apps (records other).apps (records one).applied (records other).applied (amounts one).completed (ordered_all one)
          (subst (λ (l : List AppId). Ordered (records other).apps (records other).applied l) (ap (λ (a : Amounts). a.completed) (sym amount)) (ordered_all other)) apps;
    }
