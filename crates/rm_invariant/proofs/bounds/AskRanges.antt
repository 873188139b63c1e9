-- What is asked for stays in its range.
use Rattle.rm_invariant.proofs.Common.{◌≡◌, ◌-◌, ℕ, List, [], ◌∷◌, ◌++◌, Bool, true, false, not, Option, None, Some, filter, find, fold, map, refl, sym, ◌∙◌, subst, if◌then◌else◌, list_any, false≢true, Ask, Grant, AttemptId, AppRecord, Resource, is_attempt, by_priority, same_attempt, AsksOf, asks_granted, attempt_asks, asks_set, table_granted, is_for, one_less, renewed_ask, with_asks_of, without_asks_of, all_asked, is_size, asks_after_answer, table_without_granted, master_asked}
use Rattle.std.proofs.Common.{◌==◌, nat_lt}
use Rattle.rm_types.specs.Passes.{put_by_priority}
use Rattle.rm_book.specs.ManyAsks.{one_asked}
use Rattle.rm_invariant.specs.nodes.Book.{All}
use Rattle.rm_invariant.proofs.nodes.Holds.{all_append, all_filter, all_map}
use Rattle.rm_invariant.proofs.events.Answered.{other_asks, other_granted, own_asks, own_granted}
use Rattle.rm_invariant.specs.bounds.InBounds.{AreAsked, IsAppRecord, IsAsked, IfThere}

-- asks in the order of a pass
put_asked : (ask : Ask) (asks : List Ask) → IsAsked ask → All IsAsked asks → All IsAsked (put_by_priority ask asks)
put_asked ask [] own all = (own, tt)
put_asked ask (other ∷ asks) own all = by (nat_lt other.priority ask.priority) (put_asked ask asks own all.1)
  where
    by : (b : Bool) → All IsAsked (put_by_priority ask asks) → All IsAsked (if b then other ∷ put_by_priority ask asks else ask ∷ other ∷ asks)
    by true rest = (all.0, rest)
    by false rest = (own, all)

pub by_priority_asked : (asks : List Ask) → All IsAsked asks → All IsAsked (by_priority asks)
by_priority_asked [] all = tt
by_priority_asked (ask ∷ asks) all = put_asked ask (by_priority asks) all.0 (by_priority_asked asks all.1)

-- ONE ATTEMPT'S

-- its asks, with these in their place
pub asked_with : (attempt : AttemptId) (asks : List Ask) (table : List AsksOf) → All IsAsked asks → AreAsked table → AreAsked (with_asks_of attempt asks table)
asked_with attempt asks table all are = record { each = λ q. by q (is_attempt attempt q) refl }
  where
    by : (q : AttemptId) (b : Bool) → is_attempt attempt q ≡ b → All IsAsked (attempt_asks (with_asks_of attempt asks table) q)
    by q true e =
        subst (λ (a : AttemptId). All IsAsked (attempt_asks (with_asks_of attempt asks table) a)) (same_attempt attempt q e)
        (subst (λ (l : List Ask). All IsAsked l) (sym (own_asks attempt asks table)) all)
    by q false e = subst (λ (l : List Ask). All IsAsked l) (sym (other_asks attempt q e asks table)) (are.each q)

-- and without them
pub asked_without : (attempt : AttemptId) (table : List AsksOf) → AreAsked table → AreAsked (without_asks_of attempt table)
asked_without attempt table are = record { each = λ q. by q (is_attempt attempt q) refl }
  where
    own_gone : (rows : List AsksOf) → attempt_asks (without_asks_of attempt rows) attempt ≡ []
    own_gone [] = refl
    own_gone (one ∷ rows) = at (is_attempt one.attempt attempt) refl (own_gone rows)
      where
        at : (b : Bool) → is_attempt one.attempt attempt ≡ b → attempt_asks (without_asks_of attempt rows) attempt ≡ [] → attempt_asks (without_asks_of attempt (one ∷ rows)) attempt ≡ []
        at true e rest = rw e rest
        at false e rest = rw (e, e) rest

    other_gone : (q : AttemptId) → is_attempt attempt q ≡ false → (rows : List AsksOf) → attempt_asks (without_asks_of attempt rows) q ≡ attempt_asks rows q
    other_gone q apart [] = refl
    other_gone q apart (one ∷ rows) = at (is_attempt one.attempt attempt) refl (is_attempt one.attempt q) refl (other_gone q apart rows)
      where
        at : (b : Bool) → is_attempt one.attempt attempt ≡ b → (c : Bool) → is_attempt one.attempt q ≡ c → attempt_asks (without_asks_of attempt rows) q ≡ attempt_asks rows q
            → attempt_asks (without_asks_of attempt (one ∷ rows)) q ≡ attempt_asks (one ∷ rows) q
        at true e true f rest = absurd (false≢true (sym apart ∙ subst (λ (a : AttemptId). is_attempt a q ≡ true) (same_attempt one.attempt attempt e) f))
        at true e false f rest = rw (e, f) rest
        at false e true f rest = rw (e, f) refl
        at false e false f rest = rw (e, f) rest

    by : (q : AttemptId) (b : Bool) → is_attempt attempt q ≡ b → All IsAsked (attempt_asks (without_asks_of attempt table) q)
    by q true e =
        subst (λ (a : AttemptId). All IsAsked (attempt_asks (without_asks_of attempt table) a)) (same_attempt attempt q e) (subst (λ (l : List Ask). All IsAsked l) (sym (own_gone table)) tt)
    by q false e = subst (λ (l : List Ask). All IsAsked l) (sym (other_gone q e table)) (are.each q)

-- MORE IS ASKED FOR

pub set_asked : (ask : Ask) (asks : List Ask) → IsAsked ask → All IsAsked asks → All IsAsked (asks_set ask asks)
set_asked ask asks own all = by (ask.count == 0) (list_any (is_for ask.priority ask.size) asks)
  where
    again : (one : Ask) → IsAsked one → IsAsked (renewed_ask ask one)
    again one is = at (is_for ask.priority ask.size one)
      where
        at : (b : Bool) → IsAsked (if b then ask else one)
        at true = own
        at false = is

    by : (b c : Bool) → All IsAsked (if b then filter (λ one. not (is_for ask.priority ask.size one)) asks else (if c then map (renewed_ask ask) asks else asks ++ ask ∷ []))
    by true c = all_filter IsAsked (λ one. not (is_for ask.priority ask.size one)) asks all
    by false true = all_map IsAsked IsAsked (renewed_ask ask) again asks all
    by false false = all_append IsAsked asks (ask ∷ []) all (own, tt)

pub asked_one : (attempt : AttemptId) (ask : Ask) (table : List AsksOf) → IsAsked ask → AreAsked table → AreAsked (one_asked attempt table ask)
asked_one attempt ask table own are = asked_with attempt (asks_set ask (attempt_asks table attempt)) table (set_asked ask (attempt_asks table attempt) own (are.each attempt)) are

pub asked_all : (attempt : AttemptId) (asks : List Ask) (table : List AsksOf) → All IsAsked asks → AreAsked table → AreAsked (all_asked attempt table asks)
asked_all attempt [] table all are = are
asked_all attempt (ask ∷ asks) table all are = asked_all attempt asks (one_asked attempt table ask) all.1 (asked_one attempt ask table all.0 are)

-- a master's container is asked for
pub asked_master : (id : AttemptId) (o : Option AppRecord) (table : List AsksOf) → IfThere IsAppRecord o → AreAsked table → AreAsked (master_asked id o table)
asked_master id None table is are = are
asked_master id (Some app) table is are = asked_one id (record { priority = 0; count = 1; size = app.submission.master }) table (record { memory = is.submission.memory_mb; vcores = is.submission.vcores }) are

-- GRANTS

asked_less : (priority : ℕ) (size : Resource) (asks : List Ask) → All IsAsked asks → All IsAsked (asks_granted priority size asks)
asked_less priority size asks all = all_filter IsAsked (λ ask. nat_lt 0 ask.count) (map (one_less priority size) asks) (all_map IsAsked IsAsked (one_less priority size) less asks all)
  where
    less : (one : Ask) → IsAsked one → IsAsked (one_less priority size one)
    less one is = at (is_for priority size one)
      where
        at : (b : Bool) → IsAsked (if b then record one { count = one.count - 1 } else one)
        at true = is
        at false = is

pub asked_granted : (grants : List Grant) (table : List AsksOf) → AreAsked table → AreAsked (fold table_without_granted table grants)
asked_granted [] table are = are
asked_granted (grant ∷ grants) table are = asked_granted grants (table_without_granted table grant) (by (find (λ one. is_size one.size grant.size) (by_priority (attempt_asks table grant.id.attempt))))
  where
    at : (ask : Ask) (q : AttemptId) (b : Bool) → is_attempt grant.id.attempt q ≡ b → All IsAsked (attempt_asks (table_granted grant.id.attempt ask.priority grant.size table) q)
    at ask q true e =
        subst (λ (a : AttemptId). All IsAsked (attempt_asks (table_granted grant.id.attempt ask.priority grant.size table) a)) (same_attempt grant.id.attempt q e)
        (subst (λ (l : List Ask). All IsAsked l) (sym (own_granted grant.id.attempt ask.priority grant.size table))
        (asked_less ask.priority grant.size (attempt_asks table grant.id.attempt) (are.each grant.id.attempt)))
    at ask q false e = subst (λ (l : List Ask). All IsAsked l) (sym (other_granted grant.id.attempt q e ask.priority grant.size table)) (are.each q)

    by : (o : Option Ask) → AreAsked (asks_after_answer table grant o)
    by None = are
    by (Some ask) = record { each = λ q. at ask q (is_attempt grant.id.attempt q) refl }
