-- What a worker knows of its pass after a hold, a split and a join.
use Rattle.std.proofs.Common.{◌≡◌, true≢false, List, sym, ap, ◌∙◌, refl, subst}
use Rattle.rm_types.specs.declared.entries.Entry.{Entry}
use Rattle.rm_baton.specs.Entries.{AddsAtMostOne, AddsCommon}
use Rattle.rm_baton.specs.Views.{MayPut, Meets, gave, started, took}
use Rattle.rm_workers.specs.Carried.{HeldView, PassView, log_of, run_of}
use Rattle.rm_workers.specs.Work.{Knows}

-- the store's worker may put one that has one entry more at most
pub puts_any : (Is : List Entry → Type 0) (v w : PassView) (x y : HeldView) → Knows Is v → w ≡ took log_of v x → Meets run_of log_of v x → AddsAtMostOne (log_of x) (log_of y) → MayPut run_of log_of w y
puts_any Is v w x y knows took' meets one = subst (λ (k : PassView). MayPut run_of log_of k y) (sym took') (record {
  has = refl;
  of_run = meets.of_run;
  one = one;
  common = λ other. absurd (true≢false (sym knows.mark ∙ other));
})

-- any worker may put one that has one common entry more at most
pub puts_common : (v w : PassView) (x y : HeldView) → w ≡ took log_of v x → Meets run_of log_of v x → AddsAtMostOne (log_of x) (log_of y) → AddsCommon (log_of x) (log_of y) → MayPut run_of log_of w y
puts_common v w x y took' meets one common = subst (λ (k : PassView). MayPut run_of log_of k y) (sym took') (record { has = refl; of_run = meets.of_run; one = one; common = λ other. common })

-- what the pass is once it has put
held_on : (Is : PassView → Type 0) (v w z : PassView) (x y : HeldView) → w ≡ took log_of v x → z ≡ gave log_of w y → Is (gave log_of (took log_of v x) y) → Is z
held_on Is v w z x y took' gave' is = subst Is (sym (gave' ∙ ap (λ (k : PassView). gave log_of k y) took')) is

-- what held of the store's pass still holds, through what others added
pub still : (Is : List Entry → Type 0) → ((old new : List Entry) → AddsCommon old new → Is old → Is new) → (v : PassView) (x : HeldView) → Knows Is v → Meets run_of log_of v x → Is (log_of x)
still Is lasts v x knows meets = lasts v.latest (log_of x) (meets.common knows.mark) knows.fact

pub knows_put : (Is Then : List Entry → Type 0) (v w z : PassView) (x y : HeldView) → Knows Is v → w ≡ took log_of v x → z ≡ gave log_of w y → Then (log_of y) → Knows Then z
knows_put Is Then v w z x y knows took' gave' fact = held_on (Knows Then) v w z x y took' gave' (record { idle = (knows.idle.0, refl); mark = knows.mark; fact = fact })

-- what is known of a log says more of it
pub knows_then : (Is Then : List Entry → Type 0) → ((log : List Entry) → Is log → Then log) → (v : PassView) → Knows Is v → Knows Then v
knows_then Is Then says v knows = record { idle = knows.idle; mark = knows.mark; fact = says v.latest knows.fact }

pub knows_started : (Is : List Entry → Type 0) (x : HeldView) (u : PassView) → u ≡ started run_of log_of x → Is (log_of x) → Knows Is u
knows_started Is x u e fact = subst (Knows Is) (sym e) (record { idle = (refl, refl); mark = refl; fact = fact })
