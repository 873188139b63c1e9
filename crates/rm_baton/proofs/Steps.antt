-- Each step keeps the rule of the baton: the first put, a put, a take, a split and a join.
use Rattle.std.proofs.Common.{◌≡◌, ◌≢◌, ℕ, ◌/◌, ◌<◌, zero, suc, Bool, true, false, true≢false, ◌||◌, List, [], ◌∷◌, ◌++◌, length, set, sym, refl, ap, ◌∙◌, subst, ⊎_elim, inr, Option, Some, None, is_some, if◌then◌else◌, arith}
use mathlib.Core.Option.{some, some-ne-none, some-injective}
use mathlib.Core.List.{IsPrefix}
use lib.ListN.{get_elem?}
use Rattle.crossbeam_queue.specs.Fifo.{Pushes, Pops, Forks, Merges, Learns}
use Rattle.crossbeam_queue.proofs.Lists.{at_set, at_snoc, at_longer, set_here, set_else}
use Rattle.rm_types.specs.declared.entries.Entry.{Entry}
use Rattle.rm_baton.specs.declared.carries.Known.{Known}
use Rattle.rm_baton.specs.Entries.{AddsCommon}
use Rattle.rm_baton.specs.Views.{AllBegin, HasAllParts, IsIdle, MayPut, Meets, IsOfRun, all_parts, ended, gave, helper, joined, opening, started, took, with_half}
use Rattle.rm_baton.specs.Rule.{Carried, EachPass, Fits, Going, Lies, SharesParts, parts_of}
use Rattle.rm_baton.proofs.Growing.{AllBegin-append, AllBegin-more, adds_more, adds_none, prefix_one, prefix_same}
use Rattle.rm_baton.proofs.Parts.{part_of, parts_of-append, parts_of-set, parts_of_two}

nil_no_cons : {A : Type 0} (x : A) (xs : List A) → x ∷ xs ≡ [] → ⊥
nil_no_cons x xs e = cc

none_no_some : {A : Type 0} (x : A) → ◌≡◌ {A = Option A} None (Some x) → ⊥
none_no_some x e = cc

some_inj : {A : Type 0} (x y : A) → ◌≡◌ {A = Option A} (Some x) (Some y) → x ≡ y
some_inj x y e = cc

-- which pass is the store's once two are joined
abbrev keeps : Bool → ℕ → ℕ → ℕ
keeps true pass keeper = pass
keeps false pass keeper = keeper

-- the joined pass is the store's where either was, and knows what that knew
marked : (a b : Bool) (pass other keeper : ℕ) (mine theirs log : List Entry) → (a ≡ true → (pass ≡ keeper) × AddsCommon mine log) → (b ≡ true → (other ≡ keeper) × AddsCommon theirs log)
    → a || b ≡ true → (pass ≡ keeps b pass keeper) × AddsCommon (if b then theirs else mine) log
marked a true pass other keeper mine theirs log h k e = (refl, (k refl).1)
marked true false pass other keeper mine theirs log h k e = h refl
marked false false pass other keeper mine theirs log h k e = absurd (true≢false (sym e))

-- a third pass that is the store's still is the one
third : (b : Bool) (j pass other keeper : ℕ) → j ≢ other → j ≡ keeper → (b ≡ true → other ≡ keeper) → j ≡ keeps b pass keeper
third true j pass other keeper apart is theirs = absurd (apart (is ∙ sym (theirs refl)))
third false j pass other keeper apart is theirs = is

module _ {Run : Type 0} where
  -- a run that is there
  run_in : (run : Option Run) → is_some run ≡ true → (own : Run) × (run ≡ Some own)
  run_in None is = absurd (true≢false (sym is))
  run_in (Some own) is = (own, refl)

  is_some_of : (run : Option Run) (own : Run) → run ≡ Some own → is_some run ≡ true
  is_some_of run own e = ap (λ (r : Option Run). is_some r) e

module _ {Run T : Type 0} where
  in_range : (views : List (Known Run T)) (pass : ℕ) (v : Known Run T) → get_elem? views pass ≡ some v → pass < length views
  in_range [] pass v at = absurd (some-ne-none v (sym at))
  in_range (u ∷ views) zero v at = omega arith
  in_range (u ∷ views) (suc pass) v at = let rest = in_range views pass v at in omega arith

  -- a place of a list has one view
  at_once : (views : List (Known Run T)) (pass other : ℕ) (v w : Known Run T) → pass ≡ other → get_elem? views pass ≡ some v → get_elem? views other ≡ some w → v ≡ w
  at_once views pass other v w same at there = some-injective v w (sym at ∙ ap (get_elem? views) same ∙ there)

  -- the one view of a list of one
  at_first : (u v : Known Run T) (pass : ℕ) → get_elem? (u ∷ []) pass ≡ some v → (pass ≡ 0) × (u ≡ v)
  at_first u v zero at = (refl, some-injective u v at)
  at_first u v (suc pass) at = absurd (some-ne-none v (sym at))

  -- a change of one pass leaves each pass as is said of it
  each_set : (Is : ℕ → Known Run T → Type 0) (views : List (Known Run T)) (pass : ℕ) (w : Known Run T) → Is pass w → ((j : ℕ) (u : Known Run T) → j ≢ pass → get_elem? views j ≡ some u → Is j u)
      → EachPass Is (set views pass w)
  each_set Is views pass w mine others j u at = ⊎_elim
      (λ (here : (j ≡ pass) × (w ≡ u)). subst (λ (p : ℕ × Known Run T). Is p.0 p.1) (λ i. (sym here.0 i, here.1 i)) mine)
      (λ (there : (j ≢ pass) × (get_elem? views j ≡ some u)). others j u there.0 there.1)
      (at_set views pass j w u at)

  -- a change of one pass that keeps its parts and its run keeps the shares
  shares_set : (views : List (Known Run T)) (pass : ℕ) (v w : Known Run T) → get_elem? views pass ≡ some v → w.parts ≡ v.parts → w.run ≡ v.run → SharesParts views → SharesParts (set views pass w)
  shares_set views pass v w at parts run shares =
      let total = parts_of-set views pass v w at in
      let same : parts_of (set views pass w) ≡ parts_of views = omega arith in
      record {
        most = let most = shares.most in omega arith;
        each = λ all.
            let each = shares.each (sym same ∙ all) in
            each_set (λ j u. is_some u.run ≡ true → 0 < u.parts) views pass w
            (λ is. let some_part = each pass v at (sym (ap (λ (r : Option Run). is_some r) run) ∙ is) in omega arith)
            (λ j u apart there. each j u there);
      }

  -- a split halves the parts of one pass; an odd part is lost
  shares_split : (views : List (Known Run T)) (pass : ℕ) (v : Known Run T) → get_elem? views pass ≡ some v → IsOfRun v → SharesParts views → SharesParts (set views pass (with_half v) ++ helper v ∷ [])
  shares_split views pass v at stands shares =
      let total = parts_of-set views pass v (with_half v) at in
      let more = parts_of-append (set views pass (with_half v)) (helper v) in
      record {
        most = let most = shares.most in omega arith;
        each = λ all.
            let most = shares.most in
            let was : parts_of views ≡ all_parts = omega arith in
            let each = shares.each was in
            let some_part = each pass v at stands in
            let half : 0 < v.parts / 2 = omega arith in
            λ j u there is. ⊎_elim
            (λ (old : get_elem? (set views pass (with_half v)) j ≡ some u).
            each_set (λ k x. is_some x.run ≡ true → 0 < x.parts) views pass (with_half v) (λ _. half) (λ k x apart e. each k x e) j u old is)
            (λ (new : helper v ≡ u). subst (λ (x : Known Run T). 0 < x.parts) new half)
            (at_snoc (set views pass (with_half v)) (helper v) u j there);
      }

  -- a join gives one pass the parts of both
  shares_join : (views : List (Known Run T)) (pass other : ℕ) (v w : Known Run T) → other ≢ pass → get_elem? views pass ≡ some v → get_elem? views other ≡ some w → IsOfRun v → SharesParts views
      → SharesParts (set (set views pass (joined v w)) other ended)
  shares_join views pass other v w apart at there stands shares =
      let total = parts_of-set views pass v (joined v w) at in
      let rest = parts_of-set (set views pass (joined v w)) other w ended (set_else views pass other (joined v w) apart ∙ there) in
      let same : parts_of (set (set views pass (joined v w)) other ended) ≡ parts_of views = omega arith in
      record {
        most = let most = shares.most in omega arith;
        each = λ all.
            let each = shares.each (sym same ∙ all) in
            let some_part = each pass v at stands in
            each_set (λ j u. is_some u.run ≡ true → 0 < u.parts) (set views pass (joined v w)) other ended
            (λ is. absurd (true≢false (sym is)))
            (λ j u away e. each_set (λ k x. is_some x.run ≡ true → 0 < x.parts) views pass (joined v w) (λ _. omega arith) (λ k x _ here. each k x here) j u e);
      }

  -- after a split each pass has the baton that had it
  still_has : (views : List (Known Run T)) (pass other : ℕ) (v u : Known Run T) → get_elem? views pass ≡ some v → get_elem? views other ≡ some u
      → (w : Known Run T) × (get_elem? (set views pass (with_half v)) other ≡ some w) × (w.has ≡ u.has)
  still_has [] pass other v u at there = absurd (some-ne-none v (sym at))
  still_has (x ∷ views) zero zero v u at there = (with_half v, refl, ap (λ (k : Known Run T). k.has) (some-injective v u (sym at ∙ there)))
  still_has (x ∷ views) zero (suc other) v u at there = (u, there, refl)
  still_has (x ∷ views) (suc pass) zero v u at there = (u, there, refl)
  still_has (x ∷ views) (suc pass) (suc other) v u at there = still_has views pass other v u at there

module _ {Run T : Type 0} (run_of : T → Run) (log_of : T → List Entry) where
  abbrev C : List T → List (Known Run T) → Type 0
  C = Carried run_of log_of

  abbrev G : List T → List (Known Run T) → Type 0
  G = Going run_of log_of

  -- a pass that stands is of a run that goes on
  going : (items : List T) (views : List (Known Run T)) (pass : ℕ) (v : Known Run T) → IsOfRun v → get_elem? views pass ≡ some v → C items views → G items views
  going items views pass v stands at h = ⊎_elim
      (λ (start : (items ≡ []) × (views ≡ opening ∷ [])).
      let e = at_first opening v pass (subst (λ (l : List (Known Run T)). get_elem? l pass ≡ some v) start.1 at) in
      absurd (true≢false (sym stands ∙ ap (λ (k : Known Run T). is_some k.run) (sym e.1))))
      (λ (g : G items views). g)
      h

  -- while a pass has the value, nothing lies in its place
  pub out_is_empty : (pass : ℕ) (v : Known Run T) → v.has ≡ true → Learns C pass v (λ items. items ≡ [])
  out_is_empty pass v has items views h at = ⊎_elim (λ (start : (items ≡ []) × (views ≡ opening ∷ [])). start.0) (λ (g : G items views). ((g.fits pass v at).out has).1) h

  -- the first put
  pub starts : (n pass : ℕ) (v : Known Run T) (x : T) → v ≡ opening → Pushes C n pass v x (λ w. w ≡ started run_of log_of x)
  starts n pass v x is items views room h at = ⊎_elim
      (λ (start : (items ≡ []) × (views ≡ opening ∷ [])).
      let w : Known Run T = started run_of log_of x in
      let first : pass ≡ 0 = (at_first opening v pass (subst (λ (l : List (Known Run T)). get_elem? l pass ≡ some v) start.1 at)).0 in
      let g : G (x ∷ []) (w ∷ []) = record {
        run = run_of x;
        log = log_of x;
        holder = 0;
        keeper = 0;
        lies = (refl, refl);
        fits = λ j u e.
            let only = at_first w u j e in
            subst (λ (p : ℕ × Known Run T). Fits (run_of x) (log_of x) 0 0 (x ∷ [] ≡ []) p.0 p.1) (λ i. (sym only.0 i, only.1 i))
            (record {
              of_run = λ own e'. some_inj own (run_of x) (sym e');
              begin = (prefix_same (log_of x), tt);
              out = λ has. absurd (true≢false (sym has));
              kept = λ _. (refl, adds_none (log_of x));
            });
        shares = record {
          most = omega arith;
          each = λ _ j u e is. subst (λ (k : Known Run T). 0 < k.parts) (at_first w u j e).1 (omega arith);
        };
      } in
      (w, subst (λ (p : (List T × List (Known Run T)) × ℕ). C (p.0.0 ++ x ∷ []) (set p.0.1 p.1 w)) (λ i. ((sym start.0 i, sym start.1 i), sym first i)) (inr g), refl))
      (λ (g : G items views).
      let has : v.has ≡ true = ap (λ (k : Known Run T). k.has) is in
      absurd (none_no_some g.run (sym (ap (λ (k : Known Run T). k.run) is) ∙ ((g.fits pass v at).out has).2)))
      h

  -- what the store's pass knows stays true where another pass puts
  common_stays : (b : Bool) (j pass keeper : ℕ) (latest old new : List Entry) → j ≢ pass → j ≡ keeper → (b ≡ true → pass ≡ keeper) → (b ≡ false → AddsCommon old new) → AddsCommon latest old → AddsCommon latest new
  common_stays true j pass keeper latest old new apart is mine adds known = absurd (apart (is ∙ sym (mine refl)))
  common_stays false j pass keeper latest old new apart is mine adds known = adds_more latest old new known (adds refl)

  lies_pushed : (items : List T) (x : T) (holder : ℕ) (views : List (Known Run T)) → items ≡ [] → Lies run_of log_of (run_of x) (log_of x) holder (items ++ x ∷ []) views
  lies_pushed [] x holder views e = (refl, refl)
  lies_pushed (y ∷ ys) x holder views e = absurd (nil_no_cons y ys e)

  puts_going : (pass : ℕ) (v : Known Run T) (x : T) → MayPut run_of log_of v x → (items : List T) (views : List (Known Run T)) → get_elem? views pass ≡ some v → G items views
      → G (items ++ x ∷ []) (set views pass (gave log_of v x))
  puts_going pass v x may items views at g =
      let w : Known Run T = gave log_of v x in
      let mine = g.fits pass v at in
      let out = mine.out may.has in
      let longer : IsPrefix g.log (log_of x) = subst (λ (l : List Entry). IsPrefix l (log_of x)) out.3 (prefix_one v.latest (log_of x) may.one) in
      let same_run : run_of x ≡ g.run = mine.of_run (run_of x) may.of_run in
      record {
        run = run_of x;
        log = log_of x;
        holder = g.holder;
        keeper = g.keeper;
        lies = lies_pushed items x g.holder (set views pass w) out.1;
        fits = each_set (Fits (run_of x) (log_of x) g.holder g.keeper (items ++ x ∷ [] ≡ [])) views pass w
            (record {
              of_run = λ own e. some_inj own (run_of x) (sym e ∙ may.of_run);
              begin = (prefix_same (log_of x), AllBegin-more v.seen g.log (log_of x) mine.begin longer);
              out = λ has. absurd (true≢false (sym has));
              kept = λ store. ((mine.kept store).0, adds_none (log_of x));
            })
            (λ j u apart there. let theirs = g.fits j u there in record {
              of_run = λ own e. theirs.of_run own e ∙ sym same_run;
              begin = AllBegin-more u.seen g.log (log_of x) theirs.begin longer;
              out = λ has. absurd (apart ((theirs.out has).0 ∙ sym out.0));
              kept = λ store.
                  let kept = theirs.kept store in (
                    kept.0,
                    common_stays v.store j pass g.keeper u.latest g.log (log_of x) apart kept.0 (λ b. (mine.kept b).0)
                        (λ b. subst (λ (l : List Entry). AddsCommon l (log_of x)) out.3 (may.common b)) kept.1,
                  );
            });
        shares = shares_set views pass v w at refl refl g.shares;
      }

  pub puts : (n pass : ℕ) (v : Known Run T) (x : T) → MayPut run_of log_of v x → Pushes C n pass v x (λ w. w ≡ gave log_of v x) × Learns C pass v (λ items. items ≡ [])
  puts n pass v x may = (
    (λ items views room h at. (gave log_of v x, inr (puts_going pass v x may items views at (going items views pass v (is_some_of v.run (run_of x) may.of_run) at h)), refl)),
    out_is_empty pass v may.has,
  )

  takes_going : (pass : ℕ) (v : Known Run T) → IsOfRun v → (x : T) (views : List (Known Run T)) → get_elem? views pass ≡ some v → (g : G (x ∷ []) views) → G [] (set views pass (took log_of v x))
  takes_going pass v stands x views at g =
      let w : Known Run T = took log_of v x in
      let mine = g.fits pass v at in
      let own = run_in v.run stands in
      record {
        run = g.run;
        log = g.log;
        holder = pass;
        keeper = g.keeper;
        lies = (w, set_here views pass w (in_range views pass v at), refl);
        fits = each_set (Fits g.run g.log pass g.keeper (◌≡◌ {A = List T} [] [])) views pass w
            (record {
              of_run = mine.of_run;
              begin = (subst (λ (l : List Entry). IsPrefix l g.log) (sym g.lies.1) (prefix_same g.log), mine.begin);
              out = λ _. (refl, refl, own.1 ∙ ap (λ (r : Run). Some r) (mine.of_run own.0 own.1), g.lies.1);
              kept = λ store. ((mine.kept store).0, subst (λ (l : List Entry). AddsCommon l g.log) (sym g.lies.1) (adds_none g.log));
            })
            (λ j u apart there. let theirs = g.fits j u there in record {
              of_run = theirs.of_run;
              begin = theirs.begin;
              out = λ has. absurd (nil_no_cons x [] (theirs.out has).1);
              kept = theirs.kept;
            });
        shares = shares_set views pass v w at refl refl g.shares;
      }

  meets : (pass : ℕ) (v : Known Run T) (x : T) (views : List (Known Run T)) → IsOfRun v → (g : G (x ∷ []) views) → get_elem? views pass ≡ some v → Meets run_of log_of v x
  meets pass v x views stands g at =
      let mine = g.fits pass v at in
      let own = run_in v.run stands in
      record {
        of_run = own.1 ∙ ap (λ (r : Run). Some r) (mine.of_run own.0 own.1 ∙ sym g.lies.0);
        begin = subst (λ (l : List Entry). AllBegin v.seen l) (sym g.lies.1) mine.begin;
        common = λ store. subst (λ (l : List Entry). AddsCommon v.latest l) (sym g.lies.1) (mine.kept store).1;
      }

  pops : (pass : ℕ) (v : Known Run T) → IsOfRun v → Pops C pass v (λ x w. (w ≡ took log_of v x) × Meets run_of log_of v x)
  pops pass v stands x [] views h at =
      let g = going (x ∷ []) views pass v stands at h in
      (took log_of v x, inr (takes_going pass v stands x views at g), (refl, meets pass v x views stands g at))
  pops pass v stands x (y ∷ ys) views h at = absurd (going (x ∷ y ∷ ys) views pass v stands at h).lies

  -- where the value is out and this pass doesn't have it, another pass stands
  other_stands : (pass : ℕ) (v : Known Run T) → IsIdle v → (views : List (Known Run T)) → G [] views → get_elem? views pass ≡ some v → HasAllParts v → ⊥
  other_stands pass v idle views g at all =
      let holder = g.lies in
      let has = (g.fits g.holder holder.0 holder.1).out holder.2 in
      let most = g.shares.most in
      let part = part_of views pass v at in
      let each = g.shares.each (omega arith) in
      let theirs = each g.holder holder.0 holder.1 (is_some_of holder.0.run g.run has.2) in
      let apart : g.holder ≢ pass = λ same. true≢false (sym holder.2 ∙ ap (λ (k : Known Run T). k.has) (at_once views g.holder pass holder.0 v same holder.1 at) ∙ idle.1) in
      let both = parts_of_two views pass g.holder v holder.0 apart at holder.1 in
      omega arith

  alone : (pass : ℕ) (v : Known Run T) → IsIdle v → Learns C pass v (λ items. HasAllParts v → 0 < length items)
  alone pass v idle [] views h at all = absurd (other_stands pass v idle views (going [] views pass v idle.0 at h) at all)
  alone pass v idle (x ∷ items) views h at all = omega arith

  pub takes : (pass : ℕ) (v : Known Run T) → IsIdle v → Pops C pass v (λ x w. (w ≡ took log_of v x) × Meets run_of log_of v x) × Learns C pass v (λ items. HasAllParts v → 0 < length items)
  takes pass v idle = (pops pass v idle.0, alone pass v idle)

  -- the value lies where it lay, if the pass that has it still does
  lies_still : (run : Run) (log : List Entry) (holder : ℕ) (items : List T) (views more : List (Known Run T))
      → ((v : Known Run T) → get_elem? views holder ≡ some v → v.has ≡ true → (w : Known Run T) × (get_elem? more holder ≡ some w) × (w.has ≡ true))
      → Lies run_of log_of run log holder items views → Lies run_of log_of run log holder items more
  lies_still run log holder [] views more still l = still l.0 l.1 l.2
  lies_still run log holder (x ∷ []) views more still l = l
  lies_still run log holder (x ∷ y ∷ ys) views more still l = l

  pub forks : (pass : ℕ) (v : Known Run T) → IsOfRun v → Forks C pass v (with_half v) (helper v)
  forks pass v stands items views h at =
      let g = going items views pass v stands at h in
      let mine = g.fits pass v at in
      inr (record {
        run = g.run;
        log = g.log;
        holder = g.holder;
        keeper = g.keeper;
        lies = lies_still g.run g.log g.holder items views (set views pass (with_half v) ++ helper v ∷ []) (λ u there has. let still = still_has views pass g.holder v u at there in (still.0, at_longer (set views pass (with_half v)) (helper v ∷ []) g.holder still.0 still.1, still.2 ∙ has)) g.lies;
        fits = λ j u e. ⊎_elim
            (λ (old : get_elem? (set views pass (with_half v)) j ≡ some u).
            each_set (Fits g.run g.log g.holder g.keeper (items ≡ [])) views pass (with_half v)
            (record { of_run = mine.of_run; begin = mine.begin; out = mine.out; kept = mine.kept })
            (λ k x apart there. g.fits k x there) j u old)
            (λ (new : helper v ≡ u). subst (λ (k : Known Run T). Fits g.run g.log g.holder g.keeper (items ≡ []) j k) new
            (record { of_run = mine.of_run; begin = mine.begin; out = λ has. absurd (true≢false (sym has)); kept = λ store. absurd (true≢false (sym store)) }))
            (at_snoc (set views pass (with_half v)) (helper v) u j e);
        shares = shares_split views pass v at stands g.shares;
      })

  merges_going : (pass other : ℕ) (v w : Known Run T) → IsIdle v → IsIdle w → other ≢ pass → (items : List T) (views : List (Known Run T)) → get_elem? views pass ≡ some v → get_elem? views other ≡ some w
      → G items views → G items (set (set views pass (joined v w)) other ended)
  merges_going pass other v w idle idle' apart items views at there g =
      let mine = g.fits pass v at in
      let theirs = g.fits other w there in
      let both : Known Run T = joined v w in
      let keeper : ℕ = keeps w.store pass g.keeper in
      let Is : ℕ → Known Run T → Type 0 = Fits g.run g.log g.holder keeper (items ≡ []) in
      let now : EachPass (λ j u. j ≢ other → Is j u) (set views pass both) = each_set (λ j u. j ≢ other → Is j u) views pass both
      (λ _. record {
        of_run = mine.of_run;
        begin = AllBegin-append v.seen w.seen g.log mine.begin theirs.begin;
        out = λ has. absurd (true≢false (sym has));
        kept = marked v.store w.store pass other g.keeper v.latest w.latest g.log mine.kept theirs.kept;
      })
      (λ j u _ e away. let one = g.fits j u e in record {
        of_run = one.of_run;
        begin = one.begin;
        out = one.out;
        kept = λ store. (third w.store j pass other g.keeper away (one.kept store).0 (λ b. (theirs.kept b).0), (one.kept store).1);
      }) in
      record {
        run = g.run;
        log = g.log;
        holder = g.holder;
        keeper = keeper;
        lies = lies_still g.run g.log g.holder items views (set (set views pass both) other ended)
            (λ u e has.
            let not_pass : g.holder ≢ pass = λ same. true≢false (sym has ∙ ap (λ (k : Known Run T). k.has) (at_once views g.holder pass u v same e at) ∙ idle.1) in
            let not_other : g.holder ≢ other = λ same. true≢false (sym has ∙ ap (λ (k : Known Run T). k.has) (at_once views g.holder other u w same e there) ∙ idle'.1) in
            (u, set_else (set views pass both) other g.holder ended not_other ∙ set_else views pass g.holder both not_pass ∙ e, has))
            g.lies;
        fits = each_set Is (set views pass both) other ended
            (record { of_run = λ own e. absurd (none_no_some own e); begin = tt; out = λ has. absurd (true≢false (sym has)); kept = λ store. absurd (true≢false (sym store)) })
            (λ j u away e. now j u e away);
        shares = shares_join views pass other v w apart at there idle.0 g.shares;
      }

  pub merges : (pass : ℕ) (v : Known Run T) (other : ℕ) (w : Known Run T) → IsIdle v → IsIdle w → Merges C pass v other w (joined v w) ended
  merges pass v other w idle idle' items views h at apart there =
      let was : get_elem? views other ≡ some w = sym (set_else views pass other (joined v w) apart) ∙ there in
      inr (merges_going pass other v w idle idle' apart items views at was (going items views pass v idle.0 at h))
