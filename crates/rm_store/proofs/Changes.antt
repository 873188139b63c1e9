-- The calls by which a new area is written, one after another.
use Rattle.rm_store.proofs.Common.{◌≡◌, ℕ, zero, suc, ◌+◌, ◌-◌, ◌<◌, ◌≤◌, Bool, false, Option, List, [], ◌∷◌, ◌++◌, append_assoc, map, take, drop, slice_get, length, None, Some, Ok, Err, Result, refl, sym, ◌∙◌, ap, subst, arith, length-append, Op, frame, journal_record, journal_records, DiskView, IfTold, AtEachMoment, told_after, JournalError, broken_after, AreasAt, AreasInvariant, AreasHold, HasLayout, IsBuilt, head_of, moment_of, each_has, layout}
use Rattle.std.proofs.Common.{get_or}
use Rattle.std.specs.Prelude.{IfErr}
use Rattle.std.proofs.lemmas.List.{map-append, take_more, take-append-drop}
use Rattle.std.proofs.lemmas.Option.{slice_get_within, get_or_from_slice_get}
use Rattle.rm_disk.proofs.Views.{goes_on_same, goes_on_trans, leaves_of, leaves_trans}
use Rattle.rm_journal.specs.declared.fault.JournalError.TheVariants.{DiskFault, Damaged, Full, NeedsReopen, Memory}
use Rattle.rm_journal.specs.Fault.{IsAppendError}
use Rattle.rm_journal.proofs.Payloads.{length-records_push}
use Rattle.rm_journal.specs.two_areas.Areas.{LeavesPayloads, other_end}
use Rattle.rm_journal.proofs.two_areas.Moments.{at_once, some_same}
use Rattle.rm_journal.proofs.two_areas.Steps.{same_gate}
use Rattle.rm_store.specs.Changing.{KeepsPayloads, TellsPayloads, IsChangeError}

module _ (v0 v1 v2 : DiskView) (a0 a1 a2 : AreasAt) (one : KeepsPayloads v0 v1 a0 a1) (on : TellsPayloads v0 v1 a0 a1) (sound : a0.is_broken ≡ false) where
  -- a moment of the later call is one of both
  pub moment_after : (P : List (List ℕ) → List ℕ → Type 0) → ((payloads : List (List ℕ)) (image : List ℕ) → HasLayout a0.half payloads image → P payloads image)
      → (IfTold v1 (λ bytes. (payloads : List (List ℕ)) → AreasHold a1 payloads bytes → AtEachMoment v1 v2 (P payloads)))
      → IfTold v0 (λ bytes. (payloads : List (List ℕ)) → AreasHold a0 payloads bytes → AtEachMoment v0 v2 (P payloads))
  moment_after P from two bytes told payloads has =
      let now = told_after v0 v1 one.goes_on bytes told in
      let first = one.moment sound bytes told payloads has in
      let second = two now.0 now.1 payloads (on.told bytes told payloads has now.0 now.1) in
      record { so_far = leaves_trans v0 v1 v2 (P payloads) (leaves_of v0 v1 (HasLayout a0.half payloads) (P payloads) (from payloads) first.so_far) second.so_far; now = second.now }

  pub all_after : KeepsPayloads v1 v2 a1 a2 → KeepsPayloads v0 v2 a0 a2
  all_after two = record {
    stands = two.stands;
    half = two.half ∙ one.half;
    generation = two.generation ∙ one.generation;
    goes_on = goes_on_trans v0 v1 v2 one.later one.goes_on two.goes_on;
    later = (let a = one.later in let b = two.later in omega arith);
    moment = λ _. moment_after (HasLayout a0.half) (λ payloads image l. l)
        (subst (λ (n : ℕ). IfTold v1 (λ bytes. (payloads : List (List ℕ)) → AreasHold a1 payloads bytes → LeavesPayloads v1 v2 n payloads)) one.half (two.moment on.unbroken));
  }

  pub on_after : TellsPayloads v1 v2 a1 a2 → TellsPayloads v0 v2 a0 a2
  on_after two = record {
    unbroken = two.unbroken;
    told = λ bytes told payloads has. let now = told_after v0 v1 one.goes_on bytes told in two.told now.0 now.1 payloads (on.told bytes told payloads has now.0 now.1);
  }

-- before a call
pub all_same : (v : DiskView) (a : AreasAt) → AreasInvariant v a → a.is_broken ≡ false → ((bytes : List ℕ) → v.told ≡ Some bytes → v.images bytes) → KeepsPayloads v v a a
all_same v a stands sound reads = record {
  stands = stands;
  half = refl;
  generation = refl;
  goes_on = goes_on_same v;
  later = omega arith;
  moment = λ _ bytes told payloads has.
      moment_of (AreasHold a payloads) (HasLayout a.half payloads) v v (layout a payloads) (at_once (AreasHold a payloads) v (each_has v a stands sound reads bytes payloads told has));
}

pub on_same : (v : DiskView) (a : AreasAt) → a.is_broken ≡ false → TellsPayloads v v a a
on_same v a sound = record { unbroken = sound; told = λ bytes told payloads has now is. subst (λ (x : List ℕ). AreasHold a payloads x) (sym (some_same bytes now v.told told is)) has }

pub some_gate : (o : Option ℕ) → (o ≡ None → ⊥) → (gate : ℕ) × (o ≡ Some gate)
some_gate None some = absurd (some refl)
some_gate (Some gate) some = (gate, refl)

pub only_folds : (r : Result (Unit {0}) JournalError) → ((needed room : ℕ) → r ≡ Err (Full needed room) → ⊥) → (r ≡ Err NeedsReopen → ⊥) → IfErr r IsAppendError → IfErr r IsChangeError
only_folds (Ok x) full reopen errors = tt
only_folds (Err DiskFault) full reopen errors = tt
only_folds (Err (Damaged offset)) full reopen errors = errors
only_folds (Err (Full needed room)) full reopen errors = full needed room refl
only_folds (Err NeedsReopen) full reopen errors = reopen refl
only_folds (Err Memory) full reopen errors = tt

-- THE LOOP

pub record Building (v0 v1 : DiskView) (a0 a1 : AreasAt) (added : List (List ℕ)) : Type 0 where
  pub all : KeepsPayloads v0 v1 a0 a1
  pub on : TellsPayloads v0 v1 a0 a1
  pub builds : IsBuilt v1 a1 added

shorter : (xs ys : List (List ℕ)) → length (journal_records xs) ≤ length (journal_records (xs ++ ys))
shorter [] ys = omega arith
shorter (x ∷ xs) ys =
    let a = length-append (journal_record x) (journal_records xs) in
    let b = length-append (journal_record x) (journal_records (xs ++ ys)) in
    let h = shorter xs ys in
    omega (arith, a, b, h)

pub take_got : {X : Type 0} (xs : List X) (i : ℕ) (x : X) → slice_get xs i ≡ Some x → take (i + 1) xs ≡ take i xs ++ x ∷ []
take_got xs i x e = take_more xs i x (slice_get_within xs i x e) ∙ ap (λ y. take i xs ++ y ∷ []) (get_or_from_slice_get xs i x x e)

pub got_there : {X : Type 0} (xs : List X) (i : ℕ) (x : X) → x ≡ get_or xs i x → i < length xs → slice_get xs i ≡ Some x
got_there [] i x is within = absurd (let w = within in omega (arith, w))
got_there (y ∷ xs) zero x is within = ap Some (sym is)
got_there (y ∷ xs) (suc i) x is within = got_there xs i x is (let w = within in omega (arith, w))

pub frames_got : (ops : List Op) (place : ℕ) (op : Op) → slice_get ops place ≡ Some op → map frame (take (place + 1) ops) ≡ map frame (take place ops) ++ frame op ∷ []
frames_got ops place op is = ap (λ (l : List Op). map frame l) (take_got ops place op is) ∙ map-append frame (take place ops) (op ∷ [])

-- the next frame has room
pub next_room : (head : List (List ℕ)) (ops : List Op) (place : ℕ) (op : Op) → slice_get ops place ≡ Some op
    → length (journal_records (head ++ map frame (take place ops))) + length (frame op) + 5 ≤ length (journal_records (head ++ map frame ops))
next_room head ops place op is =
    let whole : ops ≡ (take place ops ++ op ∷ []) ++ drop (place + 1) ops = sym (take-append-drop (place + 1) ops) ∙ ap (λ (l : List Op). l ++ drop (place + 1) ops) (take_got ops place op is) in
    let frames : map frame ops ≡ (map frame (take place ops) ++ frame op ∷ []) ++ map frame (drop (place + 1) ops) =
    ap (λ (l : List Op). map frame l) whole ∙ map-append frame (take place ops ++ op ∷ []) (drop (place + 1) ops) ∙ ap (λ (l : List (List ℕ)). l ++ map frame (drop (place + 1) ops)) (map-append frame (take place ops) (op ∷ [])) in
    let all : head ++ map frame ops ≡ ((head ++ map frame (take place ops)) ++ frame op ∷ []) ++ map frame (drop (place + 1) ops) =
    ap (λ (l : List (List ℕ)). head ++ l) frames ∙ sym (append_assoc head (map frame (take place ops) ++ frame op ∷ []) (map frame (drop (place + 1) ops)))
    ∙ ap (λ (l : List (List ℕ)). l ++ map frame (drop (place + 1) ops)) (sym (append_assoc head (map frame (take place ops)) (frame op ∷ []))) in
    let less = shorter ((head ++ map frame (take place ops)) ++ frame op ∷ []) (map frame (drop (place + 1) ops)) in
    let same : length (journal_records (head ++ map frame ops)) ≡ length (journal_records (((head ++ map frame (take place ops)) ++ frame op ∷ []) ++ map frame (drop (place + 1) ops))) = ap (λ (l : List (List ℕ)). length (journal_records l)) all in
    let push = length-records_push (head ++ map frame (take place ops)) (frame op) in
    omega (arith, less, same, push)

pub room_there : (v0 v1 : DiskView) (a0 a1 : AreasAt) (ops : List Op) (place : ℕ) (op : Op) → Building v0 v1 a0 a1 (map frame (take place ops)) → slice_get ops place ≡ Some op
    → length (journal_records (head_of (suc a0.generation) ++ map frame ops)) < a0.half → (gate : ℕ) → a1.build ≡ Some gate → length (frame op) + 6 ≤ other_end a1 - gate
room_there v0 v1 a0 a1 ops place op b is room gate begun =
    let same = same_gate a1.build b.builds.gate gate b.builds.begun begun in
    let at = b.builds.place in
    let g : length (journal_records (head_of (suc a1.generation) ++ map frame (take place ops))) ≡ length (journal_records (head_of (suc a0.generation) ++ map frame (take place ops))) =
    ap (λ (n : ℕ). length (journal_records (head_of (suc n) ++ map frame (take place ops)))) b.all.generation in
    let more = next_room (head_of (suc a0.generation)) ops place op is in
    let half = b.all.half in
    omega (arith, same, at, g, more, half, room)

pub built_on : (v0 v1 v2 : DiskView) (a0 a1 a2 : AreasAt) (ops : List Op) (place : ℕ) (op : Op) → Building v0 v1 a0 a1 (map frame (take place ops)) → a0.is_broken ≡ false → slice_get ops place ≡ Some op
    → KeepsPayloads v1 v2 a1 a2 → TellsPayloads v1 v2 a1 a2 → ((added : List (List ℕ)) → IsBuilt v1 a1 added → IsBuilt v2 a2 (added ++ frame op ∷ [])) → Building v0 v2 a0 a2 (map frame (take (place + 1) ops))
built_on v0 v1 v2 a0 a1 a2 ops place op b sound is all on builds = record {
  all = all_after v0 v1 v2 a0 a1 a2 b.all b.on sound all;
  on = on_after v0 v1 v2 a0 a1 a2 b.all b.on sound on;
  builds = subst (λ (l : List (List ℕ)). IsBuilt v2 a2 l) (sym (frames_got ops place op is)) (builds (map frame (take place ops)) b.builds);
}

-- what a begin does
pub unbroken_ok : {X : Type 0} (r : Result X JournalError) (x : X) (b : Bool) → b ≡ broken_after r false → r ≡ Ok x → b ≡ false
unbroken_ok {X = X} r x b is ok = is ∙ ap (λ (q : Result X JournalError). broken_after q false) ok
