-- A walk over the records of a journal.
use Rattle.std.proofs.Common.{◌≡◌, ℕ, ◌+◌, ◌-◌, ◌<◌, ◌≤◌, true, false, List, [], ◌∷◌, ◌++◌, length, take, drop, None, Some, refl, sym, ◌∙◌, ap, subst, arith, append_assoc}
use Rattle.std.specs.Prelude.{All}
use Rattle.std.specs.Int.{w32, to_be_bytes}
use Rattle.std.proofs.lemmas.List.{take_at, drop_at, drop-take, length-drop, length-take-le}
use Rattle.std.proofs.lemmas.List.Elements.{All-nil, All-cons, All-append, All-head, All-tail}
use Rattle.rm_disk.specs.Disk.{DiskView, IfTold, IsQuiet}
use Rattle.rm_formats.specs.Device.{IsPayload, journal_record, journal_records, HasPayloads, no_bytes, records, IsDamagedAt}
use Rattle.rm_journal.specs.Journal.{JournalPlace, IsOpened, FindsAt, FindsDamage, region_of}
use Rattle.rm_journal.specs.Walk.{WalkAt, HasWalked, BeginsWith, IsWalking}
use Rattle.rm_journal.proofs.Payloads.{open_first, next_of, records_head, records_push, length-records_push, length-journal_record, unique}
use Rattle.rm_journal.proofs.Regions.{region_front, region_on}
use Rattle.rm_journal.proofs.Opens.{Walked, region_is, durable_quiet, none_there}

-- bytes that begin with records hold their payloads first
pub begins : (front : List (List ℕ)) (next : ℕ) (rest bytes : List ℕ) (all : List (List ℕ)) → All IsPayload front → bytes ≡ journal_records front ++ next ∷ rest → HasPayloads bytes all → (more : List (List ℕ)) × (all ≡ front ++ more)
begins [] next rest bytes all sizes is has = (all, refl)
begins (q ∷ qs) next rest bytes all sizes is has =
    let n = next_of qs next rest in
    let there : bytes ≡ journal_record q ++ n.0 ∷ n.1 = is ∙ records_head q qs next rest ∙ ap (λ (l : List ℕ). journal_record q ++ l) n.2 in
    let first = open_first q n.0 n.1 all (All-head IsPayload q qs sizes) (subst (λ (l : List ℕ). HasPayloads l all) there has) in
    let more = begins qs next rest (n.0 ∷ n.1) first.0 (All-tail IsPayload q qs sizes) (sym n.2) first.2 in
    (more.0, first.1 ∙ ap (λ (l : List (List ℕ)). q ∷ l) more.1)

abbrev walked_of : (k : WalkAt) (bytes : List ℕ) (given : List (List ℕ)) → HasWalked k bytes given → Walked k.from k.gate bytes
walked_of k bytes given has = record { all = given; sizes = has.sizes; are = has.are; place = has.place }

pub walking_quiet : (v w : DiskView) (k : WalkAt) → IsWalking v k → IsQuiet v w → IsWalking w k
walking_quiet v w k walking quiet = record {
  inside = omega (arith, walking.inside, quiet.goes_on.size);
  low = walking.low;
  high = walking.high;
  room = walking.room;
  durable = durable_quiet v w walking.durable quiet;
  walked = λ bytes told. walking.walked bytes (sym quiet.told ∙ told);
  done = λ is bytes told. walking.done is bytes (sym quiet.told ∙ told);
}

pub walking_done : (v : DiskView) (k : WalkAt) → IsWalking v k → IfTold v (λ bytes. (given : List (List ℕ)) → HasWalked k bytes given → HasPayloads (region_of k.from k.end bytes) given) → IsWalking v (record k { is_done = true })
walking_done v k walking holds = record {
  inside = walking.inside;
  low = walking.low;
  high = walking.high;
  room = walking.room;
  durable = walking.durable;
  walked = λ bytes told. let w = walking.walked bytes told in (w.0, record { sizes = w.1.sizes; are = w.1.are; place = w.1.place });
  done = λ _ bytes told given has. holds bytes told given (record { sizes = has.sizes; are = has.are; place = has.place });
}

-- at a closed gate the payloads are all
pub holds_closed : (k : WalkAt) (bytes : List ℕ) (given : List (List ℕ)) → k.gate ≤ k.end → FindsAt k.gate k.end bytes None → HasWalked k bytes given → HasPayloads (region_of k.from k.end bytes) given
holds_closed k bytes given le (closed, rest, ne, is) has =
    records closed rest ne has.sizes (region_is k.from k.gate k.end bytes (walked_of k bytes given has) le ∙ ap (λ (l : List ℕ). journal_records given ++ l) is)

no_records : (given : List (List ℕ)) → length (journal_records given) ≡ 0 → given ≡ []
no_records [] none = refl
no_records (p ∷ given) none = absurd (omega (arith, none))

-- a region that has no gate holds no payload
pub holds_empty : (k : WalkAt) (bytes : List ℕ) (given : List (List ℕ)) → k.end ≤ length bytes → k.from ≤ k.gate → k.gate ≡ k.end → (k.from < k.end → k.gate < k.end) → HasWalked k bytes given → HasPayloads (region_of k.from k.end bytes) given
holds_empty k bytes given within low last room has =
    let first : k.from ≡ k.end = no_room k.from k.end (λ lt. let more = room lt in omega (arith, more, last)) (omega (arith, low, last)) in
    no_bytes (ap (λ (n : ℕ). region_of n k.end bytes) first ∙ none_there k.end bytes within) (no_records given (let place = has.place in omega (arith, place, first, last)))
  where
    no_room : (m n : ℕ) → (m < n → ⊥) → m ≤ n → m ≡ n
    no_room m n never le = grind arith

payload_there : (gate end many : ℕ) (bytes payload : List ℕ) (next : ℕ) (rest : List ℕ) → length payload ≡ many → gate + 5 + many < end → region_of gate end bytes ≡ journal_record payload ++ next ∷ rest → take many (drop (gate + 5) bytes) ≡ payload
payload_there gate end many bytes payload next rest exact fits is =
    let head : List ℕ = 1 ∷ to_be_bytes w32 (length payload) in
    let behind : region_of (gate + 5) end bytes ≡ payload ++ next ∷ rest =
    region_on gate 5 end bytes ∙ ap (λ (l : List ℕ). drop 5 l) (is ∙ append_assoc head payload (next ∷ rest)) ∙ drop_at head (payload ++ next ∷ rest) 5 refl in
    sym (drop-take (gate + 5) many bytes) ∙ sym (region_front (gate + 5) many end bytes (omega (arith, fits))) ∙ ap (λ (l : List ℕ). take many l) behind ∙ take_at payload (next ∷ rest) many exact

abbrev pub stepped : WalkAt → ℕ → WalkAt
stepped k many = record k { gate = k.gate + (many + 5); is_done = false }

-- one payload more was given
pub has_more : (k : WalkAt) (many : ℕ) (bytes now : List ℕ) (given : List (List ℕ)) → FindsAt k.gate k.end bytes (Some many) → k.gate + 5 + many < k.end → now ≡ take many (drop (k.gate + 5) bytes) → HasWalked k bytes given
    → HasWalked (stepped k many) bytes (given ++ now ∷ [])
has_more k many bytes now given (payload, next, rest, small, exact, is) fits reads has =
    let same : payload ≡ now = sym (reads ∙ payload_there k.gate k.end many bytes payload next rest exact fits is) in
    let size : length (journal_record payload) ≡ many + 5 = omega (arith, length-journal_record payload, exact) in
    let one : region_of k.gate (k.gate + (many + 5)) bytes ≡ journal_record payload =
    sym (region_front k.gate (many + 5) k.end bytes (omega (arith, fits))) ∙ ap (λ (l : List ℕ). take (many + 5) l) is ∙ take_at (journal_record payload) (next ∷ rest) (many + 5) size in
    let place = has.place in
    subst (λ (p : List ℕ). HasWalked (stepped k many) bytes (given ++ p ∷ [])) same (record {
      sizes = All-append IsPayload given (payload ∷ []) has.sizes (All-cons IsPayload payload [] small (All-nil IsPayload));
      are = region_is k.from k.gate (k.gate + (many + 5)) bytes (walked_of k bytes given has) (omega arith) ∙ ap (λ (l : List ℕ). journal_records given ++ l) one ∙ sym (records_push given payload);
      place = omega (arith, place, length-records_push given payload, exact);
    })

-- where a walk has a gate to look at, the region begins with what it gave
pub begins_walked : (k : WalkAt) (bytes : List ℕ) (given : List (List ℕ)) → k.end ≤ length bytes → k.gate < k.end → HasWalked k bytes given → BeginsWith (region_of k.from k.end bytes) given
begins_walked k bytes given within room has =
    let some = some_there k.gate k.end bytes room within in
    record { sizes = has.sizes; next = some.0; rest = some.1.0; is = region_is k.from k.gate k.end bytes (walked_of k bytes given has) (omega (arith, room)) ∙ ap (λ (l : List ℕ). journal_records given ++ l) some.1.1 }
  where
    non_empty : (l : List ℕ) → 0 < length l → (next : ℕ) × ((rest : List ℕ) × (l ≡ next ∷ rest))
    non_empty [] lt = absurd (omega (arith, lt))
    non_empty (x ∷ l) lt = (x, (l, refl))

    some_there : (gate end : ℕ) (bytes : List ℕ) → gate < end → end ≤ length bytes → (next : ℕ) × ((rest : List ℕ) × (region_of gate end bytes ≡ next ∷ rest))
    some_there gate end bytes lt le = non_empty (region_of gate end bytes) (let a = length-drop gate (take end bytes) in let b = length-take-le end bytes le in omega (arith, a, b, lt))

pub walking_next : (v : DiskView) (k : WalkAt) (many : ℕ) → IsWalking v k → IfTold v (λ bytes. FindsAt k.gate k.end bytes (Some many)) → k.gate + 5 + many < k.end → IsWalking v (stepped k many)
walking_next v k many walking found fits = record {
  inside = walking.inside;
  low = omega (arith, walking.low);
  high = omega (arith, fits);
  room = λ _. omega (arith, fits);
  durable = walking.durable;
  walked = λ bytes told.
      let w = walking.walked bytes told in
      (w.0 ++ take many (drop (k.gate + 5) bytes) ∷ [], has_more k many bytes (take many (drop (k.gate + 5) bytes)) w.0 (found bytes told) fits refl w.1);
  done = λ is. cc;
}

pub walking_damaged : (v : DiskView) (k : WalkAt) (offset : ℕ) → IsWalking v k → offset ≡ k.gate → IfTold v (FindsDamage k.gate k.end) → IfTold v (λ bytes. IsDamagedAt (region_of k.from k.end bytes) (offset - k.from))
walking_damaged v k offset walking is found = λ bytes told.
    let w = walking.walked bytes told in
    let damage = found bytes told in
    let place = w.1.place in
    record {
      payloads = w.0;
      rest = damage.0;
      sizes = w.1.sizes;
      bytes_are = region_is k.from k.gate k.end bytes (walked_of k bytes w.0 w.1) walking.high ∙ ap (λ (l : List ℕ). journal_records w.0 ++ l) damage.2;
      place = omega (arith, is, place);
      no_record = damage.1;
    }

-- the journal that a walk ends with
pub walked_opened : (v : DiskView) (k : WalkAt) (j : JournalPlace) → IsWalking v k → k.is_done ≡ true → j ≡ record { from = k.from; end = k.end; gate = k.gate; cursor = k.from; is_broken = false } → IsOpened v k.from (k.end - k.from) j
walked_opened v k j walking done is = subst (λ (q : JournalPlace). IsOpened v k.from (k.end - k.from) q) (sym is) (record {
  stands = record {
    inside = walking.inside;
    first = omega arith;
    last = (let a = walking.low in let b = walking.high in omega (arith, a, b));
    payloads = λ bytes told. let w = walking.walked bytes told in record { given = []; left = w.0; read = record { holds = walking.done done bytes told w.0 w.1; place = omega arith } };
    gate = λ _ bytes told all has.
        let w = walking.walked bytes told in
        w.1.place ∙ ap (λ (l : List (List ℕ)). k.from + length (journal_records l)) (unique (region_of k.from k.end bytes) w.0 all (walking.done done bytes told w.0 w.1) has);
    images = λ _ bytes told image now_image all has. let same : bytes ≡ image = cc (walking.durable image now_image) in subst (λ (l : List ℕ). HasPayloads (region_of k.from k.end l) all) same has;
  };
  from = refl;
  end = (let a = walking.low in let b = walking.high in omega (arith, a, b));
  cursor = refl;
  sound = refl;
})
