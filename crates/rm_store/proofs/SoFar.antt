-- How far a store was read.
use Rattle.rm_store.proofs.Common.{◌≡◌, ℕ, zero, suc, ◌+◌, ◌/◌, true, not, None, Some, List, [], ◌∷◌, ◌++◌, length, append_assoc, refl, sym, ap, subst, ◌∙◌, arith, All, append-nil, All-nil, Op, IsOperation, Records, no_records, records, fits_records, stray, journal_records, DiskView, IfTold, IsQuiet, quiet_trans, HasWalked, AreasAt, AreasHold, head_of, layout}
use Rattle.rm_formats.specs.Device.{HasPayloads}
use Rattle.rm_journal.specs.Journal.{region_of}
use Rattle.rm_journal.specs.Walk.{WalkAt}
use Rattle.rm_journal.proofs.Payloads.{unique}
use Rattle.rm_journal.specs.two_areas.Areas.{HasCurrent, IsGeneration, area_of, area_from, area_end}
use Rattle.rm_journal.specs.two_areas.Reading.{ReadingAt, IsReading}
use Rattle.rm_journal.proofs.two_areas.Bytes.{shut_holds}
use Rattle.rm_journal.proofs.two_areas.Opening.{older_of}
use Rattle.rm_store.specs.Content.{IsFrameOf, ReadsAs, HasContent, half_of}
use Rattle.rm_store.proofs.Framed.{reads_more}
use Rattle.rm_store.proofs.Puts.{own_half}
use Rattle.rm_store.specs.Causes.{ReadsUpTo}
use Rattle.rm_store.specs.Reading.{WalkedOn}
use Rattle.rm_store.specs.Store.{AreRead}
use Rattle.rm_store.proofs.Ops.{stray_push, framed_push}

-- the payloads that were given read as these operations
pub record SoFar (r : ReadingAt) (bytes : List ℕ) (ops : List Op) : Type 0 where
  pub given : List (List ℕ)
  pub walked : HasWalked r.walk bytes (head_of r.generation ++ given)
  pub reads : ReadsAs given ops

-- these operations were read, nothing was written, and their frames are the payloads that the areas gave
pub record ReadSoFar (first now : DiskView) (r : ReadingAt) (tree : Records) (ops : List Op) : Type 0 where
  pub quiet : IsQuiet first now
  pub reading : IsReading now r
  pub read : AreRead tree ops
  pub so_far : IfTold now (λ bytes. SoFar r bytes ops)

-- areas that were just started with have given nothing
pub begun : (first now : DiskView) (r : ReadingAt) → IsQuiet first now → IsReading now r → IfTold now (λ bytes. HasWalked r.walk bytes (head_of r.generation)) → ReadSoFar first now r no_records []
begun first now r quiet reading walked = record {
  quiet = quiet;
  reading = reading;
  read = record { framed = All-nil IsOperation; none_stray = refl; amounts = refl };
  so_far = λ bytes told. record { given = []; walked = subst (λ (l : List (List ℕ)). HasWalked r.walk bytes l) (sym (append-nil (head_of r.generation))) (walked bytes told); reads = tt };
}

same_head : (a b : ReadingAt) → b ≡ record a { walk = b.walk } → head_of b.generation ≡ head_of a.generation
same_head a b same = ap (λ (x : ReadingAt). head_of x.generation) same

-- one operation more was read
pub read_more : (first now next : DiskView) (a b : ReadingAt) (tree tree' : Records) (ops ops' : List Op) (payload : List ℕ) (op : Op)
    → ReadSoFar first now a tree ops → IsQuiet now next → IsReading next b → b ≡ record a { walk = b.walk }
    → IfTold now (λ bytes. (given : List (List ℕ)) → HasWalked a.walk bytes given → HasWalked b.walk bytes (given ++ payload ∷ []))
    → IsFrameOf payload op → fits_records (records ops) op ≡ true → ops' ≡ ops ++ op ∷ [] → tree' ≡ records (ops ++ op ∷ [])
    → ReadSoFar first next b tree' ops'
read_more first now next a b tree tree' ops ops' payload op so_far quiet reading same gives framed fits grown amounts = record {
  quiet = quiet_trans first now next so_far.quiet quiet;
  reading = reading;
  read = record {
    framed = subst (All IsOperation) (sym grown) (framed_push ops op so_far.read.framed framed.can);
    none_stray = ap stray grown ∙ stray_push ops op so_far.read.none_stray fits;
    amounts = amounts ∙ ap records (sym grown);
  };
  so_far = λ bytes told.
      let there = so_far.so_far bytes (sym quiet.told ∙ told) in
      let on = gives bytes (sym quiet.told ∙ told) (head_of a.generation ++ there.given) there.walked in
      let given : (head_of a.generation ++ there.given) ++ payload ∷ [] ≡ head_of b.generation ++ (there.given ++ payload ∷ []) =
      append_assoc (head_of a.generation) there.given (payload ∷ []) ∙ ap (λ (l : List (List ℕ)). l ++ (there.given ++ payload ∷ [])) (sym (same_head a b same)) in
      record {
        given = there.given ++ payload ∷ [];
        walked = subst (λ (l : List (List ℕ)). HasWalked b.walk bytes l) given on;
        reads = subst (λ (l : List Op). ReadsAs (there.given ++ payload ∷ []) l) (sym grown) (reads_more there.given ops payload op there.reads framed);
      };
}

-- no operation more was there
pub read_all_of : (first now next : DiskView) (a b : ReadingAt) (tree : Records) (ops : List Op) → ReadSoFar first now a tree ops → IsQuiet now next → b ≡ record a { walk = b.walk }
    → IfTold now (λ bytes. (given : List (List ℕ)) → HasWalked a.walk bytes given → b.walk ≡ record a.walk { is_done = true }) → IfTold next (λ bytes. SoFar b bytes ops)
read_all_of first now next a b tree ops so_far quiet same ends bytes told =
    let there = so_far.so_far bytes (sym quiet.told ∙ told) in
    let is = ends bytes (sym quiet.told ∙ told) (head_of a.generation ++ there.given) there.walked in
    let walked : HasWalked b.walk bytes (head_of a.generation ++ there.given) =
    subst (λ (k : WalkAt). HasWalked k bytes (head_of a.generation ++ there.given)) (sym is) (record { sizes = there.walked.sizes; are = there.walked.are; place = there.walked.place }) in
    record { given = there.given; walked = subst (λ (l : List (List ℕ)). HasWalked b.walk bytes (l ++ there.given)) (sym (same_head a b same)) walked; reads = there.reads }

pub content_of : (a : AreasAt) (payloads : List (List ℕ)) (ops : List Op) (bytes : List ℕ) → AreasHold a payloads bytes → ReadsAs payloads ops → stray ops ≡ None → HasContent bytes ops
content_of a payloads ops bytes has reads none = record { payloads = payloads; layout = own_half a.half payloads bytes (layout a payloads bytes has); reads = reads; none_stray = none }

-- a walk that came to its end over these payloads walked over the whole of the current area
whole : (v : DiskView) (r : ReadingAt) (bytes : List ℕ) (payloads : List (List ℕ)) → IsReading v r → r.walk.is_done ≡ true → v.told ≡ Some bytes → length bytes ≡ v.size
    → HasWalked r.walk bytes (head_of r.generation ++ payloads) → HasCurrent r.half r.second r.generation payloads bytes
whole v r bytes payloads is done told long walked = record {
  size = is.half ∙ ap (λ (n : ℕ). n / 2) (sym long);
  high = is.picked.high;
  holds = holds;
  none = λ z. (is.picked.zero_is z, nothing r.generation z (is.picked.current bytes told) holds);
  other = older_of (area_of r.half (not r.second) bytes) is.other r.generation (is.picked.other bytes told) is.picked.less;
}
  where
    all : HasPayloads (region_of r.walk.from r.walk.end bytes) (head_of r.generation ++ payloads)
    all = is.walking.done done bytes told (head_of r.generation ++ payloads) walked

    holds : HasPayloads (area_of r.half r.second bytes) (head_of r.generation ++ payloads)
    holds =
        subst (λ (n : ℕ). HasPayloads (region_of n (area_end r.half r.second) bytes) (head_of r.generation ++ payloads)) is.from
        (subst (λ (n : ℕ). HasPayloads (region_of r.walk.from n bytes) (head_of r.generation ++ payloads)) is.end all)

    nothing : (g : ℕ) → g ≡ 0 → IsGeneration (area_of r.half r.second bytes) g → HasPayloads (area_of r.half r.second bytes) (head_of g ++ payloads) → payloads ≡ []
    nothing zero z shut has = unique (area_of r.half r.second bytes) payloads [] has (shut_holds (area_of r.half r.second bytes) shut)
    nothing (suc g) z live has = absurd (omega (arith, z))

-- a payload that was given behind operations stands there, at its gate, where the walk went on to its end
pub reads_up_to : (first now next last : DiskView) (a b d : ReadingAt) (tree : Records) (ops : List Op) (bytes payload : List ℕ) (gate : ℕ)
    → ReadSoFar first now a tree ops → now.told ≡ Some bytes → last.told ≡ Some bytes → length bytes ≡ last.size
    → b ≡ record a { walk = b.walk } → d ≡ record b { walk = d.walk } → IsReading last d → d.walk.is_done ≡ true
    → ((given : List (List ℕ)) → HasWalked a.walk bytes given → (gate ≡ a.walk.gate) × HasWalked b.walk bytes (given ++ payload ∷ []))
    → WalkedOn b.walk d.walk bytes → ReadsUpTo bytes ops payload gate
reads_up_to first now next last a b d tree ops bytes payload gate so_far told told_last long same_b same_d is done gives on =
    let there = so_far.so_far bytes told in
    let given = there.given in
    let one = gives (head_of a.generation ++ given) there.walked in
    let end = on ((head_of a.generation ++ given) ++ payload ∷ []) one.1 in
    let head : head_of d.generation ≡ head_of a.generation = same_head b d same_d ∙ same_head a b same_b in
    let second : d.second ≡ a.second = ap (λ (x : ReadingAt). x.second) same_d ∙ ap (λ (x : ReadingAt). x.second) same_b in
    let halves : d.half ≡ a.half = ap (λ (x : ReadingAt). x.half) same_d ∙ ap (λ (x : ReadingAt). x.half) same_b in
    let half : d.half ≡ half_of bytes = is.half ∙ ap (λ (n : ℕ). n / 2) (sym long) in
    let list : ((head_of a.generation ++ given) ++ payload ∷ []) ++ end.0 ≡ head_of d.generation ++ (given ++ payload ∷ end.0) =
    append_assoc (head_of a.generation ++ given) (payload ∷ []) end.0 ∙ append_assoc (head_of a.generation) given (payload ∷ end.0) ∙ ap (λ (l : List (List ℕ)). l ++ (given ++ payload ∷ end.0)) (sym head) in
    let current : HasCurrent d.half d.second d.generation (given ++ payload ∷ end.0) bytes =
    whole last d bytes (given ++ payload ∷ end.0) is done told_last long (subst (λ (l : List (List ℕ)). HasWalked d.walk bytes l) list end.1) in
    let from : a.walk.from ≡ area_from (half_of bytes) d.second =
    so_far.reading.from ∙ ap (λ (n : ℕ). area_from n a.second) (sym halves ∙ half) ∙ ap (λ x. area_from (half_of bytes) x) (sym second) in
    record {
      second = d.second;
      generation = d.generation;
      given = given;
      more = end.0;
      current = subst (λ (n : ℕ). HasCurrent n d.second d.generation (given ++ payload ∷ end.0) bytes) half current;
      reads = there.reads;
      none_stray = so_far.read.none_stray;
      place = one.0 ∙ there.walked.place ∙ ap (λ (n : ℕ). n + length (journal_records (head_of a.generation ++ given))) from
          ∙ ap (λ (l : List (List ℕ)). area_from (half_of bytes) d.second + length (journal_records (l ++ given))) (sym head);
    }
