-- Calls, crashes and openings, one after another.
use Rattle.std.proofs.Common.{◌≡◌, ℕ, ◌+◌, false, List, [], ◌∷◌, ◌++◌, length, Option, None, Some, inl, inr, refl, sym, ap, subst, ◌∙◌, append_assoc, append-nil, arith}
use Rattle.std.specs.Prelude.{◌⊎◌, is_some}
use Rattle.rm_formats.specs.Device.{journal_records}
use Rattle.rm_disk.specs.Disk.{DiskView, EachImage, IsQuiet, IsLaterView, Falls}
use Rattle.rm_disk.proofs.Views.{told_before, told_after}
use Rattle.rm_journal.specs.Journal.{JournalPlace, RegionHas, JournalInvariant, region_of}
use Rattle.rm_journal.proofs.Nexts.{stands_quiet}
use Rattle.rm_journal.proofs.Payloads.{unique}
use Rattle.rm_tokens.specs.declared.fault.TokenError.{TokenError}
use Rattle.rm_tokens.specs.declared.token.TokenRecord.{TokenRecord}
use Rattle.rm_tokens.specs.Calls.{Command, Verdict, Refuse, Keep, journal_refusal, kept_unless, journal_verdict, ruling, verdict, KeepsRecord, Does}
use Rattle.rm_tokens.specs.Held.{TokensAt, HoldsRecords, HoldsEither, Stand, needed_for}
use Rattle.rm_tokens.specs.Runs.{TokensOnDisk, Event, Kept, Lost, Refused, Fell, Opened, NotOpened, OpensAnew, event_of, Happens, Run, AddRecords, HoldsWithLost, AreTokensOf}
use Rattle.rm_tokens.proofs.Stands.{admitted_open}

-- ---- a crash, and a call that changes no byte

same_bytes : {a b : List ℕ} → Some a ≡ Some b → a ≡ b
same_bytes e = cc

journal_falls : (v v' : DiskView) (j : JournalPlace) → j.is_broken ≡ false → JournalInvariant v j → Falls v v' → JournalInvariant v' j
journal_falls v v' j sound stands falls = record {
  inside = omega (arith, stands.inside, falls.goes_on.size);
  first = stands.first;
  last = stands.last;
  payloads = λ bytes told.
      let was = told_before v v' falls.goes_on bytes told in
      let left = stands.payloads was.0 was.1 in
      record {
        given = left.given;
        left = left.left;
        read = record { holds = stands.images sound was.0 was.1 bytes (falls.told bytes told) (left.given ++ left.left) left.read.holds; place = left.read.place };
      };
  gate = λ _ bytes told all has.
      let was = told_before v v' falls.goes_on bytes told in
      let left = stands.payloads was.0 was.1 in
      let here = stands.images sound was.0 was.1 bytes (falls.told bytes told) (left.given ++ left.left) left.read.holds in
      let same = unique (region_of j.from j.end bytes) (left.given ++ left.left) all here has in
      stands.gate sound was.0 was.1 (left.given ++ left.left) left.read.holds ∙ ap (λ (l : List (List ℕ)). j.from + length (journal_records l)) same;
  images = λ _ bytes told image now all has.
      let same = same_bytes (sym told ∙ falls.durable image now) in
      subst (λ (l : List ℕ). RegionHas j l all) same has;
}

pub stand_falls : (v v' : DiskView) (t : TokensAt) (entries : List TokenRecord) → Stand v t entries → Falls v v' → Stand v' t entries
stand_falls v v' t entries stand falls = record {
  journal = λ sound.
      let whole = stand.journal sound in
      record { stands = journal_falls v v' t.journal (stand.unbroken sound) whole.stands falls; from = whole.from; end = whole.end ∙ sym falls.goes_on.size };
  unbroken = stand.unbroken;
  are = stand.are;
  rows = stand.rows;
  read = λ sound bytes told. let was = told_before v v' falls.goes_on bytes told in stand.images sound was.0 was.1 bytes (falls.told bytes told);
  images = λ sound bytes told image now.
      let was = told_before v v' falls.goes_on bytes told in
      stand.images sound was.0 was.1 image (falls.told image (falls.durable image now));
}

pub stand_quiet : (v v' : DiskView) (t : TokensAt) (entries : List TokenRecord) → Stand v t entries → IsQuiet v v' → Stand v' t entries
stand_quiet v v' t entries stand quiet = record {
  journal = λ sound.
      let whole = stand.journal sound in
      record { stands = stands_quiet v v' t.journal whole.stands quiet; from = whole.from; end = whole.end ∙ sym quiet.goes_on.size };
  unbroken = stand.unbroken;
  are = stand.are;
  rows = stand.rows;
  read = λ sound bytes told. stand.read sound bytes (sym quiet.told ∙ told);
  images = λ sound bytes told image now. stand.images sound bytes (sym quiet.told ∙ told) image (quiet.images image now);
}

-- ---- the tokens of some records, with the record of a call that was lost since

pub record AreWith (v : DiskView) (t : TokensAt) (entries : List TokenRecord) (lost : Option TokenRecord) : Type 0 where
  pub stand : Stand v t entries
  pub tells : (bytes : List ℕ) × (v.told ≡ Some bytes)
  pub images : EachImage v (HoldsWithLost lost entries)
  pub broken : t.is_broken ≡ is_some lost

with_quiet : (v v' : DiskView) (t t' : TokensAt) (entries : List TokenRecord) (lost : Option TokenRecord) → AreWith v t entries lost → IsQuiet v v' → t' ≡ t → AreWith v' t' entries lost
with_quiet v v' t t' entries lost are quiet same = subst (λ (s : TokensAt). AreWith v' s entries lost) (sym same) (record {
  stand = stand_quiet v v' t entries are.stand quiet;
  tells = (are.tells.0, quiet.told ∙ are.tells.1);
  images = λ image now. are.images image (quiet.images image now);
  broken = are.broken;
})

with_fall : (v v' : DiskView) (t t' : TokensAt) (entries : List TokenRecord) (lost : Option TokenRecord) → AreWith v t entries lost → Falls v v' → t' ≡ t → AreWith v' t' entries lost
with_fall v v' t t' entries lost are falls same = subst (λ (s : TokensAt). AreWith v' s entries lost) (sym same) (record {
  stand = stand_falls v v' t entries are.stand falls;
  tells = told_after v v' falls.goes_on are.tells.0 are.tells.1;
  images = λ image now. are.images image (falls.told image (falls.durable image now));
  broken = are.broken;
})

with_kept : {D : Type 0} (view : D → DiskView) (d d' : D) (t t' : TokensAt) (entries : List TokenRecord) (entry : TokenRecord) → AreWith (view d) t entries None → KeepsRecord view d d' t t' entry None → IsLaterView (view d) (view d') → AreWith (view d') t' (entries ++ entry ∷ []) None
with_kept view d d' t t' entries entry are keeps later =
    let stand = keeps.stands entries are.stand in
    let tells = told_after (view d) (view d') later are.tells.0 are.tells.1 in
    record { stand = stand; tells = tells; images = stand.images keeps.broken tells.0 tells.1; broken = keeps.broken }

with_lost : {D : Type 0} (view : D → DiskView) (d d' : D) (t t' : TokensAt) (entries : List TokenRecord) (entry : TokenRecord) (why : TokenError) → AreWith (view d) t entries None → KeepsRecord view d d' t t' entry (Some why) → IsLaterView (view d) (view d') → AreWith (view d') t' entries (Some entry)
with_lost view d d' t t' entries entry why are keeps later = record {
  stand = keeps.stands entries are.stand;
  tells = told_after (view d) (view d') later are.tells.0 are.tells.1;
  images = (keeps.moments entries are.stand are.tells.0 are.tells.1).now;
  broken = keeps.broken;
}

with_opened : (v v' : DiskView) (t' : TokensAt) (entries : List TokenRecord) → (bytes : List ℕ) → v.told ≡ Some bytes → HoldsRecords bytes entries → OpensAnew v v' t' → AreWith v' t' entries None
with_opened v v' t' entries bytes told holds opens =
    let stand = opens.read entries bytes told holds in
    let told_now = opens.quiet.told ∙ told in
    record { stand = stand; tells = (bytes, told_now); images = stand.images opens.unbroken bytes told_now; broken = opens.unbroken }

-- ---- a call keeps nothing while the tokens are broken

kept_sound : (t : TokensAt) (v : Verdict) (entry : TokenRecord) → journal_verdict t v ≡ Keep entry → t.is_broken ≡ false
kept_sound t (Refuse why) entry is = absurd cc
kept_sound t (Keep one) entry is = by (journal_refusal t (needed_for one)) refl
  where
    by : (a : Option TokenError) → journal_refusal t (needed_for one) ≡ a → t.is_broken ≡ false
    by None none = (admitted_open t (needed_for one) none).0
    by (Some why) some = absurd (let refused = subst (λ (a : Option TokenError). kept_unless a one ≡ Keep entry) some is in cc)

never_kept : {T : Type 0} (t : TokensAt) (command : Command) (entry lost : TokenRecord) → verdict t command ≡ Keep entry → t.is_broken ≡ is_some (Some lost) → T
never_kept t command entry lost is broken = absurd (let sound = kept_sound t (ruling t command) entry is in let never = sym sound ∙ broken in cc)

-- ---- a run

-- the records that were added behind some, where these and no others were
abbrev pub AddsTo : {D : Type 0} → (D → DiskView) → (List TokenRecord → Type 0) → TokensOnDisk D → List TokenRecord → Type 0
AddsTo view adds to entries = (added : List TokenRecord) × adds added × ((lost : Option TokenRecord) × AreWith (view to.disk) to.tokens (entries ++ added) lost)

-- where a call was lost before, its record was added first, or not
abbrev pub Comes : {D : Type 0} → (D → DiskView) → Option TokenRecord → (List TokenRecord → Type 0) → TokensOnDisk D → List TokenRecord → Type 0
Comes view None adds to entries = AddsTo view adds to entries
Comes view (Some entry) adds to entries = AddsTo view adds to entries ⊎ AddsTo view adds to (entries ++ entry ∷ [])

added_first : {D : Type 0} (view : D → DiskView) (adds : List TokenRecord → Type 0) (to : TokensOnDisk D) (entries : List TokenRecord) (entry : TokenRecord) → AddsTo view adds to (entries ++ entry ∷ [])
    → AddsTo view (λ added. (later : List TokenRecord) × (added ≡ entry ∷ later) × adds later) to entries
added_first view adds to entries entry (added, is, there) =
    (entry ∷ added, (added, refl, is), (there.0, subst (λ (l : List TokenRecord). AreWith (view to.disk) to.tokens l there.0) (append_assoc entries (entry ∷ []) added) there.1))

pub run_on : {D : Type 0} (view : D → DiskView) → ((disk : D) (bytes : List ℕ) → (view disk).told ≡ Some bytes → (view disk).images bytes)
    → (events : List Event) (from to : TokensOnDisk D) (entries : List TokenRecord) (lost : Option TokenRecord) → AreWith (view from.disk) from.tokens entries lost → Run view events from to → Comes view lost (AddRecords events) to entries
run_on view reads [] from to entries None are same =
    ([], refl, (None, subst (λ (l : List TokenRecord). AreWith (view to.disk) to.tokens l None) (sym (append-nil entries)) (subst (λ a. AreWith (view a.disk) a.tokens entries None) (sym same) are)))
run_on view reads [] from to entries (Some entry) are same =
    inl ([], refl, (Some entry, subst (λ (l : List TokenRecord). AreWith (view to.disk) to.tokens l (Some entry)) (sym (append-nil entries)) (subst (λ a. AreWith (view a.disk) a.tokens entries (Some entry)) (sym same) are)))
run_on view reads (Kept command entry ∷ events) from to entries None are (next, happens, run) =
    added_first view (AddRecords events) to entries entry
    (run_on view reads events next to (entries ++ entry ∷ []) None (with_kept view from.disk next.disk from.tokens next.tokens entries entry are happens.1 happens.2) run)
run_on view reads (Kept command entry ∷ events) from to entries (Some one) are (next, happens, run) = never_kept from.tokens command entry one happens.0 are.broken
run_on view reads (Lost command entry ∷ events) from to entries None are (next, happens, run) =
    either (run_on view reads events next to entries (Some entry) (with_lost view from.disk next.disk from.tokens next.tokens entries entry happens.0 are happens.2 happens.3) run)
  where
    either : AddsTo view (AddRecords events) to entries ⊎ AddsTo view (AddRecords events) to (entries ++ entry ∷ []) → AddsTo view (AddRecords (Lost command entry ∷ events)) to entries
    either (inl (added, is, at)) = (added, inl is, at)
    either (inr more) = let first = added_first view (AddRecords events) to entries entry more in (first.0, inr first.1, first.2)
run_on view reads (Lost command entry ∷ events) from to entries (Some one) are (next, happens, run) = never_kept from.tokens command entry one happens.1 are.broken
run_on view reads (Refused command why ∷ events) from to entries lost are (next, happens, run) =
    run_on view reads events next to entries lost (subst (λ d. AreWith (view d) next.tokens entries lost) (sym happens.2) (subst (λ (t : TokensAt). AreWith (view from.disk) t entries lost) (sym happens.1) are)) run
run_on view reads (Fell ∷ events) from to entries lost are (next, happens, run) =
    run_on view reads events next to entries lost (with_fall (view from.disk) (view next.disk) from.tokens next.tokens entries lost are happens.0 happens.1) run
run_on view reads (Opened ∷ events) from to entries None are (next, happens, run) =
    let holds = are.images are.tells.0 (reads from.disk are.tells.0 are.tells.1) in
    run_on view reads events next to entries None (with_opened (view from.disk) (view next.disk) next.tokens entries are.tells.0 are.tells.1 holds happens) run
run_on view reads (Opened ∷ events) from to entries (Some entry) are (next, happens, run) =
    either (are.images are.tells.0 (reads from.disk are.tells.0 are.tells.1)) (λ list holds. run_on view reads events next to list None (with_opened (view from.disk) (view next.disk) next.tokens list are.tells.0 are.tells.1 holds happens) run)
  where
    either : HoldsEither entries entry are.tells.0 → ((list : List TokenRecord) → HoldsRecords are.tells.0 list → AddsTo view (AddRecords events) to list) → AddsTo view (AddRecords events) to entries ⊎ AddsTo view (AddRecords events) to (entries ++ entry ∷ [])
    either (inl holds) go = inl (go entries holds)
    either (inr holds) go = inr (go (entries ++ entry ∷ []) holds)
run_on view reads (NotOpened ∷ events) from to entries lost are (next, happens, run) =
    run_on view reads events next to entries lost (with_quiet (view from.disk) (view next.disk) from.tokens next.tokens entries lost are happens.0 happens.1) run

-- ---- the theorem

of_with : (v : DiskView) (t : TokensAt) (entries : List TokenRecord) (lost : Option TokenRecord) → AreWith v t entries lost → AreTokensOf v t entries
of_with v t entries lost are = record { stand = are.stand; tells = are.tells; lost = lost; images = are.images; broken = are.broken }

-- no call was lost before the first event
pub run_ends : {D : Type 0} (view : D → DiskView) → ((disk : D) (bytes : List ℕ) → (view disk).told ≡ Some bytes → (view disk).images bytes)
    → (events : List Event) (from to : TokensOnDisk D) (entries : List TokenRecord) → AreTokensOf (view from.disk) from.tokens entries → from.tokens.is_broken ≡ false → Run view events from to
    → (added : List TokenRecord) × AddRecords events added × AreTokensOf (view to.disk) to.tokens (entries ++ added)
run_ends view reads events from to entries are sound run = by are.lost refl
  where
    by : (lost : Option TokenRecord) → are.lost ≡ lost → (added : List TokenRecord) × AddRecords events added × AreTokensOf (view to.disk) to.tokens (entries ++ added)
    by None is =
        let there = run_on view reads events from to entries None (record {
          stand = are.stand;
          tells = are.tells;
          images = subst (λ (l : Option TokenRecord). EachImage (view from.disk) (HoldsWithLost l entries)) is are.images;
          broken = sound;
        }) run in
        (there.0, there.1, of_with (view to.disk) to.tokens (entries ++ there.0) there.2.0 there.2.1)
    by (Some entry) is = absurd (let never = sym sound ∙ are.broken ∙ ap (λ (l : Option TokenRecord). is_some l) is in cc)

-- ---- each call is an event

-- what came of a call, as an event
pub happens : {D : Type 0} (view : D → DiskView) (command : Command) (old new : TokensOnDisk D) (why : Option TokenError) → Does view (verdict old.tokens command) old.disk new.disk old.tokens new.tokens why → IsLaterView (view old.disk) (view new.disk)
    → Happens view (event_of command (verdict old.tokens command) why) old new
happens view command old new why does later = by (verdict old.tokens command) refl why does
  where
    by : (v : Verdict) → verdict old.tokens command ≡ v → (why : Option TokenError) → Does view v old.disk new.disk old.tokens new.tokens why → Happens view (event_of command v why) old new
    by (Refuse error) is why (told, tokens, disk) = (is, tokens, disk)
    by (Keep entry) is None keeps = (is, keeps, later)
    by (Keep entry) is (Some error) keeps = (error, is, keeps, later)
