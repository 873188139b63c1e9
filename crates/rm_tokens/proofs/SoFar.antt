-- How far the records of a disk were read.
use Rattle.std.proofs.Common.{◌≡◌, ℕ, ◌+◌, true, false, Option, Some, List, [], ◌∷◌, ◌++◌, length, map, take_all, refl, sym, ap, subst, ◌∙◌, inl, inr, arith, true≢false}
use Rattle.std.specs.Prelude.{All}
use Rattle.std.proofs.lemmas.List.{append-nil, map-append}
use Rattle.std.proofs.lemmas.List.Elements.{All-head, All-tail}
use Rattle.rm_formats.specs.Device.{HasPayloads, IsDamagedAt}
use Rattle.rm_disk.specs.Disk.{DiskView, IfTold, IsQuiet}
use Rattle.rm_disk.proofs.Views.{quiet_trans}
use Rattle.rm_journal.specs.declared.fault.JournalError.{JournalError}
use Rattle.rm_journal.specs.declared.fault.JournalError.TheVariants as journal
use Rattle.rm_journal.specs.Journal.{JournalPlace, JournalInvariant, IsOpened, HasRead, region_of}
use Rattle.rm_journal.proofs.Payloads.{unique, sound_never}
use Rattle.rm_tokens.specs.declared.fault.TokenError.{TokenError}
use Rattle.rm_tokens.specs.declared.fault.TokenError.TheVariants.{Unknown, NotRenewer, NotHolder, Ended, DiskFault, Damaged, Full, NeedsReopen, Memory}
use Rattle.rm_tokens.specs.declared.token.Token.{Token}
use Rattle.rm_tokens.specs.declared.token.TokenRecord.{TokenRecord}
use Rattle.rm_tokens.specs.Errors.{as_token_error}
use Rattle.rm_tokens.specs.Frames.{IsTokenRecord, IsFrameOf, token_frame}
use Rattle.rm_tokens.specs.Held.{AreTokenRecords, HoldsRecords, IsWhole, ReadsUpTo, IsWhy, IsFaultless}
use Rattle.rm_tokens.specs.Records.{fit_in_order}
use Rattle.rm_tokens.specs.Rows.{AreRows, fits_rows, rows_after}
use Rattle.rm_tokens.proofs.Entries.{are_more, no_records, no_rows, fits_same, rows_more, fits_there}
use Rattle.rm_tokens.proofs.Parts.{same_record}

-- these records were read, nothing was written, and their frames are the payloads that the journal gave
pub record ReadSoFar (first now : DiskView) (journal : JournalPlace) (rows : List (Option Token)) (entries : List TokenRecord) : Type 0 where
  pub quiet : IsQuiet first now
  pub whole : IsWhole now journal
  pub unbroken : journal.is_broken ≡ false
  pub are : AreTokenRecords entries
  pub rows_are : AreRows rows entries
  pub so_far : IfTold now (λ bytes. (left : List (List ℕ)) × HasRead journal bytes (map token_frame entries) left)

-- the same of some records
abbrev pub HasReadSome : DiskView → DiskView → JournalPlace → List (Option Token) → Type 0
HasReadSome first now journal rows = (entries : List TokenRecord) × ReadSoFar first now journal rows entries

-- a journal that was just opened on a whole disk has given nothing
pub begun : (first now : DiskView) (journal : JournalPlace) (size : ℕ) → IsQuiet first now → size ≡ first.size → IsOpened now 0 size journal
    → IfTold now (λ bytes. (all : List (List ℕ)) × HasPayloads (region_of 0 (0 + size) bytes) all) → HasReadSome first now journal []
begun first now journal size quiet sized opened holds =
    let end : journal.end ≡ 0 + size = opened.end in (
      [],
      record {
        quiet = quiet;
        whole = record { stands = opened.stands; from = opened.from; end = omega (arith, end, sized, quiet.goes_on.size) };
        unbroken = opened.sound;
        are = no_records;
        rows_are = no_rows;
        so_far = λ bytes told.
            let has = holds bytes told in
            (has.0, record { holds = rw (opened.from, end) has.1; place = omega (arith, opened.from, opened.cursor) });
      },
    )

-- one record more was read
pub read_more : (first now next : DiskView) (journal moved : JournalPlace) (rows rows' : List (Option Token)) (entries : List TokenRecord) (payload : List ℕ) (entry : TokenRecord)
    → ReadSoFar first now journal rows entries → IsQuiet now next → JournalInvariant next moved → moved ≡ record journal { cursor = moved.cursor }
    → IfTold now (λ bytes. (left : List (List ℕ)) → HasRead journal bytes (map token_frame entries) left → (others : List (List ℕ)) × HasRead moved bytes (map token_frame entries ++ payload ∷ []) others)
    → IsFrameOf payload entry → fits_rows rows entry ≡ true → rows' ≡ rows_after rows entry
    → ReadSoFar first next moved rows' (entries ++ entry ∷ [])
read_more first now next journal moved rows rows' entries payload entry so_far quiet stands same gives framed fit grown =
    let from : moved.from ≡ journal.from = ap (λ (p : JournalPlace). p.from) same in
    let end : moved.end ≡ journal.end = ap (λ (p : JournalPlace). p.end) same in
    record {
      quiet = quiet_trans first now next so_far.quiet quiet;
      whole = record { stands = stands; from = from ∙ so_far.whole.from; end = end ∙ so_far.whole.end ∙ sym quiet.goes_on.size };
      unbroken = ap (λ (p : JournalPlace). p.is_broken) same ∙ so_far.unbroken;
      are = are_more entries entry so_far.are framed.can (sym (fits_same rows entries entry so_far.rows_are) ∙ fit);
      rows_are = subst (λ (r : List (Option Token)). AreRows r (entries ++ entry ∷ [])) (sym grown) (rows_more rows entries entry so_far.rows_are fit);
      so_far = λ bytes told.
          let told_now = sym quiet.told ∙ told in
          let there = so_far.so_far bytes told_now in
          let on = gives bytes told_now there.0 there.1 in
          let frames : map token_frame entries ++ payload ∷ [] ≡ map token_frame (entries ++ entry ∷ []) =
          ap (λ p. map token_frame entries ++ p ∷ []) framed.is ∙ sym (map-append token_frame entries (entry ∷ [])) in
          (on.0, subst (λ given. HasRead moved bytes given on.0) frames on.1);
    }

-- the whole region of a disk is its bytes
pub region_all : (bytes : List ℕ) (size : ℕ) → length bytes ≡ size → region_of 0 size bytes ≡ bytes
region_all bytes size long = take_all size bytes (omega (arith, long))

-- a disk is read whole where its journal gives no more
pub all_read : (first now : DiskView) (journal : JournalPlace) (rows : List (Option Token)) (entries : List TokenRecord) (bytes : List ℕ) → ReadSoFar first now journal rows entries → now.told ≡ Some bytes → length bytes ≡ now.size
    → ((left : List (List ℕ)) → HasRead journal bytes (map token_frame entries) left → left ≡ []) → HoldsRecords bytes entries
all_read first now journal rows entries bytes so_far told long none =
    let there = so_far.so_far bytes told in
    let whole : map token_frame entries ++ there.0 ≡ map token_frame entries = ap (λ left. map token_frame entries ++ left) (none there.0 there.1) ∙ append-nil (map token_frame entries) in
    let has = subst (HasPayloads (region_of journal.from journal.end bytes)) whole there.1.holds in
    let region : region_of journal.from journal.end bytes ≡ bytes = rw so_far.whole.from (region_all bytes journal.end (omega (arith, long, so_far.whole.end))) in
    record { payloads = subst (λ b. HasPayloads b (map token_frame entries)) region has; are = so_far.are }

-- a payload that was given behind records stands there, at its gate
pub reads_up_to : (first now : DiskView) (journal : JournalPlace) (rows : List (Option Token)) (entries : List TokenRecord) (bytes payload : List ℕ) (gate : ℕ) → ReadSoFar first now journal rows entries → now.told ≡ Some bytes → length bytes ≡ now.size
    → ((left : List (List ℕ)) → HasRead journal bytes (map token_frame entries) left → (gate ≡ journal.cursor) × ((others : List (List ℕ)) × (left ≡ payload ∷ others)))
    → ReadsUpTo bytes entries payload gate
reads_up_to first now journal rows entries bytes payload gate so_far told long gives =
    let there = so_far.so_far bytes told in
    let given = gives there.0 there.1 in
    let has = subst (λ left. HasPayloads (region_of journal.from journal.end bytes) (map token_frame entries ++ left)) given.1.1 there.1.holds in
    let region : region_of journal.from journal.end bytes ≡ bytes = rw so_far.whole.from (region_all bytes journal.end (omega (arith, long, so_far.whole.end))) in
    record {
      more = given.1.0;
      payloads = subst (λ b. HasPayloads b (map token_frame entries ++ payload ∷ given.1.0)) region has;
      are = so_far.are;
      place = omega (arith, given.0, there.1.place, so_far.whole.from);
    }

-- ---- one device holds one list of records, and is then not damaged

same_head : {a b : List ℕ} {xs ys : List (List ℕ)} → a ∷ xs ≡ b ∷ ys → a ≡ b
same_head e = cc

same_tail : {a b : List ℕ} {xs ys : List (List ℕ)} → a ∷ xs ≡ b ∷ ys → xs ≡ ys
same_tail e = cc

same_records : (one other : List TokenRecord) → All IsTokenRecord one → All IsTokenRecord other → map token_frame one ≡ map token_frame other → one ≡ other
same_records [] [] all all' e = refl
same_records [] (b ∷ other) all all' e = absurd cc
same_records (a ∷ one) [] all all' e = absurd cc
same_records (a ∷ one) (b ∷ other) all all' e =
    let first = same_record a b (All-head IsTokenRecord a one all) (All-head IsTokenRecord b other all') (same_head e) in
    let rest = same_records one other (All-tail IsTokenRecord a one all) (All-tail IsTokenRecord b other all') (same_tail e) in
    ap (λ x. x ∷ one) first ∙ ap (λ xs. b ∷ xs) rest

pub one_list : (bytes : List ℕ) (one other : List TokenRecord) → HoldsRecords bytes one → HoldsRecords bytes other → one ≡ other
one_list bytes one other holds holds' = same_records one other holds.are.ranges holds'.are.ranges (unique bytes (map token_frame one) (map token_frame other) holds.payloads holds'.payloads)

record StandsBehind (entries front : List TokenRecord) (payload : List ℕ) : Type 0 where
  pub entry : TokenRecord
  pub rest : List TokenRecord
  pub is : entries ≡ front ++ entry ∷ rest
  pub framed : IsFrameOf payload entry

stands_behind : (entries front : List TokenRecord) (payload : List ℕ) (more : List (List ℕ)) → All IsTokenRecord entries → All IsTokenRecord front
    → map token_frame entries ≡ map token_frame front ++ payload ∷ more → StandsBehind entries front payload
stands_behind [] [] payload more all all' e = absurd cc
stands_behind (entry ∷ entries) [] payload more all all' e =
    record { entry = entry; rest = entries; is = refl; framed = record { can = All-head IsTokenRecord entry entries all; is = sym (same_head e) } }
stands_behind [] (one ∷ front) payload more all all' e = absurd cc
stands_behind (entry ∷ entries) (one ∷ front) payload more all all' e =
    let s = stands_behind entries front payload more (All-tail IsTokenRecord entry entries all) (All-tail IsTokenRecord one front all') (same_tail e) in
    let same = same_record entry one (All-head IsTokenRecord entry entries all) (All-head IsTokenRecord one front all') (same_head e) in
    record { entry = s.entry; rest = s.rest; is = ap (λ x. x ∷ entries) same ∙ ap (λ xs. one ∷ xs) s.is; framed = s.framed }

pub holds_faultless : (bytes : List ℕ) (entries : List TokenRecord) → HoldsRecords bytes entries → IsFaultless bytes
holds_faultless bytes entries holds = record {
  undamaged = λ offset there. sound_never there.payloads there.rest bytes (map token_frame entries) there.sizes there.bytes_are there.no_record holds.payloads;
  tokens = λ offset there.
      let s = stands_behind entries there.entries there.payload there.reads.more holds.are.ranges there.reads.are.ranges
      (unique bytes (map token_frame entries) (map token_frame there.entries ++ there.payload ∷ there.reads.more) holds.payloads there.reads.payloads) in
      let fit = fits_there there.entries s.entry s.rest (subst (λ list. fit_in_order list ≡ true) s.is holds.are.fit) in
      true≢false (sym fit ∙ there.no_token s.entry s.framed);
}

pub never_why : (bytes : List ℕ) (entries : List TokenRecord) → HoldsRecords bytes entries → (offset : ℕ) → IsWhy bytes (Damaged offset) → ⊥
never_why bytes entries holds offset (inl there) = (holds_faultless bytes entries holds).undamaged offset there
never_why bytes entries holds offset (inr there) = (holds_faultless bytes entries holds).tokens offset there

-- ---- why the bytes are refused

-- the journal's damage
pub why_open : (bytes : List ℕ) (error : JournalError) → ((offset : ℕ) → error ≡ journal.Damaged offset → IsDamagedAt bytes offset) → IsWhy bytes (as_token_error error)
why_open bytes journal.DiskFault damaged = tt
why_open bytes (journal.Damaged offset) damaged = inl (damaged offset refl)
why_open bytes (journal.Full needed room) damaged = tt
why_open bytes journal.NeedsReopen damaged = tt
why_open bytes journal.Memory damaged = tt

-- a payload behind records that is no token record, or doesn't fit
pub why_taken : (bytes payload : List ℕ) (rows : List (Option Token)) (entries : List TokenRecord) (gate : ℕ) (error : TokenError) → ReadsUpTo bytes entries payload gate → AreRows rows entries
    → ((offset : ℕ) → error ≡ Damaged offset → (offset ≡ gate) × ((entry : TokenRecord) → IsFrameOf payload entry → fits_rows rows entry ≡ false))
    → IsWhy bytes error
why_taken bytes payload rows entries gate Unknown reads are damaged = tt
why_taken bytes payload rows entries gate NotRenewer reads are damaged = tt
why_taken bytes payload rows entries gate NotHolder reads are damaged = tt
why_taken bytes payload rows entries gate (Ended until) reads are damaged = tt
why_taken bytes payload rows entries gate DiskFault reads are damaged = tt
why_taken bytes payload rows entries gate (Damaged offset) reads are damaged =
    let d = damaged offset refl in
    inr (record {
      entries = entries;
      payload = payload;
      reads = subst (ReadsUpTo bytes entries payload) (sym d.0) reads;
      no_token = λ entry framed. sym (fits_same rows entries entry are) ∙ d.1 entry framed;
    })
why_taken bytes payload rows entries gate (Full needed room) reads are damaged = tt
why_taken bytes payload rows entries gate NeedsReopen reads are damaged = tt
why_taken bytes payload rows entries gate Memory reads are damaged = tt
