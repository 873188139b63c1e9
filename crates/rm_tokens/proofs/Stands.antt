-- Tokens that stand on a disk.
use Rattle.std.proofs.Common.{◌≡◌, ℕ, ◌+◌, ◌≤◌, Bool, true, false, List, [], ◌∷◌, ◌++◌, Option, None, Some, inl, refl, sym, ap, subst, ◌∙◌, append_assoc, append-nil, arith, if◌then◌else◌}
use Rattle.std.specs.Prelude.{◌⊎◌, nat_le, nat_lt, max, min, option_map, ◌==◌}
use Rattle.std.proofs.lemmas.Bool.{and_parts, and_from, leb-true, le-leb}
use Rattle.rm_disk.specs.Disk.{DiskView, IfTold, EachImage, AtEachMoment, IsLaterView}
use Rattle.rm_disk.proofs.Views.{told_before}
use Rattle.rm_tokens.specs.declared.fault.TokenError.{TokenError}
use Rattle.rm_tokens.specs.declared.fault.TokenError.TheVariants.{Memory}
use Rattle.rm_tokens.specs.declared.token.Token.{Token}
use Rattle.rm_tokens.specs.declared.token.TokenRecord.{TokenRecord}
use Rattle.rm_tokens.specs.declared.token.TokenRecord.TheVariants.{Issued, Renewed, Cancelled}
use Rattle.rm_tokens.specs.Calls.{journal_refusal, kept_unless, KeepsRecord, Does}
use Rattle.rm_tokens.specs.Errors.{IsWriteError}
use Rattle.rm_tokens.specs.Frames.{IsTokenRecord}
use Rattle.rm_tokens.specs.Held.{TokensAt, AreTokenRecords, HoldsRecords, HoldsEither, IsWhole, Stand, IsSound, room_of, needed_for}
use Rattle.rm_tokens.specs.Records.{token_after, token, issue_count, may_renew, fits, fit_behind, fit_in_order}
use Rattle.rm_tokens.specs.Rows.{row_at, AreRows, fits_rows, rows_after}
use Rattle.rm_tokens.proofs.Entries.{token_more, are_more, fits_same, rows_more, same_number}
use Rattle.rm_tokens.proofs.Writes.{IsSized, images_hold, still_leaves}

-- tokens that were just read stand with the records that were read
pub stand_read : (v : DiskView) (t : TokensAt) (entries : List TokenRecord) → IsWhole v t.journal → t.journal.is_broken ≡ false → IsSized v → AreTokenRecords entries → AreRows t.rows entries
    → IfTold v (λ bytes. HoldsRecords bytes entries) → Stand v t entries
stand_read v t entries whole sound sized are rows holds = record {
  journal = λ _. whole;
  unbroken = λ _. sound;
  are = are;
  rows = rows;
  read = λ _. holds;
  images = λ _ bytes told. images_hold v t.journal bytes entries whole sound sized told (holds bytes told);
}

-- broken tokens stand on any disk
pub stand_broken : (v v' : DiskView) (t t' : TokensAt) (entries : List TokenRecord) → Stand v t entries → t'.is_broken ≡ true → t'.rows ≡ t.rows → Stand v' t' entries
stand_broken v v' t t' entries stand broken rows = record {
  journal = λ sound. absurd (let never = sym sound ∙ broken in cc);
  unbroken = λ sound. absurd (let never = sym sound ∙ broken in cc);
  are = stand.are;
  rows = subst (λ (r : List (Option Token)). AreRows r entries) (sym rows) stand.rows;
  read = λ sound. absurd (let never = sym sound ∙ broken in cc);
  images = λ sound. absurd (let never = sym sound ∙ broken in cc);
}

-- what is admitted
pub admitted_open : (t : TokensAt) (needed : ℕ) → journal_refusal t needed ≡ None → (t.is_broken ≡ false) × (needed ≤ room_of t)
admitted_open t needed none = by t.is_broken (nat_lt (room_of t) needed) refl refl
  where
    by : (broken small : Bool) → t.is_broken ≡ broken → nat_lt (room_of t) needed ≡ small → (t.is_broken ≡ false) × (needed ≤ room_of t)
    by true small b s = absurd (let some = rw b at none in cc)
    by false true b s = absurd (let some = rw (b, s) at none in cc)
    by false false b s = (b, grind (arith, s))

-- want of memory before anything was written
pub keeps_nothing : {D : Type 0} (view : D → DiskView) (d : D) (t t' : TokensAt) (entry : TokenRecord) → t.is_broken ≡ false → t'.rows ≡ t.rows → t'.limits ≡ t.limits → t'.is_broken ≡ true → KeepsRecord view d d t t' entry (Some Memory)
keeps_nothing view d t t' entry sound rows limits broken = record {
  errors = tt;
  broken = broken;
  early = λ _ _. inl refl;
  limits = limits;
  stands = λ entries stand. stand_broken (view d) (view d) t t' entries stand broken rows;
  moments = λ entries stand bytes told. still_leaves (view d) entries entry (stand.images sound bytes told);
}

-- a write that failed
pub keeps_failed : {D : Type 0} (view : D → DiskView) (d d' : D) (t t' : TokensAt) (entry : TokenRecord) (why : TokenError) → t.is_broken ≡ false → (d' ≡ d) ⊎ (t'.journal.is_broken ≡ true) → t'.rows ≡ t.rows → t'.limits ≡ t.limits → t'.is_broken ≡ true → fits_rows t.rows entry ≡ true → IsWriteError why
    → ((entries : List TokenRecord) → fits entries entry ≡ true → IfTold (view d) (λ bytes. HoldsRecords bytes entries → AtEachMoment (view d) (view d') (HoldsEither entries entry)))
    → KeepsRecord view d d' t t' entry (Some why)
keeps_failed view d d' t t' entry why sound early rows limits broken fit error moments = record {
  errors = error;
  broken = broken;
  early = λ _ _. early;
  limits = limits;
  stands = λ entries stand. stand_broken (view d) (view d') t t' entries stand broken rows;
  moments = λ entries stand bytes told. moments entries (sym (fits_same t.rows entries entry stand.rows) ∙ fit) bytes told (stand.read sound bytes told);
}

-- a write that was done
pub keeps_done : {D : Type 0} (view : D → DiskView) (d d' : D) (t t' : TokensAt) (entry : TokenRecord) → t.is_broken ≡ false → IsWhole (view d') t'.journal → t'.journal.is_broken ≡ false → t'.rows ≡ rows_after t.rows entry → t'.limits ≡ t.limits → t'.is_broken ≡ false
    → fits_rows t.rows entry ≡ true → IsTokenRecord entry → IsLaterView (view d) (view d')
    → ((entries : List TokenRecord) → fits entries entry ≡ true → IfTold (view d) (λ bytes. HoldsRecords bytes entries → AtEachMoment (view d) (view d') (HoldsEither entries entry)))
    → ((entries : List TokenRecord) → fits entries entry ≡ true → IfTold (view d) (λ bytes. HoldsRecords bytes entries → IfTold (view d') (λ now. HoldsRecords now (entries ++ entry ∷ []))))
    → ((entries : List TokenRecord) → fits entries entry ≡ true → IfTold (view d) (λ bytes. HoldsRecords bytes entries → EachImage (view d') (λ image. HoldsRecords image (entries ++ entry ∷ []))))
    → KeepsRecord view d d' t t' entry None
keeps_done view d d' t t' entry sound whole unbroken rows limits whole_now fit can later moments read images = record {
  errors = tt;
  broken = whole_now;
  early = λ error some. cc;
  limits = limits;
  stands = λ entries stand.
      let fit' = sym (fits_same t.rows entries entry stand.rows) ∙ fit in
      record {
        journal = λ _. whole;
        unbroken = λ _. unbroken;
        are = are_more entries entry stand.are can fit';
        rows = subst (λ (r : List (Option Token)). AreRows r (entries ++ entry ∷ [])) (sym rows) (rows_more t.rows entries entry stand.rows fit);
        read = λ _ now told_now.
            let was = told_before (view d) (view d') later now told_now in
            read entries fit' was.0 was.1 (stand.read sound was.0 was.1) now told_now;
        images = λ _ now told_now.
            let was = told_before (view d) (view d') later now told_now in
            images entries fit' was.0 was.1 (stand.read sound was.0 was.1);
      };
  moments = λ entries stand bytes told. moments entries (sym (fits_same t.rows entries entry stand.rows) ∙ fit) bytes told (stand.read sound bytes told);
}

-- ---- what a call does that is admitted

pub does_nothing : {D : Type 0} (view : D → DiskView) (d : D) (t t' : TokensAt) (entry : TokenRecord) → journal_refusal t (needed_for entry) ≡ None → t'.rows ≡ t.rows → t'.limits ≡ t.limits → t'.is_broken ≡ true
    → Does view (kept_unless (journal_refusal t (needed_for entry)) entry) d d t t' (Some Memory)
does_nothing view d t t' entry none rows limits broken =
    subst (λ (a : Option TokenError). Does view (kept_unless a entry) d d t t' (Some Memory)) (sym none) (keeps_nothing view d t t' entry (admitted_open t (needed_for entry) none).0 rows limits broken)

pub does_fail : {D : Type 0} (view : D → DiskView) (d d' : D) (t t' : TokensAt) (entry : TokenRecord) (why : TokenError) → journal_refusal t (needed_for entry) ≡ None → (d' ≡ d) ⊎ (t'.journal.is_broken ≡ true) → t'.rows ≡ t.rows → t'.limits ≡ t.limits → t'.is_broken ≡ true
    → fits_rows t.rows entry ≡ true → IsWriteError why
    → ((entries : List TokenRecord) → fits entries entry ≡ true → IfTold (view d) (λ bytes. HoldsRecords bytes entries → AtEachMoment (view d) (view d') (HoldsEither entries entry)))
    → Does view (kept_unless (journal_refusal t (needed_for entry)) entry) d d' t t' (Some why)
does_fail view d d' t t' entry why none early rows limits broken fit error moments =
    subst (λ (a : Option TokenError). Does view (kept_unless a entry) d d' t t' (Some why)) (sym none)
    (keeps_failed view d d' t t' entry why (admitted_open t (needed_for entry) none).0 early rows limits broken fit error moments)

pub does_keep : {D : Type 0} (view : D → DiskView) (d d' : D) (t t' : TokensAt) (entry : TokenRecord) → journal_refusal t (needed_for entry) ≡ None → KeepsRecord view d d' t t' entry None
    → Does view (kept_unless (journal_refusal t (needed_for entry)) entry) d d' t t' None
does_keep view d d' t t' entry none keeps = subst (λ (a : Option TokenError). Does view (kept_unless a entry) d d' t t' None) (sym none) keeps

pub does_refuse : {D : Type 0} (view : D → DiskView) (d : D) (t : TokensAt) (entry : TokenRecord) (why : TokenError) → journal_refusal t (needed_for entry) ≡ Some why → Does view (kept_unless (journal_refusal t (needed_for entry)) entry) d d t t (Some why)
does_refuse view d t entry why some = subst (λ (a : Option TokenError). Does view (kept_unless a entry) d d t t (Some why)) (sym some) (refl, refl, refl)

pub sound_after : {D : Type 0} (view : D → DiskView) (d d' : D) (t t' : TokensAt) (entry : TokenRecord) → journal_refusal t (needed_for entry) ≡ None → Does view (kept_unless (journal_refusal t (needed_for entry)) entry) d d' t t' None → IsSound (view d) t → IsSound (view d') t'
sound_after view d d' t t' entry none does (entries, stand) =
    let keeps : KeepsRecord view d d' t t' entry None = subst (λ (a : Option TokenError). Does view (kept_unless a entry) d d' t t' None) none does in
    (entries ++ entry ∷ [], keeps.stands entries stand)

-- ---- a token's date is at most its last one

abbrev pub IsDated : Option Token → Type 0
IsDated None = Unit {0}
IsDated (Some t) = t.until ≤ t.last

dated_after : (before : List TokenRecord) (entry : TokenRecord) (number : ℕ) → fits before entry ≡ true → IsDated (token before number) → IsDated (token_after number (token before number) entry)
dated_after before (Issued n t) number fit was = by (n == number)
  where
    by : (b : Bool) → IsDated (if b then Some t else token before number)
    by true = leb-true t.until t.last (and_parts (n == issue_count before + 1) (nat_le t.until t.last) fit).1
    by false = was
dated_after before (Renewed n until) number fit was = by (n == number) refl (token before number) refl was
  where
    by : (b : Bool) → (n == number) ≡ b → (known : Option Token) → token before number ≡ known → IsDated known → IsDated (if b then option_map (λ (t : Token). record t { until = until }) known else known)
    by true e None is dated = tt
    by true e (Some t) is dated =
        let here : may_renew until (Some t) ≡ true = subst (λ (o : Option Token). may_renew until o ≡ true) (ap (token before) (same_number n number e) ∙ is) fit in
        leb-true until t.last (and_parts (nat_le t.until until) (nat_le until t.last) here).1
    by false e known is dated = dated
dated_after before (Cancelled n) number fit was = by (n == number)
  where
    by : (b : Bool) → IsDated (if b then None else token before number)
    by true = tt
    by false = was

dated_follow : (before later : List TokenRecord) → fit_behind before later ≡ true → ((number : ℕ) → IsDated (token before number)) → (number : ℕ) → IsDated (token (before ++ later) number)
dated_follow before [] all dated number = subst (λ (l : List TokenRecord). IsDated (token l number)) (sym (append-nil before)) (dated number)
dated_follow before (entry ∷ later) all dated number =
    let parts = and_parts (fits before entry) (fit_behind (before ++ entry ∷ []) later) all in
    subst (λ (l : List TokenRecord). IsDated (token l number)) (append_assoc before (entry ∷ []) later)
    (dated_follow (before ++ entry ∷ []) later parts.1 (λ n. subst IsDated (sym (token_more before entry n)) (dated_after before entry n parts.0 (dated n))) number)

pub dated : (entries : List TokenRecord) (number : ℕ) → fit_in_order entries ≡ true → IsDated (token entries number)
dated entries number all = dated_follow [] entries all (λ _. tt) number

-- so a token may be renewed to the date that a renewal gives it
pub renewable_until : (t : Token) (to : ℕ) → t.until ≤ t.last → may_renew (max t.until (min to t.last)) (Some t) ≡ true
renewable_until t to le =
    and_from (nat_le t.until (max t.until (min to t.last))) (nat_le (max t.until (min to t.last)) t.last)
    (le-leb t.until (max t.until (min to t.last)) (omega arith)) (le-leb (max t.until (min to t.last)) t.last (omega (arith, le)))

pub renewable_row : (v : DiskView) (t : TokensAt) (number : ℕ) (one : Token) (to : ℕ) → (entries : List TokenRecord) × Stand v t entries → row_at t.rows number ≡ Some one → may_renew (max one.until (min to one.last)) (row_at t.rows number) ≡ true
renewable_row v t number one to (entries, stand) is =
    let here : IsDated (Some one) = subst IsDated (sym (stand.rows.each number) ∙ is) (dated entries number stand.are.fit) in
    subst (λ (o : Option Token). may_renew (max one.until (min to one.last)) o ≡ true) (sym is) (renewable_until one to here)
