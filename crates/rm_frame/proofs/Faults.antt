-- Where the first field begins that is short or out of range.
use Rattle.std.proofs.Common.{◌≡◌, ℕ, ◌+◌, ◌-◌, ◌≤◌, Bool, true, false, ◌&&◌, List, [], ◌∷◌, ◌++◌, length, take, drop, Option, Some, None, Result, Ok, Err, refl, sym, ap, ◌∙◌, append_assoc, append-nil, subst, arith}
use Rattle.std.specs.Prelude.{nat_le, is_none, slice_index, option_map, IfErr}
use Rattle.std.specs.Result.{IsErrAnd}
use Rattle.std.specs.Int.{Width, w16, byte_len, from_be_bytes, to_be_bytes}
use Rattle.std.proofs.lemmas.Bool.{le-leb, leb-true, false_from_ne_true, and_parts}
use Rattle.std.proofs.lemmas.List.{take-append-drop, length-take, length-drop, drop-drop}
use Rattle.rm_types.specs.declared.texts.TextKind.{TextKind}
use Rattle.rm_types.specs.Ranges.{IsText}
use Rattle.rm_formats.specs.Frames.{text_frame}
use Rattle.rm_types.specs.Ranges.{IsWithin}
use Rattle.rm_types.specs.Texts.{fault_of}
use Rattle.rm_frame.specs.declared.fields.FieldError.{FieldError}
use Rattle.rm_frame.specs.declared.fields.FieldError.TheVariants.{Bad}
use Rattle.rm_frame.specs.Fields.{Field, ByteFrom, NumberFrom, TextOf, told_length, size_of, has_field, left_at_fault, fields_of, kind_field, layout, fault_place}
use Rattle.rm_frame.specs.Reads.{TakesFields, StopsReading}
use Rattle.rm_frame.proofs.Numbers.{IsBytes, IsBytes-take, IsWide, wide16}

-- ---- one field

is_nothing : (o : Option ℕ) → is_none o ≡ true → o ≡ None
is_nothing None e = refl
is_nothing (Some n) e = absurd cc

pub goes_past : (field : Field) (bytes : List ℕ) (more : List Field) → has_field field bytes ≡ true → left_at_fault (field ∷ more) bytes ≡ left_at_fault more (drop (size_of field bytes) bytes)
unfolding left_at_fault
goes_past field bytes more e = rw e refl

pub stops_at : (field : Field) (bytes : List ℕ) → (has_field field bytes ≡ true → ⊥) → (left : ℕ) → Bad (length bytes) ≡ Bad left → StopsReading (field ∷ []) bytes left
unfolding left_at_fault
stops_at field bytes never left is =
    let n : length bytes ≡ left = cc in
    let e : has_field field bytes ≡ false = false_from_ne_true (has_field field bytes) never in
    record { at = λ more. rw (e, n) refl }

within_true : (least greatest n : ℕ) → IsWithin least greatest n → (nat_le least n && nat_le n greatest) ≡ true
within_true least greatest n h = rw (le-leb least n h.0, le-leb n greatest h.1) refl

true_within : (least greatest n : ℕ) → (nat_le least n && nat_le n greatest) ≡ true → IsWithin least greatest n
true_within least greatest n e =
    let b = and_parts (nat_le least n) (nat_le n greatest) e in
    (leb-true least n b.0, leb-true n greatest b.1)

-- ---- a byte

pub byte_reads : (least greatest n : ℕ) (bytes rest : List ℕ) → bytes ≡ n ∷ rest → least ≤ n → n ≤ greatest → TakesFields (ByteFrom least greatest ∷ []) bytes (n ∷ []) rest
byte_reads least greatest n bytes rest e low high =
    let s : has_field (ByteFrom least greatest) (n ∷ rest) ≡ true = rw (le-leb 1 (length (n ∷ rest)) (omega arith)) (within_true least greatest n (low, high)) in
    rw e (record { parts = refl; goes = λ more. goes_past (ByteFrom least greatest) (n ∷ rest) more s })

pub byte_stands : (least greatest n : ℕ) (bytes rest : List ℕ) → bytes ≡ n ∷ rest → has_field (ByteFrom least greatest) bytes ≡ true → IsWithin least greatest n
byte_stands least greatest n bytes rest e s =
    let t : has_field (ByteFrom least greatest) (n ∷ rest) ≡ true = rw e at s in
    true_within least greatest n (and_parts (nat_le 1 (length (n ∷ rest))) (nat_le least n && nat_le n greatest) t).1

pub no_byte : (least greatest : ℕ) (bytes : List ℕ) → bytes ≡ [] → has_field (ByteFrom least greatest) bytes ≡ true → ⊥
no_byte least greatest bytes e s = let t = rw e at s in absurd cc

-- ---- a number

pub number_stands : (w : Width) (least greatest : ℕ) (bytes : List ℕ) → has_field (NumberFrom w least greatest) bytes ≡ true
    → (byte_len w ≤ length bytes) × IsWithin least greatest (from_be_bytes w (take (byte_len w) bytes))
number_stands w least greatest bytes s =
    let n = from_be_bytes w (take (byte_len w) bytes) in
    let b = and_parts (nat_le (byte_len w) (length bytes)) (nat_le least n && nat_le n greatest) s in
    (leb-true (byte_len w) (length bytes) b.0, true_within least greatest n b.1)

pub stands_number : (w : Width) (least greatest : ℕ) (bytes : List ℕ) → byte_len w ≤ length bytes → IsWithin least greatest (from_be_bytes w (take (byte_len w) bytes)) → has_field (NumberFrom w least greatest) bytes ≡ true
stands_number w least greatest bytes long h =
    rw (le-leb (byte_len w) (length bytes) long) (within_true least greatest (from_be_bytes w (take (byte_len w) bytes)) h)

number_reads_so : (w : Width) (limit : ℕ) (wide : IsWide w limit) (least greatest : ℕ) (bytes : List ℕ) → IsBytes bytes → byte_len w ≤ length bytes → IsWithin least greatest (from_be_bytes w (take (byte_len w) bytes))
    → TakesFields (NumberFrom w least greatest ∷ []) bytes (to_be_bytes w (from_be_bytes w (take (byte_len w) bytes))) (drop (byte_len w) bytes)
number_reads_so w limit wide least greatest bytes fits long h =
    let front : to_be_bytes w (from_be_bytes w (take (byte_len w) bytes)) ≡ take (byte_len w) bytes = wide.back (take (byte_len w) bytes) (omega (arith, length-take (byte_len w) bytes)) (IsBytes-take (byte_len w) bytes fits) in
    record {
      parts = rw front (sym (take-append-drop (byte_len w) bytes));
      goes = λ more. goes_past (NumberFrom w least greatest) bytes more (stands_number w least greatest bytes long h);
    }

pub number_reads : (w : Width) (limit : ℕ) (wide : IsWide w limit) (least greatest n : ℕ) (bytes rest : List ℕ) → IsBytes bytes → byte_len w ≤ length bytes
    → n ≡ from_be_bytes w (take (byte_len w) bytes) → rest ≡ drop (byte_len w) bytes → least ≤ n → n ≤ greatest
    → TakesFields (NumberFrom w least greatest ∷ []) bytes (to_be_bytes w n) rest
number_reads w limit wide least greatest n bytes rest fits long n-is rest-is low high =
    let h : IsWithin least greatest (from_be_bytes w (take (byte_len w) bytes)) = rw (← n-is) (low, high) in
    rw (n-is, rest-is) (number_reads_so w limit wide least greatest bytes fits long h)

-- ---- a text

pub text_stands : (kind : TextKind) (bytes : List ℕ) → has_field (TextOf kind) bytes ≡ true
    → (2 ≤ length bytes) × (2 + told_length bytes ≤ length bytes) × (fault_of kind (take (told_length bytes) (drop 2 bytes)) ≡ None)
text_stands kind bytes s =
    let told = told_length bytes in
    let a = and_parts (nat_le 2 (length bytes)) (nat_le (2 + told) (length bytes) && is_none (fault_of kind (take told (drop 2 bytes)))) s in
    let b = and_parts (nat_le (2 + told) (length bytes)) (is_none (fault_of kind (take told (drop 2 bytes)))) a.1 in
    (leb-true 2 (length bytes) a.0, leb-true (2 + told) (length bytes) b.0, is_nothing (fault_of kind (take told (drop 2 bytes))) b.1)

pub stands_text : (kind : TextKind) (bytes : List ℕ) → 2 + told_length bytes ≤ length bytes → IsText kind (take (told_length bytes) (drop 2 bytes)) → has_field (TextOf kind) bytes ≡ true
stands_text kind bytes long h =
    rw (le-leb 2 (length bytes) (omega arith), le-leb (2 + told_length bytes) (length bytes) long, h) refl

text_reads_so : (kind : TextKind) (bytes : List ℕ) → IsBytes bytes → 2 + told_length bytes ≤ length bytes → IsText kind (take (told_length bytes) (drop 2 bytes))
    → TakesFields (TextOf kind ∷ []) bytes (text_frame (take (told_length bytes) (drop 2 bytes))) (drop (told_length bytes) (drop 2 bytes))
text_reads_so kind bytes fits long h =
    let told = told_length bytes in
    let len : length (take told (drop 2 bytes)) ≡ told = omega (arith, length-take told (drop 2 bytes), length-drop 2 bytes) in
    let head : to_be_bytes w16 told ≡ take 2 bytes = wide16.back (take 2 bytes) (omega (arith, length-take 2 bytes)) (IsBytes-take 2 bytes fits) in
    let whole : to_be_bytes w16 (length (take told (drop 2 bytes))) ≡ take 2 bytes = ap (to_be_bytes w16) len ∙ head in
    let behind : take told (drop 2 bytes) ++ drop told (drop 2 bytes) ≡ drop 2 bytes = take-append-drop told (drop 2 bytes) in
    record {
      parts = sym (append_assoc (to_be_bytes w16 (length (take told (drop 2 bytes)))) (take told (drop 2 bytes)) (drop told (drop 2 bytes))
          ∙ ap (λ (l : List ℕ). l ++ (take told (drop 2 bytes) ++ drop told (drop 2 bytes))) whole
          ∙ ap (λ (l : List ℕ). take 2 bytes ++ l) behind ∙ take-append-drop 2 bytes);
      goes = λ more. goes_past (TextOf kind) bytes more (stands_text kind bytes long h) ∙ ap (left_at_fault more) (sym (drop-drop told 2 bytes));
    }

pub text_reads : (kind : TextKind) (told : ℕ) (bytes behind text rest : List ℕ) → IsBytes bytes → 2 ≤ length bytes → told ≡ told_length bytes → behind ≡ drop 2 bytes → told ≤ length behind
    → text ≡ take told behind → rest ≡ drop told behind → IsText kind text → TakesFields (TextOf kind ∷ []) bytes (text_frame text) rest
text_reads kind told bytes behind text rest fits two told-is behind-is long text-is rest-is h =
    let t : text ≡ take (told_length bytes) (drop 2 bytes) = cc in
    let r : rest ≡ drop (told_length bytes) (drop 2 bytes) = cc in
    let n : length behind ≡ length (drop 2 bytes) = ap length behind-is in
    rw (t, r) (text_reads_so kind bytes fits (omega (arith, length-drop 2 bytes)) (rw t at h))

-- a text that doesn't stand: its length is short, or the text is, or it is none of the kind
pub no_text : (kind : TextKind) (told : ℕ) (bytes behind : List ℕ) → told ≡ told_length bytes → behind ≡ drop 2 bytes → (told ≤ length behind → fault_of kind (take told behind) ≡ None → ⊥)
    → has_field (TextOf kind) bytes ≡ true → ⊥
no_text kind told bytes behind told-is behind-is never s =
    let t = text_stands kind bytes s in
    let n : length behind ≡ length (drop 2 bytes) = ap length behind-is in
    let e : take told behind ≡ take (told_length bytes) (drop 2 bytes) = cc in
    never (omega (arith, length-drop 2 bytes)) (rw e t.2)

-- ---- fields one after another

pub reads_then : (fields others : List Field) (bytes front middle back rest : List ℕ) → TakesFields fields bytes front middle → TakesFields others middle back rest → TakesFields (fields ++ others) bytes (front ++ back) rest
reads_then fields others bytes front middle back rest first second = record {
  parts = first.parts ∙ ap (λ (l : List ℕ). front ++ l) second.parts ∙ sym (append_assoc front back rest);
  goes = λ more. ap (λ (all : List Field). left_at_fault all bytes) (append_assoc fields others more) ∙ first.goes (others ++ more) ∙ second.goes more;
}

pub stops_first : (fields others : List Field) (bytes : List ℕ) (left : ℕ) → StopsReading fields bytes left → StopsReading (fields ++ others) bytes left
stops_first fields others bytes left stops = record {
  at = λ more. ap (λ (all : List Field). left_at_fault all bytes) (append_assoc fields others more) ∙ stops.at (others ++ more);
}

pub stops_then : (fields others : List Field) (bytes front middle : List ℕ) (left : ℕ) → TakesFields fields bytes front middle → StopsReading others middle left → StopsReading (fields ++ others) bytes left
stops_then fields others bytes front middle left reads stops = record {
  at = λ more. ap (λ (all : List Field). left_at_fault all bytes) (append_assoc fields others more) ∙ reads.goes (others ++ more) ∙ stops.at more;
}

-- an error that is passed on
pub passes_on : {X : Type 0} (fields : List Field) (bytes : List ℕ) (error : FieldError) (result : Result X FieldError) → IsErrAnd result (λ other. other ≡ error)
    → ((left : ℕ) → error ≡ Bad left → StopsReading fields bytes left) → IfErr result (λ other. (left : ℕ) → other ≡ Bad left → StopsReading fields bytes left)
passes_on fields bytes error (Ok x) same stops = tt
passes_on fields bytes error (Err other) same stops = λ left is. stops left (sym same ∙ is)

left_within_by : (field : Field) (fields : List Field) (bytes : List ℕ) (left : ℕ) (b : Bool) → has_field field bytes ≡ b
    → (left_at_fault fields (drop (size_of field bytes) bytes) ≡ Some left → left ≤ length (drop (size_of field bytes) bytes))
    → left_at_fault (field ∷ fields) bytes ≡ Some left → left ≤ length bytes
unfolding left_at_fault
left_within_by field fields bytes left true s more e =
    let later : left ≤ length (drop (size_of field bytes) bytes) = more (sym (goes_past field bytes fields s) ∙ e) in
    omega (arith, length-drop (size_of field bytes) bytes)
left_within_by field fields bytes left false s more e =
    let here : Some (length bytes) ≡ Some left = rw s at e in
    let n : length bytes ≡ left = cc in
    omega arith

-- no more is left at a fault than there was
pub left_within : (fields : List Field) (bytes : List ℕ) (left : ℕ) → left_at_fault fields bytes ≡ Some left → left ≤ length bytes
unfolding left_at_fault
left_within [] bytes left e = absurd cc
left_within (field ∷ fields) bytes left e = left_within_by field fields bytes left (has_field field bytes) refl (left_within fields (drop (size_of field bytes) bytes) left) e

-- ---- an operation

pub layout_stops : (kind : ℕ) (bytes rest : List ℕ) (left : ℕ) → TakesFields (kind_field ∷ []) bytes (kind ∷ []) rest → StopsReading (fields_of kind) rest left → StopsReading (layout bytes) bytes left
layout_stops kind bytes rest left reads stops =
    let e : slice_index bytes 0 ≡ kind = ap (λ (all : List ℕ). slice_index all 0) reads.parts in
    let later : StopsReading (fields_of (slice_index bytes 0)) rest left = subst (λ (k : ℕ). StopsReading (fields_of k) rest left) (sym e) stops in
    stops_then (kind_field ∷ []) (fields_of (slice_index bytes 0)) bytes (kind ∷ []) rest left reads later

pub stops_left : (fields : List Field) (bytes : List ℕ) (left : ℕ) → StopsReading fields bytes left → left_at_fault fields bytes ≡ Some left
stops_left fields bytes left stops = ap (λ (all : List Field). left_at_fault all bytes) (sym (append-nil fields)) ∙ stops.at []

pub stops_place : (bytes : List ℕ) (left : ℕ) → StopsReading (layout bytes) bytes left → fault_place bytes ≡ Some (length bytes - left)
stops_place bytes left stops = ap (option_map (λ (n : ℕ). length bytes - n)) (stops_left (layout bytes) bytes left stops)

pub stops_within : (bytes : List ℕ) (left : ℕ) → StopsReading (layout bytes) bytes left → left ≤ length bytes
stops_within bytes left stops = left_within (layout bytes) bytes left (stops_left (layout bytes) bytes left stops)
