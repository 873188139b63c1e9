-- A list of operations and its content on a device go on alike.
use Rattle.rm_store.proofs.Common.{◌≡◌, ℕ, Bool, true, false, not, List, [], ◌∷◌, ◌++◌, map, length, Option, None, Some, is_some, is_none, refl, sym, ◌∙◌, ap, option_map, All, append-nil, All-nil, All-cons, Op, Epoch, App, Attempt, AttemptEnd, AppEnd, Remove, AppRecord, IsOperation, Records, records, record_of, fits_records, stray, frame, HasLayout, folded, stays, IsAlike}
use Rattle.std.proofs.Common.{nat_lt}
use Rattle.std.proofs.lemmas.List.Elements.{All-head, All-tail}
use Rattle.rm_types.specs.Records.{is_some_and}
use Rattle.rm_tree.specs.Changes.{is_end_recorded}
use Rattle.rm_tree.specs.Shows.{shows}
use Rattle.rm_store.specs.compaction.Amounts.{Amounts, amounts}
use Rattle.rm_types.specs.Alike.{without_end_order}
use Rattle.rm_store.proofs.compaction.Folded.{fits_told, folded_none_stray, folded_again, bare_found}
use Rattle.rm_store.proofs.compaction.Ordering.{tells_all, same_amounts, alike}
use Rattle.rm_store.specs.Content.{ReadsAs, DeviceHolds, half_of}
use Rattle.rm_store.proofs.Ops.{stray_push}
use Rattle.rm_store.proofs.Framed.{framed_now, reads_framed, reads_frames, reads_more}

pub fits_same : (content ops : List Op) (op : Op) → folded content ≡ folded ops → fits_records (records content) op ≡ fits_records (records ops) op
fits_same content ops op same =
    fits_told (records content) (amounts content) op (tells_all content)
    ∙ ap (λ (a : Amounts). fits_records (record { next_epoch = a.next_epoch; stamp = a.stamp; apps = a.apps; applied = 0 }) op) (same_amounts content ops same)
    ∙ sym (fits_told (records ops) (amounts ops) op (tells_all ops))

-- an operation shows or not, whatever the numbers are
shows_bare : (r : Records) (op : Op) → shows r op ≡ shows (record { next_epoch = r.next_epoch; stamp = r.stamp; apps = map without_end_order r.apps; applied = 0 }) op
shows_bare r (Epoch next stamp) = refl
shows_bare r (App id submission) = rw (bare_found r.apps id) (by (record_of r.apps id))
  where
    by : (o : Option AppRecord) → is_some o ≡ is_some (option_map without_end_order o)
    by None = refl
    by (Some app) = refl
shows_bare r (Attempt id master node) = rw (bare_found r.apps id.app) (by (record_of r.apps id.app))
  where
    by : (o : Option AppRecord) → is_some_and (λ app. not (nat_lt (length app.attempts) id.number)) o ≡ is_some_and (λ app. not (nat_lt (length app.attempts) id.number)) (option_map without_end_order o)
    by None = refl
    by (Some app) = refl
shows_bare r (AttemptEnd id how text) = rw (bare_found r.apps id.app) (by (record_of r.apps id.app))
  where
    by : (o : Option AppRecord) → is_some_and (λ app. is_end_recorded id app) o ≡ is_some_and (λ app. is_end_recorded id app) (option_map without_end_order o)
    by None = refl
    by (Some app) = refl
shows_bare r (AppEnd id how text) = rw (bare_found r.apps id) (by (record_of r.apps id))
  where
    by : (o : Option AppRecord) → is_some_and (λ app. is_some app.ending) o ≡ is_some_and (λ app. is_some app.ending) (option_map without_end_order o)
    by None = refl
    by (Some app) = refl
shows_bare r (Remove id) = rw (bare_found r.apps id) (by (record_of r.apps id))
  where
    by : (o : Option AppRecord) → is_none o ≡ is_none (option_map without_end_order o)
    by None = refl
    by (Some app) = refl

shows_like : (r s : Records) (op : Op) → IsAlike r s → shows r op ≡ shows s op
shows_like r s op l = shows_bare r op ∙ parts r.next_epoch s.next_epoch r.stamp s.stamp (map without_end_order r.apps) (map without_end_order s.apps) l.epoch l.stamp l.apps ∙ sym (shows_bare s op)
  where
    parts : (e f t u : ℕ) (x y : List AppRecord) → e ≡ f → t ≡ u → x ≡ y → shows (record { next_epoch = e; stamp = t; apps = x; applied = 0 }) op ≡ shows (record { next_epoch = f; stamp = u; apps = y; applied = 0 }) op
    parts e f t u x y a b c = rw (a, b, c) refl

pub shows_same : (content ops : List Op) (op : Op) → folded content ≡ folded ops → shows (records content) op ≡ shows (records ops) op
shows_same content ops op same = shows_like (records content) (records ops) op (alike content ops same)

pub framed_left : (ops : List Op) → All IsOperation ops → All IsOperation (folded ops)
framed_left [] all = All-nil IsOperation
framed_left (op ∷ ops) all = by (stays op ops) refl (framed_left ops (All-tail IsOperation op ops all))
  where
    by : (b : Bool) → stays op ops ≡ b → All IsOperation (folded ops) → All IsOperation (folded (op ∷ ops))
    by true e more = rw e (All-cons IsOperation op (folded ops) (All-head IsOperation op ops all) more)
    by false e more = rw e more

same_more : (content ops more : List Op) → folded content ≡ folded ops → folded (content ++ more) ≡ folded (ops ++ more)
same_more content ops more same = sym (folded_again content more) ∙ ap (λ (l : List Op). folded (l ++ more)) same ∙ folded_again ops more

pub folded_twice : (ops : List Op) → folded (folded ops) ≡ folded ops
folded_twice ops = ap folded (sym (append-nil (folded ops))) ∙ folded_again ops [] ∙ ap folded (append-nil ops)

pub unchanged : (image : List ℕ) (payloads : List (List ℕ)) (content ops : List Op) → ReadsAs payloads content → stray content ≡ None → folded content ≡ folded ops → HasLayout (half_of image) payloads image → DeviceHolds image ops
unchanged image payloads content ops reads none same layout = record { content = content; has = record { payloads = payloads; layout = layout; reads = reads; none_stray = none }; same = same }

pub added : (image : List ℕ) (payloads : List (List ℕ)) (content ops : List Op) (op : Op) → ReadsAs payloads content → stray content ≡ None → folded content ≡ folded ops → IsOperation op → fits_records (records ops) op ≡ true
    → HasLayout (half_of image) (payloads ++ frame op ∷ []) image → DeviceHolds image (ops ++ op ∷ [])
added image payloads content ops op reads none same can fits layout = record {
  content = content ++ op ∷ [];
  has = record {
    payloads = payloads ++ frame op ∷ [];
    layout = layout;
    reads = reads_more payloads content (frame op) op reads (framed_now op can);
    none_stray = stray_push content op none (fits_same content ops op same ∙ fits);
  };
  same = same_more content ops (op ∷ []) same;
}

pub refolded : (image : List ℕ) (payloads : List (List ℕ)) (content ops : List Op) → ReadsAs payloads content → stray content ≡ None → folded content ≡ folded ops → HasLayout (half_of image) (map frame (folded content)) image → DeviceHolds image ops
refolded image payloads content ops reads none same layout = record {
  content = folded content;
  has = record { payloads = map frame (folded content); layout = layout; reads = reads_frames (folded content) (framed_left content (reads_framed payloads content reads)); none_stray = folded_none_stray content none };
  same = folded_twice content ∙ same;
}
