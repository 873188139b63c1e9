-- A record of calls with one call more.
use Rattle.std.proofs.Common.{◌≡◌, ◌⊎◌, inl, inr, ℕ, ◌+◌, ◌-◌, ◌≤◌, true, false, ◌&&◌, Some, List, [], ◌∷◌, ◌++◌, length, get_or, take, drop, refl, sym, ◌∙◌, ap, subst, arith, length-append, length-drop}
use Rattle.std.specs.Prelude.{◌||◌}
use Rattle.std.specs.List.{list_all}
use Rattle.std.proofs.lemmas.Bool.{cases_lt, cases_Bool, and_from, or_parts, or_from, le-leb, false≢true}
use Rattle.std.proofs.lemmas.List.{length-take, take_all, drop_all, take-append-le, drop-append-le, ext_get_or, get_or_past, get_or-take, get_or-drop}
use Rattle.std.proofs.lemmas.List.Folds.{list_any-append, list_all-append}
use Rattle.std.proofs.lemmas.List.Sums.{fold_push}
use Rattle.rm_disk.specs.Disk.{put, SameElsewhere, AnyIn, IsLaterView, Leaves, IsQuiet, MayWrite, Falls, IsDurable}
use Rattle.rm_disk.specs.declared.calls.Call.{Call}
use Rattle.rm_disk.specs.declared.calls.Call.TheVariants.{Write, Fall}
use Rattle.rm_disk.specs.Memory.{MemState, settled_at, is_within, writes_at, is_written, renewed, fallen_byte, fallen, after_call, replayed, IsImage, LeftSince, view_of_memory, call_fits, IsReplayed}
use Rattle.rm_disk.proofs.Puts.{length-put, before-put, inside-put, after-put, put_elsewhere}
use Rattle.rm_disk.proofs.Renewed.{if_true, if_false, inside, within_parts, length-renewed, get_or-renewed, renewed_is, renewed_same}
use Rattle.rm_disk.proofs.Views.{goes_on_same, leaves_same, elsewhere_back, quiet_counted}

replayed_push : (first : List ℕ) (calls : List Call) (call : Call) → replayed first (calls ++ call ∷ []) ≡ after_call (replayed first calls) call
replayed_push first calls call = fold_push after_call (settled_at first) calls call

fit_push : (size : ℕ) (calls : List Call) (call : Call) → list_all (call_fits size) calls ≡ true → call_fits size call ≡ true → list_all (call_fits size) (calls ++ call ∷ []) ≡ true
fit_push size calls call fit one = list_all-append (call_fits size) calls (call ∷ []) ∙ and_from (list_all (call_fits size) calls) (call_fits size call && true) fit (and_from (call_fits size call) true one refl)

-- A place that is not written by the calls, nor by one more.
written_push : (calls : List Call) (call : Call) (place : ℕ) → is_written (calls ++ call ∷ []) place ≡ false → (is_written calls place ≡ false) × (writes_at place call ≡ false)
written_push calls call place none =
    let parts = or_parts (is_written calls place) (writes_at place call || false) (sym (list_any-append (writes_at place) calls (call ∷ [])) ∙ none) in
    (parts.0, (or_parts (writes_at place call) false parts.1).0)

put_outside : (at : ℕ) (bytes old : List ℕ) → at + length bytes ≤ length old → (place : ℕ) → is_within at (at + length bytes) place ≡ false → get_or (put at bytes old) place 0 ≡ get_or old place 0
put_outside at bytes old within place none = elim (cases_lt place at) [
  | inl low ↦ before-put at bytes old within place low
  | inr low ↦ elim (cases_lt place (at + length bytes)) [
    | inl high ↦ absurd (false≢true (sym none ∙ inside at (at + length bytes) place low high))
    | inr high ↦ after-put at bytes old within place high
  ]
]

some_same : (a b : List ℕ) → Some a ≡ Some b → a ≡ b
some_same a b same = cc same

-- What was written, copied from an image over the synced bytes, makes the image.
pub settles : (state : MemState) (image : List ℕ) → IsImage state image → renewed (is_written state.unsynced) (λ place. get_or image place 0) state.synced ≡ image
settles state image is =
    sym (renewed_is (is_written state.unsynced) (λ place. get_or image place 0) state.synced image is.size (λ place lt. elim (cases_Bool (is_written state.unsynced place)) [
      | inl written ↦ sym (if_true (is_written state.unsynced place) (get_or image place 0) (get_or state.synced place 0) written)
      | inr none ↦ is.others place none ∙ sym (if_false (is_written state.unsynced place) (get_or image place 0) (get_or state.synced place 0) none)
    ]))

-- A fall leaves an image.
pub fallen_image : (image : ℕ) (state : MemState) → IsImage state state.now → IsImage state (fallen image state)
fallen_image image state now = record {
  size = length-renewed (is_written state.unsynced) (fallen_byte image state) state.now ∙ now.size;
  others = λ place none. elim (cases_lt place (length state.now)) [
    | inl lt ↦
        get_or-renewed (is_written state.unsynced) (fallen_byte image state) state.now place lt
        ∙ if_false (is_written state.unsynced place) (fallen_byte image state place) (get_or state.now place 0) none
        ∙ now.others place none
    | inr past ↦
        get_or_past (fallen image state) place 0 (omega (arith, length-renewed (is_written state.unsynced) (fallen_byte image state) state.now))
        ∙ sym (get_or_past state.synced place 0 (omega (arith, now.size)))
  ];
}

-- The past of one call more.
module _ (first : List ℕ) (calls : List Call) (call : Call) where
  abbrev before : MemState
  before = replayed first calls

  past_push : (from : ℕ) (image : List ℕ) → LeftSince first calls from image → LeftSince first (calls ++ call ∷ []) from image
  past_push from image (many, low, high, is) = (
    many,
    low,
    omega (arith, length-append calls (call ∷ [])),
    subst (λ (l : List Call). IsImage (replayed first l) image) (sym (take-append-le many calls (call ∷ []) high)) is,
  )

  left_push : (from : ℕ) (image : List ℕ) → LeftSince first (calls ++ call ∷ []) from image → LeftSince first calls from image ⊎ IsImage (after_call before call) image
  left_push from image (many, low, high, is) = elim (cases_lt many (length calls + 1)) [
    | inl old ↦
        let le : many ≤ length calls = omega arith in
        inl (many, low, le, subst (λ (l : List Call). IsImage (replayed first l) image) (take-append-le many calls (call ∷ []) le) is)
    | inr last ↦
        let all : take many (calls ++ call ∷ []) ≡ calls ++ call ∷ [] = take_all many (calls ++ call ∷ []) (omega (arith, length-append calls (call ∷ []))) in
        inr (subst (λ (s : MemState). IsImage s image) (ap (λ (l : List Call). replayed first l) all ∙ replayed_push first calls call) is)
  ]

  image_push : (image : List ℕ) → IsImage (replayed first (calls ++ call ∷ [])) image → IsImage (after_call before call) image
  image_push image is = subst (λ (s : MemState). IsImage s image) (replayed_push first calls call) is

  -- Whatever the call.
  goes_on : (bytes bytes' : List ℕ) (faults faults' : ℕ) → faults ≤ faults' → IsLaterView (view_of_memory first bytes calls faults) (view_of_memory first bytes' (calls ++ call ∷ []) faults')
  goes_on bytes bytes' faults faults' le = record { size = refl; tells = refl; past = λ from image _ was. past_push from image was; faults = le }

  leaves : (bytes bytes' : List ℕ) (faults faults' : ℕ) (P : List ℕ → Type 0) → ((image : List ℕ) → IsImage (after_call before call) image → P image) → Leaves (view_of_memory first bytes calls faults) (view_of_memory first bytes' (calls ++ call ∷ []) faults') P
  leaves bytes bytes' faults faults' P weaken = record {
    later = omega (arith, length-append calls (call ∷ []));
    each = λ from image _ left. elim (left_push from image left) [ inl was ↦ inl was | inr is ↦ inr (weaken image is) ];
  }

module _ (first bytes synced : List ℕ) (calls : List Call) (settled : ℕ) (kept : IsReplayed first bytes synced calls settled) where
  abbrev here : MemState
  here = replayed first calls

  size_then : length here.synced ≡ length first
  size_then = sym (ap length kept.synced_then) ∙ kept.size_synced

  -- One write more.
  module _ (at : ℕ) (piece : List ℕ) (within : at + length piece ≤ length first) where
    abbrev call : Call
    call = Write at piece

    pub write_replayed : IsReplayed first (put at piece bytes) synced (calls ++ Write at piece ∷ []) settled
    write_replayed =
        let state : replayed first (calls ++ call ∷ []) ≡ after_call here call = replayed_push first calls call in
        record {
          now = ap (λ (l : List ℕ). put at piece l) kept.now ∙ sym (ap (λ (s : MemState). s.now) state);
          synced_then = kept.synced_then ∙ sym (ap (λ (s : MemState). s.synced) state);
          unsynced = drop-append-le settled calls (call ∷ []) kept.within ∙ ap (λ (l : List Call). l ++ call ∷ []) kept.unsynced ∙ sym (ap (λ (s : MemState). s.unsynced) state);
          image = subst (λ (s : MemState). IsImage s (put at piece bytes)) (sym state) put_image;
          within = omega (arith, kept.within, length-append calls (call ∷ []));
          size = length-put at piece bytes fits_now ∙ kept.size;
          size_synced = kept.size_synced;
          fit = fit_push (length first) calls call kept.fit (le-leb (at + length piece) (length first) within);
        }
      where
        fits_now : at + length piece ≤ length bytes
        fits_now = omega (arith, within, kept.size)

        put_image : IsImage (after_call here call) (put at piece bytes)
        put_image = record {
          size = length-put at piece bytes fits_now ∙ kept.image.size;
          others = λ place none. let parts = written_push here.unsynced call place none in put_outside at piece bytes fits_now place parts.1 ∙ kept.image.others place parts.0;
        }

    -- An image of the disk with the write is one of the disk before it, but for the range of the write.
    unwritten : (image : List ℕ) → IsImage (after_call here call) image → (left : List ℕ) × IsImage here left × SameElsewhere at (length piece) left image
    unwritten image is = (
      put at back image,
      record { size = length-put at back image fits_back ∙ is.size; others = others },
      subst (λ (n : ℕ). SameElsewhere at n (put at back image) image) many (elsewhere_back at (length back) image (put at back image) (put_elsewhere at back image fits_back)),
    )
      where
        back : List ℕ
        back = take (length piece) (drop at here.synced)

        many : length (take (length piece) (drop at here.synced)) ≡ length piece
        many = simp (length-take, length-drop) (omega (arith, within, size_then))

        fits_back : at + length (take (length piece) (drop at here.synced)) ≤ length image
        fits_back = omega (arith, many, within, is.size, size_then)

        others : (place : ℕ) → is_written here.unsynced place ≡ false → get_or (put at (take (length piece) (drop at here.synced)) image) place 0 ≡ get_or here.synced place 0
        others place none = elim (cases_Bool (is_within at (at + length piece) place)) [
          | inl in_range ↦
              let parts = within_parts at (at + length piece) place in_range in
              let again : at + (place - at) ≡ place = omega (arith, parts.0) in
              inside-put at (take (length piece) (drop at here.synced)) image fits_back place parts.0 (omega (arith, many, parts.1))
              ∙ get_or-take (length piece) (drop at here.synced) (place - at) 0 (omega (arith, parts.0, parts.1))
              ∙ get_or-drop at here.synced (place - at) 0
              ∙ ap (λ (k : ℕ). get_or here.synced k 0) again
          | inr out ↦
              put_outside at (take (length piece) (drop at here.synced)) image fits_back place (ap (λ (n : ℕ). is_within at (at + n) place) many ∙ out)
              ∙ is.others place (list_any-append (writes_at place) here.unsynced (call ∷ []) ∙ or_from (is_written here.unsynced place) (writes_at place call || false) none (or_from (writes_at place call) false out refl))
        ]

    pub may_write : (faults faults' : ℕ) → faults ≤ faults' → MayWrite at (length piece) (view_of_memory first bytes calls faults) (view_of_memory first (put at piece bytes) (calls ++ Write at piece ∷ []) faults')
    may_write faults faults' le = record {
      goes_on = goes_on first calls call bytes (put at piece bytes) faults faults' le;
      told = λ l is. (put at piece bytes, refl, subst (λ (x : List ℕ). SameElsewhere at (length piece) x (put at piece bytes)) (some_same bytes l is) (put_elsewhere at piece bytes (omega (arith, within, kept.size))));
      images = λ image is. unwritten image (image_push first calls call image is);
      time = leaves first calls call bytes (put at piece bytes) faults faults' (AnyIn at (length piece) (view_of_memory first bytes calls faults)) unwritten;
    }

  -- A call that leaves one of the images, and nothing unsynced.
  module _ (call : Call) (after : List ℕ) (settles_at : after_call here call ≡ settled_at after) (image_of : IsImage here after) (fits_it : call_fits (length first) call ≡ true) where
    is_after : (image : List ℕ) → IsImage (after_call here call) image → image ≡ after
    is_after image is =
        let there : IsImage (settled_at after) image = subst (λ (s : MemState). IsImage s image) settles_at is in
        ext_get_or 0 image after there.size (λ place _. there.others place refl)

    pub settled_replayed : IsReplayed first after after (calls ++ call ∷ []) (length calls + 1)
    settled_replayed =
        let state : replayed first (calls ++ call ∷ []) ≡ settled_at after = replayed_push first calls call ∙ settles_at in
        let size : length after ≡ length first = image_of.size ∙ size_then in
        record {
          now = sym (ap (λ (s : MemState). s.now) state);
          synced_then = sym (ap (λ (s : MemState). s.synced) state);
          unsynced = drop_all (length calls + 1) (calls ++ call ∷ []) (omega (arith, length-append calls (call ∷ []))) ∙ sym (ap (λ (s : MemState). s.unsynced) state);
          image = subst (λ (s : MemState). IsImage s after) (sym state) (record { size = refl; others = λ _ _. refl });
          within = omega (arith, length-append calls (call ∷ []));
          size = size;
          size_synced = size;
          fit = fit_push (length first) calls call kept.fit fits_it;
        }

    settled_images : (image : List ℕ) → IsImage (after_call here call) image → IsImage here image
    settled_images image is = subst (λ (l : List ℕ). IsImage here l) (sym (is_after image is)) image_of

    settled_goes_on : (faults faults' : ℕ) → faults ≤ faults' → IsLaterView (view_of_memory first bytes calls faults) (view_of_memory first after (calls ++ call ∷ []) faults')
    settled_goes_on faults faults' le = goes_on first calls call bytes after faults faults' le

    settled_time : (faults faults' : ℕ) → Leaves (view_of_memory first bytes calls faults) (view_of_memory first after (calls ++ call ∷ []) faults') (IsImage here)
    settled_time faults faults' = leaves first calls call bytes after faults faults' (IsImage here) settled_images

    pub settled_durable : (faults' : ℕ) → IsDurable (view_of_memory first after (calls ++ call ∷ []) faults')
    settled_durable faults' = λ image is. ap (λ (l : List ℕ). Some l) (sym (is_after image (image_push first calls call image is)))

    pub settled_quiet : after ≡ bytes → (faults faults' : ℕ) → faults ≤ faults' → IsQuiet (view_of_memory first bytes calls faults) (view_of_memory first after (calls ++ call ∷ []) faults')
    settled_quiet same faults faults' le = record {
      goes_on = settled_goes_on faults faults' le;
      told = ap (λ (l : List ℕ). Some l) same;
      images = λ image is. settled_images image (image_push first calls call image is);
      time = settled_time faults faults';
    }

    pub falls : (faults : ℕ) → Falls (view_of_memory first bytes calls faults) (view_of_memory first after (calls ++ call ∷ []) faults)
    falls faults = record {
      goes_on = settled_goes_on faults faults (omega arith);
      told = λ l is. subst (λ (x : List ℕ). IsImage here x) (some_same after l is) image_of;
      durable = settled_durable faults;
      time = settled_time faults faults;
      faults = refl;
    }

  -- Where nothing is unsynced a crash leaves what a read gives.
  pub already : settled ≡ length calls → (image : List ℕ) → IsImage here image → image ≡ bytes
  already none image is =
      let clean : here.unsynced ≡ [] = sym kept.unsynced ∙ drop_all settled calls (omega arith) in
      let not_written : (place : ℕ) → is_written here.unsynced place ≡ false = λ place. ap (λ (l : List Call). is_written l place) clean in
      ext_get_or 0 image bytes (is.size ∙ sym kept.image.size) (λ place _. is.others place (not_written place) ∙ sym (kept.image.others place (not_written place)))

  -- The state as the fields tell it.
  abbrev fields : MemState
  fields = record { now = bytes; synced = synced; unsynced = drop settled calls }

  fields_are : here ≡ fields
  fields_are = λ i. record { now = sym kept.now i; synced = sym kept.synced_then i; unsynced = sym kept.unsynced i }

  now_image : IsImage fields bytes
  now_image = subst (λ (s : MemState). IsImage s bytes) fields_are kept.image

  pub synced_anew : renewed (is_written (drop settled calls)) (λ place. get_or bytes place 0) synced ≡ bytes
  synced_anew = settles fields bytes now_image

  pub none_falls : settled ≡ length calls → (faults : ℕ) → Falls (view_of_memory first bytes calls faults) (view_of_memory first bytes calls faults)
  none_falls none faults = record {
    goes_on = goes_on_same (view_of_memory first bytes calls faults);
    told = λ l is. subst (λ (x : List ℕ). IsImage here x) (some_same bytes l is) kept.image;
    durable = λ image is. ap (λ (l : List ℕ). Some l) (sym (already none image is));
    time = leaves_same (view_of_memory first bytes calls faults) (IsImage here);
    faults = refl;
  }

  -- A fall with nothing unsynced changes nothing.
  pub none_fallen : settled ≡ length calls → (image : ℕ) → fallen image fields ≡ bytes
  none_fallen none image =
      let clean : drop settled calls ≡ [] = drop_all settled calls (omega arith) in
      renewed_same (is_written (drop settled calls)) (fallen_byte image fields) bytes (λ place _ written. absurd (false≢true (sym (ap (λ (l : List Call). is_written l place) clean) ∙ written)))

  module _ (image : ℕ) where
    pub fallen_fields : IsImage fields (fallen image fields)
    fallen_fields = fallen_image image fields now_image

    pub fallen_size : length (fallen image fields) ≡ length synced
    fallen_size = fallen_fields.size

    pub fallen_step : after_call here (Fall image) ≡ settled_at (fallen image fields)
    fallen_step = ap (λ (s : MemState). settled_at (fallen image s)) fields_are

    pub fallen_here : IsImage here (fallen image fields)
    fallen_here = subst (λ (s : MemState). IsImage s (fallen image fields)) (sym fields_are) fallen_fields

    pub fallen_anew : renewed (is_written (drop settled calls)) (λ place. get_or (fallen image fields) place 0) synced ≡ fallen image fields
    fallen_anew = settles fields (fallen image fields) fallen_fields

-- A call that fails changes nothing but the count of faults.
pub fault_quiet : (first bytes : List ℕ) (calls : List Call) (faults faults' : ℕ) → faults ≤ faults' → IsQuiet (view_of_memory first bytes calls faults) (view_of_memory first bytes calls faults')
fault_quiet first bytes calls faults faults' le =
    quiet_counted (view_of_memory first bytes calls faults) (view_of_memory first bytes calls faults') refl refl refl (λ image is. is) (λ from image left. left) (λ from image left. left) le

-- A disk on which no call was made.
pub fresh_durable : (first bytes : List ℕ) (calls : List Call) (faults : ℕ) → calls ≡ [] → bytes ≡ first → IsDurable (view_of_memory first bytes calls faults)
fresh_durable first bytes calls faults none same = λ image is.
    let there : IsImage (settled_at first) image = subst (λ (l : List Call). IsImage (replayed first l) image) none is in
    ap (λ (l : List ℕ). Some l) (same ∙ sym (ext_get_or 0 image first there.size (λ place _. there.others place refl)))
