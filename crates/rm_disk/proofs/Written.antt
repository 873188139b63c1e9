-- What the calls of a record wrote.
use Rattle.std.proofs.Common.{◌≡◌, ◌≢◌, inl, inr, ℕ, zero, suc, ◌+◌, ◌*◌, ◌%◌, ◌<◌, ◌≤◌, Bool, true, false, ◌&&◌, List, [], ◌∷◌, length, get_or, take, drop, refl, sym, ◌∙◌, ap, subst, arith, take-append-drop}
use Rattle.std.specs.Prelude.{◌||◌, if◌then◌else◌, ◌==◌}
use Rattle.std.specs.List.{list_all}
use Rattle.std.proofs.lemmas.Bool.{cases_Bool, and_parts, eq-eqb, eqb-true, leb-true, false≢true}
use Rattle.std.proofs.lemmas.List.Folds.{list_any_more, list_all-append}
use Rattle.rm_disk.specs.declared.calls.Call.{Call}
use Rattle.rm_disk.specs.declared.calls.Call.TheVariants.{Write, Sync, Fall}
use Rattle.rm_disk.specs.Memory.{MemState, fallen, writes_at, is_written, renewed, call_fits}
use Rattle.rm_disk.proofs.Renewed.{renewed_twice, renewed_same}

module _ (calls : List Call) (many : ℕ) (call : Call) (byte : ℕ → ℕ) (old : List ℕ) (lt : many < length calls) (is : call ≡ get_or calls many call) where
  -- One call more.
  pub written_more : renewed (λ place. writes_at place call) byte (renewed (is_written (take many calls)) byte old) ≡ renewed (is_written (take (many + 1) calls)) byte old
  written_more =
      renewed_twice (is_written (take many calls)) (λ place. writes_at place call) (is_written (take (many + 1) calls)) byte old (λ place.
      list_any_more (writes_at place) calls many call lt ∙ ap (λ c. is_written (take many calls) place || writes_at place c) (sym is))

  -- One call more that wrote nothing.
  pub none_more : ((place : ℕ) → writes_at place call ≡ false) → renewed (is_written (take many calls)) byte old ≡ renewed (is_written (take (many + 1) calls)) byte old
  none_more none =
      sym (renewed_same (λ place. writes_at place call) byte (renewed (is_written (take many calls)) byte old) (λ place _ never. absurd (false≢true (sym (none place) ∙ never))))
      ∙ written_more

pub writes_none : (call : Call) → ((at : ℕ) (bytes : List ℕ) → call ≡ Write at bytes → ⊥) → (place : ℕ) → writes_at place call ≡ false
writes_none (Write at bytes) none place = absurd (none at bytes refl)
writes_none Sync none place = refl
writes_none (Fall image) none place = refl

pub fit_drop : (size many : ℕ) (calls : List Call) → list_all (call_fits size) calls ≡ true → list_all (call_fits size) (drop many calls) ≡ true
fit_drop size many calls fit =
    let whole : (list_all (call_fits size) (take many calls) && list_all (call_fits size) (drop many calls)) ≡ true = sym (list_all-append (call_fits size) (take many calls) (drop many calls)) ∙ ap (list_all (call_fits size)) (take-append-drop many calls) ∙ fit in
    (and_parts (list_all (call_fits size) (take many calls)) (list_all (call_fits size) (drop many calls)) whole).1

-- Each call of a record that fits lies within the size.
pub fit_at : (size many : ℕ) (calls : List Call) (call : Call) (at : ℕ) (bytes : List ℕ) → list_all (call_fits size) calls ≡ true → many < length calls → call ≡ get_or calls many call → call ≡ Write at bytes → at + length bytes ≤ size
fit_at size many calls call at bytes fit lt is write =
    leb-true (at + length bytes) size (subst (λ c. call_fits size c ≡ true) (sym is ∙ write) (go calls many fit lt))
  where
    go : (calls : List Call) (many : ℕ) → list_all (call_fits size) calls ≡ true → many < length calls → call_fits size (get_or calls many call) ≡ true
    go [] many fit lt = absurd (omega arith)
    go (c ∷ calls) zero fit lt = (and_parts (call_fits size c) (list_all (call_fits size) calls) fit).0
    go (c ∷ calls) (suc many) fit lt = go calls many (and_parts (call_fits size c) (list_all (call_fits size) calls) fit).1 (omega arith)

-- The three kinds of image.
module _ (image : ℕ) (state : MemState) where
  abbrev passes : ℕ → Bool
  passes = is_written state.unsynced

  pub fallen_back : image ≡ 0 → renewed (is_written state.unsynced) (λ place. get_or state.synced place 0) state.now ≡ fallen image state
  fallen_back is =
      sym (ap (λ (t : Bool). renewed passes (λ place. if t then get_or state.synced place 0 else (if image == 1 then get_or state.now place 0 else (167 * image + place) % 256)) state.now) (eq-eqb image 0 is))

  pub fallen_kept : image ≢ 0 → image ≤ 1 → state.now ≡ fallen image state
  fallen_kept ne le =
      sym (ap (λ (t : Bool). renewed passes (λ place. if t then get_or state.synced place 0 else (if image == 1 then get_or state.now place 0 else (167 * image + place) % 256)) state.now) (other 0 ne)
      ∙ ap (λ (t : Bool). renewed passes (λ place. if t then get_or state.now place 0 else (167 * image + place) % 256) state.now) (eq-eqb image 1 (omega (arith, ne, le)))
      ∙ renewed_same passes (λ place. get_or state.now place 0) state.now (λ place _ _. refl))
    where
      other : (n : ℕ) → image ≢ n → (image == n) ≡ false
      other n ne = elim (cases_Bool (image == n)) [ inl is ↦ absurd (ne (eqb-true image n is)) | inr never ↦ never ]

  pub fallen_scribbled : 1 < image → renewed (is_written state.unsynced) (λ place. (167 * image + place) % 256) state.now ≡ fallen image state
  fallen_scribbled lt =
      sym (ap (λ (t : Bool). renewed passes (λ place. if t then get_or state.synced place 0 else (if image == 1 then get_or state.now place 0 else (167 * image + place) % 256)) state.now) (other 0 (λ is. omega (arith, is, lt)))
      ∙ ap (λ (t : Bool). renewed passes (λ place. if t then get_or state.now place 0 else (167 * image + place) % 256) state.now) (other 1 (λ is. omega (arith, is, lt))))
    where
      other : (n : ℕ) → image ≢ n → (image == n) ≡ false
      other n ne = elim (cases_Bool (image == n)) [ inl is ↦ absurd (ne (eqb-true image n is)) | inr never ↦ never ]
