-- Bytes that hold operations hold no other, and have no fault.
use Rattle.rm_store.proofs.Common.{◌≡◌, ℕ, None, List, ◌∷◌, ◌++◌, inl, inr, sym, ap, subst, ◌∙◌, Op, records, fits_records, stray, HasLayout, one_layout, folded}
use Rattle.std.proofs.Common.{true≢false}
use Rattle.rm_journal.proofs.two_areas.Unique.{held_undamaged}
use Rattle.rm_store.specs.Content.{ReadsAs, HasContent, DeviceHolds, half_of}
use Rattle.rm_store.proofs.Framed.{StandsBehind, stands_behind, same_op, one_content}
use Rattle.rm_store.specs.declared.fault.StoreError.TheVariants.{Damaged, Stray}
use Rattle.rm_store.specs.Causes.{ReadsUpTo, IsFaultless, IsWhy}
use Rattle.rm_store.proofs.Ops.{fits_there}

-- of all that a device holds the same is left
pub one_left : (bytes : List ℕ) (one other : List Op) → DeviceHolds bytes one → DeviceHolds bytes other → folded one ≡ folded other
one_left bytes one other holds also = sym holds.same ∙ ap folded (one_content bytes holds.content also.content holds.has also.has) ∙ also.same

-- bytes that have a content have no fault
pub content_faultless : (bytes : List ℕ) (ops : List Op) → HasContent bytes ops → IsFaultless bytes
content_faultless bytes ops has = record {
  undamaged = held_undamaged (half_of bytes) has.payloads bytes has.layout;
  frames = λ offset there. let s = behind there.ops there.payload offset there.reads in there.no_frame s.op s.framed;
  none_stray = λ number offset there.
      let s = behind there.ops there.payload offset there.reads in
      let same = same_op there.payload there.op s.op there.framed s.framed in
      let none = subst (λ list. stray list ≡ None) s.is has.none_stray in
      let fits = fits_there there.ops s.op s.rest none in
      true≢false (sym fits ∙ ap (fits_records (records there.ops)) (sym same) ∙ there.stray);
}
  where
    behind : (front : List Op) (payload : List ℕ) (offset : ℕ) → ReadsUpTo bytes front payload offset → StandsBehind ops front payload
    behind front payload offset reads =
        let there : HasLayout (half_of bytes) (reads.given ++ payload ∷ reads.more) bytes = record { second = reads.second; generation = reads.generation; current = reads.current } in
        let same = one_layout (half_of bytes) has.payloads (reads.given ++ payload ∷ reads.more) bytes has.layout there in
        stands_behind reads.given reads.more payload ops front (subst (λ (l : List (List ℕ)). ReadsAs l ops) same has.reads) reads.reads

pub holds_faultless : (bytes : List ℕ) (ops : List Op) → DeviceHolds bytes ops → IsFaultless bytes
holds_faultless bytes ops holds = content_faultless bytes holds.content holds.has

-- and are never why a store is refused
pub never_damaged : (bytes : List ℕ) (ops : List Op) → DeviceHolds bytes ops → (offset : ℕ) → IsWhy bytes (Damaged offset) → ⊥
never_damaged bytes ops holds offset (inl there) = (holds_faultless bytes ops holds).undamaged offset there
never_damaged bytes ops holds offset (inr there) = (holds_faultless bytes ops holds).frames offset there

pub never_stray : (bytes : List ℕ) (ops : List Op) → DeviceHolds bytes ops → (number offset : ℕ) → IsWhy bytes (Stray number offset) → ⊥
never_stray bytes ops holds number offset there = (holds_faultless bytes ops holds).none_stray number offset there
