-- Why a store was refused.
use Rattle.rm_store.proofs.Common.{◌≡◌, ℕ, ◌/◌, false, List, length, inl, inr, refl, sym, ap, subst, Op, DiskView, records, fits_records, IsDamagedLayout, JournalError}
use Rattle.rm_store.specs.Content.{IsFrameOf, half_of}
use Rattle.rm_journal.specs.declared.fault.JournalError.TheVariants as journal
use Rattle.rm_store.specs.declared.fault.StoreError.{StoreError}
use Rattle.rm_store.specs.declared.fault.StoreError.TheVariants.{DiskFault, Damaged, Stray, Full, NeedsReopen, Memory}
use Rattle.rm_store.specs.Causes.{ReadsUpTo, IsWhy}
use Rattle.rm_store.specs.Errors.{of_journal}

-- the areas' damage
why_open : (bytes : List ℕ) (error : JournalError) → ((offset : ℕ) → error ≡ journal.Damaged offset → IsDamagedLayout (half_of bytes) bytes offset) → IsWhy bytes (of_journal error)
why_open bytes journal.DiskFault damaged = tt
why_open bytes (journal.Damaged offset) damaged = inl (damaged offset refl)
why_open bytes (journal.Full needed room) damaged = tt
why_open bytes journal.NeedsReopen damaged = tt
why_open bytes journal.Memory damaged = tt

-- an error that the areas of a disk with these bytes gave
pub why_given : (disk : DiskView) (bytes : List ℕ) (error : JournalError) {told : StoreError} → length bytes ≡ disk.size → told ≡ of_journal error
    → ((offset : ℕ) → error ≡ journal.Damaged offset → IsDamagedLayout (disk.size / 2) bytes offset) → IsWhy bytes told
why_given disk bytes error long is damaged =
    let half : disk.size / 2 ≡ half_of bytes = ap (λ (n : ℕ). n / 2) (sym long) in
    subst (IsWhy bytes) (sym is) (why_open bytes error (λ offset e. subst (λ (n : ℕ). IsDamagedLayout n bytes offset) half (damaged offset e)))

-- a payload behind operations that is no frame, or whose operation is stray
pub why_taken : (bytes payload : List ℕ) (ops : List Op) (gate : ℕ) (error : StoreError) → ReadsUpTo bytes ops payload gate
    → ((offset : ℕ) → error ≡ Damaged offset → (offset ≡ gate) × ((op : Op) → IsFrameOf payload op → ⊥))
    → ((number offset : ℕ) → error ≡ Stray number offset → (offset ≡ gate) × (number ≡ length ops) × ((op : Op) × IsFrameOf payload op × (fits_records (records ops) op ≡ false)))
    → IsWhy bytes error
why_taken bytes payload ops gate DiskFault reads damaged stray = tt
why_taken bytes payload ops gate (Damaged offset) reads damaged stray =
    let d = damaged offset refl in
    inr (record { ops = ops; payload = payload; reads = subst (ReadsUpTo bytes ops payload) (sym d.0) reads; no_frame = d.1 })
why_taken bytes payload ops gate (Stray number offset) reads damaged stray =
    let s = stray number offset refl in
    record {
      ops = ops;
      op = s.2.0;
      payload = payload;
      reads = subst (ReadsUpTo bytes ops payload) (sym s.0) reads;
      framed = s.2.1;
      stray = s.2.2;
      number_is = s.1;
    }
why_taken bytes payload ops gate (Full needed room) reads damaged stray = tt
why_taken bytes payload ops gate NeedsReopen reads damaged stray = tt
why_taken bytes payload ops gate Memory reads damaged stray = tt
