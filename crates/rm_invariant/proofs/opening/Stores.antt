-- What the operations of a store amount to is in its range where they are, is sound where each fits, and names masters of its attempts.
use Rattle.rm_invariant.proofs.Common.{◌≡◌, List, [], ◌∷◌, Bool, true, false, None, fold, refl, Op, IsOperation, Records, fits_records, no_records, recorded, records}
use Rattle.std.specs.Prelude.{All as Every}
use Rattle.rm_types.specs.declared.operations.Op.TheVariants.{Epoch, App, Attempt, AttemptEnd, AppEnd, Remove}
use Rattle.rm_types.specs.Records.{stray, stray_from}
use Rattle.rm_invariant.specs.nodes.Book.{All}
use Rattle.rm_invariant.specs.masters.Invariant.{MastersAreOwn}
use Rattle.rm_invariant.specs.masters.Sound.{RecordsAreSound}
use Rattle.rm_invariant.proofs.masters.Apt.{IsAptOp, apt_step}
use Rattle.rm_invariant.proofs.masters.Sounding.{sound_step}
use Rattle.rm_invariant.specs.bounds.InBounds.{AreRecords}
use Rattle.rm_invariant.proofs.bounds.BookRanges.{each_of}
use Rattle.rm_invariant.proofs.bounds.TreeRanges.{records_after}

-- RANGES

records_from : (ops : List Op) (r : Records) → All IsOperation ops → AreRecords r.apps → AreRecords (fold recorded r ops).apps
records_from [] r all are = are
records_from (op ∷ ops) r all are = records_from ops (recorded r op) all.1 (records_after r.apps r.applied op all.0 are)

-- what is recorded is in its range
pub stored_records : (ops : List Op) → Every IsOperation ops → AreRecords (records ops).apps
stored_records ops every = records_from ops no_records (each_of IsOperation ops every) tt

-- SOUND RECORDS

sound_more : (op : Op) (ops : List Op) (r : Records) (b : Bool) → fits_records r op ≡ b → RecordsAreSound r.apps → stray_from r (op ∷ ops) ≡ None
    → (RecordsAreSound (recorded r op).apps → stray_from (recorded r op) ops ≡ None → RecordsAreSound (fold recorded (recorded r op) ops).apps) → RecordsAreSound (fold recorded r (op ∷ ops)).apps
sound_more op ops r true e sound none more = more (sound_step r op sound e) (rw e at none)
sound_more op ops r false e sound none more = absurd (let x = rw e at none in cc)

sound_from : (ops : List Op) (r : Records) → RecordsAreSound r.apps → stray_from r ops ≡ None → RecordsAreSound (fold recorded r ops).apps
sound_from [] r sound none = sound
sound_from (op ∷ ops) r sound none = sound_more op ops r (fits_records r op) refl sound none (sound_from ops (recorded r op))

-- where no operation is stray the records are sound
pub stored_sound : (ops : List Op) → stray ops ≡ None → RecordsAreSound (records ops).apps
stored_sound ops none = sound_from ops no_records (λ id one e. cc) none

-- MASTERS

apt_of : (op : Op) → IsOperation op → IsAptOp op
apt_of (Epoch next stamp) is = tt
apt_of (App id submission) is = tt
apt_of (Attempt id master node) is = is.1.attempt
apt_of (AttemptEnd id how text) is = tt
apt_of (AppEnd id how text) is = tt
apt_of (Remove id) is = tt

apt_from : (ops : List Op) (r : Records) → All IsOperation ops → MastersAreOwn r.apps → MastersAreOwn (fold recorded r ops).apps
apt_from [] r all apt = apt
apt_from (op ∷ ops) r all apt = apt_from ops (recorded r op) all.1 (apt_step r op apt (apt_of op all.0))

-- each master that is recorded is a container of its attempt
pub stored_apt : (ops : List Op) → Every IsOperation ops → MastersAreOwn (records ops).apps
stored_apt ops every = apt_from ops no_records (each_of IsOperation ops every) (λ id one e. cc)
