-- A disk in memory, told from the record of its calls.
use Rattle.std.specs.Prelude.{◌≡◌, ℕ, Bool, true, false, ◌&&◌, nat_le, nat_lt, ◌+◌, ◌*◌, ◌%◌, ◌≤◌, ◌==◌, Some, List, [], ◌∷◌, ◌++◌, length, take, drop, map, fold, slice_index, if◌then◌else◌}
use Rattle.std.specs.List.{list_any, list_all, enumerate_from}
use Rattle.rm_disk.specs.Disk.{DiskView, put}
use Rattle.rm_disk.specs.declared.calls.Call.{Call}
use Rattle.rm_disk.specs.declared.calls.Call.TheVariants.{Write, Sync, Fall}

-- The bytes that a read gives, those at the last sync, and the writes since then, the oldest first.
pub record MemState : Type 0 where
  pub now : List ℕ
  pub synced : List ℕ
  pub unsynced : List Call

-- Nothing is unsynced.
abbrev pub settled_at : List ℕ → MemState
settled_at bytes = record { now = bytes; synced = bytes; unsynced = [] }

-- Whether a place stands in a range, from its first place to before its end.
abbrev pub is_within : ℕ → ℕ → ℕ → Bool
is_within first end place = nat_le first place && nat_lt place end

-- Whether a call wrote the byte at a place.
abbrev pub writes_at : ℕ → Call → Bool
writes_at place (Write at bytes) = is_within at (at + length bytes) place
writes_at place _ = false

-- Whether one of these calls wrote the byte at a place.
abbrev pub is_written : List Call → ℕ → Bool
is_written calls place = list_any (writes_at place) calls

-- The bytes with new ones by place wherever the place passes a test.
abbrev pub renewed : (ℕ → Bool) → (ℕ → ℕ) → List ℕ → List ℕ
renewed passes byte old = map (λ at. if passes at.0 then byte at.0 else at.1) (enumerate_from 0 old)

-- What image n leaves of a byte written since the last sync: 0 its value at that sync, 1 the new value, and any
-- other (167 n + place) mod 256.
abbrev pub fallen_byte : ℕ → MemState → ℕ → ℕ
fallen_byte image state place =
    if image == 0
    then slice_index state.synced place
    else (if image == 1 then slice_index state.now place else (167 * image + place) % 256)

-- What a fall to image n leaves: other bytes stay.
abbrev pub fallen : ℕ → MemState → List ℕ
fallen image state = renewed (is_written state.unsynced) (fallen_byte image state) state.now

-- What one more call makes of a state: a write is not synced yet, a sync keeps what is read, and a fall settles
-- on its image.
abbrev pub after_call : MemState → Call → MemState
after_call state (Write at bytes) =
    record { now = put at bytes state.now; synced = state.synced; unsynced = state.unsynced ++ Write at bytes ∷ [] }
after_call state Sync = settled_at state.now
after_call state (Fall image) = settled_at (fallen image state)

-- The state of a disk that began with some bytes, all of them synced, after these calls.
abbrev pub replayed : List ℕ → List Call → MemState
replayed first calls = fold after_call (settled_at first) calls

-- A crash may leave any bytes where something was written since the last sync; every other byte is as it was then.
pub record IsImage (state : MemState) (image : List ℕ) : Type 0 where
  pub size : length image ≡ length state.synced
  pub others : (place : ℕ) → is_written state.unsynced place ≡ false → slice_index image place ≡ slice_index state.synced place

-- What a crash may have left after some of the calls, but not before so many of them.
abbrev pub LeftSince : List ℕ → List Call → ℕ → List ℕ → Type 0
LeftSince first calls from image =
    (many : ℕ) × (from ≤ many) × (many ≤ length calls) × IsImage (replayed first (take many calls)) image

-- A disk in memory as contracts see it: its first bytes, those of now, the record of its calls, and its faults.
abbrev pub view_of_memory : List ℕ → List ℕ → List Call → ℕ → DiskView
view_of_memory first bytes calls faults = record {
  size = length first;
  told = Some bytes;
  images = IsImage (replayed first calls);
  moment = length calls;
  left_since = LeftSince first calls;
  faults = faults;
}

-- Whether what a call writes lies within a size.
abbrev pub call_fits : ℕ → Call → Bool
call_fits size (Write at bytes) = nat_le (at + length bytes) size
call_fits size _ = true

-- The bytes that are kept beside the record are those that the record tells.
pub record IsReplayed (first bytes synced : List ℕ) (calls : List Call) (settled : ℕ) : Type 0 where
  pub now : bytes ≡ (replayed first calls).now
  pub synced_then : synced ≡ (replayed first calls).synced
  pub unsynced : drop settled calls ≡ (replayed first calls).unsynced
  pub image : IsImage (replayed first calls) bytes
  pub within : settled ≤ length calls
  pub size : length bytes ≡ length first
  pub size_synced : length synced ≡ length first
  pub fit : list_all (call_fits (length first)) calls ≡ true
