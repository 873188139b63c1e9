-- What bytes of a device hold: the payloads of the journal that they are. This project's own.
use Rattle.std.specs.Prelude.{◌≡◌, ◌≢◌, ◌≤◌, ℕ, List, [], ◌∷◌, ◌++◌, length, All, flat_map}
use Rattle.std.specs.Int.{w32, to_be_bytes}
use Rattle.rm_formats.specs.declared.TheConstants.{MOST_PAYLOAD}

-- A payload has 1 to 1,024 bytes.
abbrev pub IsPayload : List ℕ → Type 0
IsPayload payload = (1 ≤ length payload) × (length payload ≤ MOST_PAYLOAD)

-- A payload behind its length, which stands in 4 bytes, the highest first.
abbrev pub sized : List ℕ → List ℕ
sized payload = to_be_bytes w32 (length payload) ++ payload

-- A record: an open gate, which is the byte 1, the payload's length, and the payload.
abbrev pub journal_record : List ℕ → List ℕ
journal_record payload = 1 ∷ sized payload

-- The records of these payloads, one after the other.
abbrev pub journal_records : List (List ℕ) → List ℕ
journal_records payloads = flat_map journal_record payloads

-- The bytes hold these payloads: their records stand one after the other, then a closed gate, which is any byte but
-- 1, and then anything. Where there are no bytes at all there are no payloads.
pub data HasPayloads (bytes : List ℕ) (payloads : List (List ℕ)) : Type 0 where
  no_bytes : bytes ≡ [] → payloads ≡ [] → HasPayloads bytes payloads
  records : (gate : ℕ) (rest : List ℕ) → gate ≢ 1 → All IsPayload payloads → bytes ≡ journal_records payloads ++ gate ∷ rest → HasPayloads bytes payloads

-- The bytes behind an open gate are no payload with its length, before at least one byte, which is the next gate.
abbrev pub NoRecord : List ℕ → Type 0
NoRecord rest = (payload : List ℕ) (next : ℕ) (more : List ℕ) → IsPayload payload → rest ≡ sized payload ++ next ∷ more → ⊥

-- The bytes are damaged at an offset: behind records, an open gate stands there before no record.
pub record IsDamagedAt (bytes : List ℕ) (offset : ℕ) : Type 0 where
  pub payloads : List (List ℕ)
  pub rest : List ℕ
  pub sizes : All IsPayload payloads
  pub bytes_are : bytes ≡ journal_records payloads ++ 1 ∷ rest
  pub place : offset ≡ length (journal_records payloads)
  pub no_record : NoRecord rest
