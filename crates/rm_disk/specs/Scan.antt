-- Bytes that a store may have left, and what a scan knows of bytes.
use Rattle.std.specs.Prelude.{◌≡◌, ◌⊎◌, ◌↔◌, ◌+◌, ◌-◌, ◌/◌, ℕ, true, List, length, drop, get_or, All}
use Rattle.rm_disk.specs.declared.scan.ByteWatch.{ByteWatch}
use Rattle.rm_disk.specs.declared.scan.Scan.{Scan}
use Rattle.rm_formats.specs.declared.TheConstants.{FIRST_END}

-- Bytes that a store of this program may have left: the first gate of a half, which is its first byte, is open, or nothing
-- was kept yet, and each byte behind the place of the first half's first record and the gate behind that is 0. This project's own.
abbrev pub MayBeStore : List ℕ → Type 0
MayBeStore bytes = ((get_or bytes 0 0 ≡ 1) ⊎ (get_or bytes (length bytes / 2) 0 ≡ 1)) ⊎ All (λ b. b ≡ 0) (drop FIRST_END bytes)

-- A watch has seen exactly these bytes, and holds the one at the place, or 0 where they end before it.
pub record HasByte (watch : ByteWatch) (place : ℕ) (bytes : List ℕ) : Type 0 where
  pub byte : watch.byte ≡ get_or bytes place 0
  pub left : watch.left ≡ place + 1 - length bytes

-- A scan of so many bytes has seen exactly these.
pub record HasSeen (scan : Scan) (size : ℕ) (bytes : List ℕ) : Type 0 where
  pub first : HasByte scan.first 0 bytes
  pub second : HasByte scan.second (size / 2) bytes
  pub front : scan.front ≡ FIRST_END - length bytes
  pub clear : (scan.is_clear ≡ true) ↔ All (λ b. b ≡ 0) (drop FIRST_END bytes)
