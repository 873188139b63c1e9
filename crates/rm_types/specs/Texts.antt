-- The five kinds of text: the bytes that may stand in each, and how many. This project's own.
use Rattle.std.specs.Prelude.{ℕ, List, [], ◌∷◌, length, take, Bool, false, ◌&&◌, ◌||◌, not, ◌==◌, nat_le, nat_lt, Option, Some, position, unwrap_or, if◌then◌else◌, codes}
use Rattle.std.specs.List.{list_any}
use Rattle.rm_types.specs.declared.texts.TextKind.{TextKind}
use Rattle.rm_types.specs.declared.texts.TextKind.TheVariants.{Name, Node, Queue, Note, AclText}

-- `a` to `z`
abbrev pub is_small_letter : ℕ → Bool
is_small_letter byte = nat_le 97 byte && nat_le byte 122

-- `A` to `Z`
abbrev pub is_great_letter : ℕ → Bool
is_great_letter byte = nat_le 65 byte && nat_le byte 90

-- `0` to `9`
abbrev pub is_digit : ℕ → Bool
is_digit byte = nat_le 48 byte && nat_le byte 57

-- the byte is one of these characters
abbrev pub is_one_of : List ℕ → ℕ → Bool
is_one_of characters byte = list_any (λ one. byte == one) characters

-- a letter, a digit, `_`, `.` or `-`
abbrev pub is_name_byte : ℕ → Bool
is_name_byte byte = is_small_letter byte || is_great_letter byte || is_digit byte || is_one_of (codes "_.-") byte

-- a lower-case letter, a digit, `_`, `-` or `.`
abbrev pub is_queue_byte : ℕ → Bool
is_queue_byte byte = is_small_letter byte || is_digit byte || is_one_of (codes "_-.") byte

-- a printable byte, 0x20 to 0x7e
abbrev pub is_printable : ℕ → Bool
is_printable byte = nat_le 32 byte && nat_le byte 126

-- the byte may stand in a text of the kind
abbrev pub is_allowed : TextKind → ℕ → Bool
is_allowed Name byte = is_name_byte byte
is_allowed Node byte = is_name_byte byte || is_one_of (codes ":") byte
is_allowed Queue byte = is_queue_byte byte
is_allowed Note byte = is_printable byte
is_allowed AclText byte = is_printable byte

-- how many bytes a text of the kind has at least
abbrev pub least_length : TextKind → ℕ
least_length Name = 1
least_length Node = 1
least_length Queue = 1
least_length Note = 0
least_length AclText = 0

-- and at most
abbrev pub greatest_length : TextKind → ℕ
greatest_length Name = 64
greatest_length Node = 64
greatest_length Queue = 128
greatest_length Note = 256
greatest_length AclText = 512

-- where the first byte stands that is not allowed
abbrev pub first_not_allowed : TextKind → List ℕ → Option ℕ
first_not_allowed kind bytes = position (λ byte. not (is_allowed kind byte)) bytes

-- the least place at fault, if there is one: 0 where the bytes are too few; else the first byte that is not allowed
-- among as many as there may be; else the greatest length, where there are more
abbrev pub fault_of : TextKind → List ℕ → Option ℕ
fault_of kind bytes =
    if nat_lt (length bytes) (least_length kind) then Some 0 else
    (if nat_le (length bytes) (greatest_length kind) then first_not_allowed kind bytes
    else Some (unwrap_or (first_not_allowed kind (take (greatest_length kind) bytes)) (greatest_length kind)))

-- a word that begins with `-`
abbrev pub is_flag : List ℕ → Bool
is_flag [] = false
is_flag (byte ∷ bytes) = byte == 45
