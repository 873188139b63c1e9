-- The layout of a frame: its fields one after another, each with its range, and the first of them that bytes lack.
use Rattle.std.specs.Prelude.{ℕ, ◌+◌, ◌-◌, ◌==◌, List, [], ◌∷◌, ◌++◌, length, take, drop, slice_index, Bool, true, false, ◌&&◌, nat_le, Option, Some, None, is_none, option_map, if◌then◌else◌}
use Rattle.std.specs.Int.{Width, byte_len, from_be_bytes, w16, w32, w64}
use Rattle.rm_types.specs.declared.texts.TextKind.{TextKind}
use Rattle.rm_types.specs.declared.texts.TextKind.TheVariants.{Name, Node, Queue, Note, AclText}
use Rattle.rm_types.specs.Limits.{greatest_attempts, greatest_memory_mb, greatest_vcores}
use Rattle.rm_types.specs.declared.limits.TheConstants.{EPOCHS, SEQUENCES, NUMBERS, STAMPS}
use Rattle.rm_types.specs.Texts.{fault_of}
use Rattle.rm_formats.specs.declared.codes.TheConstants.{EPOCH_CODE, OLDER_APP_CODE, APP_CODE, ATTEMPT_CODE, ATTEMPT_END_CODE, APP_END_CODE, REMOVE_CODE, FINISHED_CODE, KILLED_CODE}

-- a field: a byte or a number, from the least to the greatest, or a text of a kind behind its length
pub data Field : Type 0 where
  ByteFrom : ℕ → ℕ → Field
  NumberFrom : Width → ℕ → ℕ → Field
  TextOf : TextKind → Field

-- the length that stands before a text
abbrev pub told_length : List ℕ → ℕ
told_length bytes = from_be_bytes w16 (take 2 bytes)

-- how many bytes the field takes at the front of these
abbrev pub size_of : Field → List ℕ → ℕ
size_of (ByteFrom least greatest) bytes = 1
size_of (NumberFrom width least greatest) bytes = byte_len width
size_of (TextOf kind) bytes = 2 + told_length bytes

-- the value that follows is in the field's range
abbrev pub is_in_range : Field → List ℕ → Bool
is_in_range (ByteFrom least greatest) bytes = nat_le least (slice_index bytes 0) && nat_le (slice_index bytes 0) greatest
is_in_range (NumberFrom width least greatest) bytes =
    nat_le least (from_be_bytes width (take (byte_len width) bytes)) && nat_le (from_be_bytes width (take (byte_len width) bytes)) greatest
is_in_range (TextOf kind) bytes = is_none (fault_of kind (take (told_length bytes) (drop 2 bytes)))

-- the bytes begin with the field: it is not short, and in its range
abbrev pub has_field : Field → List ℕ → Bool
has_field (ByteFrom least greatest) bytes = nat_le 1 (length bytes) && is_in_range (ByteFrom least greatest) bytes
has_field (NumberFrom width least greatest) bytes = nat_le (byte_len width) (length bytes) && is_in_range (NumberFrom width least greatest) bytes
has_field (TextOf kind) bytes =
    nat_le 2 (length bytes) && (nat_le (2 + told_length bytes) (length bytes) && is_in_range (TextOf kind) bytes)

-- how many bytes are left where the first of these fields begins that is short or out of range, if one is
unfoldable pub left_at_fault : List Field → List ℕ → Option ℕ
left_at_fault [] bytes = None
left_at_fault (field ∷ fields) bytes =
    if has_field field bytes then left_at_fault fields (drop (size_of field bytes) bytes) else Some (length bytes)

-- a stamp
abbrev pub stamp_field : Field
stamp_field = NumberFrom w64 1 (STAMPS - 1)

-- the number of an application or an attempt
abbrev pub number_field : Field
number_field = NumberFrom w32 1 (NUMBERS - 1)

-- an application's id
abbrev pub app_id_fields : List Field
app_id_fields = stamp_field ∷ number_field ∷ []

-- an attempt's id
abbrev pub attempt_id_fields : List Field
attempt_id_fields = app_id_fields ++ number_field ∷ []

-- a master's container, of which the attempt is known
abbrev pub master_fields : List Field
master_fields = NumberFrom w32 0 (EPOCHS - 1) ∷ NumberFrom w64 1 (SEQUENCES - 1) ∷ []

-- the memory, in megabytes, and the virtual cores of a container
abbrev pub memory_field : Field
memory_field = NumberFrom w32 1 greatest_memory_mb

-- the virtual cores of a container
abbrev pub cores_field : Field
cores_field = NumberFrom w32 1 greatest_vcores

-- how many attempts were asked for
abbrev pub attempts_field : Field
attempts_field = NumberFrom w32 0 greatest_attempts

-- whether containers are kept, where that could be chosen
abbrev pub keep_fields : Bool → List Field
keep_fields true = ByteFrom 0 1 ∷ []
keep_fields false = []

-- what was submitted
abbrev pub submission_fields : Bool → List Field
submission_fields chosen =
    TextOf Name ∷ TextOf Queue ∷ TextOf Name ∷ memory_field ∷ cores_field ∷ attempts_field ∷ (keep_fields chosen ++ TextOf AclText ∷ [])

-- how something ended
abbrev pub how_field : Field
how_field = ByteFrom FINISHED_CODE KILLED_CODE

-- how something ended, and its diagnostics
abbrev pub end_fields : List Field
end_fields = how_field ∷ TextOf Note ∷ []

-- the life's next epoch, and its stamp
abbrev pub epoch_fields : List Field
epoch_fields = NumberFrom w32 1 EPOCHS ∷ stamp_field ∷ []

-- the fields of an operation behind the byte for its kind
abbrev pub fields_of : ℕ → List Field
fields_of code =
    if code == EPOCH_CODE then epoch_fields else
    (if code == OLDER_APP_CODE then app_id_fields ++ submission_fields false else
    (if code == ATTEMPT_CODE then attempt_id_fields ++ (master_fields ++ TextOf Node ∷ []) else
    (if code == ATTEMPT_END_CODE then attempt_id_fields ++ end_fields else
    (if code == APP_END_CODE then app_id_fields ++ end_fields else
    (if code == REMOVE_CODE then app_id_fields else app_id_fields ++ submission_fields true)))))

-- the kind of a frame
abbrev pub kind_field : Field
kind_field = ByteFrom EPOCH_CODE APP_CODE

-- all fields of the frame that bytes may begin with: their first byte says which kind it is
abbrev pub layout : List ℕ → List Field
layout bytes = kind_field ∷ fields_of (slice_index bytes 0)

-- where the first field begins that is short or out of range, if one is
abbrev pub fault_place : List ℕ → Option ℕ
fault_place bytes = option_map (λ left. length bytes - left) (left_at_fault (layout bytes) bytes)
