-- Records that are alike: they differ in the numbers of the ends alone, and these stand in the same order. This project's own: so a store
-- may be compared with what is known of it, whatever operations it keeps.
use Rattle.std.specs.Prelude.{◌≡◌, ℕ, List, Bool, false, nat_lt, Option, None, Some, is_some, if◌then◌else◌, map}
use Rattle.rm_types.specs.declared.ids.AppId.{AppId}
use Rattle.rm_types.specs.declared.records.AppRecord.{AppRecord}
use Rattle.rm_types.specs.Records.{Records, record_of}

-- a record without the number of its end
abbrev pub without_end_order : AppRecord → AppRecord
without_end_order app = record app { end_order = 0 }

-- the number of an application's end, where it has one
abbrev pub end_number : Option AppRecord → Option ℕ
end_number None = None
end_number (Some app) = if is_some app.ending then Some app.end_order else None

-- both numbers are there, and the first is the lower one
abbrev pub is_lower : Option ℕ → Option ℕ → Bool
is_lower None other = false
is_lower (Some n) None = false
is_lower (Some n) (Some m) = nat_lt n m

-- both applications have ended, the first of them first
abbrev pub ends_before : List AppRecord → AppId → AppId → Bool
ends_before apps first next = is_lower (end_number (record_of apps first)) (end_number (record_of apps next))

-- the records have equal next epochs, stamps and applications but for the numbers of their ends, and these numbers stand in the same order
pub record IsAlike (one other : Records) : Type 0 where
  pub epoch : one.next_epoch ≡ other.next_epoch
  pub stamp : one.stamp ≡ other.stamp
  pub apps : map without_end_order one.apps ≡ map without_end_order other.apps
  pub order : (first next : AppId) → ends_before one.apps first next ≡ ends_before other.apps first next
