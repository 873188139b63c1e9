-- What holds of each script that is read: how its lives close, and the ranges of its values.
use Rattle.std.specs.Prelude.{◌≡◌, ◌⊎◌, ℕ, ◌≤◌, List, [], ◌∷◌, ◌++◌, All}
use Rattle.rm_types.specs.Ranges.{IsWithin}
use Rattle.rm_types.specs.declared.messages.Message.{Message}
use Rattle.rm_types.specs.declared.scripts.Close.TheVariants.{Settle, Crash}
use Rattle.rm_types.specs.declared.scripts.Segment.{Segment}
use Rattle.rm_types.specs.declared.scripts.Life.{Life}
use Rattle.rm_types.specs.declared.scripts.Script.{Script}
use Rattle.rm_types.specs.Limits.{greatest_stamp, most_lines}
use Rattle.rm_script.specs.Limits.{greatest_calls, greatest_image}
use Rattle.rm_script.specs.Scripts.{IsReadMessage, EachButLast}
use Rattle.rm_types.specs.Segments.{messages_in}

-- the segment settles
abbrev pub ClosesSettled : Segment → Type 0
ClosesSettled segment = segment.close ≡ Settle

-- the last segment ends in a crash, and those before it settle
pub record EndInCrash (segments : List Segment) : Type 0 where
  pub before : List Segment
  pub messages : List Message
  pub calls : ℕ
  pub image : ℕ
  pub apart : segments ≡ before ++ record { messages = messages; close = Crash calls image } ∷ []
  pub settle : All ClosesSettled before
  pub calls_fit : IsWithin 0 greatest_calls calls
  pub image_fits : IsWithin 0 greatest_image image

-- a life of a script that is read
pub record IsToldLife (life : Life) : Type 0 where
  pub stamp : IsWithin 1 greatest_stamp life.stamp
  pub messages : All (λ segment. All IsReadMessage segment.messages) life.segments
  pub closes : All ClosesSettled life.segments ⊎ EndInCrash life.segments
  pub few : messages_in life.segments ≤ most_lines

-- a script that is read: each life but the last crashes
pub record IsToldScript (script : Script) : Type 0 where
  pub each : All IsToldLife script.lives
  pub crash : EachButLast (λ life. EndInCrash life.segments) script.lives
