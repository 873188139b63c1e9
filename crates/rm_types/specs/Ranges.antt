-- The ranges of numbers, ids, texts and operations: what stands in a store, a script or a page keeps them. The upper ends are
-- this project's own.
use Rattle.std.specs.Prelude.{◌≡◌, ℕ, ◌-◌, ◌^◌, ◌≤◌, List, None, false}
use Rattle.rm_types.specs.declared.ids.AppId.{AppId}
use Rattle.rm_types.specs.declared.ids.AttemptId.{AttemptId}
use Rattle.rm_types.specs.declared.ids.ContainerId.{ContainerId}
use Rattle.rm_types.specs.declared.operations.Op.{Op}
use Rattle.rm_types.specs.declared.operations.Op.TheVariants.{Epoch, App, Attempt, AttemptEnd, AppEnd, Remove}
use Rattle.rm_types.specs.declared.operations.Submission.{Submission}
use Rattle.rm_types.specs.declared.texts.TextKind.{TextKind}
use Rattle.rm_types.specs.declared.texts.TextKind.TheVariants.{Name, Node, Queue, Note, AclText}
use Rattle.rm_types.specs.declared.limits.TheConstants.{EPOCHS, SEQUENCES, NUMBERS, STAMPS}
use Rattle.rm_types.specs.Limits.{greatest_attempts, greatest_memory_mb, greatest_vcores}
use Rattle.rm_types.specs.Texts.{fault_of}

-- a number from the least to the greatest, both included
abbrev pub IsWithin : ℕ → ℕ → ℕ → Type 0
IsWithin least greatest number = (least ≤ number) × (number ≤ greatest)

-- the parts of an application's id are in their ranges
pub record IsAppId (id : AppId) : Type 0 where
  pub stamp : IsWithin 1 (STAMPS - 1) id.stamp
  pub number : IsWithin 1 (NUMBERS - 1) id.number

-- and those of an attempt's
pub record IsAttemptId (id : AttemptId) : Type 0 where
  pub app : IsAppId id.app
  pub number : IsWithin 1 (NUMBERS - 1) id.number

-- and those of a container's
pub record IsContainerId (id : ContainerId) : Type 0 where
  pub attempt : IsAttemptId id.attempt
  pub epoch : IsWithin 0 (EPOCHS - 1) id.epoch
  pub seq : IsWithin 1 (SEQUENCES - 1) id.seq

-- the bytes are a text of the kind
abbrev pub IsText : TextKind → List ℕ → Type 0
IsText kind text = fault_of kind text ≡ None

-- the parts of a submission are in their ranges
pub record IsSubmission (submission : Submission) : Type 0 where
  pub user : IsText Name submission.user
  pub queue : IsText Queue submission.queue
  pub name : IsText Name submission.name
  pub memory_mb : IsWithin 1 greatest_memory_mb submission.master.memory_mb
  pub vcores : IsWithin 1 greatest_vcores submission.master.vcores
  pub attempts : IsWithin 0 greatest_attempts submission.attempts
  pub modify : IsText AclText submission.modify

-- the container is one of this attempt
pub record IsMasterOf (id : AttemptId) (master : ContainerId) : Type 0 where
  pub container : IsContainerId master
  pub attempt : master.attempt ≡ id

-- the parts of a store operation are in their ranges
abbrev pub IsOperation : Op → Type 0
IsOperation (Epoch next stamp) = IsWithin 1 EPOCHS next × IsWithin 1 (STAMPS - 1) stamp
IsOperation (App id submission) = IsAppId id × IsSubmission submission
IsOperation (Attempt id master node) = IsAttemptId id × IsMasterOf id master × IsText Node node
IsOperation (AttemptEnd id how text) = IsAttemptId id × IsText Note text
IsOperation (AppEnd id how text) = IsAppId id × IsText Note text
IsOperation (Remove id) = IsAppId id
