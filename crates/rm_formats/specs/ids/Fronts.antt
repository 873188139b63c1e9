-- Bytes with which the text of some id begins, and how far bytes do. This project's own.
use Rattle.std.specs.Prelude.{◌≡◌, ℕ, ◌≤◌, List, ◌++◌, length, take}
use Rattle.rm_types.specs.declared.ids.AppId.{AppId}
use Rattle.rm_types.specs.declared.ids.AttemptId.{AttemptId}
use Rattle.rm_types.specs.declared.ids.ContainerId.{ContainerId}
use Rattle.rm_formats.specs.IdTexts.{app_text, attempt_text, container_text}
use Rattle.rm_types.specs.Ranges.{IsAppId, IsAttemptId, IsContainerId}

-- the text of some application's id in its ranges
pub record IsAppText (text : List ℕ) : Type 0 where
  pub id : AppId
  pub is : IsAppId id
  pub same : text ≡ app_text id

-- the text of some attempt's id in its ranges
pub record IsAttemptText (text : List ℕ) : Type 0 where
  pub id : AttemptId
  pub is : IsAttemptId id
  pub same : text ≡ attempt_text id

-- the text of some container's id in its ranges
pub record IsContainerText (text : List ℕ) : Type 0 where
  pub id : ContainerId
  pub is : IsContainerId id
  pub same : text ≡ container_text id

-- some text of the kind begins with these bytes
pub record IsFrontOf (IsKind : List ℕ → Type 0) (front : List ℕ) : Type 0 where
  pub more : List ℕ
  pub is : IsKind (front ++ more)

-- where bytes leave the texts of the kind: some text begins with the bytes before the place, and none with more of them
pub record IsPlace (IsKind : List ℕ → Type 0) (bytes : List ℕ) (place : ℕ) : Type 0 where
  pub within : place ≤ length bytes
  pub front : IsFrontOf IsKind (take place bytes)
  pub longest : (count : ℕ) → count ≤ length bytes → IsFrontOf IsKind (take count bytes) → count ≤ place

-- bytes that go on with others: they begin with all of them
pub record IsPrefixOf (front whole : List ℕ) : Type 0 where
  pub more : List ℕ
  pub is : whole ≡ front ++ more
