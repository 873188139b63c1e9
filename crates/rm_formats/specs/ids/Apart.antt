-- Ids of one kind have different texts.
use Rattle.std.specs.Prelude.{◌≡◌}
use Rattle.rm_types.specs.declared.ids.AppId.{AppId}
use Rattle.rm_types.specs.declared.ids.AttemptId.{AttemptId}
use Rattle.rm_types.specs.declared.ids.ContainerId.{ContainerId}
use Rattle.rm_formats.specs.IdTexts.{app_text, attempt_text, container_text}
use Rattle.rm_types.specs.Ranges.{IsAppId, IsAttemptId, IsContainerId}

-- two applications' ids in their ranges that have one text are equal
abbrev pub AppTextsAreApart : Type 0
AppTextsAreApart = (a b : AppId) → IsAppId a → IsAppId b → app_text a ≡ app_text b → a ≡ b

-- and so are two attempts' ids
abbrev pub AttemptTextsAreApart : Type 0
AttemptTextsAreApart = (a b : AttemptId) → IsAttemptId a → IsAttemptId b → attempt_text a ≡ attempt_text b → a ≡ b

-- and two containers' ids
abbrev pub ContainerTextsAreApart : Type 0
ContainerTextsAreApart = (a b : ContainerId) → IsContainerId a → IsContainerId b → container_text a ≡ container_text b → a ≡ b
