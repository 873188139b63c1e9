-- Worked examples: what the definitions give for values whose outcome is known from outside.
use Rattle.std.specs.Prelude.{◌≡◌, ℕ, [], ◌∷◌, codes, refl}
use Rattle.std.specs.Fmt.{digits}
use Rattle.rm_types.specs.declared.ids.AppId.{AppId}
use Rattle.rm_types.specs.declared.ids.AttemptId.{AttemptId}
use Rattle.rm_types.specs.declared.ids.ContainerId.{ContainerId}
use Rattle.rm_types.specs.declared.operations.How.TheVariants.{Killed}
use Rattle.rm_types.specs.declared.operations.Op.TheVariants.{Epoch, AttemptEnd}
use Rattle.rm_formats.specs.Frames.{frame}
use Rattle.rm_formats.specs.IdTexts.{app_text, attempt_text, container_text}

-- the texts of ids

abbrev first_app : AppId
first_app = record { stamp = 1410901177871; number = 1 }

abbrev first_attempt : AttemptId
first_attempt = record { app = first_app; number = 1 }

abbrev container : ℕ → ℕ → ContainerId
container epoch seq = record { attempt = first_attempt; epoch = epoch; seq = seq }

pub app_text_example : app_text first_app ≡ codes "application_1410901177871_0001"
unfolding digits
app_text_example = refl

pub app_text_example-long : app_text (record { stamp = 1; number = 12345 }) ≡ codes "application_1_12345"
unfolding digits
app_text_example-long = refl

pub attempt_text_example : attempt_text first_attempt ≡ codes "appattempt_1410901177871_0001_000001"
unfolding digits
attempt_text_example = refl

pub container_text_example : container_text (container 0 5) ≡ codes "container_1410901177871_0001_01_000005"
unfolding digits
container_text_example = refl

pub container_text_example-epoch : container_text (container 17 5) ≡ codes "container_e17_1410901177871_0001_01_000005"
unfolding digits
container_text_example-epoch = refl

pub container_text_example-short_epoch : container_text (container 3 1234567) ≡ codes "container_e03_1410901177871_0001_01_1234567"
unfolding digits
container_text_example-short_epoch = refl

-- frames

pub frame_example-epoch : frame (Epoch 258 7) ≡ 1 ∷ 0 ∷ 0 ∷ 1 ∷ 2 ∷ 0 ∷ 0 ∷ 0 ∷ 0 ∷ 0 ∷ 0 ∷ 0 ∷ 7 ∷ []
frame_example-epoch = refl

pub frame_example-attempt_end : frame (AttemptEnd (record { app = record { stamp = 7; number = 1 }; number = 2 }) Killed (codes "hi"))
    ≡ 4 ∷ 0 ∷ 0 ∷ 0 ∷ 0 ∷ 0 ∷ 0 ∷ 0 ∷ 7 ∷ 0 ∷ 0 ∷ 0 ∷ 1 ∷ 0 ∷ 0 ∷ 0 ∷ 2 ∷ 3 ∷ 0 ∷ 2 ∷ 104 ∷ 105 ∷ []
frame_example-attempt_end = refl
