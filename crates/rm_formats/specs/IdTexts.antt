-- The texts of ids. Their parts are those of YARN's `ApplicationId`, `ApplicationAttemptId` and `ContainerId`; that they are in lower case, and
-- have one spelling each, is this project's own.
use Rattle.std.specs.Prelude.{ℕ, ◌-◌, ◌==◌, List, ◌++◌, length, replicate, codes, decimal, if◌then◌else◌}
use Rattle.rm_types.specs.declared.ids.AppId.{AppId}
use Rattle.rm_types.specs.declared.ids.AttemptId.{AttemptId}
use Rattle.rm_types.specs.declared.ids.ContainerId.{ContainerId}

-- a number in at least so many digits: zeros (48 is `0`) stand before it up to that many, and none beyond
abbrev pub padded : ℕ → ℕ → List ℕ
padded digits number = replicate (digits - length (decimal number)) 48 ++ decimal number

-- an application's text: `application_`, the stamp, and the number in at least 4 digits
abbrev pub app_text : AppId → List ℕ
app_text id = codes "application_" ++ (decimal id.stamp ++ (codes "_" ++ padded 4 id.number))

-- an attempt's text: `appattempt_`, the stamp, the application's number in at least 4 digits, and the attempt's in 6
abbrev pub attempt_text : AttemptId → List ℕ
attempt_text id = codes "appattempt_" ++ (decimal id.app.stamp ++ (codes "_" ++ (padded 4 id.app.number ++ (codes "_" ++ padded 6 id.number))))

-- how a container's text ends: the stamp, the application's number in at least 4 digits, the attempt's in 2 and the
-- sequence in 6
abbrev pub container_end : ContainerId → List ℕ
container_end id =
    decimal id.attempt.app.stamp ++ (codes "_" ++ (padded 4 id.attempt.app.number ++ (codes "_" ++ (padded 2 id.attempt.number ++ (codes "_" ++ padded 6 id.seq)))))

-- a container's text: `container_`, then `e` and the epoch in at least 2 digits exactly where the epoch is not 0, and
-- the rest
abbrev pub container_text : ContainerId → List ℕ
container_text id =
    if id.epoch == 0 then codes "container_" ++ container_end id
    else codes "container_e" ++ (padded 2 id.epoch ++ (codes "_" ++ container_end id))
