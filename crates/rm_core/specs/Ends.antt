-- In which order the applications of two trees ended, where these are the same but for the numbers of their ends. This project's own.
use Rattle.std.specs.Prelude.{◌≡◌, ◌<◌, ◌⊎◌, List, [], ◌∷◌, All, nat_lt, is_some, if◌then◌else◌}
use Rattle.rm_types.specs.declared.ids.AppId.{AppId}
use Rattle.rm_types.specs.declared.records.AppRecord.{AppRecord}
use Rattle.rm_types.specs.Alike.{ends_before}
use Rattle.rm_core.specs.declared.ends.EndNumbers.{EndNumbers}

-- of each two applications the same one ended first
abbrev pub EndTogether : List AppRecord → List AppRecord → Type 0
EndTogether apps others = (first next : AppId) → ends_before apps first next ≡ ends_before others first next

-- the numbers of each end, by both lists
abbrev pub paired_ends : List AppRecord → List AppRecord → List EndNumbers
paired_ends [] others = []
paired_ends (app ∷ apps) [] = []
paired_ends (app ∷ apps) (other ∷ others) =
    if is_some app.ending then record { one = app.end_order; other = other.end_order } ∷ paired_ends apps others else paired_ends apps others

-- the first has the lower number in both lists or in neither
abbrev pub IsInStep : EndNumbers → EndNumbers → Type 0
IsInStep first next = nat_lt first.one next.one ≡ nat_lt first.other next.other

-- each two are
abbrev pub AreInStep : List EndNumbers → Type 0
AreInStep ends = All (λ first. All (IsInStep first) ends) ends

-- the numbers rise in both lists, or stay in both
abbrev pub IsUp : EndNumbers → EndNumbers → Type 0
IsUp before next = ((before.one < next.one) × (before.other < next.other)) ⊎ ((before.one ≡ next.one) × (before.other ≡ next.other))
