use Rattle.std.specs.Prelude.{◌≡◌, All, map, take}
use Rattle.rm_page.specs.Ranges.{IsGrant}
use Rattle.rm_page_reader.proofs.entries.grants_on.Given as goal

-- the first containers are granted
abbrev pub invariant-ids : goal.invariant-ids
invariant-ids l = record { ranges : All IsGrant l.grants; first : map (λ grant. grant.id) l.grants ≡ take l.id-index l.ids }
