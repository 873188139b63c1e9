use Rattle.std.proofs.Common.{rules, ◌≡◌, ap, length, ◌∙◌}
use Rattle.indexmap.proofs.CallerLemmas.{filter-RetainsPairs}
use Rattle.rm_keyed.specs.Slots.{live}
use Rattle.rm_keyed.proofs.Slots.{closed, closed_live}
use Rattle.rm_keyed.proofs.keyed.Keyed.drop_gaps.Goals as goal

kept : (g : _) (c : goal.After-retain g) → c.retain.new.self.entries ≡ closed c.self.inside.slots.entries
kept g c = filter-RetainsPairs _ _ _ (λ k v b w f call. search rules) _ _ c.retain.ensures.filtered

pub invariant_of-self : goal.invariant_of-self
invariant_of-self g c = record {
  unique = c.retain.ensures.unique;
  counted = ap (λ slots. length (live slots)) (kept g c) ∙ ap length (closed_live c.self.inside.slots.entries) ∙ c.self.invariant.counted;
}

pub returns : goal.returns
returns g c = rw (← c.self.view_is) (ap live (kept g c) ∙ closed_live c.self.inside.slots.entries)
