use Rattle.std.proofs.Common.{◌≡◌, ℕ, ◌+◌, ◌/◌, true, false, List, sym, ◌∙◌, ap, subst, zero-add}
use Rattle.rm_journal.specs.Journal.{region_of}
use Rattle.rm_journal.specs.two_areas.Areas.{area_of}
use Rattle.rm_store.specs.Content.{half_of}
use Rattle.rm_tool.specs.salvage.Forms.{HasFirstFrame, IsForm}
use Rattle.rm_tool.proofs.salvage.FormLemmas.{IsKnown, form_is, known}
use Rattle.rm_tool.proofs.salvage.forms.form_of.Goals as goal

first_area : (bytes : List ℕ) (half : ℕ) → half ≡ half_of bytes → region_of 0 half bytes ≡ area_of (half_of bytes) false bytes
first_area bytes half is = ap (λ (n : ℕ). region_of 0 n bytes) (is ∙ sym (zero-add (half_of bytes)))

second_area : (bytes : List ℕ) (half : ℕ) → half ≡ half_of bytes → region_of half (half + half) bytes ≡ area_of (half_of bytes) true bytes
second_area bytes half is = ap (λ (n : ℕ). region_of n (n + n) bytes) is

pub returns-clause-form : goal.returns-clause-form
returns-clause-form c =
    let bytes = c.args.disk.now in
    let half : c.size-size.result / 2 ≡ half_of bytes = ap (λ (n : ℕ). n / 2) c.size-size.ensures in
    let half_at = c.size-size.result / 2 in
    let was = c.has_first_frame.new.disk in
    let then = c.generation_at.new.disk in
    let first = subst (λ (b : List ℕ). IsKnown (region_of 0 half_at b) c.in_ok-first.first) c.has_first_frame.ensures.same (known (region_of 0 half_at was) c.in_ok-first.first c.in_ok-first.ensures.some c.in_ok-first.ensures.none) in
    let second = subst (λ (b : List ℕ). IsKnown (region_of half_at (half_at + half_at) b) c.in_ok-second.second) (c.generation_at.ensures.same ∙ c.has_first_frame.ensures.same) (known (region_of half_at (half_at + half_at) then) c.in_ok-second.second c.in_ok-second.ensures.some c.in_ok-second.ensures.none) in
    let no_frame : HasFirstFrame bytes → ⊥ = λ has. (let t = c.in_ok-has_first_frame.ensures.has.1 has in let f = c.if-branch.false in cc) in
    subst (IsForm bytes) (sym c.form_by.ensures)
    (form_is bytes c.in_ok-first.first c.in_ok-second.second no_frame
    (subst (λ (l : List ℕ). IsKnown l c.in_ok-first.first) (first_area bytes (c.size-size.result / 2) half) first)
    (subst (λ (l : List ℕ). IsKnown l c.in_ok-second.second) (second_area bytes (c.size-size.result / 2) half) second))
