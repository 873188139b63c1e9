use Rattle.std.proofs.Common.{map, sym, ◌∙◌, List, ap, ◌≡◌, ◌∷◌, [], take}
use Rattle.std.proofs.lemmas.List.{map-append}
use Rattle.rm_types.specs.declared.records.AppRecord.{AppRecord}
use Rattle.rm_types.specs.Alike.{without_end_order}
use Rattle.std.proofs.Common.{slice_get, Option, Some, option_map}
use Rattle.std.proofs.lemmas.Option.{slice_get-map}
use Rattle.std.specs.Option.{unwrap_or}
use Rattle.rm_core.proofs.Listed.{take_got}
use Rattle.rm_core.proofs.likeness.are_like_apps.Goals as goal

pub records-preserved : goal.records-preserved
records-preserved c =
    let one = take_got c.args.tree.now.apps c.records.place c.at.result.now c.at.ensures in
    let other = take_got c.args.other.now.apps c.records.place c.at-in-records.result.now c.at-in-records.ensures in
    let same = c.is_like_app.ensures.0 c.if-not-is_like_app.false in
    ap (λ (l : List AppRecord). map without_end_order l) one ∙ map-append without_end_order (take c.records.place c.args.tree.now.apps) (c.at.result.now ∷ [])
    ∙ rw (same, c.records.invariant) (sym (map-append without_end_order (take c.records.place c.args.other.now.apps) (c.at-in-records.result.now ∷ []))) ∙ sym (ap (λ (l : List AppRecord). map without_end_order l) other)

pub returns-then-not-is_like_app : goal.returns-then-not-is_like_app
returns-then-not-is_like_app c = (
  λ no. cc,
  λ same.
      let at_ : option_map without_end_order (slice_get c.args.tree.now.apps c.records.place) ≡ option_map without_end_order (slice_get c.args.other.now.apps c.records.place) =
      sym (slice_get-map without_end_order c.args.tree.now.apps c.records.place) ∙ ap (λ (l : List AppRecord). slice_get l c.records.place) same ∙ slice_get-map without_end_order c.args.other.now.apps c.records.place in
      let one : Some (without_end_order c.at.result.now) ≡ Some (without_end_order c.at-in-records.result.now) = sym (ap (λ (o : Option AppRecord). option_map without_end_order o) c.at.ensures) ∙ at_ ∙ ap (λ (o : Option AppRecord). option_map without_end_order o) c.at-in-records.ensures in
      let like : without_end_order c.at.result.now ≡ without_end_order c.at-in-records.result.now = ap (λ (o : Option AppRecord). unwrap_or o (without_end_order c.at.result.now)) one in
      let is = c.is_like_app.ensures.1 like in
      let no = c.if-not-is_like_app.true in cc,
)
