use Rattle.std.proofs.Common.{◌≡◌, ℕ, List, Some, option_map, sym, ap, ◌∙◌, arith}
use Rattle.std.specs.List.{slice_get}
use Rattle.std.proofs.lemmas.Option.{slice_get-get_or}
use Rattle.std.proofs.lemmas.Slice.Eq.{bytes_eq-Decides}
use Rattle.rm_types.specs.declared.settings.QueueSpec.{QueueSpec}
use Rattle.rm_types.specs.Rights.{root_name}
use Rattle.rm_queues.proofs.trees.starts_at_root.Goals as goal

some_same : {a b : List ℕ} → Some a ≡ Some b → a ≡ b
some_same e = cc

pub returns-in-len1-up : goal.returns-in-len1-up
returns-in-len1-up c =
    let decides = bytes_eq-Decides c.bytes.result.now c.as_slice-in-len1-up.result.now in
    let at = slice_get-get_or c.as_slice.result.now 0 c.first-item.result (omega arith) in
    let first : option_map (λ (queue : QueueSpec). queue.name) (slice_get c.args.settings.now.queues 0) ≡ Some c.first-item.result.name =
    ap (λ queues. option_map (λ (queue : QueueSpec). queue.name) (slice_get queues 0)) (sym c.as_slice.ensures)
    ∙ ap (option_map (λ (queue : QueueSpec). queue.name)) (at ∙ ap Some (sym c.first-item.is)) in
    let named : (c.bytes.result.now ≡ c.as_slice-in-len1-up.result.now) → c.first-item.result.name ≡ root_name =
    (λ e. sym c.bytes.ensures ∙ e ∙ c.as_slice-in-len1-up.ensures) in (
      λ e. record { first_is_root = first ∙ ap Some (named (decides.0 (sym c.eq.ensures ∙ e))) },
      λ keeps. c.eq.ensures ∙ decides.1 (c.bytes.ensures ∙ some_same (sym first ∙ keeps.first_is_root) ∙ sym c.as_slice-in-len1-up.ensures),
    )
