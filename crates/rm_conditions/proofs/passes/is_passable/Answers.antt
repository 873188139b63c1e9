use Rattle.std.proofs.Common.{sym, ◌∙◌}
use Rattle.std.proofs.lemmas.Bool.{false≢true}
use Rattle.rm_conditions.proofs.Passable.{pass_early, pass_rooms, pass_turns, passable}
use Rattle.rm_conditions.proofs.passes.is_passable.Goals.{then-have_room, else-have_room}
use Rattle.rm_conditions.proofs.passes.is_passable.Goals as goal

pub returns-then-are_early : goal.returns-then-are_early
returns-then-are_early c =
    elim c.if-have_room.branch [
      | then-have_room w ↦ (
        λ yes. passable c.args.t.now c.law_apart.ensures (sym c.have_room.ensures ∙ w.if-have_room.true) (w.are_early.ensures.0 (sym w.value-is ∙ c.if-are_early.true)) (c.may_have_turns.ensures.0 yes),
        λ can. c.may_have_turns.ensures.1 (pass_turns c.args.t.now can),
      )
      | else-have_room w ↦ absurd (false≢true (sym w.if-have_room.false ∙ sym w.value-is ∙ c.if-are_early.true))
    ]

pub returns-else-are_early : goal.returns-else-are_early
returns-else-are_early c = (
  λ yes. absurd (false≢true (sym c.if-are_early.false ∙ yes)),
  λ can. elim c.if-have_room.branch [
    | then-have_room w ↦ w.value-is ∙ w.are_early.ensures.1 (pass_early c.args.t.now can)
    | else-have_room w ↦ absurd (false≢true (sym w.if-have_room.false ∙ c.have_room.ensures ∙ pass_rooms c.args.t.now can))
  ],
)
