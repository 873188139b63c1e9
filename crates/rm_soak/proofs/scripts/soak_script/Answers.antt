use Rattle.std.proofs.Common.{◌≡◌, List, [], ◌∷◌, ◌++◌, ◌∙◌, map, ap, sym, subst, arith}
use Rattle.std.specs.List.{range_with_len}
use Rattle.std.proofs.lemmas.List.FromFn.{map-range_with_len_more}
use Rattle.rm_types.specs.declared.scripts.Life.{Life}
use Rattle.rm_script.specs.Values.{IsToldScript}
use Rattle.rm_soak.specs.Scripts.{soak_life, lives_of, soak_of}
use Rattle.rm_soak.proofs.Told.{soak_told}
use Rattle.rm_soak.proofs.scripts.soak_script.Goals as goal

pub lives-preserved : goal.lives-preserved
lives-preserved c =
    c.in_ok-push.ensures.ok
    ∙ ap (λ before. before ++ c.in_ok-life_of.field-0 ∷ []) c.lives.invariant
    ∙ ap (λ told. map (soak_life c.args.number) (range_with_len 0 c.lives.life) ++ told ∷ []) c.in_ok-life_of.ensures
    ∙ sym (map-range_with_len_more (soak_life c.args.number) 0 c.lives.life c.lives.life (omega arith))

pub returns-clause-told : goal.returns-clause-told
returns-clause-told c =
    let ended : c.lives.life ≡ lives_of c.args.number = omega arith in
    let lives : c.lives.lives ≡ (soak_of c.args.number).lives = c.lives.invariant ∙ ap (λ count. map (soak_life c.args.number) (range_with_len 0 count)) ended in
    subst (λ (all : List Life). IsToldScript (record { lives = all })) (sym lives) (soak_told c.args.number c.requires.few)
