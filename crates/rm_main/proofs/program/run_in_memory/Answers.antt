use Rattle.std.proofs.Common.{ℕ, inl, inr, subst}
use Rattle.rm_main.specs.Calls.{IsNewDevice}
use Rattle.rm_main.proofs.Calls.{none_told}
use Rattle.rm_main.proofs.program.run_in_memory.Goals as goal

pub returns-in-Ok-clause-ran : goal.returns-in-Ok-clause-ran
returns-in-Ok-clause-ran g c =
    inr (record {
      old = c.in-Ok.device;
      new = c.run_over.result.1;
      is_new = subst (λ (n : ℕ). IsNewDevice n c.in-Ok.device) c.device.ensures c.in-Ok.ensures;
      ran = c.run_over.ensures.ran;
    })

pub returns-in-Err-clause-ran : goal.returns-in-Err-clause-ran
returns-in-Err-clause-ran g c = inl c.starved.ensures

pub returns-in-Err-clause-faults : goal.returns-in-Err-clause-faults
returns-in-Err-clause-faults g c = none_told _ _ _ c.starved.ensures
