-- What the store's worker knew when it ended is so of the desk that is handed out.
use Rattle.std.proofs.Common.{sym, ◌∙◌, ap, Option}
use Rattle.std.specs.Prelude.{is_some}
use Rattle.rm_lives.specs.declared.halts.Halt.{Halt}
use Rattle.rm_workers.proofs.LifeEndLemmas.{finish_down, finish_halted, finish_rested, finish_stopped, none_of}
use Rattle.rm_workers.proofs.lives.finish.Goals as goal

pub returns-in-Down : goal.returns-in-Down
returns-in-Down g c = record {
  ended = finish_down g.D.Disk.view g.S.Since.began c.into_desk-desk.result c.args.held.desk c.args.store c.into_desk-desk.ensures.went c.into_desk-desk.ensures.desk c.args.end c.requires.ended c.in-Down.image c.in-Down.is;
}

pub returns-in-Halted : goal.returns-in-Halted
returns-in-Halted g c = record {
  ended = finish_halted g.D.Disk.view g.S.Since.began c.into_desk-desk.result c.args.held.desk c.args.store c.into_desk-desk.ensures.went c.into_desk-desk.ensures.desk c.args.end c.requires.ended c.in-Halted.halt c.in-Halted.is;
}

pub returns-in-Over : goal.returns-in-Over
returns-in-Over g c = record {
  ended = finish_stopped g.D.Disk.view g.S.Since.began c.into_desk-desk.result c.args.held.desk c.args.store c.into_desk-desk.ensures.went c.into_desk-desk.ensures.desk c.args.end c.requires.ended c.in-Over.is;
}

pub returns-in-Over-2 : goal.returns-in-Over-2
returns-in-Over-2 g c =
    let none = none_of c.args.held.halt (ap (λ (o : Option Halt). is_some o) (sym c.halt-halt.ensures) ∙ sym c.is_some.ensures ∙ c.if-is_some.false) in
    record {
      ended = finish_rested g.D.Disk.view g.S.Since.began c.into_desk-desk.result c.args.held.desk c.args.store c.into_desk-desk.ensures.went c.into_desk-desk.ensures.desk c.args.end c.requires.ended c.in-Over-2.is c.law.ensures.sound
          c.law.ensures.tells (c.requires.over none);
    }
