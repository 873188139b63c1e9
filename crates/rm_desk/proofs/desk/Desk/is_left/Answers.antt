use Rattle.rm_desk.proofs.desk.Desk.is_left.Goals as goal

pub returns-clause-unbegun : goal.returns-clause-unbegun
returns-clause-unbegun c = rw (← c.self.view_is) c.is_left.ensures.unbegun
