use Rattle.rm_formats.proofs.ids.Apart.{apps_apart, attempts_apart, containers_apart}
use Rattle.rm_formats.proofs.ids.laws.texts_are_apart.Goals as goal

pub returns-clause-apps : goal.returns-clause-apps
returns-clause-apps c = apps_apart

pub returns-clause-attempts : goal.returns-clause-attempts
returns-clause-attempts c = attempts_apart

pub returns-clause-containers : goal.returns-clause-containers
returns-clause-containers c = containers_apart
