use Rattle.std.proofs.Common.{arith, Some, sym, ◌∙◌, ap}
use Rattle.serde_json.specs.View.{view}
use Rattle.rm_cluster.specs.Rules.{first_broken}
use Rattle.rm_cluster.proofs.Refusals.{refused_at}
use Rattle.rm_cluster.proofs.Ranges.{in_range}
use Rattle.rm_cluster.proofs.clusters.settings_of.Goals as goal

pub returns-then-not-has_known_keys-clause-refused : goal.returns-then-not-has_known_keys-clause-refused
unfolding first_broken
returns-then-not-has_known_keys-clause-refused c = grind arith

pub returns-in_err-max_attempts-clause-refused : goal.returns-in_err-max_attempts-clause-refused
unfolding first_broken
returns-in_err-max_attempts-clause-refused c = refused_at (view c.args.file.now) _ c.from_residual.ensures.1 c.in_err-max_attempts.ensures.value c.in_err-max_attempts.ensures.ok_part c.refused-2.ensures (grind arith)

pub returns-in_err-max_completed-clause-refused : goal.returns-in_err-max_completed-clause-refused
unfolding first_broken
returns-in_err-max_completed-clause-refused c = refused_at (view c.args.file.now) _ c.from_residual-in_err-max_completed.ensures.1 c.in_err-max_completed.ensures.value c.in_err-max_completed.ensures.ok_part c.refused-3.ensures (grind arith)

pub returns-in_err-max_apps-clause-refused : goal.returns-in_err-max_apps-clause-refused
unfolding first_broken
returns-in_err-max_apps-clause-refused c = refused_at (view c.args.file.now) _ c.from_residual-in_err-max_apps.ensures.1 c.in_err-max_apps.ensures.value c.in_err-max_apps.ensures.ok_part c.refused-4.ensures (grind arith)

pub returns-in_err-wait_ms-clause-refused : goal.returns-in_err-wait_ms-clause-refused
unfolding first_broken
returns-in_err-wait_ms-clause-refused c = refused_at (view c.args.file.now) _ c.from_residual-in_err-wait_ms.ensures.1 c.in_err-wait_ms.ensures.value c.in_err-wait_ms.ensures.ok_part c.refused-5.ensures (grind arith)

pub returns-in_err-acl_enable-clause-refused : goal.returns-in_err-acl_enable-clause-refused
unfolding first_broken
returns-in_err-acl_enable-clause-refused c = refused_at (view c.args.file.now) _ c.from_residual-in_err-acl_enable.ensures.1 c.in_err-acl_enable.ensures.value c.in_err-acl_enable.ensures.ok_part c.refused-6.ensures (grind arith)

pub returns-in_err-admin_acl-clause-refused : goal.returns-in_err-admin_acl-clause-refused
unfolding first_broken
returns-in_err-admin_acl-clause-refused c = refused_at (view c.args.file.now) _ c.from_residual-in_err-admin_acl.ensures.1 c.in_err-admin_acl.ensures.value c.in_err-admin_acl.ensures.ok_part c.refused-7.ensures (grind arith)

pub returns-in_err-memory_mb-clause-refused : goal.returns-in_err-memory_mb-clause-refused
unfolding first_broken
returns-in_err-memory_mb-clause-refused c = refused_at (view c.args.file.now) _ c.from_residual-in_err-memory_mb.ensures.1 c.in_err-memory_mb.ensures.value c.in_err-memory_mb.ensures.ok_part c.refused-8.ensures (grind arith)

pub returns-in_err-vcores-clause-refused : goal.returns-in_err-vcores-clause-refused
unfolding first_broken
returns-in_err-vcores-clause-refused c = refused_at (view c.args.file.now) _ c.from_residual-in_err-vcores.ensures.1 c.in_err-vcores.ensures.value c.in_err-vcores.ensures.ok_part c.refused-9.ensures (grind arith)

pub returns-in_err-groups-clause-refused : goal.returns-in_err-groups-clause-refused
unfolding first_broken
returns-in_err-groups-clause-refused c = refused_at (view c.args.file.now) _ c.from_residual-in_err-groups.ensures.1 c.in_err-groups.ensures.value c.in_err-groups.ensures.ok_part c.refused-10.ensures (grind arith)

pub returns-in_err-queues-clause-refused : goal.returns-in_err-queues-clause-refused
unfolding first_broken
returns-in_err-queues-clause-refused c = refused_at (view c.args.file.now) _ c.from_residual-in_err-queues.ensures.1 c.in_err-queues.ensures.value c.in_err-queues.ensures.ok_part c.refused-11.ensures (grind arith)

pub returns-in_err-recover_ended_containers-clause-refused : goal.returns-in_err-recover_ended_containers-clause-refused
unfolding first_broken
returns-in_err-recover_ended_containers-clause-refused c =
    refused_at (view c.args.file.now) _ c.from_residual-in_err-recover_ended_containers.ensures.1 c.in_err-recover_ended_containers.ensures.value c.in_err-recover_ended_containers.ensures.ok_part c.refused-12.ensures (grind arith)

pub returns-clause-read : goal.returns-clause-read
unfolding first_broken
returns-clause-read c = record {
  unbroken = grind arith;
  max_attempts = sym c.max_attempts_of.ensures ∙ c.in_ok-max_attempts.ensures.ok_part;
  max_completed = sym c.max_completed_of.ensures ∙ c.in_ok-max_completed.ensures.ok_part;
  max_apps = sym c.max_apps_of.ensures ∙ c.in_ok-max_apps.ensures.ok_part;
  wait_ms = sym c.wait_ms_of.ensures ∙ c.in_ok-wait_ms.ensures.ok_part ∙ ap Some (sym c.from.ensures);
  acl_enable = sym c.acl_enable_of.ensures ∙ c.in_ok-acl_enable.ensures.ok_part;
  admin_acl = sym c.in_ok-admin_acl_of.ensures ∙ c.in_ok-admin_acl.ensures.ok_part;
  max_memory = sym c.max_memory_of.ensures ∙ c.in_ok-memory_mb.ensures.ok_part;
  max_vcores = sym c.max_vcores_of.ensures ∙ c.in_ok-vcores.ensures.ok_part;
  groups = sym c.in_ok-groups_of.ensures ∙ c.in_ok-groups.ensures.ok_part;
  queues = sym c.in_ok-queues_of.ensures ∙ c.in_ok-queues.ensures.ok_part;
  recover_ended_containers = sym c.recover_ended_containers_of.ensures ∙ c.in_ok-recover_ended_containers.ensures.ok_part;
}

pub returns-clause-in_range : goal.returns-clause-in_range
returns-clause-in_range c = in_range (view c.args.file.now) _ (returns-clause-read c)
