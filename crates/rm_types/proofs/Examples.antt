-- Worked examples: what the definitions give for values whose outcome is known from outside.
use Rattle.std.specs.Prelude.{◌≡◌, ℕ, true, false, List, [], ◌∷◌, codes, Some, None, refl}
use Rattle.rm_types.specs.declared.containers.Ask.{Ask}
use Rattle.rm_types.specs.declared.containers.Grant.{Grant}
use Rattle.rm_types.specs.declared.ids.AppId.{AppId}
use Rattle.rm_types.specs.declared.ids.AttemptId.{AttemptId}
use Rattle.rm_types.specs.declared.ids.ContainerId.{ContainerId}
use Rattle.rm_types.specs.declared.operations.Submission.{Submission}
use Rattle.rm_types.specs.declared.replies.AclOp.TheVariants.{Submit, Kill}
use Rattle.rm_types.specs.declared.resources.Resource.{Resource}
use Rattle.rm_types.specs.declared.settings.Settings.{Settings}
use Rattle.rm_types.specs.AclTexts.{admits}
use Rattle.rm_types.specs.Passes.{PassNode, by_priority, pass_list}
use Rattle.rm_types.specs.Rights.{parents_of, home, is_leaf, may_submit, may_administer, may_kill, denial}

-- access control lists

pub admits_example-user : admits (codes "alice,bob ops") (codes "bob") [] ≡ true
admits_example-user = refl

pub admits_example-group : admits (codes "alice,bob ops") (codes "carol") (codes "ops" ∷ []) ≡ true
admits_example-group = refl

pub admits_example-group_is_no_user : admits (codes "alice,bob ops") (codes "ops") (codes "alice" ∷ []) ≡ false
admits_example-group_is_no_user = refl

pub admits_example-space : admits (codes " ") (codes "bob") (codes "ops" ∷ []) ≡ false
admits_example-space = refl

pub admits_example-star : admits (codes " * ") (codes "bob") [] ≡ true
admits_example-star = refl

pub admits_example-groups_alone : admits (codes " ops , dev") (codes "ops") (codes "dev" ∷ []) ≡ true
admits_example-groups_alone = refl

pub admits_example-no_users_before_a_space : admits (codes " bob") (codes "bob") [] ≡ false
admits_example-no_users_before_a_space = refl

-- rights: dave submits at the root and alice at `root.dev`, the group `ops` at `root.ops`, and the boss administers all

abbrev settings : Settings
settings = record {
  max_attempts = 2;
  max_completed = 10;
  max_apps = 10;
  wait_ms = 0;
  recover_ended_containers = false;
  acl_enable = true;
  admin_acl = codes "boss";
  greatest = record { memory_mb = 8192; vcores = 8 };
  groups = record { user = codes "carol"; groups = codes "ops" ∷ [] } ∷ [];
  queues =
      record { name = codes "root"; submit = Some (codes "dave"); admin = Some (codes " ") }
      ∷ record { name = codes "root.dev"; submit = Some (codes "alice"); admin = None }
      ∷ record { name = codes "root.ops"; submit = Some (codes " ops"); admin = None }
      ∷ [];
}

abbrev submission_of : List ℕ → Submission
submission_of queue = record {
  user = codes "alice";
  queue = queue;
  name = codes "job";
  master = record { memory_mb = 1024; vcores = 1 };
  attempts = 0;
  keep = false;
  modify = codes "erin";
}

pub parents_of_example : parents_of (codes "root.dev.test") ≡ codes "root.dev" ∷ codes "root" ∷ []
parents_of_example = refl

pub home_example : home settings.queues (codes "root.dev.test") ≡ codes "root.dev"
home_example = refl

pub is_leaf_example-root : is_leaf settings.queues (codes "root") ≡ false
is_leaf_example-root = refl

pub is_leaf_example : is_leaf settings.queues (codes "root.dev") ≡ true
is_leaf_example = refl

pub may_submit_example-alice : may_submit settings (codes "alice") (codes "root.dev") ≡ true
may_submit_example-alice = refl

pub may_submit_example-dave : may_submit settings (codes "dave") (codes "root.dev") ≡ true
may_submit_example-dave = refl

pub may_submit_example-boss : may_submit settings (codes "boss") (codes "root.dev") ≡ true
may_submit_example-boss = refl

pub may_submit_example-bob : may_submit settings (codes "bob") (codes "root.dev") ≡ false
may_submit_example-bob = refl

pub may_submit_example-carol : may_submit settings (codes "carol") (codes "root.ops") ≡ true
may_submit_example-carol = refl

pub may_submit_example-alice_at_ops : may_submit settings (codes "alice") (codes "root.ops") ≡ false
may_submit_example-alice_at_ops = refl

pub may_administer_example-dave : may_administer settings (codes "dave") (codes "root.dev") ≡ false
may_administer_example-dave = refl

pub may_kill_example-bob : may_kill settings (codes "bob") (submission_of (codes "root.dev")) ≡ false
may_kill_example-bob = refl

pub may_kill_example-alice : may_kill settings (codes "alice") (submission_of (codes "root.dev")) ≡ true
may_kill_example-alice = refl

pub may_kill_example-erin : may_kill settings (codes "erin") (submission_of (codes "root.dev")) ≡ true
may_kill_example-erin = refl

pub denial_example-submit : denial Submit settings.queues (codes "root.dev")
    ≡ record { op = Submit; queue = codes "root.dev"; lists = codes "root.dev" ∷ codes "root" ∷ codes "admin" ∷ [] }
denial_example-submit = refl

pub denial_example-kill : denial Kill settings.queues (codes "root.dev.gone")
    ≡ record { op = Kill; queue = codes "root.dev"; lists = codes "root.dev" ∷ codes "root" ∷ codes "admin" ∷ codes "modify" ∷ [] }
denial_example-kill = refl

-- a pass on a node of 4096 MB and 4 cores on which a container of 1024 MB and 1 core stands: of priority 1, 2 of 3
-- containers fit, after which one of 2048 MB doesn't and a later one of 512 MB does

abbrev first_app : AppId
first_app = record { stamp = 1410901177871; number = 1 }

abbrev first_attempt : AttemptId
first_attempt = record { app = first_app; number = 1 }

abbrev container : ℕ → ℕ → ContainerId
container epoch seq = record { attempt = first_attempt; epoch = epoch; seq = seq }

abbrev size : ℕ → ℕ → Resource
size memory_mb vcores = record { memory_mb = memory_mb; vcores = vcores }

abbrev ask : ℕ → ℕ → Resource → Ask
ask priority count size = record { priority = priority; count = count; size = size }

abbrev asks_of : AttemptId → List Ask
asks_of attempt = ask 3 1 (size 512 1) ∷ ask 2 1 (size 2048 1) ∷ ask 1 3 (size 1200 1) ∷ []

abbrev grant : ℕ → Resource → Grant
grant seq size = record { id = container 17 seq; node = codes "n1"; size = size }

abbrev node : PassNode
node = record { node = codes "n1"; capability = size 4096 4; sizes = size 1024 1 ∷ []; epoch = 17 }

pub pass_list_example : pass_list node asks_of (record { attempt = first_attempt; next_seq = 5 } ∷ [])
    ≡ grant 5 (size 1200 1) ∷ grant 6 (size 1200 1) ∷ grant 7 (size 512 1) ∷ []
pass_list_example = refl

-- of asks with one priority the one that was first asked comes first

pub by_priority_example : by_priority (ask 2 1 (size 512 1) ∷ ask 1 1 (size 512 1) ∷ ask 1 2 (size 256 1) ∷ [])
    ≡ ask 1 1 (size 512 1) ∷ ask 1 2 (size 256 1) ∷ ask 2 1 (size 512 1) ∷ []
by_priority_example = refl
