-- Tests of which one is to pass, and the parts of a node.
use Rattle.std.proofs.Common.{◌≡◌, ℕ, Bool, true, false, not, ◌||◌, List, Option, sym, ap, ◌∙◌}
use Rattle.std.proofs.lemmas.Bool.{or_left, or_right}
use Rattle.rm_types.specs.declared.settings.QueueSpec.{QueueSpec}
use Rattle.rm_queues.specs.Acls.{AclMeaning}
use Rattle.rm_queues.specs.Trees.{queue_node}
use Rattle.rm_queues.specs.declared.nodes.Node.{Node}

-- what is on, and doesn't pass the first test, passes by the second
pub on_and_second : (on first second answer : Bool) → on ≡ true → first ≡ false → answer ≡ second → answer ≡ (not on || (first || second))
on_and_second on first second answer is_on fails is = is ∙ sym (ap (λ t. not t || (first || second)) is_on ∙ ap (λ t. t || second) fails)

-- the second of three tests passes
pub second_passes : (first second third : Bool) → second ≡ true → true ≡ (first || second || third)
second_passes first second third passes = sym (or_left (first || second) third (or_right first second passes))

-- only the last of three tests may pass
pub third_decides : (first second third answer : Bool) → first ≡ false → second ≡ false → answer ≡ third → answer ≡ (first || second || third)
third_decides first second third answer first_fails second_fails is =
    is ∙ sym (ap (λ t. t || second || third) first_fails ∙ ap (λ t. t || third) second_fails)

-- a node is that of a queue by its parts
pub node_by_parts : (queues : List QueueSpec) (queue : QueueSpec) (parent : Option ℕ) (is_leaf : Bool) (submit admin : AclMeaning)
    → parent ≡ (queue_node queues queue).parent → is_leaf ≡ (queue_node queues queue).is_leaf → submit ≡ (queue_node queues queue).submit → admin ≡ (queue_node queues queue).admin
    → ◌≡◌ {A = Node} (record { parent = parent; is_leaf = is_leaf; submit = submit; admin = admin }) (queue_node queues queue)
node_by_parts queues queue parent is_leaf submit admin parents leaves submits admins =
    ap (λ p. record { parent = p; is_leaf = is_leaf; submit = submit; admin = admin }) parents
    ∙ ap (λ l. record { parent = (queue_node queues queue).parent; is_leaf = l; submit = submit; admin = admin }) leaves
    ∙ ap (λ s. record { parent = (queue_node queues queue).parent; is_leaf = (queue_node queues queue).is_leaf; submit = s; admin = admin }) submits
    ∙ ap (λ a. record { parent = (queue_node queues queue).parent; is_leaf = (queue_node queues queue).is_leaf; submit = (queue_node queues queue).submit; admin = a }) admins
