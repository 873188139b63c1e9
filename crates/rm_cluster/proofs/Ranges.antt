-- The settings of a file stand in their ranges.
use Rattle.std.proofs.Common.{◌≡◌, ◌≤◌, ◌&&◌, ℕ, List, [], ◌∷◌, Bool, true, false, cond, leb, Option, Some, None, refl, ap, subst, arith, lit≤}
use Rattle.std.proofs.lemmas.Bool.Decides.{nat_tests}
use Rattle.std.proofs.lemmas.List.Elements.{All-nil, All-cons}
use Rattle.std.proofs.lemmas.Option.{option_and_then_some}
use Rattle.std.specs.Prelude.{All, codes, is_some, length, option_map, option_and_then}
use Rattle.std.specs.Option.{option_map_or}
use Rattle.serde_json.specs.Data.{Data, Items, no_items, item, Members, no_members, member}
use Rattle.serde_json.specs.Find.{get, as_number, as_str, as_array, as_object, as_u64}
use Rattle.rm_types.specs.Ranges.{IsText, IsWithin}
use Rattle.rm_types.specs.Texts.{fault_of}
use Rattle.rm_types.specs.declared.settings.QueueSpec.{QueueSpec}
use Rattle.rm_types.specs.declared.settings.Settings.{Settings}
use Rattle.rm_types.specs.declared.settings.UserGroups.{UserGroups}
use Rattle.rm_types.specs.declared.texts.TextKind.{TextKind}
use Rattle.rm_types.specs.declared.texts.TextKind.TheVariants.{Name, AclText, Queue}
use Rattle.rm_types.specs.Limits.{greatest_attempts, greatest_memory_mb, greatest_vcores}
use Rattle.rm_cluster.specs.Limits.{longest_wait_ms, most_apps, most_completed, most_queues}
use Rattle.rm_cluster.specs.Readings.{number_within, text_of, string_of, names_of, name_list_of, user_of, users_read, user_groups_of}
use Rattle.rm_cluster.specs.Rules.{max_attempts_of, max_completed_of, max_apps_of, wait_ms_of, admin_acl_of, max_memory_of, max_vcores_of, groups_of, queues_of, bare_queue, default_queues, IsSettingsOf}
use Rattle.rm_cluster.specs.Queues.{has_queue_keys, is_tree, list_at, name_of, queue_list_of, queue_of, queue_tree_of, queue_with, some_list_of}
use Rattle.rm_cluster.specs.Ranges.{AreQueues, HasNames, HasTexts, SettingsInRange, IsAclList}

-- what holds of each value that a reading gives, and of the value for an absent key, holds of what stands at the key
kept_at_key : {A : Type 0} (P : A → Type 0) (reading : Data → Option A) (absent : A) (found : Option Data) (a : A)
    → ((value : Data) (b : A) → reading value ≡ Some b → P b) → P absent → option_map_or reading found (Some absent) ≡ Some a → P a
kept_at_key P reading absent None a each default e = let same : absent ≡ a = cc in subst P same default
kept_at_key P reading absent (Some value) a each default e = each value a e

-- a value that is read under a test: the test passed
of_test : {A : Type 0} (test : Bool) (m n : A) → cond test (Some m) None ≡ Some n → (test ≡ true) × (m ≡ n)
of_test true m n e = (refl, cc)
of_test false m n e = absurd cc

-- ---- numbers

within : (least greatest : ℕ) (value : Data) (n : ℕ) → number_within least greatest value ≡ Some n → IsWithin least greatest n
unfolding number_within
within least greatest value n e = option_and_then_some _ (option_and_then as_u64 (as_number value)) n e (λ m found is. each m n is)
  where
    each : (m n : ℕ) → cond (leb least m && leb m greatest) (Some m) None ≡ Some n → IsWithin least greatest n
    each m n e =
        let both = of_test (leb least m && leb m greatest) m n e in
        let low : least ≤ m = grind (arith, nat_tests) in
        let high : m ≤ greatest = grind (arith, nat_tests) in
        (omega arith, omega arith)

-- ---- texts

of_fault : (fault : Option ℕ) (bytes text : List ℕ) → cond (is_some fault) None (Some bytes) ≡ Some text → (fault ≡ None) × (bytes ≡ text)
of_fault None bytes text e = (refl, cc)
of_fault (Some place) bytes text e = absurd cc

text_is : (kind : TextKind) (bytes text : List ℕ) → text_of kind bytes ≡ Some text → IsText kind text
unfolding text_of
text_is kind bytes text e = let both = of_fault (fault_of kind bytes) bytes text e in rw (← both.1) both.0

string_is : (kind : TextKind) (value : Data) (text : List ℕ) → string_of kind value ≡ Some text → IsText kind text
unfolding string_of
string_is kind value text e = option_and_then_some (text_of kind) (as_str value) text e (λ bytes found is. text_is kind bytes text is)

-- ---- lists of what is read one after another

-- what holds of one that is read and of all that are read behind it holds of all
kept_by_cons : {A : Type 0} (P : A → Type 0) (first : Option A) (rest : Option (List A)) (all : List A)
    → ((one : A) → first ≡ Some one → P one) → ((more : List A) → rest ≡ Some more → All P more)
    → option_and_then (λ one. option_map (λ more. one ∷ more) rest) first ≡ Some all → All P all
kept_by_cons P None rest all is are e = absurd cc
kept_by_cons P (Some one) None all is are e = absurd cc
kept_by_cons P (Some one) (Some more) all is are e =
    let same : one ∷ more ≡ all = cc in subst (All P) same (All-cons P one more (is one refl) (are more refl))

-- it holds of none
kept_by_nil : {A : Type 0} (P : A → Type 0) (all : List A) → Some [] ≡ Some all → All P all
kept_by_nil P all e = let same : [] ≡ all = cc in subst (All P) same (All-nil P)

names_are : (values : Items) (names : List (List ℕ)) → names_of values ≡ Some names → All (IsText Name) names
names_are no_items names e = kept_by_nil (IsText Name) names e
names_are (item value values) names e = kept_by_cons (IsText Name) (string_of Name value) (names_of values) names (string_is Name value) (names_are values) e

name_list_is : (value : Data) (names : List (List ℕ)) → name_list_of value ≡ Some names → All (IsText Name) names
unfolding name_list_of
name_list_is value names e = option_and_then_some names_of (as_array value) names e (λ values found is. names_are values names is)

of_user : (name : Option (List ℕ)) (list : Option (List (List ℕ))) (user : UserGroups)
    → option_and_then (λ one. option_map (λ groups. record { user = one; groups = groups }) list) name ≡ Some user
    → (name ≡ Some user.user) × (list ≡ Some user.groups)
of_user None list user e = absurd cc
of_user (Some one) None user e = absurd cc
of_user (Some one) (Some groups) user e = let same : record { user = one; groups = groups } ≡ user = cc in (ap (λ u. Some u.user) same, ap (λ u. Some u.groups) same)

user_is : (key : List ℕ) (value : Data) (user : UserGroups) → user_of key value ≡ Some user → HasNames user
unfolding user_of
user_is key value user e =
    let parts = of_user (text_of Name key) (name_list_of value) user e in
    record { user = text_is Name key user.user parts.0; groups = name_list_is value user.groups parts.1 }

users_are : (members : Members) (users : List UserGroups) → users_read members ≡ Some users → All HasNames users
users_are no_members users e = kept_by_nil HasNames users e
users_are (member key value members) users e = kept_by_cons HasNames (user_of key value) (users_read members) users (user_is key value) (users_are members) e

groups_are : (value : Data) (users : List UserGroups) → user_groups_of value ≡ Some users → All HasNames users
unfolding user_groups_of
groups_are value users e = option_and_then_some users_read (as_object value) users e (λ members found is. users_are members users is)

-- ---- queues

list_found : (found : Option (List ℕ)) (list : Option (List ℕ)) → ((text : List ℕ) → found ≡ Some text → IsText AclText text) → option_map (λ text. Some text) found ≡ Some list → IsAclList list
list_found None list is e = absurd cc
list_found (Some text) list is e = let same : Some text ≡ list = cc in subst IsAclList same (is text refl)

list_is : (value : Data) (list : Option (List ℕ)) → some_list_of value ≡ Some list → IsAclList list
unfolding some_list_of
list_is value list e = list_found (string_of AclText value) list (string_is AclText value) e

list_at_is : (key : List ℕ) (value : Data) (list : Option (List ℕ)) → list_at key value ≡ Some list → IsAclList list
unfolding list_at
list_at_is key value list e = kept_at_key IsAclList _ _ _ _ list_is tt e

of_queue : (name : Option (List ℕ)) (submit admin : Option (Option (List ℕ))) (queue : QueueSpec) → option_and_then (λ one. queue_with one submit admin) name ≡ Some queue
    → (name ≡ Some queue.name) × (submit ≡ Some queue.submit) × (admin ≡ Some queue.admin)
of_queue None submit admin queue e = absurd cc
of_queue (Some one) None admin queue e = absurd cc
of_queue (Some one) (Some submit) None queue e = absurd cc
of_queue (Some one) (Some submit) (Some admin) queue e =
    let same : record { name = one; submit = submit; admin = admin } ≡ queue = cc in
    (ap (λ q. Some q.name) same, ap (λ q. Some q.submit) same, ap (λ q. Some q.admin) same)

name_is : (value : Data) (name : List ℕ) → name_of value ≡ Some name → IsText Queue name
unfolding name_of
name_is value name e = option_and_then_some (string_of Queue) (get (codes "name") value) name e (λ one found is. string_is Queue one name is)

queue_found : (passes : Bool) (name : Option (List ℕ)) (submit admin : Option (Option (List ℕ))) (queue : QueueSpec)
    → cond passes (option_and_then (λ one. queue_with one submit admin) name) None ≡ Some queue → option_and_then (λ one. queue_with one submit admin) name ≡ Some queue
queue_found true name submit admin queue e = e
queue_found false name submit admin queue e = absurd cc

queue_is : (value : Data) (queue : QueueSpec) → queue_of value ≡ Some queue → HasTexts queue
unfolding queue_of
queue_is value queue e =
    let parts = of_queue (name_of value) (list_at (codes "submit") value) (list_at (codes "admin") value) queue
    (queue_found (has_queue_keys value) (name_of value) (list_at (codes "submit") value) (list_at (codes "admin") value) queue e) in
    record {
      name = name_is value queue.name parts.0;
      submit = list_at_is (codes "submit") value queue.submit parts.1;
      admin = list_at_is (codes "admin") value queue.admin parts.2;
    }

queues_are : (values : Items) (queues : List QueueSpec) → queue_list_of values ≡ Some queues → All HasTexts queues
queues_are no_items queues e = kept_by_nil HasTexts queues e
queues_are (item value values) queues e = kept_by_cons HasTexts (queue_of value) (queue_list_of values) queues (queue_is value) (queues_are values) e

-- queues that are read under the tests of a tree are few, and a tree
tree_of : (queues tree : List QueueSpec) → All HasTexts queues → cond (leb (length queues) most_queues && is_tree queues) (Some queues) None ≡ Some tree → AreQueues tree
tree_of queues tree texts e =
    let both = of_test (leb (length queues) most_queues && is_tree queues) queues tree e in
    let few : leb (length queues) most_queues ≡ true = grind arith in
    let tested : is_tree queues ≡ true = grind arith in
    let within : length queues ≤ most_queues = grind (arith, nat_tests) in
    subst AreQueues both.1 (record { few = within; texts = texts; tree = tested })

tree_is : (value : Data) (tree : List QueueSpec) → queue_tree_of value ≡ Some tree → AreQueues tree
unfolding queue_tree_of
tree_is value tree e =
    option_and_then_some _ (option_and_then queue_list_of (as_array value)) tree e
    (λ queues found is. tree_of queues tree (option_and_then_some queue_list_of (as_array value) queues found (λ values there are. queues_are values queues are)) is)

default_are : AreQueues default_queues
default_are = record {
  few = lit≤ tt;
  texts = All-cons HasTexts (bare_queue (codes "root")) (bare_queue (codes "root.default") ∷ []) (record { name = refl; submit = tt; admin = tt })
      (All-cons HasTexts (bare_queue (codes "root.default")) [] (record { name = refl; submit = tt; admin = tt }) (All-nil HasTexts));
  tree = refl;
}

-- ---- the settings

pub in_range : (file : Data) (settings : Settings) → IsSettingsOf file settings → SettingsInRange settings
unfolding max_attempts_of max_completed_of max_apps_of wait_ms_of admin_acl_of max_memory_of max_vcores_of groups_of queues_of
in_range file settings kept = record {
  max_attempts = kept_at_key (IsWithin 1 greatest_attempts) _ _ _ _ (within 1 greatest_attempts) (lit≤ tt, lit≤ tt) kept.max_attempts;
  max_completed = kept_at_key (IsWithin 0 most_completed) _ _ _ _ (within 0 most_completed) (lit≤ tt, lit≤ tt) kept.max_completed;
  max_apps = kept_at_key (IsWithin 1 most_apps) _ _ _ _ (within 1 most_apps) (lit≤ tt, lit≤ tt) kept.max_apps;
  wait_ms = kept_at_key (IsWithin 0 longest_wait_ms) _ _ _ _ (within 0 longest_wait_ms) (lit≤ tt, lit≤ tt) kept.wait_ms;
  admin_acl = kept_at_key (IsText AclText) _ _ _ _ (string_is AclText) refl kept.admin_acl;
  max_memory = kept_at_key (IsWithin 1 greatest_memory_mb) _ _ _ _ (within 1 greatest_memory_mb) (lit≤ tt, lit≤ tt) kept.max_memory;
  max_vcores = kept_at_key (IsWithin 1 greatest_vcores) _ _ _ _ (within 1 greatest_vcores) (lit≤ tt, lit≤ tt) kept.max_vcores;
  groups = kept_at_key (All HasNames) _ _ _ _ groups_are (All-nil HasNames) kept.groups;
  queues = kept_at_key AreQueues _ _ _ _ tree_is default_are kept.queues;
}
