-- A script that was read can be run.
use Rattle.std.proofs.Common.{◌≡◌, ◌⊎◌, inl, inr, ℕ, List, [], ◌∷◌, ◌++◌, refl, sym, subst, arith}
use Rattle.std.specs.Prelude.{All}
use Rattle.std.specs.List.{AllByRecursion}
use Rattle.std.proofs.lemmas.List.Elements.{All-from_recursion, recursion_from_All}
use Rattle.rm_types.specs.declared.containers.Ask.{Ask}
use Rattle.rm_types.specs.declared.containers.Held.{Held}
use Rattle.rm_types.specs.declared.messages.ClientAsk.{ClientAsk}
use Rattle.rm_types.specs.declared.messages.ClientAsk.TheVariants as clients
use Rattle.rm_types.specs.declared.messages.ClockAsk.{ClockAsk}
use Rattle.rm_types.specs.declared.messages.ClockAsk.TheVariants as clocks
use Rattle.rm_types.specs.declared.messages.MasterAsk.{MasterAsk}
use Rattle.rm_types.specs.declared.messages.MasterAsk.TheVariants as masters
use Rattle.rm_types.specs.declared.messages.Message.{Message}
use Rattle.rm_types.specs.declared.messages.Message.TheVariants as messages
use Rattle.rm_types.specs.declared.messages.NodeAsk.{NodeAsk}
use Rattle.rm_types.specs.declared.messages.NodeAsk.TheVariants as nodes
use Rattle.rm_types.specs.declared.resources.Resource.{Resource}
use Rattle.rm_types.specs.declared.scripts.Close.{Close}
use Rattle.rm_types.specs.declared.scripts.Close.TheVariants.{Settle, Crash}
use Rattle.rm_types.specs.declared.scripts.Life.{Life}
use Rattle.rm_types.specs.declared.scripts.Segment.{Segment}
use Rattle.rm_types.specs.declared.scripts.Script.{Script}
use Rattle.rm_types.specs.declared.operations.Submission.{Submission}
use Rattle.rm_types.specs.declared.texts.TextKind.TheVariants.{Name}
use Rattle.rm_types.specs.Ranges.{IsText, IsSubmission as IsFramedSubmission}
use Rattle.rm_invariant.specs.messages.Ranges.{IsClientAsk, IsClockAsk, IsMasterAsk, IsMessage, IsNodeAsk}
use Rattle.rm_types.specs.Messages.{IsSize, IsSize as IsReadSize, IsList, IsList as IsReadList, IsHeld, IsHeld as IsReadHeld, IsAsk, IsAsk as IsReadAsk}
use Rattle.rm_script.specs.Messages.{IsScriptClientAsk as IsReadClientAsk, IsScriptClockAsk as IsReadClockAsk, IsScriptMasterAsk as IsReadMasterAsk, IsScriptNodeAsk as IsReadNodeAsk, IsScriptSubmission}
use Rattle.rm_script.specs.Scripts.{IsScript, IsReadMessage, EachButLast}
use Rattle.rm_script.specs.Values.{ClosesSettled, EndInCrash, IsToldLife, IsToldScript}
use Rattle.rm_script.proofs.Values.{told_values}
use Rattle.rm_desk.specs.Scripts.{AllServed, Closes, CanFollow, CanGoAlong, EndsInCrash, CanLive, AllLive}

-- what is submitted can be kept
framed : (user : List ℕ) (submission : Submission) → IsText Name user → IsScriptSubmission user submission → IsFramedSubmission submission
framed user submission name h =
    record {
      user = subst (IsText Name) (sym h.by_user) name;
      queue = h.queue;
      name = h.name;
      memory_mb = h.memory;
      vcores = h.vcores;
      attempts = h.attempts;
      modify = h.modify;
    }

-- what the reader of scripts says of a message is what a manager takes
sized : (size : Resource) → IsReadSize size → IsSize size
sized size is = record { memory = is.memory; vcores = is.vcores }

every : {X : Type 0} {P Q : X → Type 0} → ((x : X) → P x → Q x) → (xs : List X) → All P xs → All Q xs
every {X = X} {P = P} {Q = Q} f xs all = All-from_recursion Q xs (by xs (recursion_from_All P xs all))
  where
    by : (list : List X) → AllByRecursion P list → AllByRecursion Q list
    by [] each = tt
    by (x ∷ list) each = (f x each.0, by list each.1)

listed : {X : Type 0} {P Q : X → Type 0} → ((x : X) → P x → Q x) → (xs : List X) → IsReadList P xs → IsList Q xs
listed f xs is = record { few = is.few; each = every f xs is.each }

held : (one : Held) → IsReadHeld one → IsHeld one
held one is = record { id = is.id; size = sized one.size is.size }

asked : (ask : Ask) → IsReadAsk ask → IsAsk ask
asked ask is = record { priority = is.priority; count = is.count; size = sized ask.size is.size }

client_served : (user : List ℕ) (ask : ClientAsk) → IsText Name user → IsReadClientAsk user ask → IsClientAsk ask
client_served user clients.New name values = tt
client_served user (clients.Submit id submission) name values = (values.0, framed user submission name values.1)
client_served user (clients.Report id) name values = tt
client_served user (clients.Kill id) name values = tt

master_served : (ask : MasterAsk) → IsReadMasterAsk ask → IsMasterAsk ask
master_served masters.Register is = tt
master_served (masters.Finish text) is = is.note
master_served (masters.Allocate id asks release) is = (is.0.1, listed asked asks is.1, listed (λ one h. h) release is.2)

node_served : (ask : NodeAsk) → IsReadNodeAsk ask → IsNodeAsk ask
node_served (nodes.Register turn capability running) is = (sized capability is.1, listed held running is.2)
node_served (nodes.Beat id running done) is = (is.0.1, listed held running is.1, listed (λ one h. h) done is.2)

clock_served : (ask : ClockAsk) → IsReadClockAsk ask → IsClockAsk ask
clock_served (clocks.Tick time) is = is.1
clock_served (clocks.ExpireNode node) is = tt
clock_served (clocks.ExpireMaster attempt) is = tt

message_served : (message : Message) → IsReadMessage message → IsMessage message
message_served (messages.Client user ask) h = client_served user ask h.0 h.1
message_served (messages.Master attempt ask) h = master_served ask h.1
message_served (messages.Node node ask) h = (h.0, node_served ask h.1)
message_served (messages.Clock ask) h = clock_served ask h

all_served : (messages : List Message) → AllByRecursion IsReadMessage messages → AllServed messages
all_served [] h = tt
all_served (message ∷ more) h = (message_served message h.0, all_served more h.1)

abbrev AreRead : Segment → Type 0
AreRead segment = All IsReadMessage segment.messages

closes : (more : List Segment) (close : Close) → close ≡ Settle → Closes close more
closes more Settle h = tt
closes more (Crash calls image) h = absurd (cc)

-- segments that settle, with such a one before those that can follow
settling_follows : (segment : Segment) (more : List Segment) → AreRead segment → ClosesSettled segment → CanFollow more → CanFollow (segment ∷ more)
settling_follows segment more read settles follows =
    (all_served segment.messages (recursion_from_All IsReadMessage segment.messages read), closes more segment.close settles, follows)

settled_follow : (segments : List Segment) → AllByRecursion AreRead segments → AllByRecursion ClosesSettled segments → CanFollow segments
settled_follow [] read settle = tt
settled_follow (segment ∷ more) read settle = settling_follows segment more read.0 settle.0 (settled_follow more read.1 settle.1)

abbrev crash_of : List Message → ℕ → ℕ → Segment
crash_of messages calls image = record { messages = messages; close = Crash calls image }

crashed_follow : (before : List Segment) (messages : List Message) (calls image : ℕ) → AllByRecursion AreRead (before ++ crash_of messages calls image ∷ []) → AllByRecursion ClosesSettled before
    → CanFollow (before ++ crash_of messages calls image ∷ [])
crashed_follow [] messages calls image read settle = (all_served messages (recursion_from_All IsReadMessage messages read.0), refl, tt)
crashed_follow (segment ∷ before) messages calls image read settle =
    settling_follows segment (before ++ crash_of messages calls image ∷ []) read.0 settle.0 (crashed_follow before messages calls image read.1 settle.1)

last_crashes : (before : List Segment) (messages : List Message) (calls image : ℕ) → EndsInCrash (before ++ crash_of messages calls image ∷ [])
last_crashes [] messages calls image = tt
last_crashes (segment ∷ []) messages calls image = tt
last_crashes (segment ∷ next ∷ before) messages calls image = last_crashes (next ∷ before) messages calls image

ends : (segments : List Segment) → EndInCrash segments → EndsInCrash segments
ends segments h = subst EndsInCrash (sym h.apart) (last_crashes h.before h.messages h.calls h.image)

follow : (segments : List Segment) → AllByRecursion AreRead segments → All ClosesSettled segments ⊎ EndInCrash segments → CanFollow segments
follow segments read h =
    elim h [
      | inl settle ↦ settled_follow segments read (recursion_from_All ClosesSettled segments settle)
      | inr crash ↦
          subst CanFollow (sym crash.apart)
          (crashed_follow crash.before crash.messages crash.calls crash.image (subst (AllByRecursion AreRead) crash.apart read) (recursion_from_All ClosesSettled crash.before crash.settle))
    ]

can_live : (life : Life) → IsToldLife life → CanLive life
can_live life h =
    record {
      low = omega (arith, h.stamp);
      high = omega (arith, h.stamp);
      segments = follow life.segments (recursion_from_All AreRead life.segments h.messages) h.closes;
      few = omega (arith, h.few);
    }

abbrev CrashesSo : Life → Type 0
CrashesSo life = EndInCrash life.segments

all_live : (lives : List Life) → AllByRecursion IsToldLife lives → EachButLast CrashesSo lives → AllLive lives
all_live [] each crash = tt
all_live (life ∷ []) each crash = (can_live life each.0, λ more. absurd (more refl), tt)
all_live (life ∷ next ∷ lives) each crash = (can_live life each.0, λ more. ends life.segments crash.0, all_live (next ∷ lives) each.1 crash.1)

pub can_be_run : (script : Script) → IsToldScript script → CanGoAlong script
can_be_run script told = record { lives = all_live script.lives (recursion_from_All IsToldLife script.lives told.each) told.crash }

pub can_run : (bytes : List ℕ) (script : Script) → IsScript bytes script → CanGoAlong script
can_run bytes script h = can_be_run script (told_values bytes script h)
