-- Who is called after a hold.
use Rattle.std.proofs.Common.{◌≡◌, Bool, true, false, true≢false, ◌||◌, refl, sym, ◌∙◌}
use Rattle.rm_types.specs.declared.messages.Lane.TheVariants.{Client, Master, Node, Clock, Main, Sched, Hand, Write, End, Begin}
use Rattle.rm_desk.specs.Lanes.{is_ready_at}
use Rattle.rm_desk.specs.View.{DeskView}
use Rattle.rm_workers.specs.declared.called.Called.{Called}
use Rattle.rm_workers.specs.Waking.{CallsReady}

-- each field is as the lanes of its worker are
pub record IsSeen (d : DeskView) (called : Called) : Type 0 where
  pub client : called.client ≡ is_ready_at d Client
  pub master : called.master ≡ is_ready_at d Master
  pub node : called.node ≡ is_ready_at d Node
  pub clock : called.clock ≡ is_ready_at d Clock
  pub main : called.main ≡ is_ready_at d Main
  pub sched : called.sched ≡ is_ready_at d Sched
  pub store : called.store ≡ (is_ready_at d Hand || (is_ready_at d Write || is_ready_at d End))

second : (a b : Bool) → b ≡ true → (a || b) ≡ true
second true b is = refl
second false b is = is

first : (a b : Bool) → a ≡ true → (a || b) ≡ true
first true b is = refl
first false b is = absurd (true≢false (sym is))

pub ready_called : (d : DeskView) (called : Called) → IsSeen d called → CallsReady d called
ready_called d called seen Client is = seen.client ∙ is
ready_called d called seen Master is = seen.master ∙ is
ready_called d called seen Node is = seen.node ∙ is
ready_called d called seen Clock is = seen.clock ∙ is
ready_called d called seen Main is = seen.main ∙ is
ready_called d called seen Sched is = seen.sched ∙ is
ready_called d called seen Hand is = seen.store ∙ first (is_ready_at d Hand) (is_ready_at d Write || is_ready_at d End) is
ready_called d called seen Write is = seen.store ∙ second (is_ready_at d Hand) (is_ready_at d Write || is_ready_at d End) (first (is_ready_at d Write) (is_ready_at d End) is)
ready_called d called seen End is = seen.store ∙ second (is_ready_at d Hand) (is_ready_at d Write || is_ready_at d End) (second (is_ready_at d Write) (is_ready_at d End) is)
ready_called d called seen Begin is = refl
