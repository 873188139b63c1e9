-- The law of ends: what entries tell of an end, and that it stays.
use Rattle.rm_laws.proofs.Common.{◌≡◌, ℕ, List, [], ◌∷◌, ◌++◌, Bool, true, false, ◌||◌, ◌&&◌, not, if◌then◌else◌, Option, None, Some, is_some, refl, sym, ap, subst, arith, ◌∙◌, Entry, Opened, Served, AppId, Register, Finish, Allocate, How, Op, Submission, Settings, records, LifeState, Manager, Scene, scene, opening_state, is_app_op, submission_of, is_registered, Allowed, after, after_all, AllAllowed}
use Rattle.rm_types.specs.declared.messages.ClientAsk.TheVariants.{New as AskNew, Submit as AskSubmit, Report as AskReport, Kill as AskKill}
use Rattle.rm_types.specs.declared.messages.Message.TheVariants.{Client as FromClient, Master as FromMaster, Node as FromNode, Clock as FromClock}
use Rattle.rm_types.specs.declared.operations.How.TheVariants as ways
use Rattle.rm_types.specs.declared.replies.Denial.{Denial}
use Rattle.rm_types.specs.declared.replies.Reply.TheVariants as replies
use Rattle.rm_types.specs.declared.replies.Report.{Report}
use Rattle.rm_types.specs.declared.replies.StateWord.{StateWord}
use Rattle.rm_types.specs.declared.replies.StateWord.TheVariants as states
use Rattle.rm_types.specs.Lists.{is_nil}
use Rattle.rm_model.specs.Facts.{awaits, is_accepted, is_kept, kept_attempts, kept_end}
use Rattle.rm_model.specs.Attempts.{is_last, is_finishing}
use Rattle.rm_model.specs.ClientReplies.{end_text, end_word, going_word, is_running, kill_reply, report_of, state_word}
use Rattle.rm_model.specs.MasterReplies.{finished_issued}
use Rattle.rm_laws.specs.Laws.{EndsStay, Passage, ReportsNext, IsRemembered, entry_ended, is_final_word, told_by}
use Rattle.rm_laws.proofs.Phases.{state}
use Rattle.rm_laws.proofs.Recorded.{none_removed}
use Rattle.rm_laws.proofs.Told.{some_pair, some_same, tells_same}
use Rattle.rm_laws.proofs.Endings.{OneEnd, at_most_one, end_of}
use Rattle.rm_laws.proofs.Ends.{log_end, step}
use Rattle.rm_laws.proofs.Walks.{front_allowed, goes_on, walk}

-- an application that goes on has no final word
going_on : (running accepted kept awaits : Bool) → is_final_word (if running then states.Running else (if accepted then states.Accepted else (if kept then states.Submitted else (if awaits then states.NewSaving else states.New)))) ≡ true → ⊥
going_on true accepted kept awaits h = cc
going_on false true kept awaits h = cc
going_on false false true awaits h = cc
going_on false false false true h = cc
going_on false false false false h = cc

-- what a report says of an end: where it has a final word there is one, and it says its word and text
pub record SaysEnd (report : Report) (ending : How × List ℕ) : Type 0 where
  pub word : report.state ≡ end_word ending.0
  pub text : report.text ≡ ending.1

final_end : (how : How) → is_final_word (end_word how) ≡ true
final_end ways.Finished = refl
final_end ways.Failed = refl
final_end ways.Killed = refl

module _ (m : Scene) (id : AppId) where
  by_end : (report : Report) (o : Option Submission) → replies.Report report ≡ report_of m id o → (report.state ≡ state_word m id (kept_end m id)) × (report.text ≡ end_text (kept_end m id))
  by_end report None is = cc
  by_end report (Some submission) is = let same = tells_same report _ is in (ap (λ (r : Report). r.state) same, ap (λ (r : Report). r.text) same)

  -- an answered report
  by_answer : (report : Report) (b : Bool) → replies.Report report ≡ (if b then report_of m id (submission_of m id) else replies.NotOpen) → (report.state ≡ state_word m id (kept_end m id)) × (report.text ≡ end_text (kept_end m id))
  by_answer report false is = cc
  by_answer report true is = by_end report (submission_of m id) is

  -- where there is an end, it says this one
  with_end : (report : Report) (ending : How × List ℕ) → kept_end m id ≡ Some ending → (report.state ≡ state_word m id (kept_end m id)) × (report.text ≡ end_text (kept_end m id)) → SaysEnd report ending
  with_end report ending ended says =
      record {
        word = says.0 ∙ ap (λ (o : Option (How × List ℕ)). state_word m id o) ended;
        text = says.1 ∙ ap (λ (o : Option (How × List ℕ)). end_text o) ended;
      }

  -- where its word is final, there is one
  some_end : (report : Report) (o : Option (How × List ℕ)) → kept_end m id ≡ o → report.state ≡ state_word m id (kept_end m id) → is_final_word report.state ≡ true → is_some o ≡ true
  some_end report None none says final =
      let word : is_final_word (going_word m id) ≡ true = ap (λ (x : Option (How × List ℕ)). is_final_word (state_word m id x)) (sym none) ∙ ap (λ (x : StateWord). is_final_word x) (sym says) ∙ final in
      absurd (going_on (is_running m id) (is_accepted m id || not (is_nil (kept_attempts m id))) (is_kept m id) (awaits m (is_app_op id)) word)
  some_end report (Some ending) some says final = refl

ending_of : (o : Option (How × List ℕ)) → is_some o ≡ true → (ending : How × List ℕ) × (o ≡ Some ending)
ending_of None h = cc
ending_of (Some ending) h = (ending, refl)

-- what an entry tells of an application
tells_end : (settings : Settings) (kept awaiting : List Op) (blew : Bool) (life : Option LifeState) (e : Entry) → Allowed settings (state kept awaiting blew life) e
    → (id : AppId) (report : Report) → told_by e ≡ Some (id, report) → (ending : How × List ℕ) → end_of (records kept).apps id ≡ Some ending → SaysEnd report ending
tells_end settings kept awaiting blew None (Opened landed epoch stamp) may id report tells ending ended = cc
tells_end settings kept awaiting blew None _ may id report tells ending ended = absurd may
tells_end settings kept awaiting blew (Some life) (Served sender (FromClient user (AskReport one)) (replies.Report other)) may id report tells ending ended =
    let same = some_pair one id other report tells in
    let m = scene (state kept awaiting blew (Some life)) life in
    let says = by_answer m one other life.is_open may.answers in
    subst (λ (r : Report). SaysEnd r ending) same.1
    (with_end m one other ending (ap (λ (i : AppId). end_of (records kept).apps i) same.0 ∙ ended) says)
tells_end settings kept awaiting blew (Some life) (Served sender (FromClient user (AskReport one)) reply) may id report tells ending ended = cc
tells_end settings kept awaiting blew (Some life) (Served sender (FromClient user AskNew) reply) may id report tells ending ended = cc
tells_end settings kept awaiting blew (Some life) (Served sender (FromClient user (AskSubmit one submission)) reply) may id report tells ending ended = cc
tells_end settings kept awaiting blew (Some life) (Served sender (FromClient user (AskKill one)) reply) may id report tells ending ended = cc
tells_end settings kept awaiting blew (Some life) (Served sender message reply) may id report tells ending ended = cc
tells_end settings kept awaiting blew (Some life) e may id report tells ending ended = cc

kill_ended : (settings : Settings) (m : Scene) (user : List ℕ) (id : AppId) (b : Bool) (o : Option Submission) → replies.AppEnded ≡ (if b then kill_reply settings m user id o else replies.NotOpen)
    → is_some (kept_end m id) ≡ true
kill_ended settings m user id false o is = cc
kill_ended settings m user id true None is = cc
kill_ended settings m user id true (Some submission) is = go _ (not _) (is_some (kept_end m id)) is
  where
    go : (d : Denial) (a b : Bool) → replies.AppEnded ≡ (if a then replies.Denied d else (if b then replies.AppEnded else replies.Killing)) → b ≡ true
    go d true b h = cc
    go d false true h = refl
    go d false false h = cc

finish_ended : (ended is_last waits : Bool) → replies.Finished ≡ (if ended && is_last then replies.Finished else (if waits then replies.Finishing else replies.NotRegistered)) → ended ≡ true
finish_ended true is_last waits h = refl
finish_ended false is_last true h = cc
finish_ended false is_last false h = cc

open_finish : (m : Scene) (id : AppId) (b ended is_last waits : Bool) → replies.Finished ≡ (if b then (if ended && is_last then replies.Finished else (if waits then replies.Finishing else replies.NotRegistered)) else replies.NotOpen)
    → ended ≡ true
open_finish m id false ended is_last waits h = cc
open_finish m id true ended is_last waits h = finish_ended ended is_last waits h

some_id : (a b : AppId) (final : Bool) → (let o : Option AppId = elim final [ true ↦ Some a | false ↦ None ] in o) ≡ Some b → (a ≡ b) × (final ≡ true)
some_id a b true h = (some_same h, refl)
some_id a b false h = cc

-- what an entry tells has ended has an end
told_ended : (settings : Settings) (kept awaiting : List Op) (blew : Bool) (life : Option LifeState) (e : Entry) → Allowed settings (state kept awaiting blew life) e
    → (id : AppId) → entry_ended e ≡ Some id → is_some (end_of (records kept).apps id) ≡ true
told_ended settings kept awaiting blew None (Opened landed epoch stamp) may id tells = cc
told_ended settings kept awaiting blew None _ may id tells = absurd may
told_ended settings kept awaiting blew (Some life) (Served sender (FromClient user (AskReport one)) (replies.Report report)) may id tells =
    let m = scene (state kept awaiting blew (Some life)) life in
    let same = some_id one id (is_final_word report.state) tells in
    let says = by_answer m one report life.is_open may.answers in
    subst (λ (i : AppId). is_some (end_of (records kept).apps i) ≡ true) same.0 (some_end m one report (kept_end m one) refl says.0 same.1)
told_ended settings kept awaiting blew (Some life) (Served sender (FromClient user (AskReport one)) reply) may id tells = cc
told_ended settings kept awaiting blew (Some life) (Served sender (FromClient user (AskKill one)) replies.AppEnded) may id tells =
    let m = scene (state kept awaiting blew (Some life)) life in
    subst (λ (i : AppId). is_some (end_of (records kept).apps i) ≡ true) (some_same tells) (kill_ended settings m user one life.is_open (submission_of m one) may.answers)
told_ended settings kept awaiting blew (Some life) (Served sender (FromClient user (AskKill one)) reply) may id tells = cc
told_ended settings kept awaiting blew (Some life) (Served sender (FromClient user AskNew) reply) may id tells = cc
told_ended settings kept awaiting blew (Some life) (Served sender (FromClient user (AskSubmit one submission)) reply) may id tells = cc
told_ended settings kept awaiting blew (Some life) (Served sender (FromMaster attempt (Finish text)) replies.Finished) may id tells =
    let m = scene (state kept awaiting blew (Some life)) life in
    subst (λ (i : AppId). is_some (end_of (records kept).apps i) ≡ true) (some_same tells)
    (open_finish m attempt.app life.is_open (is_some (kept_end m attempt.app)) (is_last m attempt) (is_finishing m attempt || finished_issued m attempt || is_registered m attempt) may.answers)
told_ended settings kept awaiting blew (Some life) (Served sender (FromMaster attempt (Finish text)) reply) may id tells = cc
told_ended settings kept awaiting blew (Some life) (Served sender (FromMaster attempt Register) reply) may id tells = cc
told_ended settings kept awaiting blew (Some life) (Served sender (FromMaster attempt (Allocate ask asks release)) reply) may id tells = cc
told_ended settings kept awaiting blew (Some life) (Served sender (FromNode name ask) reply) may id tells = cc
told_ended settings kept awaiting blew (Some life) (Served sender (FromClock ask) reply) may id tells = cc
told_ended settings kept awaiting blew (Some life) e may id tells = cc

-- at most one end of each application stands in a state, and each allowed entry keeps it so
abbrev OneEndIn : Manager → Type 0
OneEndIn s = OneEnd s.kept s.awaiting

keeps : (settings : Settings) (s : Manager) (e : Entry) → OneEndIn s → Allowed settings s e → OneEndIn (after s e)
keeps settings s e one may = step settings s.kept s.awaiting s.blew s.life e one may

-- an end that stands at an entry is what the next report after the passage says
module _ (settings : Settings) (opening : List Op) (log : List Entry) (allowed : AllAllowed settings (opening_state opening) log) (p : Passage log) (id : AppId) (stands : IsRemembered opening p id) where
  begun : OneEnd opening []
  begun one = let a = at_most_one (end_of (records opening).apps one) in omega (arith, a)

  pub passage : OneEnd (after_all (opening_state opening) p.before).kept (after_all (opening_state opening) p.before).awaiting × AllAllowed settings (after_all (opening_state opening) p.before) (p.entry ∷ (p.after ++ p.rest))
  passage = walk settings OneEndIn (keeps settings) opening log p.before (p.entry ∷ (p.after ++ p.rest)) begun allowed p.whole

  pub later_says : (ending : How × List ℕ) → end_of (records (after_all (opening_state opening) p.before).kept).apps id ≡ Some ending → (later : Report) → ReportsNext p id later → SaysEnd later ending
  later_says ending ended later (next, more, rest, tells) =
      let s = after_all (opening_state opening) p.before in
      let mid = p.entry ∷ p.after in
      let to : AllAllowed settings s (mid ++ next ∷ more) = subst (λ (l : List Entry). AllAllowed settings s (p.entry ∷ (p.after ++ l))) rest passage.1 in
      let there = log_end settings s mid id ending passage.0 (front_allowed settings s mid (next ∷ more) to) ended (none_removed opening log p id stands) in
      let g = goes_on settings OneEndIn (keeps settings) s mid (next ∷ more) passage.0 to in
      let t = after_all s mid in
      tells_end settings t.kept t.awaiting t.blew t.life next g.1.0 id later tells ending there

some_final : (a : AppId) (b : Bool) → b ≡ true → (let o : Option AppId = elim b [ true ↦ Some a | false ↦ None ] in o) ≡ Some a
some_final a true h = refl
some_final a false h = cc

-- a report with a final word tells an end
ended_too : (e : Entry) (id : AppId) (report : Report) → told_by e ≡ Some (id, report) → is_final_word report.state ≡ true → entry_ended e ≡ Some id
ended_too (Served sender (FromClient user (AskReport one)) (replies.Report other)) id report tells final =
    let same = some_pair one id other report tells in
    some_final one (is_final_word other.state) (ap (λ (r : Report). is_final_word r.state) same.1 ∙ final) ∙ ap (λ (i : AppId). Some i) same.0
ended_too (Served sender (FromClient user (AskReport one)) reply) id report tells final = cc
ended_too (Served sender (FromClient user AskNew) reply) id report tells final = cc
ended_too (Served sender (FromClient user (AskSubmit one submission)) reply) id report tells final = cc
ended_too (Served sender (FromClient user (AskKill one)) reply) id report tells final = cc
ended_too (Served sender message reply) id report tells final = cc
ended_too e id report tells final = cc

-- the law
pub ends_stay : (settings : Settings) (opening : List Op) (log : List Entry) → AllAllowed settings (opening_state opening) log → EndsStay opening log
ends_stay settings opening log allowed =
    record {
      final = λ p id later ended stands next. final_later p id later ended stands next;
      one = λ p q id first second from ended p_stands q_stands p_next q_next. one_later p q id first second from ended p_stands q_stands p_next q_next;
      same = λ p id report later tells final stands next. same_later p id report later tells final stands next;
    }
  where
    final_later : (p : Passage log) (id : AppId) (later : Report) → entry_ended p.entry ≡ Some id → IsRemembered opening p id → ReportsNext p id later → is_final_word later.state ≡ true
    final_later p id later ended stands next =
        let s = after_all (opening_state opening) p.before in
        let g = passage settings opening log allowed p id stands in
        let e = ending_of (end_of (records s.kept).apps id) (told_ended settings s.kept s.awaiting s.blew s.life p.entry g.1.0 id ended) in
        let says = later_says settings opening log allowed p id stands e.0 e.1 later next in
        ap (λ (w : StateWord). is_final_word w) says.word ∙ final_end e.0.0

    one_later : (p q : Passage log) (id : AppId) (first second : Report) → p.before ≡ q.before → entry_ended p.entry ≡ Some id → IsRemembered opening p id → IsRemembered opening q id
        → ReportsNext p id first → ReportsNext q id second → (first.state ≡ second.state) × (first.text ≡ second.text)
    one_later p q id first second from ended p_stands q_stands p_next q_next =
        let s = after_all (opening_state opening) p.before in
        let g = passage settings opening log allowed p id p_stands in
        let e = ending_of (end_of (records s.kept).apps id) (told_ended settings s.kept s.awaiting s.blew s.life p.entry g.1.0 id ended) in
        let a = later_says settings opening log allowed p id p_stands e.0 e.1 first p_next in
        let b = later_says settings opening log allowed q id q_stands e.0
        (ap (λ (before : List Entry). end_of (records (after_all (opening_state opening) before).kept).apps id) (sym from) ∙ e.1) second q_next in
        (a.word ∙ sym b.word, a.text ∙ sym b.text)

    same_later : (p : Passage log) (id : AppId) (report later : Report) → told_by p.entry ≡ Some (id, report) → is_final_word report.state ≡ true → IsRemembered opening p id → ReportsNext p id later
        → (later.state ≡ report.state) × (later.text ≡ report.text)
    same_later p id report later tells final stands next =
        let s = after_all (opening_state opening) p.before in
        let g = passage settings opening log allowed p id stands in
        let e = ending_of (end_of (records s.kept).apps id) (told_ended settings s.kept s.awaiting s.blew s.life p.entry g.1.0 id (ended_too p.entry id report tells final)) in
        let says = later_says settings opening log allowed p id stands e.0 e.1 later next in
        let said = tells_end settings s.kept s.awaiting s.blew s.life p.entry g.1.0 id report tells e.0 e.1 in
        (says.word ∙ sym said.word, says.text ∙ sym said.text)
