-- What the words of a message say of its parts.
use Rattle.std.proofs.Common.{◌≡◌, ℕ, List, [], ◌∷◌, length, refl, sym, ap, ◌∙◌, arith}
use Rattle.std.specs.Prelude.{codes}
use Rattle.rm_types.specs.Ranges.{IsAppId, IsAttemptId, IsContainerId}
use Rattle.rm_types.specs.Messages.{IsAsk, IsHeld}
use Rattle.rm_types.specs.declared.containers.Ask.{Ask}
use Rattle.rm_types.specs.declared.containers.Held.{Held}
use Rattle.rm_types.specs.declared.ids.ContainerId.{ContainerId}
use Rattle.rm_types.specs.declared.messages.NodeAsk.{NodeAsk}
use Rattle.rm_types.specs.declared.messages.NodeAsk.TheVariants.{Register as Join, Beat}
use Rattle.rm_types.specs.declared.ids.AppId.{AppId}
use Rattle.rm_types.specs.declared.ids.AttemptId.{AttemptId}
use Rattle.rm_types.specs.declared.messages.ClientAsk.{ClientAsk}
use Rattle.rm_types.specs.declared.messages.ClientAsk.TheVariants.{New, Submit, Report, Kill}
use Rattle.rm_types.specs.declared.messages.ClockAsk.{ClockAsk}
use Rattle.rm_types.specs.declared.messages.ClockAsk.TheVariants.{Tick, ExpireNode, ExpireMaster}
use Rattle.rm_types.specs.declared.messages.MasterAsk.{MasterAsk}
use Rattle.rm_types.specs.declared.messages.MasterAsk.TheVariants.{Register, Finish, Allocate}
use Rattle.rm_types.specs.declared.messages.Message.{Message}
use Rattle.rm_types.specs.declared.messages.Message.TheVariants.{Client, Master, Node, Clock}
use Rattle.rm_formats.specs.IdTexts.{app_text, attempt_text, container_text}
use Rattle.rm_formats.specs.Wording.{ask_text, held_text, node_words, clock_words}
use Rattle.rm_page.proofs.Bytes.{cut}
use Rattle.rm_lines.specs.Results.{IsOf}
use Rattle.rm_lines.proofs.Parts.{differ, first_same, heads, left_same}
use Rattle.rm_lines.proofs.Splits.{cut_same}
use Rattle.rm_script.specs.Messages.{IsScriptClientAsk, IsScriptClockAsk, IsScriptMasterAsk, IsScriptNodeAsk, IsScriptMessage}
use Rattle.rm_script.specs.Pieces.{client_pieces, master_pieces, said_pieces}
use Rattle.rm_script.proofs.Listing.{SayTwo}

-- an ask of a client that has a word more says an application by it
pub app_said : (user verb word : List ℕ) (words left : List (List ℕ)) (ask : ClientAsk) → words ≡ word ∷ left → IsOf client_pieces (IsScriptClientAsk user) (verb ∷ words) ask → (id : AppId) × IsOf app_text IsAppId word id
app_said user verb word words left New e is = absurd (let none = sym e ∙ (heads is.same).1 in cc)
app_said user verb word words left (Submit id submission) e is = (id, record { same = first_same e (heads is.same).1; fits = is.fits.0 })
app_said user verb word words left (Report id) e is = (id, record { same = first_same e (heads is.same).1; fits = is.fits })
app_said user verb word words left (Kill id) e is = (id, record { same = first_same e (heads is.same).1; fits = is.fits })

-- a master's message says its attempt
pub attempt_said : (word : List ℕ) (words left : List (List ℕ)) (message : Message) → words ≡ word ∷ left → IsOf said_pieces IsScriptMessage (codes "master" ∷ words) message
    → (id : AttemptId) × IsOf attempt_text IsAttemptId word id
attempt_said word words left (Client user ask) e is = absurd (differ (codes "master") (codes "client") refl (heads is.same).0)
attempt_said word words left (Master id ask) e is = (id, record { same = first_same e (heads is.same).1; fits = is.fits.0 })
attempt_said word words left (Node node ask) e is = absurd (differ (codes "master") (codes "node") refl (heads is.same).0)
attempt_said word words left (Clock ask) e is = absurd (differ (codes "master") (codes "clock") refl (heads is.same).0)

-- and so does the lease of one
pub lease_said : (word : List ℕ) (words left : List (List ℕ)) (ask : ClockAsk) → words ≡ word ∷ left → IsOf clock_words IsScriptClockAsk (codes "expire" ∷ codes "master" ∷ words) ask
    → (id : AttemptId) × IsOf attempt_text IsAttemptId word id
lease_said word words left (Tick time) e is = absurd (differ (codes "expire") (codes "tick") refl (heads is.same).0)
lease_said word words left (ExpireNode node) e is = absurd (differ (codes "master") (codes "node") refl (heads (heads is.same).1).0)
lease_said word words left (ExpireMaster id) e is = (id, record { same = first_same e (heads (heads is.same).1).1; fits = is.fits })

-- a master that ends says one byte at least
pub no_last_word : (words : List (List ℕ)) (text : List ℕ) (ask : MasterAsk) → text ≡ [] → words ≡ cut 32 text → IsOf master_pieces IsScriptMasterAsk (codes "finish" ∷ words) ask → ⊥
no_last_word words text Register none e is = differ (codes "finish") (codes "register") refl (heads is.same).0
no_last_word words text (Finish said) none e is =
    let same : text ≡ said = cut_same 32 text said (sym e ∙ (heads is.same).1) in
    absurd (omega (arith, ap length (sym none ∙ same), is.fits.some))
no_last_word words text (Allocate id asks release) none e is = differ (codes "finish") (codes "allocate") refl (heads is.same).0

-- the two lists of an allocation
pub allocated_said : (word : List ℕ) (words left : List (List ℕ)) (ask : MasterAsk) → words ≡ word ∷ left → IsOf master_pieces IsScriptMasterAsk (codes "allocate" ∷ words) ask
    → (lists : List Ask × List ContainerId) × SayTwo ask_text IsAsk container_text IsContainerId (codes "ask=") (codes "release=") left lists
allocated_said word words left Register e is = absurd (differ (codes "allocate") (codes "register") refl (heads is.same).0)
allocated_said word words left (Finish text) e is = absurd (differ (codes "allocate") (codes "finish") refl (heads is.same).0)
allocated_said word words left (Allocate id asks release) e is = ((asks, release), record { same = left_same e (heads is.same).1; fits = (is.fits.1, is.fits.2) })

-- and of a beat
pub beaten_said : (word : List ℕ) (words left : List (List ℕ)) (ask : NodeAsk) → words ≡ word ∷ left → IsOf node_words IsScriptNodeAsk (codes "beat" ∷ words) ask
    → (lists : List Held × List ContainerId) × SayTwo held_text IsHeld container_text IsContainerId (codes "running=") (codes "done=") left lists
beaten_said word words left (Join turn capability running) e is = absurd (differ (codes "beat") (codes "register") refl (heads is.same).0)
beaten_said word words left (Beat id running done) e is = ((running, done), record { same = left_same e (heads is.same).1; fits = (is.fits.1, is.fits.2) })
