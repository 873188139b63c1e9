-- Lines put together to a draft of a script, which is what was written so far.
use Rattle.std.proofs.Common.{◌≡◌, ℕ, Bool, true, false, not, List, [], ◌∷◌, ◌++◌, map, Some, refl, sym, ap, ◌∙◌, append_assoc}
use Rattle.std.specs.Prelude.{codes, All}
use Rattle.std.specs.List.{flat_map, AllByRecursion}
use Rattle.std.proofs.lemmas.Option.{same_Some}
use Rattle.std.proofs.lemmas.List.{append-nil, map-append}
use Rattle.std.proofs.lemmas.List.Concat.{flat_map-append}
use Rattle.std.proofs.lemmas.List.Elements.{All-nil, All-push}
use Rattle.rm_types.specs.Ranges.{IsWithin}
use Rattle.rm_types.specs.Lists.{is_nil}
use Rattle.rm_types.specs.declared.messages.Message.{Message}
use Rattle.rm_types.specs.declared.scripts.Life.{Life}
use Rattle.rm_types.specs.declared.scripts.Segment.{Segment}
use Rattle.rm_script.specs.declared.lines.Line.{Line}
use Rattle.rm_script.specs.declared.lines.Line.TheVariants.{Skipped, Start, Settle, Crash, Deliver, Lose}
use Rattle.rm_script.specs.declared.drafts.Living.{Living}
use Rattle.rm_script.specs.declared.drafts.Draft.{Draft}
use Rattle.rm_script.specs.declared.drafts.Draft.TheVariants as drafts
use Rattle.rm_script.specs.Written.{Sent, Delivered, Lost, WrittenLife, delivered, settled_segment, life_of}
use Rattle.rm_script.specs.Spelling.{sent_text, start_text, settled_lines, life_lines, script_lines}
use Rattle.rm_script.specs.Scripts.{IsReadMessage, IsSent, IsCrash, IsLife, EndsByCrash}
use Rattle.rm_types.specs.Limits.{greatest_stamp}
use Rattle.rm_script.specs.Reading.{settled, crashed, told, line_text, with_start, with_settle, with_crash, with_message, with_loss, with_line, with_each_line, IsCrashLine, IsLine}
use Rattle.rm_lines.proofs.Parts.{bound}

-- a script as it is written, as far as its lines go: the lives that crashed, and the life that goes on
pub data Written : Type 0 where
  Between : (lives : List WrittenLife) → Written
  Going : (lives : List WrittenLife) (stamp : ℕ) (done : List (List Sent)) (sent : List Sent) → Written

-- the draft of it

abbrev pub living_of : ℕ → List (List Sent) → List Sent → Living
living_of stamp done sent = record { stamp = stamp; segments = map settled_segment done; messages = flat_map delivered sent; is_sending = not (is_nil sent) }

abbrev pub draft_of : Written → Draft
draft_of (Between lives) = drafts.Between (map life_of lives)
draft_of (Going lives stamp done sent) = drafts.Living (map life_of lives) (living_of stamp done sent)

-- its lines that say something
abbrev pub written_lines : Written → List (List ℕ)
written_lines (Between lives) = script_lines lives
written_lines (Going lives stamp done sent) = script_lines lives ++ ((start_text stamp ∷ flat_map settled_lines done) ++ map sent_text sent)

-- lives that may stand before others
pub record AreCrashed (lives : List WrittenLife) : Type 0 where
  pub each : All IsLife lives
  pub crash : All EndsByCrash lives

pub record IsGoing (lives : List WrittenLife) (stamp : ℕ) (done : List (List Sent)) (sent : List Sent) : Type 0 where
  pub lives_fit : AreCrashed lives
  pub stamp_fits : IsWithin 1 greatest_stamp stamp
  pub done_fit : All (All IsSent) done
  pub sent_fit : All IsSent sent

-- what is written so far may stand in a script
abbrev pub Fits : Written → Type 0
Fits (Between lives) = AreCrashed lives
Fits (Going lives stamp done sent) = IsGoing lives stamp done sent

-- ---- one line on

-- the draft is that of something written, which has these lines more
pub record Grown (before : Written) (more : List (List ℕ)) (next : Draft) : Type 0 where
  pub after : Written
  pub is : next ≡ draft_of after
  pub fits : Fits after
  pub lines : written_lines after ≡ written_lines before ++ more

pub some_sent : (sent : List Sent) (one : Sent) → true ≡ not (is_nil (sent ++ one ∷ []))
some_sent [] one = refl
some_sent (first ∷ sent) one = refl

pub delivered_is : (lives : List WrittenLife) (stamp : ℕ) (done : List (List Sent)) (sent : List Sent) (message : Message)
    → drafts.Living (map life_of lives) (told (living_of stamp done sent) message)
    ≡ draft_of (Going lives stamp done (sent ++ Delivered message ∷ []))
delivered_is lives stamp done sent message =
    let messages : flat_map delivered sent ++ message ∷ [] ≡ flat_map delivered (sent ++ Delivered message ∷ []) = sym (flat_map-append delivered sent (Delivered message ∷ [])) in
    ap (λ (ms : List Message). drafts.Living (map life_of lives) (record (living_of stamp done sent) { messages = ms; is_sending = true })) messages
    ∙ ap (λ (b : Bool). drafts.Living (map life_of lives) (record (living_of stamp done (sent ++ Delivered message ∷ [])) { is_sending = b })) (some_sent sent (Delivered message))

pub lost_is : (lives : List WrittenLife) (stamp : ℕ) (done : List (List Sent)) (sent : List Sent) (message : Message)
    → drafts.Living (map life_of lives) (record (living_of stamp done sent) { is_sending = true }) ≡ draft_of (Going lives stamp done (sent ++ Lost message ∷ []))
lost_is lives stamp done sent message =
    let messages : flat_map delivered sent ≡ flat_map delivered (sent ++ Lost message ∷ []) =
    sym (flat_map-append delivered sent (Lost message ∷ []) ∙ append-nil (flat_map delivered sent)) in
    ap (λ (ms : List Message). drafts.Living (map life_of lives) (record (living_of stamp done sent) { messages = ms; is_sending = true })) messages
    ∙ ap (λ (b : Bool). drafts.Living (map life_of lives) (record (living_of stamp done (sent ++ Lost message ∷ [])) { is_sending = b })) (some_sent sent (Lost message))

pub settled_is : (lives : List WrittenLife) (stamp : ℕ) (done : List (List Sent)) (sent : List Sent)
    → drafts.Living (map life_of lives) (settled (living_of stamp done sent)) ≡ draft_of (Going lives stamp (done ++ sent ∷ []) [])
settled_is lives stamp done sent =
    ap (λ (ss : List Segment). drafts.Living (map life_of lives) (record { stamp = stamp; segments = ss; messages = []; is_sending = false })) (sym (map-append settled_segment done (sent ∷ [])))

abbrev pub crashed_life : ℕ → List (List Sent) → List Sent → ℕ → ℕ → WrittenLife
crashed_life stamp done sent calls image = record { stamp = stamp; settled = done; crash = Some (record { sent = sent; calls = calls; image = image }) }

pub crashed_is : (lives : List WrittenLife) (life : WrittenLife) → drafts.Between (map life_of lives ++ life_of life ∷ []) ≡ draft_of (Between (lives ++ life ∷ []))
crashed_is lives life = ap (λ (ls : List Life). drafts.Between ls) (sym (map-append life_of lives (life ∷ [])))

grow_start : (before : Written) (stamp : ℕ) (next : Draft) → with_start (draft_of before) stamp ≡ Some next → Fits before → IsWithin 1 greatest_stamp stamp
    → Grown before (start_text stamp ∷ []) next
grow_start (Between lives) stamp next e fits fine = record {
  after = Going lives stamp [] [];
  is = sym (same_Some (draft_of (Going lives stamp [] [])) next e);
  fits = record { lives_fit = fits; stamp_fits = fine; done_fit = All-nil (All IsSent); sent_fit = All-nil IsSent };
  lines = refl;
}
grow_start (Going lives start done sent) stamp next e fits fine = absurd cc

pub settled_text : (lives start : List (List ℕ)) (done : List (List Sent)) (sent : List Sent)
    → lives ++ ((start ++ flat_map settled_lines (done ++ sent ∷ [])) ++ []) ≡ (lives ++ ((start ++ flat_map settled_lines done) ++ map sent_text sent)) ++ codes "settle" ∷ []
settled_text lives start done sent = simp (flat_map-append, append_assoc, append-nil)

grow_settle : (before : Written) (next : Draft) → with_settle (draft_of before) ≡ Some next → Fits before → Grown before (codes "settle" ∷ []) next
grow_settle (Between lives) next e fits = absurd cc
grow_settle (Going lives stamp done sent) next e fits = record {
  after = Going lives stamp (done ++ sent ∷ []) [];
  is = sym (same_Some (drafts.Living (map life_of lives) (settled (living_of stamp done sent))) next e) ∙ settled_is lives stamp done sent;
  fits = record {
    lives_fit = fits.lives_fit;
    stamp_fits = fits.stamp_fits;
    done_fit = All-push (All IsSent) done sent fits.done_fit fits.sent_fit;
    sent_fit = All-nil IsSent;
  };
  lines = settled_text (script_lines lives) (start_text stamp ∷ []) done sent;
}

pub nothing_sent : (sent : List Sent) → not (is_nil sent) ≡ false → sent ≡ []
nothing_sent [] e = refl
nothing_sent (one ∷ sent) e = absurd cc

crashed_fit : (lives : List WrittenLife) (stamp : ℕ) (done : List (List Sent)) (sent : List Sent) (calls image : ℕ) → IsGoing lives stamp done sent
    → IsCrashLine calls image → AreCrashed (lives ++ crashed_life stamp done sent calls image ∷ [])
crashed_fit lives stamp done sent calls image fits fine =
    let life : WrittenLife = crashed_life stamp done sent calls image in
    let crash : IsCrash (record { sent = sent; calls = calls; image = image }) = record {
      sent = fits.sent_fit;
      calls = fine.calls_fit;
      image = fine.image_fits;
    } in
    let is : IsLife life = record { stamp = fits.stamp_fits; settled = fits.done_fit; crash = crash } in
    record { each = All-push IsLife lives life fits.lives_fit.each is; crash = All-push EndsByCrash lives life fits.lives_fit.crash refl }

pub lines_of-push : (lives : List WrittenLife) (life : WrittenLife) → script_lines (lives ++ life ∷ []) ≡ script_lines lives ++ life_lines life
lines_of-push lives life = flat_map-append life_lines lives (life ∷ []) ∙ ap (λ (ls : List (List ℕ)). script_lines lives ++ ls) (append-nil (life_lines life))

crashed_lines : (lives front sent crash : List (List ℕ)) → lives ++ (front ++ (sent ++ crash)) ≡ (lives ++ (front ++ sent)) ++ crash
crashed_lines lives front sent crash = simp append_assoc

grow_crash : (before : Written) (calls image : ℕ) (next : Draft) → with_crash (draft_of before) calls image ≡ Some next → Fits before → IsCrashLine calls image
    → Grown before (line_text (Crash calls image) ∷ []) next
grow_crash (Between lives) calls image next e fits fine = absurd cc
grow_crash (Going lives stamp done sent) calls image next e fits fine =
    let life : WrittenLife = crashed_life stamp done sent calls image in
    record {
      after = Between (lives ++ life ∷ []);
      is = sym (same_Some (drafts.Between (map life_of lives ++ crashed (living_of stamp done sent) calls image ∷ [])) next e) ∙ crashed_is lives life;
      fits = crashed_fit lives stamp done sent calls image fits fine;
      lines = lines_of-push lives life
          ∙ crashed_lines (script_lines lives) (start_text stamp ∷ flat_map settled_lines done) (map sent_text sent) (line_text (Crash calls image) ∷ []);
    }

sent_lines : (lives front : List (List ℕ)) (sent : List Sent) (one : Sent) → lives ++ (front ++ map sent_text (sent ++ one ∷ [])) ≡ (lives ++ (front ++ map sent_text sent)) ++ sent_text one ∷ []
sent_lines lives front sent one = simp (map-append, append_assoc)

grow_message : (before : Written) (message : Message) (next : Draft) → with_message (draft_of before) message ≡ Some next → Fits before → IsReadMessage message
    → Grown before (sent_text (Delivered message) ∷ []) next
grow_message (Between lives) message next e fits fine = absurd cc
grow_message (Going lives stamp done sent) message next e fits fine = record {
  after = Going lives stamp done (sent ++ Delivered message ∷ []);
  is = sym (same_Some (drafts.Living (map life_of lives) (told (living_of stamp done sent) message)) next e) ∙ delivered_is lives stamp done sent message;
  fits = record { lives_fit = fits.lives_fit; stamp_fits = fits.stamp_fits; done_fit = fits.done_fit; sent_fit = All-push IsSent sent (Delivered message) fits.sent_fit fine };
  lines = sent_lines (script_lines lives) (start_text stamp ∷ flat_map settled_lines done) sent (Delivered message);
}

grow_loss : (before : Written) (message : Message) (next : Draft) → with_loss (draft_of before) ≡ Some next → Fits before → IsReadMessage message → Grown before (sent_text (Lost message) ∷ []) next
grow_loss (Between lives) message next e fits fine = absurd cc
grow_loss (Going lives stamp done sent) message next e fits fine = record {
  after = Going lives stamp done (sent ++ Lost message ∷ []);
  is = sym (same_Some (drafts.Living (map life_of lives) (record (living_of stamp done sent) { is_sending = true })) next e) ∙ lost_is lives stamp done sent message;
  fits = record { lives_fit = fits.lives_fit; stamp_fits = fits.stamp_fits; done_fit = fits.done_fit; sent_fit = All-push IsSent sent (Lost message) fits.sent_fit fine };
  lines = sent_lines (script_lines lives) (start_text stamp ∷ flat_map settled_lines done) sent (Lost message);
}

-- a line more
grow : (before : Written) (line : Line) (next : Draft) → with_line (draft_of before) line ≡ Some next → Fits before → IsLine line → Grown before (line_text line ∷ []) next
grow before Skipped next e fits fine = absurd fine
grow before (Start stamp) next e fits fine = grow_start before stamp next e fits fine
grow before Settle next e fits fine = grow_settle before next e fits
grow before (Crash calls image) next e fits fine = grow_crash before calls image next e fits fine
grow before (Deliver message) next e fits fine = grow_message before message next e fits fine
grow before (Lose message) next e fits fine = grow_loss before message next e fits fine

-- lines one after the other
pub with_lines_are : (before : Written) (lines : List Line) (last : Draft) → with_each_line (draft_of before) lines ≡ Some last → Fits before → AllByRecursion IsLine lines
    → Grown before (map line_text lines) last
with_lines_are before [] last e fits fit = record { after = before; is = sym (same_Some (draft_of before) last e); fits = fits; lines = sym (append-nil (written_lines before)) }
with_lines_are before (line ∷ lines) last e fits fit =
    let first = bound (with_line (draft_of before) line) (λ next. with_each_line next lines) last e in
    let one = grow before line first.0 first.1 fits fit.0 in
    let more : with_each_line (draft_of one.after) lines ≡ Some last = ap (λ (d : Draft). with_each_line d lines) (sym one.is) ∙ first.2 in
    let rest = with_lines_are one.after lines last more one.fits fit.1 in
    record {
      after = rest.after;
      is = rest.is;
      fits = rest.fits;
      lines = rest.lines ∙ ap (λ (ls : List (List ℕ)). ls ++ map line_text lines) one.lines ∙ append_assoc (written_lines before) (line_text line ∷ []) (map line_text lines);
    }
