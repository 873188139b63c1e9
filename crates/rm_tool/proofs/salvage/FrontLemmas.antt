-- Fronts of bytes: how they grow, and why none is longer than one behind which a stop stands.
use Rattle.std.proofs.Common.{◌≡◌, ◌≢◌, ℕ, ◌+◌, true, None, List, [], ◌∷◌, ◌++◌, length, drop, get_or, append_assoc, refl, sym, ◌∙◌, ap, subst, arith}
use Rattle.std.specs.Prelude.{All}
use Rattle.std.proofs.lemmas.List.{drop_at}
use Rattle.std.proofs.lemmas.List.Elements.{All-nil, All-cons, All-append, All-head, All-tail}
use Rattle.rm_types.specs.declared.operations.Op.{Op}
use Rattle.rm_types.specs.Ranges.{IsOperation}
use Rattle.rm_types.specs.Records.{Records, records, fits_records, stray}
use Rattle.rm_formats.specs.Device.{IsPayload, sized, journal_record, journal_records}
use Rattle.rm_journal.specs.Journal.{region_of}
use Rattle.rm_journal.proofs.Payloads.{length-journal_record, length-records_push, next_of, records_head, records_push, same_sized}
use Rattle.rm_journal.proofs.Regions.{region_on}
use Rattle.rm_store.specs.Content.{IsFrameOf, ReadsAs}
use Rattle.rm_store.proofs.Framed.{reads_framed, reads_more, same_op, stands_behind}
use Rattle.rm_store.proofs.Ops.{fits_there, stray_push}
use Rattle.rm_tool.specs.declared.salvage.fronts.Stop.{Stop}
use Rattle.rm_tool.specs.declared.salvage.fronts.Stop.TheVariants.{End, NoRecord, NoFrame, Stray, NoArea}
use Rattle.rm_tool.specs.declared.salvage.forms.Form.{Form}
use Rattle.rm_tool.specs.declared.salvage.forms.Form.TheVariants.{OneJournal, TwoAreas, NoArea as NoneLive}
use Rattle.rm_tool.specs.salvage.Forms.{HasFirst}
use Rattle.rm_tool.specs.salvage.Fronts.{BeginsFront, IsFront, StopsBehind, FrontStops}
use Rattle.rm_tool.specs.salvage.Steps.{ReadsTo, WentOn}

-- behind a record that stands at a gate stands the next gate
pub behind_record : (bytes payload : List ℕ) (gate end : ℕ) → HasFirst (region_of gate end bytes) payload → region_of gate end bytes ≡ journal_record payload ++ region_of (gate + (length payload + 5)) end bytes
behind_record bytes payload gate end first =
    let rest : region_of (gate + (length payload + 5)) end bytes ≡ first.next ∷ first.rest =
    region_on gate (length payload + 5) end bytes ∙ ap (λ (l : List ℕ). drop (length payload + 5) l) first.is ∙ drop_at (journal_record payload) (first.next ∷ first.rest) (length payload + 5) (length-journal_record payload) in
    first.is ∙ ap (λ (l : List ℕ). journal_record payload ++ l) (sym rest)

-- one more operation was read
pub reads_on : (bytes : List ℕ) (start end : ℕ) (heads : List (List ℕ)) (gate gate' : ℕ) (ops ops' : List Op) (tree : Records) → ReadsTo bytes start end heads gate ops → WentOn bytes end gate gate' ops ops' tree → ReadsTo bytes start end heads gate' ops'
reads_on bytes start end heads gate gate' ops ops' tree to on =
    let p = on.payload in
    let took = on.took in
    let all : heads ++ (to.payloads ++ p ∷ []) ≡ (heads ++ to.payloads) ++ p ∷ [] = sym (append_assoc heads to.payloads (p ∷ [])) in
    let behind : region_of gate end bytes ≡ journal_record p ++ region_of gate' end bytes =
    behind_record bytes p gate end on.first ∙ ap (λ (n : ℕ). journal_record p ++ region_of n end bytes) (sym on.gate) in
    let pushed = length-records_push (heads ++ to.payloads) p in
    let long : length (journal_records (heads ++ (to.payloads ++ p ∷ []))) ≡ length (journal_records ((heads ++ to.payloads) ++ p ∷ [])) = ap (λ (l : List (List ℕ)). length (journal_records l)) all in
    let place = to.place in
    let gate_is = on.gate in
    record {
      payloads = to.payloads ++ p ∷ [];
      sizes = subst (All IsPayload) (sym all) (All-append IsPayload (heads ++ to.payloads) (p ∷ []) to.sizes (All-cons IsPayload p [] on.first.small (All-nil IsPayload)));
      is = to.is ∙ ap (λ (l : List ℕ). journal_records (heads ++ to.payloads) ++ l) behind
          ∙ sym (append_assoc (journal_records (heads ++ to.payloads)) (journal_record p) (region_of gate' end bytes))
          ∙ ap (λ (l : List ℕ). l ++ region_of gate' end bytes) (sym (records_push (heads ++ to.payloads) p))
          ∙ ap (λ (l : List (List ℕ)). journal_records l ++ region_of gate' end bytes) (sym all);
      place = omega (arith, place, gate_is, pushed, long);
      reads = subst (λ (l : List Op). ReadsAs (to.payloads ++ p ∷ []) l) (sym took.grown) (reads_more to.payloads ops p took.op to.reads took.framed);
      none_stray = ap stray took.grown ∙ stray_push ops took.op to.none_stray took.fits;
    }

-- at a stop there is at least a gate
gate_there : (behind : List ℕ) (gate : ℕ) (ops : List Op) (stop : Stop) → StopsBehind behind gate ops stop → (next : ℕ) × ((rest : List ℕ) × (behind ≡ next ∷ rest))
gate_there behind gate ops (End offset) here = (here.1.gate, (here.1.rest, here.1.is))
gate_there behind gate ops (NoRecord offset) here = (1, (here.1.rest, here.1.is))
gate_there behind gate ops (NoFrame offset) here = (1, (sized here.1.payload ++ here.1.first.next ∷ here.1.first.rest, here.1.first.is))
gate_there behind gate ops (Stray offset) here = (1, (sized here.1.payload ++ here.1.first.next ∷ here.1.first.rest, here.1.first.is))
gate_there behind gate ops NoArea here = absurd here

-- the operations that were read up to a stop are a front
pub front_to : (bytes : List ℕ) (start end : ℕ) (heads : List (List ℕ)) (gate : ℕ) (ops : List Op) (stop : Stop) → ReadsTo bytes start end heads gate ops → StopsBehind (region_of gate end bytes) gate ops stop → BeginsFront (region_of start end bytes) heads ops
front_to bytes start end heads gate ops stop to here =
    let next = gate_there (region_of gate end bytes) gate ops stop here in
    record {
      payloads = to.payloads;
      begins = record { sizes = to.sizes; next = next.0; rest = next.1.0; is = to.is ∙ ap (λ (l : List ℕ). journal_records (heads ++ to.payloads) ++ l) next.1.1 };
      reads = to.reads;
      none_stray = to.none_stray;
    }

-- and end by it
pub stop_at : (bytes : List ℕ) (start end : ℕ) (heads : List (List ℕ)) (gate : ℕ) (ops : List Op) (stop : Stop) → ReadsTo bytes start end heads gate ops → StopsBehind (region_of gate end bytes) gate ops stop → FrontStops (region_of start end bytes) start heads ops stop
stop_at bytes start end heads gate ops stop to here = record {
  payloads = to.payloads;
  sizes = to.sizes;
  reads = to.reads;
  behind = region_of gate end bytes;
  is = to.is;
  here = subst (λ (n : ℕ). StopsBehind (region_of gate end bytes) n ops stop) to.place here;
}

-- of two beginnings of records one goes on where the other ends
data Compared (one other : List (List ℕ)) (behind : List ℕ) : Type 0 where
  covers : (more : List (List ℕ)) → one ≡ other ++ more → Compared one other behind
  lacks : (payload : List ℕ) (more : List (List ℕ)) (next : ℕ) (rest : List ℕ) → other ≡ one ++ payload ∷ more → IsPayload payload → behind ≡ journal_record payload ++ next ∷ rest → Compared one other behind

one_more : (p q : List ℕ) (one other : List (List ℕ)) (behind : List ℕ) → p ≡ q → Compared one other behind → Compared (p ∷ one) (q ∷ other) behind
one_more p q one other behind same (covers more is) = covers more (ap (λ (l : List (List ℕ)). p ∷ l) is ∙ ap (λ (x : List ℕ). x ∷ (other ++ more)) same)
one_more p q one other behind same (lacks payload more next rest is small there) =
    lacks payload more next rest (ap (λ (l : List (List ℕ)). q ∷ l) is ∙ ap (λ (x : List ℕ). x ∷ (one ++ payload ∷ more)) (sym same)) small there

compare : (one other : List (List ℕ)) (behind : List ℕ) (next : ℕ) (rest : List ℕ) → All IsPayload one → All IsPayload other → journal_records one ++ behind ≡ journal_records other ++ next ∷ rest → Compared one other behind
compare one [] behind next rest small small' is = covers one refl
compare [] (q ∷ other) behind next rest small small' is =
    let n = next_of other next rest in
    lacks q other n.0 n.1 refl (All-head IsPayload q other small') (is ∙ records_head q other next rest ∙ ap (λ (l : List ℕ). journal_record q ++ l) n.2)
compare (p ∷ one) (q ∷ other) behind next rest small small' is =
    let left : journal_records (p ∷ one) ++ behind ≡ 1 ∷ (sized p ++ (journal_records one ++ behind)) = ap (λ (l : List ℕ). 1 ∷ l) (append_assoc (sized p) (journal_records one) behind) in
    let same = same_sized p q (journal_records one ++ behind) (journal_records other ++ next ∷ rest) (All-head IsPayload p one small) (All-head IsPayload q other small')
    (ap (λ (l : List ℕ). drop 1 l) (sym left ∙ is ∙ records_head q other next rest)) in
    one_more p q one other behind same.0 (compare one other behind next rest (All-tail IsPayload p one small) (All-tail IsPayload q other small') same.1)

-- behind the same heads stands the same
behind_heads : (heads one other : List (List ℕ)) → heads ++ one ≡ heads ++ other → one ≡ other
behind_heads heads one other is = sym (drop_at heads one (length heads) refl) ∙ ap (λ (l : List (List ℕ)). drop (length heads) l) is ∙ drop_at heads other (length heads) refl

-- payloads that begin with others read as operations that begin with theirs
reads_front : (payloads more : List (List ℕ)) (ops other : List Op) → ReadsAs (payloads ++ more) ops → ReadsAs payloads other → (rest : List Op) × (ops ≡ other ++ rest)
reads_front [] more ops [] a b = (ops, refl)
reads_front [] more ops (y ∷ other) a b = absurd b
reads_front (p ∷ payloads) more [] other a b = absurd a
reads_front (p ∷ payloads) more (x ∷ ops) [] a b = absurd b
reads_front (p ∷ payloads) more (x ∷ ops) (y ∷ other) a b =
    let on = reads_front payloads more ops other a.1 b.1 in
    (on.0, ap (λ (z : Op). z ∷ ops) (same_op p x y a.0 b.0) ∙ ap (λ (l : List Op). y ∷ l) on.1)

-- a record at a gate has one payload
pub one_record : (behind p q : List ℕ) → HasFirst behind p → IsPayload q → (next : ℕ) (rest : List ℕ) → behind ≡ journal_record q ++ next ∷ rest → p ≡ q
one_record behind p q first small next rest is = (same_sized p q (first.next ∷ first.rest) (next ∷ rest) first.small small (ap (λ (l : List ℕ). drop 1 l) (sym first.is ∙ is))).0

-- no stop stands before an operation that is whole and fits
no_stop : (behind : List ℕ) (gate : ℕ) (ops : List Op) (stop : Stop) (op : Op) (q : List ℕ) (next : ℕ) (rest : List ℕ) → StopsBehind behind gate ops stop → IsFrameOf q op → fits_records (records ops) op ≡ true → IsPayload q
    → behind ≡ journal_record q ++ next ∷ rest → ⊥
no_stop behind gate ops (End offset) op q next rest here framed fits small is = here.1.closed (ap (λ (l : List ℕ). get_or l 0 0) (sym here.1.is ∙ is))
no_stop behind gate ops (NoRecord offset) op q next rest here framed fits small is = here.1.no_record q next rest small (ap (λ (l : List ℕ). drop 1 l) (sym here.1.is ∙ is))
no_stop behind gate ops (NoFrame offset) op q next rest here framed fits small is =
    let same = one_record behind here.1.payload q here.1.first small next rest is in
    here.1.no_frame op (subst (λ (l : List ℕ). IsFrameOf l op) (sym same) framed)
no_stop behind gate ops (Stray offset) op q next rest here framed fits small is =
    let same = one_record behind here.1.payload q here.1.first small next rest is in
    let one = same_op q here.1.op op (subst (λ (l : List ℕ). IsFrameOf l here.1.op) same here.1.framed) framed in
    let no = sym here.1.stray ∙ ap (λ (x : Op). fits_records (records ops) x) one ∙ fits in
    cc
no_stop behind gate ops NoArea op q next rest here framed fits small is = here

-- no front is longer than one behind which a stop stands
pub longest : (part : List ℕ) (start : ℕ) (heads : List (List ℕ)) (ops other : List Op) (stop : Stop) → FrontStops part start heads ops stop → BeginsFront part heads other → (rest : List Op) × (ops ≡ other ++ rest)
longest part start heads ops other stop at front =
    by (compare (heads ++ at.payloads) (heads ++ front.payloads) at.behind front.begins.next front.begins.rest at.sizes front.begins.sizes (sym at.is ∙ front.begins.is))
  where
    by : Compared (heads ++ at.payloads) (heads ++ front.payloads) at.behind → (rest : List Op) × (ops ≡ other ++ rest)
    by (covers more is) =
        let payloads : at.payloads ≡ front.payloads ++ more = behind_heads heads at.payloads (front.payloads ++ more) (is ∙ append_assoc heads front.payloads more) in
        reads_front front.payloads more ops other (subst (λ (l : List (List ℕ)). ReadsAs l ops) payloads at.reads) front.reads
    by (lacks q more next rest is small there) =
        let payloads : front.payloads ≡ at.payloads ++ q ∷ more = behind_heads heads front.payloads (at.payloads ++ q ∷ more) (is ∙ append_assoc heads at.payloads (q ∷ more)) in
        let s = stands_behind at.payloads more q other ops (subst (λ (l : List (List ℕ)). ReadsAs l other) payloads front.reads) at.reads in
        let fits = fits_there ops s.op s.rest (sym (ap stray s.is) ∙ front.none_stray) in
        absurd (no_stop at.behind (start + length (journal_records (heads ++ at.payloads))) ops stop s.op q next rest at.here s.framed fits small there)

-- the parts of the operations of a front are in their ranges
pub front_framed : (form : Form) (bytes : List ℕ) (ops : List Op) → IsFront form bytes ops → All IsOperation ops
front_framed OneJournal bytes ops front = reads_framed front.payloads ops front.reads
front_framed (TwoAreas second generation) bytes ops front = reads_framed front.payloads ops front.reads
front_framed NoneLive bytes ops front = subst (All IsOperation) (sym front) (All-nil IsOperation)

-- and none of them is stray
pub front_none_stray : (form : Form) (bytes : List ℕ) (ops : List Op) → IsFront form bytes ops → stray ops ≡ None
front_none_stray OneJournal bytes ops front = front.none_stray
front_none_stray (TwoAreas second generation) bytes ops front = front.none_stray
front_none_stray NoneLive bytes ops front = ap stray front
