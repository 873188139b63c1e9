use Rattle.std.proofs.Common.{◌≡◌, ℕ, ◌+◌, ◌≤◌, ◌/◌, Bool, List, [], length, sym, ◌∙◌, ap, subst, arith}
use Rattle.std.proofs.lemmas.Result.{IfOk-weaker}
use Rattle.rm_types.specs.declared.operations.Op.{Op}
use Rattle.rm_journal.specs.Journal.{region_of}
use Rattle.rm_journal.specs.two_areas.Areas.{HasGeneration, area_from, area_of, head_of}
use Rattle.rm_store.specs.Content.{half_of}
use Rattle.rm_tool.specs.declared.salvage.forms.Form.{Form}
use Rattle.rm_tool.specs.declared.salvage.forms.Form.TheVariants.{OneJournal, TwoAreas}
use Rattle.rm_tool.specs.declared.salvage.fronts.Stop.{Stop}
use Rattle.rm_tool.specs.salvage.Forms.{IsForm}
use Rattle.rm_tool.specs.salvage.Fronts.{BeginsFront, IsFront, IsLongest, IsStop, FrontStops}
use Rattle.rm_tool.specs.salvage.Steps.{ReadsTo}
use Rattle.rm_tool.proofs.salvage.FormLemmas.{area_is, begin_area, begin_journal, room_there, whole_region}
use Rattle.rm_tool.proofs.salvage.FrontLemmas.{front_framed, longest}
use Rattle.rm_tool.proofs.salvage.fronts.front_of.Goals as goal

-- ---- one journal

abbrev Begins : List ℕ → ℕ → ℕ → List Op → Type 0
Begins bytes gate end ops = (start : ℕ) (heads : List (List ℕ)) → ReadsTo bytes start end heads gate [] → BeginsFront (region_of start end bytes) heads ops

abbrev Stops : List ℕ → ℕ → ℕ → List Op → Stop → Type 0
Stops bytes gate end ops stop = (start : ℕ) (heads : List (List ℕ)) → ReadsTo bytes start end heads gate [] → FrontStops (region_of start end bytes) start heads ops stop

journal_front : (bytes : List ℕ) (size : ℕ) (form : Form) (ops : List Op) → size ≡ length bytes → form ≡ OneJournal → Begins bytes 0 size ops → IsFront form bytes ops
journal_front bytes size form ops long is begins =
    subst (λ (f : Form). IsFront f bytes ops) (sym is) (subst (λ (l : List ℕ). BeginsFront l [] ops) (whole_region bytes size long) (begins 0 [] (begin_journal bytes size)))

journal_stop : (bytes : List ℕ) (size : ℕ) (ops : List Op) (stop : Stop) → size ≡ length bytes → Stops bytes 0 size ops stop → FrontStops bytes 0 [] ops stop
journal_stop bytes size ops stop long stops = subst (λ (l : List ℕ). FrontStops l 0 [] ops stop) (whole_region bytes size long) (stops 0 [] (begin_journal bytes size))

journal_longest : (bytes : List ℕ) (size : ℕ) (form : Form) (ops : List Op) (stop : Stop) → size ≡ length bytes → form ≡ OneJournal → Stops bytes 0 size ops stop → IsLongest form bytes ops
journal_longest bytes size form ops stop long is stops =
    subst (λ (f : Form). IsLongest f bytes ops) (sym is) (λ other front. longest bytes 0 [] ops other stop (journal_stop bytes size ops stop long stops) front)

pub returns-in-OneJournal-clause-front : goal.returns-in-OneJournal-clause-front
returns-in-OneJournal-clause-front c = IfOk-weaker c.read_front.result _ _ (λ front h. journal_front c.args.disk.now c.size-size.result c.args.form front.ops c.size-size.ensures c.in-OneJournal.is h) c.read_front.ensures.front

pub returns-in-OneJournal-clause-longest : goal.returns-in-OneJournal-clause-longest
returns-in-OneJournal-clause-longest c = IfOk-weaker c.read_front.result _ _ (λ front h. journal_longest c.args.disk.now c.size-size.result c.args.form front.ops front.stop c.size-size.ensures c.in-OneJournal.is h) c.read_front.ensures.stop

pub returns-in-OneJournal-clause-stop : goal.returns-in-OneJournal-clause-stop
returns-in-OneJournal-clause-stop c =
    IfOk-weaker c.read_front.result _ _
    (λ front h. subst (λ (f : Form). IsStop f c.args.disk.now front.ops front.stop) (sym c.in-OneJournal.is) (journal_stop c.args.disk.now c.size-size.result front.ops front.stop c.size-size.ensures h)) c.read_front.ensures.stop

pub returns-in-OneJournal-clause-framed : goal.returns-in-OneJournal-clause-framed
returns-in-OneJournal-clause-framed c =
    IfOk-weaker c.read_front.result _ _ (λ front h. front_framed c.args.form c.args.disk.now front.ops (journal_front c.args.disk.now c.size-size.result c.args.form front.ops c.size-size.ensures c.in-OneJournal.is h)) c.read_front.ensures.front

-- ---- two areas

has_there : (bytes : List ℕ) (start half : ℕ) (second : Bool) (generation : ℕ) (form : Form) → form ≡ TwoAreas second generation → start ≡ area_from half second → half ≡ half_of bytes → IsForm bytes form → HasGeneration (region_of start (start + half) bytes) generation
has_there bytes start half second generation form is at halves of_form =
    subst (λ (l : List ℕ). HasGeneration l generation) (sym (area_is bytes start half second at halves)) (subst (IsForm bytes) is of_form).1

area_front : (bytes : List ℕ) (start half : ℕ) (second : Bool) (generation : ℕ) (form : Form) (ops : List Op) → form ≡ TwoAreas second generation → start ≡ area_from half second → half ≡ half_of bytes → IsForm bytes form
    → Begins bytes (start + 13) (start + half) ops → IsFront form bytes ops
area_front bytes start half second generation form ops is at halves of_form begins =
    subst (λ (f : Form). IsFront f bytes ops) (sym is) (subst (λ (l : List ℕ). BeginsFront l (head_of generation) ops) (area_is bytes start half second at halves)
    (begins start (head_of generation) (begin_area bytes start (start + half) generation (has_there bytes start half second generation form is at halves of_form))))

area_stop : (bytes : List ℕ) (start half : ℕ) (second : Bool) (generation : ℕ) (form : Form) (ops : List Op) (stop : Stop) → form ≡ TwoAreas second generation → start ≡ area_from half second → half ≡ half_of bytes → IsForm bytes form
    → Stops bytes (start + 13) (start + half) ops stop → FrontStops (area_of (half_of bytes) second bytes) (area_from (half_of bytes) second) (head_of generation) ops stop
area_stop bytes start half second generation form ops stop is at halves of_form stops =
    let there = stops start (head_of generation) (begin_area bytes start (start + half) generation (has_there bytes start half second generation form is at halves of_form)) in
    subst (λ (n : ℕ). FrontStops (area_of (half_of bytes) second bytes) n (head_of generation) ops stop) (at ∙ ap (λ (n : ℕ). area_from n second) halves)
    (subst (λ (l : List ℕ). FrontStops l start (head_of generation) ops stop) (area_is bytes start half second at halves) there)

pub read_front-requires-in-TwoAreas-clause-before : goal.read_front-requires-in-TwoAreas-clause-before
read_front-requires-in-TwoAreas-clause-before c =
    let bytes = c.args.disk.now in
    let half = c.size-size.result / 2 in
    let long = c.size-size.ensures in
    let most = c.start_of-start.ensures.most in
    let twice : half + half ≤ c.size-size.result = omega arith in
    room_there bytes c.start_of-start.result (c.start_of-start.result + half) c.in-TwoAreas.generation (omega (arith, long, most, twice))
    (has_there bytes c.start_of-start.result half c.in-TwoAreas.second c.in-TwoAreas.generation c.args.form c.in-TwoAreas.is c.start_of-start.ensures.start (ap (λ (n : ℕ). n / 2) long) c.requires)

pub returns-in-TwoAreas-clause-front : goal.returns-in-TwoAreas-clause-front
returns-in-TwoAreas-clause-front c =
    IfOk-weaker c.read_front-in-TwoAreas.result _ _
    (λ front h. area_front c.args.disk.now c.start_of-start.result (c.size-size.result / 2) c.in-TwoAreas.second c.in-TwoAreas.generation c.args.form front.ops c.in-TwoAreas.is c.start_of-start.ensures.start (ap (λ (n : ℕ). n / 2) c.size-size.ensures) c.requires h)
    c.read_front-in-TwoAreas.ensures.front

pub returns-in-TwoAreas-clause-longest : goal.returns-in-TwoAreas-clause-longest
returns-in-TwoAreas-clause-longest c =
    IfOk-weaker c.read_front-in-TwoAreas.result _ _
    (λ front h. subst (λ (f : Form). IsLongest f c.args.disk.now front.ops) (sym c.in-TwoAreas.is)
    (λ other o. longest (area_of (half_of c.args.disk.now) c.in-TwoAreas.second c.args.disk.now) (area_from (half_of c.args.disk.now) c.in-TwoAreas.second) (head_of c.in-TwoAreas.generation) front.ops other front.stop
    (area_stop c.args.disk.now c.start_of-start.result (c.size-size.result / 2) c.in-TwoAreas.second c.in-TwoAreas.generation c.args.form front.ops front.stop c.in-TwoAreas.is c.start_of-start.ensures.start (ap (λ (n : ℕ). n / 2) c.size-size.ensures) c.requires h) o))
    c.read_front-in-TwoAreas.ensures.stop

pub returns-in-TwoAreas-clause-stop : goal.returns-in-TwoAreas-clause-stop
returns-in-TwoAreas-clause-stop c =
    IfOk-weaker c.read_front-in-TwoAreas.result _ _
    (λ front h. subst (λ (f : Form). IsStop f c.args.disk.now front.ops front.stop) (sym c.in-TwoAreas.is)
    (area_stop c.args.disk.now c.start_of-start.result (c.size-size.result / 2) c.in-TwoAreas.second c.in-TwoAreas.generation c.args.form front.ops front.stop c.in-TwoAreas.is c.start_of-start.ensures.start (ap (λ (n : ℕ). n / 2) c.size-size.ensures) c.requires h))
    c.read_front-in-TwoAreas.ensures.stop

pub returns-in-TwoAreas-clause-framed : goal.returns-in-TwoAreas-clause-framed
returns-in-TwoAreas-clause-framed c =
    IfOk-weaker c.read_front-in-TwoAreas.result _ _
    (λ front h. front_framed c.args.form c.args.disk.now front.ops
    (area_front c.args.disk.now c.start_of-start.result (c.size-size.result / 2) c.in-TwoAreas.second c.in-TwoAreas.generation c.args.form front.ops c.in-TwoAreas.is c.start_of-start.ensures.start (ap (λ (n : ℕ). n / 2) c.size-size.ensures) c.requires h))
    c.read_front-in-TwoAreas.ensures.front
