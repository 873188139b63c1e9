-- The tables of an open life show the judge's scene, as far as masters, nodes and the clock are answered from it.
use Rattle.rm_invariant.proofs.Common.{◌≡◌, Option, None, Some, Bool, true, false, refl, sym, ◌∙◌, ap, AttemptId, Settings, record_of, attempt_was_first, AppRow, Tables, was_first, row_of, RefinesLife, History, abstract_scene}
use Rattle.std.proofs.lemmas.Bool.{false≢true}
use Rattle.rm_model.specs.Facts.{app_goes_on}
use Rattle.rm_refinement.specs.Services.{AgreesAround}
use Rattle.rm_invariant.specs.events.Here.{FirstsKnown}
use Rattle.rm_invariant.proofs.events.Knowing.{rows_know}
use Rattle.rm_invariant.proofs.masters.Living.{live_is}
use Rattle.rm_invariant.specs.Core.{CoreInvariant}
use Rattle.rm_invariant.specs.messages.Clients.{FinishesRefine}

pub shows_life : (settings : Settings) (h : History) (t : Tables) → CoreInvariant settings h t → FinishesRefine h t → AgreesAround (abstract_scene h t) t → RefinesLife (abstract_scene h t) t
shows_life settings h t w finishes around =
    record {
      records = refl;
      epoch = refl;
      rows = w.agrees.rows;
      nodes = w.agrees.nodes;
      asks = w.agrees.asks;
      closings = w.agrees.closings;
      masters = w.agrees.masters;
      live = λ attempt. live_is settings h t w.keeps w.sound attempt;
      finishes = finishes;
      around = around;
    }
