-- A desk before the first life of its script.
use Rattle.std.proofs.Common.{◌≡◌, List, [], false, refl, sym, subst}
use Rattle.rm_types.specs.declared.entries.Entry.{Entry}
use Rattle.rm_types.specs.declared.operations.Op.{Op}
use Rattle.rm_types.specs.declared.scripts.Script.{Script}
use Rattle.rm_model.specs.State.{opening_state}
use Rattle.rm_model.specs.Lawful.{Follows, place_after}
use Rattle.rm_model.specs.Place.{Place, beginning}
use Rattle.rm_core.specs.Seen.{Seen, StandsFor}
use Rattle.rm_core.specs.Words.{stands}
use Rattle.rm_desk.specs.declared.feeds.Feeds.{Feeds}
use Rattle.rm_desk.specs.Feeds.{at, feeds_place}
use Rattle.rm_desk.specs.Runs.{IsPlaceSound, IsScriptRun}
use Rattle.rm_desk.specs.Scripts.{CanGoAlong}

-- no life stands, so only the lives of the script have to follow one another
pub unbegun_sound : (core : Seen) (f : Feeds) (script : Script) → CanGoAlong script → stands core ≡ false → feeds_place f ≡ beginning script → IsPlaceSound (at core f)
unbegun_sound core f script can down place =
    subst (λ (p : Place). IsPlaceSound (record { core = core; place = p })) (sym place)
    (record {
      lives = can.lives;
      segments = tt;
      between = λ _. refl;
      ends = λ alive. let no = down in cc;
      blown = λ alive. let no = down in cc;
      served = λ alive. let no = down in cc;
    })

-- an empty log goes along each script, whatever the store held
pub unbegun_runs : (core : Seen) (f : Feeds) (script : Script) (opening : List Op) → StandsFor opening core → core.log ≡ [] → feeds_place f ≡ beginning script → IsScriptRun opening script (at core f)
unbegun_runs core f script opening holds log place = record {
  stands = holds;
  along = record {
    along = subst (λ (entries : List Entry). Follows (opening_state opening) (beginning script) entries) (sym log) tt;
    at = subst (λ (entries : List Entry). place_after script entries ≡ feeds_place f) (sym log) (sym place);
  };
}
