-- What a crash leaves at each moment, one call after another.
use Rattle.std.proofs.Common.{◌≡◌, ◌⊎◌, ℕ, ◌+◌, ◌≤◌, List, ◌++◌, Some, Option, sym, subst, arith}
use Rattle.rm_disk.specs.Disk.{DiskView, EachImage, AtEachMoment, AnyIn, SameElsewhere, MayWrite, IsQuiet}
use Rattle.rm_disk.proofs.Views.{told_before, leaves_same, leaves_trans, leaves_of}
use Rattle.rm_formats.specs.Device.{HasPayloads}
use Rattle.rm_journal.specs.Journal.{JournalPlace, RegionHas, JournalInvariant, region_of}
use Rattle.rm_journal.proofs.two_areas.Bytes.{outside}

pub some_same : (a b : List ℕ) (o : Option (List ℕ)) → o ≡ Some a → o ≡ Some b → b ≡ a
some_same a b o is other = cc

module _ (P : List ℕ → Type 0) where
  pub at_once : (v : DiskView) → EachImage v P → AtEachMoment v v P
  at_once v each = record { so_far = leaves_same v P; now = each }

  pub written_moment : (at many : ℕ) (v w : DiskView) → ((x y : List ℕ) → v.images x → SameElsewhere at many x y → P y) → MayWrite at many v w → AtEachMoment v w P
  written_moment at many v w stable wrote = record {
    so_far = leaves_of v w (AnyIn at many v) P (λ image any. stable any.0 image any.1 any.2) wrote.time;
    now = λ image is. let any = wrote.images image is in stable any.0 image any.1 any.2;
  }

  pub quiet_moment : (v w : DiskView) → EachImage v P → IsQuiet v w → AtEachMoment v w P
  quiet_moment v w each quiet = record { so_far = leaves_of v w v.images P each quiet.time; now = λ image is. each image (quiet.images image is) }

  pub moment_on : (a b c : DiskView) → AtEachMoment a b P → AtEachMoment b c P → AtEachMoment a c P
  moment_on a b c ab bc = record { so_far = leaves_trans a b c P ab.so_far bc.so_far; now = bc.now }

pub moment_of : (P Q : List ℕ → Type 0) (a b : DiskView) → ((image : List ℕ) → P image → Q image) → AtEachMoment a b P → AtEachMoment a b Q
moment_of P Q a b weaken ab = record { so_far = leaves_of a b P Q weaken ab.so_far; now = λ image is. weaken image (ab.now image is) }

-- a journal stands on where only bytes outside its region change
module _ (v w : DiskView) (j : JournalPlace) (at many : ℕ) (apart : (j.end ≤ at) ⊎ (at + many ≤ j.from)) (wrote : MayWrite at many v w) (stands : JournalInvariant v j) where
  same_in : (x y : List ℕ) → SameElsewhere at many x y → region_of j.from j.end y ≡ region_of j.from j.end x
  same_in x y same = outside at many j.from j.end x y (omega (arith, stands.first, stands.last)) same apart

  has_in : (x y : List ℕ) → SameElsewhere at many x y → (all : List (List ℕ)) → RegionHas j x all → RegionHas j y all
  has_in x y same all has = subst (λ (l : List ℕ). HasPayloads l all) (sym (same_in x y same)) has

  has_back : (x y : List ℕ) → SameElsewhere at many x y → (all : List (List ℕ)) → RegionHas j y all → RegionHas j x all
  has_back x y same all has = subst (λ (l : List ℕ). HasPayloads l all) (same_in x y same) has

  was : (bytes : List ℕ) → w.told ≡ Some bytes → (x : List ℕ) × (v.told ≡ Some x) × SameElsewhere at many x bytes
  was bytes told =
      let before = told_before v w wrote.goes_on bytes told in
      let now = wrote.told before.0 before.1 in
      (before.0, before.1, subst (λ (l : List ℕ). SameElsewhere at many before.0 l) (sym (some_same now.0 bytes w.told now.1 told)) now.2)

  pub stands_outside : JournalInvariant w j
  stands_outside = record {
    inside = omega (arith, stands.inside, wrote.goes_on.size);
    first = stands.first;
    last = stands.last;
    payloads = λ bytes told.
        let x = was bytes told in
        let left = stands.payloads x.0 x.1 in
        record { given = left.given; left = left.left; read = record { holds = has_in x.0 bytes x.2 (left.given ++ left.left) left.read.holds; place = left.read.place } };
    gate = λ sound bytes told all has. let x = was bytes told in stands.gate sound x.0 x.1 all (has_back x.0 bytes x.2 all has);
    images = λ sound bytes told image is all has.
        let x = was bytes told in
        let any = wrote.images image is in
        has_in any.0 image any.2 all (stands.images sound x.0 x.1 any.0 any.1 all (has_back x.0 bytes x.2 all has));
  }
