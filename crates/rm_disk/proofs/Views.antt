-- How one call of a disk goes on from another.
use Rattle.std.proofs.Common.{◌≡◌, ⊎_elim, inl, inr, ℕ, ◌+◌, ◌-◌, ◌≤◌, List, take, drop, Option, None, Some, true, arith, refl, sym, ap, ◌∙◌}
use Rattle.std.specs.Prelude.{is_some}
use Rattle.std.proofs.lemmas.Bool.{false≢true}
use Rattle.std.proofs.lemmas.List.{take-take, drop-drop}
use Rattle.rm_disk.specs.Disk.{SameElsewhere, DiskView, Leaves, IsLaterView, IsQuiet, MayWrite, AnyIn}

pub elsewhere_same : (at many : ℕ) (bytes : List ℕ) → SameElsewhere at many bytes bytes
elsewhere_same at many bytes = record { before = refl; after = refl; size = refl }

pub elsewhere_trans : (at many : ℕ) (a b c : List ℕ) → SameElsewhere at many a b → SameElsewhere at many b c → SameElsewhere at many a c
elsewhere_trans at many a b c ab bc = record { before = bc.before ∙ ab.before; after = bc.after ∙ ab.after; size = bc.size ∙ ab.size }

pub elsewhere_back : (at many : ℕ) (a b : List ℕ) → SameElsewhere at many a b → SameElsewhere at many b a
elsewhere_back at many a b ab = record { before = sym ab.before; after = sym ab.after; size = sym ab.size }

-- A part of the range.
pub elsewhere_wider : (at many from part : ℕ) (a b : List ℕ) → at ≤ from → from + part ≤ at + many → SameElsewhere from part a b → SameElsewhere at many a b
elsewhere_wider at many from part a b low high ab =
    let k : at + many ≡ from + part + (at + many - (from + part)) = omega arith in
    let rest : ℕ = at + many - (from + part) in
    record {
      before = sym (take-take at from b low) ∙ ap (λ (l : List ℕ). take at l) ab.before ∙ take-take at from a low;
      after = ap (λ (i : ℕ). drop i b) k ∙ sym (drop-drop rest (from + part) b) ∙ ap (λ (l : List ℕ). drop rest l) ab.after ∙ drop-drop rest (from + part) a ∙ sym (ap (λ (i : ℕ). drop i a) k);
      size = ab.size;
    }

some_if : (o : Option (List ℕ)) → is_some o ≡ true → (bytes : List ℕ) × (o ≡ Some bytes)
some_if None never = absurd (false≢true never)
some_if (Some bytes) told = (bytes, refl)

-- what a disk tells after a call it told before
pub told_before : (a b : DiskView) → IsLaterView a b → (bytes : List ℕ) → b.told ≡ Some bytes → (was : List ℕ) × (a.told ≡ Some was)
told_before a b ab bytes told = some_if a.told (sym ab.tells ∙ ap (λ (o : Option (List ℕ)). is_some o) told)

pub told_after : (a b : DiskView) → IsLaterView a b → (bytes : List ℕ) → a.told ≡ Some bytes → (now : List ℕ) × (b.told ≡ Some now)
told_after a b ab bytes told = some_if b.told (ab.tells ∙ ap (λ (o : Option (List ℕ)). is_some o) told)

pub goes_on_same : (a : DiskView) → IsLaterView a a
goes_on_same a = record { size = refl; tells = refl; past = λ t image le was. was; faults = omega arith }

pub goes_on_trans : (a b c : DiskView) → a.moment ≤ b.moment → IsLaterView a b → IsLaterView b c → IsLaterView a c
goes_on_trans a b c le ab bc = record {
  size = bc.size ∙ ab.size;
  tells = bc.tells ∙ ab.tells;
  past = λ t image before was. bc.past t image (omega arith) (ab.past t image before was);
  faults = omega (arith, ab.faults, bc.faults);
}

pub leaves_same : (a : DiskView) (P : List ℕ → Type 0) → Leaves a a P
leaves_same a P = record { later = omega arith; each = λ t image le was. inl was }

pub leaves_trans : (a b c : DiskView) (P : List ℕ → Type 0) → Leaves a b P → Leaves b c P → Leaves a c P
leaves_trans a b c P ab bc = record {
  later = omega (arith, ab.later, bc.later);
  each = λ t image le since. ⊎_elim (λ was. ab.each t image le was) (λ p. inr p) (bc.each t image (omega (arith, ab.later)) since);
}

pub leaves_of : (a b : DiskView) (P Q : List ℕ → Type 0) → ((image : List ℕ) → P image → Q image) → Leaves a b P → Leaves a b Q
leaves_of a b P Q weaken ab = record {
  later = ab.later;
  each = λ t image le since. ⊎_elim (λ was. inl was) (λ p. inr (weaken image p)) (ab.each t image le since);
}

pub quiet_same : (a : DiskView) → IsQuiet a a
quiet_same a = record { goes_on = goes_on_same a; told = refl; images = λ image now. now; time = leaves_same a a.images }

pub quiet_trans : (a b c : DiskView) → IsQuiet a b → IsQuiet b c → IsQuiet a c
quiet_trans a b c ab bc = record {
  goes_on = goes_on_trans a b c ab.time.later ab.goes_on bc.goes_on;
  told = bc.told ∙ ab.told;
  images = λ image now. ab.images image (bc.images image now);
  time = leaves_trans a b c a.images ab.time (leaves_of b c b.images a.images ab.images bc.time);
}

-- a write is a write in a larger range
pub write_wider : (at n from m : ℕ) (a b : DiskView) → at ≤ from → from + m ≤ at + n → MayWrite from m a b → MayWrite at n a b
write_wider at n from m a b low high ab =
    let widen : (image : List ℕ) → AnyIn from m a image → AnyIn at n a image = λ image (was, is, same). (was, is, elsewhere_wider at n from m was image low high same) in
    record {
      goes_on = ab.goes_on;
      told = λ bytes told. let now = ab.told bytes told in (now.0, now.1, elsewhere_wider at n from m bytes now.0 low high now.2);
      images = λ image now. widen image (ab.images image now);
      time = leaves_of a b (AnyIn from m a) (AnyIn at n a) widen ab.time;
    }

-- A call that does nothing but count.
pub quiet_counted : (a b : DiskView) → b.size ≡ a.size → b.told ≡ a.told → b.moment ≡ a.moment → ((image : List ℕ) → b.images image → a.images image)
    → ((from : ℕ) (image : List ℕ) → b.left_since from image → a.left_since from image) → ((from : ℕ) (image : List ℕ) → a.left_since from image → b.left_since from image)
    → a.faults ≤ b.faults → IsQuiet a b
quiet_counted a b size told moment images back past faults = record {
  goes_on = record { size = size; tells = ap (λ (o : Option (List ℕ)). is_some o) told; past = λ from image _ was. past from image was; faults = faults };
  told = told;
  images = images;
  time = record { later = omega (arith, moment); each = λ from image _ left. inl (back from image left) };
}

-- A quiet call writes nothing anywhere.
pub quiet_writes : (at many : ℕ) (a b : DiskView) → IsQuiet a b → MayWrite at many a b
quiet_writes at many a b ab = record {
  goes_on = ab.goes_on;
  told = λ before told. (before, ab.told ∙ told, elsewhere_same at many before);
  images = λ image now. (image, ab.images image now, elsewhere_same at many image);
  time = leaves_of a b a.images (AnyIn at many a) (λ image was. (image, was, elsewhere_same at many image)) ab.time;
}
