-- The first of a list of operations, of which the shape is known.
use Rattle.std.proofs.Common.{◌≡◌, List, [], ◌∷◌, Some, true, slice_get, ap, refl, sym, ◌∙◌}
use Rattle.rm_types.specs.declared.operations.Op.{Op}
use Rattle.rm_types.specs.Records.{Records, fits_records}

pub record IsFirst (ops rest : List Op) (op shape : Op) : Type 0 where
  pub list : ops ≡ shape ∷ rest
  pub shape_is : shape ≡ op

pub first_is : (ops rest : List Op) (first op shape : Op) → Some first ≡ slice_get ops 0 → ops ≡ op ∷ rest → first ≡ shape → IsFirst ops rest op shape
first_is ops rest first op shape found list is =
    let at : slice_get ops 0 ≡ Some op = ap (λ (l : List Op). slice_get l 0) list in
    let same : shape ≡ op = cc in
    record { list = list ∙ ap (λ (o : Op). o ∷ rest) (sym same); shape_is = same }

-- what each first operation of a list fits, the first one fits
pub first_fits : (r : Records) (ops : List Op) (first : Op) → Some first ≡ slice_get ops 0 → ((op : Op) (rest : List Op) → ops ≡ op ∷ rest → fits_records r op ≡ true) → fits_records r first ≡ true
first_fits r [] first found fits = cc
first_fits r (op ∷ ops) first found fits =
    let same : first ≡ op = cc in
    rw same (fits op ops refl)
