use Rattle.std.proofs.Common.{arith}
use Rattle.rm_lines.proofs.Parts.{found_as}
use Rattle.rm_page_reader.proofs.parts.long_number.Goals as goal

pub returns : goal.returns
returns c =
    found_as _ _ c.long_number.result (λ n is. record { same = is.same; fits = omega (arith, is.fits.1) }) (λ n is. record { same = is.same; fits = (omega arith, omega (arith, is.fits)) }) c.long_number.ensures
