-- The numbers in the texts of ids: digits and ranges as `IdTexts` of `rm_types` has them, as a table.
use Rattle.std.specs.Prelude.{ℕ, ◌-◌}
use Rattle.rm_types.specs.declared.limits.TheConstants.{EPOCHS, SEQUENCES, NUMBERS, STAMPS}
use Rattle.rm_formats.specs.declared.ids.parts.Part.{Part}
use Rattle.rm_formats.specs.declared.ids.parts.Part.TheVariants.{Stamp, AppNumber, AttemptNumber, AttemptInContainer, Epoch, Sequence}

-- in how many digits it is written at least
abbrev pub least_digits : Part → ℕ
least_digits Stamp = 1
least_digits AppNumber = 4
least_digits AttemptNumber = 6
least_digits AttemptInContainer = 2
least_digits Epoch = 2
least_digits Sequence = 6

-- the greatest; the least is 1
abbrev pub greatest : Part → ℕ
greatest Stamp = STAMPS - 1
greatest AppNumber = NUMBERS - 1
greatest AttemptNumber = NUMBERS - 1
greatest AttemptInContainer = NUMBERS - 1
greatest Epoch = EPOCHS - 1
greatest Sequence = SEQUENCES - 1
