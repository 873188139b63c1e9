-- What a reader of a line, or of a part of one, answers.
use Rattle.std.specs.Prelude.{◌≡◌, Option, Some, None, Result, Ok, Err}
use Rattle.std.specs.Option.{option_and_then}
use Rattle.rm_lines.specs.declared.errors.LineError.{LineError}
use Rattle.rm_lines.specs.declared.errors.LineError.TheVariants.{Refused, Memory}

-- what is given, as a word or words, is what the value is written as, and the value fits
pub record IsOf {X Y : Type 0} (written : X → Y) (Fits : X → Type 0) (given : Y) (value : X) : Type 0 where
  pub same : given ≡ written value
  pub fits : Fits value

-- the error says that there is no value of which this holds, or that memory ran out
abbrev pub FindsNone : {X : Type 0} → LineError → (X → Type 0) → Type 0
FindsNone {X} (Refused fault) Is = (value : X) → Is value → ⊥
FindsNone Memory Is = Unit {0}

-- the answer is a value of which this holds, or there is none, unless memory ran out
abbrev pub Finds : {X : Type 0} → Result X LineError → (X → Type 0) → Type 0
Finds (Ok value) Is = Is value
Finds (Err error) Is = FindsNone error Is

infixl 10 ◌>>=◌
-- where there is a value, what follows from it
abbrev pub ◌>>=◌ : {A B : Type 0} → Option A → (A → Option B) → Option B
o >>= f = option_and_then f o

-- the error says that a function gives nothing, or that memory ran out
abbrev pub Fails : {X : Type 0} → LineError → Option X → Type 0
Fails (Refused fault) read = read ≡ None
Fails Memory read = Unit {0}

-- the answer is what a function gives, unless memory ran out
abbrev pub Gives : {X : Type 0} → Result X LineError → Option X → Type 0
Gives (Ok value) read = read ≡ Some value
Gives (Err error) read = Fails error read
