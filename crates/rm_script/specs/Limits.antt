-- The limits that are a script's alone: of its bytes and of the numbers in it. This project's own.
use Rattle.std.specs.Prelude.{ℕ}
use Rattle.rm_script.specs.declared.limits.TheConstants.{MOST_BYTES, MOST_LINE_BYTES, GREATEST_CALLS, GREATEST_IMAGE, GREATEST_RESPONSE, GREATEST_TURN, GREATEST_TICK}

-- how many bytes a script may have, line feeds counted
abbrev pub most_bytes : ℕ
most_bytes = MOST_BYTES

-- how many bytes a line may have, without its line feed
abbrev pub most_line_bytes : ℕ
most_line_bytes = MOST_LINE_BYTES

-- how many device calls a crash lets pass at most
abbrev pub greatest_calls : ℕ
greatest_calls = GREATEST_CALLS

-- the greatest number of an image that the device falls to
abbrev pub greatest_image : ℕ
greatest_image = GREATEST_IMAGE

-- the greatest response id that a master or a node names
abbrev pub greatest_response : ℕ
greatest_response = GREATEST_RESPONSE

-- the greatest turn of a node's registration; 1 is the least
abbrev pub greatest_turn : ℕ
greatest_turn = GREATEST_TURN

-- how many milliseconds one tick of the clock is at most; 1 is the least
abbrev pub greatest_tick : ℕ
greatest_tick = GREATEST_TICK
