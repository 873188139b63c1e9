-- What `clap` reads the words of a program as. This project's own.
use Rattle.std.specs.Prelude.{◌≡◌, List, [], Bool, true, false, Some, codes, option_map}
use Rattle.clap.specs.Words.{App, Rule, Text, found_of, matched_of, new_rule, one_text, raw_values, with_rule}
use Rattle.clap.specs.Simple.{new_shape}
use Rattle.clap.specs.declared.builder.action.ArgAction.TheVariants.{Append, SetTrue}
use Rattle.clap.specs.declared.parser.matches.ArgMatches.{ArgMatches}
use Rattle.rm_words.specs.Words.{is_in_file, names, shows_moves}
use Rattle.rm_types.specs.Lists.{unless_empty}

-- a flag, which takes no value
abbrev pub flag : Text → Rule
flag name = record (new_rule name) { long = Some name; action = Some SetTrue }

-- the names, each of them a value of its own
abbrev pub named : Rule
named = record (new_rule (codes "names")) { action = Some Append }

-- a command whose words are its arguments alone, and which has no flag for help
abbrev pub bare_program : App
bare_program = record { top = record (new_shape (codes "yewendro")) { no_binary_name = true; disable_help_flag = true }; subs = [] }

-- the command that the words are read by: the two flags, and any number of names
abbrev pub program : App
program = with_rule (with_rule (with_rule bare_program (flag (codes "file"))) (flag (codes "moves"))) named

-- a flag, as matches tell it
abbrev pub flag_value : Bool → Text
flag_value true = codes "true"
flag_value false = codes "false"

-- the matches hold the names among the words in their order, and whether each flag stands among them
pub record MatchesWords (matches : ArgMatches) (words : List Text) : Type 0 where
  pub named : option_map raw_values (matched_of (found_of matches) (codes "names")) ≡ unless_empty (names words)
  pub moves : one_text (found_of matches) (codes "moves") ≡ Some (flag_value (shows_moves words))
  pub file : one_text (found_of matches) (codes "file") ≡ Some (flag_value (is_in_file words))

-- the matches hold the words in their order, all of them as names
abbrev pub MatchesNames : ArgMatches → List Text → Type 0
MatchesNames matches words = option_map raw_values (matched_of (found_of matches) (codes "names")) ≡ unless_empty words
