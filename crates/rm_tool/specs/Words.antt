-- The words of the tool. This project's own.
use Rattle.std.specs.Prelude.{ℕ, List, [], ◌∷◌, Option, None, Some, if◌then◌else◌, codes}
use Rattle.std.specs.Str.{bytes_eq}
use Rattle.rm_tool.specs.declared.words.Mode.{Mode}
use Rattle.rm_tool.specs.declared.words.Mode.TheVariants as modes
use Rattle.rm_words.specs.Words.{are_names}

-- what the words ask for, with names as lists of bytes: a check of a file, a store of the old form as one of two areas, what can be salvaged of a file; a summary of
-- a page, what it tells of an id, or a picture of it
pub data ToolRequest : Type 0 where
  Check : (file : List ℕ) → ToolRequest
  Convert : (old new : List ℕ) → ToolRequest
  Salvage : (file new : List ℕ) → ToolRequest
  Summary : (page : List ℕ) → ToolRequest
  Follow : (page id : List ℕ) → ToolRequest
  Draw : (page : List ℕ) → ToolRequest

-- a mode as it is asked for
abbrev pub requested : Mode → ToolRequest
requested (modes.Check file) = Check file.now
requested (modes.Convert old new) = Convert old.now new.now
requested (modes.Salvage file new) = Salvage file.now new.now
requested (modes.Summary page) = Summary page.now
requested (modes.Follow page id) = Follow page.now id.now
requested (modes.Draw page) = Draw page.now

-- what words ask for of which none begins with `-`: `check`, `summary` or `draw` and a name, or `convert`, `salvage` or `follow` and two
abbrev pub request_named : List (List ℕ) → Option ToolRequest
request_named (mode ∷ file ∷ []) =
    if bytes_eq mode (codes "check") then Some (Check file) else if bytes_eq mode (codes "summary") then Some (Summary file) else if bytes_eq mode (codes "draw") then Some (Draw file) else None
request_named (mode ∷ file ∷ new ∷ []) =
    if bytes_eq mode (codes "convert") then Some (Convert file new) else if bytes_eq mode (codes "salvage") then Some (Salvage file new) else if bytes_eq mode (codes "follow") then Some (Follow file new) else None
request_named _ = None

-- what the words ask for
abbrev pub request_of : List (List ℕ) → Option ToolRequest
request_of words = if are_names words then request_named words else None
