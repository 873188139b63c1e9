-- Which passes are a baton's.
use Rattle.crossbeam_queue.specs.Passes.{Pass, IsPassOf as IsPassOfQueue}
use Rattle.rm_baton.specs.declared.baton.Baton.{Baton}
use Rattle.rm_baton.specs.declared.carries.Known.{Known}

-- the pass is of this baton
abbrev pub IsPassOf : {T Run : Type 0} → Baton T Run → Pass T (Known Run T) → Type 0
IsPassOf baton pass = IsPassOfQueue baton.queue pass
