use Rattle.std.proofs.Common.{◌≡◌, ℕ, ◌+◌, ◌<◌, take, drop, Option, Some, List, ◌∷◌, ◌++◌, refl, sym, ◌∙◌, subst}
use Rattle.rm_journal.specs.Journal.{region_of, FindsAt}
use Rattle.rm_journal.proofs.two_areas.Heads.{payload_read}
use Rattle.rm_tool.specs.salvage.Forms.{HasFirst}
use Rattle.rm_tool.proofs.salvage.looks.look.Goals as goal

found_there : (gate end many : ℕ) (bytes read : List ℕ) → FindsAt gate end bytes (Some many) → gate + 5 + many < end → read ≡ take many (drop (gate + 5) bytes) → HasFirst (region_of gate end bytes) read
found_there gate end many bytes read (payload, next, rest, small, exact, is) room reads =
    let same : read ≡ payload = reads ∙ payload_read gate end many bytes payload next rest exact room is in
    subst (λ (l : List ℕ). HasFirst (region_of gate end bytes) l) (sym same) (record { small = small; next = next; rest = rest; is = is })

pub returns-clause-found : goal.returns-clause-found
returns-clause-found c =
    let bytes = c.args.disk.now in
    let found = subst (λ (o : Option ℕ). FindsAt c.args.gate c.args.end bytes o) c.in-Ok-Some.field-0-is (c.in-Ok-Some.ensures.found bytes refl) in
    let bounds = rw c.in-Ok-Some.field-0-is at c.in-Ok-Some.ensures.bounds in
    found_there c.args.gate c.args.end c.in-Ok-Some.length bytes c.fetch.new.bytes.items found bounds.2 (subst (λ (l : List ℕ). c.fetch.new.bytes.items ≡ take c.in-Ok-Some.length (drop (c.args.gate + 5) l)) c.record_at.ensures.kept c.in_ok-fetch.ensures.bytes)
