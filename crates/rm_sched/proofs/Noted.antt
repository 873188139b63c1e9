-- Where there is no memory for what follows, containers that were noted as they leave are forgotten again, and the tables are as they were.
use Rattle.std.proofs.Common.{◌≡◌, List, length, take, refl, ap}
use Rattle.rm_types.specs.declared.ids.ContainerId.{ContainerId}
use Rattle.rm_book.specs.Books.{BookOf}
use Rattle.rm_tables.specs.declared.events.MainEvent.{MainEvent}
use Rattle.rm_tables.specs.declared.tables.Tables.{Tables}
use Rattle.rm_tables.specs.ContainerSets.{with_containers}
use Rattle.rm_tables.specs.Leaving.{departing}
use Rattle.rm_tables.proofs.ContainerSets.{joined_front}

pub forgotten : (t now : Tables) (ids departed : List ContainerId) (book : BookOf) (main : List MainEvent) → now ≡ record t { departed = with_containers t.departed (departing t ids) } → departed ≡ take (length t.departed) now.departed
    → book ≡ now.book → main ≡ now.main → record now { departed = departed; book = book; main = main } ≡ t
forgotten t now ids departed book main noted left same_book same_main =
    rw (left, same_book, same_main, noted) (ap (λ (set : List ContainerId). record t { departed = set }) (joined_front t.departed (departing t ids)))
