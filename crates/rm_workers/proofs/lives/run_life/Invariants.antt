-- The life begins with this desk and this device.
use Rattle.rm_workers.specs.Began.{began_with}
use Rattle.rm_workers.proofs.lives.run_life.Given as goal

abbrev pub ghosts-live : goal.ghosts-live
ghosts-live g a = record { began = began_with g.D.Disk.view a.desk a.store.disk }
