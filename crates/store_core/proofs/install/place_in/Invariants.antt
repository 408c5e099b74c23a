use Rattle.std.proofs.Common.{◌≡◌, ◌++◌, drop, take}
use Rattle.store_core.specs.Install.{put_in}
use Rattle.store_core.proofs.install.place_in.Given as goal

-- it goes before none of those so far
abbrev pub invariant-loop-place : goal.invariant-loop-place
invariant-loop-place g l = take l.place l.tables.tables ++ put_in (drop l.place l.tables.tables) l.new ≡ put_in l.tables.tables l.new
