use Rattle.std.proofs.Common.{◌≡◌, ◌++◌, drop}
use Rattle.state_model.specs.Tends as model
use Rattle.plain_store.proofs.installing.inserted.Given as goal

-- the new one belongs after the tables so far
abbrev pub invariant-loop-i : goal.invariant-loop-i
invariant-loop-i l = l.list.items ++ model.inserted (drop l.i l.tables) l.new ≡ model.inserted l.tables l.new
