use Rattle.std.proofs.Common.{◌≡◌, map, take}
use Rattle.key_truncate.proofs.Neighbours.{shared_before}
use Rattle.key_truncate.specs.Stubs.{stub_in}
use Rattle.key_truncate.proofs.stubs.truncate.Given as goal

-- the stubs of the keys passed, and what the last of them shares with the next key
abbrev pub invariant-loop-i : goal.invariant-loop-i
invariant-loop-i l = (l.stubs.items ≡ map (stub_in l.keys) (take l.i l.keys)) × (l.before ≡ shared_before l.keys l.i)
