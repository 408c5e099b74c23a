use Rattle.std.specs.Prelude.{◌≡◌, ◌++◌, drop, length, take}
use Rattle.filter_iter.specs.CursorPath.{bytes_of_way}
use Rattle.filter_iter.proofs.stubs.write_stub.Given as goal

-- the bytes of the passes so far are written
abbrev pub invariant-loop-pass : goal.invariant-loop-pass
invariant-loop-pass l = (l.out ≡ bytes_of_way (take l.pass-index l.way) ++ drop l.count l.initial.out) × (l.count ≡ length (bytes_of_way (take l.pass-index l.way)))
