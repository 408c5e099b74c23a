use Rattle.std.proofs.Common.{◌++◌}
use Rattle.filter_codec.specs.Tree.{IsNextLevel}
use Rattle.filter_codec.proofs.levels.next_level.Given as goal

abbrev pub invariant-loop-i : goal.invariant-loop-i
invariant-loop-i g l = IsNextLevel (l.packed.dense ++ l.packed.sparse) l.i l.start l.end
