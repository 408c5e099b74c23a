use Rattle.std.proofs.Common.{◌≡◌, ◌++◌, map, drop}
use Rattle.extent_model.specs.Extents.{end_of}
use Rattle.extent_model.specs.Gaps.{gap_starts}
use Rattle.plain_store.proofs.gaps.gap_starts.Given as goal

-- the starts so far and the ends that are left make all starts
abbrev pub invariant-loop-extent : goal.invariant-loop-extent
invariant-loop-extent l = l.starts.items ++ map end_of (drop l.extent-index l.extents) ≡ gap_starts l.extents
