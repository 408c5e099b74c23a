use Rattle.std.proofs.Common.{◌≡◌, drop, fold, map}
use Rattle.range_model.specs.Sources.{source_of, with_change}
use Rattle.plain_store.specs.ChangeKinds.{change_of}
use Rattle.plain_store.proofs.source.source_of.Given as goal

-- what is left goes into the source so far
abbrev pub invariant-loop-change : goal.invariant-loop-change
invariant-loop-change l = fold with_change l.source (map change_of (drop l.change-index l.changes)) ≡ source_of (map change_of l.changes)
