use Rattle.std.proofs.Common.{◌≡◌, ◌++◌, drop}
use Rattle.std.specs.Prelude.{flat_map}
use Rattle.manifest_model.specs.Version.{head_bytes, row_bytes}
use Rattle.manifest.proofs.writing.body_of.Given as goal

-- what is written and the rows that are left make all before the sum
abbrev pub invariant-loop-row : goal.invariant-loop-row
invariant-loop-row l = l.out.items ++ flat_map (row_bytes 2) (drop l.row-index l.rows) ≡ head_bytes 2 (record l.version.version { epoch = l.epoch }) ++ flat_map (row_bytes 2) l.version.version.rows
