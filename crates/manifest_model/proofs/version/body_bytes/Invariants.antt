use Rattle.std.proofs.Common.{◌≡◌, ◌++◌, drop}
use Rattle.std.specs.Prelude.{flat_map}
use Rattle.manifest_model.specs.Version.{head_bytes, row_bytes}
use Rattle.manifest_model.proofs.version.body_bytes.Given as goal

-- what is written and the rows that are left make all before the sum
abbrev pub invariant-loop-row : goal.invariant-loop-row
invariant-loop-row l = l.out.items ++ flat_map (row_bytes l.format) (drop l.row-index l.row-items) ≡ head_bytes l.format l.version ++ flat_map (row_bytes l.format) l.version.rows
