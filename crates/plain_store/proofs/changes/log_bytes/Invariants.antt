use Rattle.std.proofs.Common.{◌≡◌, ◌+◌, drop, map}
use Rattle.state_model.specs.Logs.{filled_by}
use Rattle.plain_store.specs.ChangeKinds.{change_of}
use Rattle.plain_store.proofs.changes.log_bytes.Given as goal

-- the bytes so far and those that are left
abbrev pub invariant-loop-change : goal.invariant-loop-change
invariant-loop-change l = l.bytes + filled_by (map change_of (drop l.change-index l.changes)) ≡ filled_by (map change_of l.changes)
