use Rattle.std.proofs.Common.{◌≡◌, drop, take, []}
use Rattle.state_model.specs.Merges.{split_output}
use Rattle.plain_store.proofs.outputs.first_output.Given as goal

-- the output has the entries so far
abbrev pub invariant-loop-n : goal.invariant-loop-n
invariant-loop-n l = split_output (take l.n l.entries) (drop l.n l.entries) ≡ split_output [] l.entries
