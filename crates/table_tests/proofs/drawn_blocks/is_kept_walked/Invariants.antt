use Rattle.block_format.specs.Walking.{StandsAfter}
use Rattle.table_tests.proofs.drawn_blocks.is_kept_walked.Given as goal

-- the entries that are left stand after the key in the buffer
abbrev pub invariant-loop-entry : goal.invariant-loop-entry
invariant-loop-entry l = StandsAfter l.walk l.buffer l.bytes
