use Rattle.store_core.proofs.CompactSound.{HaveUpTo}
use Rattle.store_core.proofs.compacting.have_their_pages.Given as goal

-- those before this one have theirs
abbrev pub invariant-loop-i : goal.invariant-loop-i
invariant-loop-i g l = HaveUpTo l.i l.tables
