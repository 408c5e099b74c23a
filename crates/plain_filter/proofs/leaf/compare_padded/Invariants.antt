use Rattle.std.proofs.Common.{◌≡◌, length}
use Rattle.std.specs.Ordering.{nat_cmp}
use Rattle.filter_model.specs.Strings.{prefix_number}
use Rattle.plain_filter.proofs.LeafLemmas.{padded_cmp}
use Rattle.plain_filter.proofs.leaf.compare_padded.Given as goal

-- the bytes passed are alike
abbrev pub invariant-loop-i : goal.invariant-loop-i
invariant-loop-i l = nat_cmp (prefix_number (length l.stub) l.stub) (prefix_number (length l.stub) l.lo) ≡ padded_cmp l.stub l.lo l.i
