use Rattle.std.proofs.Common.{◌<◌, take}
use Rattle.std.specs.List.{AllPairs}
use Rattle.trie_model.specs.declared.parts.Branch.{Branch}
use Rattle.trie_model.proofs.parts.are_rising.Given as goal

-- the bytes so far rise
abbrev pub invariant-loop-i : goal.invariant-loop-i
invariant-loop-i l = AllPairs (λ (a b : Branch). a.byte < b.byte) (take l.i l.branches)
