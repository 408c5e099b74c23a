use Rattle.std.proofs.Common.{◌≡◌, false}
use Rattle.louds_dense.specs.Building.{with_byte_bits}
use Rattle.louds_dense.proofs.Built.{AreBytesTo}
use Rattle.trie_model.specs.Given.{node_given}
use Rattle.louds_dense.proofs.sections.Sections.push_bytes.Given as goal

-- the bytes so far, and the branches by these
abbrev pub invariant-loop-i : goal.invariant-loop-i
invariant-loop-i g l = (l.self ≡ with_byte_bits l.next (node_given false l.branches) l.fn.self) × AreBytesTo l.branches l.i l.next
