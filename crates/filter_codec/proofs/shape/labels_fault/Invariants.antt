use Rattle.std.proofs.Common.{◌≡◌, ◌+◌, drop, length}
use Rattle.filter_codec.specs.Rules.{labels_place}
use Rattle.filter_image_model.specs.Reading.{nodes_fault}
use Rattle.filter_model.specs.Nodes.{first_place}
use Rattle.filter_codec.proofs.shape.labels_fault.Given as goal

-- the nodes so far are such as a trie may have, and the next one begins here
abbrev pub invariant-loop-node : goal.invariant-loop-node
invariant-loop-node g l =
    (l.start ≡ first_place l.packed.sparse l.node)
    × (nodes_fault length l.leaves (labels_place (length l.packed.dense)) l.packed.sparse ≡ nodes_fault length l.leaves (labels_place (length l.packed.dense) + l.start) (drop l.node l.packed.sparse))
