use Rattle.std.proofs.Common.{◌≡◌, ◌+◌, ◌*◌, drop}
use Rattle.filter_image_model.specs.Reading.{nodes_fault}
use Rattle.filter_codec.proofs.shape.rows_fault.Given as goal

-- the nodes so far are such as a trie may have
abbrev pub invariant-loop-node : goal.invariant-loop-node
invariant-loop-node g l =
    nodes_fault (λ n. 32) l.leaves 40 l.packed.dense ≡ nodes_fault (λ n. 32) l.leaves (40 + 32 * l.node) (drop l.node l.packed.dense)
