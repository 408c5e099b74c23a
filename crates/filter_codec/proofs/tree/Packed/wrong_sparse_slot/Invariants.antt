use Rattle.std.proofs.Common.{◌≡◌, take}
use Rattle.std.specs.Prelude.{None}
use Rattle.filter_codec.specs.Ends.{leaf_letters, wrong_end}
use Rattle.filter_image_model.specs.Levels.{leaf_count_of}
use Rattle.filter_model.specs.Nodes.{all}
use Rattle.filter_codec.proofs.tree.Packed.wrong_sparse_slot.Given as goal

-- none so far
abbrev pub invariant-loop-place : goal.invariant-loop-place
invariant-loop-place g l = wrong_end l.suffixes (leaf_count_of l.self.dense) (leaf_letters (take l.place (all l.self.sparse))) ≡ None
