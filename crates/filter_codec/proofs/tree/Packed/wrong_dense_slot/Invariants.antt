use Rattle.std.proofs.Common.{◌≡◌, take}
use Rattle.std.specs.Prelude.{None}
use Rattle.filter_codec.specs.Ends.{wrong_end}
use Rattle.filter_image_model.specs.Reading.{slot_letters}
use Rattle.filter_codec.proofs.tree.Packed.wrong_dense_slot.Given as goal

-- none so far
abbrev pub invariant-loop-node : goal.invariant-loop-node
invariant-loop-node g l = wrong_end l.suffixes 0 (slot_letters (take l.node l.self.dense)) ≡ None
