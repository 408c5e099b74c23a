-- The code's leaves as the definitions see them.
use Rattle.filter_api.specs.declared.leaves.Leaf.{Leaf}
use Rattle.filter_model.specs.Leaves.{Leaf as PlainLeaf}

-- a leaf by its stub's bytes
abbrev pub seen : Leaf → PlainLeaf
seen l = record { stub = l.stub.items; ends = l.ends; hash = l.hash; real = l.real }
