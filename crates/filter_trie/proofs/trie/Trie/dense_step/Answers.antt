use Rattle.filter_trie.proofs.Walking.{dense_down, dense_leaf, dense_none}
use Rattle.filter_trie.specs.Parts.{AreParts}
use Rattle.filter_trie.proofs.trie.Trie.dense_step.Goals as goal

pub returns-in_None-dense : goal.returns-in_None-dense
returns-in_None-dense g c =
    let s : AreParts c.args.self.now c.self.inside.cutoff c.self.inside.height c.self.inside.dense c.self.inside.sparse c.self.inside.suffixes = rw c.self.view_is at c.self.invariant.0 in
    dense_none s c.args.node c.args.byte c.requires c.ranges.byte.fits (rw s.dense_is at c.in_None-dense.ensures)

pub returns-in-Some : goal.returns-in-Some
returns-in-Some g c =
    let s : AreParts c.args.self.now c.self.inside.cutoff c.self.inside.height c.self.inside.dense c.self.inside.sparse c.self.inside.suffixes = rw c.self.view_is at c.self.invariant.0 in
    dense_down s c.args.node c.args.byte c.in_Some-dense.place c.in-Some.child c.requires c.ranges.byte.fits (rw s.dense_is at c.in_Some-dense.ensures) (rw s.dense_is at c.in-Some.ensures)

pub returns-in-None : goal.returns-in-None
returns-in-None g c =
    let s : AreParts c.args.self.now c.self.inside.cutoff c.self.inside.height c.self.inside.dense c.self.inside.sparse c.self.inside.suffixes = rw c.self.view_is at c.self.invariant.0 in
    dense_leaf s c.args.node c.args.byte c.in_Some-dense.place c.leaf_slot.result c.requires c.ranges.byte.fits (rw s.dense_is at c.in_Some-dense.ensures) (rw s.dense_is at c.in-None.ensures) (rw s.dense_is at c.leaf_slot.ensures)
