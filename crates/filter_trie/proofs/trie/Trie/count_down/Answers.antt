use Rattle.std.proofs.Common.{◌+◌, ◌-◌, arith, ap}
use Rattle.filter_image_model.proofs.Sizes.{low_height}
use Rattle.filter_model.specs.Trie.{height}
use Rattle.filter_trie.proofs.LevelStarts.{none_down, nodes_within, one_down, slots_within}
use Rattle.filter_trie.proofs.Parts.{has_trie, tall}
use Rattle.filter_trie.specs.LevelStarts.{slots_down}
use Rattle.filter_trie.specs.Parts.{AreParts}
use Rattle.filter_trie.specs.Places.{trie}
use Rattle.trie_model.specs.Halves.{begin_of}
use Rattle.filter_trie.proofs.trie.Trie.count_down.Goals as goal

pub loop-init : goal.loop-init
loop-init g c = (c.requires.level, c.requires.node, omega arith, omega arith)

pub overflow_add-sum : goal.overflow_add-sum
overflow_add-sum g c =
    let s : AreParts c.args.self.now c.self.inside.cutoff c.self.inside.height c.self.inside.dense c.self.inside.sparse c.self.inside.suffixes = rw c.self.view_is at c.self.invariant.0 in
    let few = s.may_stand.valid.few in
    omega (
      arith,
      c.loop.invariant.0,
      c.loop.invariant.2,
      few,
      low_height c.args.self.now.hash_bits c.args.self.now.real_bits c.args.self.now.leaves s.may_stand.valid,
      c.before_node-slots.ensures.slots,
      slots_within c.args.self.now.leaves (begin_of (trie c.args.self.now) c.loop.at) (has_trie s),
    )

pub loop-preserved : goal.loop-preserved
loop-preserved g c =
    let s : AreParts c.args.self.now c.self.inside.cutoff c.self.inside.height c.self.inside.dense c.self.inside.sparse c.self.inside.suffixes = rw c.self.view_is at c.self.invariant.0 in
    let few = s.may_stand.valid.few in
    let place = begin_of (trie c.args.self.now) c.loop.at in
    let slots = slots_within c.args.self.now.leaves place (has_trie s) in (
      omega (arith, c.loop-test.true, s.levels_are),
      omega (arith, c.before_node-slots.ensures.below, nodes_within c.args.self.now.leaves place (tall s)),
      omega (arith, c.loop.invariant.2, c.before_node-slots.ensures.slots, slots, few),
      omega (
        arith,
        c.loop.invariant.3,
        c.before_node-slots.ensures.slots,
        one_down (trie c.args.self.now) (height c.args.self.now.leaves) c.loop.counter c.loop.at (omega (arith, c.loop-test.true, s.levels_are)),
        ap (slots_down (trie c.args.self.now) (height c.args.self.now.leaves - (c.loop.counter + 1))) c.before_node-slots.ensures.below,
      ),
    )

pub returns-clause-sum : goal.returns-clause-sum
returns-clause-sum g c =
    let s : AreParts c.args.self.now c.self.inside.cutoff c.self.inside.height c.self.inside.dense c.self.inside.sparse c.self.inside.suffixes = rw c.self.view_is at c.self.invariant.0 in
    omega (arith, c.loop.invariant.3, none_down (trie c.args.self.now) (height c.args.self.now.leaves) c.loop.counter c.loop.at (omega (arith, c.loop-test.false, s.levels_are)))

pub returns-clause-few : goal.returns-clause-few
returns-clause-few g c =
    let s : AreParts c.args.self.now c.self.inside.cutoff c.self.inside.height c.self.inside.dense c.self.inside.sparse c.self.inside.suffixes = rw c.self.view_is at c.self.invariant.0 in
    omega (arith, c.loop.invariant.0, c.loop.invariant.2, low_height c.args.self.now.hash_bits c.args.self.now.real_bits c.args.self.now.leaves s.may_stand.valid)
