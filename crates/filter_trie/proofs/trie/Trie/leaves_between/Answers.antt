use Rattle.std.proofs.Common.{◌+◌, ◌-◌, arith, ap}
use Rattle.filter_image_model.proofs.Sizes.{low_height}
use Rattle.filter_model.specs.Trie.{height}
use Rattle.filter_trie.proofs.LevelStarts.{nodes_within, one_down, slots_within}
use Rattle.filter_trie.proofs.Parts.{has_trie, tall}
use Rattle.filter_trie.specs.LevelStarts.{slots_down}
use Rattle.filter_trie.specs.Parts.{AreParts}
use Rattle.filter_trie.specs.Places.{trie}
use Rattle.trie_model.specs.Halves.{begin_of}
use Rattle.filter_trie.proofs.trie.Trie.leaves_between.Goals as goal

pub overflow_add-gap : goal.overflow_add-gap
overflow_add-gap g c =
    let s : AreParts c.args.self.now c.self.inside.cutoff c.self.inside.height c.self.inside.dense c.self.inside.sparse c.self.inside.suffixes = rw c.self.view_is at c.self.invariant.0 in
    let few = s.may_stand.valid.few in
    omega (
      arith,
      c.loop.invariant.0,
      c.loop.invariant.3,
      few,
      low_height c.args.self.now.hash_bits c.args.self.now.real_bits c.args.self.now.leaves s.may_stand.valid,
      c.before_node-slots.ensures.slots,
      slots_within c.args.self.now.leaves (begin_of (trie c.args.self.now) c.loop.high) (has_trie s),
    )

pub loop-preserved : goal.loop-preserved
loop-preserved g c =
    let s : AreParts c.args.self.now c.self.inside.cutoff c.self.inside.height c.self.inside.dense c.self.inside.sparse c.self.inside.suffixes = rw c.self.view_is at c.self.invariant.0 in
    let few = s.may_stand.valid.few in
    let low = begin_of (trie c.args.self.now) c.loop.low in
    let high = begin_of (trie c.args.self.now) c.loop.high in (
      omega (arith, c.loop-test.true, s.levels_are),
      omega (arith, c.before_node-passed.ensures.below, nodes_within c.args.self.now.leaves low (tall s)),
      omega (arith, c.before_node-slots.ensures.below, nodes_within c.args.self.now.leaves high (tall s)),
      omega (arith, c.loop.invariant.3, c.before_node-slots.ensures.slots, slots_within c.args.self.now.leaves high (has_trie s), few),
      omega (
        arith,
        c.loop.invariant.4,
        c.if-slots-passed.false,
        c.before_node-passed.ensures.slots,
        c.before_node-slots.ensures.slots,
        one_down (trie c.args.self.now) (height c.args.self.now.leaves) c.loop.counter c.loop.low (omega (arith, c.loop-test.true, s.levels_are)),
        one_down (trie c.args.self.now) (height c.args.self.now.leaves) c.loop.counter c.loop.high (omega (arith, c.loop-test.true, s.levels_are)),
        ap (slots_down (trie c.args.self.now) (height c.args.self.now.leaves - (c.loop.counter + 1))) c.before_node-passed.ensures.below,
        ap (slots_down (trie c.args.self.now) (height c.args.self.now.leaves - (c.loop.counter + 1))) c.before_node-slots.ensures.below,
      ),
    )
