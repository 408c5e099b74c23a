use Rattle.std.proofs.Common.{get_or, refl, arith}
use Rattle.filter_trie.specs.Parts.{AreParts}
use Rattle.filter_trie.proofs.Counting.{steps_are}
use Rattle.filter_trie.proofs.Down.{root_first}
use Rattle.filter_trie.proofs.Parts.{has_trie, tall}
use Rattle.filter_trie.proofs.Ways.{ended, ended_nowhere, last_met, last_stuck, met, stuck, way_on}
use Rattle.filter_trie.proofs.trie.Trie.walk_counted.Goals as goal

pub loop-byte-init : goal.loop-byte-init
loop-byte-init g c =
    let s : AreParts c.args.self.now c.self.inside.cutoff c.self.inside.height c.self.inside.dense c.self.inside.sparse c.self.inside.suffixes = rw c.self.view_is at c.self.invariant.0 in
    (root_first c.args.self.now.leaves (tall s), omega arith)

pub loop-byte-preserved : goal.loop-byte-preserved
loop-byte-preserved g c =
    let s : AreParts c.args.self.now c.self.inside.cutoff c.self.inside.height c.self.inside.dense c.self.inside.sparse c.self.inside.suffixes = rw c.self.view_is at c.self.invariant.0 in
    (way_on c.args.self.now.leaves (has_trie s) (tall s) c.args.key.now c.loop-byte.node c.loop-byte.byte-index c.loop-byte.invariant.0 c.in-Child.child (get_or c.args.key.now c.loop-byte.byte-index 0) c.loop-byte-test.true refl (rw c.in-Child.is at c.step.ensures.leads), omega (arith, c.step.ensures.step, c.loop-byte.invariant.1))

pub returns-in-Miss-clause-slot : goal.returns-in-Miss-clause-slot
returns-in-Miss-clause-slot g c =
    let s : AreParts c.args.self.now c.self.inside.cutoff c.self.inside.height c.self.inside.dense c.self.inside.sparse c.self.inside.suffixes = rw c.self.view_is at c.self.invariant.0 in
    stuck c.args.self.now.leaves (has_trie s) (tall s) c.args.key.now c.loop-byte.node c.loop-byte.byte-index c.loop-byte.invariant.0 (get_or c.args.key.now c.loop-byte.byte-index 0) c.loop-byte-test.true refl (rw c.in-Miss.is at c.step.ensures.leads)

pub returns-in-Miss-clause-steps : goal.returns-in-Miss-clause-steps
returns-in-Miss-clause-steps g c =
    let s : AreParts c.args.self.now c.self.inside.cutoff c.self.inside.height c.self.inside.dense c.self.inside.sparse c.self.inside.suffixes = rw c.self.view_is at c.self.invariant.0 in
    omega (arith, c.step.ensures.step, c.loop-byte.invariant.1, steps_are c.args.self.now.leaves c.args.key.now c.loop-byte.node c.loop-byte.byte-index (tall s) c.loop-byte.invariant.0 c.loop-byte.auto.byte-index-end (λ l. last_stuck c.args.self.now.leaves (has_trie s) (tall s) c.args.key.now c.loop-byte.node c.loop-byte.byte-index c.loop-byte.invariant.0 (get_or c.args.key.now c.loop-byte.byte-index 0) c.loop-byte-test.true refl (rw c.in-Miss.is at c.step.ensures.leads)))

pub returns-in-Leaf-clause-slot : goal.returns-in-Leaf-clause-slot
returns-in-Leaf-clause-slot g c =
    let s : AreParts c.args.self.now c.self.inside.cutoff c.self.inside.height c.self.inside.dense c.self.inside.sparse c.self.inside.suffixes = rw c.self.view_is at c.self.invariant.0 in
    met c.args.self.now.leaves (has_trie s) (tall s) c.args.key.now c.loop-byte.node c.loop-byte.byte-index c.loop-byte.invariant.0 c.in-Leaf.slot (get_or c.args.key.now c.loop-byte.byte-index 0) c.loop-byte-test.true refl (rw c.in-Leaf.is at c.step.ensures.leads)

pub returns-in-Leaf-clause-steps : goal.returns-in-Leaf-clause-steps
returns-in-Leaf-clause-steps g c =
    let s : AreParts c.args.self.now c.self.inside.cutoff c.self.inside.height c.self.inside.dense c.self.inside.sparse c.self.inside.suffixes = rw c.self.view_is at c.self.invariant.0 in
    omega (arith, c.step.ensures.step, c.loop-byte.invariant.1, steps_are c.args.self.now.leaves c.args.key.now c.loop-byte.node c.loop-byte.byte-index (tall s) c.loop-byte.invariant.0 c.loop-byte.auto.byte-index-end (λ l. last_met c.args.self.now.leaves (has_trie s) (tall s) c.args.key.now c.loop-byte.node c.loop-byte.byte-index c.loop-byte.invariant.0 c.in-Leaf.slot (get_or c.args.key.now c.loop-byte.byte-index 0) c.loop-byte-test.true refl (rw c.in-Leaf.is at c.step.ensures.leads)))

pub returns-in-Some-clause-slot : goal.returns-in-Some-clause-slot
returns-in-Some-clause-slot g c =
    let s : AreParts c.args.self.now c.self.inside.cutoff c.self.inside.height c.self.inside.dense c.self.inside.sparse c.self.inside.suffixes = rw c.self.view_is at c.self.invariant.0 in
    ended c.args.self.now.leaves (has_trie s) (tall s) c.args.key.now c.loop-byte.node c.loop-byte.byte-index c.loop-byte.invariant.0 c.in-Some.slot c.loop-byte-test.false c.in-Some.ensures.slot

pub returns-in-Some-clause-steps : goal.returns-in-Some-clause-steps
returns-in-Some-clause-steps g c =
    let s : AreParts c.args.self.now c.self.inside.cutoff c.self.inside.height c.self.inside.dense c.self.inside.sparse c.self.inside.suffixes = rw c.self.view_is at c.self.invariant.0 in
    omega (arith, c.end_slot.ensures.step, c.loop-byte.invariant.1, steps_are c.args.self.now.leaves c.args.key.now c.loop-byte.node c.loop-byte.byte-index (tall s) c.loop-byte.invariant.0 c.loop-byte.auto.byte-index-end (λ l. absurd (omega (arith, l, c.loop-byte-test.false))))

pub returns-in-None-clause-slot : goal.returns-in-None-clause-slot
returns-in-None-clause-slot g c =
    let s : AreParts c.args.self.now c.self.inside.cutoff c.self.inside.height c.self.inside.dense c.self.inside.sparse c.self.inside.suffixes = rw c.self.view_is at c.self.invariant.0 in
    ended_nowhere c.args.self.now.leaves (has_trie s) (tall s) c.args.key.now c.loop-byte.node c.loop-byte.byte-index c.loop-byte.invariant.0 c.loop-byte-test.false c.loop-byte.auto.byte-index-end c.in-None.ensures.slot

pub returns-in-None-clause-steps : goal.returns-in-None-clause-steps
returns-in-None-clause-steps g c =
    let s : AreParts c.args.self.now c.self.inside.cutoff c.self.inside.height c.self.inside.dense c.self.inside.sparse c.self.inside.suffixes = rw c.self.view_is at c.self.invariant.0 in
    omega (arith, c.end_slot.ensures.step, c.loop-byte.invariant.1, steps_are c.args.self.now.leaves c.args.key.now c.loop-byte.node c.loop-byte.byte-index (tall s) c.loop-byte.invariant.0 c.loop-byte.auto.byte-index-end (λ l. absurd (omega (arith, l, c.loop-byte-test.false))))
