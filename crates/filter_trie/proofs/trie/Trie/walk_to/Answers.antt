use Rattle.std.proofs.Common.{get_or, refl}
use Rattle.filter_trie.specs.Parts.{AreParts}
use Rattle.filter_trie.proofs.Down.{root_first}
use Rattle.filter_trie.proofs.Finding.{searches_find}
use Rattle.filter_trie.proofs.Parts.{has_trie, tall}
use Rattle.filter_trie.proofs.Ways.{ended, ended_nowhere, ended_stub, met, met_stub, stuck, way_on}
use Rattle.filter_trie.proofs.trie.Trie.walk_to.Goals as goal

pub loop-i-init : goal.loop-i-init
loop-i-init g c =
    let s : AreParts c.args.self.now c.self.inside.cutoff c.self.inside.height c.self.inside.dense c.self.inside.sparse c.self.inside.suffixes = rw c.self.view_is at c.self.invariant.0 in
    root_first c.args.self.now.leaves (tall s)

pub loop-i-preserved : goal.loop-i-preserved
loop-i-preserved g c =
    let s : AreParts c.args.self.now c.self.inside.cutoff c.self.inside.height c.self.inside.dense c.self.inside.sparse c.self.inside.suffixes = rw c.self.view_is at c.self.invariant.0 in
    way_on c.args.self.now.leaves (has_trie s) (tall s) c.args.key.now c.loop-i.node c.loop-i.i c.loop-i.invariant c.in-Child.child (get_or c.args.key.now c.loop-i.i 0) c.loop-i-test.true refl (rw c.in-Child.is at c.look.ensures)

pub returns-in-Miss-clause-slot : goal.returns-in-Miss-clause-slot
returns-in-Miss-clause-slot g c =
    let s : AreParts c.args.self.now c.self.inside.cutoff c.self.inside.height c.self.inside.dense c.self.inside.sparse c.self.inside.suffixes = rw c.self.view_is at c.self.invariant.0 in
    stuck c.args.self.now.leaves (has_trie s) (tall s) c.args.key.now c.loop-i.node c.loop-i.i c.loop-i.invariant (get_or c.args.key.now c.loop-i.i 0) c.loop-i-test.true refl (rw c.in-Miss.is at c.look.ensures)

pub returns-in-Leaf-clause-slot : goal.returns-in-Leaf-clause-slot
returns-in-Leaf-clause-slot g c =
    let s : AreParts c.args.self.now c.self.inside.cutoff c.self.inside.height c.self.inside.dense c.self.inside.sparse c.self.inside.suffixes = rw c.self.view_is at c.self.invariant.0 in
    met c.args.self.now.leaves (has_trie s) (tall s) c.args.key.now c.loop-i.node c.loop-i.i c.loop-i.invariant c.in-Leaf.slot (get_or c.args.key.now c.loop-i.i 0) c.loop-i-test.true refl (rw c.in-Leaf.is at c.look.ensures)

pub returns-in-Leaf-clause-stub : goal.returns-in-Leaf-clause-stub
returns-in-Leaf-clause-stub g c =
    let s : AreParts c.args.self.now c.self.inside.cutoff c.self.inside.height c.self.inside.dense c.self.inside.sparse c.self.inside.suffixes = rw c.self.view_is at c.self.invariant.0 in
    met_stub c.args.self.now.leaves (has_trie s) (tall s) c.args.key.now c.loop-i.node c.loop-i.i c.loop-i.invariant c.in-Leaf.slot (get_or c.args.key.now c.loop-i.i 0) c.loop-i-test.true refl (rw c.in-Leaf.is at c.look.ensures)

pub returns-in-Some-clause-slot : goal.returns-in-Some-clause-slot
returns-in-Some-clause-slot g c =
    let s : AreParts c.args.self.now c.self.inside.cutoff c.self.inside.height c.self.inside.dense c.self.inside.sparse c.self.inside.suffixes = rw c.self.view_is at c.self.invariant.0 in
    ended c.args.self.now.leaves (has_trie s) (tall s) c.args.key.now c.loop-i.node c.loop-i.i c.loop-i.invariant c.in-Some.slot c.loop-i-test.false ((searches_find c.args.self.now.leaves c.loop-i.node (has_trie s) c.loop-i.invariant.within).end c.in-Some.slot c.in-Some.ensures)

pub returns-in-Some-clause-stub : goal.returns-in-Some-clause-stub
returns-in-Some-clause-stub g c =
    let s : AreParts c.args.self.now c.self.inside.cutoff c.self.inside.height c.self.inside.dense c.self.inside.sparse c.self.inside.suffixes = rw c.self.view_is at c.self.invariant.0 in
    ended_stub c.args.self.now.leaves (has_trie s) (tall s) c.args.key.now c.loop-i.node c.loop-i.i c.loop-i.invariant c.in-Some.slot c.loop-i-test.false ((searches_find c.args.self.now.leaves c.loop-i.node (has_trie s) c.loop-i.invariant.within).end c.in-Some.slot c.in-Some.ensures)

pub returns-in-None-clause-slot : goal.returns-in-None-clause-slot
returns-in-None-clause-slot g c =
    let s : AreParts c.args.self.now c.self.inside.cutoff c.self.inside.height c.self.inside.dense c.self.inside.sparse c.self.inside.suffixes = rw c.self.view_is at c.self.invariant.0 in
    ended_nowhere c.args.self.now.leaves (has_trie s) (tall s) c.args.key.now c.loop-i.node c.loop-i.i c.loop-i.invariant c.loop-i-test.false c.loop-i.auto.i-end ((searches_find c.args.self.now.leaves c.loop-i.node (has_trie s) c.loop-i.invariant.within).no_end c.in-None.ensures)
