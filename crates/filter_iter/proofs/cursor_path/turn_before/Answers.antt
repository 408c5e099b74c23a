use Rattle.std.proofs.Common.{None, Some, ap, arith, subst, sym, ◌∙◌}
use Rattle.std.specs.List.{All}
use Rattle.std.proofs.lemmas.List.Elements.{All-pop, All-push}
use Rattle.filter_iter.proofs.WayLists.{popped, pushed, way_low}
use Rattle.filter_iter.specs.LeafPlace.{HasSpot}
use Rattle.filter_iter.specs.CursorPath.{leaves_to}
use Rattle.filter_iter.specs.declared.parts.Pass.{Pass}
use Rattle.trie_model.specs.Rests.{first_leaf}
use Rattle.filter_iter.proofs.cursor_path.turn_before.Goals as goal

pub branch_before-requires-clause-node : goal.branch_before-requires-clause-node
branch_before-requires-clause-node g c = let p = popped c.args.trie.now.leaves c.loop-pass.way.items c.pop.new.self.items c.in-Some.pass c.in-Some.ensures.items c.loop-pass.invariant.0 in p.pass.node.within

pub branch_before-requires-clause-letter : goal.branch_before-requires-clause-letter
branch_before-requires-clause-letter g c = let p = popped c.args.trie.now.leaves c.loop-pass.way.items c.pop.new.self.items c.in-Some.pass c.in-Some.ensures.items c.loop-pass.invariant.0 in p.pass.letter

pub push_reserved-requires : goal.push_reserved-requires
push_reserved-requires g c = let p = popped c.args.trie.now.leaves c.loop-pass.way.items c.pop.new.self.items c.in-Some.pass c.in-Some.ensures.items c.loop-pass.invariant.0 in omega (arith, way_low c.args.trie.now.hash_bits c.args.trie.now.real_bits c.args.trie.now.leaves c.in-Some.pass.node c.pop.new.self.items c.requires.stands.valid p.pass.node, c.in-Some.ensures.capacity, c.loop-pass.invariant.2, c.requires.room)

pub returns-in-Some-branch_before-clause-way : goal.returns-in-Some-branch_before-clause-way
returns-in-Some-branch_before-clause-way g c = (let n = (let p = popped c.args.trie.now.leaves c.loop-pass.way.items c.pop.new.self.items c.in-Some.pass c.in-Some.ensures.items c.loop-pass.invariant.0 in pushed c.args.trie.now.leaves c.pop.new.self.items c.push_reserved.new.self.items c.in-Some.pass.node c.in-Some-branch_before.branch None p.way p.pass.node c.in-Some-branch_before.ensures.0 c.push_reserved.ensures.items) in n.way)

pub returns-in-Some-branch_before-clause-leads : goal.returns-in-Some-branch_before-clause-leads
returns-in-Some-branch_before-clause-leads g c = (let n = (let p = popped c.args.trie.now.leaves c.loop-pass.way.items c.pop.new.self.items c.in-Some.pass c.in-Some.ensures.items c.loop-pass.invariant.0 in pushed c.args.trie.now.leaves c.pop.new.self.items c.push_reserved.new.self.items c.in-Some.pass.node c.in-Some-branch_before.branch None p.way p.pass.node c.in-Some-branch_before.ensures.0 c.push_reserved.ensures.items) in n.leads)

pub returns-in-Some-branch_before-clause-last : goal.returns-in-Some-branch_before-clause-last
returns-in-Some-branch_before-clause-last g c = let p = popped c.args.trie.now.leaves c.loop-pass.way.items c.pop.new.self.items c.in-Some.pass c.in-Some.ensures.items c.loop-pass.invariant.0 in let n = (let p = popped c.args.trie.now.leaves c.loop-pass.way.items c.pop.new.self.items c.in-Some.pass c.in-Some.ensures.items c.loop-pass.invariant.0 in pushed c.args.trie.now.leaves c.pop.new.self.items c.push_reserved.new.self.items c.in-Some.pass.node c.in-Some-branch_before.branch None p.way p.pass.node c.in-Some-branch_before.ensures.0 c.push_reserved.ensures.items) in ap (leaves_to c.args.trie.now.leaves) n.letters ∙ c.in-Some-branch_before.ensures.1 ∙ sym (ap (first_leaf c.args.trie.now.leaves) p.letters) ∙ c.loop-pass.invariant.1

pub loop-pass-preserved : goal.loop-pass-preserved
loop-pass-preserved g c = let p = popped c.args.trie.now.leaves c.loop-pass.way.items c.pop.new.self.items c.in-Some.pass c.in-Some.ensures.items c.loop-pass.invariant.0 in (p.way, ap (first_leaf c.args.trie.now.leaves) (sym p.pass.node.is) ∙ c.in_default-branch_before.ensures ∙ sym (ap (first_leaf c.args.trie.now.leaves) p.letters) ∙ c.loop-pass.invariant.1, c.in-Some.ensures.capacity ∙ c.loop-pass.invariant.2, (All-pop (HasSpot c.args.trie.now) c.loop-pass.way.items c.pop.new.self.items (Some c.in-Some.pass) c.in-Some.ensures.items c.loop-pass.invariant.3).0)

pub returns-in-Some-branch_before-clause-spots : goal.returns-in-Some-branch_before-clause-spots
returns-in-Some-branch_before-clause-spots g c =
    let x : Pass = record { node = c.in-Some.pass.node; letter = c.in-Some-branch_before.branch.letter; spot = None } in
    subst (All (HasSpot c.args.trie.now)) (sym c.push_reserved.ensures.items) (All-push (HasSpot c.args.trie.now) c.pop.new.self.items x (All-pop (HasSpot c.args.trie.now) c.loop-pass.way.items c.pop.new.self.items (Some c.in-Some.pass) c.in-Some.ensures.items c.loop-pass.invariant.3).0 tt)
