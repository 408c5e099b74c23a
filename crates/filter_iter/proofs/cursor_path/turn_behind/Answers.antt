use Rattle.std.proofs.Common.{Some, ap, arith, rules, subst, sym, ◌∙◌}
use Rattle.std.specs.List.{All}
use Rattle.std.proofs.lemmas.List.Elements.{All-pop, All-push}
use Rattle.filter_iter.proofs.WayLists.{popped, pushed, way_low}
use Rattle.filter_iter.specs.LeafPlace.{HasSpot}
use Rattle.filter_iter.specs.CursorPath.{leaves_to}
use Rattle.filter_iter.specs.declared.parts.Pass.{Pass}
use Rattle.trie_model.specs.Rests.{first_leaf}
use Rattle.filter_iter.proofs.cursor_path.turn_behind.Goals as goal

pub branch_after-requires-clause-node : goal.branch_after-requires-clause-node
branch_after-requires-clause-node g c = let p = popped c.args.trie.now.leaves c.loop-pass.way.items c.pop.new.self.items c.in-Some.pass c.in-Some.ensures.items c.loop-pass.invariant.0 in p.pass.node.within

pub branch_after-requires-clause-letter : goal.branch_after-requires-clause-letter
branch_after-requires-clause-letter g c = let p = popped c.args.trie.now.leaves c.loop-pass.way.items c.pop.new.self.items c.in-Some.pass c.in-Some.ensures.items c.loop-pass.invariant.0 in p.pass.letter

pub push_reserved-requires : goal.push_reserved-requires
push_reserved-requires g c = let p = popped c.args.trie.now.leaves c.loop-pass.way.items c.pop.new.self.items c.in-Some.pass c.in-Some.ensures.items c.loop-pass.invariant.0 in omega (arith, way_low c.args.trie.now.hash_bits c.args.trie.now.real_bits c.args.trie.now.leaves c.in-Some.pass.node c.pop.new.self.items c.requires.stands.valid p.pass.node, c.in-Some.ensures.capacity, c.loop-pass.invariant.2, c.requires.room)

pub returns-in-Some-branch_after-clause-way : goal.returns-in-Some-branch_after-clause-way
returns-in-Some-branch_after-clause-way g c = (let n = (let p = popped c.args.trie.now.leaves c.loop-pass.way.items c.pop.new.self.items c.in-Some.pass c.in-Some.ensures.items c.loop-pass.invariant.0 in pushed c.args.trie.now.leaves c.pop.new.self.items c.push_reserved.new.self.items c.in-Some.pass.node c.in-Some-branch_after.branch c.in-Some-branch_after.spot p.way p.pass.node c.in-Some-branch_after.ensures.next.0 c.push_reserved.ensures.items) in n.way)

pub returns-in-Some-branch_after-clause-leads : goal.returns-in-Some-branch_after-clause-leads
returns-in-Some-branch_after-clause-leads g c = (let n = (let p = popped c.args.trie.now.leaves c.loop-pass.way.items c.pop.new.self.items c.in-Some.pass c.in-Some.ensures.items c.loop-pass.invariant.0 in pushed c.args.trie.now.leaves c.pop.new.self.items c.push_reserved.new.self.items c.in-Some.pass.node c.in-Some-branch_after.branch c.in-Some-branch_after.spot p.way p.pass.node c.in-Some-branch_after.ensures.next.0 c.push_reserved.ensures.items) in n.leads)

pub returns-in-Some-branch_after-clause-first : goal.returns-in-Some-branch_after-clause-first
returns-in-Some-branch_after-clause-first g c = let p = popped c.args.trie.now.leaves c.loop-pass.way.items c.pop.new.self.items c.in-Some.pass c.in-Some.ensures.items c.loop-pass.invariant.0 in let n = (let p = popped c.args.trie.now.leaves c.loop-pass.way.items c.pop.new.self.items c.in-Some.pass c.in-Some.ensures.items c.loop-pass.invariant.0 in pushed c.args.trie.now.leaves c.pop.new.self.items c.push_reserved.new.self.items c.in-Some.pass.node c.in-Some-branch_after.branch c.in-Some-branch_after.spot p.way p.pass.node c.in-Some-branch_after.ensures.next.0 c.push_reserved.ensures.items) in ap (first_leaf c.args.trie.now.leaves) n.letters ∙ c.in-Some-branch_after.ensures.next.2 ∙ sym (ap (leaves_to c.args.trie.now.leaves) p.letters) ∙ c.loop-pass.invariant.1

pub loop-pass-preserved : goal.loop-pass-preserved
loop-pass-preserved g c = let p = popped c.args.trie.now.leaves c.loop-pass.way.items c.pop.new.self.items c.in-Some.pass c.in-Some.ensures.items c.loop-pass.invariant.0 in (p.way, ap (leaves_to c.args.trie.now.leaves) (sym p.pass.node.is) ∙ c.in_default-branch_after.ensures.next ∙ sym (ap (leaves_to c.args.trie.now.leaves) p.letters) ∙ c.loop-pass.invariant.1, c.in-Some.ensures.capacity ∙ c.loop-pass.invariant.2, (All-pop (HasSpot c.args.trie.now) c.loop-pass.way.items c.pop.new.self.items (Some c.in-Some.pass) c.in-Some.ensures.items c.loop-pass.invariant.3).0, c.leave.ensures)

pub returns-in-Some-branch_after-clause-spots : goal.returns-in-Some-branch_after-clause-spots
returns-in-Some-branch_after-clause-spots g c =
    let x : Pass = record { node = c.in-Some.pass.node; letter = c.in-Some-branch_after.branch.letter; spot = c.in-Some-branch_after.spot } in
    subst (All (HasSpot c.args.trie.now)) (sym c.push_reserved.ensures.items) (All-push (HasSpot c.args.trie.now) c.pop.new.self.items x (All-pop (HasSpot c.args.trie.now) c.loop-pass.way.items c.pop.new.self.items (Some c.in-Some.pass) c.in-Some.ensures.items c.loop-pass.invariant.3).0 c.in-Some-branch_after.ensures.spot)

pub branch_after-requires-clause-spot : goal.branch_after-requires-clause-spot
branch_after-requires-clause-spot g c = (All-pop (HasSpot c.args.trie.now) c.loop-pass.way.items c.pop.new.self.items (Some c.in-Some.pass) c.in-Some.ensures.items c.loop-pass.invariant.3).1

pub leave-requires : goal.leave-requires
leave-requires g c =
    let p = popped c.args.trie.now.leaves c.loop-pass.way.items c.pop.new.self.items c.in-Some.pass c.in-Some.ensures.items c.loop-pass.invariant.0 in
    (search rules, (c.requires.stands, ((All-pop (HasSpot c.args.trie.now) c.loop-pass.way.items c.pop.new.self.items (Some c.in-Some.pass) c.in-Some.ensures.items c.loop-pass.invariant.3).1, (p.pass.node.within, c.loop-pass.invariant.4))))
