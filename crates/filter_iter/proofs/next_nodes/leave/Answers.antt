use Rattle.std.proofs.Common.{◌+◌, arith, subst, sym}
use Rattle.std.specs.List.{All}
use Rattle.std.proofs.lemmas.List.Elements.{All-push}
use Rattle.filter_iter.proofs.Starts.{node_fits}
use Rattle.filter_iter.specs.LeafPlace.{IsMark, IsSpotOf}
use Rattle.filter_iter.specs.declared.parts.Mark.{Mark}
use Rattle.filter_iter.proofs.next_nodes.leave.Goals as goal

pub overflow_add-pass : goal.overflow_add-pass
overflow_add-pass g c = omega (arith, node_fits c.args.trie.now.hash_bits c.args.trie.now.real_bits c.args.trie.now.leaves c.requires.stands.valid, c.requires.node)

pub spot_behind-behind-requires-clause-spot : goal.spot_behind-behind-requires-clause-spot
spot_behind-behind-requires-clause-spot g c = let s : IsSpotOf c.args.trie.now c.args.pass.node c.args.pass.letter c.in-Some.spot = rw c.in-Some.is at c.requires.spot in s.spot

pub returns-then-len-capacity : goal.returns-then-len-capacity
returns-then-len-capacity g c =
    let s : IsSpotOf c.args.trie.now c.args.pass.node c.args.pass.letter c.in-Some.spot = rw c.in-Some.is at c.requires.spot in
    let m : Mark = record { node = c.args.pass.node + 1; place = c.spot_behind-behind.result.place; below = c.spot_behind-behind.result.below } in
    subst (All (IsMark c.args.trie.now)) (sym c.push_reserved.ensures.items)
    (All-push (IsMark c.args.trie.now) c.args.marks.now.items m c.requires.marks (record { sparse = omega (arith, s.sparse); begin = omega (arith, s.end, c.spot_behind-behind.ensures.end, c.if-behind.true); below = c.spot_behind-behind.ensures.below }))
