use Rattle.std.proofs.Common.{ap, arith, subst, sym, List, length, ◌∙◌, ◌∷◌, []}
use Rattle.std.proofs.lemmas.List.{length-append}
use Rattle.filter_iter.proofs.WayLists.{pushed, way_low}
use Rattle.std.specs.List.{All}
use Rattle.std.proofs.lemmas.List.Elements.{All-push}
use Rattle.filter_iter.specs.LeafPlace.{HasSpot}
use Rattle.filter_iter.specs.CursorPath.{letters_of}
use Rattle.filter_iter.specs.declared.parts.Pass.{Pass}
use Rattle.filter_trie.specs.Walks.{IsNodeAt}
use Rattle.trie_model.specs.Rests.{first_leaf}
use Rattle.filter_iter.proofs.cursor_path.go_first.Goals as goal

pub push_reserved-requires : goal.push_reserved-requires
push_reserved-requires g c = let a : IsNodeAt c.args.trie.now.leaves c.in-Node.node (letters_of c.loop-lead.way.items) = (rw c.in-Node.is at c.loop-lead.invariant.1) in omega (arith, way_low c.args.trie.now.hash_bits c.args.trie.now.real_bits c.args.trie.now.leaves c.in-Node.node c.loop-lead.way.items c.requires.stands.valid a, c.loop-lead.invariant.3, c.requires.room)

pub loop-lead-smaller : goal.loop-lead-smaller
loop-lead-smaller g c = let a : IsNodeAt c.args.trie.now.leaves c.in-Node.node (letters_of c.loop-lead.way.items) = (rw c.in-Node.is at c.loop-lead.invariant.1) in omega (arith, way_low c.args.trie.now.hash_bits c.args.trie.now.real_bits c.args.trie.now.leaves c.in-Node.node c.loop-lead.way.items c.requires.stands.valid a, ap (λ (w : List Pass). length w) c.push_reserved.ensures.items, length-append c.loop-lead.way.items (record { node = c.in-Node.node; letter = c.first_marked-spot.result.0.letter; spot = c.first_marked-spot.result.1 } ∷ []))

pub loop-lead-preserved : goal.loop-lead-preserved
loop-lead-preserved g c = let a : IsNodeAt c.args.trie.now.leaves c.in-Node.node (letters_of c.loop-lead.way.items) = (rw c.in-Node.is at c.loop-lead.invariant.1) in let n = pushed c.args.trie.now.leaves c.loop-lead.way.items c.push_reserved.new.self.items c.in-Node.node c.first_marked-spot.result.0 c.first_marked-spot.result.1 c.loop-lead.invariant.0 a c.first_marked-spot.ensures.branch.branch c.push_reserved.ensures.items in (n.way, n.leads, ap (first_leaf c.args.trie.now.leaves) n.letters ∙ c.first_marked-spot.ensures.branch.first ∙ ap (first_leaf c.args.trie.now.leaves) a.is ∙ c.loop-lead.invariant.2, c.push_reserved.ensures.capacity ∙ c.loop-lead.invariant.3, (let x : Pass = record { node = c.in-Node.node; letter = c.first_marked-spot.result.0.letter; spot = c.first_marked-spot.result.1 } in subst (All (HasSpot c.args.trie.now)) (sym c.push_reserved.ensures.items) (All-push (HasSpot c.args.trie.now) c.loop-lead.way.items x c.loop-lead.invariant.4 c.first_marked-spot.ensures.spot)), c.first_marked-spot.ensures.marks)
