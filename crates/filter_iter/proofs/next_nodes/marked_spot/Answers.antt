use Rattle.std.proofs.Common.{ap, arith, ◌∙◌}
use Rattle.filter_iter.proofs.NextNodes.{mark_within, marked_end, marked_found}
use Rattle.filter_model.specs.Image.{sparse_louds}
use Rattle.trie_model.specs.Halves.{Half, places_in}
use Rattle.filter_iter.proofs.next_nodes.marked_spot.Goals as goal

pub overflow_add-place : goal.overflow_add-place
overflow_add-place g c = omega (arith, mark_within c.args.trie.now.hash_bits c.args.trie.now.real_bits c.args.trie.now c.requires.stands.valid c.args.mark c.requires.node c.requires.mark, c.place_count-places.ensures, ap (λ (h : Half). places_in h) c.sparse.ensures)

pub returns-in-Some : goal.returns-in-Some
returns-in-Some g c = marked_found c.args.trie.now.hash_bits c.args.trie.now.real_bits c.args.trie.now c.requires.stands.valid c.args.mark c.requires.node c.requires.mark c.louds_bits.result.now (c.louds_bits.ensures ∙ ap (λ (h : Half). sparse_louds h.nodes) c.sparse-2.ensures) c.in-Some.end c.in-Some.ensures

pub returns-in-None : goal.returns-in-None
returns-in-None g c = marked_end c.args.trie.now.hash_bits c.args.trie.now.real_bits c.args.trie.now c.requires.stands.valid c.args.mark c.requires.node c.requires.mark c.louds_bits.result.now (c.louds_bits.ensures ∙ ap (λ (h : Half). sparse_louds h.nodes) c.sparse-2.ensures) c.in-None.ensures c.place_count-places.result (c.place_count-places.ensures ∙ ap (λ (h : Half). places_in h) c.sparse.ensures)
