use Rattle.std.proofs.Common.{◌∙◌, ap, refl}
use Rattle.filter_trie.proofs.Numbers.{behind, dense_begins_at, inside, sparse_begins_at, sparse_behind, sparse_within}
use Rattle.trie_model.specs.Halves.{Half, begin_of}
use Rattle.filter_trie.specs.Parts.{AreParts}
use Rattle.filter_trie.proofs.trie.Trie.first_place.Goals as goal

pub first_place-requires-else-has_node-clause-there : goal.first_place-requires-else-has_node-clause-there
first_place-requires-else-has_node-clause-there g c =
    let s : AreParts c.args.self.now c.self.inside.cutoff c.self.inside.height c.self.inside.dense c.self.inside.sparse c.self.inside.suffixes = rw c.self.view_is at c.self.invariant.0 in
    rw s.sparse_is (sparse_behind s c.args.node c.requires)

pub returns-then-has_node-clause-begins : goal.returns-then-has_node-clause-begins
returns-then-has_node-clause-begins g c =
    let s : AreParts c.args.self.now c.self.inside.cutoff c.self.inside.height c.self.inside.dense c.self.inside.sparse c.self.inside.suffixes = rw c.self.view_is at c.self.invariant.0 in
    dense_begins_at s c.args.node c.first_place.result (inside s c.args.node (c.if-has_node.ensures.has.0 refl)) c.first_place.ensures

pub returns-else-has_node-clause-begins : goal.returns-else-has_node-clause-begins
returns-else-has_node-clause-begins g c =
    let s : AreParts c.args.self.now c.self.inside.cutoff c.self.inside.height c.self.inside.dense c.self.inside.sparse c.self.inside.suffixes = rw c.self.view_is at c.self.invariant.0 in
    sparse_begins_at s c.args.node c.first_place-else-has_node.result (behind s c.args.node c.if-has_node.ensures.has.1) (c.first_place-else-has_node.ensures ∙ ap (λ (h : Half). begin_of h c.args.node) s.sparse_is)

pub returns-else-has_node-clause-within : goal.returns-else-has_node-clause-within
returns-else-has_node-clause-within g c =
    let s : AreParts c.args.self.now c.self.inside.cutoff c.self.inside.height c.self.inside.dense c.self.inside.sparse c.self.inside.suffixes = rw c.self.view_is at c.self.invariant.0 in
    sparse_within s c.args.node c.first_place-else-has_node.result (behind s c.args.node c.if-has_node.ensures.has.1) c.requires (c.first_place-else-has_node.ensures ∙ ap (λ (h : Half). begin_of h c.args.node) s.sparse_is)
