use Rattle.std.proofs.Common.{◌≡◌, ◌∙◌, ap, subst, sym}
use Rattle.std.specs.List.{All}
use Rattle.filter_codec.proofs.Joining.{half_is, parts_by, sparse_half}
use Rattle.filter_codec.specs.Tree.{Tree}
use Rattle.filter_trie.specs.Parts.{image_by}
use Rattle.louds_dense.specs.Places.{counts_of}
use Rattle.louds_sparse.specs.Spelling.{AreFew}
use Rattle.trie_laws.specs.Halves.{second_half}
use Rattle.trie_laws.specs.Nodes.{IsTrieNode}
use Rattle.filter_codec.proofs.reading.trie_of.Goals as goal

pub of-dense-requires : goal.of-dense-requires
of-dense-requires g c = c.packed.invariant.0

pub of-sparse-requires : goal.of-sparse-requires
of-sparse-requires g c =
    let p = c.packed.inside in
    let few : AreFew c.counts.result = record { nodes = c.counts.ensures.few_nodes; children = c.counts.ensures.few_children; slots = c.counts.ensures.few_slots } in
    sparse_half c.counts.result p.labels.items p.children p.louds c.packed.invariant.1 (subst (All IsTrieNode) (sym (ap (λ (t : Tree). t.sparse) c.packed.view_is)) c.requires.nodes) few

pub of-requires : goal.of-requires
of-requires g c κs among =
    let p = c.packed.inside in
    let dense : c.of-dense.result ≡ c.args.packed.dense = c.of-dense.ensures ∙ ap (λ (t : Tree). t.dense) c.packed.view_is in
    let sparse : c.of-sparse.result ≡ second_half c.args.packed.dense c.args.packed.sparse =
    c.of-sparse.ensures
    ∙ half_is c.counts.result p.labels.items p.children p.louds c.args.packed.dense c.args.packed.sparse (c.counts.ensures.counts ∙ ap counts_of dense) (ap (λ (t : Tree). t.sparse) c.packed.view_is) in
    (among, parts_by c.args.header.now.cutoff c.args.header.now.height c.of-dense.result c.args.packed.dense c.args.packed.sparse c.of-sparse.result c.args.suffixes dense sparse c.requires.parts)

pub returns : goal.returns
returns g c =
    let p = c.packed.inside in
    let dense : c.of-dense.result ≡ c.args.packed.dense = c.of-dense.ensures ∙ ap (λ (t : Tree). t.dense) c.packed.view_is in
    let sparse : c.of-sparse.result ≡ second_half c.args.packed.dense c.args.packed.sparse =
    c.of-sparse.ensures
    ∙ half_is c.counts.result p.labels.items p.children p.louds c.args.packed.dense c.args.packed.sparse (c.counts.ensures.counts ∙ ap counts_of dense) (ap (λ (t : Tree). t.sparse) c.packed.view_is) in
    c.of.ensures ∙ (λ j. image_by c.args.header.now.cutoff c.args.header.now.height (dense j) (sparse j).nodes c.args.suffixes)
