use Rattle.std.proofs.Common.{◌≡◌, ◌+◌, ◌*◌, ◌∙◌, List, Bool, ap, arith, length}
use Rattle.filter_model.specs.Nodes.{Node, all}
use Rattle.filter_trie.proofs.ImageSizes.{has_sections}
use Rattle.filter_trie.specs.Parts.{lower, upper}
use Rattle.trie_model.specs.Halves.{places_in}
use Rattle.filter_trie.proofs.trie.Trie.section_counts.Goals as goal

pub returns : goal.returns
returns g c =
    let i = c.args.self.now in
    let k = has_sections i c.height.ensures.stands in
    let d : c.node_count.result ≡ length (upper i.cutoff i.leaves) = c.node_count.ensures.count ∙ ap (λ (ns : List Node). length ns) c.dense.ensures in
    let l : c.place_count.result ≡ length (all (lower i.cutoff i.leaves)) = c.place_count.ensures ∙ ap places_in c.sparse.ensures in
    let s : c.len.result ≡ length i.leaves * (i.hash_bits + i.real_bits) = c.len.ensures ∙ ap (λ (bs : List Bool). length bs) (c.bits.ensures ∙ c.suffixes.ensures.bits) ∙ k.suffixes in
    record {
      stands = c.height.ensures.stands;
      dense = d;
      labels = l;
      suffixes = s;
      few_dense = omega (arith, d, k.few_dense);
      few_labels = omega (arith, l, k.few_labels);
      few_suffixes = omega (arith, s, k.few_suffixes);
    }
