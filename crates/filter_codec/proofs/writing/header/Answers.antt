use Rattle.std.proofs.Common.{◌≡◌, ◌∙◌, ap, length}
use Rattle.std.specs.List.{splice}
use Rattle.byteorder.specs.Endian.{little_bytes}
use Rattle.filter_model.specs.Nodes.{all}
use Rattle.filter_model.specs.Trie.{height}
use Rattle.filter_trie.specs.Parts.{lower, upper}
use Rattle.trie_model.specs.Halves.{Half, places_in}
use Rattle.filter_codec.proofs.Growing.{begun, header_is, put}
use Rattle.filter_codec.proofs.writing.header.Goals as goal

pub returns : goal.returns
returns g c =
    let i = c.args.trie.now in
    let dense = upper i.cutoff i.leaves in
    let sparse = lower i.cutoff i.leaves in
    let widths : c.widths-hash_bits.result ≡ (i.hash_bits, i.real_bits) =
    c.widths-hash_bits.ensures.widths ∙ (λ j. (c.suffixes.ensures.hash_bits j, c.suffixes.ensures.real_bits j)) in
    let cutoff : c.put_u16.new.bytes ≡ splice (begun (i.hash_bits, i.real_bits)) 8 10 (little_bytes 2 i.cutoff) =
    c.put_u16.ensures ∙ (λ j. splice (begun (widths j)) 8 10 (little_bytes 2 (c.cutoff.ensures j))) in
    let height_put = put 2 10 12 _ _ _ _ (height i.leaves) c.put_u16-2.ensures cutoff c.height.ensures.height in
    let leaves_put = put 4 12 16 _ _ _ _ (length i.leaves) c.put_u32.ensures height_put c.leaves.ensures in
    let dense_put = put 8 16 24 _ _ _ _ (length dense) c.put_u64.ensures leaves_put (c.node_count.ensures.count ∙ ap length c.dense.ensures) in
    let sparse_put = put 8 24 32 _ _ _ _ (length sparse) c.put_u64-2.ensures dense_put (c.node_count-2.ensures ∙ ap (λ (h : Half). length h.nodes) c.sparse.ensures) in
    put 8 32 40 _ _ _ _ (length (all sparse)) c.put_u64-3.ensures sparse_put (c.place_count.ensures ∙ ap places_in c.sparse-2.ensures)
    ∙ header_is i.hash_bits i.real_bits i.cutoff (height i.leaves) (length i.leaves) (length dense) (length sparse) (length (all sparse))
