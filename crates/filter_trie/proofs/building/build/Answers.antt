use Rattle.std.proofs.Common.{◌≡◌, ◌∙◌, length, ap, arith, subst, sym}
use Rattle.std.proofs.lemmas.List.{length-map}
use Rattle.std.proofs.lemmas.Result.{IfOk-weaker}
use Rattle.filter_model.specs.Leaves.{Filter, base_leaves, leaves_of}
use Rattle.filter_model.specs.Nodes.{Node, node_of}
use Rattle.filter_model.specs.Trie.{height as height_of, nodes_to}
use Rattle.filter_trie.specs.Building.{half_to}
use Rattle.filter_trie.specs.Parts.{AreParts}
use Rattle.filter_trie.specs.Pending.{suffixes_passed}
use Rattle.suffix_bits.specs.Room.{SuffixesInRoom}
use Rattle.filter_trie.proofs.Parts.{stands_for}
use Rattle.filter_trie.proofs.SameTries.{same_height}
use Rattle.filter_trie.proofs.Whole.{all_pending, are_parts, dense_room, few_labels, few_nodes, image_of, no_nodes, sparse_room, tall_labels, tall_nodes}
use Rattle.trie_model.specs.Halves.{Half}
use Rattle.filter_trie.proofs.building.build.Goals as goal

pub nodes_above-requires-clause-within : goal.nodes_above-requires-clause-within
nodes_above-requires-clause-within c =
    omega (arith, c.requires.cutoff, tall_nodes (leaves_of c.args.hash_bits c.args.real_bits c.args.keys.now) c.args.levels.now.nodes c.requires.nodes)

pub nodes_above-requires-clause-few : goal.nodes_above-requires-clause-few
nodes_above-requires-clause-few c = few_nodes c.args.hash_bits c.args.real_bits c.args.keys.now c.args.levels.now.nodes c.requires.keys c.requires.nodes

pub add_levels-requires-clause-within : goal.add_levels-requires-clause-within
add_levels-requires-clause-within c = omega (arith, c.requires.cutoff, same_height c.args.hash_bits c.args.real_bits c.args.keys.now)

pub add_levels-requires-clause-nodes : goal.add_levels-requires-clause-nodes
add_levels-requires-clause-nodes c = ap (λ d. d.nodes) c.in_ok-dense.ensures ∙ sym (no_nodes (base_leaves c.args.keys.now))

pub add_levels-requires-clause-room : goal.add_levels-requires-clause-room
add_levels-requires-clause-room c =
    omega (
      arith,
      dense_room c.args.hash_bits c.args.real_bits c.args.keys.now c.args.levels.now.nodes c.args.cutoff c.requires.nodes (omega (arith, c.requires.cutoff, same_height c.args.hash_bits c.args.real_bits c.args.keys.now)),
      c.nodes_above.ensures,
      ap (λ d. d.limit) c.in_ok-dense.ensures,
    )

pub add_levels-requires-clause-pending : goal.add_levels-requires-clause-pending
add_levels-requires-clause-pending c =
    all_pending c.args.hash_bits c.args.real_bits c.args.keys.now c.args.spans.items c.in_ok-pending.pending c.requires.keys c.requires.hash_width c.requires.real_width c.requires.spans c.in_ok-pending.ensures

pub labels_below-requires-clause-within : goal.labels_below-requires-clause-within
labels_below-requires-clause-within c =
    omega (arith, c.requires.cutoff, tall_labels (leaves_of c.args.hash_bits c.args.real_bits c.args.keys.now) c.args.levels.now.labels c.requires.labels)

pub labels_below-requires-clause-few : goal.labels_below-requires-clause-few
labels_below-requires-clause-few c = few_labels c.args.hash_bits c.args.real_bits c.args.keys.now c.args.levels.now.labels c.requires.keys c.requires.labels

pub add_levels-requires-2-clause-order : goal.add_levels-requires-2-clause-order
add_levels-requires-2-clause-order c =
    omega (arith, c.requires.cutoff, c.height-height.ensures.nodes, tall_nodes (leaves_of c.args.hash_bits c.args.real_bits c.args.keys.now) c.args.levels.now.nodes c.requires.nodes)

pub add_levels-requires-2-clause-within : goal.add_levels-requires-2-clause-within
add_levels-requires-2-clause-within c =
    omega (arith, c.height-height.ensures.nodes, tall_nodes (leaves_of c.args.hash_bits c.args.real_bits c.args.keys.now) c.args.levels.now.nodes c.requires.nodes, same_height c.args.hash_bits c.args.real_bits c.args.keys.now)

pub add_levels-requires-2-clause-room : goal.add_levels-requires-2-clause-room
add_levels-requires-2-clause-room c =
    let keys = c.args.keys.now in
    let top : c.height-height.result ≡ height_of (base_leaves keys) = omega (arith, c.height-height.ensures.nodes, tall_nodes (leaves_of c.args.hash_bits c.args.real_bits keys) c.args.levels.now.nodes c.requires.nodes, same_height c.args.hash_bits c.args.real_bits keys) in
    let start = ap (λ (h : Half). h.before) (ap (λ s. s.half) c.in_ok-sparse.ensures) ∙ c.counts.ensures.counts in
    let dense = c.in_ok-dense-2.ensures ∙ ap (λ (h : Half). h.nodes) c.in_ok-add_levels.ensures.half in
    omega (
      arith,
      sparse_room c.args.hash_bits c.args.real_bits keys c.args.levels.now.labels c.args.cutoff c.height-height.result c.in_ok-sparse.sparse.half.before c.requires.labels (omega (arith, c.requires.cutoff, same_height c.args.hash_bits c.args.real_bits keys)) top
          (ap (λ b. b.nodes) start ∙ ap (length {A = Node}) dense ∙ length-map (nodes_to (base_leaves keys) c.args.cutoff) (node_of (base_leaves keys))),
      c.labels_below.ensures,
      ap (λ s. s.limit) c.in_ok-sparse.ensures,
    )

parts : (c : goal.After-finish-3) → AreParts (image_of c.args.hash_bits c.args.real_bits c.args.cutoff c.args.keys.now) c.args.cutoff c.height-height.result c.in_ok-dense-2.dense c.in_ok-sparse-2.sparse c.finish-3.result
parts c =
    let keys = c.args.keys.now in
    let h = c.args.hash_bits in
    let r = c.args.real_bits in
    let H = c.height-height.result in
    let top : H ≡ height_of (base_leaves keys) = omega (arith, c.height-height.ensures.nodes, tall_nodes (leaves_of h r keys) c.args.levels.now.nodes c.requires.nodes, same_height h r keys) in
    let hb = c.in_ok-add_levels-2.ensures.hash_bits ∙ c.in_ok-add_levels.ensures.hash_bits ∙ c.in_ok-pending.ensures.hash_bits_are in
    let rb = c.in_ok-add_levels-2.ensures.real_bits ∙ c.in_ok-add_levels.ensures.real_bits ∙ c.in_ok-pending.ensures.real_bits_are in
    are_parts h r keys c.args.cutoff H c.in_ok-dense-2.dense c.in_ok-sparse-2.sparse c.finish-3.result c.requires.keys c.requires.hash_width c.requires.real_width (omega (arith, c.requires.cutoff, same_height h r keys)) top
    (c.in_ok-dense-2.ensures ∙ ap (λ (x : Half). x.nodes) c.in_ok-add_levels.ensures.half)
    (c.in_ok-sparse-2.ensures ∙ c.in_ok-add_levels-2.ensures.half ∙ ap (half_to keys H) (ap (λ (x : Half). x.before) (ap (λ s. s.half) c.in_ok-sparse.ensures) ∙ c.counts.ensures.counts))
    (c.finish-3.ensures ∙ ap (λ (s : SuffixesInRoom). s.array) c.in_ok-add_levels-2.ensures.pending.suffixes_are ∙ (λ i. (suffixes_passed keys (hb i) (rb i) H).array))

pub joined-requires : goal.joined-requires
joined-requires c =
    subst (λ (x : Filter). AreParts x c.args.cutoff c.height-height.result c.in_ok-dense-2.dense c.in_ok-sparse-2.sparse c.finish-3.result) (sym (stands_for (parts c))) (parts c)

pub returns : goal.returns
returns c =
    IfOk-weaker c.joined.result _ _ (λ trie is. is ∙ stands_for (parts c.before)) c.joined.ensures
