use Rattle.std.proofs.Common.{◌∙◌, arith, subst, sym}
use Rattle.filter_image_model.specs.Laws.{whole_list}
use Rattle.filter_model.specs.Leaves.{Filter}
use Rattle.filter_trie.specs.Parts.{AreParts}
use Rattle.filter_trie.proofs.Parts.{stands_for}
use Rattle.map_writer.proofs.Tries.{are_parts}
use Rattle.suffix_bits.specs.Slots.{unpacked_suffixes}
use Rattle.trie_build.proofs.Whole.{tall_nodes}
use Rattle.whole_keys.specs.Whole.{whole_leaves}
use Rattle.map_writer.proofs.trie.whole_trie.Goals as goal

parts : (c : goal.After-height) → AreParts (whole_list c.args.plan.cutoff (whole_leaves c.args.keys.now)) c.args.plan.cutoff c.height.result c.in_ok-dense.dense c.in_ok-dense.sparse c.of-suffixes.result
parts c =
    are_parts c.args.keys.now c.args.plan c.height.result c.in_ok-dense.dense c.in_ok-dense.sparse c.of-suffixes.result c.requires
    (omega (arith, c.height.ensures.nodes, tall_nodes (whole_leaves c.args.keys.now) c.args.plan.levels.nodes c.requires.planned.nodes_are))
    c.in_ok-dense.ensures.dense c.in_ok-dense.ensures.sparse
    (c.of-suffixes.ensures ∙ (λ i. record { hash_bits = 0; real_bits = 0; slots = unpacked_suffixes 0 0 (c.new.ensures i) (c.len.ensures i) }))

pub joined-requires : goal.joined-requires
joined-requires c =
    subst (λ (x : Filter). AreParts x c.args.plan.cutoff c.height.result c.in_ok-dense.dense c.in_ok-dense.sparse c.of-suffixes.result) (sym (stands_for (parts c))) (parts c)

pub returns : goal.returns
returns c = c.joined.ensures ∙ stands_for (parts c.before.before)
