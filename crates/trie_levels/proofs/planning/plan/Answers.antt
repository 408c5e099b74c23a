use Rattle.std.proofs.Common.{◌∙◌, ℕ, ap, map}
use Rattle.std.specs.List.{range_with_len}
use Rattle.trie_levels.specs.Neighbours.{endings, partings}
use Rattle.trie_levels.proofs.planning.plan.Goals as goal

pub levels_of-requires : goal.levels_of-requires
levels_of-requires c = (
  c.args.leaves.now,
  record {
    trie = c.requires;
    parted_are = c.as_slice.ensures.value ∙ c.in_ok-parted.ensures ∙ ap (λ (n : ℕ). map (partings c.args.leaves.now) (range_with_len 0 n)) c.longest_path-count.ensures.height;
    ended_are = c.as_slice-2.ensures.value ∙ c.in_ok-ended.ensures ∙ ap (λ (n : ℕ). map (endings c.args.leaves.now) (range_with_len 0 n)) c.longest_path-count.ensures.height;
  },
)
