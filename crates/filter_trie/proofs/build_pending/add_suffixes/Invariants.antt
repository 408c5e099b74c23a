use Rattle.std.proofs.Common.{◌≡◌, ◌++◌, ◌+◌, drop, length, map}
use Rattle.filter_model.specs.Leaves.{leaves_of}
use Rattle.suffix_bits.specs.Slots.{leaf_suffix}
use Rattle.trie_levels.specs.Spans.{by_length}
use Rattle.filter_trie.proofs.PassedSuffixes.{ending_on, suffix_at}
use Rattle.filter_trie.proofs.build_pending.add_suffixes.Given as goal

-- the suffixes so far, and those of the spans to come
abbrev pub invariant-loop-i : goal.invariant-loop-i
invariant-loop-i l =
    (l.suffixes.array.slots ++ map (suffix_at l.hash_bits l.real_bits l.keys) (ending_on l.level (drop l.i l.spans)) ≡ map leaf_suffix (by_length (l.level + 1) (leaves_of l.hash_bits l.real_bits l.keys)))
    × (l.suffixes.array.hash_bits ≡ l.hash_bits)
    × (l.suffixes.array.real_bits ≡ l.real_bits)
    × (l.suffixes.limit ≡ length l.keys)
