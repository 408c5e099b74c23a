-- The leaves that are still to come while a trie is built, and the suffixes of the others.
use Rattle.std.specs.Prelude.{◌≡◌, ℕ, ◌≤◌, List, [], length, map}
use Rattle.key_base.specs.Limits.{max_hash_bits, max_real_bits}
use Rattle.filter_model.specs.Leaves.{leaves_of}
use Rattle.filter_trie.specs.Building.{spans_longer}
use Rattle.filter_trie.specs.declared.build_pending.Pending.{Pending}
use Rattle.suffix_bits.specs.Room.{SuffixesInRoom}
use Rattle.suffix_bits.specs.Slots.{leaf_suffix}
use Rattle.trie_levels.specs.declared.spans.Span.{Span}
use Rattle.trie_levels.specs.Spans.{by_length}

-- the suffixes of the leaves whose paths have n letters at most, and room for all
abbrev pub suffixes_passed : List (List ℕ) → ℕ → ℕ → ℕ → SuffixesInRoom
suffixes_passed keys hash_bits real_bits n = record {
  array = record { hash_bits = hash_bits; real_bits = real_bits; slots = map leaf_suffix (by_length n (leaves_of hash_bits real_bits keys)) };
  limit = length keys;
}

-- n levels are passed
pub record ArePending (keys : List (List ℕ)) (n : ℕ) (p : Pending) : Type 0 where
  pub spans_are : p.spans.items ≡ spans_longer keys n
  pub suffixes_are : p.suffixes ≡ suffixes_passed keys p.hash_bits p.real_bits n
  pub hash_width : p.hash_bits ≤ max_hash_bits
  pub real_width : p.real_bits ≤ max_real_bits

-- none is passed
pub record IsNew (hash_bits real_bits : ℕ) (spans : List Span) (p : Pending) : Type 0 where
  pub spans_are : p.spans.items ≡ spans
  pub suffixes_are : p.suffixes ≡ record { array = record { hash_bits = hash_bits; real_bits = real_bits; slots = [] }; limit = length spans }
  pub hash_bits_are : p.hash_bits ≡ hash_bits
  pub real_bits_are : p.real_bits ≡ real_bits
