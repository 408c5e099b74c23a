-- The kinds of lists that an image may be of, by which the rules of the format differ.
use Rattle.std.specs.Prelude.{◌≡◌, ℕ, ◌≤◌, Bool, true, false, cond, List}
use Rattle.key_base.specs.Limits.{max_hash_bits, max_real_bits}
use Rattle.filter_model.specs.Leaves.{Leaf}
use Rattle.filter_model.specs.Trie.{height}
use Rattle.filter_model.specs.Valid.{IsLeafList, IsValid}

-- the most hash bits and real bits of a leaf, and whether a leaf may be alone in its node
pub record Kind : Type 0 where
  pub hash_bits : ℕ
  pub real_bits : ℕ
  pub alone : Bool

-- a filter's, whose stubs are no longer than needed
abbrev pub of_stubs : Kind
of_stubs = record { hash_bits = max_hash_bits; real_bits = max_real_bits; alone = false }

-- those of any trie
abbrev pub of_tries : Kind
of_tries = record { hash_bits = max_hash_bits; real_bits = max_real_bits; alone = true }

-- whole keys: no bits
abbrev pub of_whole_keys : Kind
of_whole_keys = record { hash_bits = 0; real_bits = 0; alone = true }

-- a kind of a trie's lists
pub record IsKind (k : Kind) : Type 0 where
  pub hash_width : k.hash_bits ≤ max_hash_bits
  pub real_width : k.real_bits ≤ max_real_bits

-- of so many leaves, the number by which a node is judged, and the root: where a leaf may be alone, one of which their last
-- clause says nothing
abbrev pub leaves_beside : Bool → ℕ → ℕ
leaves_beside alone leaves = cond alone 1 leaves

abbrev pub leaves_under : Bool → ℕ → ℕ
leaves_under alone leaves = cond alone 0 leaves

-- an image of the kind may be of these
pub record IsOfKind (k : Kind) (hash_bits real_bits cutoff : ℕ) (leaves : List Leaf) : Type 0 where
  pub hash_width : hash_bits ≤ k.hash_bits
  pub real_width : real_bits ≤ k.real_bits
  pub cutoff_in : cutoff ≤ height leaves
  pub listed : IsLeafList hash_bits real_bits leaves
  pub company : k.alone ≡ false → IsValid hash_bits real_bits leaves
