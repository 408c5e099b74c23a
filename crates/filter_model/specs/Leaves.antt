-- The leaf that stands for a key: as much of the key as tells it from all others, and some suffix bits.
use Rattle.std.specs.Prelude.{ℕ, ◌+◌, ◌%◌, ◌^◌, ◌==◌, max, Bool, cond, List, [], ◌∷◌, map, length, take, drop}
use Rattle.byte_fields.specs.Sums.{fnv_of}
use Rattle.filter_model.specs.Strings.{bytes_eq, shared, bits}

-- a leaf: the stub, whether the key ends with it, the hash bits of the key, and its real bits, those after the stub
pub record Leaf : Type 0 where
  pub stub : List ℕ
  pub ends : Bool
  pub hash : ℕ
  pub real : ℕ

-- what the bytes of a filter stand for: the widths of its suffixes, a cutoff, and its leaves
pub record Filter : Type 0 where
  pub hash_bits : ℕ
  pub real_bits : ℕ
  pub cutoff : ℕ
  pub leaves : List Leaf

-- the longest prefix that k shares with another key of the list
abbrev pub shared_most : List (List ℕ) → List ℕ → ℕ
shared_most [] k = 0
shared_most (x ∷ keys) k = max (cond (bytes_eq k x) 0 (shared k x)) (shared_most keys k)

-- the key up to the first byte that no other key has there, or the whole key where another one goes on from it
abbrev pub stub_of : List (List ℕ) → List ℕ → List ℕ
stub_of keys k = take (shared_most keys k + 1) k

-- the key is a proper prefix of another
abbrev pub ends_of : List (List ℕ) → List ℕ → Bool
ends_of keys k = length k == shared_most keys k

-- the low bits of the key's FNV-1a
abbrev pub hash_bits_of : ℕ → List ℕ → ℕ
hash_bits_of hash_bits k = fnv_of k % 2 ^ hash_bits

-- the bits of the key that follow its stub
abbrev pub real_of : ℕ → List (List ℕ) → List ℕ → ℕ
real_of real_bits keys k = cond (ends_of keys k) 0 (bits real_bits (drop (shared_most keys k + 1) k))

abbrev pub leaf_of : ℕ → ℕ → List (List ℕ) → List ℕ → Leaf
leaf_of hash_bits real_bits keys k =
    record { stub = stub_of keys k; ends = ends_of keys k; hash = hash_bits_of hash_bits k; real = real_of real_bits keys k }

-- the leaves of a list of keys, in its order
abbrev pub leaves_of : ℕ → ℕ → List (List ℕ) → List Leaf
leaves_of hash_bits real_bits keys = map (leaf_of hash_bits real_bits keys) keys

-- the same with no suffix bits, for their paths alone
abbrev pub base_leaves : List (List ℕ) → List Leaf
base_leaves keys = leaves_of 0 0 keys
