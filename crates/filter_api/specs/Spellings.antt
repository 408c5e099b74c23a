-- What a trie and a filter stand for, and the bytes that spell it.
use Rattle.std.specs.Prelude.{◌≡◌, ◌⊎◌, ℕ, ◌≤◌, List}
use Rattle.byte_fields.specs.Spelling.{IsBytes}
use Rattle.key_base.specs.Limits.{max_hash_bits, max_real_bits}
use Rattle.filter_model.specs.Leaves.{Leaf}
use Rattle.filter_model.specs.Trie.{height}
use Rattle.filter_model.specs.Valid.{IsLeafList, IsValid}

-- two widths and a leaf list that has a trie, and a cutoff from 0 to its height
pub record MayBeTrie (hash_bits real_bits cutoff : ℕ) (leaves : List Leaf) : Type 0 where
  pub hash_width : hash_bits ≤ max_hash_bits
  pub real_width : real_bits ≤ max_real_bits
  pub cutoff_in : cutoff ≤ height leaves
  pub valid : IsLeafList hash_bits real_bits leaves

-- two widths and a leaf list for which a filter may stand, and a cutoff with which it may be spelled
pub record MayStand (hash_bits real_bits cutoff : ℕ) (leaves : List Leaf) : Type 0 where
  pub hash_width : hash_bits ≤ max_hash_bits
  pub real_width : real_bits ≤ max_real_bits
  pub cutoff_in : cutoff ≤ height leaves
  pub valid : IsValid hash_bits real_bits leaves

-- how an implementation spells: from the two widths, the cutoff and the leaves
abbrev pub Spelling : Type 0
Spelling = ℕ → ℕ → ℕ → List Leaf → List ℕ

-- the bytes spell this
pub record IsSpelling (spelling : Spelling) (hash_bits real_bits cutoff : ℕ) (leaves : List Leaf) (bytes : List ℕ) : Type 0 where
  pub may_stand : MayStand hash_bits real_bits cutoff leaves
  pub bytes_are : bytes ≡ spelling hash_bits real_bits cutoff leaves

-- the bytes spell nothing
abbrev pub IsNoSpelling : Spelling → List ℕ → Type 0
IsNoSpelling spelling bytes = (hash_bits real_bits cutoff : ℕ) (leaves : List Leaf) → IsSpelling spelling hash_bits real_bits cutoff leaves bytes → ⊥

-- two that are spelled alike
pub record AreAlike (hash_bits real_bits : ℕ) (leaves : List Leaf) (other_hash other_real : ℕ) (others : List Leaf) : Type 0 where
  pub hash_width : hash_bits ≡ other_hash
  pub real_width : real_bits ≡ other_real
  pub leaves_are : leaves ≡ others

-- bytes spell one list with its widths
abbrev pub SpellsOne : Spelling → Type 0
SpellsOne spelling =
    (hash_bits real_bits cutoff other_hash other_real other_cutoff : ℕ) (leaves others : List Leaf) (bytes : List ℕ)
    → IsSpelling spelling hash_bits real_bits cutoff leaves bytes → IsSpelling spelling other_hash other_real other_cutoff others bytes
    → AreAlike hash_bits real_bits leaves other_hash other_real others

-- of any bytes it can be told whether they spell anything
abbrev pub IsDecided : Spelling → Type 0
IsDecided spelling =
    (bytes : List ℕ) → IsBytes bytes
    → IsNoSpelling spelling bytes
    ⊎ ((hash_bits : ℕ) × (real_bits : ℕ) × (cutoff : ℕ) × (leaves : List Leaf) × IsSpelling spelling hash_bits real_bits cutoff leaves bytes)
