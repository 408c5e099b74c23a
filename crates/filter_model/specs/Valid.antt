-- The leaf lists of tries, and those that a filter may stand for, without mention of keys.
use Rattle.std.specs.Prelude.{◌≡◌, ℕ, ◌<◌, ◌^◌, Bool, true, not, ◌&&◌, List, length}
use Rattle.std.specs.List.{All, AllPairs, list_any}
use Rattle.filter_model.specs.Strings.{is_before, extends, is_prefix, bytes_eq}
use Rattle.filter_model.specs.Keys.{IsKey}
use Rattle.filter_model.specs.Leaves.{Leaf}
use Rattle.filter_model.specs.Trie.{parent}

-- the stub is as a key may be
abbrev pub IsStub : Leaf → Type 0
IsStub l = IsKey l.stub

-- a leaf by itself: its stub, hash and real bits of their widths, no real bits where it ends
pub record IsLeaf (hash_bits real_bits : ℕ) (l : Leaf) : Type 0 where
  pub stub : IsStub l
  pub hash_fits : l.hash < 2 ^ hash_bits
  pub real_fits : l.real < 2 ^ real_bits
  pub end_without_real : l.ends ≡ true → l.real ≡ 0

-- the stub is a proper prefix of another exactly where the leaf ends
abbrev pub EndsRightly : List Leaf → Leaf → Type 0
EndsRightly ls l = l.ends ≡ list_any (λ o. extends l.stub o.stub) ls

-- another stub goes on from the leaf's node
abbrev pub joins : Leaf → Leaf → Bool
joins l o = is_prefix (parent l) o.stub && not (bytes_eq o.stub l.stub)

-- the leaf is a branch of a node of two branches or more
abbrev pub IsCrowded : List Leaf → Leaf → Type 0
IsCrowded ls l = list_any (joins l) ls ≡ true

-- one leaf or more, fewer than 2^32, each by itself right; stubs rise, and one is a proper prefix of another exactly where it ends
pub record IsLeafList (hash_bits real_bits : ℕ) (ls : List Leaf) : Type 0 where
  pub some : 0 < length ls
  pub few : length ls < 2 ^ 32
  pub leaves : All (IsLeaf hash_bits real_bits) ls
  pub rising : AllPairs (λ a b. is_before a.stub b.stub ≡ true) ls
  pub ends : All (EndsRightly ls) ls

-- such a list whose stubs are no longer than needed: of one leaf the stub has one byte, of more each is a branch beside others
pub record IsValid (hash_bits real_bits : ℕ) (ls : List Leaf) : Type 0 where
  pub some : 0 < length ls
  pub few : length ls < 2 ^ 32
  pub leaves : All (IsLeaf hash_bits real_bits) ls
  pub rising : AllPairs (λ a b. is_before a.stub b.stub ≡ true) ls
  pub ends : All (EndsRightly ls) ls
  pub single : length ls ≡ 1 → All (λ l. length l.stub ≡ 1) ls
  pub crowded : 1 < length ls → All (IsCrowded ls) ls
