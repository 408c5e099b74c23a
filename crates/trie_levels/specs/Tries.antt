-- The leaf lists that have a trie, by their stubs alone.
use Rattle.std.specs.Prelude.{◌≡◌, ℕ, ◌<◌, ◌^◌, true, List, length}
use Rattle.std.specs.List.{All, AllPairs}
use Rattle.filter_model.specs.Leaves.{Leaf}
use Rattle.filter_model.specs.Strings.{is_before}
use Rattle.filter_model.specs.Valid.{EndsRightly, IsLeafList, IsStub}

-- one leaf or more, whose stubs rise strictly; one is a proper prefix of another exactly where it ends
pub record HasTrie (ls : List Leaf) : Type 0 where
  pub some : 0 < length ls
  pub few : length ls < 2 ^ 32
  pub stubs : All IsStub ls
  pub rising : AllPairs (λ a b. is_before a.stub b.stub ≡ true) ls
  pub ends : All (EndsRightly ls) ls

-- every leaf list has a trie, whatever its leaves' widths
abbrev pub ValidListsHaveTries : Type 0
ValidListsHaveTries = (hash_bits real_bits : ℕ) (ls : List Leaf) → IsLeafList hash_bits real_bits ls → HasTrie ls
