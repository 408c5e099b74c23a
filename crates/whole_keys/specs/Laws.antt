-- What whole keys are as leaves, and what these answer of a string and of a range.
use Rattle.std.specs.Prelude.{◌≡◌, ℕ, ◌+◌, ◌≤◌, not, ◌&&◌, ◌||◌, List, count_by}
use Rattle.byte_fields.specs.Spelling.{IsBytes}
use Rattle.filter_model.specs.Answers.{fits_point, is_past, is_within, meets, tally, true_count}
use Rattle.filter_model.specs.Keys.{IsKey, IsKeyList}
use Rattle.filter_model.specs.Laws.{AreBounds}
use Rattle.filter_model.specs.Leaves.{Leaf}
use Rattle.filter_model.specs.Strings.{bytes_eq, is_before}
use Rattle.filter_model.specs.Valid.{IsLeafList}
use Rattle.whole_keys.specs.Whole.{runs_past, stubs, whole_leaf, whole_leaves}

-- ---- lists of keys and leaf lists without bits are one and the same

-- the leaves of a list of keys are a leaf list, and their stubs are the keys
pub record AreListed (keys : List (List ℕ)) : Type 0 where
  pub list : IsLeafList 0 0 (whole_leaves keys)
  pub stubs_are : stubs (whole_leaves keys) ≡ keys

abbrev pub WholeKeysAreListed : Type 0
WholeKeysAreListed = (keys : List (List ℕ)) → IsKeyList keys → AreListed keys

-- the stubs of a leaf list are a list of keys, of which it has the leaves
pub record IsWhole (ls : List Leaf) : Type 0 where
  pub keys : IsKeyList (stubs ls)
  pub same : whole_leaves (stubs ls) ≡ ls

abbrev pub ListsAreWhole : Type 0
ListsAreWhole = (ls : List Leaf) → IsLeafList 0 0 ls → IsWhole ls

-- ---- what they answer

-- a string fits the leaf of a key where it is the key, or runs past it
abbrev pub WholeFits : Type 0
WholeFits =
    (keys : List (List ℕ)) (x k : List ℕ) → IsBytes x → fits_point 0 0 x (whole_leaf keys k) ≡ (bytes_eq k x || runs_past keys x k)

-- a leaf is past a bound where its key is below it, and the bound does not run past the key
abbrev pub WholePast : Type 0
WholePast =
    (keys : List (List ℕ)) (lo k : List ℕ) → IsBytes lo → IsKey k → is_past 0 lo (whole_leaf keys k) ≡ (is_before k lo && not (runs_past keys lo k))

-- a leaf meets a range where its key lies in it, or the lower bound runs past the key
abbrev pub WholeMeets : Type 0
WholeMeets =
    (keys : List (List ℕ)) (lo hi k : List ℕ) → AreBounds lo hi → IsKey k
    → meets 0 lo hi (whole_leaf keys k) ≡ (is_within lo hi k || runs_past keys lo k)

-- a string runs past one key of a list at most
abbrev pub OneIsRunPast : Type 0
OneIsRunPast = (keys : List (List ℕ)) (x : List ℕ) → IsKeyList keys → count_by (runs_past keys x) keys ≤ 1

-- the tally of a range is the number of its keys, and one more where the lower bound runs past a key
abbrev pub WholeTally : Type 0
WholeTally =
    (keys : List (List ℕ)) (lo hi : List ℕ) → AreBounds lo hi → IsKeyList keys
    → tally 0 (whole_leaves keys) lo hi ≡ true_count keys lo hi + count_by (runs_past keys lo) keys
