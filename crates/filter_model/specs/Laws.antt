-- What the definitions keep, whatever the leaves and the keys.
use Rattle.std.specs.Prelude.{◌≡◌, ◌≢◌, ◌==◌, ◌↔◌, ◌<◌, ℕ, ◌+◌, ◌≤◌, nat_lt, Bool, true, false, ◌&&◌, ◌||◌, List, length, map, take, get_or, slice_get, Option, Some, None}
use Rattle.std.specs.List.{All, AllPairs, Contains, list_any}
use Rattle.key_base.specs.Limits.{max_real_bits, max_key_bytes}
use Rattle.byte_fields.specs.Spelling.{IsBytes}
use Rattle.filter_model.specs.Strings.{extends, is_before, bytes_eq}
use Rattle.filter_model.specs.Keys.{IsKeyList}
use Rattle.filter_model.specs.Leaves.{Leaf, leaf_of, leaves_of}
use Rattle.filter_model.specs.Answers.{begins, first, first_difference, fits, is_past, point, ranged, tally, is_within, keys_below, true_count}
use Rattle.filter_model.specs.Trie.{branches, nodes, parent}
use Rattle.filter_model.specs.Valid.{IsLeaf, IsLeafList, IsValid}

-- the leaves of every list of keys are valid
abbrev pub LeavesAreValid : Type 0
LeavesAreValid =
    (hash_bits real_bits : ℕ) (keys : List (List ℕ)) → real_bits ≤ max_real_bits → IsKeyList keys → IsValid hash_bits real_bits (leaves_of hash_bits real_bits keys)

-- what a filter may stand for is a leaf list; the other way round it need not be
abbrev pub ValidListsAreLeafLists : Type 0
ValidListsAreLeafLists = (hash_bits real_bits : ℕ) (ls : List Leaf) → IsValid hash_bits real_bits ls → IsLeafList hash_bits real_bits ls

-- two bounds of a range
pub record AreBounds (lo hi : List ℕ) : Type 0 where
  pub lo_bytes : IsBytes lo
  pub hi_bytes : IsBytes hi
  pub in_order : is_before hi lo ≡ false

-- a byte string from lo to hi that fits some leaf, hash apart
pub record IsHeldBetween (real_bits : ℕ) (ls : List Leaf) (lo hi x : List ℕ) : Type 0 where
  pub bytes : IsBytes x
  pub within : is_within lo hi x ≡ true
  pub fit : list_any (fits real_bits x) ls ≡ true

-- a range answers yes exactly where some byte string in it fits a leaf, hash apart
abbrev pub RangeIsExact : Type 0
RangeIsExact =
    (hash_bits real_bits : ℕ) (ls : List Leaf) (lo hi : List ℕ) → real_bits ≤ max_real_bits → IsValid hash_bits real_bits ls → AreBounds lo hi
    → (ranged real_bits ls lo hi ≡ true) ↔ ((x : List ℕ) × IsHeldBetween real_bits ls lo hi x)

-- no stored key is denied
abbrev pub NoKeyIsDenied : Type 0
NoKeyIsDenied =
    (hash_bits real_bits : ℕ) (keys : List (List ℕ)) (k : List ℕ) → Contains keys k → point hash_bits real_bits (leaves_of hash_bits real_bits keys) k ≡ true

-- no range that holds a stored key is denied
abbrev pub NoHeldRangeIsDenied : Type 0
NoHeldRangeIsDenied =
    (hash_bits real_bits : ℕ) (keys : List (List ℕ)) (lo hi k : List ℕ) → IsKeyList keys → AreBounds lo hi → Contains keys k → is_within lo hi k ≡ true
    → ranged real_bits (leaves_of hash_bits real_bits keys) lo hi ≡ true

-- the tally is never below the true count, and at most two above it
abbrev pub TallyIsNear : Type 0
TallyIsNear =
    (hash_bits real_bits : ℕ) (keys : List (List ℕ)) (lo hi : List ℕ) → real_bits ≤ max_real_bits → IsKeyList keys → AreBounds lo hi
    → (true_count keys lo hi ≤ tally real_bits (leaves_of hash_bits real_bits keys) lo hi)
    × (tally real_bits (leaves_of hash_bits real_bits keys) lo hi ≤ true_count keys lo hi + 2)

-- what a seek's answer says of the keys: as many as its leaf's number are below lo, or one more; without a leaf, all
pub record IsNear (keys : List (List ℕ)) (lo : List ℕ) (answer : Option ℕ) : Type 0 where
  pub some : (n : ℕ) → answer ≡ Some n → (n ≤ keys_below keys lo) × (keys_below keys lo ≤ n + 1)
  pub none : answer ≡ None → keys_below keys lo ≡ length keys

abbrev pub SeeksAreNear : Type 0
SeeksAreNear =
    (hash_bits real_bits : ℕ) (keys : List (List ℕ)) (lo : List ℕ) → real_bits ≤ max_real_bits → IsKeyList keys → IsBytes lo
    → IsNear keys lo (first real_bits (leaves_of hash_bits real_bits keys) lo)

-- no key from lo on comes before the least string of the leaf that a seek of lo answers
abbrev pub NothingBeforeFirst : Type 0
NothingBeforeFirst =
    (hash_bits real_bits : ℕ) (keys : List (List ℕ)) (lo k : List ℕ) (n : ℕ) (l : Leaf) → real_bits ≤ max_real_bits → IsKeyList keys → IsBytes lo
    → first real_bits (leaves_of hash_bits real_bits keys) lo ≡ Some n → Contains keys k → is_before k lo ≡ false
    → is_before k (begins real_bits (get_or (leaves_of hash_bits real_bits keys) n l)) ≡ false

-- a range holds a leaf exactly where a seek of lo answers one whose least string is not above hi
abbrev pub RangedByFirst : Type 0
RangedByFirst =
    (hash_bits real_bits : ℕ) (ls : List Leaf) (lo hi : List ℕ) (l : Leaf) → real_bits ≤ max_real_bits → IsValid hash_bits real_bits ls
    → (ranged real_bits ls lo hi ≡ true) ↔ ((n : ℕ) × (first real_bits ls lo ≡ Some n) × (is_before hi (begins real_bits (get_or ls n l)) ≡ false))

-- x is the least byte string that fits the leaf, hash apart
pub record IsLeast (real_bits : ℕ) (l : Leaf) (x : List ℕ) : Type 0 where
  pub bytes : IsBytes x
  pub fit : fits real_bits x l ≡ true
  pub least : (y : List ℕ) → IsBytes y → fits real_bits y l ≡ true → is_before y x ≡ false

-- each leaf of a valid list begins with the least string that fits it
abbrev pub LeastStringsFit : Type 0
LeastStringsFit =
    (hash_bits real_bits : ℕ) (ls : List Leaf) → real_bits ≤ max_real_bits → IsValid hash_bits real_bits ls → All (λ l. IsLeast real_bits l (begins real_bits l)) ls

-- and no key comes before that of its leaf
abbrev pub NoKeyBeforeLeast : Type 0
NoKeyBeforeLeast =
    (hash_bits real_bits : ℕ) (keys : List (List ℕ)) (k : List ℕ) → IsKeyList keys → Contains keys k
    → is_before k (begins real_bits (leaf_of hash_bits real_bits keys k)) ≡ false

-- a leaf is past lo exactly where each byte string that fits it is below lo
abbrev pub PastIsBelow : Type 0
PastIsBelow =
    (hash_bits real_bits : ℕ) (lo : List ℕ) (l : Leaf) → real_bits ≤ max_real_bits → IsBytes lo → IsLeaf hash_bits real_bits l
    → (is_past real_bits lo l ≡ true) ↔ ((x : List ℕ) → IsBytes x → fits real_bits x l ≡ true → is_before x lo ≡ true)

-- a valid list without hash bits, whose least strings are no longer than a key, is the leaves of its least strings
pub record IsOfKeys (real_bits : ℕ) (ls : List Leaf) (keys : List (List ℕ)) : Type 0 where
  pub list : IsKeyList keys
  pub same : leaves_of 0 real_bits keys ≡ ls

abbrev pub ValidListsComeOfKeys : Type 0
ValidListsComeOfKeys =
    (real_bits : ℕ) (ls : List Leaf) → real_bits ≤ max_real_bits → IsValid 0 real_bits ls → All (λ l. length (begins real_bits l) ≤ max_key_bytes) ls
    → IsOfKeys real_bits ls (map (begins real_bits) ls)

-- the leaves' stubs are byte strings
abbrev pub AreByteStubs : List Leaf → Type 0
AreByteStubs ls = All (λ l. IsBytes l.stub) ls

-- some stub properly extends p, or some leaf ends with the stub p
abbrev pub is_inner : List Leaf → List ℕ → Bool
is_inner ls p = list_any (λ l. extends p l.stub || (l.ends && bytes_eq l.stub p)) ls

-- a prefix is among the nodes exactly where some stub properly extends it or some leaf ends with it
abbrev pub NodesAreThePrefixes : Type 0
NodesAreThePrefixes = (ls : List Leaf) (p : List ℕ) → AreByteStubs ls → Contains (nodes ls) p ↔ (is_inner ls p ≡ true)

-- by length, and then in byte order
abbrev pub stands_before : List ℕ → List ℕ → Bool
stands_before p q = nat_lt (length p) (length q) || ((length p == length q) && is_before p q)

-- nodes stand by length, and then in byte order
abbrev pub NodesStandInOrder : Type 0
NodesStandInOrder = (ls : List Leaf) → AreByteStubs ls → AllPairs (λ p q. stands_before p q ≡ true) (nodes ls)

-- each leaf of two keys or more is a branch of a node of two branches or more, in the trie too
abbrev pub NodesBranch : Type 0
NodesBranch =
    (hash_bits real_bits : ℕ) (keys : List (List ℕ)) → IsKeyList keys → 1 < length keys
    → All (λ l. 2 ≤ length (branches (leaves_of hash_bits real_bits keys) (parent l))) (leaves_of hash_bits real_bits keys)

-- ---- two lists of leaves

-- They differ at the number n and at none before it. Both may have no more leaf there but not both at once.
pub record DifferFirstAt (leaves others : List Leaf) (n : ℕ) : Type 0 where
  pub within : n ≤ length leaves
  pub within_others : n ≤ length others
  pub alike : take n leaves ≡ take n others
  pub differ : slice_get leaves n ≢ slice_get others n

-- no number exactly where they are one list, and a number exactly where it is that of their first difference
abbrev pub FirstDifferenceIsExact : Type 0
FirstDifferenceIsExact =
    (leaves others : List Leaf)
    → ((first_difference leaves others ≡ None) ↔ (leaves ≡ others))
    × ((n : ℕ) → (first_difference leaves others ≡ Some n) ↔ DifferFirstAt leaves others n)
