-- The paths of a list with a trie: none begins another, each leads to a slot, and each level has one.
use Rattle.std.proofs.Common.{◌≡◌, ℕ, zero, suc, ◌<◌, ◌≤◌, ◌==◌, Bool, true, false, List, [], ◌∷◌, ◌++◌, length, get_or, take, refl, ap, sym, ◌∙◌, arith, inl, inr}
use Rattle.std.specs.List.{AllPairs, list_any}
use Rattle.std.proofs.Math.Seq.{take-suc}
use Rattle.std.proofs.lemmas.Bool.{and_from, and_parts, cases_lt, cases_order, eq-eqb, false_from_ne_true, false≢true, or_cases}
use Rattle.std.proofs.lemmas.List.{length-take, take_all}
use Rattle.std.proofs.lemmas.List.Folds.{list_any_at}
use Rattle.filter_model.specs.Leaves.{Leaf}
use Rattle.filter_model.specs.Strings.{extends, is_prefix, shared}
use Rattle.filter_model.specs.Trie.{height, is_node, is_reached, path}
use Rattle.filter_model.proofs.Levels.{node_in_level}
use Rattle.filter_model.proofs.Shared.{extends-prefix, shared_sym}
use Rattle.trie_levels.specs.Tries.{HasTrie}
use Rattle.trie_levels.proofs.Growth.{AreInOrder, leaves_part}
use Rattle.trie_levels.proofs.Parting.{PartAt, shared_of_prefix}
use Rattle.trie_levels.proofs.Totals.{in_order}
use Rattle.trie_laws.specs.Leaves.{AreParted, LevelsHaveNodes, PathsArePrefixFree, PathsAreNoNodes}

-- ---- strings

-- a string that begins another shares all of itself
prefix_shared : (p q : List ℕ) → is_prefix p q ≡ true → length p ≤ shared q p
prefix_shared p q e = shared_of_prefix (length p) p q (omega arith) (ap (λ (x : List ℕ). is_prefix x q) (take_all (length p) p (omega arith)) ∙ e)

-- strings that part do not begin each other
part_is : (p q : List ℕ) (n : ℕ) → PartAt p q n → AreParted p q
part_is p q n part = record {
  first = false_from_ne_true (is_prefix p q) (λ e. omega (arith, prefix_shared p q e, shared_sym p q, part.at, part.first));
  second = false_from_ne_true (is_prefix q p) (λ e. omega (arith, prefix_shared q p e, part.at, part.second));
}

extends_itself : (p : List ℕ) → extends p p ≡ true → ⊥
extends_itself [] e = false≢true e
extends_itself (a ∷ p) e = extends_itself p (and_parts (a == a) (extends p p) e).1

pub prefix_itself : (p : List ℕ) → is_prefix p p ≡ true
prefix_itself [] = refl
prefix_itself (a ∷ p) = and_from (a == a) (is_prefix p p) (eq-eqb a a refl) (prefix_itself p)

pub take_extends : (n : ℕ) (p : List ℕ) → n < length p → extends (take n p) p ≡ true
take_extends n [] h = absurd (omega arith)
take_extends zero (a ∷ p) h = refl
take_extends (suc n) (a ∷ p) h = and_from (a == a) (extends (take n p) p) (eq-eqb a a refl) (take_extends n p (omega arith))

-- a string without its last letter, and that letter
pub pushed : (q : List ℕ) (n : ℕ) → length q ≡ suc n → q ≡ take n q ++ get_or q n 0 ∷ []
pushed q n long = sym (take_all (suc n) q (omega arith)) ∙ take-suc q n 0 (omega arith)

-- ---- some element passes

pub some_at : {X : Type 0} (f : X → Bool) (xs : List X) (d : X) → list_any f xs ≡ true → (k : ℕ) × (k < length xs) × (f (get_or xs k d) ≡ true)
some_at f [] d e = absurd (false≢true e)
some_at f (x ∷ xs) d e = elim (or_cases (f x) (list_any f xs) e) [
  | inl here ↦ (0, omega arith, here)
  | inr there ↦ let r = some_at f xs d there in (suc r.0, omega (arith, r.1), r.2)
]

-- ---- none begins another

parted_at : (ls : List Leaf) → AreInOrder ls → AllPairs (λ a b. AreParted (path a) (path b)) ls
parted_at ls h i j d before within =
    let a = get_or ls i d in
    let b = get_or ls j d in
    part_is (path a) (path b) (shared a.stub b.stub) (leaves_part a b (h.bytes j d within) (h.pairs i j d before within))

pub paths_are_prefix_free : PathsArePrefixFree
paths_are_prefix_free ls t = parted_at ls (in_order ls t)

-- a leaf whose path begins with another's is that leaf
pub one_begins : (ls : List Leaf) → HasTrie ls → (i j : ℕ) (d : Leaf) → i < length ls → j < length ls → is_prefix (path (get_or ls i d)) (path (get_or ls j d)) ≡ true → i ≡ j
one_begins ls t i j d il jl e = elim (cases_order i j) [
  | inl same ↦ same
  | inr apart ↦ elim apart [
    | inl before ↦ absurd (false≢true (sym (paths_are_prefix_free ls t i j d before jl).first ∙ e))
    | inr behind ↦ absurd (false≢true (sym (paths_are_prefix_free ls t j i d behind il).second ∙ e))
  ]
]

pub paths_are_no_nodes : PathsAreNoNodes
unfolding is_node
paths_are_no_nodes ls t i d il = false_from_ne_true (list_any (λ l. extends (path (get_or ls i d)) (path l)) ls) (λ e.
    let found = some_at (λ l. extends (path (get_or ls i d)) (path l)) ls d e in
    let same = one_begins ls t i found.0 d il found.1 (extends-prefix (path (get_or ls i d)) (path (get_or ls found.0 d)) found.2) in
    extends_itself (path (get_or ls i d)) (ap (λ (k : ℕ). extends (path (get_or ls i d)) (path (get_or ls k d))) same ∙ found.2))

-- ---- nodes and branches on a path

pub path_reached : (ls : List Leaf) (i : ℕ) (d : Leaf) (q : List ℕ) → i < length ls → is_prefix q (path (get_or ls i d)) ≡ true → is_reached ls q ≡ true
unfolding is_reached
path_reached ls i d q il e = list_any_at (λ l. is_prefix q (path l)) ls i d il e

pub path_node : (ls : List Leaf) (i : ℕ) (d : Leaf) (q : List ℕ) → i < length ls → extends q (path (get_or ls i d)) ≡ true → is_node ls q ≡ true
unfolding is_node
path_node ls i d q il e = list_any_at (λ l. extends q (path l)) ls i d il e

pub reached_by : (ls : List Leaf) (d : Leaf) (q : List ℕ) → is_reached ls q ≡ true → (k : ℕ) × (k < length ls) × (is_prefix q (path (get_or ls k d)) ≡ true)
unfolding is_reached
reached_by ls d q e = some_at (λ l. is_prefix q (path l)) ls d e

pub node_by : (ls : List Leaf) (d : Leaf) (q : List ℕ) → is_node ls q ≡ true → (k : ℕ) × (k < length ls) × (extends q (path (get_or ls k d)) ≡ true)
unfolding is_node
node_by ls d q e = some_at (λ l. extends q (path l)) ls d e

-- ---- each level has a node

long_path : (ls : List Leaf) (d : Leaf) (n : ℕ) → n < height ls → (k : ℕ) × (k < length ls) × (n < length (path (get_or ls k d)))
unfolding height
long_path [] d n h = absurd (omega arith)
long_path (l ∷ ls) d n h = elim (cases_lt n (length (path l))) [
  | inl here ↦ (0, omega arith, here)
  | inr short ↦ let r = long_path ls d n (omega (arith, h, short)) in (suc r.0, omega (arith, r.1), r.2)
]

pub path_high : (ls : List Leaf) (k : ℕ) (d : Leaf) → k < length ls → length (path (get_or ls k d)) ≤ height ls
unfolding height
path_high [] k d l = absurd (omega arith)
path_high (m ∷ ls) zero d l = omega arith
path_high (m ∷ ls) (suc k) d l = omega (arith, path_high ls k d (omega arith))

pub any_leaf : Leaf
any_leaf = record { stub = []; ends = false; hash = 0; real = 0 }

pub levels_have_nodes : LevelsHaveNodes
levels_have_nodes ls n t h =
    let tall = long_path ls any_leaf n h in
    let p = path (get_or ls tall.0 any_leaf) in
    let node = path_node ls tall.0 any_leaf (take n p) tall.1 (take_extends n p tall.2) in
    let there = node_in_level ls n (take n p) (in_order ls t).bytes (omega (arith, length-take n p, tall.2)) node in
    omega (arith, there.1)
