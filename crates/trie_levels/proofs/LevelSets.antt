-- A level's nodes are the strings of its length that go on, its branches those of one letter more that are reached, each once.
use Rattle.std.proofs.Common.{◌≡◌, ◌<◌, ◌≤◌, ◌==◌, ℕ, zero, suc, List, [], ◌∷◌, ◌++◌, Bool, true, false, length, take, get_or, map, refl, sym, ap, subst, ◌∙◌, arith, inl, inr}
use Rattle.std.specs.Prelude.{flat_map}
use Rattle.std.specs.List.{AllPairs, Contains, list_any, range_with_len}
use Rattle.std.proofs.Math.Seq.{take-suc}
use Rattle.std.proofs.lemmas.Bool.{cases_lt, and_parts, or_cases, or_left, or_right, eqb-true, and_from, false≢true}
use Rattle.std.proofs.lemmas.List.{length-take, length_push, take_all}
use Rattle.std.proofs.lemmas.List.Elements.{All-head, All-tail, Contains-get_or}
use Rattle.std.proofs.lemmas.List.FromFn.{length-range_with_len, get_or-range_with_len}
use Rattle.byte_fields.specs.Spelling.{IsBytes}
use Rattle.filter_model.specs.Leaves.{Leaf}
use Rattle.filter_model.specs.Laws.{AreByteStubs}
use Rattle.filter_model.specs.Strings.{extends, is_prefix}
use Rattle.filter_model.specs.Trie.{END, branches, height, is_node, is_reached, letters, level, path}
use Rattle.filter_model.proofs.Levels.{Contains-bytes, bytes_rise, in_level, level_rises, node_in_level}
use Rattle.filter_model.proofs.Pairs.{AllPairs-cons, AllPairs-filter, AllPairs-flat_map, AllPairs-nil, Contains-filter, Contains-filter_back, Contains-first, Contains-flat_map, Contains-flat_map_back, Contains-map, Contains-map_back}
use Rattle.filter_model.proofs.Stubs.{different}
use Rattle.trie_levels.specs.Neighbours.{level_branches}
use Rattle.trie_levels.proofs.Distinct.{Apart, Lists}
use Rattle.trie_levels.proofs.Parting.{tail}

-- what is reached by a letter more goes on
pub extends_before : (r x : List ℕ) (c : ℕ) → is_prefix (r ++ c ∷ []) x ≡ true → extends r x ≡ true
extends_before [] [] c e = absurd (false≢true e)
extends_before [] (b ∷ x) c e = refl
extends_before (a ∷ r) [] c e = absurd (false≢true e)
extends_before (a ∷ r) (b ∷ x) c e =
    let parts = and_parts (a == b) (is_prefix (r ++ c ∷ []) x) e in and_from (a == b) (extends r x) parts.0 (extends_before r x c parts.1)

pub node_before : (ls : List Leaf) (r : List ℕ) (c : ℕ) → is_reached ls (r ++ c ∷ []) ≡ true → is_node ls r ≡ true
unfolding is_node is_reached
node_before [] r c e = e
node_before (l ∷ ls) r c e = elim (or_cases (is_prefix (r ++ c ∷ []) (path l)) (list_any (λ l. is_prefix (r ++ c ∷ []) (path l)) ls) e) [
  | inl here ↦ or_left (extends r (path l)) (list_any (λ l. extends r (path l)) ls) (extends_before r (path l) c here)
  | inr there ↦ or_right (extends r (path l)) (list_any (λ l. extends r (path l)) ls) (node_before ls r c there)
]

-- the letters of a path are bytes or END
pub path_letter : (x : List ℕ) (e : Bool) (k : ℕ) → IsBytes x → get_or (x ++ tail e) k 0 ≤ 256
path_letter [] true zero h = omega arith
path_letter [] true (suc k) h = omega arith
path_letter [] false k h = omega arith
path_letter (a ∷ x) e zero h = omega (arith, h 0)
path_letter (a ∷ x) e (suc k) h = path_letter x e k (λ i. h (suc i))

prefix_letter : (q x : List ℕ) (k : ℕ) → is_prefix q x ≡ true → get_or q k 0 ≤ get_or x k 0
prefix_letter [] x k e = omega arith
prefix_letter (a ∷ q) [] k e = absurd (false≢true e)
prefix_letter (a ∷ q) (b ∷ x) zero e = omega (arith, eqb-true a b (and_parts (a == b) (is_prefix q x) e).0)
prefix_letter (a ∷ q) (b ∷ x) (suc k) e = prefix_letter q x k (and_parts (a == b) (is_prefix q x) e).1

reached_letter : (ls : List Leaf) (q : List ℕ) (k : ℕ) → AreByteStubs ls → is_reached ls q ≡ true → get_or q k 0 ≤ 256
unfolding is_reached path
reached_letter [] q k h e = absurd (false≢true e)
reached_letter (l ∷ ls) q k h e = elim (or_cases (is_prefix q (path l)) (list_any (λ l. is_prefix q (path l)) ls) e) [
  | inl here ↦ omega (arith, prefix_letter q (path l) k here, path_letter l.stub l.ends k (All-head (λ l. IsBytes l.stub) l ls h))
  | inr there ↦ reached_letter ls q k (All-tail (λ l. IsBytes l.stub) l ls h) there
]

has_end : Contains letters END
unfolding letters
has_end = Contains-first END (range_with_len 0 256)

pub Contains-letter : (c : ℕ) → c ≤ 256 → Contains letters c
Contains-letter c h = elim (cases_lt c 256) [
  | inl byte ↦ Contains-bytes c byte
  | inr end ↦ subst (Contains letters) (is_end c h end) has_end
]
  where
    is_end : (c : ℕ) → c ≤ 256 → 256 ≤ c → END ≡ c
    is_end c h k = omega arith

-- a branch of r is r and a letter, and it is reached
pub branch_is : (ls : List Leaf) (r q : List ℕ) → Contains (branches ls r) q → (c : ℕ) × (r ++ c ∷ [] ≡ q) × (is_reached ls q ≡ true)
unfolding branches
branch_is ls r q k =
    let reached = Contains-filter_back (is_reached ls) (map (λ c. r ++ c ∷ []) letters) q k in
    let letter = Contains-map_back (λ c. r ++ c ∷ []) letters q reached.0 in
    (letter.0, letter.2, reached.1)

-- strings that end in letters of their own
last_apart : (r : List ℕ) (c d : ℕ) → Apart c d → Apart (r ++ c ∷ []) (r ++ d ∷ [])
last_apart r c d other same = other (sym (last r c) ∙ ap (λ (x : List ℕ). get_or x (length r) 0) same ∙ last r d)
  where
    last : (r : List ℕ) (c : ℕ) → get_or (r ++ c ∷ []) (length r) 0 ≡ c
    last [] c = refl
    last (a ∷ r) c = last r c

init_apart : (r s : List ℕ) (c d : ℕ) → length r ≡ length s → Apart r s → Apart (r ++ c ∷ []) (s ++ d ∷ [])
init_apart r s c d e other same = other (sym (init r c) ∙ ap (λ (x : List ℕ). take (length r) x) same ∙ ap (λ (n : ℕ). take n (s ++ d ∷ [])) e ∙ init s d)
  where
    init : (r : List ℕ) (c : ℕ) → take (length r) (r ++ c ∷ []) ≡ r
    init [] c = refl
    init (a ∷ r) c = λ i. a ∷ init r c i

-- q with END differs from q with each byte
end_apart : (r q : List ℕ) → Contains (map (λ c. r ++ c ∷ []) (range_with_len 0 256)) q → Apart (r ++ END ∷ []) q
end_apart r q k same =
    let letter = Contains-map_back (λ c. r ++ c ∷ []) (range_with_len 0 256) q k in
    last_apart r END letter.0 (byte letter.0 letter.1) (same ∙ sym letter.2)
  where
    byte : (c : ℕ) → Contains (range_with_len 0 256) c → Apart END c
    byte c (i, l, e) end =
        let long = length-range_with_len 0 256 in
        omega (arith, long, get_or-range_with_len 0 256 i c (omega (arith, long)))

branches_apart : (ls : List Leaf) (r : List ℕ) → AllPairs Apart (branches ls r)
unfolding branches letters
branches_apart ls r =
    AllPairs-filter Apart (is_reached ls) (map (λ c. r ++ c ∷ []) (END ∷ range_with_len 0 256))
    (AllPairs-cons Apart (r ++ END ∷ []) (map (λ c. r ++ c ∷ []) (range_with_len 0 256)) (end_apart r) (λ i j d before within. rising i j d before within))
  where
    rising : AllPairs Apart (map (λ c. r ++ c ∷ []) (range_with_len 0 256))
    rising i j d before within =
        let bytes = map (λ c. r ++ c ∷ []) (range_with_len 0 256) in
        different (get_or bytes i d) (get_or bytes j d) (bytes_rise r i j d before within)

-- each node of a level
pub nodes_listed : (ls : List Leaf) (n : ℕ) → AreByteStubs ls → 0 < height ls → Lists n (is_node ls) (level ls n)
nodes_listed ls n h high = record {
  distinct = λ i j d before within. different (get_or (level ls n) i d) (get_or (level ls n) j d) (level_rises ls n h high i j d before within);
  sound = λ q c. in_level ls n q high c;
  complete = λ q long passes. node_in_level ls n q h long passes;
}

-- two nodes of one level
record AreBeside (r s : List ℕ) : Type 0 where
  long : length r ≡ length s
  apart : Apart r s

branch_sound : (ls : List Leaf) (n : ℕ) (q : List ℕ) → 0 < height ls → Contains (level_branches ls n) q → (length q ≡ suc n) × (is_reached ls q ≡ true)
unfolding level_branches
branch_sound ls n q high k =
    let from = Contains-flat_map_back (branches ls) (level ls n) q k in
    let branch = branch_is ls from.0 q from.2 in
    let above = in_level ls n from.0 high from.1 in
    (omega (arith, ap (length {A = ℕ}) (sym branch.1), length_push from.0 branch.0, above.0), branch.2)

branch_complete : (ls : List Leaf) (n : ℕ) (q : List ℕ) → AreByteStubs ls → length q ≡ suc n → is_reached ls q ≡ true → Contains (level_branches ls n) q
unfolding level_branches branches
branch_complete ls n q h long reached =
    let r = take n q in
    let c = get_or q n 0 in
    let whole : q ≡ r ++ c ∷ [] = sym (take_all (suc n) q (omega arith)) ∙ take-suc q n 0 (omega arith) in
    let here : is_reached ls (r ++ c ∷ []) ≡ true = ap (is_reached ls) (sym whole) ∙ reached in
    let above = node_in_level ls n r h (short n q long) (node_before ls r c here) in
    let letter = Contains-letter c (reached_letter ls q n h reached) in
    subst (Contains (flat_map (branches ls) (level ls n))) (sym whole)
    (Contains-flat_map (branches ls) (level ls n) r (r ++ c ∷ []) above
    (Contains-filter (is_reached ls) (map (λ c. r ++ c ∷ []) letters) (r ++ c ∷ []) (Contains-map (λ c. r ++ c ∷ []) letters c letter) here))
  where
    short : (n : ℕ) (q : List ℕ) → length q ≡ suc n → length (take n q) ≡ n
    short n q e = omega (arith, e, length-take n q)

-- each branch of a level
pub branches_listed : (ls : List Leaf) (n : ℕ) → AreByteStubs ls → 0 < height ls → Lists (suc n) (is_reached ls) (level_branches ls n)
unfolding level_branches
branches_listed ls n h high = record {
  distinct =
      AllPairs-flat_map Apart AreBeside (branches ls) (level ls n)
      (λ i j d before within.
      let at = Contains-get_or (level ls n) in
      record {
        long = (in_level ls n (get_or (level ls n) i d) high (at i d (omega arith))).0 ∙ sym (in_level ls n (get_or (level ls n) j d) high (at j d within)).0;
        apart = different (get_or (level ls n) i d) (get_or (level ls n) j d) (level_rises ls n h high i j d before within);
      })
      (λ r c. branches_apart ls r)
      (λ r s a b beside in_r in_s same.
      let from_a = branch_is ls r a in_r in
      let from_b = branch_is ls s b in_s in
      init_apart r s from_a.0 from_b.0 beside.long beside.apart (from_a.1 ∙ same ∙ sym from_b.1));
  sound = λ q c. branch_sound ls n q high c;
  complete = λ q long passes. branch_complete ls n q h long passes;
}

distinct_from_none : (xs : List (List ℕ)) → ((q : List ℕ) → Contains xs q → ⊥) → AllPairs Apart xs
distinct_from_none [] h = AllPairs-nil Apart
distinct_from_none (x ∷ xs) h = absurd (h x (Contains-first x xs))

none_listed : (n : ℕ) (test : List ℕ → Bool) (xs : List (List ℕ)) → ((q : List ℕ) → Contains xs q → ⊥) → ((q : List ℕ) → test q ≡ true → ⊥) → Lists n test xs
none_listed n test xs none fails = record {
  distinct = distinct_from_none xs none;
  sound = λ q c. absurd (none q c);
  complete = λ q long passes. absurd (fails q passes);
}

-- without leaves there is no node but the root, and no branch
node_none : (n : ℕ) (q : List ℕ) → Contains (level [] (suc n)) q → ⊥
unfolding is_node level
node_none n q c = false≢true (Contains-filter_back (is_node []) (flat_map (branches []) (level [] n)) q c).1

branch_none : (n : ℕ) (q : List ℕ) → Contains (level_branches [] n) q → ⊥
unfolding is_reached level_branches
branch_none n q c =
    let from = Contains-flat_map_back (branches []) (level [] n) q c in false≢true (branch_is [] from.0 q from.2).2

pub no_nodes : (n : ℕ) → Lists (suc n) (is_node []) (level [] (suc n))
unfolding is_node
no_nodes n = none_listed (suc n) (is_node []) (level [] (suc n)) (node_none n) (λ q e. false≢true e)

pub no_branches : (n : ℕ) → Lists (suc n) (is_reached []) (level_branches [] n)
unfolding is_reached
no_branches n = none_listed (suc n) (is_reached []) (level_branches [] n) (branch_none n) (λ q e. false≢true e)

none_long : (xs : List (List ℕ)) → ((q : List ℕ) → Contains xs q → ⊥) → length xs ≡ 0
none_long [] h = refl
none_long (x ∷ xs) h = absurd (h x (Contains-first x xs))

pub level-none : (n : ℕ) → length (level [] (suc n)) ≡ 0
level-none n = none_long (level [] (suc n)) (node_none n)

pub level_branches-none : (n : ℕ) → length (level_branches [] n) ≡ 0
level_branches-none n = none_long (level_branches [] n) (branch_none n)
