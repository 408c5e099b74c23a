-- The one slot that a key reaches.
use Rattle.std.proofs.Common.{◌≡◌, ℕ, zero, suc, ◌+◌, ◌<◌, ◌≤◌, ◌==◌, Bool, true, false, cond, Some, None, List, [], ◌∷◌, ◌++◌, length, get_or, take, refl, ap, sym, ◌∙◌, arith, inl, inr, lt-ltb, le-ltb}
use Rattle.std.specs.Prelude.{filter, not, position}
use Rattle.std.specs.List.{position_or_len}
use Rattle.std.proofs.lemmas.Bool.{and_from, and_parts, cases_lt, eq-eqb, eqb-true, false_from_ne_true, false≢true, not-true}
use Rattle.std.proofs.lemmas.List.{take_more}
use Rattle.std.proofs.lemmas.List.Elements.{Contains-get_or}
use Rattle.std.proofs.lemmas.List.Sums.{position_or_len_is}
use Rattle.filter_model.proofs.Pairs.{Contains-filter_back}
use Rattle.filter_model.proofs.Shared.{extends-prefix}
use Rattle.filter_model.specs.Leaves.{Leaf}
use Rattle.filter_model.specs.Strings.{extends, is_prefix}
use Rattle.filter_model.specs.Trie.{END, height, is_node, is_reached, nodes, path, places, slots}
use Rattle.filter_trie.specs.Walks.{IsSlotAt}
use Rattle.trie_laws.proofs.Paths.{any_leaf, node_by, path_node, path_reached, reached_by}
use Rattle.trie_laws.proofs.Slots.{are_places, leaves_have_slots, places_to, prefix_whole}
use Rattle.trie_levels.proofs.Totals.{in_order}
use Rattle.trie_levels.specs.Tries.{HasTrie}
use Rattle.trie_model.specs.Walks.{reaches, slot_of_key}

-- ---- strings

pub prefix_refl : (x : List ℕ) → is_prefix x x ≡ true
prefix_refl [] = refl
prefix_refl (a ∷ x) = and_from (a == a) (is_prefix x x) (eq-eqb a a refl) (prefix_refl x)

pub prefix_take : (n : ℕ) (x y : List ℕ) → is_prefix (take n x) (x ++ y) ≡ true
prefix_take zero x y = refl
prefix_take (suc n) [] y = refl
prefix_take (suc n) (a ∷ x) y = and_from (a == a) (is_prefix (take n x) (x ++ y)) (eq-eqb a a refl) (prefix_take n x y)

prefix_long : (q w : List ℕ) (n : ℕ) → is_prefix q w ≡ true → n ≤ length q → is_prefix (take n w) q ≡ true
prefix_long q w zero e l = refl
prefix_long [] w (suc n) e l = absurd (omega (arith, l))
prefix_long (a ∷ q) [] (suc n) e l = absurd (false≢true e)
prefix_long (a ∷ q) (b ∷ w) (suc n) e l =
    let parts = and_parts (a == b) (is_prefix q w) e in
    and_from (b == a) (is_prefix (take n w) q) (eq-eqb b a (sym (eqb-true a b parts.0))) (prefix_long q w n parts.1 (omega (arith, l)))

prefix_short : (q w : List ℕ) (n : ℕ) → is_prefix q w ≡ true → length q ≤ n → is_prefix q (take n w) ≡ true
prefix_short [] w n e l = refl
prefix_short (a ∷ q) [] n e l = absurd (false≢true e)
prefix_short (a ∷ q) (b ∷ w) zero e l = absurd (omega (arith, l))
prefix_short (a ∷ q) (b ∷ w) (suc n) e l = let parts = and_parts (a == b) (is_prefix q w) e in and_from (a == b) (is_prefix q (take n w)) parts.0 (prefix_short q w n parts.1 (omega (arith, l)))

prefix_extends : (q p x : List ℕ) → is_prefix q p ≡ true → extends p x ≡ true → extends q x ≡ true
prefix_extends [] p [] e h = absurd (go p h)
  where
    go : (r : List ℕ) → extends r [] ≡ true → ⊥
    go [] g = false≢true g
    go (a ∷ r) g = false≢true g
prefix_extends [] p (b ∷ x) e h = refl
prefix_extends (a ∷ q) [] x e h = absurd (false≢true e)
prefix_extends (a ∷ q) (c ∷ p) [] e h = absurd (false≢true h)
prefix_extends (a ∷ q) (c ∷ p) (b ∷ x) e h =
    let here = and_parts (a == c) (is_prefix q p) e in
    let there = and_parts (c == b) (extends p x) h in
    and_from (a == b) (extends q x) (eq-eqb a b (eqb-true a c here.0 ∙ eqb-true c b there.0)) (prefix_extends q p x here.1 there.1)

extends_prefix : (q p x : List ℕ) → extends q p ≡ true → is_prefix p x ≡ true → extends q x ≡ true
extends_prefix [] [] x e h = absurd (false≢true e)
extends_prefix [] (c ∷ p) [] e h = absurd (false≢true h)
extends_prefix [] (c ∷ p) (b ∷ x) e h = refl
extends_prefix (a ∷ q) [] x e h = absurd (false≢true e)
extends_prefix (a ∷ q) (c ∷ p) [] e h = absurd (false≢true h)
extends_prefix (a ∷ q) (c ∷ p) (b ∷ x) e h =
    let here = and_parts (a == c) (extends q p) e in
    let there = and_parts (c == b) (is_prefix p x) h in
    and_from (a == b) (extends q x) (eq-eqb a b (eqb-true a c here.0 ∙ eqb-true c b there.0)) (extends_prefix q p x here.1 there.1)

prefix_prefix : (q p x : List ℕ) → is_prefix q p ≡ true → is_prefix p x ≡ true → is_prefix q x ≡ true
prefix_prefix [] p x e h = refl
prefix_prefix (a ∷ q) [] x e h = absurd (false≢true e)
prefix_prefix (a ∷ q) (c ∷ p) [] e h = absurd (false≢true h)
prefix_prefix (a ∷ q) (c ∷ p) (b ∷ x) e h =
    let here = and_parts (a == c) (is_prefix q p) e in
    let there = and_parts (c == b) (is_prefix p x) h in
    and_from (a == b) (is_prefix q x) (eq-eqb a b (eqb-true a c here.0 ∙ eqb-true c b there.0)) (prefix_prefix q p x here.1 there.1)

-- of two strings that begin a third the shorter begins the longer
prefix_pair : (p q x : List ℕ) → is_prefix p x ≡ true → is_prefix q x ≡ true → length p ≤ length q → is_prefix p q ≡ true
prefix_pair [] q x e h l = refl
prefix_pair (a ∷ p) [] x e h l = absurd (omega (arith, l))
prefix_pair (a ∷ p) (c ∷ q) [] e h l = absurd (false≢true e)
prefix_pair (a ∷ p) (c ∷ q) (b ∷ x) e h l =
    let here = and_parts (a == b) (is_prefix p x) e in
    let there = and_parts (c == b) (is_prefix q x) h in
    and_from (a == c) (is_prefix p q) (eq-eqb a c (eqb-true a b here.0 ∙ sym (eqb-true c b there.0))) (prefix_pair p q x here.1 there.1 (omega (arith, l)))

-- ---- first places

pub position_some : {X : Type 0} (test : X → Bool) (xs : List X) (i : ℕ) (d : X) → i < length xs → test (get_or xs i d) ≡ true → ((k : ℕ) → k < i → test (get_or xs k d) ≡ false) → position test xs ≡ Some i
position_some test xs i d l e h =
    let place : position_or_len test xs ≡ i = position_or_len_is test xs i d (omega (arith, l)) h (λ _. e) in
    ap (λ (b : Bool). cond b (Some (position_or_len test xs)) None) (lt-ltb (position_or_len test xs) (length xs) (omega (arith, place, l))) ∙ ap (λ (k : ℕ). Some k) place

position_none : {X : Type 0} (test : X → Bool) (xs : List X) (d : X) → ((k : ℕ) → k < length xs → test (get_or xs k d) ≡ false) → position test xs ≡ None
position_none test xs d h =
    let place : position_or_len test xs ≡ length xs = position_or_len_is test xs (length xs) d (omega arith) h (λ l. absurd (omega (arith, l))) in
    ap (λ (b : Bool). cond b (Some (position_or_len test xs)) None) (le-ltb (position_or_len test xs) (length xs) (omega (arith, place)))

-- ---- nodes and reached strings

pub node_before : (ls : List Leaf) (q p : List ℕ) → is_prefix q p ≡ true → is_node ls p ≡ true → is_node ls q ≡ true
node_before ls q p e on =
    let by = node_by ls any_leaf p on in
    path_node ls by.0 any_leaf q by.1 (prefix_extends q p (path (get_or ls by.0 any_leaf)) e by.2)

node_below : (ls : List Leaf) (q p : List ℕ) → extends q p ≡ true → is_reached ls p ≡ true → is_node ls q ≡ true
node_below ls q p e on =
    let by = reached_by ls any_leaf p on in
    path_node ls by.0 any_leaf q by.1 (extends_prefix q p (path (get_or ls by.0 any_leaf)) e by.2)

reached_before : (ls : List Leaf) (q p : List ℕ) → is_prefix q p ≡ true → is_reached ls p ≡ true → is_reached ls q ≡ true
reached_before ls q p e on =
    let by = reached_by ls any_leaf p on in
    path_reached ls by.0 any_leaf q by.1 (prefix_prefix q p (path (get_or ls by.0 any_leaf)) e by.2)

pub node_is_reached : (ls : List Leaf) (q : List ℕ) → is_node ls q ≡ true → is_reached ls q ≡ true
node_is_reached ls q on =
    let by = node_by ls any_leaf q on in
    path_reached ls by.0 any_leaf q by.1 (extends-prefix q (path (get_or ls by.0 any_leaf)) by.2)

-- ---- slots

module _ (ls : List Leaf) (t : HasTrie ls) where
  pub slot_is : (k : ℕ) → k < length (slots ls) → (is_reached ls (get_or (slots ls) k []) ≡ true) × (is_node ls (get_or (slots ls) k []) ≡ false)
  unfolding slots places nodes
  slot_is k l =
      let q = get_or (filter (λ (x : List ℕ). not (is_node ls x)) (places_to ls (height ls))) k [] in
      let kept = Contains-filter_back (λ x. not (is_node ls x)) (places_to ls (height ls)) q (Contains-get_or (filter (λ (x : List ℕ). not (is_node ls x)) (places_to ls (height ls))) k [] l) in
      (((are_places ls (height ls) (in_order ls t)).sound q kept.0).1, not-true (is_node ls q) kept.1)

  -- of two slots at most one begins a string
  one_slot : (i k : ℕ) (w : List ℕ) → i < k → k < length (slots ls) → is_prefix (get_or (slots ls) i []) w ≡ true → is_prefix (get_or (slots ls) k []) w ≡ true → ⊥
  one_slot i k w up l e h =
      let p = get_or (slots ls) i [] in
      let q = get_or (slots ls) k [] in
      let pi = slot_is i (omega (arith, up, l)) in
      let qi = slot_is k l in
      let apart : (p ≡ q → ⊥) = (leaves_have_slots ls t).once i k [] up l in
      elim (cases_lt (length q) (length p)) [
        | inl shorter ↦ apart (sym (prefix_whole q p (prefix_pair q p w h e (omega (arith, shorter))) (λ x. false≢true (sym qi.1 ∙ node_below ls q p x pi.0))))
        | inr other ↦ apart (prefix_whole p q (prefix_pair p q w e h other) (λ x. false≢true (sym pi.1 ∙ node_below ls p q x qi.0)))
      ]

  -- a slot that begins the key and END is the one that the key reaches
  pub found : (key : List ℕ) (s : ℕ) (q : List ℕ) → IsSlotAt ls s q → is_prefix q (key ++ END ∷ []) ≡ true → Some s ≡ slot_of_key ls key
  unfolding slot_of_key
  found key s q a e =
      let here : is_prefix (get_or (slots ls) s []) (key ++ END ∷ []) ≡ true = ap (λ (x : List ℕ). is_prefix x (key ++ END ∷ [])) a.is ∙ e in
      sym (position_some (reaches key) (slots ls) s [] a.within here (λ k l. false_from_ne_true (is_prefix (get_or (slots ls) k []) (key ++ END ∷ [])) (λ h. one_slot k s (key ++ END ∷ []) l a.within h here)))

  -- where a node on the key's way does not go on, the key reaches none
  pub missed : (key : List ℕ) (d : ℕ) → d < length (key ++ END ∷ []) → is_node ls (take d (key ++ END ∷ [])) ≡ true
      → is_reached ls (take d (key ++ END ∷ []) ++ get_or (key ++ END ∷ []) d 0 ∷ []) ≡ false → None ≡ slot_of_key ls key
  unfolding slot_of_key
  missed key d l on off =
      let w = key ++ END ∷ [] in
      sym (position_none (reaches key) (slots ls) [] (λ k kl. false_from_ne_true (is_prefix (get_or (slots ls) k []) w) (λ begins.
      let q = get_or (slots ls) k [] in
      let qi = slot_is k kl in
      elim (cases_lt d (length q)) [
        | inl long ↦
            let more : is_reached ls (take (d + 1) w) ≡ true = reached_before ls (take (d + 1) w) q (prefix_long q w (d + 1) begins (omega (arith, long))) qi.0 in
            false≢true (sym off ∙ ap (is_reached ls) (sym (take_more w d 0 l)) ∙ more)
        | inr short ↦ false≢true (sym qi.1 ∙ node_before ls q (take d w) (prefix_short q w d begins short) on)
      ])))
