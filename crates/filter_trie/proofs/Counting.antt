-- How many nodes a walk visits.
use Rattle.std.proofs.Common.{◌≡◌, ℕ, zero, suc, ◌+◌, ◌<◌, ◌≤◌, Bool, true, false, cond, List, [], ◌∷◌, length, take, map, ap, sym, ◌∙◌, arith, inl, inr, length-append}
use Rattle.std.specs.Prelude.{filter}
use Rattle.std.specs.List.{range_with_len}
use Rattle.std.proofs.lemmas.Bool.{cases_lt, false_from_ne_true, false≢true}
use Rattle.std.proofs.lemmas.List.FromFn.{filter_of_map_range_with_len_more}
use Rattle.filter_model.proofs.Crowds.{is_prefix-takes}
use Rattle.filter_model.specs.Leaves.{Leaf}
use Rattle.filter_model.specs.Trie.{height, is_node}
use Rattle.filter_trie.specs.Walks.{IsNodeAt}
use Rattle.filter_trie.proofs.Reached.{node_before}
use Rattle.filter_trie.proofs.Down.{node_passes}
use Rattle.trie_model.specs.Walks.{nodes_on_way, steps}

-- of m numbers the first k pass
count_first : {X : Type 0} (p : X → Bool) (f : ℕ → X) (m k : ℕ) → k ≤ m → ((n : ℕ) → n < k → p (f n) ≡ true) → ((n : ℕ) → k ≤ n → n < m → p (f n) ≡ false)
    → length (filter p (map f (range_with_len 0 m))) ≡ k
count_first p f zero k l on off = omega (arith, l)
count_first {X} p f (suc m) k l on off =
    ap (λ (n : ℕ). length (filter p (map f (range_with_len 0 n)))) (add_one m)
    ∙ ap length (filter_of_map_range_with_len_more p f 0 m m (omega arith))
    ∙ length-append (filter p (map f (range_with_len 0 m))) (cond (p (f m)) (f m ∷ []) [])
    ∙ elim (cases_lt m k) [
      | inl whole ↦
          let e : length {A = X} (cond (p (f m)) (f m ∷ []) []) ≡ 1 = ap (λ (t : Bool). length {A = X} (cond t (f m ∷ []) [])) (on m whole) in
          omega (arith, e, l, whole, count_first p f m m (omega arith) (λ n nl. on n (omega (arith, nl, whole))) (λ n le nl. absurd (omega (arith, le, nl))))
      | inr part ↦
          let e : length {A = X} (cond (p (f m)) (f m ∷ []) []) ≡ 0 = ap (λ (t : Bool). length {A = X} (cond t (f m ∷ []) [])) (off m part (omega arith)) in
          omega (arith, e, count_first p f m k part on (λ n le nl. off n le (omega (arith, nl))))
    ]
  where
    add_one : (n : ℕ) → suc n ≡ n + 1
    add_one n = omega arith

-- the walk ends at the node that is the longest prefix
pub steps_are : (ls : List Leaf) (key : List ℕ) (v d : ℕ) → 0 < height ls → IsNodeAt ls v (take d key) → d ≤ length key → (d < length key → is_node ls (take (d + 1) key) ≡ false) → steps ls key ≡ d + 1
unfolding nodes_on_way
steps_are ls key v d some a l end =
    count_first (is_node ls) (λ n. take n key) (length key + 1) (d + 1) (omega (arith, l))
    (λ n nl. node_before ls (take n key) (take d key) (is_prefix-takes n d key (omega (arith, nl))) (ap (is_node ls) (sym a.is) ∙ node_passes ls some v a.within))
    (λ n le nl. false_from_ne_true (is_node ls (take n key)) (λ on. false≢true (sym (end (omega (arith, le, nl))) ∙ node_before ls (take (d + 1) key) (take n key) (is_prefix-takes (d + 1) n key le) on)))
