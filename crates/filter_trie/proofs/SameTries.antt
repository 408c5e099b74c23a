-- Leaves of the same keys have one trie, whatever their suffixes.
use Rattle.std.proofs.Common.{◌≡◌, ℕ, zero, suc, max, ◌||◌, List, [], ◌∷◌, ◌++◌, length, map, refl, ap, ◌∙◌}
use Rattle.std.specs.Prelude.{filter, flat_map}
use Rattle.std.specs.List.{range_with_len}
use Rattle.filter_model.specs.Leaves.{Leaf, base_leaves, leaf_of, leaves_of}
use Rattle.filter_model.specs.Nodes.{last_letter, node_of, trie_of}
use Rattle.filter_model.specs.Strings.{extends, is_prefix}
use Rattle.filter_model.specs.Trie.{branches, height, is_node, is_reached, letters, level, level_labels, level_nodes, nodes, nodes_to, path}
use Rattle.trie_levels.specs.Spans.{closes, spans_from, spans_of}

module _ (hash_bits real_bits : ℕ) (keys : List (List ℕ)) where
  full : List (List ℕ) → List Leaf
  full xs = map (leaf_of hash_bits real_bits keys) xs

  bare : List (List ℕ) → List Leaf
  bare xs = map (leaf_of 0 0 keys) xs

  node_in : (xs : List (List ℕ)) (p : List ℕ) → is_node (full xs) p ≡ is_node (bare xs) p
  unfolding is_node path full bare
  node_in [] p = refl
  node_in (x ∷ xs) p = λ i. extends p (path (leaf_of 0 0 keys x)) || node_in xs p i

  reached_in : (xs : List (List ℕ)) (p : List ℕ) → is_reached (full xs) p ≡ is_reached (bare xs) p
  unfolding is_reached path full bare
  reached_in [] p = refl
  reached_in (x ∷ xs) p = λ i. is_prefix p (path (leaf_of 0 0 keys x)) || reached_in xs p i

  height_in : (xs : List (List ℕ)) → height (full xs) ≡ height (bare xs)
  unfolding height path full bare
  height_in [] = refl
  height_in (x ∷ xs) = λ i. max (length (path (leaf_of 0 0 keys x))) (height_in xs i)

  spans_in : (k : ℕ) (xs : List (List ℕ)) → spans_from k (full xs) ≡ spans_from k (bare xs)
  unfolding path full bare
  spans_in k [] = refl
  spans_in k (x ∷ []) = refl
  spans_in k (x ∷ y ∷ xs) = λ i. record { leaf = k; closes = closes (leaf_of 0 0 keys x) (bare (y ∷ xs)); len = length (path (leaf_of 0 0 keys x)) } ∷ spans_in (suc k) (y ∷ xs) i

  nodes_are : is_node (leaves_of hash_bits real_bits keys) ≡ is_node (base_leaves keys)
  unfolding full bare
  nodes_are = λ i p. node_in keys p i

  branches_are : branches (leaves_of hash_bits real_bits keys) ≡ branches (base_leaves keys)
  unfolding branches full bare
  branches_are = λ i p. filter (λ q. reached_in keys q i) (map (λ c. p ++ c ∷ []) letters)

  level_is : (n : ℕ) → level (leaves_of hash_bits real_bits keys) n ≡ level (base_leaves keys) n
  unfolding level
  level_is zero = refl
  level_is (suc n) = λ i. filter (nodes_are i) (flat_map (branches_are i) (level_is n i))

  pub same_nodes_to : (n : ℕ) → nodes_to (leaves_of hash_bits real_bits keys) n ≡ nodes_to (base_leaves keys) n
  unfolding nodes_to
  same_nodes_to zero = refl
  same_nodes_to (suc n) = λ i. same_nodes_to n i ++ level_is n i

  pub same_height : height (leaves_of hash_bits real_bits keys) ≡ height (base_leaves keys)
  unfolding full bare
  same_height = height_in keys

  pub same_spans : spans_of (leaves_of hash_bits real_bits keys) ≡ spans_of (base_leaves keys)
  unfolding full bare
  same_spans = spans_in 0 keys

  pub same_node_of : node_of (leaves_of hash_bits real_bits keys) ≡ node_of (base_leaves keys)
  unfolding node_of
  same_node_of = λ i p. map (λ (q : List ℕ). (last_letter q, nodes_are i q)) (branches_are i p)

  pub same_trie : trie_of (leaves_of hash_bits real_bits keys) ≡ trie_of (base_leaves keys)
  unfolding trie_of nodes
  same_trie =
      ap (λ (n : ℕ). map (node_of (leaves_of hash_bits real_bits keys)) (nodes_to (leaves_of hash_bits real_bits keys) n)) same_height
      ∙ (λ i. map (same_node_of i) (same_nodes_to (height (base_leaves keys)) i))

  pub same_level_nodes : level_nodes (leaves_of hash_bits real_bits keys) ≡ level_nodes (base_leaves keys)
  unfolding level_nodes
  same_level_nodes = λ i. map (λ n. length (level_is n i)) (range_with_len 0 (same_height i))

  pub same_level_labels : level_labels (leaves_of hash_bits real_bits keys) ≡ level_labels (base_leaves keys)
  unfolding level_labels
  same_level_labels = λ i. map (λ n. length (flat_map (branches_are i) (level_is n i))) (range_with_len 0 (same_height i))
