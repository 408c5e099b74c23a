-- A walk's way: the node is the prefix of the key that was read.
use Rattle.std.proofs.Common.{◌≡◌, ℕ, ◌+◌, ◌<◌, ◌≤◌, true, false, Some, None, List, [], ◌∷◌, ◌++◌, length, get_or, take, refl, ap, sym, ◌∙◌, arith, inl, inr}
use Rattle.std.proofs.lemmas.Bool.{false_from_ne_true, false≢true}
use Rattle.std.proofs.lemmas.List.{get_or_append_left, get_or_push, length_push, take-append-le, take_all, take_more}
use Rattle.filter_model.specs.Leaves.{Leaf}
use Rattle.filter_model.specs.Trie.{END, height, is_node, is_reached, nodes}
use Rattle.filter_trie.specs.Walks.{IsNodeAt, IsSlotAt, ReachesLeaf}
use Rattle.filter_trie.proofs.Reached.{found, missed, node_is_reached, prefix_refl, prefix_take, slot_is}
use Rattle.filter_trie.proofs.Down.{node_passes}
use Rattle.trie_levels.specs.Tries.{HasTrie}
use Rattle.trie_model.specs.Walks.{slot_of_key}

module _ (ls : List Leaf) (t : HasTrie ls) (some : 0 < height ls) (key : List ℕ) (v d : ℕ) (a : IsNodeAt ls v (take d key)) where
  -- a byte leads on to a node
  pub way_on : (w c : ℕ) → d < length key → c ≡ get_or key d 0 → IsNodeAt ls w (get_or (nodes ls) v [] ++ c ∷ []) → IsNodeAt ls w (take (d + 1) key)
  way_on w c l e n = record { within = n.within; is = n.is ∙ (λ j. a.is j ++ e j ∷ []) ∙ sym (take_more key d 0 l) }

  -- or to a leaf
  pub met : (s c : ℕ) → d < length key → c ≡ get_or key d 0 → IsSlotAt ls s (get_or (nodes ls) v [] ++ c ∷ []) → Some s ≡ slot_of_key ls key
  met s c l e n =
      let q : get_or (nodes ls) v [] ++ c ∷ [] ≡ take (d + 1) key = (λ j. a.is j ++ e j ∷ []) ∙ sym (take_more key d 0 l) in
      found ls t key s (take (d + 1) key) (record { within = n.within; is = n.is ∙ q }) (prefix_take (d + 1) key (END ∷ []))

  -- whose stub is what was read
  pub met_stub : (s c : ℕ) → d < length key → c ≡ get_or key d 0 → IsSlotAt ls s (get_or (nodes ls) v [] ++ c ∷ []) → ReachesLeaf ls key s (d + 1)
  met_stub s c l e n =
      let q : get_or (nodes ls) v [] ++ c ∷ [] ≡ take (d + 1) key = (λ j. a.is j ++ e j ∷ []) ∙ sym (take_more key d 0 l) in
      inl (record { within = n.within; is = n.is ∙ q })

  on_way : d ≤ length key → (take d (key ++ END ∷ []) ≡ get_or (nodes ls) v []) × (is_node ls (take d (key ++ END ∷ [])) ≡ true)
  on_way l =
      let e : take d (key ++ END ∷ []) ≡ get_or (nodes ls) v [] = take-append-le d key (END ∷ []) l ∙ sym a.is in
      (e, ap (is_node ls) e ∙ node_passes ls some v a.within)

  -- or nowhere
  pub stuck : (c : ℕ) → d < length key → c ≡ get_or key d 0 → is_reached ls (get_or (nodes ls) v [] ++ c ∷ []) ≡ false → None ≡ slot_of_key ls key
  stuck c l e off =
      let h = on_way (omega (arith, l)) in
      let read : get_or (key ++ END ∷ []) d 0 ≡ c = get_or_append_left key (END ∷ []) 0 d l ∙ sym e in
      missed ls t key d (omega (arith, l, length_push key END)) h.1 (ap (is_reached ls) (λ j. h.0 j ++ read j ∷ []) ∙ off)

  -- then no node of the way comes behind
  pub last_stuck : (c : ℕ) → d < length key → c ≡ get_or key d 0 → is_reached ls (get_or (nodes ls) v [] ++ c ∷ []) ≡ false → is_node ls (take (d + 1) key) ≡ false
  last_stuck c l e off =
      let q : get_or (nodes ls) v [] ++ c ∷ [] ≡ take (d + 1) key = (λ j. a.is j ++ e j ∷ []) ∙ sym (take_more key d 0 l) in
      false_from_ne_true (is_node ls (take (d + 1) key)) (λ on. false≢true (sym off ∙ ap (is_reached ls) q ∙ node_is_reached ls (take (d + 1) key) on))

  pub last_met : (s c : ℕ) → d < length key → c ≡ get_or key d 0 → IsSlotAt ls s (get_or (nodes ls) v [] ++ c ∷ []) → is_node ls (take (d + 1) key) ≡ false
  last_met s c l e n =
      let q : get_or (nodes ls) v [] ++ c ∷ [] ≡ take (d + 1) key = (λ j. a.is j ++ e j ∷ []) ∙ sym (take_more key d 0 l) in
      ap (is_node ls) (sym (n.is ∙ q)) ∙ (slot_is ls t s n.within).1

  -- ---- behind the last byte

  whole : length key ≤ d → take d key ≡ key
  whole l = take_all d key l

  pub ended : (s : ℕ) → length key ≤ d → IsSlotAt ls s (get_or (nodes ls) v [] ++ END ∷ []) → Some s ≡ slot_of_key ls key
  ended s l n = found ls t key s (key ++ END ∷ []) (record { within = n.within; is = n.is ∙ ap (λ (p : List ℕ). p ++ END ∷ []) (a.is ∙ whole l) }) (prefix_refl (key ++ END ∷ []))

  pub ended_stub : (s : ℕ) → length key ≤ d → IsSlotAt ls s (get_or (nodes ls) v [] ++ END ∷ []) → ReachesLeaf ls key s (length key)
  ended_stub s l n = inr (refl, record { within = n.within; is = n.is ∙ ap (λ (p : List ℕ). p ++ END ∷ []) (a.is ∙ whole l) })

  pub ended_nowhere : length key ≤ d → d ≤ length key → is_reached ls (get_or (nodes ls) v [] ++ END ∷ []) ≡ false → None ≡ slot_of_key ls key
  ended_nowhere l m off =
      let h = on_way m in
      let read : get_or (key ++ END ∷ []) d 0 ≡ END = get_or_push key END 0 d (omega (arith, l, m)) in
      missed ls t key d (omega (arith, m, length_push key END)) h.1 (ap (is_reached ls) (λ j. h.0 j ++ read j ∷ []) ∙ off)
