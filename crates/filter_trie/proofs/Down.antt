-- From a node's branch to the string that it leads to.
use Rattle.std.proofs.Common.{◌≡◌, ℕ, zero, suc, ◌+◌, ◌<◌, ◌≤◌, true, false, List, [], ◌∷◌, ◌++◌, length, get_or, take, refl, ap, subst, sym, ◌∙◌, arith, inl, inr}
use Rattle.std.specs.Prelude.{count_by, filter, not}
use Rattle.std.specs.List.{list_any}
use Rattle.std.proofs.lemmas.Bool.{cases_lt, false_from_ne_true, or_left, or_right}
use Rattle.std.proofs.lemmas.List.{take-map}
use Rattle.std.proofs.lemmas.List.Elements.{filter_passes}
use Rattle.filter_model.specs.Leaves.{Leaf}
use Rattle.filter_model.specs.Nodes.{Branch, IsBranch, at, children_before, leaves_before, trie_of}
use Rattle.filter_model.specs.Strings.{extends}
use Rattle.filter_model.specs.Trie.{height, is_node, is_reached, nodes, path, places, slots}
use Rattle.filter_trie.specs.Walks.{IsNodeAt, IsSlotAt}
use Rattle.trie_laws.proofs.Lists.{kept_within}
use Rattle.trie_laws.proofs.NodeLists.{nodes_is}
use Rattle.trie_laws.proofs.Places.{all-trie_of, at-trie_of, branch_of, child-trie_of, child_within, count_by-map, first_within, place_in, place_of, slot-counted}

extends-nil : (x : List ℕ) → 0 < length x → extends [] x ≡ true
extends-nil [] l = absurd (omega (arith, l))
extends-nil (b ∷ x) l = refl

root_node : (ls : List Leaf) → 0 < height ls → is_node ls [] ≡ true
unfolding is_node height
root_node [] h = absurd (omega (arith, h))
root_node (l ∷ ls) h = elim (cases_lt 0 (length (path l))) [
  | inl long ↦ or_left (extends [] (path l)) (list_any (λ m. extends [] (path m)) ls) (extends-nil (path l) long)
  | inr none ↦ or_right (extends [] (path l)) (list_any (λ m. extends [] (path m)) ls) (root_node ls (omega (arith, h, none)))
]

leaves-trie_of : (ls : List Leaf) (p : ℕ) → leaves_before (trie_of ls) p ≡ count_by (λ q. not (is_node ls q)) (take p (places ls))
leaves-trie_of ls p =
    ap (λ (bs : List Branch). count_by (λ (b : Branch). not b.1) (take p bs)) (all-trie_of ls)
    ∙ ap (count_by (λ (b : Branch). not b.1)) (take-map (branch_of ls) p (places ls))
    ∙ count_by-map (λ (b : Branch). not b.1) (branch_of ls) (take p (places ls))

module _ (ls : List Leaf) (some : 0 < height ls) where
  pub root_first : IsNodeAt ls 0 []
  root_first = record { within = rw (nodes_is ls some) (omega arith); is = rw (nodes_is ls some) refl }

  pub node_passes : (v : ℕ) → v < length (nodes ls) → is_node ls (get_or (nodes ls) v []) ≡ true
  node_passes v l =
      let P : List (List ℕ) → Type 0 = λ ns. (w : ℕ) → w < length ns → is_node ls (get_or ns w []) ≡ true in
      subst P (sym (nodes_is ls some)) by_cases v l
    where
      by_cases : (w : ℕ) → w < length ([] ∷ filter (is_node ls) (places ls)) → is_node ls (get_or ([] ∷ filter (is_node ls) (places ls)) w []) ≡ true
      by_cases zero m = root_node ls some
      by_cases (suc w) m = filter_passes (is_node ls) (places ls) w [] (omega (arith, m))

  -- the branch by c leads to the node's string with c at its end
  pub place_is : (v c i : ℕ) → v < length (nodes ls) → IsBranch (trie_of ls) v c i → (i < length (places ls)) × (get_or (places ls) i [] ≡ get_or (nodes ls) v [] ++ c ∷ [])
  place_is v c i l b = (
    omega (arith, b.1, first_within ls v l),
    place_in ls v i l b.0 b.1 ∙ ap (λ (d : ℕ). get_or (nodes ls) v [] ++ d ∷ []) b.2,
  )

  -- where it leads to a node, that is the child
  pub down : (v c i : ℕ) → v < length (nodes ls) → IsBranch (trie_of ls) v c i → (at (trie_of ls) i).1 ≡ true
      → IsNodeAt ls (children_before (trie_of ls) i + 1) (get_or (nodes ls) v [] ++ c ∷ [])
  down v c i l b on =
      let here = place_is v c i l b in
      let node : is_node ls (get_or (places ls) i []) ≡ true = ap (λ (x : Branch). x.1) (sym (at-trie_of ls i here.0)) ∙ on in
      record {
        within = omega (arith, child_within ls i some here.0 node);
        is = ap (λ (k : ℕ). get_or (nodes ls) k []) (plus_one (children_before (trie_of ls) i)) ∙ child-trie_of ls i some here.0 node ∙ here.1;
      }
    where
      plus_one : (k : ℕ) → k + 1 ≡ suc k
      plus_one k = omega arith

  pub slot_within : (i : ℕ) → i < length (places ls) → is_node ls (get_or (places ls) i []) ≡ false → leaves_before (trie_of ls) i < length (slots ls)
  unfolding slots
  slot_within i l e = omega (arith, leaves-trie_of ls i, kept_within (λ (q : List ℕ). not (is_node ls q)) (places ls) i [] l (ap not e))

  -- else to the leaf of its slot
  pub leaf_at : (v c i : ℕ) → v < length (nodes ls) → IsBranch (trie_of ls) v c i → (at (trie_of ls) i).1 ≡ false
      → IsSlotAt ls (leaves_before (trie_of ls) i) (get_or (nodes ls) v [] ++ c ∷ [])
  leaf_at v c i l b off =
      let here = place_is v c i l b in
      let node : is_node ls (get_or (places ls) i []) ≡ false = ap (λ (x : Branch). x.1) (sym (at-trie_of ls i here.0)) ∙ off in
      record { within = slot_within i here.0 node; is = slot-counted ls i here.0 node ∙ here.1 }

  -- where there is no branch by c, no path goes on so
  pub nowhere : (v c : ℕ) → v < length (nodes ls) → c ≤ 256 → ((i : ℕ) → IsBranch (trie_of ls) v c i → ⊥) → is_reached ls (get_or (nodes ls) v [] ++ c ∷ []) ≡ false
  nowhere v c l f none = false_from_ne_true (is_reached ls (get_or (nodes ls) v [] ++ c ∷ [])) (λ e.
      let p = place_of ls v c l f e in
      none p.0 (p.1, p.2, p.3))
