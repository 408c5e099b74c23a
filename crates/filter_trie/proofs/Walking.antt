-- One step by a half, and what it says of the trie.
use Rattle.std.proofs.Common.{◌≡◌, ℕ, ◌+◌, ◌-◌, ◌*◌, ◌/◌, ◌%◌, ◌<◌, ◌≤◌, Bool, true, false, cond, Option, Some, None, MatchOption, List, [], ◌∷◌, ◌++◌, length, get_or, refl, ap, subst, sym, ◌∙◌, arith, length-append}
use Rattle.std.specs.List.{All}
use Rattle.std.specs.Option.{option_map}
use Rattle.filter_model.specs.Leaves.{Filter}
use Rattle.filter_model.specs.Image.{has_child, has_letter}
use Rattle.filter_model.specs.Nodes.{Branch, IsBranch, Node, all, at, children_before, first_place, leaves_before, trie_of}
use Rattle.filter_model.specs.Trie.{END, is_reached, nodes}
use Rattle.filter_trie.specs.Parts.{AreParts, lower, upper}
use Rattle.filter_trie.specs.Walks.{IsNodeAt, IsSlotAt}
use Rattle.filter_trie.proofs.Halves.{begins_next, below_is, dense_branch, dense_end, first_in, no_dense_branch, no_sparse_branch, none_given, same_child, slot_is, some_given, sparse_branch, sparse_place, stands}
use Rattle.filter_trie.proofs.Parts.{dense_nodes, has_trie, joined, length-nodes, tall}
use Rattle.filter_trie.proofs.Down.{down, leaf_at, nowhere}
use Rattle.louds_dense.specs.Places.{branch_place as dense_place, branches_before, child_at as dense_child, end_slot as dense_end_slot, node_at, slot_at as dense_slot}
use Rattle.suffix_bits.specs.Slots.{SuffixArray}
use Rattle.trie_laws.proofs.Forms.{trie_nodes_have_form}
use Rattle.trie_laws.proofs.Joining.{halves_join}
use Rattle.trie_laws.specs.Halves.{second_half}
use Rattle.trie_laws.specs.Nodes.{IsTrieNode}
use Rattle.trie_model.specs.Halves.{Half, branch_place, child_at, end_slot, first_below, slot_at}

-- the node and the byte of a place
place_parts : (v c q : ℕ) → c < 256 → 256 * v + c ≡ q → (q / 256 ≡ v) × (q % 256 ≡ c)
place_parts v c q f e = (omega (arith, e, f), omega (arith, e, f))

pub end_leaf : (ns : List Node) (v b : ℕ) → All IsTrieNode ns → v < length ns → IsBranch ns v END b → (at ns b).1 ≡ false
end_leaf ns v b forms l h =
    let j = b - first_place ns v in
    let m : j < length (get_or ns v []) = omega (arith, h.0, h.1, begins_next ns v l) in
    let e : first_place ns v + j ≡ b = omega (arith, h.0) in
    let here : get_or (get_or ns v []) j (0, false) ≡ at ns b = sym (stands ns v l j m) ∙ ap (at ns) e in
    ap (λ (x : Branch). x.1) (sym here) ∙ (forms v [] l).end_is_a_leaf j (0, false) m (ap (λ (x : Branch). x.0) here ∙ h.2)

module _ {i : Filter} {cutoff levels : ℕ} {dense : List Node} {sparse : Half} {array : SuffixArray} (p : AreParts i cutoff levels dense sparse array) (v : ℕ) where
  abbrev ds : List Node
  ds = upper i.cutoff i.leaves

  abbrev ss : List Node
  ss = lower i.cutoff i.leaves

  pub there : v < length ds → v < length (nodes i.leaves)
  there l = omega (arith, l, length-append ds ss, length-nodes i)

  pub there_both : v < length (nodes i.leaves) → v < length (ds ++ ss)
  there_both l = omega (arith, l, length-nodes i)

  -- on the one list of nodes
  at_node : (c b : ℕ) → v < length (nodes i.leaves) → IsBranch (ds ++ ss) v c b → (at (ds ++ ss) b).1 ≡ true → IsNodeAt i.leaves (children_before (ds ++ ss) b + 1) (get_or (nodes i.leaves) v [] ++ c ∷ [])
  at_node c b l h on =
      subst (λ (ns : List Node). IsBranch ns v c b → (at ns b).1 ≡ true → IsNodeAt i.leaves (children_before ns b + 1) (get_or (nodes i.leaves) v [] ++ c ∷ [])) (sym (joined i))
      (λ x y. down i.leaves (tall p) v c b l x y) h on

  at_leaf : (c b : ℕ) → v < length (nodes i.leaves) → IsBranch (ds ++ ss) v c b → (at (ds ++ ss) b).1 ≡ false → IsSlotAt i.leaves (leaves_before (ds ++ ss) b) (get_or (nodes i.leaves) v [] ++ c ∷ [])
  at_leaf c b l h off =
      subst (λ (ns : List Node). IsBranch ns v c b → (at ns b).1 ≡ false → IsSlotAt i.leaves (leaves_before ns b) (get_or (nodes i.leaves) v [] ++ c ∷ [])) (sym (joined i))
      (λ x y. leaf_at i.leaves (tall p) v c b l x y) h off

  at_none : (c : ℕ) → v < length (nodes i.leaves) → c ≤ 256 → ((b : ℕ) → IsBranch (ds ++ ss) v c b → ⊥) → is_reached i.leaves (get_or (nodes i.leaves) v [] ++ c ∷ []) ≡ false
  at_none c l f none = nowhere i.leaves (tall p) v c l f (subst (λ (ns : List Node). (b : ℕ) → IsBranch ns v c b → ⊥) (joined i) none)

  -- END never leads to a node
  end_is_leaf : (b : ℕ) → v < length (nodes i.leaves) → IsBranch (ds ++ ss) v END b → (at (ds ++ ss) b).1 ≡ false
  end_is_leaf b l h =
      subst (λ (ns : List Node). All IsTrieNode ns → v < length ns → IsBranch ns v END b → (at ns b).1 ≡ false) (sym (joined i))
      (λ forms in' x. end_leaf (trie_of i.leaves) v b forms in' x) (subst (All IsTrieNode) (sym (joined i)) (trie_nodes_have_form i.leaves (has_trie p))) (there_both l) h

  -- ---- the dense half

  pub dense_none : (c : ℕ) → v < length ds → c < 256 → None ≡ dense_place ds v c → is_reached i.leaves (get_or (nodes i.leaves) v [] ++ c ∷ []) ≡ false
  dense_none c l f e = at_none c (there l) (omega (arith, f)) (no_dense_branch ds ss (dense_nodes p) v l c (none_given (has_letter (node_at ds v) c) (256 * v + c) e))

  pub dense_down : (c q w : ℕ) → v < length ds → c < 256 → Some q ≡ dense_place ds v c → Some w ≡ dense_child ds q → IsNodeAt i.leaves w (get_or (nodes i.leaves) v [] ++ c ∷ [])
  dense_down c q w l f e h =
      let here = some_given (has_letter (node_at ds v) c) q (256 * v + c) e in
      let b = dense_branch ds ss (dense_nodes p) v l c q f (sym here.1) here.0 in
      let on = some_given (has_child (node_at ds (q / 256)) (q % 256)) w (children_before ds (branches_before ds q) + 1) h in
      let child = place_parts v c q f (sym here.1) in
      let k = (halves_join ds ss).0.children (branches_before ds q) b.within in
      subst (λ (x : ℕ). IsNodeAt i.leaves x (get_or (nodes i.leaves) v [] ++ c ∷ [])) (ap (λ (x : ℕ). x + 1) k ∙ sym on.1)
      (at_node c (branches_before ds q) (there l) b.branch (b.child ∙ (λ j. has_child (node_at ds (sym child.0 j)) (sym child.1 j)) ∙ on.0))

  pub dense_leaf : (c q s : ℕ) → v < length ds → c < 256 → Some q ≡ dense_place ds v c → None ≡ dense_child ds q → s ≡ dense_slot ds q → IsSlotAt i.leaves s (get_or (nodes i.leaves) v [] ++ c ∷ [])
  dense_leaf c q s l f e h is =
      let here = some_given (has_letter (node_at ds v) c) q (256 * v + c) e in
      let b = dense_branch ds ss (dense_nodes p) v l c q f (sym here.1) here.0 in
      let off = none_given (has_child (node_at ds (q / 256)) (q % 256)) (children_before ds (branches_before ds q) + 1) h in
      let child = place_parts v c q f (sym here.1) in
      let k = (halves_join ds ss).0.leaves (branches_before ds q) b.within in
      subst (λ (x : ℕ). IsSlotAt i.leaves x (get_or (nodes i.leaves) v [] ++ c ∷ [])) (k ∙ sym is)
      (at_leaf c (branches_before ds q) (there l) b.branch (b.child ∙ (λ j. has_child (node_at ds (sym child.0 j)) (sym child.1 j)) ∙ off))

  pub dense_ends : (found : Option ℕ) → v < length ds → found ≡ dense_end_slot ds v
      → MatchOption found (is_reached i.leaves (get_or (nodes i.leaves) v [] ++ END ∷ []) ≡ false) (λ s. IsSlotAt i.leaves s (get_or (nodes i.leaves) v [] ++ END ∷ []))
  dense_ends found l e = subst (λ (x : Option ℕ). MatchOption x (is_reached i.leaves (get_or (nodes i.leaves) v [] ++ END ∷ []) ≡ false) (λ s. IsSlotAt i.leaves s (get_or (nodes i.leaves) v [] ++ END ∷ []))) (sym e) (by_bit (has_letter (node_at ds v) END) refl)
    where
      by_bit : (t : Bool) → has_letter (node_at ds v) END ≡ t
          → MatchOption (cond t (Some (leaves_before ds (first_place ds v))) None) (is_reached i.leaves (get_or (nodes i.leaves) v [] ++ END ∷ []) ≡ false) (λ s. IsSlotAt i.leaves s (get_or (nodes i.leaves) v [] ++ END ∷ []))
      by_bit true on =
          let b = dense_end ds ss (dense_nodes p) v l on in
          let k = (halves_join ds ss).0.leaves (first_place ds v) (first_in ds ss (dense_nodes p) v l) in
          subst (λ (x : ℕ). IsSlotAt i.leaves x (get_or (nodes i.leaves) v [] ++ END ∷ [])) k (at_leaf END (first_place ds v) (there l) b.0 b.1)
      by_bit false off = at_none END (there l) (omega arith) (no_dense_branch ds ss (dense_nodes p) v l END off)

  -- ---- the sparse half

  module _ (from : length ds ≤ v) (to : v < length (nodes i.leaves)) where
    pub sparse_none : (c : ℕ) → c < 256 → None ≡ branch_place (second_half ds ss) v c → is_reached i.leaves (get_or (nodes i.leaves) v [] ++ c ∷ []) ≡ false
    sparse_none c f e = at_none c to (omega (arith, f)) (no_sparse_branch ds ss v from (there_both to) c e)

    pub sparse_down : (c q w : ℕ) → Some q ≡ branch_place (second_half ds ss) v c → Some w ≡ child_at (second_half ds ss) q → IsNodeAt i.leaves w (get_or (nodes i.leaves) v [] ++ c ∷ [])
    sparse_down c q w e h =
        let b = sparse_branch ds ss v from (there_both to) c q e in
        let on = some_given (at ss q).1 w (first_below (second_half ds ss) q) h in
        subst (λ (x : ℕ). IsNodeAt i.leaves x (get_or (nodes i.leaves) v [] ++ c ∷ [])) (sym (below_is ds ss v from (there_both to) q) ∙ sym on.1)
        (at_node c (length (all ds) + q) to (sparse_place ds ss v from (there_both to) c q b) (sym (same_child ds ss v from (there_both to) q) ∙ on.0))

    pub sparse_leaf : (c q s : ℕ) → Some q ≡ branch_place (second_half ds ss) v c → None ≡ child_at (second_half ds ss) q → s ≡ slot_at (second_half ds ss) q → IsSlotAt i.leaves s (get_or (nodes i.leaves) v [] ++ c ∷ [])
    sparse_leaf c q s e h is =
        let b = sparse_branch ds ss v from (there_both to) c q e in
        let off = none_given (at ss q).1 (first_below (second_half ds ss) q) h in
        subst (λ (x : ℕ). IsSlotAt i.leaves x (get_or (nodes i.leaves) v [] ++ c ∷ [])) (sym (slot_is ds ss v from (there_both to) q) ∙ sym is)
        (at_leaf c (length (all ds) + q) to (sparse_place ds ss v from (there_both to) c q b) (sym (same_child ds ss v from (there_both to) q) ∙ off))

    pub sparse_ends : (found : Option ℕ) → found ≡ end_slot (second_half ds ss) v
        → MatchOption found (is_reached i.leaves (get_or (nodes i.leaves) v [] ++ END ∷ []) ≡ false) (λ s. IsSlotAt i.leaves s (get_or (nodes i.leaves) v [] ++ END ∷ []))
    sparse_ends found e = subst (λ (x : Option ℕ). MatchOption x (is_reached i.leaves (get_or (nodes i.leaves) v [] ++ END ∷ []) ≡ false) (λ s. IsSlotAt i.leaves s (get_or (nodes i.leaves) v [] ++ END ∷ []))) (sym e) (by_place (branch_place (second_half ds ss) v END) refl)
      where
        by_place : (q : Option ℕ) → q ≡ branch_place (second_half ds ss) v END
            → MatchOption (option_map (slot_at (second_half ds ss)) q) (is_reached i.leaves (get_or (nodes i.leaves) v [] ++ END ∷ []) ≡ false) (λ s. IsSlotAt i.leaves s (get_or (nodes i.leaves) v [] ++ END ∷ []))
        by_place None h = at_none END to (omega arith) (no_sparse_branch ds ss v from (there_both to) END h)
        by_place (Some q) h =
            let b = sparse_place ds ss v from (there_both to) END q (sparse_branch ds ss v from (there_both to) END q h) in
            subst (λ (x : ℕ). IsSlotAt i.leaves x (get_or (nodes i.leaves) v [] ++ END ∷ [])) (sym (slot_is ds ss v from (there_both to) q))
            (at_leaf END (length (all ds) + q) to b (end_is_leaf (length (all ds) + q) to b))
