-- The way down to the least leaf behind a branch.
use Rattle.std.proofs.Common.{◌≡◌, ℕ, suc, ◌+◌, ◌-◌, ◌<◌, ◌≤◌, List, [], ◌∷◌, ◌++◌, length, get_or, map, refl, ap, subst, sym, ◌∙◌, arith, Bool, true, false, cond, Some, None, ◌==◌, nat_lt, nat_le, lt-ltb, length-append}
use Rattle.std.proofs.lemmas.Bool.{and_from, eq-eqb, false_from_ne_true, le-leb, or_left, true≢false}
use Rattle.std.proofs.lemmas.List.{get_or-map, length-map, length_push}
use Rattle.filter_image_model.proofs.GroupWords.{heads}
use Rattle.filter_image_model.proofs.Link.{branches-rests, node-rests, reached-rests}
use Rattle.filter_image_model.proofs.Paths.{IsFine, fine_paths}
use Rattle.filter_model.proofs.Fronts.{same-itself, same-true}
use Rattle.filter_model.specs.Leaves.{Filter, Leaf}
use Rattle.filter_model.specs.Nodes.{Branch, Node, all, at, children_before, first_place, leaves_before, trie_of}
use Rattle.filter_model.specs.Strings.{bytes_eq}
use Rattle.filter_model.specs.Trie.{END, branches, height, is_node, is_reached, nodes, path, places, slots}
use Rattle.filter_trie.proofs.Down.{node_passes, slot_within}
use Rattle.filter_trie.proofs.Halves.{begins_next, dense_end, none_given, some_given}
use Rattle.filter_trie.proofs.Reached.{position_some}
use Rattle.filter_trie.proofs.Starts.{first_letter, own_number, rests_fine, start-push}
use Rattle.filter_trie.proofs.WaysDown.{IsOnWay, levels_below}
use Rattle.louds_sparse.specs.Leads.{IsLead}
use Rattle.louds_sparse.specs.declared.lead.Lead.{Lead}
use Rattle.louds_sparse.specs.declared.lead.Lead.TheVariants as lead
use Rattle.trie_laws.proofs.Forms.{branches_reached, trie_nodes_have_form}
use Rattle.trie_laws.proofs.NodeLists.{All-flat_map, height_above}
use Rattle.trie_laws.proofs.Places.{at-trie_of, child-trie_of, child_within, first-suc, first_within, length-trie_of, place_at, slot-counted}
use Rattle.trie_laws.proofs.Slots.{leaves_have_slots}
use Rattle.trie_levels.specs.Tries.{HasTrie}
use Rattle.std.specs.Prelude.{◌&&◌}
use Rattle.filter_api.specs.Spellings.{MayBeTrie}
use Rattle.filter_image_model.proofs.Sizes.{some_height}
use Rattle.louds_dense.proofs.Ranks.{node_within}
use Rattle.trie_levels.proofs.Totals.{valid_lists_have_tries}
use Rattle.std.specs.Option.{option_map}
use Rattle.filter_model.specs.Image.{has_letter}
use Rattle.filter_trie.proofs.Parts.{dense_nodes, has_trie, joined, length-nodes}
use Rattle.filter_trie.proofs.Numbers.{dense_before, dense_next_is, first_begins, same_node, sparse_node}
use Rattle.filter_trie.specs.Parts.{AreParts, lower, upper}
use Rattle.filter_trie.specs.Places.{trie}
use Rattle.louds_dense.specs.Places as dense
use Rattle.suffix_bits.specs.Slots.{SuffixArray}
use Rattle.trie_laws.specs.Halves.{second_half}
use Rattle.trie_laws.specs.Nodes.{IsTrieNode}
use Rattle.trie_model.specs.Branching.{next_at}
use Rattle.trie_model.specs.Halves.{Half, begin_of, first_below, next_place, node_at, whole}
use Rattle.trie_model.specs.Rests.{first_leaf, rests}
use Rattle.trie_model.specs.Walks.{least_path, leftmost_slot}

place_reached : (ls : List Leaf) (n : ℕ) → n < length (places ls) → is_reached ls (get_or (places ls) n []) ≡ true
unfolding places
place_reached ls n l = All-flat_map (λ q. is_reached ls q ≡ true) (branches ls) (nodes ls) (λ k d h. branches_reached ls (get_or (nodes ls) k d)) n [] l

module _ (ls : List Leaf) (t : HasTrie ls) (some : 0 < height ls) (fine : IsFine (height ls) (map path ls)) where
  abbrev ns : List (List (ℕ × Bool))
  ns = trie_of ls

  -- a node's first branch has its least leaf
  pub first_branch : (v : ℕ) → v < length (nodes ls) → (first_place ns v < length (places ls)) × (first_leaf ls (get_or (places ls) (first_place ns v) []) ≡ first_leaf ls (get_or (nodes ls) v []))
      × (length (get_or (places ls) (first_place ns v) []) ≡ suc (length (get_or (nodes ls) v [])))
  first_branch v l =
      let p = get_or (nodes ls) v [] in
      let r = rests p (map path ls) in
      let on = sym (node-rests ls p) ∙ node_passes ls some v l in
      let f = first_letter (height ls) r (rests_fine p (height ls) (map path ls) fine on) in
      let same_branches : branches ls p ≡ map (λ (c : ℕ). p ++ c ∷ []) (heads r) = branches-rests ls p in
      let long : 0 < length (branches ls p) = omega (arith, ap length same_branches, length-map (heads r) (λ (c : ℕ). p ++ c ∷ []), f.0) in
      let here : get_or (places ls) (first_place ns v) [] ≡ p ++ get_or (heads r) 0 0 ∷ [] =
      ap (λ (n : ℕ). get_or (places ls) n []) (plus (first_place ns v))
      ∙ place_at ls v 0 l long
      ∙ ap (λ (qs : List (List ℕ)). get_or qs 0 []) same_branches
      ∙ get_or-map (λ (c : ℕ). p ++ c ∷ []) (heads r) 0 0 [] f.0 in (
        omega (arith, first-suc ls v l, first_within ls v l, long),
        ap (first_leaf ls) here ∙ start-push p (get_or (heads r) 0 0) (map path ls) ∙ omega (arith, f.1),
        ap (length {A = ℕ}) here ∙ length_push p (get_or (heads r) 0 0) ∙ plus_one (length p),
      )
    where
      plus : (n : ℕ) → n ≡ n + 0
      plus n = omega arith

      plus_one : (n : ℕ) → n + 1 ≡ suc n
      plus_one n = omega arith

  -- from a branch on the way to where it leads
  least : (x : List ℕ) → least_path ls x ≡ get_or (map path ls) (first_leaf ls x) []
  unfolding least_path
  least x = refl

  pub lead_on : (q : List ℕ) (n : ℕ) (l : Lead) → n < length (places ls) → first_leaf ls (get_or (places ls) n []) ≡ first_leaf ls q → IsLead (whole ns) n l → IsOnWay ls q l
  lead_on q n (lead.Child v) in' e h =
      let on = some_given (at ns n).1 v (0 + children_before ns n + 1) h in
      let node : is_node ls (get_or (places ls) n []) ≡ true = ap (λ (b : Branch). b.1) (sym (at-trie_of ls n in')) ∙ on.0 in
      let is : get_or (nodes ls) v [] ≡ get_or (places ls) n [] = ap (λ (k : ℕ). get_or (nodes ls) k []) (omega (arith, on.1)) ∙ child-trie_of ls n some in' node in
      (omega (arith, child_within ls n some in' node, on.1), ap (first_leaf ls) is ∙ e)
  lead_on q n (lead.Leaf s) in' e h =
      let p = get_or (places ls) n [] in
      let off = none_given (at ns n).1 (0 + children_before ns n + 1) h.0 in
      let node : is_node ls p ≡ false = ap (λ (b : Branch). b.1) (sym (at-trie_of ls n in')) ∙ off in
      let slot : s ≡ leaves_before ns n = omega (arith, h.1) in
      let own : get_or (map path ls) (first_leaf ls p) [] ≡ p = own_number p (map path ls) fine.sorted (sym (reached-rests ls p) ∙ place_reached ls n in') (sym (node-rests ls p) ∙ node) in
      record {
        within = omega (arith, slot, slot_within ls some n in' node);
        is = ap (λ (k : ℕ). get_or (slots ls) k []) slot ∙ slot-counted ls n in' node ∙ sym own ∙ ap (λ (k : ℕ). get_or (map path ls) k []) e ∙ sym (least q);
      }

  -- and one level further down
  pub further : (v : ℕ) (l : Lead) → v < length (nodes ls) → IsLead (whole ns) (first_place ns v) l → levels_below (height ls) ls l < levels_below (height ls) ls (lead.Child v)
  further v (lead.Child w) in' h =
      let b = first_branch v in' in
      let n = first_place ns v in
      let on = some_given (at ns n).1 w (0 + children_before ns n + 1) h in
      let node : is_node ls (get_or (places ls) n []) ≡ true = ap (λ (x : Branch). x.1) (sym (at-trie_of ls n b.0)) ∙ on.0 in
      let is : get_or (nodes ls) w [] ≡ get_or (places ls) n [] = ap (λ (k : ℕ). get_or (nodes ls) k []) (omega (arith, on.1)) ∙ child-trie_of ls n some b.0 node in
      omega (arith, ap (length {A = ℕ}) is, b.2, height_above ls (get_or (places ls) n []) node)
  further v (lead.Leaf s) in' h = omega (arith, height_above ls (get_or (nodes ls) v []) (node_passes ls some v in'))

  -- at the end stands its slot
  pub leftmost_is : (q : List ℕ) (s : ℕ) → IsOnWay ls q (lead.Leaf s) → Some s ≡ leftmost_slot ls q
  unfolding leftmost_slot
  leftmost_is q s a =
      sym (position_some (bytes_eq (least_path ls q)) (slots ls) s [] a.within (ap (bytes_eq (least_path ls q)) a.is ∙ same-itself (least_path ls q))
      (λ k l. false_from_ne_true (bytes_eq (least_path ls q) (get_or (slots ls) k [])) (λ e.
      (leaves_have_slots ls t).once k s [] l a.within (sym (same-true (least_path ls q) (get_or (slots ls) k []) e) ∙ sym a.is))))

-- ---- the same of a list for which a filter may stand

module _ {h r c : ℕ} {ls : List Leaf} (m : MayBeTrie h r c ls) where
  may_have : HasTrie ls
  may_have = valid_lists_have_tries h r ls m.valid

  high : 0 < height ls
  high = some_height h r ls m.valid

  fine : IsFine (height ls) (map path ls)
  fine = fine_paths h r ls m.valid (height ls) (omega arith)

  pub first_way : (n : ℕ) (l : Lead) → n < length (places ls) → IsLead (whole (trie_of ls)) n l → IsOnWay ls (get_or (places ls) n []) l
  first_way n l in' h = lead_on ls may_have high fine (get_or (places ls) n []) n l in' refl h

  begins_at : (v : ℕ) → first_place (trie_of ls) v ≡ begin_of (whole (trie_of ls)) v
  begins_at v = ap (first_place (trie_of ls)) (zero_less v)
    where
      zero_less : (k : ℕ) → k ≡ k - 0
      zero_less k = omega arith

  pub next_way : (q : List ℕ) (v : ℕ) (l : Lead) → IsOnWay ls q (lead.Child v) → IsLead (whole (trie_of ls)) (begin_of (whole (trie_of ls)) v) l → IsOnWay ls q l
  next_way q v l w h =
      let b = first_branch ls may_have high fine v w.0 in
      lead_on ls may_have high fine q (first_place (trie_of ls) v) l b.0 (b.1 ∙ w.1) (subst (λ (n : ℕ). IsLead (whole (trie_of ls)) n l) (sym (begins_at v)) h)

  pub less_below : (q : List ℕ) (v : ℕ) (l : Lead) → IsOnWay ls q (lead.Child v) → IsLead (whole (trie_of ls)) (begin_of (whole (trie_of ls)) v) l
      → levels_below (height ls) ls l < levels_below (height ls) ls (lead.Child v)
  less_below q v l w h = further ls may_have high fine v l w.0 (subst (λ (n : ℕ). IsLead (whole (trie_of ls)) n l) (sym (begins_at v)) h)

  pub least_slot : (q : List ℕ) (s : ℕ) → IsOnWay ls q (lead.Leaf s) → Some s ≡ leftmost_slot ls q
  least_slot q s w = leftmost_is ls may_have high fine q s w

-- ---- the dense half: a node without END begins with its first branch by a byte

filled_next : (n : Node) → IsTrieNode n → has_letter n END ≡ false → next_at n 0 ≡ Some 0
filled_next [] w off = absurd (omega (arith, w.filled))
filled_next (b ∷ n) w off =
    let small : b.0 ≤ 256 = w.letters 0 b (omega arith) in
    let other : (b.0 ≡ 256 → ⊥) = λ e. true≢false (sym (or_left (b.0 == END) (has_letter n END) (eq-eqb b.0 END e)) ∙ off) in
    let passes : (nat_le 0 b.0 && nat_lt b.0 END) ≡ true = and_from (nat_le 0 b.0) (nat_lt b.0 END) (le-leb 0 b.0 (omega arith)) (lt-ltb b.0 256 (omega (arith, small, other))) in
    position_some (λ (x : Branch). nat_le 0 x.0 && nat_lt x.0 END) (b ∷ n) 0 (0, false) (omega arith) passes (λ k l. absurd (omega (arith, l)))

first_next : (h : Half) (v : ℕ) → IsTrieNode (node_at h v) → has_letter (node_at h v) END ≡ false → next_place h v 0 ≡ Some (begin_of h v)
first_next h v w off = ap (option_map (λ i. begin_of h v + i)) (filled_next (node_at h v) w off) ∙ ap (λ (k : ℕ). Some k) (plus (begin_of h v))
  where
    plus : (k : ℕ) → k + 0 ≡ k
    plus k = omega arith

module _ {i : Filter} {cutoff levels : ℕ} {dense' : List Node} {sparse : Half} {array : SuffixArray} (s : AreParts i cutoff levels dense' sparse array) where
  form : (v : ℕ) → v < length (nodes i.leaves) → IsTrieNode (node_at (trie i) v)
  form v l = trie_nodes_have_form i.leaves (has_trie s) (v - 0) [] (omega (arith, l, length-trie_of i.leaves))

  there_is : (v : ℕ) → v < length (upper i.cutoff i.leaves) → v < length (nodes i.leaves)
  there_is v l = omega (arith, l, length-nodes i, length-append (upper i.cutoff i.leaves) (lower i.cutoff i.leaves))

  module _ (v : ℕ) (l : v < length (upper i.cutoff i.leaves)) where
    -- where END is a branch it is the first
    pub end_lead : (slot : ℕ) → Some slot ≡ dense.end_slot (upper i.cutoff i.leaves) v → IsLead (trie i) (begin_of (trie i) v) (lead.Leaf slot)
    end_lead slot e =
        let on = some_given (has_letter (dense.node_at (upper i.cutoff i.leaves) v) END) slot (dense.node_slot (upper i.cutoff i.leaves) v) e in
        let b = dense_end (upper i.cutoff i.leaves) (lower i.cutoff i.leaves) (dense_nodes s) v l on.0 in
        let first : first_place (upper i.cutoff i.leaves) v ≡ begin_of (trie i) v = first_begins s v (omega (arith, l)) in
        let off : (at (trie_of i.leaves) (begin_of (trie i) v)).1 ≡ false = (λ j. (at (sym (joined i) j) (sym first j)).1) ∙ b.1 in
        (sym (ap (λ (t : Bool). cond t (Some (first_below (trie i) (begin_of (trie i) v))) None) off), on.1 ∙ dense_before s v l)

    -- else the first by a byte is
    next : None ≡ dense.end_slot (upper i.cutoff i.leaves) v → next_place (trie i) v 0 ≡ Some (begin_of (trie i) v)
    next e =
        let off = none_given (has_letter (dense.node_at (upper i.cutoff i.leaves) v) END) (dense.node_slot (upper i.cutoff i.leaves) v) e in
        first_next (trie i) v (form v (there_is v l)) (ap (λ (n : Node). has_letter n END) (sym (same_node s v l)) ∙ off)

    pub byte_first : (bit : ℕ) → None ≡ dense.end_slot (upper i.cutoff i.leaves) v → Some bit ≡ dense.next_place (upper i.cutoff i.leaves) v 0 → dense.branches_before (upper i.cutoff i.leaves) bit ≡ begin_of (trie i) v
    byte_first bit e h = got (dense_next_is s (Some bit) v 0 l (omega arith) h ∙ next e)
      where
        got : {a b : ℕ} → Some a ≡ Some b → a ≡ b
        got x = cc

    pub some_byte : None ≡ dense.end_slot (upper i.cutoff i.leaves) v → None ≡ dense.next_place (upper i.cutoff i.leaves) v 0 → ⊥
    some_byte e h = never (dense_next_is s None v 0 l (omega arith) h ∙ next e)
      where
        never : {a : ℕ} → None ≡ Some a → ⊥
        never x = absurd (cc)

  -- the sparse half: a node begins with its first place
  pub first_taken : (v p : ℕ) → length (upper i.cutoff i.leaves) ≤ v → v < length (nodes i.leaves) → p ≡ begin_of (second_half (upper i.cutoff i.leaves) (lower i.cutoff i.leaves)) v → p < length (all (lower i.cutoff i.leaves))
  first_taken v p from to e =
      let ss = lower i.cutoff i.leaves in
      let k = v - length (upper i.cutoff i.leaves) in
      let l : k < length ss = omega (arith, from, to, length-nodes i, length-append (upper i.cutoff i.leaves) ss) in
      let node : node_at (trie i) v ≡ get_or ss k [] = sparse_node s v from in
      omega (arith, e, begins_next ss k l, node_within ss (k + 1) (omega (arith, l)), ap (length {A = Branch}) node, (form v to).filled)
