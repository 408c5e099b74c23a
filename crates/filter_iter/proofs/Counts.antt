-- Leaves below nodes and behind places, counted in both ways.
use Rattle.std.proofs.Common.{◌≡◌, ℕ, zero, suc, ◌+◌, ◌-◌, ◌<◌, ◌≤◌, Bool, true, false, cond, List, [], length, get_or, take, map, refl, ap, sym, ◌∙◌, arith, inl, inr}
use Rattle.std.specs.Prelude.{count_by, not, sum_by}
use Rattle.std.proofs.lemmas.Bool.{cases_Bool}
use Rattle.std.proofs.lemmas.List.{length-map, take-map}
use Rattle.std.proofs.lemmas.List.Sums.{sum_by_more}
use Rattle.filter_image_model.proofs.GroupWords.{Group}
use Rattle.filter_image_model.proofs.Link.{node-rests, reached-rests}
use Rattle.filter_image_model.proofs.Paths.{IsFine, fine_paths}
use Rattle.filter_image_model.proofs.Sizes.{some_height}
use Rattle.filter_iter.proofs.Groups.{one_string}
use Rattle.filter_iter.specs.Counts.{below_first}
use Rattle.filter_model.specs.Leaves.{Leaf}
use Rattle.filter_model.specs.Nodes.{Branch, children_before, first_place, leaves_before, trie_of}
use Rattle.filter_model.specs.Trie.{branches, height, is_node, is_reached, nodes, path, places}
use Rattle.filter_model.specs.Valid.{IsLeafList}
use Rattle.filter_trie.proofs.Down.{root_first}
use Rattle.filter_trie.proofs.Halves.{begins_next}
use Rattle.filter_trie.proofs.KeyOrder.{leaves_are_counted}
use Rattle.filter_trie.specs.Laws.{CountsAt}
use Rattle.trie_laws.proofs.Forms.{branches_reached, trie_nodes_have_form}
use Rattle.trie_laws.proofs.NodeLists.{All-flat_map}
use Rattle.trie_laws.proofs.Places.{all-trie_of, branch_of, child-trie_of, child_within, children-trie_of, count_by-map, first_within, length-trie_of}
use Rattle.trie_levels.proofs.Totals.{valid_lists_have_tries}
use Rattle.trie_levels.specs.Tries.{HasTrie}
use Rattle.trie_model.specs.Rests.{first_leaf, leaves_below}

-- how many leaves stand behind the first p places
abbrev pub behind_first : List Leaf → ℕ → ℕ
behind_first ls p = sum_by (leaves_below ls) (take p (places ls))

place_reached : (ls : List Leaf) (n : ℕ) → n < length (places ls) → is_reached ls (get_or (places ls) n []) ≡ true
unfolding places
place_reached ls n l = All-flat_map (λ q. is_reached ls q ≡ true) (branches ls) (nodes ls) (λ k d h. branches_reached ls (get_or (nodes ls) k d)) n [] l

pub leaves-trie_of : (ls : List Leaf) (p : ℕ) → leaves_before (trie_of ls) p ≡ count_by (λ q. not (is_node ls q)) (take p (places ls))
leaves-trie_of ls p =
    ap (λ (bs : List Branch). count_by (λ (b : Branch). not b.1) (take p bs)) (all-trie_of ls)
    ∙ ap (count_by (λ (b : Branch). not b.1)) (take-map (branch_of ls) p (places ls))
    ∙ count_by-map (λ (b : Branch). not b.1) (branch_of ls) (take p (places ls))

pub all_below_root : (ls : List Leaf) → leaves_below ls [] ≡ length ls
all_below_root ls = length-map ls path

module _ (ls : List Leaf) (some : 0 < height ls) (fine : IsFine (height ls) (map path ls)) where
  -- of a branch that is a leaf there is one
  one_behind : (p : ℕ) → p < length (places ls) → is_node ls (get_or (places ls) p []) ≡ false → leaves_below ls (get_or (places ls) p []) ≡ 1
  one_behind p l off =
      let q = get_or (places ls) p [] in
      ap (λ (g : Group). length g) (one_string q (map path ls) fine.sorted (sym (reached-rests ls q) ∙ place_reached ls p l) (sym (node-rests ls q) ∙ off))

  next_kind : (p : ℕ) → p < length (places ls) → (b : Bool) → is_node ls (get_or (places ls) p []) ≡ b
      → (children_before (trie_of ls) (p + 1) ≡ children_before (trie_of ls) p + cond b 1 0) × (leaves_before (trie_of ls) (p + 1) ≡ leaves_before (trie_of ls) p + cond (not b) 1 0)
  next_kind p l b e = (
    omega (arith, children-trie_of ls p, children-trie_of ls (p + 1), sum_by_more (λ (q : List ℕ). cond (is_node ls q) 1 0) (places ls) p [] l, ap (λ (t : Bool). cond {A = ℕ} t 1 0) e),
    omega (arith, leaves-trie_of ls p, leaves-trie_of ls (p + 1), sum_by_more (λ (q : List ℕ). cond (not (is_node ls q)) 1 0) (places ls) p [] l, ap (λ (t : Bool). cond {A = ℕ} (not t) 1 0) e),
  )

  first_node : below_first ls 1 ≡ length ls
  first_node =
      let r = root_first ls some in
      omega (arith, sum_by_more (leaves_below ls) (nodes ls) 0 [] r.within, ap (leaves_below ls) r.is, all_below_root ls)

  -- behind the first places stand the leaves among them, and what stands below the nodes to which the others lead
  pub by_places : (p : ℕ) → p ≤ length (places ls) → behind_first ls p + length ls ≡ leaves_before (trie_of ls) p + below_first ls (children_before (trie_of ls) p + 1)
  by_places zero l = omega (arith, first_node)
  by_places (suc p) l = elim (cases_Bool (is_node ls (get_or (places ls) p []))) [
    | inl node ↦
        let k = next_kind p (omega (arith, l)) true node in
        let k0 = children_before (trie_of ls) p in
        let child : get_or (nodes ls) (k0 + 1) [] ≡ get_or (places ls) p [] = ap (λ (n : ℕ). get_or (nodes ls) n []) (plus_one k0) ∙ child-trie_of ls p some (omega (arith, l)) node in
        omega (
          arith,
          more p l,
          by_places p (omega (arith, l)),
          ap (children_before (trie_of ls)) (plus_one p),
          ap (leaves_before (trie_of ls)) (plus_one p),
          k.0,
          k.1,
          sum_by_more (leaves_below ls) (nodes ls) (k0 + 1) [] (omega (arith, child_within ls p some (omega (arith, l)) node)),
          ap (leaves_below ls) child,
          ap (below_first ls) (two k0 (children_before (trie_of ls) (suc p)) (ap (children_before (trie_of ls)) (sym (plus_one p)) ∙ k.0)),
        )
    | inr leaf ↦
        let k = next_kind p (omega (arith, l)) false leaf in
        let k0 = children_before (trie_of ls) p in
        omega (
          arith,
          more p l,
          by_places p (omega (arith, l)),
          ap (leaves_before (trie_of ls)) (plus_one p),
          k.1,
          one_behind p (omega (arith, l)) leaf,
          ap (below_first ls) (same k0 (children_before (trie_of ls) (suc p)) (ap (children_before (trie_of ls)) (sym (plus_one p)) ∙ k.0)),
        )
  ]
    where
      plus_one : (n : ℕ) → n + 1 ≡ suc n
      plus_one n = omega arith

      more : (p : ℕ) → suc p ≤ length (places ls) → behind_first ls (suc p) ≡ behind_first ls p + leaves_below ls (get_or (places ls) p [])
      more p l = ap (behind_first ls) (sym (plus_one p)) ∙ sum_by_more (leaves_below ls) (places ls) p [] (omega (arith, l))

      two : (k k' : ℕ) → k' ≡ k + 1 → k' + 1 ≡ (k + 1) + 1
      two k k' e = omega (arith, e)

      same : (k k' : ℕ) → k' ≡ k + 0 → k' + 1 ≡ k + 1
      same k k' e = omega (arith, e)

-- ---- nodes and their places

module _ (hash_bits real_bits : ℕ) (ls : List Leaf) (valid : IsLeafList hash_bits real_bits ls) where
  has : HasTrie ls
  has = valid_lists_have_tries hash_bits real_bits ls valid

  high : 0 < height ls
  high = some_height hash_bits real_bits ls valid

  fine : IsFine (height ls) (map path ls)
  fine = fine_paths hash_bits real_bits ls valid (height ls) (omega arith)

  counts : (v : ℕ) → v < length (nodes ls) → CountsAt ls v
  counts v l = leaves_are_counted hash_bits real_bits ls v valid l

  pub more_nodes : (v : ℕ) → v < length (nodes ls) → below_first ls (v + 1) ≡ below_first ls v + leaves_below ls (get_or (nodes ls) v [])
  more_nodes v l = sum_by_more (leaves_below ls) (nodes ls) v [] l

  -- at each place of a node, given at its first
  place_from : (v : ℕ) → v < length (nodes ls) → behind_first ls (first_place (trie_of ls) v) ≡ below_first ls v → (j n : ℕ) → first_place (trie_of ls) v + j ≡ n → n < first_place (trie_of ls) (v + 1)
      → behind_first ls n + first_leaf ls (get_or (nodes ls) v []) ≡ below_first ls v + first_leaf ls (get_or (places ls) n [])
  place_from v l e zero n is to =
      let at : first_place (trie_of ls) v ≡ n = omega (arith, is) in
      omega (arith, e, ap (behind_first ls) at, (counts v l).first, ap (λ (k : ℕ). first_leaf ls (get_or (places ls) k [])) at)
  place_from v l e (suc j) n is to =
      let m = first_place (trie_of ls) v + j in
      let at : m + 1 ≡ n = omega (arith, is) in
      let within : m < length (places ls) = omega (arith, at, to, first_within ls v l) in
      omega (
        arith,
        place_from v l e j m refl (omega (arith, at, to)),
        (counts v l).next m (omega arith) (omega (arith, at, to)),
        sum_by_more (leaves_below ls) (places ls) m [] within,
        ap (behind_first ls) at,
        ap (λ (k : ℕ). first_leaf ls (get_or (places ls) k [])) at,
      )

  filled : (v : ℕ) → v < length (nodes ls) → first_place (trie_of ls) v < first_place (trie_of ls) (v + 1)
  filled v l = omega (arith, (trie_nodes_have_form ls has v [] (in_list v l)).filled, begins_next (trie_of ls) v (in_list v l))
    where
      in_list : (v : ℕ) → v < length (nodes ls) → v < length (trie_of ls)
      in_list v l = omega (arith, l, length-trie_of ls)

  -- behind the places before a node stands what stands below the nodes before it
  pub by_nodes : (v : ℕ) → v ≤ length (nodes ls) → behind_first ls (first_place (trie_of ls) v) ≡ below_first ls v
  by_nodes zero l = refl
  by_nodes (suc v) l =
      let here = by_nodes v (omega (arith, l)) in
      let in' : v < length (nodes ls) = omega (arith, l) in
      let n = first_place (trie_of ls) (v + 1) - 1 in
      let j = n - first_place (trie_of ls) v in
      let some = filled v in' in
      let last : n + 1 ≡ first_place (trie_of ls) (v + 1) = omega (arith, some) in
      let within : n < length (places ls) = omega (arith, last, first_within ls v in') in
      omega (
        arith,
        place_from v in' here j n (omega (arith, some)) (omega (arith, last)),
        (counts v in').last n last,
        sum_by_more (leaves_below ls) (places ls) n [] within,
        ap (behind_first ls) (last ∙ ap (first_place (trie_of ls)) (plus_one v)),
        more_nodes v in',
        ap (below_first ls) (plus_one v),
      )
    where
      plus_one : (n : ℕ) → n + 1 ≡ suc n
      plus_one n = omega arith

  -- and within a node
  pub by_place : (v n : ℕ) → v < length (nodes ls) → first_place (trie_of ls) v ≤ n → n < first_place (trie_of ls) (v + 1)
      → behind_first ls n + first_leaf ls (get_or (nodes ls) v []) ≡ below_first ls v + first_leaf ls (get_or (places ls) n [])
  by_place v n l from to = place_from v l (by_nodes v (omega (arith, l))) (n - first_place (trie_of ls) v) n (omega (arith, from)) to

  pub counted_by_places : (p : ℕ) → p ≤ length (places ls) → behind_first ls p + length ls ≡ leaves_before (trie_of ls) p + below_first ls (children_before (trie_of ls) p + 1)
  counted_by_places p l = by_places ls high fine p l
