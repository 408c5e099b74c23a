-- The suffixes of the leaves that are read, by their slots, are those that were read.
use Rattle.std.proofs.Common.{◌≡◌, ℕ, zero, suc, ◌+◌, ◌<◌, ◌≤◌, Bool, true, false, cond, List, [], ◌∷◌, ◌++◌, length, get_or, take, drop, map, refl, sym, ap, ◌∙◌, arith, take-add, subst}
use Rattle.std.specs.Prelude.{not, count_by, filter, flat_map}
use Rattle.std.specs.List.{AllByRecursion, All}
use Rattle.std.proofs.lemmas.List.{append-nil, append_assoc, map-append, length-drop, drop-drop, take_all}
use Rattle.std.proofs.lemmas.List.Concat.{flat_map-append}
use Rattle.std.proofs.lemmas.List.Elements.{filter-append, All-head, All-tail, All-filter, All-map}
use Rattle.filter_model.specs.Leaves.{Leaf}
use Rattle.filter_model.specs.Nodes.{Branch, Node, all, last_letter, node_of}
use Rattle.filter_model.specs.Trie.{branches, height, is_node, is_reached, letters, level, nodes, nodes_to, path, places, slots}
use Rattle.filter_model.proofs.Counts.{count_by-cons}
use Rattle.std.proofs.Math.Seq.{drop-cons}
use Rattle.filter_image_model.proofs.Lists.{first_of, rest_of}
use Rattle.filter_image_model.proofs.TrieRead.{flat_take}
use Rattle.filter_image_model.proofs.Link.{map-map, read_back}
use Rattle.trie_laws.proofs.Places.{last_letter-push}
use Rattle.filter_image_model.specs.Levels.{node_leaves, level_leaves, leaves_behind, leaf_count_of}
use Rattle.filter_image_model.specs.Levels.{children_of as children_count}
use Rattle.filter_image_model.proofs.GroupWords.{children_in, all_children, gather, IsGoodNode, AreLevels}
use Rattle.filter_image_model.proofs.LevelsRead.{flat, length-raise, leaf_branch, children_in_is, count-append}
use Rattle.filter_image_model.proofs.Slots.{Entry, entries, ends_of, picks, picks_next, dealt, behind_letters}

-- what stands behind p
abbrev pub behind_string : List ℕ → List Entry → List Entry
behind_string [] g = g
behind_string (c ∷ p) g = behind_string p (ends_of c g)

behind_push : (p : List ℕ) (c : ℕ) (g : List Entry) → behind_string (p ++ c ∷ []) g ≡ ends_of c (behind_string p g)
behind_push [] c g = refl
behind_push (a ∷ p) c g = behind_push p c (ends_of a g)

picks_behind : (p : List ℕ) (g : List Entry) → picks p g ≡ picks [] (behind_string p g)
picks_behind [] g = refl
picks_behind (c ∷ p) g = picks_next c p g ∙ picks_behind p (ends_of c g)

-- one node's branches, each as a string with the bit that says whether it goes on: their children's groups and their numbers
abbrev pub kids : List (List ℕ × Bool) → List (List ℕ)
kids [] = []
kids (q ∷ qs) = cond q.1 (q.0 ∷ kids qs) (kids qs)

abbrev pub owns : List (List ℕ × Bool) → List (List ℕ)
owns [] = []
owns (q ∷ qs) = cond q.1 (owns qs) (q.0 ∷ owns qs)

abbrev pub as_node : List (List ℕ × Bool) → Node
as_node qs = map (λ (q : List ℕ × Bool). (last_letter q.0, q.1)) qs

pub record Split (hash_bits : ℕ) (g : List Entry) (qs : List (List ℕ × Bool)) (below : List (List Leaf)) (ss : List ℕ) : Type 0 where
  pub children : map (λ (q : List ℕ). behind_string q g) (kids qs) ≡ map (entries hash_bits) (take (children_in (as_node qs)) below)
  pub numbers : flat_map (λ (q : List ℕ). picks q g) (owns qs) ≡ take (count_by leaf_branch (as_node qs)) ss

plus_one : (n : ℕ) → 1 + n ≡ suc n
plus_one n = omega arith

plus_zero : (n : ℕ) → 0 + n ≡ n
plus_zero n = omega arith

pub split : (hash_bits : ℕ) (g : List Entry) (qs : List (List ℕ × Bool)) (below : List (List Leaf)) (ss : List ℕ)
    → children_in (as_node qs) ≤ length below → count_by leaf_branch (as_node qs) ≤ length ss
    → map (λ (q : List ℕ × Bool). behind_string q.0 g) qs ≡ dealt hash_bits (as_node qs) below ss → Split hash_bits g qs below ss
split hb g [] below ss le few e = record { children = refl; numbers = refl }
split hb g ((q, true) ∷ qs) [] ss le few e = absurd (omega (arith, le))
split hb g ((q, true) ∷ qs) (ls ∷ below) ss le few e =
    let n = as_node qs in
    let few_too = count_by-cons leaf_branch (last_letter q, true) n in
    let ih = split hb g qs below ss (omega (arith, le)) (omega (arith, few, few_too)) (rest_of _ _ _ _ e) in
    let same_few : count_by leaf_branch ((last_letter q, true) ∷ n) ≡ count_by leaf_branch n = omega (arith, few_too) in
    record {
      children = (λ j. first_of _ _ _ _ e j ∷ ih.children j) ∙ ap (λ k. map (entries hb) (take k (ls ∷ below))) (sym (plus_one (children_in n)));
      numbers = ih.numbers ∙ ap (λ k. take k ss) (sym same_few);
    }
split hb g ((q, false) ∷ qs) below [] le few e = absurd (omega (arith, few, count_by-cons leaf_branch (last_letter q, false) (as_node qs)))
split hb g ((q, false) ∷ qs) below (s ∷ ss) le few e =
    let n = as_node qs in
    let more = count_by-cons leaf_branch (last_letter q, false) n in
    let ih = split hb g qs below ss (omega (arith, le)) (omega (arith, few, more)) (rest_of _ _ _ _ e) in
    let one_more : count_by leaf_branch ((last_letter q, false) ∷ n) ≡ suc (count_by leaf_branch n) = omega (arith, more) in
    record {
      children = ih.children ∙ ap (λ k. map (entries hb) (take k below)) (sym (plus_zero (children_in n)));
      numbers = (λ j. (picks_behind q g ∙ ap (picks []) (first_of _ _ _ _ e)) j ++ ih.numbers j) ∙ ap (λ k. take k (s ∷ ss)) (sym one_more);
    }

map_all : {X Y : Type 0} (f g : X → Y) (xs : List X) → All (λ x. f x ≡ g x) xs → map f xs ≡ map g xs
map_all f g [] h = refl
map_all f g (x ∷ xs) h = (λ j. All-head (λ y. f y ≡ g y) x xs h j ∷ map_all f g xs (All-tail (λ y. f y ≡ g y) x xs h) j)

module _ (hash_bits : ℕ) (ls : List Leaf) (g : List Entry) where
  abbrev pub marked : List ℕ → List (List ℕ × Bool)
  marked p = map (λ (q : List ℕ). (q, is_node ls q)) (branches ls p)

  kids_are : (qs : List (List ℕ)) → kids (map (λ (q : List ℕ). (q, is_node ls q)) qs) ≡ filter (is_node ls) qs
  kids_are [] = refl
  kids_are (q ∷ qs) = (λ j. cond (is_node ls q) (q ∷ kids_are qs j) (kids_are qs j))

  owns_are : (qs : List (List ℕ)) → owns (map (λ (q : List ℕ). (q, is_node ls q)) qs) ≡ filter (λ q. not (is_node ls q)) qs
  owns_are [] = refl
  owns_are (q ∷ qs) = step (is_node ls q) (owns_are qs)
    where
      step : (t : Bool) → owns (map (λ (x : List ℕ). (x, is_node ls x)) qs) ≡ filter (λ x. not (is_node ls x)) qs
          → cond t (owns (map (λ (x : List ℕ). (x, is_node ls x)) qs)) (q ∷ owns (map (λ (x : List ℕ). (x, is_node ls x)) qs))
          ≡ cond (not t) (q ∷ filter (λ x. not (is_node ls x)) qs) (filter (λ x. not (is_node ls x)) qs)
      step true e = e
      step false e = ap (λ (xs : List (List ℕ)). q ∷ xs) e

  node_is : (p : List ℕ) → as_node (marked p) ≡ node_of ls p
  unfolding node_of
  node_is p = map-map (λ (q : List ℕ × Bool). (last_letter q.0, q.1)) (λ (q : List ℕ). (q, is_node ls q)) (branches ls p)

  behind_branch : (p : List ℕ) → All (λ q. behind_string q g ≡ ends_of (last_letter q) (behind_string p g)) (branches ls p)
  unfolding branches
  behind_branch p = All-filter (is_reached ls) (λ q. behind_string q g ≡ ends_of (last_letter q) (behind_string p g)) _
      (All-map (λ q. behind_string q g ≡ ends_of (last_letter q) (behind_string p g)) (λ c. p ++ c ∷ []) letters
      (λ k d h. behind_push p (get_or letters k d) g ∙ ap (λ (c : ℕ). ends_of c (behind_string p g)) (sym (last_letter-push p (get_or letters k d)))))

  behind_branches : (p : List ℕ) → map (λ (q : List ℕ × Bool). behind_string q.0 g) (marked p) ≡ map (λ (b : Branch). ends_of b.0 (behind_string p g)) (node_of ls p)
  unfolding node_of
  behind_branches p =
      map-map (λ (q : List ℕ × Bool). behind_string q.0 g) (λ (q : List ℕ). (q, is_node ls q)) (branches ls p)
      ∙ map_all (λ q. behind_string q g) (λ q. ends_of (last_letter q) (behind_string p g)) (branches ls p) (behind_branch p)
      ∙ sym (map-map (λ (b : Branch). ends_of b.0 (behind_string p g)) (λ (q : List ℕ). (last_letter q, is_node ls q)) (branches ls p))

  -- a level: the groups of its children, and the numbers of its own leaves
  pub record LevelSplit (ps : List (List ℕ)) (ns : List Node) (below : List (List Leaf)) (ss : List ℕ) : Type 0 where
    pub children : map (λ (q : List ℕ). behind_string q g) (filter (is_node ls) (flat_map (branches ls) ps)) ≡ map (entries hash_bits) (take (all_children ns) below)
    pub numbers : flat_map (λ (q : List ℕ). picks q g) (filter (λ q. not (is_node ls q)) (flat_map (branches ls) ps)) ≡ take (leaf_count_of ns) ss

  pub level_split : (ps : List (List ℕ)) (ns : List Node) (below : List (List Leaf)) (ss : List ℕ) → map (node_of ls) ps ≡ ns
      → map (λ (p : List ℕ). behind_string p g) ps ≡ map (entries hash_bits) (level_leaves hash_bits ns below ss)
      → AllByRecursion IsGoodNode ns → all_children ns ≤ length below → leaf_count_of ns ≤ length ss → LevelSplit ps ns below ss
  level_split [] [] below ss e h good le few = record { children = refl; numbers = refl }
  level_split [] (n ∷ ns) below ss e h good le few = absurd cc
  level_split (p ∷ ps) [] below ss e h good le few = absurd cc
  level_split (p ∷ ps) (n ∷ ns) below ss e h good le few =
      let is : node_of ls p ≡ n = first_of (node_of ls p) n (map (node_of ls) ps) ns e in
      let below_too = drop (children_count (n ∷ [])) below in
      let ss_too = drop (leaf_count_of (n ∷ [])) ss in
      let here : behind_string p g ≡ entries hash_bits (node_leaves hash_bits n below ss) = first_of _ _ _ _ h in
      let count = count-append leaf_branch n (all ns) in
      let one : leaf_count_of (n ∷ []) ≡ count_by leaf_branch n = ap (count_by leaf_branch) (append-nil n) in
      let kids_count : children_count (n ∷ []) ≡ children_in n = ap (count_by (λ (b : Branch). b.1)) (append-nil n) ∙ sym (children_in_is n) in
      let node : as_node (marked p) ≡ n = node_is p ∙ is in
      let dealt_is : map (λ (q : List ℕ × Bool). behind_string q.0 g) (marked p) ≡ dealt hash_bits (as_node (marked p)) below ss =
      behind_branches p ∙ (λ j. map (λ (b : Branch). ends_of b.0 (here j)) (is j))
      ∙ behind_letters hash_bits n below ss good.0.order.once (omega (arith, le)) (omega (arith, few, count))
      ∙ ap (λ (m : Node). dealt hash_bits m below ss) (sym node) in
      let s = split hash_bits g (marked p) below ss (omega (arith, le, ap children_in node)) (omega (arith, few, count, ap (count_by leaf_branch) node)) dealt_is in
      let ih = level_split ps ns below_too ss_too (rest_of _ _ _ _ e) (rest_of _ _ _ _ h) good.1 (omega (arith, le, kids_count, length-drop (children_count (n ∷ [])) below)) (omega (arith, few, count, one, length-drop (leaf_count_of (n ∷ [])) ss)) in
      let B : List ℕ → List Entry = λ q. behind_string q g in
      let rest = flat_map (branches ls) ps in
      record {
        children =
            ap (map B) (filter-append (is_node ls) (branches ls p) rest)
            ∙ map-append B (filter (is_node ls) (branches ls p)) (filter (is_node ls) rest)
            ∙ (λ j. (ap (map B) (sym (kids_are (branches ls p))) ∙ s.children ∙ ap (λ k. map (entries hash_bits) (take k below)) (ap children_in node)) j
            ++ (ih.children ∙ ap (λ k. map (entries hash_bits) (take (all_children ns) (drop k below))) kids_count) j)
            ∙ sym (map-append (entries hash_bits) (take (children_in n) below) (take (all_children ns) (drop (children_in n) below)))
            ∙ ap (map (entries hash_bits)) (sym (take-add (children_in n) (all_children ns) below));
        numbers =
            ap (flat_map (λ (q : List ℕ). picks q g)) (filter-append (λ q. not (is_node ls q)) (branches ls p) rest)
            ∙ flat_map-append (λ (q : List ℕ). picks q g) (filter (λ q. not (is_node ls q)) (branches ls p)) (filter (λ q. not (is_node ls q)) rest)
            ∙ (λ j. (ap (flat_map (λ (q : List ℕ). picks q g)) (sym (owns_are (branches ls p))) ∙ s.numbers ∙ ap (λ k. take k ss) (ap (count_by leaf_branch) node)) j
            ++ (ih.numbers ∙ ap (λ k. take (leaf_count_of ns) (drop k ss)) one) j)
            ∙ sym (take-add (count_by leaf_branch n) (leaf_count_of ns) ss)
            ∙ ap (λ k. take k ss) (sym count);
      }

-- ---- all levels

are_drop : (k : ℕ) (levels : List (List Node)) → AreLevels levels → AreLevels (drop k levels)
are_drop zero levels a = a
are_drop (suc k) [] a = tt
are_drop (suc k) (l ∷ levels) a = are_drop k levels a.2

length-level : (hash_bits : ℕ) (ns : List Node) (below : List (List Leaf)) (ss : List ℕ) → length (level_leaves hash_bits ns below ss) ≡ length ns
length-level hb [] below ss = refl
length-level hb (n ∷ ns) below ss = omega (arith, length-level hb ns (drop (children_count (n ∷ [])) below) (drop (leaf_count_of (n ∷ [])) ss))

pub length-behind : (hash_bits : ℕ) (levels : List (List Node)) (ss : List ℕ) → length (leaves_behind hash_bits levels ss) ≡ length (gather levels)
length-behind hb [] ss = refl
length-behind hb (l ∷ levels) ss = length-level hb l _ ss ∙ sym (length-raise l (gather levels))

flat_split : (k : ℕ) (levels : List (List Node)) → flat (take k levels) ++ flat (drop k levels) ≡ flat levels
flat_split zero levels = refl
flat_split (suc k) [] = refl
flat_split (suc k) (l ∷ levels) = append_assoc l (flat (take k levels)) (flat (drop k levels)) ∙ ap (λ (ns : List Node). l ++ ns) (flat_split k levels)

leaves-append : (xs ys : List Node) → leaf_count_of (xs ++ ys) ≡ leaf_count_of xs + leaf_count_of ys
leaves-append xs ys = ap (count_by leaf_branch) (flat_map-append (λ (n : Node). n) xs ys) ∙ count-append leaf_branch (all xs) (all ys)

module _ (hash_bits : ℕ) (ls : List Leaf) (levels : List (List Node)) (ss : List ℕ) (a : AreLevels levels) (gathered : gather levels ≡ map path ls ∷ [])
    (root : leaves_behind hash_bits levels ss ≡ ls ∷ []) (enough : leaf_count_of (flat levels) ≤ length ss) where
  abbrev G : List Entry
  G = entries hash_bits ls

  abbrev before : ℕ → ℕ
  before k = leaf_count_of (flat (take k levels))

  abbrev IsAt : ℕ → Type 0
  IsAt k = map (λ (p : List ℕ). behind_string p (entries hash_bits ls)) (level ls k)
      ≡ map (entries hash_bits) (leaves_behind hash_bits (drop k levels) (drop (leaf_count_of (flat (take k levels))) ss))

  next_before : (k : ℕ) → before (suc k) ≡ before k + leaf_count_of (get_or levels k [])
  next_before k = ap leaf_count_of (sym (flat_take k levels)) ∙ leaves-append (flat (take k levels)) (get_or levels k [])

  before-le : (k : ℕ) → before k ≤ leaf_count_of (flat levels)
  before-le k = omega (arith, ap leaf_count_of (flat_split k levels), leaves-append (flat (take k levels)) (flat (drop k levels)))

  this_level : (k : ℕ) → k < length levels → IsAt k
      → LevelSplit hash_bits ls G (level ls k) (get_or levels k []) (leaves_behind hash_bits (drop (suc k) levels) (drop (leaf_count_of (get_or levels k [])) (drop (before k) ss))) (drop (before k) ss)
  this_level k lt at =
      let N = get_or levels k [] in
      let cut : drop k levels ≡ N ∷ drop (suc k) levels = drop-cons levels k [] lt in
      let here : AreLevels (N ∷ drop (suc k) levels) = subst AreLevels cut (are_drop k levels a) in
      let s = drop (before k) ss in
      level_split hash_bits ls G (level ls k) N (leaves_behind hash_bits (drop (suc k) levels) (drop (leaf_count_of N) s)) s
      (read_back ls levels k a gathered) (at ∙ ap (λ (more : List (List Node)). map (entries hash_bits) (leaves_behind hash_bits more s)) cut)
      here.0 (omega (arith, here.1, length-behind hash_bits (drop (suc k) levels) (drop (leaf_count_of N) s)))
      (omega (arith, length-drop (before k) ss, next_before k, before-le (suc k), enough))

  is_at : (k : ℕ) → k ≤ length levels → IsAt k
  unfolding level
  is_at zero le = ap (map (entries hash_bits)) (sym root)
  is_at (suc k) le =
      let N = get_or levels k [] in
      let cut : drop k levels ≡ N ∷ drop (suc k) levels = drop-cons levels k [] (omega (arith, le)) in
      let here : AreLevels (N ∷ drop (suc k) levels) = subst AreLevels cut (are_drop k levels a) in
      let s = drop (before k) ss in
      let below = leaves_behind hash_bits (drop (suc k) levels) (drop (leaf_count_of N) s) in
      (this_level k (omega (arith, le)) (is_at k (omega (arith, le)))).children
      ∙ ap (map (entries hash_bits)) (take_all (all_children N) below (omega (arith, here.1, length-behind hash_bits (drop (suc k) levels) (drop (leaf_count_of N) s)))
      ∙ ap (leaves_behind hash_bits (drop (suc k) levels)) (drop-drop (leaf_count_of N) (before k) ss ∙ ap (λ n. drop n ss) (sym (next_before k))))

  slot_numbers : (n : ℕ) → n ≤ length levels
      → flat_map (λ (q : List ℕ). picks q (entries hash_bits ls)) (filter (λ q. not (is_node ls q)) (flat_map (branches ls) (nodes_to ls n))) ≡ take (leaf_count_of (flat (take n levels))) ss
  unfolding nodes_to
  slot_numbers zero le = refl
  slot_numbers (suc n) le =
      let P : List (List ℕ) → List (List ℕ) = λ qs. filter (λ q. not (is_node ls q)) qs in
      let F : List (List ℕ) → List ℕ = λ qs. flat_map (λ (q : List ℕ). picks q (entries hash_bits ls)) qs in
      let l = this_level n (omega (arith, le)) (is_at n (omega (arith, le))) in
      ap (λ (qs : List (List ℕ)). F (P qs)) (flat_map-append (branches ls) (nodes_to ls n) (level ls n))
      ∙ ap F (filter-append (λ q. not (is_node ls q)) (flat_map (branches ls) (nodes_to ls n)) (flat_map (branches ls) (level ls n)))
      ∙ flat_map-append (λ (q : List ℕ). picks q (entries hash_bits ls)) (P (flat_map (branches ls) (nodes_to ls n))) (P (flat_map (branches ls) (level ls n)))
      ∙ (λ j. slot_numbers n (omega (arith, le)) j ++ l.numbers j)
      ∙ sym (take-add (before n) (leaf_count_of (get_or levels n [])) ss)
      ∙ ap (λ k. take k ss) (sym (next_before n))

  pub all_numbers : height ls ≡ length levels → length ss ≡ leaf_count_of (flat levels) → flat_map (λ (q : List ℕ). picks q (entries hash_bits ls)) (slots ls) ≡ ss
  unfolding slots places nodes
  all_numbers high exact =
      ap (λ n. flat_map (λ (q : List ℕ). picks q (entries hash_bits ls)) (filter (λ q. not (is_node ls q)) (flat_map (branches ls) (nodes_to ls n)))) high
      ∙ slot_numbers (length levels) (omega arith)
      ∙ take_all (leaf_count_of (flat (take (length levels) levels))) ss (omega (arith, exact, ap (λ xs. leaf_count_of (flat xs)) (take_all (length levels) levels (omega arith))))
