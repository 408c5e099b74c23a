-- Places in the one list of nodes, and what stands there.
use Rattle.std.proofs.Common.{◌≡◌, ℕ, suc, ◌+◌, ◌-◌, ◌<◌, ◌≤◌, List, [], ◌∷◌, ◌++◌, length, get_or, take, refl, ap, sym, ◌∙◌, arith, map, Bool, true, false, cond, inl, inr, length-append}
use Rattle.std.specs.Prelude.{flat_map, filter, count_by, All, not}
use Rattle.std.proofs.lemmas.List.{take-map, length-map, map-append, get_or-map, append-nil, take_more, length_push, get_or_push}
use Rattle.std.proofs.lemmas.List.Concat.{flat_map-append, get_or-flat_map}
use Rattle.std.proofs.lemmas.List.Elements.{All-filter, All-map}
use Rattle.std.proofs.lemmas.List.Sums.{sum_by-cons}
use Rattle.std.proofs.lemmas.List.FromFn.{length-range_with_len, get_or-range_with_len}
use Rattle.std.proofs.lemmas.List.Folds.{length-flat_map-take}
use Rattle.std.proofs.lemmas.Bool.{cases_eq}
use Rattle.filter_model.specs.Leaves.{Leaf}
use Rattle.filter_model.specs.Trie.{is_node, is_reached, branches, nodes, places, letters, height, slots}
use Rattle.filter_model.specs.Nodes.{Branch, all, first_place, at, children_before, leaves_before, node_of, trie_of, last_letter}
use Rattle.trie_laws.proofs.Lists.{kept_at, kept_within}
use Rattle.trie_laws.proofs.NodeLists.{nodes_is}

-- what stands at a place, of the branch that leads to q
abbrev pub branch_of : List Leaf → List ℕ → Branch
branch_of ls q = (last_letter q, is_node ls q)

map-flat_map : {X Y A : Type 0} (f : X → List Y) (g : Y → A) (xs : List X) → flat_map (λ (n : List A). n) (map (λ (x : X). map g (f x)) xs) ≡ map g (flat_map f xs)
map-flat_map f g [] = refl
map-flat_map f g (x ∷ xs) = ap (λ y. map g (f x) ++ y) (map-flat_map f g xs) ∙ sym (map-append g (f x) (flat_map f xs))

pub count_by-map : {X Y : Type 0} (p : Y → Bool) (g : X → Y) (xs : List X) → count_by p (map g xs) ≡ count_by (λ x. p (g x)) xs
count_by-map p g [] = refl
count_by-map p g (x ∷ xs) =
    let a = sum_by-cons (λ y. cond (p y) 1 0) (g x) (map g xs) in
    let b = sum_by-cons (λ y. cond (p (g y)) 1 0) x xs in
    let ih = count_by-map p g xs in
    a ∙ ap (λ n. cond (p (g x)) 1 0 + n) ih ∙ sym b

pub last_letter-push : (p : List ℕ) (c : ℕ) → last_letter (p ++ c ∷ []) ≡ c
last_letter-push p c = get_or_push p c 0 (length (p ++ c ∷ []) - 1) (let e = length_push p c in omega arith)

last_of : (p : List ℕ) (c : ℕ) → p ++ c ∷ [] ≡ p ++ last_letter (p ++ c ∷ []) ∷ []
last_of p c = ap (λ (d : ℕ). p ++ d ∷ []) (sym (last_letter-push p c))

-- each letter has its place among the letters
letter_index : (c : ℕ) → c ≤ 256 → (i : ℕ) × (i < length letters) × (get_or letters i 0 ≡ c)
unfolding letters
letter_index c h = elim (cases_eq c 256) [
  | inl e ↦ (0, omega (arith, length-range_with_len 0 256), sym e)
  | inr n ↦ (suc c, omega (arith, length-range_with_len 0 256), get_or-range_with_len 0 256 c 0 (omega arith) ∙ omega arith)
]

module _ (ls : List Leaf) where
  -- the branches of the trie_of list are those of the places
  pub all-trie_of : all (trie_of ls) ≡ map (branch_of ls) (places ls)
  unfolding trie_of node_of places
  all-trie_of = map-flat_map (branches ls) (branch_of ls) (nodes ls)

  pub length-trie_of : length (trie_of ls) ≡ length (nodes ls)
  unfolding trie_of
  length-trie_of = length-map (nodes ls) (node_of ls)

  pub length-all : length (all (trie_of ls)) ≡ length (places ls)
  length-all = ap length all-trie_of ∙ length-map (places ls) (branch_of ls)

  -- at a place stands the branch to that place's string
  pub at-trie_of : (p : ℕ) → p < length (places ls) → at (trie_of ls) p ≡ branch_of ls (get_or (places ls) p [])
  at-trie_of p l = rw all-trie_of (get_or-map (branch_of ls) (places ls) p [] (0, false) l)

  -- node v begins behind the branches of the nodes before it
  pub first-trie_of : (v : ℕ) → first_place (trie_of ls) v ≡ length (flat_map (branches ls) (take v (nodes ls)))
  unfolding trie_of node_of
  first-trie_of v = ap (λ ns. length (all ns)) (take-map (node_of ls) v (nodes ls)) ∙ ap length (map-flat_map (branches ls) (branch_of ls) (take v (nodes ls))) ∙ length-map _ (branch_of ls)

  pub first-suc : (v : ℕ) → v < length (nodes ls) → first_place (trie_of ls) (v + 1) ≡ first_place (trie_of ls) v + length (branches ls (get_or (nodes ls) v []))
  first-suc v l =
      first-trie_of (v + 1)
      ∙ ap (λ ns. length (flat_map (branches ls) ns)) (take_more (nodes ls) v [] l)
      ∙ ap length (flat_map-append (branches ls) (take v (nodes ls)) (get_or (nodes ls) v [] ∷ []))
      ∙ length-append (flat_map (branches ls) (take v (nodes ls))) _
      ∙ ap (λ ps. length (flat_map (branches ls) (take v (nodes ls))) + length ps) (append-nil (branches ls (get_or (nodes ls) v [])))
      ∙ ap (λ n. n + length (branches ls (get_or (nodes ls) v []))) (sym (first-trie_of v))

  pub children-trie_of : (p : ℕ) → children_before (trie_of ls) p ≡ count_by (is_node ls) (take p (places ls))
  children-trie_of p = rw all-trie_of (ap (count_by (λ (b : Branch). b.1)) (take-map (branch_of ls) p (places ls)) ∙ count_by-map (λ (b : Branch). b.1) (branch_of ls) (take p (places ls)))

  -- the child of a branch is the node whose number is the count of branches with a child up to it
  pub child-trie_of : (p : ℕ) → 0 < height ls → p < length (places ls) → is_node ls (get_or (places ls) p []) ≡ true
      → get_or (nodes ls) (suc (children_before (trie_of ls) p)) [] ≡ get_or (places ls) p []
  child-trie_of p h l e = rw (children-trie_of p, nodes_is ls h) (kept_at (is_node ls) (places ls) p [] l e)

  pub child_within : (p : ℕ) → 0 < height ls → p < length (places ls) → is_node ls (get_or (places ls) p []) ≡ true
      → suc (children_before (trie_of ls) p) < length (nodes ls)
  child_within p h l e = let in' = kept_within (is_node ls) (places ls) p [] l e in rw (children-trie_of p, nodes_is ls h) (omega arith)

  -- the places of a node are its branches
  pub place_at : (v j : ℕ) → v < length (nodes ls) → j < length (branches ls (get_or (nodes ls) v []))
      → get_or (places ls) (first_place (trie_of ls) v + j) [] ≡ get_or (branches ls (get_or (nodes ls) v [])) j []
  unfolding places
  place_at v j l m = rw (first-trie_of v) (get_or-flat_map (branches ls) (nodes ls) v j [] [] l m)

  -- no node reaches past the last place
  whole_length : (v : ℕ) → v < length (nodes ls) → length (flat_map (branches ls) (take v (nodes ls))) + length (branches ls (get_or (nodes ls) v [])) ≤ length (places ls)
  unfolding places
  whole_length v l = length-flat_map-take (branches ls) (nodes ls) v [] l

  pub first_within : (v : ℕ) → v < length (nodes ls) → first_place (trie_of ls) (v + 1) ≤ length (places ls)
  first_within v l = omega (arith, first-trie_of v, first-suc v l, whole_length v l)

  -- each branch of p is p and its last letter
  pub branches_form : (p : List ℕ) → All (λ q. q ≡ p ++ last_letter q ∷ []) (branches ls p)
  unfolding branches
  branches_form p = All-filter (is_reached ls) (λ q. q ≡ p ++ last_letter q ∷ []) _
      (All-map (λ q. q ≡ p ++ last_letter q ∷ []) (λ c. p ++ c ∷ []) letters (λ k d h. last_of p (get_or letters k d)))

  -- so at a place of node v stands the node's string and the branch's letter
  pub place_in : (v p : ℕ) → v < length (nodes ls) → first_place (trie_of ls) v ≤ p → p < first_place (trie_of ls) (v + 1)
      → get_or (places ls) p [] ≡ get_or (nodes ls) v [] ++ (at (trie_of ls) p).0 ∷ []
  place_in v p l from to =
      let q = get_or (places ls) p [] in
      let j = p - first_place (trie_of ls) v in
      let m : j < length (branches ls (get_or (nodes ls) v [])) = omega (arith, first-suc v l) in
      let e : first_place (trie_of ls) v + j ≡ p = omega arith in
      let here : q ≡ get_or (branches ls (get_or (nodes ls) v [])) j [] = ap (λ k. get_or (places ls) k []) (sym e) ∙ place_at v j l m in
      let form : q ≡ get_or (nodes ls) v [] ++ last_letter q ∷ [] = rw here (branches_form (get_or (nodes ls) v []) j [] m) in
      let in' : p < length (places ls) = omega (arith, first_within v l) in
      form ∙ ap (λ (b : Branch). get_or (nodes ls) v [] ++ b.0 ∷ []) (sym (at-trie_of p in'))

  pub branch_with : (p : List ℕ) (c : ℕ) → c ≤ 256 → is_reached ls (p ++ c ∷ []) ≡ true → (j : ℕ) × (j < length (branches ls p)) × (get_or (branches ls p) j [] ≡ p ++ c ∷ [])
  unfolding branches
  branch_with p c h e =
      let found = letter_index c h in
      let i = found.0 in
      let qs = map (λ (d : ℕ). p ++ d ∷ []) letters in
      let l : i < length qs = omega (arith, found.1, length-map letters (λ (d : ℕ). p ++ d ∷ [])) in
      let there : get_or qs i [] ≡ p ++ c ∷ [] = get_or-map (λ (d : ℕ). p ++ d ∷ []) letters i 0 [] found.1 ∙ ap (λ (d : ℕ). p ++ d ∷ []) found.2 in
      let passes : is_reached ls (get_or qs i []) ≡ true = ap (is_reached ls) there ∙ e in
      (count_by (is_reached ls) (take i qs), kept_within (is_reached ls) qs i [] l passes, kept_at (is_reached ls) qs i [] l passes ∙ there)

  -- each letter by which the node goes on has a place
  pub place_of : (v c : ℕ) → v < length (nodes ls) → c ≤ 256 → is_reached ls (get_or (nodes ls) v [] ++ c ∷ []) ≡ true
      → (p : ℕ) × (first_place (trie_of ls) v ≤ p) × (p < first_place (trie_of ls) (v + 1)) × ((at (trie_of ls) p).0 ≡ c)
  place_of v c l c256 e =
      let found = branch_with (get_or (nodes ls) v []) c c256 e in
      let p = first_place (trie_of ls) v + found.0 in
      let up : p < first_place (trie_of ls) (v + 1) = omega (arith, first-suc v l, found.1) in
      let in' : p < length (places ls) = omega (arith, first_within v l) in
      let here : get_or (places ls) p [] ≡ get_or (nodes ls) v [] ++ c ∷ [] = place_at v found.0 l found.1 ∙ found.2 in
      (p, omega arith, up, ap (λ (b : Branch). b.0) (at-trie_of p in') ∙ ap last_letter here ∙ last_letter-push (get_or (nodes ls) v []) c)

-- the slot of a leaf is the number of leaves before it
pub slot-counted : (ls : List Leaf) (p : ℕ) → p < length (places ls) → is_node ls (get_or (places ls) p []) ≡ false
    → get_or (slots ls) (leaves_before (trie_of ls) p) [] ≡ get_or (places ls) p []
unfolding slots
slot-counted ls p l e =
    let test = λ (q : List ℕ). not (is_node ls q) in
    let counted : leaves_before (trie_of ls) p ≡ count_by test (take p (places ls)) =
    ap (λ (bs : List Branch). count_by (λ (b : Branch). not b.1) (take p bs)) (all-trie_of ls)
    ∙ ap (count_by (λ (b : Branch). not b.1)) (take-map (branch_of ls) p (places ls)) ∙ count_by-map (λ (b : Branch). not b.1) (branch_of ls) (take p (places ls)) in
    ap (λ n. get_or (filter test (places ls)) n []) counted ∙ kept_at test (places ls) p [] l (ap not e)
