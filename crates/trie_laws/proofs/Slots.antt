-- Each leaf has one slot, and each slot one leaf.
use Rattle.std.proofs.Common.{◌≡◌, ℕ, zero, suc, ◌-◌, ◌<◌, ◌≤◌, ◌==◌, Bool, true, List, [], ◌∷◌, ◌++◌, length, get_or, map, refl, ap, subst, sym, ◌∙◌, arith, inl, inr}
use Rattle.std.specs.Prelude.{filter, flat_map, not}
use Rattle.std.specs.List.{All, AllPairs, Contains}
use Rattle.std.proofs.lemmas.Bool.{and_parts, and_from, cases_lt, eqb-true, false≢true, not-true}
use Rattle.std.proofs.lemmas.List.{get_or-map, length-map, map-append}
use Rattle.std.proofs.lemmas.List.Concat.{flat_map-append}
use Rattle.std.proofs.lemmas.List.Elements.{Contains-append_cases, Contains-append_left, Contains-append_right, Contains-get_or, filter_passes}
use Rattle.std.proofs.lemmas.List.Sums.{length-filter}
use Rattle.filter_model.specs.Image.{in_slots}
use Rattle.filter_model.specs.Leaves.{Leaf}
use Rattle.filter_model.specs.Strings.{extends, is_prefix, bytes_eq}
use Rattle.filter_model.specs.Trie.{branches, height, is_node, is_reached, level, nodes, nodes_to, path, places, slots}
use Rattle.filter_model.proofs.Counts.{count_one, one_kept}
use Rattle.filter_model.proofs.Fronts.{same-itself, same-true}
use Rattle.filter_model.proofs.Pairs.{AllPairs-append, AllPairs-filter, AllPairs-nil, Contains-filter, Contains-filter_back, Contains-first, Contains-map, Contains-nil}
use Rattle.filter_model.proofs.Stubs.{Contains-more}
use Rattle.trie_levels.specs.Neighbours.{level_branches}
use Rattle.trie_levels.specs.Tries.{HasTrie}
use Rattle.trie_levels.proofs.Distinct.{Apart, distinct_le}
use Rattle.trie_levels.proofs.Growth.{AreInOrder, branches_once, path_filled}
use Rattle.trie_levels.proofs.Totals.{in_order}
use Rattle.trie_laws.specs.Leaves.{LeavesHaveSlots}
use Rattle.trie_laws.proofs.Paths.{any_leaf, path_high, path_node, path_reached, paths_are_no_nodes, paths_are_prefix_free, prefix_itself, reached_by}

-- ---- the places of the first n levels

abbrev pub places_to : List Leaf → ℕ → List (List ℕ)
places_to ls n = flat_map (branches ls) (nodes_to ls n)

pub record ArePlaces (ls : List Leaf) (n : ℕ) (qs : List (List ℕ)) : Type 0 where
  pub distinct : AllPairs Apart qs
  pub sound : (q : List ℕ) → Contains qs q → (length q ≤ n) × (is_reached ls q ≡ true)
  pub complete : (q : List ℕ) (m : ℕ) → length q ≡ suc m → m < n → is_reached ls q ≡ true → Contains qs q

pub are_places : (ls : List Leaf) (n : ℕ) → AreInOrder ls → ArePlaces ls n (places_to ls n)
unfolding nodes_to level_branches
are_places ls zero h = record {
  distinct = AllPairs-nil Apart;
  sound = λ q c. absurd (Contains-nil q c);
  complete = λ q m long lt e. absurd (omega arith);
}
are_places ls (suc n) h =
    let ih = are_places ls n h in
    let b = branches_once ls n h in
    let before = places_to ls n in
    let here = flat_map (branches ls) (level ls n) in
    subst (ArePlaces ls (suc n)) (sym (flat_map-append (branches ls) (nodes_to ls n) (level ls n))) (record {
      distinct = AllPairs-append Apart before here ih.distinct b.distinct (λ x y in_x in_y same.
          omega (arith, (ih.sound x in_x).0, (b.sound y in_y).0, ap (length {A = ℕ}) same));
      sound = λ q c. elim (Contains-append_cases before here q c) [
        | inl old ↦ let r = ih.sound q old in (omega (arith, r.0), r.1)
        | inr new ↦ let r = b.sound q new in (omega (arith, r.0), r.1)
      ];
      complete = λ q m long lt e. elim (cases_lt m n) [
        | inl old ↦ Contains-append_left before here q (ih.complete q m long old e)
        | inr new ↦ Contains-append_right before here q (b.complete q (omega (arith, long, lt, new)) e)
      ];
    })

-- ---- a slot is a leaf's path

pub prefix_whole : (q p : List ℕ) → is_prefix q p ≡ true → (extends q p ≡ true → ⊥) → q ≡ p
prefix_whole [] [] e h = refl
prefix_whole [] (b ∷ p) e h = absurd (h refl)
prefix_whole (a ∷ q) [] e h = absurd (false≢true e)
prefix_whole (a ∷ q) (b ∷ p) e h =
    let parts = and_parts (a == b) (is_prefix q p) e in
    λ i. eqb-true a b parts.0 i ∷ prefix_whole q p parts.1 (λ k. h (and_from (a == b) (extends q p) parts.0 k)) i

-- the leaf of a slot
record IsPathAt (ls : List Leaf) (q : List ℕ) : Type 0 where
  at : ℕ
  within : at < length ls
  is : q ≡ path (get_or ls at any_leaf)

slot_is_path : (ls : List Leaf) (q : List ℕ) → AreInOrder ls → Contains (slots ls) q → IsPathAt ls q
unfolding slots places nodes
slot_is_path ls q h c =
    let kept = Contains-filter_back (λ q. not (is_node ls q)) (places_to ls (height ls)) q c in
    let reached = ((are_places ls (height ls) h).sound q kept.0).1 in
    let by = reached_by ls any_leaf q reached in
    record {
      at = by.0;
      within = by.1;
      is = prefix_whole q (path (get_or ls by.0 any_leaf)) by.2 (λ e. false≢true (sym (not-true (is_node ls q) kept.1) ∙ path_node ls by.0 any_leaf q by.1 e));
    }

path_is_slot : (ls : List Leaf) → HasTrie ls → All (λ l. Contains (slots ls) (path l)) ls
unfolding slots places nodes
path_is_slot ls t i d il =
    let p = path (get_or ls i d) in
    let filled = path_filled (get_or ls i d) ((in_order ls t).filled i d il) in
    let long : length p ≡ suc (length p - 1) = omega (arith, filled) in
    Contains-filter (λ q. not (is_node ls q)) (places_to ls (height ls)) p
    ((are_places ls (height ls) (in_order ls t)).complete p (length p - 1) long (omega (arith, filled, path_high ls i d il)) (path_reached ls i d p il (prefix_itself p)))
    (ap not (paths_are_no_nodes ls t i d il))

slots_once : (ls : List Leaf) → AreInOrder ls → AllPairs Apart (slots ls)
unfolding slots places nodes
slots_once ls h = AllPairs-filter Apart (λ q. not (is_node ls q)) (places_to ls (height ls)) (are_places ls (height ls) h).distinct

-- ---- the leaves in the order of their slots

single : {X : Type 0} (xs : List X) (d : X) → length xs ≡ 1 → xs ≡ get_or xs 0 d ∷ []
single [] d e = absurd (omega arith)
single (x ∷ []) d e = refl
single (x ∷ y ∷ xs) d e = absurd (omega arith)

leaf_at_slot : (ls : List Leaf) (q : List ℕ) → HasTrie ls → IsPathAt ls q → map path (filter (λ l. bytes_eq (path l) q) ls) ≡ q ∷ []
leaf_at_slot ls q t p =
    let test : Leaf → Bool = λ l. bytes_eq (path l) q in
    let passes : test (get_or ls p.at any_leaf) ≡ true = ap (bytes_eq (path (get_or ls p.at any_leaf))) p.is ∙ same-itself (path (get_or ls p.at any_leaf)) in
    let some = one_kept test ls p.at any_leaf p.within passes in
    let one = count_one test ls (λ i j d before within e f.
    let alike : path (get_or ls i d) ≡ path (get_or ls j d) = same-true (path (get_or ls i d)) q e ∙ sym (same-true (path (get_or ls j d)) q f) in
    false≢true (sym (paths_are_prefix_free ls t i j d before within).first ∙ ap (is_prefix (path (get_or ls i d))) (sym alike) ∙ prefix_itself (path (get_or ls i d)))) in
    let size : length (filter test ls) ≡ 1 = omega (arith, length-filter test ls, some, one) in
    let first = get_or (filter test ls) 0 any_leaf in
    ap (map path) (single (filter test ls) any_leaf size)
    ∙ ap (λ (x : List ℕ). x ∷ []) (same-true (path first) q (filter_passes test ls 0 any_leaf (omega (arith, size))))

flat_back : {X Y : Type 0} (g : Y → X) (f : X → List Y) (xs : List X) → ((x : X) → Contains xs x → map g (f x) ≡ x ∷ []) → map g (flat_map f xs) ≡ xs
flat_back g f [] h = refl
flat_back {X} g f (x ∷ xs) h =
    map-append g (f x) (flat_map f xs)
    ∙ (λ i. h x (Contains-first x xs) i ++ flat_back g f xs (λ y c. h y (Contains-more x xs y c)) i)

pub leaves_in_slots : (ls : List Leaf) → HasTrie ls → map path (in_slots ls) ≡ slots ls
unfolding in_slots
leaves_in_slots ls t = flat_back path (λ q. filter (λ l. bytes_eq (path l) q) ls) (slots ls) (λ q c. leaf_at_slot ls q t (slot_is_path ls q (in_order ls t) c))

-- ---- as many

paths_once : (ls : List Leaf) → HasTrie ls → AllPairs Apart (map path ls)
paths_once ls t i j d before within same =
    let size = length-map ls path in
    let jl : j < length ls = omega (arith, size, within) in
    let p = path (get_or ls i any_leaf) in
    let alike : p ≡ path (get_or ls j any_leaf) = sym (get_or-map path ls i any_leaf d (omega (arith, jl, before))) ∙ same ∙ get_or-map path ls j any_leaf d jl in
    false≢true (sym (paths_are_prefix_free ls t i j any_leaf before jl).first ∙ ap (is_prefix p) (sym alike) ∙ prefix_itself p)

as_many : (ls : List Leaf) → HasTrie ls → length (slots ls) ≡ length ls
as_many ls t =
    let up = distinct_le (slots ls) (map path ls) (slots_once ls (in_order ls t)) (λ q c.
    let p = slot_is_path ls q (in_order ls t) c in
    subst (Contains (map path ls)) (sym p.is) (Contains-map path ls (get_or ls p.at any_leaf) (Contains-get_or ls p.at any_leaf p.within))) in
    let down = distinct_le (map path ls) (slots ls) (paths_once ls t) (λ q c.
    let il : c.0 < length ls = omega (arith, length-map ls path, c.1) in
    subst (Contains (slots ls)) (sym (get_or-map path ls c.0 any_leaf q il) ∙ c.2) (path_is_slot ls t c.0 any_leaf il)) in
    omega (arith, up, down, length-map ls path)

pub leaves_have_slots : LeavesHaveSlots
leaves_have_slots ls t = record {
  leaf_of_slot = leaves_in_slots ls t;
  slot_of_leaf = path_is_slot ls t;
  once = slots_once ls (in_order ls t);
  as_many = as_many ls t;
}
