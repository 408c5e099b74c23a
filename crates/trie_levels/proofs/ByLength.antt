-- The slots, by the length of the paths.
use Rattle.std.proofs.Common.{◌≡◌, ◌==◌, ℕ, zero, suc, List, [], ◌∷◌, ◌++◌, Bool, true, false, length, take, map, refl, sym, ap, subst, ◌∙◌, arith, inl, inr}
use Rattle.std.specs.Prelude.{filter, flat_map, not}
use Rattle.std.specs.List.{Contains}
use Rattle.std.proofs.lemmas.Bool.{cases_eq, cases_lt, eq-eqb, false_from_ne_true, false≢true, ne_eqb}
use Rattle.std.proofs.lemmas.List.{map-append, take_all}
use Rattle.std.proofs.lemmas.List.Concat.{flat_map-append}
use Rattle.std.proofs.lemmas.List.Elements.{Contains-append_cases, filter-append}
use Rattle.filter_model.specs.Image.{in_slots}
use Rattle.filter_model.specs.Leaves.{Leaf}
use Rattle.filter_model.specs.Strings.{is_prefix, bytes_eq}
use Rattle.filter_model.specs.Trie.{branches, height, is_node, is_reached, level, nodes, nodes_to, path, places, slots}
use Rattle.filter_model.proofs.Fronts.{same-itself, same-true}
use Rattle.filter_model.proofs.Pairs.{Contains-cases, Contains-filter_back, Contains-first, Contains-nil}
use Rattle.filter_model.proofs.Shared.{is_prefix-take}
use Rattle.filter_model.proofs.Stubs.{Contains-more}
use Rattle.trie_levels.specs.Neighbours.{level_branches}
use Rattle.trie_levels.specs.Spans.{SlotsGoByLength, by_length}
use Rattle.trie_levels.proofs.Closing.{filter_no, filter_same, filter_yes, flag_kept, goes_on_further, level_branches-is, level_steps, path_is_no_node, reached_in}
use Rattle.trie_levels.proofs.Growth.{AreInOrder, branches_once, in_order-tail, leaves_rest, shared_first}
use Rattle.trie_levels.proofs.LastBelow.{no_branch}
use Rattle.trie_levels.proofs.Totals.{in_order}

abbrev leaf_test : List Leaf → List ℕ → Bool
leaf_test ls q = not (is_node ls q)

abbrev ends_on : ℕ → Leaf → Bool
ends_on n l = length (path l) == suc n

-- the branches of the others stay leaves or nodes
same_leaves : (l : Leaf) (ls : List Leaf) (n : ℕ) → AreInOrder (l ∷ ls) → filter (leaf_test (l ∷ ls)) (level_branches ls n) ≡ filter (leaf_test ls) (level_branches ls n)
same_leaves l ls n h =
    filter_same (leaf_test (l ∷ ls)) (leaf_test ls) (level_branches ls n) (λ r c.
    let is = (branches_once ls n (in_order-tail l ls h)).sound r c in
    ap not (flag_kept l ls (shared_first l ls) r (leaves_rest l ls h) (omega (arith, is.0)) is.1))

-- the branches of a level that are leaves
pub ending : (ls : List Leaf) (n : ℕ) → AreInOrder ls → filter (leaf_test ls) (level_branches ls n) ≡ map path (filter (ends_on n) ls)
ending [] n h = ap (filter (leaf_test [])) (no_branch n)
ending (l ∷ ls) n h =
    let v = leaves_rest l ls h in
    let step = (level_steps l ls n h).1 in
    let rest = same_leaves l ls n h ∙ ending ls n (in_order-tail l ls h) in
    elim (cases_eq (length (path l)) (suc n)) [
      | inl last ↦
          let whole : take (suc n) (path l) ≡ path l = take_all (suc n) (path l) (omega arith) in
          ap (filter (leaf_test (l ∷ ls))) (step.new (omega (arith, last, v.inside)) (omega (arith, last)))
          ∙ filter_yes (leaf_test (l ∷ ls)) (take (suc n) (path l)) (level_branches ls n) (ap (leaf_test (l ∷ ls)) whole ∙ ap not (path_is_no_node l ls (shared_first l ls) h v))
          ∙ (λ i. whole i ∷ rest i)
          ∙ ap (map path) (sym (filter_yes (ends_on n) l ls (eq-eqb (length (path l)) (suc n) last)))
      | inr other ↦
          let dropped = ap (map path) (sym (filter_no (ends_on n) l ls (ne_eqb (length (path l)) (suc n) other))) in
          elim (cases_lt n (length (path l))) [
            | inr past ↦ ap (filter (leaf_test (l ∷ ls))) (step.past past) ∙ rest ∙ dropped
            | inl within ↦ elim (cases_lt n (shared_first l ls)) [
              | inl less ↦ ap (filter (leaf_test (l ∷ ls))) (step.shared less) ∙ rest ∙ dropped
              | inr from ↦
                  ap (filter (leaf_test (l ∷ ls))) (step.new from within)
                  ∙ filter_no (leaf_test (l ∷ ls)) (take (suc n) (path l)) (level_branches ls n) (ap not (goes_on_further l ls (suc n) (omega (arith, within, other))))
                  ∙ rest ∙ dropped
            ]
          ]
    ]

places_by_length : (ls : List Leaf) (n : ℕ) → AreInOrder ls → filter (leaf_test ls) (flat_map (branches ls) (nodes_to ls n)) ≡ map path (by_length n ls)
unfolding nodes_to
places_by_length ls zero h = refl
places_by_length ls (suc n) h =
    ap (filter (leaf_test ls)) (flat_map-append (branches ls) (nodes_to ls n) (level ls n))
    ∙ filter-append (leaf_test ls) (flat_map (branches ls) (nodes_to ls n)) (flat_map (branches ls) (level ls n))
    ∙ (λ i. places_by_length ls n h i ++ (ap (filter (leaf_test ls)) (sym (level_branches-is ls n)) ∙ ending ls n h) i)
    ∙ sym (map-append path (by_length n ls) (filter (ends_on n) ls))

slots_are : (ls : List Leaf) → AreInOrder ls → slots ls ≡ map path (by_length (height ls) ls)
unfolding slots places nodes
slots_are ls h = places_by_length ls (height ls) h

-- a leaf is the only one with its path
none_alike : (ls : List Leaf) (q : List ℕ) → is_reached ls q ≡ false → filter (λ l. bytes_eq (path l) q) ls ≡ []
none_alike ls q e = go ls (λ l c. false_from_ne_true (bytes_eq (path l) q) (λ k.
    false≢true (sym e ∙ reached_in ls q l c (subst (λ (x : List ℕ). is_prefix x (path l) ≡ true) (same-true (path l) q k) (prefix_all (path l))))))
  where
    prefix_all : (p : List ℕ) → is_prefix p p ≡ true
    prefix_all p = subst (λ (x : List ℕ). is_prefix x p ≡ true) (take_all (length p) p (omega arith)) (is_prefix-take (length p) p)

    go : (xs : List Leaf) → ((l : Leaf) → Contains xs l → bytes_eq (path l) q ≡ false) → filter (λ l. bytes_eq (path l) q) xs ≡ []
    go [] k = refl
    go (x ∷ xs) k = filter_no (λ l. bytes_eq (path l) q) x xs (k x (Contains-first x xs)) ∙ go xs (λ l c. k l (Contains-more x xs l c))

alone : (ls : List Leaf) (l : Leaf) → AreInOrder ls → Contains ls l → filter (λ x. bytes_eq (path x) (path l)) ls ≡ l ∷ []
alone [] l h c = absurd (Contains-nil l c)
alone (x ∷ ls) l h c =
    let v = leaves_rest x ls h in
    let not_again : is_reached ls (path x) ≡ false = ap (is_reached ls) (sym (take_all (length (path x)) (path x) (omega arith))) ∙ v.apart (length (path x)) v.inside (omega arith) in
    elim (Contains-cases x ls l c) [
      | inl here ↦
          filter_yes (λ x. bytes_eq (path x) (path l)) x ls (ap (λ (y : Leaf). bytes_eq (path x) (path y)) (sym here) ∙ same-itself (path x))
          ∙ (λ i. here i ∷ none_alike ls (path l) (ap (λ (y : Leaf). is_reached ls (path y)) (sym here) ∙ not_again) i)
      | inr there ↦
          filter_no (λ x. bytes_eq (path x) (path l)) x ls (false_from_ne_true (bytes_eq (path x) (path l)) (λ e.
          false≢true (sym not_again ∙ reached_in ls (path x) l there (prefix_same (path x) (path l) (same-true (path x) (path l) e)))))
          ∙ alone ls l (in_order-tail x ls h) there
    ]
  where
    prefix_same : (p q : List ℕ) → p ≡ q → is_prefix p q ≡ true
    prefix_same p q e = subst (λ (x : List ℕ). is_prefix p x ≡ true) e (subst (λ (x : List ℕ). is_prefix x p ≡ true) (take_all (length p) p (omega arith)) (is_prefix-take (length p) p))

pub held_by_length : (ls : List Leaf) (n : ℕ) (l : Leaf) → Contains (by_length n ls) l → Contains ls l
held_by_length ls zero l c = absurd (Contains-nil l c)
held_by_length ls (suc n) l c = elim (Contains-append_cases (by_length n ls) (filter (ends_on n) ls) l c) [
  | inl before ↦ held_by_length ls n l before
  | inr here ↦ (Contains-filter_back (ends_on n) ls l here).0
]

found_alone : (ls xs : List Leaf) → ((l : Leaf) → Contains xs l → filter (λ x. bytes_eq (path x) (path l)) ls ≡ l ∷ []) → flat_map (λ (q : List ℕ). filter (λ l. bytes_eq (path l) q) ls) (map path xs) ≡ xs
found_alone ls [] h = refl
found_alone ls (x ∷ xs) h = λ i. h x (Contains-first x xs) i ++ found_alone ls xs (λ l c. h l (Contains-more x xs l c)) i

pub slots_by_length : SlotsGoByLength
unfolding in_slots
slots_by_length ls t =
    let h = in_order ls t in
    ap (flat_map (λ (q : List ℕ). filter (λ l. bytes_eq (path l) q) ls)) (slots_are ls h)
    ∙ found_alone ls (by_length (height ls) ls) (λ l c. alone ls l h (held_by_length ls (height ls) l c))
