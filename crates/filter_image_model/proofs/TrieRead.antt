-- The trie of the leaves that are read is the list of nodes that was read.
use Rattle.std.proofs.Common.{◌≡◌, ℕ, zero, suc, ◌+◌, ◌<◌, ◌≤◌, max, take-add, true, false, cond, List, [], ◌∷◌, ◌++◌, length, get_or, take, drop, map, refl, sym, ap, ◌∙◌, arith}
use Rattle.std.specs.Prelude.{not, ◌&&◌, ◌==◌, nat_le, count_by}
use Rattle.std.specs.List.{AllByRecursion}
use Rattle.std.proofs.lemmas.List.{append-nil, append_assoc, map-append, length-append, length-drop, length-take-le, take_all}
use Rattle.std.proofs.lemmas.List.Concat.{flat_map-append}
use Rattle.std.proofs.lemmas.Bool.{and_parts, leb-true, false≢true}
use Rattle.filter_model.specs.Leaves.{Leaf}
use Rattle.filter_model.specs.Nodes.{Node, all, node_of}
use Rattle.filter_model.specs.Trie.{height, level, nodes_to, path}
use Rattle.filter_model.proofs.Counts.{count_by-cons}
use Rattle.filter_image_model.specs.Levels.{are_levels, levels_from, leaf_count_of, nodes_above}
use Rattle.filter_image_model.specs.Levels.{children_of as children_count}
use Rattle.filter_image_model.proofs.Lists.{length-map}
use Rattle.filter_image_model.proofs.GroupWords.{Group, is_cons, goes_on, join, deal, children_in, all_children, raise, gather, IsGoodNode, AreLevels}
use Rattle.filter_image_model.proofs.Gather.{GoOn, goes_on_drop, gather_goes_on}
use Rattle.filter_image_model.proofs.Link.{read_back}
use Rattle.filter_image_model.proofs.LevelsRead.{flat, leaf_branch, count-append}

-- ---- nodes

pub flat_take : (n : ℕ) (levels : List (List Node)) → flat (take n levels) ++ get_or levels n [] ≡ flat (take (suc n) levels)
flat_take zero [] = refl
flat_take (suc n) [] = refl
flat_take zero (l ∷ ls) = sym (append-nil l)
flat_take (suc n) (l ∷ ls) = append_assoc l (flat (take n ls)) (get_or ls n []) ∙ ap (λ (ns : List Node). l ++ ns) (flat_take n ls)

pub nodes_are : (ls : List Leaf) (levels : List (List Node)) (n : ℕ) → AreLevels levels → gather levels ≡ map path ls ∷ []
    → map (node_of ls) (nodes_to ls n) ≡ flat (take n levels)
unfolding nodes_to
nodes_are ls levels zero a e = refl
nodes_are ls levels (suc n) a e =
    map-append (node_of ls) (nodes_to ls n) (level ls n)
    ∙ (λ j. nodes_are ls levels n a e j ++ read_back ls levels n a e j)
    ∙ flat_take n levels

-- ---- height

pub tall : Group → ℕ
tall [] = 0
tall (x ∷ g) = max (length x) (tall g)

unfoldable pub talls : List Group → ℕ
talls [] = 0
talls (g ∷ gs) = max (tall g) (talls gs)

pub height_is : (ls : List Leaf) → height ls ≡ tall (map path ls)
unfolding height tall
height_is [] = refl
height_is (l ∷ ls) = ap (max (length (path l))) (height_is ls)

tall-append : (g h : Group) → tall (g ++ h) ≡ max (tall g) (tall h)
unfolding tall
tall-append [] h = omega arith
tall-append (x ∷ g) h = omega (arith, tall-append g h)

tall-behind : (c : ℕ) (g : Group) → is_cons g ≡ true → tall (map (λ (x : List ℕ). c ∷ x) g) ≡ suc (tall g)
unfolding tall
tall-behind c [] e = absurd (false≢true e)
tall-behind c (x ∷ []) e = omega arith
tall-behind c (x ∷ y ∷ g) e = omega (arith, tall-behind c (y ∷ g) refl)

some_on : (g : Group) → goes_on g ≡ true → is_cons g ≡ true
some_on [] e = e
some_on (x ∷ g) e = refl

tall_deal : (n : Node) (gs : List Group) → GoOn gs → children_in n ≤ length gs
    → tall (join (deal n gs)) ≡ cond (is_cons n) (suc (talls (take (children_in n) gs))) 0
unfolding tall talls
tall_deal [] gs w le = refl
tall_deal ((c, true) ∷ n) [] w le = absurd (omega (arith, le))
tall_deal ((c, true) ∷ n) (g ∷ gs) w le =
    let ih = tall_deal n gs w.1 (omega (arith, le)) in
    tall-append (map (λ (x : List ℕ). c ∷ x) g) (join (deal n gs))
    ∙ (λ j. max (tall-behind c g (some_on g w.0) j) (ih j))
    ∙ step n gs
  where
    one : (n : ℕ) → 1 + n ≡ suc n
    one n = omega arith

    step : (n : Node) (gs : List Group) → max (suc (tall g)) (cond (is_cons n) (suc (talls (take (children_in n) gs))) 0) ≡ suc (talls (take (1 + children_in n) (g ∷ gs)))
    step [] gs = omega arith
    step (b ∷ n) gs = ap (λ k. max (suc (tall g)) (suc (talls (take k gs)))) refl ∙ omega arith ∙ ap (λ k. suc (talls (take k (g ∷ gs)))) (sym (one (children_in (b ∷ n))))
tall_deal ((c, false) ∷ n) [] w le = ap (max 1) (tall_deal n [] w (omega (arith, le))) ∙ step n
  where
    step : (n : Node) → max 1 (cond (is_cons n) (suc (talls (take (children_in n) []))) 0) ≡ suc (talls (take (0 + children_in n) []))
    step [] = refl
    step (b ∷ n) = omega arith ∙ ap (λ k. suc (talls (take k []))) (sym (zero_plus (children_in (b ∷ n))))
      where
        zero_plus : (n : ℕ) → 0 + n ≡ n
        zero_plus n = omega arith
tall_deal ((c, false) ∷ n) (g ∷ gs) w le = ap (max 1) (tall_deal n (g ∷ gs) w (omega (arith, le))) ∙ step n
  where
    step : (n : Node) → max 1 (cond (is_cons n) (suc (talls (take (children_in n) (g ∷ gs)))) 0) ≡ suc (talls (take (0 + children_in n) (g ∷ gs)))
    step [] = refl
    step (b ∷ n) = omega arith ∙ ap (λ k. suc (talls (take k (g ∷ gs)))) (sym (zero_plus (children_in (b ∷ n))))
      where
        zero_plus : (n : ℕ) → 0 + n ≡ n
        zero_plus n = omega arith

talls-append : (g h : List Group) → talls (g ++ h) ≡ max (talls g) (talls h)
unfolding talls
talls-append [] h = omega arith
talls-append (x ∷ g) h = omega (arith, talls-append g h)

pub tall_raise : (ns : List Node) (gs : List Group) → AllByRecursion IsGoodNode ns → GoOn gs → all_children ns ≤ length gs
    → talls (raise ns gs) ≡ cond (is_cons ns) (suc (talls (take (all_children ns) gs))) 0
unfolding talls
tall_raise [] gs good w le = refl
tall_raise (n ∷ ns) gs good w le =
    let k = children_in n in
    (λ j. max ((tall_deal n gs w (omega (arith, le)) ∙ ap (λ t. cond t (suc (talls (take k gs))) 0) good.0.filled) j)
    (tall_raise ns (drop k gs) good.1 (goes_on_drop k gs w) (omega (arith, le, length-drop k gs)) j))
    ∙ step ns
    ∙ ap suc (sym (ap talls (take-add k (all_children ns) gs) ∙ talls-append (take k gs) (take (all_children ns) (drop k gs))))
  where
    step : (ms : List Node) → max (suc (talls (take (children_in n) gs))) (cond (is_cons ms) (suc (talls (take (all_children ms) (drop (children_in n) gs)))) 0)
        ≡ suc (max (talls (take (children_in n) gs)) (talls (take (all_children ms) (drop (children_in n) gs))))
    step [] = omega arith
    step (m ∷ ms) = omega arith

abbrev pub Filled : List (List Node) → Type 0
Filled levels = AllByRecursion (λ (l : List Node). is_cons l ≡ true) levels

gather_tall : (levels : List (List Node)) → AreLevels levels → Filled levels → talls (gather levels) ≡ length levels
unfolding talls
gather_tall [] a f = refl
gather_tall (l ∷ ls) a f =
    tall_raise l (gather ls) a.0 (gather_goes_on ls a.2) (omega (arith, a.1))
    ∙ ap (λ t. cond t (suc (talls (take (all_children l) (gather ls)))) 0) f.0
    ∙ ap (λ gs. suc (talls gs)) (take_all (all_children l) (gather ls) (omega (arith, a.1)))
    ∙ ap suc (gather_tall ls a.2 f.1)

pub height_read : (ls : List Leaf) (levels : List (List Node)) → AreLevels levels → Filled levels → gather levels ≡ map path ls ∷ [] → height ls ≡ length levels
unfolding talls
height_read ls levels a f e =
    let one : talls (map path ls ∷ []) ≡ tall (map path ls) = omega arith in
    height_is ls ∙ sym one ∙ ap talls (sym e) ∙ gather_tall levels a f

-- ---- how many leaves

unfoldable pub total : List Group → ℕ
total [] = 0
total (g ∷ gs) = length g + total gs

pub total-append : (g h : List Group) → total (g ++ h) ≡ total g + total h
unfolding total
total-append [] h = omega arith
total-append (x ∷ g) h = omega (arith, total-append g h)

total_deal : (n : Node) (gs : List Group) → children_in n ≤ length gs → length (join (deal n gs)) ≡ count_by leaf_branch n + total (take (children_in n) gs)
unfolding total
total_deal [] gs le = refl
total_deal ((c, true) ∷ n) [] le = absurd (omega (arith, le))
total_deal ((c, true) ∷ n) (g ∷ gs) le =
    let one : 1 + children_in n ≡ suc (children_in n) = omega arith in
    length-append (map (λ (x : List ℕ). c ∷ x) g) (join (deal n gs))
    ∙ omega (arith, length-map (λ (x : List ℕ). c ∷ x) g, total_deal n gs (omega (arith, le)), count_by-cons leaf_branch (c, true) n, ap (λ k. total (take k (g ∷ gs))) one)
total_deal ((c, false) ∷ n) [] le =
    let none : 0 + children_in n ≡ children_in n = omega arith in
    omega (arith, total_deal n [] (omega (arith, le)), count_by-cons leaf_branch (c, false) n, ap (λ k. total (take k [])) none)
total_deal ((c, false) ∷ n) (g ∷ gs) le =
    let none : 0 + children_in n ≡ children_in n = omega arith in
    omega (arith, total_deal n (g ∷ gs) (omega (arith, le)), count_by-cons leaf_branch (c, false) n, ap (λ k. total (take k (g ∷ gs))) none)

total_raise : (ns : List Node) (gs : List Group) → all_children ns ≤ length gs → total (raise ns gs) ≡ leaf_count_of ns + total (take (all_children ns) gs)
unfolding total
total_raise [] gs le = refl
total_raise (n ∷ ns) gs le =
    let k = children_in n in
    let split = count-append leaf_branch n (all ns) in
    let parts = ap total (take-add k (all_children ns) gs) ∙ total-append (take k gs) (take (all_children ns) (drop k gs)) in
    omega (arith, split, parts, total_deal n gs (omega (arith, le)), total_raise ns (drop k gs) (omega (arith, le, length-drop k gs)))

gather_total : (levels : List (List Node)) → AreLevels levels → total (gather levels) ≡ leaf_count_of (flat levels)
unfolding total
gather_total [] a = refl
gather_total (l ∷ ls) a =
    let split : leaf_count_of (l ++ flat ls) ≡ leaf_count_of l + leaf_count_of (flat ls) = ap (count_by leaf_branch) (flat_map-append (λ (n : Node). n) l (flat ls)) ∙ count-append leaf_branch (all l) (all (flat ls)) in
    total_raise l (gather ls) (omega (arith, a.1))
    ∙ ap (λ gs. leaf_count_of l + total gs) (take_all (all_children l) (gather ls) (omega (arith, a.1)))
    ∙ omega (arith, gather_total ls a.2, split)

pub leaves_read : (ls : List Leaf) (levels : List (List Node)) → AreLevels levels → gather levels ≡ map path ls ∷ [] → length ls ≡ leaf_count_of (flat levels)
unfolding total
leaves_read ls levels a e =
    let one : total (map path ls ∷ []) ≡ length ls = omega (arith, length-map path ls) in
    sym one ∙ ap total (sym e) ∙ gather_total levels a

-- ---- levels of nodes

pub length-levels : (k size : ℕ) (ns : List Node) → length (levels_from k size ns) ≡ k
length-levels zero size ns = refl
length-levels (suc k) size ns = omega (arith, length-levels k (children_count (take size ns)) (drop size ns))

sized : (k size : ℕ) (ns : List Node) → are_levels (suc k) size ns ≡ true
    → (0 < size) × (size ≤ length ns) × (are_levels k (children_count (take size ns)) (drop size ns) ≡ true)
sized k size ns e =
    let parts = and_parts (not (size == 0) && nat_le size (length ns)) (are_levels k (children_count (take size ns)) (drop size ns)) e in
    let both = and_parts (not (size == 0)) (nat_le size (length ns)) parts.0 in
    (some size both.0, leb-true size (length ns) both.1, parts.1)
  where
    some : (n : ℕ) → not (n == 0) ≡ true → 0 < n
    some zero x = absurd cc
    some (suc n) x = omega arith

pub filled_levels : (k size : ℕ) (ns : List Node) → are_levels k size ns ≡ true → Filled (levels_from k size ns)
filled_levels zero size ns e = tt
filled_levels (suc k) size ns e =
    let s = sized k size ns e in
    (here size ns s.0 s.1, filled_levels k (children_count (take size ns)) (drop size ns) s.2)
  where
    here : (size : ℕ) (ns : List Node) → 0 < size → size ≤ length ns → is_cons (take size ns) ≡ true
    here zero ns a b = absurd (omega (arith, a))
    here (suc size) [] a b = absurd (omega (arith, b))
    here (suc size) (n ∷ ns) a b = refl

pub above_read : (c k size : ℕ) (ns : List Node) → c ≤ k → are_levels k size ns ≡ true → length (flat (take c (levels_from k size ns))) ≡ nodes_above c size ns
above_read zero k size ns le e = refl
above_read (suc c) zero size ns le e = absurd (omega (arith, le))
above_read (suc c) (suc k) size ns le e =
    let s = sized k size ns e in
    length-append (take size ns) (flat (take c (levels_from k (children_count (take size ns)) (drop size ns))))
    ∙ omega (arith, length-take-le size ns s.1, above_read c k (children_count (take size ns)) (drop size ns) (omega (arith, le)) s.2)
