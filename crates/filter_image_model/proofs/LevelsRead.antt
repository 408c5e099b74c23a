-- Nodes that are read keep the levels that the trie's laws ask for.
use Rattle.std.proofs.Common.{add-one, ◌≡◌, ℕ, zero, suc, ◌+◌, ◌<◌, ◌≤◌, Bool, true, false, cond, List, [], ◌∷◌, ◌++◌, length, take, drop, map, refl, sym, ap, ◌∙◌, arith, inl, inr, eqb}
use Rattle.std.specs.Prelude.{not, ◌&&◌, ◌||◌, ◌==◌, nat_le, nat_lt, count_by, filter, flat_map}
use Rattle.std.specs.List.{AllByRecursion, range_with_len}
use Rattle.std.proofs.lemmas.List.{length-take-le, length-drop, take-append-drop}
use Rattle.std.proofs.lemmas.Bool.{cases_Bool, and_parts, eqb-true, eqb-false, ne_eqb, leb-true, ltb-true}
use Rattle.std.proofs.lemmas.List.Sums.{sum_by-append}
use Rattle.std.proofs.lemmas.List.{append-nil, map-append}
use Rattle.std.proofs.lemmas.List.Concat.{flat_map-append}
use Rattle.filter_model.specs.Leaves.{Leaf}
use Rattle.filter_model.proofs.Counts.{count_by-cons}
use Rattle.filter_model.specs.Nodes.{Branch, Node, all}
use Rattle.filter_model.specs.Trie.{END, letters, path}
use Rattle.trie_model.specs.Letters.{order_of}
use Rattle.filter_image_model.specs.Levels.{are_levels, levels_from, leaf_count_of, leaf_by, under_letter, node_leaves, level_leaves, leaves_behind}
use Rattle.filter_image_model.specs.Levels.{children_of as children_count}
use Rattle.filter_image_model.specs.Reading.{rises}
use Rattle.filter_image_model.proofs.GroupWords.{Group, among, Once, InOrder, children_in, all_children, join, deal, raise, gather, IsGoodNode, AreLevels}

abbrev pub letter : Branch → ℕ
letter b = b.0

-- letters from c on, rising, none END
abbrev pub Bytes_from : ℕ → List ℕ → Type 0
Bytes_from c [] = Unit {0}
Bytes_from c (x ∷ xs) = (c ≤ x) × (x < 256) × Bytes_from (suc x) xs

none_among : (c d : ℕ) (xs : List ℕ) → Bytes_from d xs → c < d → among c xs ≡ false
none_among c d [] w lt = refl
none_among c d (x ∷ xs) w lt = rw (ne_eqb x c (λ e. omega (arith, w.0, lt, e))) (none_among c (suc x) xs w.2 (omega (arith, w.0, lt)))

end_among : (d : ℕ) (xs : List ℕ) → Bytes_from d xs → among END xs ≡ false
end_among d [] w = refl
end_among d (x ∷ xs) w = rw (ne_eqb x 256 (λ e. omega (arith, w.1, e))) (end_among (suc x) xs w.2)

next_filter : (p : ℕ → Bool) (d k : ℕ) → filter p (range_with_len d (suc k)) ≡ cond (p d) (d ∷ filter p (range_with_len (suc d) k)) (filter p (range_with_len (suc d) k))
next_filter p d k = ap (λ (x : ℕ). cond (p d) (d ∷ filter p (range_with_len x k)) (filter p (range_with_len x k))) (add-one d)

skip_among : (x : ℕ) (xs : List ℕ) (d k : ℕ) → ((c : ℕ) → d ≤ c → c < d + k → x ≡ c → ⊥)
    → filter (λ c. among c (x ∷ xs)) (range_with_len d k) ≡ filter (λ c. among c xs) (range_with_len d k)
skip_among x xs d zero ne = refl
skip_among x xs d (suc k) ne =
    let ih = skip_among x xs (suc d) k (λ c le lt. ne c (omega (arith, le)) (omega (arith, lt))) in
    next_filter (λ c. among c (x ∷ xs)) d k
    ∙ (λ j. cond (ne_eqb x d (ne d (omega arith) (omega arith)) j || among d xs) (d ∷ ih j) (ih j))
    ∙ sym (next_filter (λ c. among c xs) d k)

kept_rising : (c k : ℕ) (xs : List ℕ) → Bytes_from c xs → c + k ≡ 256 → filter (λ d. among d xs) (range_with_len c k) ≡ xs
kept_rising c zero [] w e = refl
kept_rising c zero (x ∷ xs) w e = absurd (omega (arith, e, w.0, w.1))
kept_rising c (suc k) [] w e = next_filter (λ d. among d []) c k ∙ kept_rising (suc c) k [] tt (omega (arith, e))
kept_rising c (suc k) (x ∷ xs) w e = elim (cases_Bool (eqb x c)) [
  | inl same ↦
      let is : x ≡ c = eqb-true x c same in
      let above : (d : ℕ) → suc c ≤ d → d < suc c + k → x ≡ d → ⊥ = (λ d le lt y. omega (arith, le, y, is)) in
      next_filter (λ d. among d (x ∷ xs)) c k
      ∙ (λ j. cond (same j || among c xs) (c ∷ filter (λ d. among d (x ∷ xs)) (range_with_len (suc c) k)) (filter (λ d. among d (x ∷ xs)) (range_with_len (suc c) k)))
      ∙ (λ j. sym is j ∷ (skip_among x xs (suc c) k above ∙ kept_rising (suc c) k xs (rest x c is w.2) (omega (arith, e))) j)
  | inr other ↦
      let ne = eqb-false x c other in
      next_filter (λ d. among d (x ∷ xs)) c k
      ∙ (λ j. cond (other j || none_among c (suc x) xs w.2 (omega (arith, w.0)) j) (c ∷ filter (λ d. among d (x ∷ xs)) (range_with_len (suc c) k)) (filter (λ d. among d (x ∷ xs)) (range_with_len (suc c) k)))
      ∙ kept_rising (suc c) k (x ∷ xs) (omega (arith, w.0, ne), w.1, w.2) (omega (arith, e))
]
  where
    rest : (x c : ℕ) → x ≡ c → Bytes_from (suc x) xs → Bytes_from (suc c) xs
    rest x c is v = rw (← is) v

once_rising : (c : ℕ) (xs : List ℕ) → Bytes_from c xs → Once xs
once_rising c [] w = tt
once_rising c (x ∷ xs) w = (none_among x (suc x) xs w.2 (omega arith), once_rising (suc x) xs w.2)

letters_kept : (k : ℕ) (e : Bool) (xs : List ℕ) → k ≡ 256 → Bytes_from 0 xs
    → filter (λ c. among c (cond e (END ∷ []) [] ++ xs)) (END ∷ range_with_len 0 k) ≡ cond e (END ∷ []) [] ++ xs
letters_kept k true xs is w =
    ap (λ (l : List ℕ). END ∷ l) (skip_among END xs 0 k (λ c le lt y. omega (arith, lt, y, is)) ∙ kept_rising 0 k xs w (omega (arith, is)))
letters_kept k false xs is w =
    (λ j. cond (end_among 0 xs w j) (END ∷ filter (λ c. among c xs) (range_with_len 0 k)) (filter (λ c. among c xs) (range_with_len 0 k)))
    ∙ kept_rising 0 k xs w (omega (arith, is))

pub in_order : (e : Bool) (xs : List ℕ) → Bytes_from 0 xs → InOrder (cond e (END ∷ []) [] ++ xs)
unfolding letters
in_order e xs w = record { kept = letters_kept 256 e xs refl w; once = once e xs w }
  where
    once : (e : Bool) (xs : List ℕ) → Bytes_from 0 xs → Once (cond e (END ∷ []) [] ++ xs)
    once true xs w = (end_among 0 xs w, once_rising 0 xs w)
    once false xs w = once_rising 0 xs w

-- ---- a node that keeps rule 9

-- letters are bytes or END
abbrev pub AreLetters : Node → Type 0
AreLetters n = AllByRecursion (λ (b : Branch). b.0 ≤ 256) n

rising_from : (b : Branch) (n : Node) → rises (b ∷ n) ≡ true → AreLetters n → Bytes_from (order_of b.0) (map letter n)
rising_from b [] e w = tt
rising_from b (c ∷ n) e w =
    let parts = and_parts (nat_lt (order_of b.0) (order_of c.0)) (rises (c ∷ n)) e in
    let lt = ltb-true (order_of b.0) (order_of c.0) parts.0 in
    let ih = rising_from c n parts.1 w.1 in
    elim (cases_Bool (c.0 == END)) [
      | inl end ↦
          let zero_is : order_of c.0 ≡ 0 = ap (λ (t : Bool). cond {A = ℕ} t 0 (suc c.0)) end in absurd (omega (arith, lt, zero_is))
      | inr byte ↦
          let up : order_of c.0 ≡ suc c.0 = ap (λ (t : Bool). cond {A = ℕ} t 0 (suc c.0)) byte in
          let ne = eqb-false c.0 256 byte in
          (omega (arith, lt, up), omega (arith, w.0, ne), rw (← up) ih)
    ]

pub good_node : (n : Node) → (length n == 0) ≡ false → rises n ≡ true → AreLetters n → IsGoodNode n
good_node [] some e w = absurd cc
good_node (b ∷ n) some e w = record {
  filled = refl;
  order = elim (cases_Bool (b.0 == END)) [
    | inl end ↦
        let is : b.0 ≡ END = eqb-true b.0 256 end in
        let low : order_of b.0 ≡ 0 = ap (λ (t : Bool). cond {A = ℕ} t 0 (suc b.0)) end in
        let rest : Bytes_from 0 (map letter n) = rw (← low) (rising_from b n e w.1) in
        rw is (in_order true (map letter n) rest)
    | inr byte ↦
        let up : order_of b.0 ≡ suc b.0 = ap (λ (t : Bool). cond {A = ℕ} t 0 (suc b.0)) byte in
        let rest : Bytes_from (suc b.0) (map letter n) = rw (← up) (rising_from b n e w.1) in
        let ne = eqb-false b.0 256 byte in
        in_order false (b.0 ∷ map letter n) (omega arith, omega (arith, w.0, ne), rest)
  ];
}

-- ---- levels

pub children_in_is : (n : Node) → children_in n ≡ count_by (λ (b : Branch). b.1) n
children_in_is [] = refl
children_in_is (b ∷ n) = ap (λ k. cond b.1 1 0 + k) (children_in_is n) ∙ sym (count_by-cons (λ (x : Branch). x.1) b n)

pub count-append : (p : Branch → Bool) (n m : Node) → count_by p (n ++ m) ≡ count_by p n + count_by p m
count-append p n m = sum_by-append (λ b. cond (p b) 1 0) n m

pub all_children_is : (ns : List Node) → all_children ns ≡ children_count ns
all_children_is [] = refl
all_children_is (n ∷ ns) = (λ j. children_in_is n j + all_children_is ns j) ∙ sym (count-append (λ (x : Branch). x.1) n (all ns))

pub length-raise : (ns : List Node) (gs : List Group) → length (raise ns gs) ≡ length ns
length-raise [] gs = refl
length-raise (n ∷ ns) gs = omega (arith, length-raise ns (drop (children_in n) gs))

abbrev pub flat : List (List Node) → List Node
flat levels = flat_map (λ (ns : List Node). ns) levels

good_take : (k : ℕ) (ns : List Node) → AllByRecursion IsGoodNode ns → AllByRecursion IsGoodNode (take k ns)
good_take zero ns w = tt
good_take (suc k) [] w = tt
good_take (suc k) (n ∷ ns) w = (w.0, good_take k ns w.1)

good_drop : (k : ℕ) (ns : List Node) → AllByRecursion IsGoodNode ns → AllByRecursion IsGoodNode (drop k ns)
good_drop zero ns w = w
good_drop (suc k) [] w = tt
good_drop (suc k) (n ∷ ns) w = good_drop k ns w.1

pub record Levelled (k size : ℕ) (ns : List Node) : Type 0 where
  pub levels : AreLevels (levels_from k size ns)
  pub first : length (gather (levels_from k size ns)) ≡ size
  pub joined : flat (levels_from k size ns) ≡ ns

pub levelled : (k size : ℕ) (ns : List Node) → are_levels k size ns ≡ true → AllByRecursion IsGoodNode ns → Levelled k size ns
levelled zero size ns e w =
    let parts = and_parts (size == 0) (length ns == 0) e in
    record { levels = tt; first = sym (eqb-true size 0 parts.0); joined = nothing ns (eqb-true (length ns) 0 parts.1) }
  where
    nothing : (ns : List Node) → length ns ≡ 0 → [] ≡ ns
    nothing [] e = refl
    nothing (n ∷ ns) e = absurd (omega (arith, e))
levelled (suc k) size ns e w =
    let parts = and_parts (not (size == 0) && nat_le size (length ns)) (are_levels k (children_count (take size ns)) (drop size ns)) e in
    let sized = and_parts (not (size == 0)) (nat_le size (length ns)) parts.0 in
    let le : size ≤ length ns = leb-true size (length ns) sized.1 in
    let ih = levelled k (children_count (take size ns)) (drop size ns) parts.1 (good_drop size ns w) in
    record {
      levels = (good_take size ns w, all_children_is (take size ns) ∙ sym ih.first, ih.levels);
      first = length-raise (take size ns) (gather (levels_from k (children_count (take size ns)) (drop size ns))) ∙ length-take-le size ns le;
      joined = ap (λ (ms : List Node). take size ns ++ ms) ih.joined ∙ take-append-drop size ns;
    }

-- ---- the paths of the leaves that are read

abbrev pub leaf_branch : Branch → Bool
leaf_branch b = not b.1

pub leaf_path : (hash_bits c suffix : ℕ) → path (leaf_by hash_bits c suffix) ≡ c ∷ []
unfolding path
leaf_path hash_bits c suffix = elim (cases_Bool (c == END)) [
  | inl end ↦ ap (λ (t : Bool). cond {A = List ℕ} t [] (c ∷ []) ++ cond {A = List ℕ} t (END ∷ []) []) end ∙ ap (λ (x : ℕ). x ∷ []) (sym (eqb-true c 256 end))
  | inr byte ↦ ap (λ (t : Bool). cond {A = List ℕ} t [] (c ∷ []) ++ cond {A = List ℕ} t (END ∷ []) []) byte
]

behind_path : (c : ℕ) (ls : List Leaf) → map path (map (under_letter c) ls) ≡ map (λ (x : List ℕ). c ∷ x) (map path ls)
unfolding path
behind_path c [] = refl
behind_path c (l ∷ ls) = ap (λ (g : Group). (c ∷ path l) ∷ g) (behind_path c ls)

abbrev pub paths : List (List Leaf) → List Group
paths lss = map (map path) lss

node_paths : (hash_bits : ℕ) (n : Node) (below : List (List Leaf)) (suffixes : List ℕ) → count_by leaf_branch n ≤ length suffixes
    → map path (node_leaves hash_bits n below suffixes) ≡ join (deal n (paths below))
node_paths hb [] below ss le = refl
node_paths hb ((c, true) ∷ n) [] ss le = refl
node_paths hb ((c, true) ∷ n) (ls ∷ below) ss le =
    map-append path (map (under_letter c) ls) (node_leaves hb n below ss)
    ∙ (λ j. behind_path c ls j ++ node_paths hb n below ss (omega (arith, le, count_by-cons leaf_branch (c, true) n)) j)
node_paths hb ((c, false) ∷ n) below [] le = absurd (omega (arith, le, count_by-cons leaf_branch (c, false) n))
node_paths hb ((c, false) ∷ n) [] (s ∷ ss) le =
    (λ j. leaf_path hb c s j ∷ node_paths hb n [] ss (omega (arith, le, count_by-cons leaf_branch (c, false) n)) j)
node_paths hb ((c, false) ∷ n) (ls ∷ below) (s ∷ ss) le =
    (λ j. leaf_path hb c s j ∷ node_paths hb n (ls ∷ below) ss (omega (arith, le, count_by-cons leaf_branch (c, false) n)) j)

paths_drop : (k : ℕ) (lss : List (List Leaf)) → paths (drop k lss) ≡ drop k (paths lss)
paths_drop zero lss = refl
paths_drop (suc k) [] = refl
paths_drop (suc k) (ls ∷ lss) = paths_drop k lss

level_paths : (hash_bits : ℕ) (ns : List Node) (below : List (List Leaf)) (suffixes : List ℕ) → leaf_count_of ns ≤ length suffixes
    → paths (level_leaves hash_bits ns below suffixes) ≡ raise ns (paths below)
level_paths hb [] below ss le = refl
level_paths hb (n ∷ ns) below ss le =
    let split = count-append leaf_branch n (all ns) in
    let one : leaf_count_of (n ∷ []) ≡ count_by leaf_branch n = ap (count_by leaf_branch) (append-nil n) in
    let kids : children_count (n ∷ []) ≡ children_in n = ap (count_by (λ (b : Branch). b.1)) (append-nil n) ∙ sym (children_in_is n) in
    (λ j. node_paths hb n below ss (omega (arith, le, split)) j
    ∷ level_paths hb ns (drop (children_count (n ∷ [])) below) (drop (leaf_count_of (n ∷ [])) ss) (omega (arith, le, split, one, length-drop (leaf_count_of (n ∷ [])) ss)) j)
    ∙ ap (λ (gs : List Group). join (deal n (paths below)) ∷ raise ns gs) (paths_drop (children_count (n ∷ [])) below ∙ ap (λ k. drop k (paths below)) kids)

pub behind_paths : (hash_bits : ℕ) (levels : List (List Node)) (suffixes : List ℕ) → leaf_count_of (flat levels) ≤ length suffixes
    → paths (leaves_behind hash_bits levels suffixes) ≡ gather levels
behind_paths hb [] ss le = refl
behind_paths hb (ns ∷ levels) ss le =
    let split : leaf_count_of (ns ++ flat levels) ≡ leaf_count_of ns + leaf_count_of (flat levels) =
    ap (count_by leaf_branch) (flat_map-append (λ (n : Node). n) ns (flat levels)) ∙ count-append leaf_branch (all ns) (all (flat levels)) in
    level_paths hb ns (leaves_behind hb levels (drop (leaf_count_of ns) ss)) ss (omega (arith, le, split))
    ∙ ap (raise ns) (behind_paths hb levels (drop (leaf_count_of ns) ss) (omega (arith, le, split, length-drop (leaf_count_of ns) ss)))
