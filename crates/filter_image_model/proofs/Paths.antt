-- From the nodes of a valid list's trie its paths come back: one sorted list of paths a trie.
use Rattle.std.proofs.Common.{◌≡◌, ℕ, zero, suc, ◌+◌, ◌<◌, ◌≤◌, ◌⊎◌, Bool, true, false, cond, List, [], ◌∷◌, ◌++◌, length, take, drop, map, refl, sym, ap, ◌∙◌, arith, subst, inl, inr, eqb, ltb}
use Rattle.std.specs.Prelude.{◌&&◌, ◌||◌, filter, flat_map}
use Rattle.std.specs.List.{All, AllByRecursion, AllPairs, Contains, list_any, range_with_len}
use Rattle.std.proofs.lemmas.Bool.{cases_Bool, eqb-true, eq-eqb, ne_eqb, false≢true, true≢false, lt-ltb, or_cases, or_right}
use Rattle.std.proofs.lemmas.List.{append-nil, append_assoc, length-append, map-append, take_at, drop_at}
use Rattle.filter_model.proofs.Counts.{AllPairs-head, AllPairs-tail}
use Rattle.filter_model.proofs.Order.{Lt, Lt-from}
use Rattle.filter_model.proofs.Pairs.{Contains-first, Contains-cases, Contains-nil}
use Rattle.filter_model.proofs.Stubs.{Contains-more}
use Rattle.filter_model.specs.Leaves.{Leaf}
use Rattle.filter_model.specs.Nodes.{Node, node_of, trie_of}
use Rattle.filter_model.specs.Strings.{extends, is_before}
use Rattle.filter_model.specs.Trie.{END, height, letters, level, nodes, nodes_to, path}
use Rattle.filter_model.specs.Valid.{EndsRightly, IsLeaf, IsLeafList}
use Rattle.filter_image_model.specs.Levels.{levels_from as cut_levels}
use Rattle.filter_image_model.specs.Levels.{children_of as children_count}
use Rattle.trie_model.specs.Letters.{comes_before as before, order_of}
use Rattle.trie_model.specs.Rests.{tails}
use Rattle.filter_image_model.proofs.Lists.{all_append, all_filter, all_kept, length-map}
use Rattle.filter_image_model.proofs.GroupWords.{Group, From, Rising, Sorted, all_children, among, children_of, gather, goes_on, group_level, heads, is_cons, node_of_group}
use Rattle.filter_image_model.proofs.LevelsRead.{all_children_is, flat}
use Rattle.filter_image_model.proofs.Link.{level-nodes}
use Rattle.filter_image_model.proofs.Rising.{AreBytes_of, ended}
use Rattle.filter_image_model.proofs.RisingBytes.{byte_order}
use Rattle.filter_image_model.proofs.Sorted.{HeadsIn, from_weaker, sorted_from, sorted_tails}
use Rattle.filter_image_model.proofs.Written.{bytes_all}
use Rattle.filter_image_model.proofs.Unique.{IsOwn, IsPlain, OwnTo, children_own, gather_own, levels_from}

-- ---- letters in order

rising_filter : (p : ℕ → Bool) (xs : List ℕ) → Rising xs → Rising (filter p xs)
rising_filter p [] w = tt
rising_filter p (x ∷ xs) w = go (p x) (rising_filter p xs w.1)
  where
    go : (t : Bool) → Rising (filter p xs) → Rising (cond t (x ∷ filter p xs) (filter p xs))
    go true ih = (all_filter (λ d. order_of x < order_of d) p xs w.0, ih)
    go false ih = ih

above_range : (c d k : ℕ) → order_of c ≤ d → d + k ≤ 256 → AllByRecursion (λ e. order_of c < order_of e) (range_with_len d k)
above_range c d zero le room = tt
above_range c d (suc k) le room =
    let o = byte_order d (omega (arith, room)) in
    (omega (arith, le, o), above_range c (d + 1) k (omega (arith, le)) (omega (arith, room)))

rising_range : (d k : ℕ) → d + k ≤ 256 → Rising (range_with_len d k)
rising_range d zero room = tt
rising_range d (suc k) room =
    let o = byte_order d (omega (arith, room)) in
    (above_range d (d + 1) k (omega (arith, o)) (omega (arith, room)), rising_range (d + 1) k (omega (arith, room)))

rising_all : (k : ℕ) → k ≤ 256 → Rising (END ∷ range_with_len 0 k)
rising_all k le = (above_range 256 0 k (omega arith) (omega (arith, le)), rising_range 0 k (omega (arith, le)))

among_range : (a d k : ℕ) → d ≤ a → a < d + k → among a (range_with_len d k) ≡ true
among_range a d zero le lt = absurd (omega (arith, le, lt))
among_range a d (suc k) le lt = elim (cases_Bool (eqb d a)) [
  | inl same ↦ ap (λ (t : Bool). t || among a (range_with_len (d + 1) k)) same
  | inr other ↦
      or_right (eqb d a) (among a (range_with_len (d + 1) k)) (among_range a (d + 1) k (above (λ e. true≢false (sym (eq-eqb d a e) ∙ other))) (omega (arith, lt)))
]
  where
    above : (d ≡ a → ⊥) → d + 1 ≤ a
    above ne = omega (arith, le, ne)

among_all : (a k : ℕ) → k ≡ 256 → a ≤ 256 → among a (END ∷ range_with_len 0 k) ≡ true
among_all a k is le = elim (cases_Bool (eqb END a)) [
  | inl same ↦ ap (λ (t : Bool). t || among a (range_with_len 0 k)) same
  | inr other ↦ or_right (eqb END a) (among a (range_with_len 0 k)) (among_range a 0 k (omega arith) (below (λ e. true≢false (sym (eq-eqb 256 a e) ∙ other))))
]
  where
    below : (256 ≡ a → ⊥) → a < 0 + k
    below ne = omega (arith, le, ne, is)

among_filter : (p : ℕ → Bool) (a : ℕ) (xs : List ℕ) → p a ≡ true → among a xs ≡ true → among a (filter p xs) ≡ true
among_filter p a [] h e = absurd (false≢true e)
among_filter p a (x ∷ xs) h e = go (p x) refl (or_cases (eqb x a) (among a xs) e) (among_filter p a xs h)
  where
    go : (t : Bool) → p x ≡ t → (eqb x a ≡ true) ⊎ (among a xs ≡ true) → (among a xs ≡ true → among a (filter p xs) ≡ true) → among a (cond t (x ∷ filter p xs) (filter p xs)) ≡ true
    go true i (inl same) ih = ap (λ (t : Bool). t || among a (filter p xs)) same
    go true i (inr later) ih = or_right (eqb x a) (among a (filter p xs)) (ih later)
    go false i (inl same) ih = absurd (true≢false (sym h ∙ ap p (sym (eqb-true x a same)) ∙ i))
    go false i (inr later) ih = ih later

-- ---- a group of a valid list's paths

abbrev pub Small : Group → Type 0
Small g = AllByRecursion (λ (x : List ℕ). AllByRecursion (λ c. c ≤ 256) x) g

abbrev pub Short : ℕ → Group → Type 0
Short n g = AllByRecursion (λ (x : List ℕ). length x ≤ n) g

pub record IsFine (n : ℕ) (g : Group) : Type 0 where
  pub sorted : Sorted g
  pub small : Small g
  pub short : Short n g
  pub on : goes_on g ≡ true

pub all_tails : (P Q : List ℕ → Type 0) → ((a : ℕ) (x : List ℕ) → P (a ∷ x) → Q x) → (c : ℕ) (g : Group) → AllByRecursion P g → AllByRecursion Q (tails c g)
all_tails P Q f c [] w = tt
all_tails P Q f c ([] ∷ g) w = all_tails P Q f c g w.1
all_tails P Q f c ((a ∷ x) ∷ g) w = go (eqb a c) (all_tails P Q f c g w.1)
  where
    go : (t : Bool) → AllByRecursion Q (tails c g) → AllByRecursion Q (cond t (x ∷ tails c g) (tails c g))
    go true ih = (f a x w.0, ih)
    go false ih = ih

pub fine_tails : (n c : ℕ) (g : Group) → IsFine (suc n) g → goes_on (tails c g) ≡ true → IsFine n (tails c g)
fine_tails n c g f e = record {
  sorted = sorted_tails c g f.sorted;
  small = all_tails (λ x. AllByRecursion (λ b. b ≤ 256) x) (λ x. AllByRecursion (λ b. b ≤ 256) x) (λ a x w. w.1) c g f.small;
  short = all_tails (λ x. length x ≤ suc n) (λ x. length x ≤ n) (λ a x w. omega (arith, w)) c g f.short;
  on = e;
}

pub no_empty : (g : Group) → Sorted g → goes_on g ≡ true → From 0 g
no_empty [] s e = tt
no_empty ([] ∷ []) s e = absurd (false≢true e)
no_empty ([] ∷ y ∷ g) s e = absurd (false≢true s.0.0)
no_empty ((a ∷ x) ∷ g) s e = (omega arith, from_weaker 0 (order_of a) g (omega arith) (sorted_from a x 0 g s.0))

pub heads_in : (whole part : Group) → ((c : ℕ) → is_cons (tails c part) ≡ true → is_cons (tails c whole) ≡ true) → From 0 part → Small part → HeadsIn (heads whole) part
unfolding heads letters
heads_in whole [] grow f s = tt
heads_in whole ([] ∷ g) grow f s = absurd f
heads_in whole ((a ∷ x) ∷ g) grow f s = (
  among_filter (λ c. is_cons (tails c whole)) a (END ∷ range_with_len 0 256) (grow a (ap (λ (t : Bool). is_cons (cond t (x ∷ tails a g) (tails a g))) (eq-eqb a a refl))) (among_all a 256 refl s.0.0),
  heads_in whole g (λ c e. grow c (more (eqb a c) c e)) f.1 s.1,
)
  where
    more : (t : Bool) (c : ℕ) → is_cons (tails c g) ≡ true → is_cons (cond t (x ∷ tails c g) (tails c g)) ≡ true
    more true c e = refl
    more false c e = e

rising_heads : (g : Group) → Rising (heads g)
unfolding heads letters
rising_heads g = rising_filter (λ c. is_cons (tails c g)) (END ∷ range_with_len 0 256) (rising_all 256 (omega arith))

plain_group : (t : Group) → Sorted t → is_cons t ≡ true → goes_on t ≡ false → t ≡ [] ∷ []
plain_group [] s i e = absurd (false≢true i)
plain_group ([] ∷ []) s i e = refl
plain_group ([] ∷ y ∷ t) s i e = absurd (false≢true s.0.0)
plain_group ((a ∷ x) ∷ t) s i e = absurd (true≢false e)

plain_heads : (g : Group) → Sorted g → (cs : List ℕ) → AllByRecursion (λ c. is_cons (tails c g) ≡ true) cs → IsPlain (λ c. tails c g) cs
plain_heads g s [] w = tt
plain_heads g s (c ∷ cs) w = ((λ e. plain_group (tails c g) (sorted_tails c g s) w.0 e), plain_heads g s cs w.1)

pub heads_some : (g : Group) → AllByRecursion (λ c. is_cons (tails c g) ≡ true) (heads g)
unfolding heads
heads_some g = all_kept (λ c. is_cons (tails c g)) letters

pub own_group : (n : ℕ) (g : Group) → IsFine n g → IsOwn g
own_group n g f = record {
  sorted = f.sorted;
  rising = rising_heads g;
  within = heads_in g g (λ c e. e) (no_empty g f.sorted f.on) f.small;
  plain = plain_heads g f.sorted (heads g) (heads_some g);
}

none_on : (g : Group) → Short 0 g → goes_on g ≡ true → ⊥
none_on [] s e = false≢true e
none_on ([] ∷ g) s e = none_on g s.1 e
none_on ((a ∷ x) ∷ g) s e = omega (arith, s.0)

fine_kids : (n : ℕ) (g : Group) → IsFine (suc n) g → (cs : List ℕ) → AllByRecursion (IsFine n) (filter goes_on (map (λ (c : ℕ). tails c g) cs))
fine_kids n g f [] = tt
fine_kids n g f (c ∷ cs) = go (goes_on (tails c g)) refl (fine_kids n g f cs)
  where
    go : (t : Bool) → goes_on (tails c g) ≡ t → AllByRecursion (IsFine n) (filter goes_on (map (λ (d : ℕ). tails d g) cs))
        → AllByRecursion (IsFine n) (cond t (tails c g ∷ filter goes_on (map (λ (d : ℕ). tails d g) cs)) (filter goes_on (map (λ (d : ℕ). tails d g) cs)))
    go true i ih = (fine_tails n c g f i, ih)
    go false i ih = ih

pub fine_children : (n : ℕ) (gs : List Group) → AllByRecursion (IsFine (suc n)) gs → AllByRecursion (IsFine n) (flat_map children_of gs)
fine_children n [] w = tt
fine_children n (g ∷ gs) w = all_append (IsFine n) (children_of g) (flat_map children_of gs) (fine_kids n g w.0 (heads g)) (fine_children n gs w.1)

pub own_all : (n : ℕ) (gs : List Group) → AllByRecursion (IsFine n) gs → AllByRecursion IsOwn gs
own_all n [] w = tt
own_all n (g ∷ gs) w = (own_group n g w.0, own_all n gs w.1)

pub own_to : (n : ℕ) (gs : List Group) → AllByRecursion (IsFine n) gs → OwnTo n gs
own_to zero [] w = refl
own_to zero (g ∷ gs) w = absurd (none_on g w.0.short w.0.on)
own_to (suc n) gs w = (own_all (suc n) gs w, own_to n (flat_map children_of gs) (fine_children n gs w))

-- ---- the nodes, cut into levels again

pub kids_in : (gs : List Group) → all_children (map node_of_group gs) ≡ length (flat_map children_of gs)
kids_in [] = refl
kids_in (g ∷ gs) = omega (arith, children_own (λ c. tails c g) (heads g), kids_in gs, length-append (children_of g) (flat_map children_of gs))

pub kids_counted : (gs : List Group) → children_count (map node_of_group gs) ≡ length (flat_map children_of gs)
kids_counted gs = sym (all_children_is (map node_of_group gs)) ∙ kids_in gs

pub recut : (n : ℕ) (gs : List Group) → cut_levels n (length gs) (flat (levels_from n gs)) ≡ levels_from n gs
recut zero gs = refl
recut (suc n) gs =
    let N = map node_of_group gs in
    let rest = flat (levels_from n (flat_map children_of gs)) in
    let size : length N ≡ length gs = length-map node_of_group gs in
    let here : take (length gs) (N ++ rest) ≡ N = take_at N rest (length gs) size in
    let gone : drop (length gs) (N ++ rest) ≡ rest = drop_at N rest (length gs) size in
    (λ j. here j ∷ cut_levels n (children_count (here j)) (gone j))
    ∙ ap (λ k. N ∷ cut_levels n k rest) (kids_counted gs)
    ∙ ap (λ (ls : List (List Node)). N ∷ ls) (recut n (flat_map children_of gs))

no_more : (n : ℕ) → flat (levels_from n []) ≡ []
no_more zero = refl
no_more (suc n) = no_more n

pub more_levels : (n m : ℕ) (gs : List Group) → n ≤ m → OwnTo n gs → flat (levels_from m gs) ≡ flat (levels_from n gs)
more_levels zero m gs le w = ap (λ (hs : List Group). flat (levels_from m hs)) w ∙ no_more m
more_levels (suc n) zero gs le w = absurd (omega (arith, le))
more_levels (suc n) (suc m) gs le w = ap (λ (ns : List Node). map node_of_group gs ++ ns) (more_levels n m (flat_map children_of gs) (omega (arith, le)) w.1)

-- ---- a valid list's paths

-- nothing extends a leaf that does not end
abbrev pub EndsRight : List Leaf → Type 0
EndsRight ls = (l o : Leaf) → Contains ls l → Contains ls o → extends l.stub o.stub ≡ true → l.ends ≡ true

path_before : (x y : List ℕ) (e f : Bool) → AreBytes_of x → AreBytes_of y → Lt x y → (extends x y ≡ true → e ≡ true) → before (ended x e) (ended y f) ≡ true
path_before x [] e f v w l h = absurd (none x l)
  where
    none : (x : List ℕ) → Lt x [] → ⊥
    none [] l = l
    none (a ∷ x) l = l
path_before [] (b ∷ y) true f v w l h =
    ap (λ (t : Bool). cond t (before [] (ended y f)) (ltb 0 (order_of b))) (ne_eqb 256 b (λ i. omega (arith, w.0, i)))
    ∙ lt-ltb 0 (order_of b) (omega (arith, byte_order b w.0))
path_before [] (b ∷ y) false f v w l h = absurd (false≢true (h refl))
path_before (a ∷ x) (b ∷ y) e f v w (inl lt) h =
    ap (λ (t : Bool). cond t (before (ended x e) (ended y f)) (ltb (order_of a) (order_of b))) (ne_eqb a b (λ i. omega (arith, lt, i)))
    ∙ lt-ltb (order_of a) (order_of b) (omega (arith, lt, byte_order a v.0, byte_order b w.0))
path_before (a ∷ x) (b ∷ y) e f v w (inr (same, l)) h =
    let is : eqb a b ≡ true = eq-eqb a b same in
    ap (λ (t : Bool). cond t (before (ended x e) (ended y f)) (ltb (order_of a) (order_of b))) is
    ∙ path_before x y e f v.1 w.1 l (λ i. h (ap (λ (t : Bool). t && extends x y) is ∙ i))

all_before : (l : Leaf) (ls : List Leaf) → AreBytes_of l.stub → AllByRecursion (λ (o : Leaf). AreBytes_of o.stub) ls
    → ((o : Leaf) → Contains ls o → is_before l.stub o.stub ≡ true) → ((o : Leaf) → Contains ls o → extends l.stub o.stub ≡ true → l.ends ≡ true)
    → AllByRecursion (λ y. before (path l) y ≡ true) (map path ls)
unfolding path
all_before l [] v w b e = tt
all_before l (o ∷ ls) v w b e = (
  path_before l.stub o.stub l.ends o.ends v w.0 (Lt-from l.stub o.stub (b o (Contains-first o ls))) (e o (Contains-first o ls)),
  all_before l ls v w.1 (λ p c. b p (Contains-more o ls p c)) (λ p c. e p (Contains-more o ls p c)),
)

pub sorted_paths : (ls : List Leaf) → AllByRecursion (λ (o : Leaf). AreBytes_of o.stub) ls → AllPairs (λ a b. is_before a.stub b.stub ≡ true) ls → EndsRight ls → Sorted (map path ls)
sorted_paths [] w r e = tt
sorted_paths (l ∷ ls) w r e = (
  all_before l ls w.0 w.1 (λ o c. AllPairs-head (λ a b. is_before a.stub b.stub ≡ true) l ls r o c) (λ o c. e l o (Contains-first l ls) (Contains-more l ls o c)),
  sorted_paths ls w.1 (AllPairs-tail (λ a b. is_before a.stub b.stub ≡ true) l ls r) (λ a b c d. e a b (Contains-more l ls a c) (Contains-more l ls b d)),
)

pub small_paths : (ls : List Leaf) → AllByRecursion (λ (o : Leaf). AreBytes_of o.stub) ls → Small (map path ls)
unfolding path
small_paths [] w = tt
small_paths (l ∷ ls) w = (letters_small l.stub l.ends w.0, small_paths ls w.1)
  where
    letters_small : (x : List ℕ) (e : Bool) → AreBytes_of x → AllByRecursion (λ c. c ≤ 256) (ended x e)
    letters_small [] true w = (omega arith, tt)
    letters_small [] false w = tt
    letters_small (c ∷ x) e w = (omega (arith, w.0), letters_small x e w.1)

short_paths : (n : ℕ) (ls : List Leaf) → height ls ≤ n → Short n (map path ls)
unfolding height
short_paths n [] le = tt
short_paths n (l ∷ ls) le = (omega (arith, le), short_paths n ls (omega (arith, le)))

abbrev pub bytes_of_leaves : (ls : List Leaf) → Type 0
bytes_of_leaves ls = AllByRecursion (λ (o : Leaf). AreBytes_of o.stub) ls

-- ---- the levels of the trie

snoc : (G : Group) (n k : ℕ) → flat (levels_from (suc n) (group_level G k)) ≡ flat (levels_from n (group_level G k)) ++ map node_of_group (group_level G (n + k))
unfolding group_level
snoc G zero k = append-nil (map node_of_group (group_level G k)) ∙ ap (λ i. map node_of_group (group_level G i)) (plain k)
  where
    plain : (k : ℕ) → k ≡ 0 + k
    plain k = omega arith
snoc G (suc n) k =
    let N = map node_of_group (group_level G k) in
    ap (λ (ns : List Node). N ++ ns) (snoc G n (suc k))
    ∙ sym (append_assoc N (flat (levels_from n (group_level G (suc k)))) (map node_of_group (group_level G (n + suc k))))
    ∙ ap (λ i. (N ++ flat (levels_from n (group_level G (suc k)))) ++ map node_of_group (group_level G i)) (moved n k)
  where
    moved : (n k : ℕ) → n + suc k ≡ suc n + k
    moved n k = omega arith

nodes_flat : (ls : List Leaf) (n : ℕ) → map (node_of ls) (nodes_to ls n) ≡ flat (levels_from n (map path ls ∷ []))
unfolding nodes_to group_level
nodes_flat ls zero = refl
nodes_flat ls (suc n) =
    map-append (node_of ls) (nodes_to ls n) (level ls n)
    ∙ (λ j. nodes_flat ls n j ++ level-nodes ls n j)
    ∙ ap (λ i. flat (levels_from n (map path ls ∷ [])) ++ map node_of_group (group_level (map path ls) i)) (plus n)
    ∙ sym (snoc (map path ls) n 0)
  where
    plus : (n : ℕ) → n ≡ n + 0
    plus n = omega arith

pub trie_flat : (ls : List Leaf) (n : ℕ) → height ls ≤ n → IsFine (height ls) (map path ls) → trie_of ls ≡ flat (levels_from n (map path ls ∷ []))
unfolding trie_of nodes
trie_flat ls n le f = nodes_flat ls (height ls) ∙ sym (more_levels (height ls) n (map path ls ∷ []) le (own_to (height ls) (map path ls ∷ []) (f, tt)))

-- **two lists with fine paths and one trie have the same paths**
pub same_paths : (ls os : List Leaf) → ((n : ℕ) → height ls ≤ n → IsFine n (map path ls)) → ((n : ℕ) → height os ≤ n → IsFine n (map path os))
    → trie_of ls ≡ trie_of os → map path ls ≡ map path os
same_paths ls os f g e =
    let n = height ls + height os in
    let lt : height ls ≤ n = omega arith in
    let ot : height os ≤ n = omega arith in
    let L = map path ls in
    let O = map path os in
    let nodes_are : flat (levels_from n (L ∷ [])) ≡ flat (levels_from n (O ∷ [])) = sym (trie_flat ls n lt (f (height ls) (omega arith))) ∙ e ∙ trie_flat os n ot (g (height os) (omega arith)) in
    let levels_are : levels_from n (L ∷ []) ≡ levels_from n (O ∷ []) = sym (recut n (L ∷ [])) ∙ ap (cut_levels n 1) nodes_are ∙ recut n (O ∷ []) in
    first L O (sym (gather_own n (L ∷ []) (own_to n (L ∷ []) (f n lt, tt))) ∙ ap gather levels_are ∙ gather_own n (O ∷ []) (own_to n (O ∷ []) (g n ot, tt)))
  where
    first : (x y : Group) → x ∷ [] ≡ y ∷ [] → x ≡ y
    first x y e = cc

-- ---- valid lists

pub stub_bytes : (h r : ℕ) (ls : List Leaf) → All (IsLeaf h r) ls → bytes_of_leaves ls
stub_bytes h r [] w = tt
stub_bytes h r (l ∷ ls) w = (bytes_all l.stub (w 0 l (omega arith)).stub.bytes, stub_bytes h r ls (λ k d lt. w (suc k) d (omega (arith, lt))))

extended : (x : List ℕ) (os : List Leaf) (o : Leaf) → Contains os o → extends x o.stub ≡ true → list_any (λ (p : Leaf). extends x p.stub) os ≡ true
extended x [] o d e = absurd (Contains-nil o d)
extended x (p ∷ os) o d e = elim (Contains-cases p os o d) [
  | inl here ↦ ap (λ (t : Bool). t || list_any (λ (q : Leaf). extends x q.stub) os) (ap (λ (q : Leaf). extends x q.stub) here ∙ e)
  | inr there ↦ or_right (extends x p.stub) (list_any (λ (q : Leaf). extends x q.stub) os) (extended x os o there e)
]

pub ends_right : (ls : List Leaf) → All (EndsRightly ls) ls → EndsRight ls
ends_right ls w l o c d e = subst (EndsRightly ls) c.2 (w c.0 l c.1) ∙ extended l.stub ls o d e

filled : (x : List ℕ) (e : Bool) (g : Group) → 0 < length x → goes_on (ended x e ∷ g) ≡ true
filled [] e g lt = absurd (omega (arith, lt))
filled (c ∷ x) e g lt = refl

goes : (h r : ℕ) (ls : List Leaf) → 0 < length ls → All (IsLeaf h r) ls → goes_on (map path ls) ≡ true
unfolding path
goes h r [] s w = absurd (omega (arith, s))
goes h r (l ∷ ls) s w = filled l.stub l.ends (map path ls) (w 0 l (omega arith)).stub.filled

pub fine_paths : (h r : ℕ) (ls : List Leaf) → IsLeafList h r ls → (n : ℕ) → height ls ≤ n → IsFine n (map path ls)
fine_paths h r ls v n le = record {
  sorted = sorted_paths ls (stub_bytes h r ls v.leaves) v.rising (ends_right ls v.ends);
  small = small_paths ls (stub_bytes h r ls v.leaves);
  short = short_paths n ls le;
  on = goes h r ls v.some v.leaves;
}
