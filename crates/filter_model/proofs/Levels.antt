-- The levels hold the prefixes that go on, in byte order.
use Rattle.std.proofs.Common.{◌≡◌, ◌<◌, ◌≤◌, ◌+◌, ◌==◌, ℕ, zero, suc, List, [], ◌∷◌, ◌++◌, Bool, true, false, ◌&&◌, ◌||◌, length, take, get_or, map, refl, sym, ap, subst, ◌∙◌, arith, inl, inr, nat_lt}
use Rattle.std.specs.Prelude.{filter, flat_map}
use Rattle.std.specs.List.{AllPairs, Contains, list_any, range_with_len}
use Rattle.std.proofs.Math.Seq.{take-suc}
use Rattle.std.proofs.lemmas.Bool.{cases_lt, cases_Bool, and_parts, and_from, or_cases, or_left, or_right, eqb-true, eq-eqb, lt-ltb, false≢true, false_from_ne_true, cond-true, cond-false}
use Rattle.std.proofs.lemmas.List.{append-nil, length-take, length_push, take_all}
use Rattle.std.proofs.lemmas.List.Elements.{All-head, All-tail, Contains-get_or, Contains-append_left, Contains-append_right, Contains-append_cases, filter-append}
use Rattle.std.proofs.lemmas.List.FromFn.{length-map-range_with_len, get_or-map-range_with_len, length-range_with_len, get_or-range_with_len}
use Rattle.byte_fields.specs.Spelling.{IsBytes}
use Rattle.filter_model.specs.Strings.{extends, is_before, is_prefix, bytes_eq}
use Rattle.filter_model.specs.Leaves.{Leaf}
use Rattle.filter_model.specs.Trie.{END, branches, height, is_node, is_reached, letters, level, nodes, nodes_to, path}
use Rattle.filter_model.specs.Laws.{AreByteStubs, is_inner, NodesAreThePrefixes, NodesStandInOrder, stands_before}
use Rattle.filter_model.proofs.Order.{Lt, Lt-to}
use Rattle.filter_model.proofs.Shared.{extends-prefix, extends_longer}
use Rattle.filter_model.proofs.Fronts.{IsBytes-nil, IsBytes-cons, IsBytes-tail}
use Rattle.filter_model.proofs.Pairs.{Contains-nil, Contains-first, AllPairs-nil, AllPairs-cons, AllPairs-append, AllPairs-filter, AllPairs-flat_map, Contains-filter, Contains-filter_back, Contains-map, Contains-map_back, Contains-flat_map, Contains-flat_map_back}

-- what goes on into the letter after s begins s
extends-push : (p s : List ℕ) (e : ℕ) → extends p (s ++ e ∷ []) ≡ is_prefix p s
extends-push [] [] e = refl
extends-push [] (b ∷ s) e = refl
extends-push (a ∷ []) [] e = and_nothing (a == e)
  where
    and_nothing : (b : Bool) → (b && false) ≡ false
    and_nothing true = refl
    and_nothing false = refl
extends-push (a ∷ c ∷ p) [] e = and_nothing (a == e)
  where
    and_nothing : (b : Bool) → (b && false) ≡ false
    and_nothing true = refl
    and_nothing false = refl
extends-push (a ∷ p) (b ∷ s) e = ap (λ t. (a == b) && t) (extends-push p s e)

prefix-cases : (p s : List ℕ) → is_prefix p s ≡ (extends p s || bytes_eq s p)
prefix-cases [] [] = refl
prefix-cases [] (b ∷ s) = refl
prefix-cases (a ∷ p) [] = refl
prefix-cases (a ∷ p) (b ∷ s) = elim (cases_Bool (a == b)) [
  | inl here ↦
      let back : (b == a) ≡ true = eq-eqb b a (sym (eqb-true a b here)) in
      rw (here, back) (prefix-cases p s)
  | inr other ↦
      let back : (b == a) ≡ false = false_from_ne_true (b == a) (λ e. false≢true (sym other ∙ eq-eqb a b (sym (eqb-true b a e)))) in
      rw (other, back) refl
]

or_false : (b : Bool) → (b || false) ≡ b
or_false true = refl
or_false false = refl

-- a path goes on after p where the stub does, or where the leaf ends with it
path_extends : (p : List ℕ) (l : Leaf) → extends p (path l) ≡ (extends p l.stub || (l.ends && bytes_eq l.stub p))
unfolding path
path_extends p l = elim (cases_Bool l.ends) [
  | inl e ↦ rw e (extends-push p l.stub END ∙ prefix-cases p l.stub)
  | inr e ↦ rw e (ap (extends p) (append-nil l.stub) ∙ sym (or_false (extends p l.stub)))
]

node_is_inner : (ls : List Leaf) (p : List ℕ) → is_node ls p ≡ is_inner ls p
unfolding is_node
node_is_inner [] p = refl
node_is_inner (l ∷ ls) p = λ i. path_extends p l i || node_is_inner ls p i

IsBytes-prefix : (p s : List ℕ) → is_prefix p s ≡ true → IsBytes s → IsBytes p
IsBytes-prefix [] s e h = IsBytes-nil
IsBytes-prefix (a ∷ p) [] e h = absurd (false≢true e)
IsBytes-prefix (a ∷ p) (b ∷ s) e h =
    let parts = and_parts (a == b) (is_prefix p s) e in
    let here = eqb-true a b parts.0 in
    IsBytes-cons a p (omega (arith, h 0)) (IsBytes-prefix p s parts.1 (IsBytes-tail b s h))

extends_bytes : (p : List ℕ) (l : Leaf) → IsBytes l.stub → extends p (path l) ≡ true → IsBytes p
extends_bytes p l h e = elim (or_cases (extends p l.stub) (l.ends && bytes_eq l.stub p) (sym (path_extends p l) ∙ e)) [
  | inl more ↦ IsBytes-prefix p l.stub (extends-prefix p l.stub more) h
  | inr whole ↦ IsBytes-prefix p l.stub (prefix-cases p l.stub ∙ or_right (extends p l.stub) (bytes_eq l.stub p) (and_parts l.ends (bytes_eq l.stub p) whole).1) h
]

-- a node is a byte string
pub node_bytes : (ls : List Leaf) (p : List ℕ) → AreByteStubs ls → is_node ls p ≡ true → IsBytes p
unfolding is_node
node_bytes [] p h e = absurd (false≢true e)
node_bytes (l ∷ ls) p h e = elim (or_cases (extends p (path l)) (list_any (λ l. extends p (path l)) ls) e) [
  | inl here ↦ extends_bytes p l (All-head (λ l. IsBytes l.stub) l ls h) here
  | inr there ↦ node_bytes ls p (All-tail (λ l. IsBytes l.stub) l ls h) there
]

-- a node is shorter than the trie is high
pub height_above : (ls : List Leaf) (p : List ℕ) → is_node ls p ≡ true → length p < height ls
unfolding is_node height
height_above [] p e = absurd (false≢true e)
height_above (l ∷ ls) p e = elim (or_cases (extends p (path l)) (list_any (λ l. extends p (path l)) ls) e) [
  | inl here ↦ let h = extends_longer p (path l) here in omega arith
  | inr there ↦ let h = height_above ls p there in omega arith
]

root_is_node : (ls : List Leaf) → 0 < height ls → is_node ls [] ≡ true
unfolding is_node height
root_is_node [] h = absurd (omega arith)
root_is_node (l ∷ ls) h = elim (cases_lt 0 (length (path l))) [
  | inl long ↦ or_left (extends [] (path l)) (list_any (λ l. extends [] (path l)) ls) (filled (path l) long)
  | inr short ↦ or_right (extends [] (path l)) (list_any (λ l. extends [] (path l)) ls) (root_is_node ls (omega arith))
]
  where
    filled : (x : List ℕ) → 0 < length x → extends [] x ≡ true
    filled [] h = absurd (omega arith)
    filled (a ∷ x) h = refl

extends-take : (n : ℕ) (p x : List ℕ) → extends p x ≡ true → extends (take n p) x ≡ true
extends-take zero [] x e = e
extends-take zero (a ∷ p) [] e = e
extends-take zero (a ∷ p) (b ∷ x) e = refl
extends-take (suc n) [] x e = e
extends-take (suc n) (a ∷ p) [] e = e
extends-take (suc n) (a ∷ p) (b ∷ x) e =
    let parts = and_parts (a == b) (extends p x) e in and_from (a == b) (extends (take n p) x) parts.0 (extends-take n p x parts.1)

node-take : (ls : List Leaf) (n : ℕ) (p : List ℕ) → is_node ls p ≡ true → is_node ls (take n p) ≡ true
unfolding is_node
node-take [] n p e = e
node-take (l ∷ ls) n p e = elim (or_cases (extends p (path l)) (list_any (λ l. extends p (path l)) ls) e) [
  | inl here ↦ or_left (extends (take n p) (path l)) (list_any (λ l. extends (take n p) (path l)) ls) (extends-take n p (path l) here)
  | inr there ↦ or_right (extends (take n p) (path l)) (list_any (λ l. extends (take n p) (path l)) ls) (node-take ls n p there)
]

pub node_is_reached : (ls : List Leaf) (p : List ℕ) → is_node ls p ≡ true → is_reached ls p ≡ true
unfolding is_node is_reached
node_is_reached [] p e = e
node_is_reached (l ∷ ls) p e = elim (or_cases (extends p (path l)) (list_any (λ l. extends p (path l)) ls) e) [
  | inl here ↦ or_left (is_prefix p (path l)) (list_any (λ l. is_prefix p (path l)) ls) (extends-prefix p (path l) here)
  | inr there ↦ or_right (is_prefix p (path l)) (list_any (λ l. is_prefix p (path l)) ls) (node_is_reached ls p there)
]

pub Contains-bytes : (c : ℕ) → c < 256 → Contains letters c
unfolding letters
Contains-bytes c h = (suc c, long c h, get_or-range_with_len 0 256 c c h ∙ plain c)
  where
    plain : (c : ℕ) → 0 + c ≡ c
    plain c = omega arith

    long : (c : ℕ) → c < 256 → suc c < suc (length (range_with_len 0 256))
    long c h = omega (arith, length-range_with_len 0 256)

-- a node of length n is in the level n
pub node_in_level : (ls : List Leaf) (n : ℕ) (p : List ℕ) → AreByteStubs ls → length p ≡ n → is_node ls p ≡ true → Contains (level ls n) p
unfolding level branches
node_in_level ls zero [] h e k = Contains-first [] []
node_in_level ls zero (a ∷ p) h e k = absurd (omega arith)
node_in_level ls (suc n) p h e k =
    let q = take n p in
    let c = get_or p n 0 in
    let whole : p ≡ q ++ c ∷ [] = sym (take_all (suc n) p (omega arith)) ∙ take-suc p n 0 (omega arith) in
    let above = node_in_level ls n q h (short n p e) (node-take ls n p k) in
    let letter = Contains-bytes c (node_bytes ls p h k n) in
    let here : Contains (branches ls q) (q ++ c ∷ []) =
    Contains-filter (is_reached ls) (map (λ c. q ++ c ∷ []) letters) (q ++ c ∷ []) (Contains-map (λ c. q ++ c ∷ []) letters c letter)
    (ap (is_reached ls) (sym whole) ∙ node_is_reached ls p k) in
    subst (Contains (level ls (suc n))) (sym whole)
    (Contains-filter (is_node ls) (flat_map (branches ls) (level ls n)) (q ++ c ∷ []) (Contains-flat_map (branches ls) (level ls n) q (q ++ c ∷ []) above here)
    (ap (is_node ls) (sym whole) ∙ k))
  where
    short : (n : ℕ) (p : List ℕ) → length p ≡ suc n → length (take n p) ≡ n
    short n p e = omega (arith, e, length-take n p)

-- what a level holds has the level's length, and goes on
pub in_level : (ls : List Leaf) (n : ℕ) (p : List ℕ) → 0 < height ls → Contains (level ls n) p → (length p ≡ n) × (is_node ls p ≡ true)
unfolding level branches
in_level ls zero p h c = root p c
  where
    root : (p : List ℕ) → Contains ([] ∷ []) p → (length p ≡ 0) × (is_node ls p ≡ true)
    root p (zero, l, e) = (omega (arith, ap (length {A = ℕ}) (sym e)), ap (is_node ls) (sym e) ∙ root_is_node ls h)
    root p (suc i, l, e) = absurd (omega arith)
in_level ls (suc n) p h c =
    let kept = Contains-filter_back (is_node ls) (flat_map (branches ls) (level ls n)) p c in
    let from = Contains-flat_map_back (branches ls) (level ls n) p kept.0 in
    let above = in_level ls n from.0 h from.1 in
    let reached = Contains-filter_back (is_reached ls) (map (λ c. from.0 ++ c ∷ []) letters) p from.2 in
    let letter = Contains-map_back (λ c. from.0 ++ c ∷ []) letters p reached.0 in
    (omega (arith, ap (length {A = ℕ}) (sym letter.2), length_push from.0 letter.0, above.0), kept.1)

in_nodes_to : (ls : List Leaf) (n : ℕ) (p : List ℕ) → 0 < height ls → Contains (nodes_to ls n) p → (length p < n) × (is_node ls p ≡ true)
unfolding nodes_to
in_nodes_to ls zero p h c = absurd (Contains-nil p c)
in_nodes_to ls (suc n) p h c = elim (Contains-append_cases (nodes_to ls n) (level ls n) p c) [
  | inl before ↦ let r = in_nodes_to ls n p h before in (omega (arith, r.0), r.1)
  | inr here ↦ let r = in_level ls n p h here in (omega (arith, r.0), r.1)
]

node_in_nodes_to : (ls : List Leaf) (n : ℕ) (p : List ℕ) → AreByteStubs ls → length p < n → is_node ls p ≡ true → Contains (nodes_to ls n) p
unfolding nodes_to
node_in_nodes_to ls zero p h l k = absurd (omega arith)
node_in_nodes_to ls (suc n) p h l k = elim (cases_lt (length p) n) [
  | inl before ↦ Contains-append_left (nodes_to ls n) (level ls n) p (node_in_nodes_to ls n p h before k)
  | inr here ↦ Contains-append_right (nodes_to ls n) (level ls n) p (node_in_level ls n p h (omega arith) k)
]

high_enough : (ls : List Leaf) (n : ℕ) (p : List ℕ) → Contains (nodes_to ls n) p → 0 < n
unfolding nodes_to
high_enough ls zero p c = absurd (Contains-nil p c)
high_enough ls (suc n) p c = omega arith

pub nodes_are_the_prefixes : NodesAreThePrefixes
unfolding nodes
nodes_are_the_prefixes ls p h = (
  λ c. sym (node_is_inner ls p) ∙ (in_nodes_to ls (height ls) p (high_enough ls (height ls) p c) c).1,
  λ e. let k = node_is_inner ls p ∙ e in node_in_nodes_to ls (height ls) p h (height_above ls p k) k,
)

-- strings of one length in order stay so, whatever follows
Lt-push : (q r : List ℕ) (x y : List ℕ) → length q ≡ length r → Lt q r → Lt (q ++ x) (r ++ y)
Lt-push q [] x y e h = absurd h
Lt-push [] (b ∷ r) x y e h = absurd (omega arith)
Lt-push (a ∷ q) (b ∷ r) x y e (inl less) = inl less
Lt-push (a ∷ q) (b ∷ r) x y e (inr (here, rest)) = inr (here, Lt-push q r x y (omega arith) rest)

Lt-last : (q : List ℕ) (c d : ℕ) → c < d → Lt (q ++ c ∷ []) (q ++ d ∷ [])
Lt-last [] c d h = inl h
Lt-last (a ∷ q) c d h = inr (refl, Lt-last q c d h)

-- the children of q
abbrev children : List Leaf → List ℕ → List (List ℕ)
children ls q = filter (is_node ls) (branches ls q)

filter-flat_map : {X Y : Type 0} (p : Y → Bool) (f : X → List Y) (xs : List X) → filter p (flat_map f xs) ≡ flat_map (λ x. filter p (f x)) xs
filter-flat_map p f [] = refl
filter-flat_map {X} {Y} p f (x ∷ xs) = filter-append p (f x) (flat_map f xs) ∙ ap (λ (l : List Y). filter p (f x) ++ l) (filter-flat_map p f xs)

-- q with each letter behind it, END apart, is in order
pub bytes_rise : (q : List ℕ) → AllPairs Lt (map (λ c. q ++ c ∷ []) (range_with_len 0 256))
bytes_rise q i j d before within =
    let size = length-map-range_with_len (λ c. q ++ c ∷ []) 0 256 in
    let i_is = get_or-map-range_with_len (λ c. q ++ c ∷ []) 0 256 i i d (omega arith) (omega arith) in
    let j_is = get_or-map-range_with_len (λ c. q ++ c ∷ []) 0 256 j j d (omega arith) (omega arith) in
    subst (λ (a : List ℕ). Lt a (get_or (map (λ c. q ++ c ∷ []) (range_with_len 0 256)) j d)) (sym i_is) (subst (Lt (q ++ i ∷ [])) (sym j_is) (Lt-last q i j before))

-- what ends with END is no node
end_is_no_node : (ls : List Leaf) (q : List ℕ) → AreByteStubs ls → is_node ls (q ++ END ∷ []) ≡ false
end_is_no_node ls q h = false_from_ne_true (is_node ls (q ++ END ∷ [])) (λ e. omega (arith, node_bytes ls (q ++ END ∷ []) h e (length q), last q))
  where
    last : (q : List ℕ) → get_or (q ++ END ∷ []) (length q) 0 ≡ 256
    last [] = refl
    last (a ∷ q) = last q

-- q with each byte behind it
abbrev with_bytes : List ℕ → List (List ℕ)
with_bytes q = map (λ c. q ++ c ∷ []) (range_with_len 0 256)

bytes_kept : (ls : List Leaf) (q : List ℕ) → AllPairs Lt (filter (is_node ls) (filter (is_reached ls) (with_bytes q)))
bytes_kept ls q =
    AllPairs-filter Lt (is_node ls) (filter (is_reached ls) (with_bytes q)) (AllPairs-filter Lt (is_reached ls) (with_bytes q) (bytes_rise q))

children_rise : (ls : List Leaf) (q : List ℕ) → AreByteStubs ls → AllPairs Lt (children ls q)
unfolding branches letters
children_rise ls q h =
    let p = q ++ END ∷ [] in
    let reached = filter (is_reached ls) (with_bytes q) in
    elim (cases_Bool (is_reached ls p)) [
      | inl found ↦
          subst (λ (l : List (List ℕ)). AllPairs Lt (filter (is_node ls) l)) (sym (cond-true (is_reached ls p) (p ∷ reached) reached found))
          (subst (AllPairs Lt) (sym (cond-false (is_node ls p) (p ∷ filter (is_node ls) reached) (filter (is_node ls) reached) (end_is_no_node ls q h))) (bytes_kept ls q))
      | inr missed ↦
          subst (λ (l : List (List ℕ)). AllPairs Lt (filter (is_node ls) l)) (sym (cond-false (is_reached ls p) (p ∷ reached) reached missed)) (bytes_kept ls q)
    ]

-- a child is its parent and a letter
child_is : (ls : List Leaf) (q p : List ℕ) → Contains (children ls q) p → (c : ℕ) × (q ++ c ∷ [] ≡ p)
unfolding branches
child_is ls q p k =
    let reached = Contains-filter_back (is_reached ls) (map (λ c. q ++ c ∷ []) letters) p (Contains-filter_back (is_node ls) (branches ls q) p k).0 in
    let letter = Contains-map_back (λ c. q ++ c ∷ []) letters p reached.0 in
    (letter.0, letter.2)

-- two of one length, in order
record Beside (n : ℕ) (q r : List ℕ) : Type 0 where
  first : length q ≡ n
  second : length r ≡ n
  order : Lt q r

pub level_rises : (ls : List Leaf) (n : ℕ) → AreByteStubs ls → 0 < height ls → AllPairs Lt (level ls n)
unfolding level
level_rises ls zero h k = AllPairs-cons Lt [] [] (λ y c. absurd (Contains-nil y c)) (AllPairs-nil Lt)
level_rises ls (suc n) h k =
    let above = level_rises ls n h k in
    let sized : AllPairs (Beside n) (level ls n) = λ i j d before within.
    record {
      first = (in_level ls n (get_or (level ls n) i d) k (Contains-get_or (level ls n) i d (omega arith))).0;
      second = (in_level ls n (get_or (level ls n) j d) k (Contains-get_or (level ls n) j d within)).0;
      order = above i j d before within;
    } in
    subst (AllPairs Lt) (sym (filter-flat_map (is_node ls) (branches ls) (level ls n)))
    (AllPairs-flat_map Lt (Beside n) (children ls) (level ls n) sized (λ q c. children_rise ls q h)
    (λ q r a b s c d.
    let from_a = child_is ls q a c in
    let from_b = child_is ls r b d in
    subst (λ (z : List ℕ). Lt z b) from_a.1 (subst (Lt (q ++ from_a.0 ∷ [])) from_b.1 (Lt-push q r (from_a.0 ∷ []) (from_b.0 ∷ []) (s.first ∙ sym s.second) s.order))))

abbrev Before : List ℕ → List ℕ → Type 0
Before p q = stands_before p q ≡ true

nodes_to_rise : (ls : List Leaf) (n : ℕ) → AreByteStubs ls → 0 < height ls → AllPairs Before (nodes_to ls n)
unfolding nodes_to
nodes_to_rise ls zero h k = AllPairs-nil Before
nodes_to_rise ls (suc n) h k =
    AllPairs-append Before (nodes_to ls n) (level ls n) (nodes_to_rise ls n h k)
    (λ i j d before within.
    let p = get_or (level ls n) i d in
    let q = get_or (level ls n) j d in
    let p_in = in_level ls n p k (Contains-get_or (level ls n) i d (omega arith)) in
    let q_in = in_level ls n q k (Contains-get_or (level ls n) j d within) in
    or_right (nat_lt (length p) (length q)) ((length p == length q) && is_before p q)
    (and_from (length p == length q) (is_before p q) (eq-eqb (length p) (length q) (p_in.0 ∙ sym q_in.0)) (Lt-to p q (level_rises ls n h k i j d before within))))
    (λ p q c d.
    or_left (nat_lt (length p) (length q)) ((length p == length q) && is_before p q)
    (lt-ltb (length p) (length q) (omega (arith, (in_nodes_to ls n p k c).0, (in_level ls n q k d).0))))

no_level : (ls : List Leaf) → AllPairs Before (nodes_to ls 0)
unfolding nodes_to
no_level ls = AllPairs-nil Before

pub nodes_stand_in_order : NodesStandInOrder
unfolding nodes
nodes_stand_in_order ls h = elim (cases_lt 0 (height ls)) [
  | inl high ↦ nodes_to_rise ls (height ls) h high
  | inr flat ↦ subst (λ n. AllPairs Before (nodes_to ls n)) (none (height ls) flat) (no_level ls)
]
  where
    none : (n : ℕ) → n ≤ 0 → 0 ≡ n
    none n h = omega arith
