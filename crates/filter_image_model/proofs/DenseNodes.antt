-- Dense nodes and the bits that spell them.
use Rattle.std.proofs.Common.{add-one, ◌≡◌, ℕ, zero, suc, ◌+◌, ◌*◌, ◌<◌, ◌≤◌, Bool, true, false, cond, List, [], ◌∷◌, ◌++◌, length, take, drop, map, refl, sym, ap, ◌∙◌, arith, inl, inr, subst}
use Rattle.std.specs.Prelude.{not, ◌&&◌, ◌||◌, ◌==◌}
use Rattle.std.specs.List.{AllByRecursion, range_with_len}
use Rattle.std.proofs.lemmas.List.{length-take, length-take-le, length-drop, take-append-drop, take_at, drop_at}
use Rattle.std.proofs.lemmas.List.FromFn.{length-map-range_with_len}
use Rattle.std.proofs.lemmas.Bool.{cases_Bool, eqb-true, eqb-false, eq-eqb, ne_eqb}
use Rattle.filter_model.specs.Image.{row, has_letter, has_child, dense_labels, dense_children, dense_ends}
use Rattle.filter_model.specs.Nodes.{Branch, Node}
use Rattle.filter_model.specs.Trie.{END}
use Rattle.filter_image_model.proofs.RisingBytes.{RisingBytes, are_bytes, in_order_of, rising_bytes}
use Rattle.filter_image_model.specs.Nodes.{IsDense, branches_from, dense_node, dense_nodes}

-- no bit of the second is set where that of the first is clear
abbrev pub NoStray : List Bool → List Bool → Type 0
NoStray [] children = Unit {0}
NoStray (l ∷ labels) [] = Unit {0}
NoStray (l ∷ labels) (x ∷ children) = ((not l && x) ≡ false) × NoStray labels children

apart : (b c : ℕ) → (b ≡ c → ⊥) → (b == c) ≡ false
apart b c ne = ne_eqb b c ne

pub From-weaker : (c : ℕ) (n : Node) → RisingBytes (suc c) n → RisingBytes c n
From-weaker c [] w = tt
From-weaker c (b ∷ n) w = (omega (arith, w.0), w.1, w.2)

pub no_letter : (c d : ℕ) (n : Node) → RisingBytes d n → c < d → has_letter n c ≡ false
no_letter c d [] w lt = refl
no_letter c d (b ∷ n) w lt = rw (apart b.0 c (λ e. omega (arith, w.0, e))) (no_letter c (suc b.0) n w.2 (omega (arith, w.0)))

pub no_child : (c d : ℕ) (n : Node) → RisingBytes d n → c < d → has_child n c ≡ false
no_child c d [] w lt = refl
no_child c d (b ∷ n) w lt = rw (apart b.0 c (λ e. omega (arith, w.0, e))) (no_child c (suc b.0) n w.2 (omega (arith, w.0)))

no_end : (d : ℕ) (n : Node) → RisingBytes d n → has_letter n END ≡ false
no_end d [] w = refl
no_end d (b ∷ n) w = rw (apart b.0 256 (λ e. omega (arith, w.1, e))) (no_end (suc b.0) n w.2)

next_range : {X : Type 0} (f : ℕ → X) (d k : ℕ) → map f (range_with_len d (suc k)) ≡ f d ∷ map f (range_with_len (suc d) k)
next_range f d k = ap (λ (x : ℕ). f d ∷ map f (range_with_len x k)) (add-one d)

-- a branch says nothing of letters above it, nor of those below
skip_letter : (b : Branch) (n : Node) (d k : ℕ) → ((c : ℕ) → d ≤ c → c < d + k → b.0 ≡ c → ⊥) → map (has_letter (b ∷ n)) (range_with_len d k) ≡ map (has_letter n) (range_with_len d k)
skip_letter b n d zero ne = refl
skip_letter b n d (suc k) ne =
    next_range (has_letter (b ∷ n)) d k
    ∙ ap (λ (t : Bool). (t || has_letter n d) ∷ map (has_letter (b ∷ n)) (range_with_len (suc d) k)) (apart b.0 d (ne d (omega arith) (omega arith)))
    ∙ ap (λ (bs : List Bool). has_letter n d ∷ bs) (skip_letter b n (suc d) k (λ c le lt. ne c (omega (arith, le)) (omega (arith, lt))))
    ∙ sym (next_range (has_letter n) d k)

skip_child : (b : Branch) (n : Node) (d k : ℕ) → ((c : ℕ) → d ≤ c → c < d + k → b.0 ≡ c → ⊥) → map (has_child (b ∷ n)) (range_with_len d k) ≡ map (has_child n) (range_with_len d k)
skip_child b n d zero ne = refl
skip_child b n d (suc k) ne =
    next_range (has_child (b ∷ n)) d k
    ∙ ap (λ (t : Bool). ((t && b.1) || has_child n d) ∷ map (has_child (b ∷ n)) (range_with_len (suc d) k)) (apart b.0 d (ne d (omega arith) (omega arith)))
    ∙ ap (λ (bs : List Bool). has_child n d ∷ bs) (skip_child b n (suc d) k (λ c le lt. ne c (omega (arith, le)) (omega (arith, lt))))
    ∙ sym (next_range (has_child n) d k)

-- ---- one row

pub branches-From : (c : ℕ) (labels children : List Bool) → c + length labels ≤ 256 → RisingBytes c (branches_from c labels children)
branches-From c [] children h = tt
branches-From c (l ∷ labels) [] h = elim l as (λ l. RisingBytes c (branches_from c (l ∷ labels) [])) [
  | true ↦ tt
  | false ↦ tt
]
branches-From c (true ∷ labels) (x ∷ children) h = (omega arith, omega (arith, h), branches-From (suc c) labels children (omega (arith, h)))
branches-From c (false ∷ labels) (x ∷ children) h = From-weaker c (branches_from (suc c) labels children) (branches-From (suc c) labels children (omega (arith, h)))

own_letter : (c : ℕ) (x : Bool) (n : Node) → has_letter ((c, x) ∷ n) c ≡ true
own_letter c x n = ap (λ (t : Bool). t || has_letter n c) (eq-eqb c c refl)

own_child : (c : ℕ) (x : Bool) (n : Node) → has_child n c ≡ false → has_child ((c, x) ∷ n) c ≡ x
own_child c x n e = ap (λ (t : Bool). (t && x) || has_child n c) (eq-eqb c c refl) ∙ ap (λ (t : Bool). x || t) e ∙ or_false x
  where
    or_false : (x : Bool) → (x || false) ≡ x
    or_false true = refl
    or_false false = refl

row_labels : (c : ℕ) (labels children : List Bool) → length labels ≡ length children → c + length labels ≤ 256
    → map (has_letter (branches_from c labels children)) (range_with_len c (length labels)) ≡ labels
row_labels c [] children e h = refl
row_labels c (l ∷ labels) [] e h = absurd (omega (arith, e))
row_labels c (true ∷ labels) (x ∷ children) e h =
    let n = branches_from (suc c) labels children in
    next_range (has_letter ((c, x) ∷ n)) c (length labels)
    ∙ ap (λ (t : Bool). t ∷ map (has_letter ((c, x) ∷ n)) (range_with_len (suc c) (length labels))) (own_letter c x n)
    ∙ ap (λ (bs : List Bool). true ∷ bs) (skip_letter (c, x) n (suc c) (length labels) (λ d le lt is. omega (arith, le, is))
    ∙ row_labels (suc c) labels children (omega (arith, e)) (omega (arith, h)))
row_labels c (false ∷ labels) (x ∷ children) e h =
    let n = branches_from (suc c) labels children in
    next_range (has_letter n) c (length labels)
    ∙ ap (λ (t : Bool). t ∷ map (has_letter n) (range_with_len (suc c) (length labels))) (no_letter c (suc c) n (branches-From (suc c) labels children (omega (arith, h))) (omega arith))
    ∙ ap (λ (bs : List Bool). false ∷ bs) (row_labels (suc c) labels children (omega (arith, e)) (omega (arith, h)))

row_children : (c : ℕ) (labels children : List Bool) → length labels ≡ length children → c + length labels ≤ 256 → NoStray labels children
    → map (has_child (branches_from c labels children)) (range_with_len c (length labels)) ≡ children
row_children c [] [] e h w = refl
row_children c [] (x ∷ children) e h w = absurd (omega (arith, e))
row_children c (l ∷ labels) [] e h w = absurd (omega (arith, e))
row_children c (true ∷ labels) (x ∷ children) e h w =
    let n = branches_from (suc c) labels children in
    next_range (has_child ((c, x) ∷ n)) c (length labels)
    ∙ ap (λ (t : Bool). t ∷ map (has_child ((c, x) ∷ n)) (range_with_len (suc c) (length labels))) (own_child c x n (no_child c (suc c) n (branches-From (suc c) labels children (omega (arith, h))) (omega arith)))
    ∙ ap (λ (bs : List Bool). x ∷ bs) (skip_child (c, x) n (suc c) (length labels) (λ d le lt is. omega (arith, le, is))
    ∙ row_children (suc c) labels children (omega (arith, e)) (omega (arith, h)) w.1)
row_children c (false ∷ labels) (x ∷ children) e h w =
    let n = branches_from (suc c) labels children in
    next_range (has_child n) c (length labels)
    ∙ ap (λ (t : Bool). t ∷ map (has_child n) (range_with_len (suc c) (length labels))) (no_child c (suc c) n (branches-From (suc c) labels children (omega (arith, h))) (omega arith) ∙ sym w.0)
    ∙ ap (λ (bs : List Bool). x ∷ bs) (row_children (suc c) labels children (omega (arith, e)) (omega (arith, h)) w.1)

row_again : (c k : ℕ) (n : Node) → RisingBytes c n → c + k ≡ 256
    → branches_from c (map (has_letter n) (range_with_len c k)) (map (has_child n) (range_with_len c k)) ≡ n
row_again c zero [] w e = refl
row_again c zero (b ∷ n) w e = absurd (omega (arith, e, w.0, w.1))
row_again c (suc k) [] w e = (λ j. branches_from c (next_range (has_letter []) c k j) (next_range (has_child []) c k j)) ∙ row_again (suc c) k [] tt (omega (arith, e))
row_again c (suc k) (b ∷ n) w e = elim (cases_Bool (b.0 == c)) [
  | inl same ↦
      let is : b.0 ≡ c = eqb-true b.0 c same in
      let above : (d : ℕ) → suc c ≤ d → d < suc c + k → b.0 ≡ d → ⊥ = (λ d le lt x. omega (arith, le, x, is)) in
      let letter : has_letter (b ∷ n) c ≡ true = ap (λ (t : Bool). t || has_letter n c) same in
      let child : has_child (b ∷ n) c ≡ b.1 = ap (λ (d : ℕ). has_child (b ∷ n) d) (sym is) ∙ own_child b.0 b.1 n (no_child b.0 (suc b.0) n w.2 (omega arith)) in
      (λ j. branches_from c (next_range (has_letter (b ∷ n)) c k j) (next_range (has_child (b ∷ n)) c k j))
      ∙ (λ j. branches_from c (letter j ∷ skip_letter b n (suc c) k above j) (child j ∷ skip_child b n (suc c) k above j))
      ∙ ap (λ (m : Node). (c, b.1) ∷ m) (row_again (suc c) k n (subst (λ d. RisingBytes (suc d) n) is w.2) (omega (arith, e)))
      ∙ ap (λ (d : ℕ). (d, b.1) ∷ n) (sym is)
  | inr other ↦
      let ne = eqb-false b.0 c other in
      let up : RisingBytes (suc c) (b ∷ n) = (omega (arith, w.0, ne), w.1, w.2) in
      let letter : has_letter (b ∷ n) c ≡ false = no_letter c (suc c) (b ∷ n) up (omega arith) in
      let child : has_child (b ∷ n) c ≡ false = no_child c (suc c) (b ∷ n) up (omega arith) in
      (λ j. branches_from c (next_range (has_letter (b ∷ n)) c k j) (next_range (has_child (b ∷ n)) c k j))
      ∙ (λ j. branches_from c (letter j ∷ map (has_letter (b ∷ n)) (range_with_len (suc c) k)) (child j ∷ map (has_child (b ∷ n)) (range_with_len (suc c) k)))
      ∙ row_again (suc c) k (b ∷ n) up (omega (arith, e))
]

-- ---- a node with its bit for END

row_is : (f : ℕ → Bool) (k : ℕ) → k ≡ 256 → row f ≡ map f (range_with_len 0 k)
unfolding row
row_is f k e = ap (λ (x : ℕ). map f (range_with_len 0 x)) (sym e)

end_labels : (e : Bool) (n : Node) (k : ℕ) → k ≤ 256 → map (has_letter (cond e ((END, false) ∷ []) [] ++ n)) (range_with_len 0 k) ≡ map (has_letter n) (range_with_len 0 k)
end_labels true n k h = skip_letter (END, false) n 0 k (λ c le lt is. omega (arith, lt, is, h))
end_labels false n k h = refl

end_children : (e : Bool) (n : Node) (k : ℕ) → k ≤ 256 → map (has_child (cond e ((END, false) ∷ []) [] ++ n)) (range_with_len 0 k) ≡ map (has_child n) (range_with_len 0 k)
end_children true n k h = skip_child (END, false) n 0 k (λ c le lt is. omega (arith, lt, is, h))
end_children false n k h = refl

end_is : (e : Bool) (n : Node) → RisingBytes 0 n → has_letter (cond e ((END, false) ∷ []) [] ++ n) END ≡ e
end_is true n w = refl
end_is false n w = no_end 0 n w

NoStray-take : (n : ℕ) (l x : List Bool) → NoStray l x → NoStray (take n l) (take n x)
NoStray-take zero l x w = tt
NoStray-take (suc n) [] x w = tt
NoStray-take (suc n) (a ∷ l) [] w = tt
NoStray-take (suc n) (a ∷ l) (b ∷ x) w = (w.0, NoStray-take n l x w.1)

NoStray-drop : (n : ℕ) (l x : List Bool) → NoStray l x → NoStray (drop n l) (drop n x)
NoStray-drop zero l x w = w
NoStray-drop (suc n) [] x w = tt
NoStray-drop (suc n) (a ∷ l) [] w = none (drop n l)
  where
    none : (l : List Bool) → NoStray l []
    none [] = tt
    none (a ∷ l) = tt
NoStray-drop (suc n) (a ∷ l) (b ∷ x) w = NoStray-drop n l x w.1

-- ---- what is read is written so

pub node_dense : (e : Bool) (labels children : List Bool) → length labels ≤ 256 → IsDense (dense_node e labels children)
node_dense e labels children h =
    let bytes = branches-From 0 labels children (omega (arith, h)) in
    record { ends = e; bytes = branches_from 0 labels children; letters = are_bytes 0 (branches_from 0 labels children) bytes; rising = in_order_of 0 (branches_from 0 labels children) bytes; is = refl }

pub dense_are : (ends labels children : List Bool) → AllByRecursion IsDense (dense_nodes ends labels children)
dense_are [] labels children = tt
dense_are (e ∷ ends) labels children =
    (node_dense e (take 256 labels) (take 256 children) (omega (arith, length-take 256 labels)), dense_are ends (drop 256 labels) (drop 256 children))

pub length-dense : (ends labels children : List Bool) → length (dense_nodes ends labels children) ≡ length ends
length-dense [] labels children = refl
length-dense (e ∷ ends) labels children = omega (arith, length-dense ends (drop 256 labels) (drop 256 children))

pub ends_back : (ends labels children : List Bool) → dense_ends (dense_nodes ends labels children) ≡ ends
ends_back [] labels children = refl
ends_back (e ∷ ends) labels children =
    (λ j. end_is e (branches_from 0 (take 256 labels) (take 256 children)) (branches-From 0 (take 256 labels) (take 256 children) (omega (arith, length-take 256 labels))) j
    ∷ ends_back ends (drop 256 labels) (drop 256 children) j)

empty_is : (l : List Bool) → length l ≡ 0 → [] ≡ l
empty_is [] e = refl
empty_is (a ∷ l) e = absurd (omega (arith, e))

pub labels_back : (ends labels children : List Bool) → length labels ≡ 256 * length ends → length children ≡ 256 * length ends
    → dense_labels (dense_nodes ends labels children) ≡ labels
labels_back [] labels children l c = empty_is labels (omega (arith, l))
labels_back (e ∷ ends) labels children l c =
    let a = take 256 labels in
    let b = take 256 children in
    let la : length a ≡ 256 = length-take-le 256 labels (omega (arith, l)) in
    let lb : length b ≡ 256 = length-take-le 256 children (omega (arith, c)) in
    let here : row (has_letter (dense_node e a b)) ≡ a =
    row_is (has_letter (dense_node e a b)) (length a) la ∙ end_labels e (branches_from 0 a b) (length a) (omega (arith, la)) ∙ row_labels 0 a b (la ∙ sym lb) (omega (arith, la)) in
    (λ j. here j ++ labels_back ends (drop 256 labels) (drop 256 children) (omega (arith, l, length-drop 256 labels)) (omega (arith, c, length-drop 256 children)) j)
    ∙ take-append-drop 256 labels

pub children_back : (ends labels children : List Bool) → length labels ≡ 256 * length ends → length children ≡ 256 * length ends → NoStray labels children
    → dense_children (dense_nodes ends labels children) ≡ children
children_back [] labels children l c w = empty_is children (omega (arith, c))
children_back (e ∷ ends) labels children l c w =
    let a = take 256 labels in
    let b = take 256 children in
    let la : length a ≡ 256 = length-take-le 256 labels (omega (arith, l)) in
    let lb : length b ≡ 256 = length-take-le 256 children (omega (arith, c)) in
    let here : row (has_child (dense_node e a b)) ≡ b =
    row_is (has_child (dense_node e a b)) (length a) la ∙ end_children e (branches_from 0 a b) (length a) (omega (arith, la)) ∙ row_children 0 a b (la ∙ sym lb) (omega (arith, la)) (NoStray-take 256 labels children w) in
    (λ j. here j ++ children_back ends (drop 256 labels) (drop 256 children) (omega (arith, l, length-drop 256 labels)) (omega (arith, c, length-drop 256 children)) (NoStray-drop 256 labels children w) j)
    ∙ take-append-drop 256 children

-- ---- what is written is read so

length-row : (f : ℕ → Bool) → length (row f) ≡ 256
unfolding row
length-row f = length-map-range_with_len f 0 256

node_again : (n : Node) → IsDense n → dense_node (has_letter n END) (row (has_letter n)) (row (has_child n)) ≡ n
node_again n w =
    let whole = w.is in
    let m = w.bytes in
    let e = w.ends in
    let bytes = rising_bytes m w.letters w.rising in
    ap (λ (x : Node). dense_node (has_letter x END) (row (has_letter x)) (row (has_child x))) whole
    ∙ (λ j. dense_node (end_is e m bytes j) ((row_is (has_letter (cond e ((END, false) ∷ []) [] ++ m)) 256 refl ∙ end_labels e m 256 (omega arith)) j) ((row_is (has_child (cond e ((END, false) ∷ []) [] ++ m)) 256 refl ∙ end_children e m 256 (omega arith)) j))
    ∙ ap (λ (x : Node). cond e ((END, false) ∷ []) [] ++ x) (row_again 0 256 m bytes refl)
    ∙ sym whole

pub dense_again : (ns : List Node) → AllByRecursion IsDense ns → dense_nodes (dense_ends ns) (dense_labels ns) (dense_children ns) ≡ ns
dense_again [] w = refl
dense_again (n ∷ ns) w =
    let l = row (has_letter n) in
    let c = row (has_child n) in
    let ll = length-row (has_letter n) in
    let lc = length-row (has_child n) in
    (λ j. dense_node (has_letter n END) (take_at l (dense_labels ns) 256 ll j) (take_at c (dense_children ns) 256 lc j)
    ∷ dense_nodes (dense_ends ns) (drop_at l (dense_labels ns) 256 ll j) (drop_at c (dense_children ns) 256 lc j))
    ∙ (λ j. node_again n w.0 j ∷ dense_again ns w.1 j)
