-- The form of a trie's nodes: letters in order, END least, neither alone nor with a child.
use Rattle.std.proofs.Common.{◌≡◌, ℕ, zero, suc, ◌<◌, ◌≤◌, ◌==◌, Bool, true, false, cond, List, [], ◌∷◌, ◌++◌, length, get_or, map, refl, ap, subst, sym, ◌∙◌, arith, inl, inr}
use Rattle.std.specs.Prelude.{filter}
use Rattle.std.specs.List.{All, AllPairs, range_with_len}
use Rattle.std.proofs.lemmas.Bool.{and_from, and_parts, cases_eq, eq-eqb, false_from_ne_true, false≢true, ne_eqb}
use Rattle.std.proofs.lemmas.List.{get_or-map, length-map}
use Rattle.std.proofs.lemmas.List.Elements.{All-cons, All-filter, All-from_get_or, All-map, filter_passes}
use Rattle.std.proofs.lemmas.List.FromFn.{get_or-range_with_len, length-range_with_len}
use Rattle.byte_fields.specs.Spelling.{IsBytes}
use Rattle.filter_model.specs.Leaves.{Leaf}
use Rattle.filter_model.specs.Nodes.{Branch, last_letter, node_of, trie_of}
use Rattle.filter_model.specs.Strings.{extends, is_prefix, bytes_eq}
use Rattle.filter_model.specs.Trie.{END, branches, height, is_node, is_reached, letters, nodes, path, places}
use Rattle.filter_model.proofs.Crowds.{two_branches}
use Rattle.filter_model.proofs.Fronts.{same-true}
use Rattle.filter_model.proofs.Levels.{node_bytes}
use Rattle.filter_model.proofs.Pairs.{AllPairs-filter}
use Rattle.trie_levels.specs.Tries.{HasTrie}
use Rattle.trie_levels.proofs.Growth.{path_filled}
use Rattle.trie_levels.proofs.Parting.{tail}
use Rattle.trie_levels.proofs.Totals.{in_order}
use Rattle.trie_model.specs.Letters.{order_of}
use Rattle.trie_laws.specs.Nodes.{FormsAreSparse, IsTrieNode, TrieNodesHaveForm}
use Rattle.trie_laws.proofs.Endings.{end_follows}
use Rattle.trie_laws.proofs.NodeLists.{nodes_is}
use Rattle.trie_laws.proofs.Paths.{any_leaf, node_by, path_high, path_node, path_reached, reached_by, some_at, take_extends}
use Rattle.trie_laws.proofs.Places.{branch_with, branches_form, last_letter-push}

-- ---- letters in order

pub order-byte : (c : ℕ) → c < 256 → order_of c ≡ suc c
order-byte c h = ap (λ (t : Bool). cond {A = ℕ} t 0 (suc c)) (ne_eqb c 256 (λ e. omega (arith, h, e)))

range-at : (k i d : ℕ) → i < length (range_with_len 0 k) → (i < k) × (get_or (range_with_len 0 k) i d ≡ i)
range-at k i d h = let l : i < k = omega (arith, h, length-range_with_len 0 k) in (l, get_or-range_with_len 0 k i d l ∙ omega arith)

bytes_rise : (k : ℕ) → k ≤ 256 → AllPairs (λ (c d : ℕ). order_of c < order_of d) (END ∷ range_with_len 0 k)
bytes_rise k h i zero d before within = absurd (omega arith)
bytes_rise k h zero (suc j) d before within =
    let at = range-at k j d (omega arith) in omega (arith, h, at.0, order-byte j (omega (arith, h, at.0)), ap order_of at.1)
bytes_rise k h (suc i) (suc j) d before within =
    let at_i = range-at k i d (omega arith) in
    let at_j = range-at k j d (omega arith) in
    omega (arith, h, before, at_i.0, at_j.0, order-byte i (omega (arith, h, at_i.0)), order-byte j (omega (arith, h, at_j.0)), ap order_of at_i.1, ap order_of at_j.1)

bytes_small : (k : ℕ) → k ≤ 256 → All (λ (c : ℕ). c ≤ 256) (END ∷ range_with_len 0 k)
bytes_small k h zero d within = omega arith
bytes_small k h (suc i) d within = let at = range-at k i d (omega arith) in omega (arith, h, at.0, at.1)

AllPairs-map : {X Y : Type 0} (R : Y → Y → Type 0) (f : X → Y) (xs : List X) (e : X) → AllPairs (λ a b. R (f a) (f b)) xs → AllPairs R (map f xs)
AllPairs-map {X} {Y} R f xs e h i j d before within =
    let jl : j < length xs = omega (arith, within, length-map xs f) in
    subst (λ (y : Y). R y (get_or (map f xs) j d)) (sym (get_or-map f xs i e d (omega (arith, before, jl))))
    (subst (λ (y : Y). R (f (get_or xs i e)) y) (sym (get_or-map f xs j e d jl)) (h i j e before jl))

-- ---- branches in order

InOrder : List ℕ → List ℕ → Type 0
InOrder q r = order_of (last_letter q) < order_of (last_letter r)

pushed_in_order : (p : List ℕ) (c d : ℕ) → order_of c < order_of d → InOrder (p ++ c ∷ []) (p ++ d ∷ [])
unfolding InOrder
pushed_in_order p c d h = omega (arith, h, ap order_of (last_letter-push p c), ap order_of (last_letter-push p d))

branches_rise : (ls : List Leaf) (p : List ℕ) → AllPairs InOrder (branches ls p)
unfolding branches letters
branches_rise ls p =
    AllPairs-filter InOrder (is_reached ls) (map (λ c. p ++ c ∷ []) (END ∷ range_with_len 0 256))
    (AllPairs-map InOrder (λ c. p ++ c ∷ []) (END ∷ range_with_len 0 256) 0
    (λ i j d before within. pushed_in_order p (get_or (END ∷ range_with_len 0 256) i d) (get_or (END ∷ range_with_len 0 256) j d) (bytes_rise 256 (omega arith) i j d before within)))

-- the last letters of two branches differ
pub branches_differ : (ls : List Leaf) (p : List ℕ) (i j : ℕ) → i < j → j < length (branches ls p) → last_letter (get_or (branches ls p) i []) ≡ last_letter (get_or (branches ls p) j []) → ⊥
unfolding InOrder
branches_differ ls p i j before within e = omega (arith, branches_rise ls p i j [] before within, ap order_of e)

pub branches_small : (ls : List Leaf) (p : List ℕ) → All (λ q. last_letter q ≤ 256) (branches ls p)
unfolding branches letters
branches_small ls p =
    All-filter (is_reached ls) (λ q. last_letter q ≤ 256) (map (λ c. p ++ c ∷ []) (END ∷ range_with_len 0 256))
    (All-map (λ q. last_letter q ≤ 256) (λ c. p ++ c ∷ []) (END ∷ range_with_len 0 256)
    (λ i d h. omega (arith, last_letter-push p (get_or (END ∷ range_with_len 0 256) i d), bytes_small 256 (omega arith) i d h)))

pub branches_reached : (ls : List Leaf) (p : List ℕ) → All (λ q. is_reached ls q ≡ true) (branches ls p)
unfolding branches
branches_reached ls p = filter_passes (is_reached ls) (map (λ c. p ++ c ∷ []) letters)

-- ---- strings that go on

-- one letter further
pub one_further : (p x : List ℕ) → extends p x ≡ true → (length p < length x) × (is_prefix (p ++ get_or x (length p) 0 ∷ []) x ≡ true)
one_further [] [] e = absurd (false≢true e)
one_further [] (b ∷ x) e = (omega arith, and_from (b == b) true (eq-eqb b b refl) refl)
one_further (a ∷ p) [] e = absurd (false≢true e)
one_further (a ∷ p) (b ∷ x) e =
    let parts = and_parts (a == b) (extends p x) e in
    let rest = one_further p x parts.1 in
    (omega (arith, rest.0), and_from (a == b) (is_prefix (p ++ get_or x (length p) 0 ∷ []) x) parts.0 rest.1)

pub prefix_more : (p x y : List ℕ) → is_prefix p x ≡ true → is_prefix p (x ++ y) ≡ true
prefix_more [] x y e = refl
prefix_more (a ∷ p) [] y e = absurd (false≢true e)
prefix_more (a ∷ p) (b ∷ x) y e = let parts = and_parts (a == b) (is_prefix p x) e in and_from (a == b) (is_prefix p (x ++ y)) parts.0 (prefix_more p x y parts.1)

-- a letter of a path is a byte or END
pub path_letter : (x : List ℕ) (e : Bool) (k : ℕ) → IsBytes x → get_or (x ++ tail e) k 0 ≤ 256
path_letter [] true zero h = omega arith
path_letter [] true (suc k) h = omega arith
path_letter [] false k h = omega arith
path_letter (a ∷ x) e zero h = omega (arith, h 0)
path_letter (a ∷ x) e (suc k) h = path_letter x e k (λ i. h (suc i))

-- ---- one node

tall : (ls : List Leaf) → HasTrie ls → 0 < height ls
tall ls t = omega (arith, path_filled (get_or ls 0 any_leaf) ((in_order ls t).filled 0 any_leaf t.some), path_high ls 0 any_leaf t.some)

root_passes : (ls : List Leaf) → HasTrie ls → is_node ls [] ≡ true
root_passes ls t =
    path_node ls 0 any_leaf [] t.some (take_extends 0 (path (get_or ls 0 any_leaf)) (path_filled (get_or ls 0 any_leaf) ((in_order ls t).filled 0 any_leaf t.some)))

nodes_pass : (ls : List Leaf) → HasTrie ls → All (λ p. is_node ls p ≡ true) (nodes ls)
nodes_pass ls t =
    subst (All (λ p. is_node ls p ≡ true)) (sym (nodes_is ls (tall ls t)))
    (All-cons (λ p. is_node ls p ≡ true) [] (filter (is_node ls) (places ls)) (root_passes ls t) (filter_passes (is_node ls) (places ls)))

end_leads_to_none : (ls : List Leaf) (p : List ℕ) → HasTrie ls → is_node ls (p ++ END ∷ []) ≡ false
end_leads_to_none ls p t = false_from_ne_true (is_node ls (p ++ END ∷ [])) (λ e. omega (arith, node_bytes ls (p ++ END ∷ []) (in_order ls t).bytes e (length p), last p))
  where
    last : (p : List ℕ) → get_or (p ++ END ∷ []) (length p) 0 ≡ 256
    last [] = refl
    last (a ∷ p) = last p

-- where a leaf ends at p another one goes on from p by a byte
end_is_crowded : (ls : List Leaf) (p : List ℕ) → HasTrie ls → is_reached ls (p ++ END ∷ []) ≡ true → 2 ≤ length (branches ls p)
unfolding path
end_is_crowded ls p t e =
    let h = in_order ls t in
    let k = reached_by ls any_leaf (p ++ END ∷ []) e in
    let l = get_or ls k.0 any_leaf in
    let parts = and_parts l.ends (bytes_eq l.stub p) (sym (end_follows p l.stub l.ends (h.bytes k.0 any_leaf k.1)) ∙ k.2) in
    let stub : l.stub ≡ p = same-true l.stub p parts.1 in
    let o = some_at (λ o. extends l.stub o.stub) ls any_leaf (sym (t.ends k.0 any_leaf k.1) ∙ parts.0) in
    let x = (get_or ls o.0 any_leaf).stub in
    let on = one_further p x (ap (λ (y : List ℕ). extends y x) (sym stub) ∙ o.2) in
    let d = get_or x (length p) 0 in
    let small : d < 256 = h.bytes o.0 any_leaf o.1 (length p) in
    let reached = path_reached ls o.0 any_leaf (p ++ d ∷ []) o.1 (prefix_more (p ++ d ∷ []) x (tail (get_or ls o.0 any_leaf).ends) on.1) in
    two_branches ls p 256 d (omega arith) (omega (arith, small)) (λ s. omega (arith, s, small)) e reached

-- a node has a branch
node_filled : (ls : List Leaf) (p : List ℕ) → HasTrie ls → is_node ls p ≡ true → 0 < length (branches ls p)
unfolding path
node_filled ls p t e =
    let k = node_by ls any_leaf p e in
    let l = get_or ls k.0 any_leaf in
    let on = one_further p (path l) k.2 in
    let d = get_or (path l) (length p) 0 in
    let found = branch_with ls p d (path_letter l.stub l.ends (length p) ((in_order ls t).bytes k.0 any_leaf k.1)) (path_reached ls k.0 any_leaf (p ++ d ∷ []) k.1 on.1) in
    omega (arith, found.1)

node_has_form : (ls : List Leaf) (p : List ℕ) → HasTrie ls → is_node ls p ≡ true → IsTrieNode (node_of ls p)
unfolding node_of InOrder
node_has_form ls p t e =
    let bs = branches ls p in
    let g : List ℕ → Branch = λ q. (last_letter q, is_node ls q) in
    let size = length-map bs g in
    let pushed : (i : ℕ) → i < length bs → last_letter (get_or bs i []) ≡ 256 → get_or bs i [] ≡ p ++ 256 ∷ [] =
    λ i l is. branches_form ls p i [] l ∙ ap (λ (c : ℕ). p ++ c ∷ []) is in
    record {
      filled = omega (arith, size, node_filled ls p t e);
      letters = All-map (λ (b : Branch). b.0 ≤ END) g bs (λ i d h. branches_small ls p i d h);
      rising = AllPairs-map (λ (a b : Branch). order_of a.0 < order_of b.0) g bs [] (branches_rise ls p);
      end_is_not_alone = λ one. All-from_get_or (λ (b : Branch). b.0 < END) (map g bs) (g []) (λ i within.
          let l : i < length bs = omega (arith, within, size) in
          let q = get_or bs i [] in
          let read : (get_or (map g bs) i (g [])).0 ≡ last_letter q = ap (λ (b : Branch). b.0) (get_or-map g bs i [] (g []) l) in
          below (get_or (map g bs) i (g [])).0 (omega (arith, read, branches_small ls p i [] l))
          (λ is. omega (arith, one, size, end_is_crowded ls p t (ap (is_reached ls) (sym (pushed i l (sym read ∙ is))) ∙ branches_reached ls p i [] l))));
      end_is_a_leaf = All-from_get_or (λ (b : Branch). b.0 ≡ END → b.1 ≡ false) (map g bs) (g []) (λ i within is.
          let l : i < length bs = omega (arith, within, size) in
          let read = get_or-map g bs i [] (g []) l in
          ap (λ (b : Branch). b.1) read ∙ ap (is_node ls) (pushed i l (sym (ap (λ (b : Branch). b.0) read) ∙ is)) ∙ end_leads_to_none ls p t);
    }
  where
    below : (c : ℕ) → c ≤ 256 → (c ≡ 256 → ⊥) → c < 256
    below c le ne = elim (cases_eq c 256) [ inl same ↦ absurd (ne same) | inr other ↦ omega (arith, le, other) ]

pub trie_nodes_have_form : TrieNodesHaveForm
unfolding trie_of
trie_nodes_have_form ls t = All-map IsTrieNode (node_of ls) (nodes ls) (λ i d h. node_has_form ls (get_or (nodes ls) i d) t (nodes_pass ls t i d h))

-- ---- in sparse sections

pub order_small : (c : ℕ) → c ≤ 256 → 0 < order_of c → (c < 256) × (order_of c ≡ suc c)
order_small c le pos = elim (cases_eq c 256) [
  | inl end ↦ absurd (omega (arith, pos, ap order_of end))
  | inr other ↦ let l : c < 256 = omega (arith, le, other) in (l, order-byte c l)
]

pub forms_are_sparse : FormsAreSparse
forms_are_sparse [] f = absurd (omega (arith, f.filled))
forms_are_sparse (a ∷ []) f = f.end_is_not_alone refl 0 a (omega arith)
forms_are_sparse (a ∷ b ∷ n) f = (
  f.letters 0 a (omega arith),
  (λ is.
      let up = f.rising 0 1 a (omega arith) (omega arith) in
      let next = order_small b.0 (f.letters 1 a (omega arith)) (omega (arith, up)) in
      omega (arith, up, next.0, next.1, is, order-byte a.0 (omega (arith, is)))),
  λ k d h. (order_small (get_or (b ∷ n) k d).0 (f.letters (suc k) d (omega (arith, h))) (let up = f.rising 0 (suc k) d (omega arith) (omega (arith, h)) in omega (arith, up))).0,
)
