-- The leaves that are read rise.
use Rattle.std.proofs.Common.{◌≡◌, ℕ, suc, ◌<◌, ◌≤◌, Bool, true, false, cond, List, [], ◌∷◌, ◌++◌, drop, map, refl, ap, ◌∙◌, arith, eqb, ltb}
use Rattle.std.specs.List.{AllByRecursion}
use Rattle.std.proofs.lemmas.Bool.{and_parts, eq-eqb, ne_eqb, ltb-true, lt-ltb}
use Rattle.std.proofs.Common.{inl, inr, sym}
use Rattle.std.proofs.lemmas.Bool.{eqb-true}
use Rattle.std.specs.List.{AllPairs, Contains}
use Rattle.filter_model.proofs.Order.{Lt, Lt-to}
use Rattle.filter_model.proofs.Pairs.{AllPairs-nil, AllPairs-cons, Contains-nil, Contains-cases}
use Rattle.filter_model.specs.Leaves.{Leaf}
use Rattle.filter_model.specs.Strings.{is_before}
use Rattle.filter_model.specs.Trie.{path}
use Rattle.filter_model.specs.Nodes.{Branch, Node}
use Rattle.filter_image_model.specs.Reading.{rises}
use Rattle.trie_model.specs.Letters.{comes_before as before, order_of}
use Rattle.filter_image_model.proofs.Lists.{all_append, all_drop}
use Rattle.filter_image_model.proofs.RisingBytes.{byte_order}
use Rattle.filter_image_model.proofs.GroupWords.{Group, From, Sorted, children_in, deal, gather, join, raise}

-- letters whose orders rise from m on
abbrev pub OrderFrom : ℕ → Node → Type 0
OrderFrom m [] = Unit {0}
OrderFrom m (b ∷ n) = (m ≤ order_of b.0) × OrderFrom (suc (order_of b.0)) n

after_first : (b : Branch) (n : Node) → rises (b ∷ n) ≡ true → OrderFrom (suc (order_of b.0)) n
after_first b [] e = tt
after_first b (c ∷ n) e =
    let parts = and_parts _ (rises (c ∷ n)) e in (ltb-true _ _ parts.0, after_first c n parts.1)

pub in_rising_order : (n : Node) → rises n ≡ true → OrderFrom 0 n
in_rising_order [] e = tt
in_rising_order (b ∷ n) e = (omega arith, after_first b n e)

From-append : (m : ℕ) (g h : Group) → From m g → From m h → From m (g ++ h)
From-append m [] h v w = w
From-append m ([] ∷ g) h v w = absurd v
From-append m ((a ∷ x) ∷ g) h v w = (v.0, From-append m g h v.1 w)

From-behind : (m c : ℕ) (g : Group) → m ≤ order_of c → From m (map (λ (x : List ℕ). c ∷ x) g)
From-behind m c [] le = tt
From-behind m c (x ∷ g) le = (le, From-behind m c g le)

From-lower : (m k : ℕ) (g : Group) → m ≤ k → From k g → From m g
From-lower m k [] le w = tt
From-lower m k ([] ∷ g) le w = w
From-lower m k ((a ∷ x) ∷ g) le w = (omega (arith, le, w.0), From-lower m k g le w.1)

same_order : (a c : ℕ) → order_of a < order_of c → eqb a c ≡ false
same_order a c lt = ne_eqb a c (λ e. omega (arith, lt, ap order_of e))

before_all : (c : ℕ) (x : List ℕ) (h : Group) → From (suc (order_of c)) h → AllByRecursion (λ y. before (c ∷ x) y ≡ true) h
before_all c x [] w = tt
before_all c x ([] ∷ h) w = absurd w
before_all c x ((a ∷ y) ∷ h) w =
    (ap (λ (t : Bool). cond t (before x y) (ltb (order_of c) (order_of a))) (same_order c a (omega (arith, w.0))) ∙ lt-ltb (order_of c) (order_of a) (omega (arith, w.0)), before_all c x h w.1)

behind_before : (c : ℕ) (x : List ℕ) (g : Group) → AllByRecursion (λ y. before x y ≡ true) g → AllByRecursion (λ y. before (c ∷ x) y ≡ true) (map (λ (y : List ℕ). c ∷ y) g)
behind_before c x [] w = tt
behind_before c x (y ∷ g) w = (ap (λ (t : Bool). cond t (before x y) (ltb (order_of c) (order_of c))) (eq-eqb c c refl) ∙ w.0, behind_before c x g w.1)

sorted_behind : (c : ℕ) (g h : Group) → Sorted g → Sorted h → From (suc (order_of c)) h → Sorted (map (λ (x : List ℕ). c ∷ x) g ++ h)
sorted_behind c [] h v w f = w
sorted_behind c (x ∷ g) h v w f =
    (all_append (λ y. before (c ∷ x) y ≡ true) (map (λ (y : List ℕ). c ∷ y) g) h (behind_before c x g v.0) (before_all c x h f), sorted_behind c g h v.1 w f)

sorted_deal : (m : ℕ) (n : Node) (gs : List Group) → OrderFrom m n → AllByRecursion Sorted gs → Sorted (join (deal n gs)) × From m (join (deal n gs))
sorted_deal m [] gs o w = (tt, tt)
sorted_deal m ((c, true) ∷ n) [] o w = (tt, tt)
sorted_deal m ((c, true) ∷ n) (g ∷ gs) o w =
    let ih = sorted_deal (suc (order_of c)) n gs o.1 w.1 in (
      sorted_behind c g (join (deal n gs)) w.0 ih.0 ih.1,
      From-append m (map (λ (x : List ℕ). c ∷ x) g) (join (deal n gs)) (From-behind m c g o.0) (From-lower m (suc (order_of c)) (join (deal n gs)) (omega (arith, o.0)) ih.1),
    )
sorted_deal m ((c, false) ∷ n) [] o w =
    let ih = sorted_deal (suc (order_of c)) n [] o.1 tt in
    (sorted_behind c ([] ∷ []) (join (deal n [])) (tt, tt) ih.0 ih.1, (o.0, From-lower m (suc (order_of c)) (join (deal n [])) (omega (arith, o.0)) ih.1))
sorted_deal m ((c, false) ∷ n) (g ∷ gs) o w =
    let ih = sorted_deal (suc (order_of c)) n (g ∷ gs) o.1 w in
    (sorted_behind c ([] ∷ []) (join (deal n (g ∷ gs))) (tt, tt) ih.0 ih.1, (o.0, From-lower m (suc (order_of c)) (join (deal n (g ∷ gs))) (omega (arith, o.0)) ih.1))

sorted_raise : (ns : List Node) (gs : List Group) → AllByRecursion (OrderFrom 0) ns → AllByRecursion Sorted gs → AllByRecursion Sorted (raise ns gs)
sorted_raise [] gs o w = tt
sorted_raise (n ∷ ns) gs o w = ((sorted_deal 0 n gs o.0 w).0, sorted_raise ns (drop (children_in n) gs) o.1 (all_drop Sorted (children_in n) gs w))

pub sorted_gather : (levels : List (List Node)) → AllByRecursion (AllByRecursion (OrderFrom 0)) levels → AllByRecursion Sorted (gather levels)
sorted_gather [] o = tt
sorted_gather (l ∷ levels) o = sorted_raise l (gather levels) o.0 (sorted_gather levels o.1)

-- ---- as stubs

abbrev pub AreBytes_of : List ℕ → Type 0
AreBytes_of x = AllByRecursion (λ c. c < 256) x

abbrev pub ended : List ℕ → Bool → List ℕ
ended x e = x ++ cond e (256 ∷ []) []

stub_lt : (x y : List ℕ) (e f : Bool) → AreBytes_of x → AreBytes_of y → before (ended x e) (ended y f) ≡ true → Lt x y
stub_lt [] [] true true v w h = absurd cc
stub_lt [] [] true false v w h = absurd cc
stub_lt [] [] false f v w h = absurd cc
stub_lt [] (b ∷ y) e f v w h = tt
stub_lt (a ∷ x) [] e false v w h = absurd cc
stub_lt (a ∷ x) [] e true v w h =
    let no : eqb a 256 ≡ false = ne_eqb a 256 (λ i. omega (arith, v.0, i)) in
    let lt : ltb (order_of a) 0 ≡ true = sym (ap (λ (t : Bool). cond t (before (ended x e) []) (ltb (order_of a) 0)) no) ∙ h in
    absurd (omega (arith, ltb-true (order_of a) 0 lt))
stub_lt (a ∷ x) (b ∷ y) e f v w h = go (eqb a b) refl h (stub_lt x y e f v.1 w.1)
  where
    go : (t : Bool) → eqb a b ≡ t → cond t (before (ended x e) (ended y f)) (ltb (order_of a) (order_of b)) ≡ true
        → (before (ended x e) (ended y f) ≡ true → Lt x y) → Lt (a ∷ x) (b ∷ y)
    go true is k ih = inr (eqb-true a b is, ih k)
    go false is k ih = inl (omega (arith, ltb-true (order_of a) (order_of b) k, byte_order a v.0, byte_order b w.0))

later : (l : Leaf) (ls : List Leaf) → AreBytes_of l.stub → AllByRecursion (λ (o : Leaf). AreBytes_of o.stub) ls → AllByRecursion (λ y. before (path l) y ≡ true) (map path ls)
    → (o : Leaf) → Contains ls o → is_before l.stub o.stub ≡ true
unfolding path
later l [] v w h o c = absurd (Contains-nil o c)
later l (x ∷ ls) v w h o c = elim (Contains-cases x ls o c) [
  | inl here ↦ sym (ap (λ (z : Leaf). is_before l.stub z.stub) here) ∙ Lt-to l.stub x.stub (stub_lt l.stub x.stub l.ends x.ends v w.0 h.0)
  | inr there ↦ later l ls v w.1 h.1 o there
]

-- leaves whose paths are sorted rise
pub rising_leaves : (ls : List Leaf) → AllByRecursion (λ (l : Leaf). AreBytes_of l.stub) ls → Sorted (map path ls) → AllPairs (λ a b. is_before a.stub b.stub ≡ true) ls
rising_leaves [] w s = AllPairs-nil (λ a b. is_before a.stub b.stub ≡ true)
rising_leaves (l ∷ ls) w s = AllPairs-cons (λ a b. is_before a.stub b.stub ≡ true) l ls (later l ls w.0 w.1 s.0) (rising_leaves ls w.1 s.1)
