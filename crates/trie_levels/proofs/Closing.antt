-- The levels of one leaf more, in their order: what is new stands first.
use Rattle.std.proofs.Common.{◌≡◌, ◌<◌, ◌≤◌, ◌⊎◌, ◌==◌, ◌||◌, ℕ, zero, suc, List, [], ◌∷◌, ◌++◌, Bool, true, false, cond, length, take, drop, get_or, map, refl, sym, ap, subst, ◌∙◌, arith, inl, inr}
use Rattle.std.specs.Prelude.{filter, flat_map}
use Rattle.std.specs.List.{AllPairs, Contains, list_any}
use Rattle.std.proofs.Math.Seq.{take-suc}
use Rattle.std.proofs.lemmas.Bool.{cases_lt, and_parts, eqb-true, or_cases, or_left, or_right, false≢true, false_from_ne_true}
use Rattle.std.proofs.lemmas.List.{length-take, length-take-le, length_push, take_all}
use Rattle.std.proofs.lemmas.List.Elements.{All-head, All-tail}
use Rattle.byte_fields.specs.Spelling.{IsBytes}
use Rattle.filter_model.specs.Leaves.{Leaf}
use Rattle.filter_model.specs.Strings.{extends, is_prefix, shared}
use Rattle.filter_model.specs.Trie.{branches, is_node, is_reached, letters, level, path}
use Rattle.filter_model.proofs.Counts.{AllPairs-head, AllPairs-tail}
use Rattle.filter_model.proofs.Levels.{node_is_reached}
use Rattle.filter_model.proofs.Pairs.{Contains-cases, Contains-first, Contains-map_back, Contains-nil}
use Rattle.filter_model.proofs.Shared.{extends-itself, extends-prefix, extends_longer, is_prefix-take, shared-le, shared_sym}
use Rattle.filter_model.proofs.Stubs.{Contains-more}
use Rattle.trie_levels.specs.Neighbours.{level_branches}
use Rattle.trie_levels.proofs.Distinct.{Apart}
use Rattle.trie_levels.proofs.Growth.{AreInOrder, Leaves, Stands, branches_once, in_order-tail, leaves_part, leaves_rest, nodes_once, path_filled, shared_first, take_extends}
use Rattle.trie_levels.proofs.LevelSets.{Contains-letter, branch_is, extends_before, node_before, path_letter}
use Rattle.trie_levels.proofs.Letters.{before_in_order, bytes_rise}
use Rattle.trie_levels.proofs.Parting.{prefix_is_take, prefix_of_shared, shared_of_prefix}
use Rattle.trie_model.specs.Letters.{order_of}

-- ---- lists

pub filter_same : {X : Type 0} (p q : X → Bool) (xs : List X) → ((x : X) → Contains xs x → p x ≡ q x) → filter p xs ≡ filter q xs
filter_same p q [] h = refl
filter_same {X} p q (x ∷ xs) h =
    (λ i. cond (h x (Contains-first x xs) i) (x ∷ filter_same p q xs (λ y c. h y (Contains-more x xs y c)) i) (filter_same p q xs (λ y c. h y (Contains-more x xs y c)) i))

pub flat_map_same : {X Y : Type 0} (f g : X → List Y) (xs : List X) → ((x : X) → Contains xs x → f x ≡ g x) → flat_map f xs ≡ flat_map g xs
flat_map_same f g [] h = refl
flat_map_same f g (x ∷ xs) h = λ i. h x (Contains-first x xs) i ++ flat_map_same f g xs (λ y c. h y (Contains-more x xs y c)) i

map_kept : {X Y : Type 0} (b : Bool) (f : X → Y) (x : X) (xs : List X) → cond b (f x ∷ map f xs) (map f xs) ≡ map f (cond b (x ∷ xs) xs)
map_kept true f x xs = refl
map_kept false f x xs = refl

pub filter_map_of : {X Y : Type 0} (p : Y → Bool) (f : X → Y) (xs : List X) → filter p (map f xs) ≡ map f (filter (λ x. p (f x)) xs)
filter_map_of p f [] = refl
filter_map_of {X} {Y} p f (x ∷ xs) =
    ap (λ (l : List Y). cond (p (f x)) (f x ∷ l) l) (filter_map_of p f xs) ∙ map_kept (p (f x)) f x (filter (λ x. p (f x)) xs)

pub filter_yes : {X : Type 0} (p : X → Bool) (x : X) (xs : List X) → p x ≡ true → filter p (x ∷ xs) ≡ x ∷ filter p xs
filter_yes {X} p x xs e = ap (λ (b : Bool). cond b (x ∷ filter p xs) (filter p xs)) e

pub filter_no : {X : Type 0} (p : X → Bool) (x : X) (xs : List X) → p x ≡ false → filter p (x ∷ xs) ≡ filter p xs
filter_no {X} p x xs e = ap (λ (b : Bool). cond b (x ∷ filter p xs) (filter p xs)) e

-- a test that passes z too, which stands before all that passed
record PassesToo (xs : List ℕ) (test later : ℕ → Bool) (z : ℕ) : Type 0 where
  held : Contains xs z
  new : later z ≡ true
  old : test z ≡ false
  only : (x : ℕ) → Contains xs x → later x ≡ true → (x ≡ z) ⊎ (test x ≡ true)
  kept : (x : ℕ) → test x ≡ true → later x ≡ true
  first : (x : ℕ) → Contains xs x → test x ≡ true → order_of z < order_of x

abbrev InLetters : List ℕ → Type 0
InLetters xs = AllPairs (λ (c d : ℕ). order_of c < order_of d) xs

passed_first : (xs : List ℕ) (test later : ℕ → Bool) (z : ℕ) → InLetters xs → PassesToo xs test later z → filter later xs ≡ z ∷ filter test xs
passed_first [] test later z rise h = absurd (Contains-nil z h.held)
passed_first (x ∷ xs) test later z rise h = elim (Contains-cases x xs z h.held) [
  | inl here ↦
      let passes : later x ≡ true = ap later here ∙ h.new in
      let fails : test x ≡ false = ap test here ∙ h.old in
      filter_yes later x xs passes
      ∙ (λ i. here i ∷ filter_same later test xs (λ y c. behind here y c) i)
      ∙ ap (λ (l : List ℕ). z ∷ l) (sym (filter_no test x xs fails))
  | inr there ↦
      let above = AllPairs-head (λ (c d : ℕ). order_of c < order_of d) x xs rise z there in
      let fails : test x ≡ false = false_from_ne_true (test x) (λ e. omega (arith, above, h.first x (Contains-first x xs) e)) in
      let not_later : later x ≡ false = false_from_ne_true (later x) (λ e. elim (h.only x (Contains-first x xs) e) [
        | inl same ↦ omega (arith, above, ap order_of same)
        | inr passed ↦ false≢true (sym fails ∙ passed)
      ]) in
      filter_no later x xs not_later
      ∙ passed_first xs test later z (AllPairs-tail (λ (c d : ℕ). order_of c < order_of d) x xs rise) (record {
        held = there;
        new = h.new;
        old = h.old;
        only = λ y c e. h.only y (Contains-more x xs y c) e;
        kept = h.kept;
        first = λ y c e. h.first y (Contains-more x xs y c) e;
      })
      ∙ ap (λ (l : List ℕ). z ∷ l) (sym (filter_no test x xs fails))
]
  where
    behind : x ≡ z → (y : ℕ) → Contains xs y → later y ≡ test y
    behind here y c =
        let above = AllPairs-head (λ (c d : ℕ). order_of c < order_of d) x xs rise y c in
        same_bool (later y) (test y) (h.kept y) (λ e. elim (h.only y (Contains-more x xs y c) e) [
          | inl same ↦ absurd (omega (arith, above, ap order_of same, ap order_of here))
          | inr passed ↦ passed
        ])
      where
        same_bool : (a b : Bool) → (b ≡ true → a ≡ true) → (a ≡ true → b ≡ true) → a ≡ b
        same_bool true b f g = sym (g refl)
        same_bool false true f g = f refl
        same_bool false false f g = refl

-- ---- what is reached

pub reached_in : (ls : List Leaf) (q : List ℕ) (m : Leaf) → Contains ls m → is_prefix q (path m) ≡ true → is_reached ls q ≡ true
unfolding is_reached
reached_in [] q m c e = absurd (Contains-nil m c)
reached_in (l ∷ ls) q m c e = elim (Contains-cases l ls m c) [
  | inl here ↦ or_left (is_prefix q (path l)) (list_any (λ l. is_prefix q (path l)) ls) (ap (λ (x : Leaf). is_prefix q (path x)) here ∙ e)
  | inr there ↦ or_right (is_prefix q (path l)) (list_any (λ l. is_prefix q (path l)) ls) (reached_in ls q m there e)
]

record Reaches (ls : List Leaf) (q : List ℕ) : Type 0 where
  leaf : Leaf
  held : Contains ls leaf
  begins : is_prefix q (path leaf) ≡ true

reaching : (ls : List Leaf) (q : List ℕ) → is_reached ls q ≡ true → Reaches ls q
unfolding is_reached
reaching [] q e = absurd (false≢true e)
reaching (l ∷ ls) q e = elim (or_cases (is_prefix q (path l)) (list_any (λ l. is_prefix q (path l)) ls) e) [
  | inl here ↦ record { leaf = l; held = Contains-first l ls; begins = here }
  | inr there ↦ let r = reaching ls q there in record { leaf = r.leaf; held = Contains-more l ls r.leaf r.held; begins = r.begins }
]

reached-cons : (l : Leaf) (ls : List Leaf) (q : List ℕ) → is_reached (l ∷ ls) q ≡ (is_prefix q (path l) || is_reached ls q)
unfolding is_reached
reached-cons l ls q = refl

pub node-cons : (l : Leaf) (ls : List Leaf) (q : List ℕ) → is_node (l ∷ ls) q ≡ (extends q (path l) || is_node ls q)
unfolding is_node
node-cons l ls q = refl

pub or_same : (a b : Bool) → (a ≡ true → b ≡ true) → (a || b) ≡ b
or_same true b h = sym (h refl)
or_same false b h = refl

-- q and a letter begin x: q is its first letters, and then the letter
prefix_at : (q x : List ℕ) (c : ℕ) → is_prefix (q ++ c ∷ []) x ≡ true → get_or x (length q) 0 ≡ c
prefix_at [] [] c e = absurd (false≢true e)
prefix_at [] (b ∷ x) c e = sym (eqb-true c b (and_parts (c == b) true e).0)
prefix_at (a ∷ q) [] c e = absurd (false≢true e)
prefix_at (a ∷ q) (b ∷ x) c e = prefix_at q x c (and_parts (a == b) (is_prefix (q ++ c ∷ []) x) e).1

-- ---- the branches of a prefix

branches-letters : (ls : List Leaf) (q : List ℕ) → branches ls q ≡ map (λ c. q ++ c ∷ []) (filter (λ c. is_reached ls (q ++ c ∷ [])) letters)
unfolding branches
branches-letters ls q = filter_map_of (is_reached ls) (λ c. q ++ c ∷ []) letters

-- the path of the leaf does not go on from q
pub branches_kept : (l : Leaf) (ls : List Leaf) (q : List ℕ) → extends q (path l) ≡ false → branches (l ∷ ls) q ≡ branches ls q
unfolding branches
branches_kept l ls q not_on =
    filter_same (is_reached (l ∷ ls)) (is_reached ls) (map (λ c. q ++ c ∷ []) letters)
    (λ r c.
    let letter = Contains-map_back (λ c. q ++ c ∷ []) letters r c in
    subst (λ (x : List ℕ). is_reached (l ∷ ls) x ≡ is_reached ls x) letter.2
    (reached-cons l ls (q ++ letter.0 ∷ [])
    ∙ or_same (is_prefix (q ++ letter.0 ∷ []) (path l)) (is_reached ls (q ++ letter.0 ∷ [])) (λ e. absurd (false≢true (sym not_on ∙ extends_before q (path l) letter.0 e)))))

-- it goes on from its first n letters by a branch that is there
pub branches_shared : (l : Leaf) (ls : List Leaf) (s n : ℕ) → Leaves ls (path l) s → n < s → branches (l ∷ ls) (take n (path l)) ≡ branches ls (take n (path l))
unfolding branches
branches_shared l ls s n h less =
    let q = take n (path l) in
    filter_same (is_reached (l ∷ ls)) (is_reached ls) (map (λ c. q ++ c ∷ []) letters)
    (λ r c.
    reached-cons l ls r
    ∙ or_same (is_prefix r (path l)) (is_reached ls r) (λ e.
    let letter = Contains-map_back (λ c. q ++ c ∷ []) letters r c in
    let long : length r ≡ suc n = omega (arith, ap (length {A = ℕ}) (sym letter.2), length_push q letter.0, length-take n (path l), h.inside) in
    let is : take (suc n) (path l) ≡ r = ap (λ (k : ℕ). take k (path l)) (sym long) ∙ (prefix_is_take r (path l) e).1 in
    subst (λ (x : List ℕ). is_reached ls x ≡ true) is (h.reached (suc n) (omega arith) (omega arith))))

-- or by a new one, which stands before all others
letters_part : (a b : Leaf) (n : ℕ) → IsBytes b.stub → Stands a b → shared a.stub b.stub ≡ n → order_of (get_or (path a) n 0) < order_of (get_or (path b) n 0)
unfolding path
letters_part a b n bytes stands same = before_in_order a.stub b.stub a.ends b.ends n stands.before bytes stands.ends same

letter_small : (l : Leaf) (n : ℕ) → IsBytes l.stub → get_or (path l) n 0 ≤ 256
unfolding path
letter_small l n h = path_letter l.stub l.ends n h

goes_on : (l : Leaf) (ls : List Leaf) (s n c : ℕ) → AreInOrder (l ∷ ls) → Leaves ls (path l) s → s ≤ n → n < length (path l)
    → is_reached ls (take n (path l) ++ c ∷ []) ≡ true → order_of (get_or (path l) n 0) < order_of c
goes_on l ls s n c h v from within e =
    let r = reaching ls (take n (path l) ++ c ∷ []) e in
    let stands = AllPairs-head Stands l ls h.pairs r.leaf r.held in
    let bytes : IsBytes r.leaf.stub = held_bytes r.leaf r.held in
    let part = leaves_part l r.leaf bytes stands in
    let p = path l in
    let q = take n p in
    let long : length q ≡ n = omega (arith, length-take n p, within) in
    let begins : is_prefix q (path r.leaf) ≡ true = extends-prefix q (path r.leaf) (extends_before q (path r.leaf) c r.begins) in
    let at_least = shared_of_prefix n p (path r.leaf) (omega (arith, within)) begins in
    let at_most : shared (path r.leaf) p < suc n = elim (cases_lt (shared (path r.leaf) p) (suc n)) [
      | inl less ↦ less
      | inr more ↦ absurd (false≢true (sym (v.apart (suc n) (omega arith) (omega arith)) ∙ reached_in ls (take (suc n) p) r.leaf r.held (prefix_of_shared (suc n) p (path r.leaf) more)))
    ] in
    let same : shared l.stub r.leaf.stub ≡ n = omega (arith, part.at, shared_sym (path r.leaf) p, at_least, at_most) in
    let letter : get_or (path r.leaf) n 0 ≡ c = ap (λ (k : ℕ). get_or (path r.leaf) k 0) (sym long) ∙ prefix_at q (path r.leaf) c r.begins in
    omega (arith, letters_part l r.leaf n bytes stands same, ap order_of letter)
  where
    held_bytes : (o : Leaf) → Contains ls o → IsBytes o.stub
    held_bytes o c = subst (λ (x : Leaf). IsBytes x.stub) c.2 (All-tail (λ l. IsBytes l.stub) l ls h.bytes c.0 o c.1)

pub branches_new : (l : Leaf) (ls : List Leaf) (s n : ℕ) → AreInOrder (l ∷ ls) → Leaves ls (path l) s → s ≤ n → n < length (path l)
    → branches (l ∷ ls) (take n (path l)) ≡ take (suc n) (path l) ∷ branches ls (take n (path l))
branches_new l ls s n h v from within =
    let p = path l in
    let q = take n p in
    let c = get_or p n 0 in
    let whole : q ++ c ∷ [] ≡ take (suc n) p = sym (take-suc p n 0 within) in
    let none : is_reached ls (q ++ c ∷ []) ≡ false = ap (is_reached ls) whole ∙ v.apart (suc n) (omega arith) (omega arith) in
    branches-letters (l ∷ ls) q
    ∙ ap (map (λ c. q ++ c ∷ [])) (passed_first letters (λ c. is_reached ls (q ++ c ∷ [])) (λ c. is_reached (l ∷ ls) (q ++ c ∷ [])) c bytes_rise (record {
      held = Contains-letter c (letter_small l n (All-head (λ l. IsBytes l.stub) l ls h.bytes));
      new = reached-cons l ls (q ++ c ∷ []) ∙ or_left (is_prefix (q ++ c ∷ []) p) (is_reached ls (q ++ c ∷ [])) (ap (λ (x : List ℕ). is_prefix x p) whole ∙ is_prefix-take (suc n) p);
      old = none;
      only = λ x k e. elim (or_cases (is_prefix (q ++ x ∷ []) p) (is_reached ls (q ++ x ∷ [])) (sym (reached-cons l ls (q ++ x ∷ [])) ∙ e)) [
        | inl here ↦ inl (sym (prefix_at q p x here) ∙ ap (λ (k : ℕ). get_or p k 0) (long n p within))
        | inr there ↦ inr there
      ];
      kept = λ x e. reached-cons l ls (q ++ x ∷ []) ∙ or_right (is_prefix (q ++ x ∷ []) p) (is_reached ls (q ++ x ∷ [])) e;
      first = λ x k e. goes_on l ls s n x h v from within e;
    }))
    ∙ (λ i. whole i ∷ sym (branches-letters ls q) i)
  where
    long : (n : ℕ) (p : List ℕ) → n < length p → length (take n p) ≡ n
    long n p h = omega (arith, length-take n p)

-- ---- the levels

-- what the leaf brings to level n, and to its branches
pub record LevelStep (l : Leaf) (ls : List Leaf) (s n : ℕ) : Type 0 where
  pub shared : n ≤ s → level (l ∷ ls) n ≡ level ls n
  pub past : length (path l) ≤ n → level (l ∷ ls) n ≡ level ls n
  pub new : s < n → n < length (path l) → level (l ∷ ls) n ≡ take n (path l) ∷ level ls n

pub record BranchStep (l : Leaf) (ls : List Leaf) (s n : ℕ) : Type 0 where
  pub shared : n < s → level_branches (l ∷ ls) n ≡ level_branches ls n
  pub past : length (path l) ≤ n → level_branches (l ∷ ls) n ≡ level_branches ls n
  pub new : s ≤ n → n < length (path l) → level_branches (l ∷ ls) n ≡ take (suc n) (path l) ∷ level_branches ls n

-- a level that begins with q
pub record Begins (ls : List Leaf) (n : ℕ) (q : List ℕ) : Type 0 where
  pub rest : List (List ℕ)
  pub whole : level ls n ≡ q ∷ rest

-- a node of the others that the leaf's path goes on from is the path's first letters
pub node_elsewhere : (l : Leaf) (ls : List Leaf) (s n : ℕ) (q : List ℕ) → AreInOrder (l ∷ ls) → Leaves ls (path l) s → s < n → Contains (level ls n) q → extends q (path l) ≡ false
node_elsewhere l ls s zero q h v from c = absurd (omega arith)
node_elsewhere l ls s (suc n) q h v from c =
    let node = (nodes_once ls n (in_order-tail l ls h)).sound q c in
    false_from_ne_true (extends q (path l)) (λ e.
    let is = prefix_is_take q (path l) (extends-prefix q (path l) e) in
    let at : take (suc n) (path l) ≡ q = ap (λ (k : ℕ). take k (path l)) (sym node.0) ∙ is.1 in
    false≢true (sym (v.apart (suc n) from (omega (arith, is.0, node.0))) ∙ ap (is_reached ls) at ∙ node_is_reached ls q node.1))

pub level-zero : (ls : List Leaf) → level ls 0 ≡ [] ∷ []
unfolding level
level-zero ls = refl

pub level-suc : (ls : List Leaf) (n : ℕ) → level ls (suc n) ≡ filter (is_node ls) (level_branches ls n)
unfolding level level_branches
level-suc ls n = refl

pub level_branches-is : (ls : List Leaf) (n : ℕ) → level_branches ls n ≡ flat_map (branches ls) (level ls n)
unfolding level_branches
level_branches-is ls n = refl

-- nodes too long or apart keep their branches
others_kept : (l : Leaf) (ls : List Leaf) (qs : List (List ℕ)) → ((q : List ℕ) → Contains qs q → extends q (path l) ≡ false) → flat_map (branches (l ∷ ls)) qs ≡ flat_map (branches ls) qs
others_kept l ls qs h = flat_map_same (branches (l ∷ ls)) (branches ls) qs (λ q c. branches_kept l ls q (h q c))

pub none_by_height : (l : Leaf) (ls : List Leaf) (n : ℕ) (q : List ℕ) → AreInOrder (l ∷ ls) → length (path l) ≤ n → Contains (level ls n) q → extends q (path l) ≡ false
none_by_height l ls n q h past c = false_from_ne_true (extends q (path l)) (λ e. omega (arith, extends_longer q (path l) e, long n past c, past))
  where
    long : (n : ℕ) → length (path l) ≤ n → Contains (level ls n) q → length q ≡ n
    long zero past c = absurd (omega (arith, past, path_filled l (All-head (λ l. 0 < length l.stub) l ls h.filled)))
    long (suc n) past c = ((nodes_once ls n (in_order-tail l ls h)).sound q c).0

-- behind the first node of the others there is none like it
pub rest_kept : (l : Leaf) (ls : List Leaf) (n : ℕ) (rest : List (List ℕ)) → AreInOrder (l ∷ ls) → n < length (path l) → level ls n ≡ take n (path l) ∷ rest
    → (q : List ℕ) → Contains rest q → extends q (path l) ≡ false
rest_kept l ls zero rest h within e q c =
    absurd (Contains-nil q (subst (λ (xs : List (List ℕ)). Contains xs q) (sym (ap (drop 1) (sym (level-zero ls) ∙ e))) c))
rest_kept l ls (suc n) rest h within e q c =
    let once = nodes_once ls n (in_order-tail l ls h) in
    let first = take (suc n) (path l) in
    let long = (once.sound q (subst (λ (xs : List (List ℕ)). Contains xs q) (sym e) (Contains-more first rest q c))).0 in
    let apart = AllPairs-head Apart first rest (subst (AllPairs Apart) e once.distinct) q c in
    false_from_ne_true (extends q (path l)) (λ e.
    apart (ap (λ (k : ℕ). take k (path l)) (sym long) ∙ (prefix_is_take q (path l) (extends-prefix q (path l) e)).1))

-- ---- from the nodes of a level to its branches

pub none_held : (xs : List (List ℕ)) → ((r : List ℕ) → Contains xs r → ⊥) → xs ≡ []
none_held [] k = refl
none_held (x ∷ xs) k = absurd (k x (Contains-first x xs))

pub no_branches_there : (l : Leaf) (ls : List Leaf) (s n : ℕ) → Leaves ls (path l) s → s < n → n < length (path l) → branches ls (take n (path l)) ≡ []
no_branches_there l ls s n v below within =
    none_held (branches ls (take n (path l))) (λ r c.
    let b = branch_is ls (take n (path l)) r c in
    let e : is_reached ls (take n (path l) ++ b.0 ∷ []) ≡ true = ap (is_reached ls) b.1 ∙ b.2 in
    let node = node_before ls (take n (path l)) b.0 e in
    false≢true (sym (v.apart n below (omega (arith, within))) ∙ node_is_reached ls (take n (path l)) node))

branch_step : (l : Leaf) (ls : List Leaf) (s n : ℕ) → AreInOrder (l ∷ ls) → Leaves ls (path l) s → (n ≤ s → Begins ls n (take n (path l))) → LevelStep l ls s n → BranchStep l ls s n
branch_step l ls s n h v first step = record {
  shared = λ less.
      let b = first (omega (arith, less)) in
      level_branches-is (l ∷ ls) n
      ∙ ap (flat_map (branches (l ∷ ls))) (step.shared (omega (arith, less)) ∙ b.whole)
      ∙ (λ i. branches_shared l ls s n v less i ++ others_kept l ls b.rest (rest_kept l ls n b.rest h (omega (arith, less, v.inside)) b.whole) i)
      ∙ ap (flat_map (branches ls)) (sym b.whole)
      ∙ sym (level_branches-is ls n);
  past = λ long.
      level_branches-is (l ∷ ls) n
      ∙ ap (flat_map (branches (l ∷ ls))) (step.past long)
      ∙ others_kept l ls (level ls n) (λ q c. none_by_height l ls n q h long c)
      ∙ sym (level_branches-is ls n);
  new = λ from within. elim (cases_lt s n) [
    | inl below ↦
        level_branches-is (l ∷ ls) n
        ∙ ap (flat_map (branches (l ∷ ls))) (step.new below within)
        ∙ (λ i. branches_new l ls s n h v from within i ++ others_kept l ls (level ls n) (λ q c. node_elsewhere l ls s n q h v below c) i)
        ∙ (λ i. take (suc n) (path l) ∷ no_branches_there l ls s n v below within i ++ sym (level_branches-is ls n) i)
    | inr same ↦
        let b = first (omega (arith, same)) in
        level_branches-is (l ∷ ls) n
        ∙ ap (flat_map (branches (l ∷ ls))) (step.shared (omega (arith, same)) ∙ b.whole)
        ∙ (λ i. branches_new l ls s n h v from within i ++ others_kept l ls b.rest (rest_kept l ls n b.rest h within b.whole) i)
        ∙ ap (λ (qs : List (List ℕ)). take (suc n) (path l) ∷ flat_map (branches ls) qs) (sym b.whole)
        ∙ ap (λ (qs : List (List ℕ)). take (suc n) (path l) ∷ qs) (sym (level_branches-is ls n))
  ];
}

-- ---- and to the nodes of the next one

nodes_kept : (l : Leaf) (ls : List Leaf) (s n : ℕ) → AreInOrder (l ∷ ls) → Leaves ls (path l) s → filter (is_node (l ∷ ls)) (level_branches ls n) ≡ filter (is_node ls) (level_branches ls n)
nodes_kept l ls s n h v =
    filter_same (is_node (l ∷ ls)) (is_node ls) (level_branches ls n) (λ r c.
    let is = (branches_once ls n (in_order-tail l ls h)).sound r c in
    node-cons l ls r
    ∙ or_same (extends r (path l)) (is_node ls r) (λ e.
    let t = prefix_is_take r (path l) (extends-prefix r (path l) e) in
    let at : take (suc n) (path l) ≡ r = ap (λ (k : ℕ). take k (path l)) (sym is.0) ∙ t.1 in
    elim (cases_lt s (suc n)) [
      | inl more ↦ absurd (false≢true (sym (v.apart (suc n) more (omega (arith, t.0, is.0))) ∙ ap (is_reached ls) at ∙ is.1))
      | inr most ↦ ap (is_node ls) (sym at) ∙ v.goes_on (suc n) (omega arith) (omega (arith, most))
    ]))

pub path_is_no_node : (l : Leaf) (ls : List Leaf) (s : ℕ) → AreInOrder (l ∷ ls) → Leaves ls (path l) s → is_node (l ∷ ls) (path l) ≡ false
path_is_no_node l ls s h v =
    node-cons l ls (path l)
    ∙ ap (λ (b : Bool). b || is_node ls (path l)) (false_from_ne_true (extends (path l) (path l)) (extends-itself (path l)))
    ∙ false_from_ne_true (is_node ls (path l)) (λ e. false≢true (sym (v.apart (length (path l)) v.inside (omega arith)) ∙ ap (is_reached ls) (take_all (length (path l)) (path l) (omega arith)) ∙ node_is_reached ls (path l) e))

-- what another leaf reaches is a node where it was
pub flag_kept : (l : Leaf) (ls : List Leaf) (s : ℕ) (r : List ℕ) → Leaves ls (path l) s → 0 < length r → is_reached ls r ≡ true → is_node (l ∷ ls) r ≡ is_node ls r
flag_kept l ls s r v some reached =
    node-cons l ls r
    ∙ or_same (extends r (path l)) (is_node ls r) (λ e.
    let t = prefix_is_take r (path l) (extends-prefix r (path l) e) in
    elim (cases_lt s (length r)) [
      | inl more ↦ absurd (false≢true (sym (v.apart (length r) more t.0) ∙ ap (is_reached ls) t.1 ∙ reached))
      | inr most ↦ ap (is_node ls) (sym t.1) ∙ v.goes_on (length r) some most
    ])

pub goes_on_further : (l : Leaf) (ls : List Leaf) (n : ℕ) → n < length (path l) → is_node (l ∷ ls) (take n (path l)) ≡ true
goes_on_further l ls n within =
    node-cons l ls (take n (path l)) ∙ or_left (extends (take n (path l)) (path l)) (is_node ls (take n (path l))) (take_extends n (path l) within)

level_step : (l : Leaf) (ls : List Leaf) (s n : ℕ) → AreInOrder (l ∷ ls) → Leaves ls (path l) s → BranchStep l ls s n → LevelStep l ls s (suc n)
level_step l ls s n h v step = record {
  shared = λ most. level-suc (l ∷ ls) n ∙ ap (filter (is_node (l ∷ ls))) (step.shared (omega (arith, most))) ∙ nodes_kept l ls s n h v ∙ sym (level-suc ls n);
  past = λ long. elim (cases_lt n (length (path l))) [
    | inl last ↦
        let is : take (suc n) (path l) ≡ path l = take_all (suc n) (path l) long in
        level-suc (l ∷ ls) n
        ∙ ap (filter (is_node (l ∷ ls))) (step.new (omega (arith, last, long, v.inside)) last)
        ∙ filter_no (is_node (l ∷ ls)) (take (suc n) (path l)) (level_branches ls n) (ap (is_node (l ∷ ls)) is ∙ path_is_no_node l ls s h v)
        ∙ nodes_kept l ls s n h v
        ∙ sym (level-suc ls n)
    | inr past ↦ level-suc (l ∷ ls) n ∙ ap (filter (is_node (l ∷ ls))) (step.past past) ∙ nodes_kept l ls s n h v ∙ sym (level-suc ls n)
  ];
  new = λ below within.
      level-suc (l ∷ ls) n
      ∙ ap (filter (is_node (l ∷ ls))) (step.new (omega (arith, below)) (omega (arith, within)))
      ∙ filter_yes (is_node (l ∷ ls)) (take (suc n) (path l)) (level_branches ls n)
      (node-cons l ls (take (suc n) (path l)) ∙ or_left (extends (take (suc n) (path l)) (path l)) (is_node ls (take (suc n) (path l))) (take_extends (suc n) (path l) within))
      ∙ ap (λ (qs : List (List ℕ)). take (suc n) (path l) ∷ qs) (nodes_kept l ls s n h v ∙ sym (level-suc ls n));
}

root_step : (l : Leaf) (ls : List Leaf) (s : ℕ) → AreInOrder (l ∷ ls) → LevelStep l ls s 0
root_step l ls s h = record {
  shared = λ most. level-zero (l ∷ ls) ∙ sym (level-zero ls);
  past = λ long. absurd (omega (arith, long, path_filled l (All-head (λ l. 0 < length l.stub) l ls h.filled)));
  new = λ below within. absurd (omega (arith, below));
}

-- both, given that a level of the others begins with what it shares
pub steps : (l : Leaf) (ls : List Leaf) (s n : ℕ) → AreInOrder (l ∷ ls) → Leaves ls (path l) s → ((k : ℕ) → k ≤ s → Begins ls k (take k (path l))) → LevelStep l ls s n × BranchStep l ls s n
steps l ls s zero h v first = let at = root_step l ls s h in (at, branch_step l ls s 0 h v (first 0) at)
steps l ls s (suc n) h v first =
    let before = (steps l ls s n h v first).1 in
    let at = level_step l ls s n h v before in
    (at, branch_step l ls s (suc n) h v (first (suc n)) at)

-- a level begins with the first leaf's letters
first_of : (l : Leaf) (ls : List Leaf) → AreInOrder (l ∷ ls) → ((k : ℕ) → k ≤ shared_first l ls → Begins ls k (take k (path l))) → (n : ℕ) → n < length (path l) → Begins (l ∷ ls) n (take n (path l))
first_of l ls h shares n within =
    let step = (steps l ls (shared_first l ls) n h (leaves_rest l ls h) shares).0 in
    elim (cases_lt (shared_first l ls) n) [
      | inl below ↦ record { rest = level ls n; whole = step.new below within }
      | inr most ↦ let b = shares n most in record { rest = b.rest; whole = step.shared most ∙ b.whole }
    ]

shared_none : (l : Leaf) (k : ℕ) → k ≤ 0 → Begins [] k (take k (path l))
shared_none l zero most = record { rest = []; whole = level-zero [] }
shared_none l (suc k) most = absurd (omega arith)

same_first : (n : ℕ) (x y : List ℕ) → n ≤ shared x y → take n x ≡ take n y
same_first n x y h =
    let pre = prefix_is_take (take n y) x (prefix_of_shared n y x h) in
    ap (λ (k : ℕ). take k x) (sym (length-take-le n y (omega (arith, h, shared-le y x, shared_sym x y)))) ∙ pre.1

shared_of_rest : (l m : Leaf) (ls : List Leaf) → AreInOrder (l ∷ m ∷ ls) → ((k : ℕ) → k < length (path m) → Begins (m ∷ ls) k (take k (path m)))
    → (k : ℕ) → k ≤ shared l.stub m.stub → Begins (m ∷ ls) k (take k (path l))
shared_of_rest l m ls h first n most =
    let part = leaves_part l m (All-head (λ l. IsBytes l.stub) m ls (All-tail (λ l. IsBytes l.stub) l (m ∷ ls) h.bytes)) (AllPairs-head Stands l (m ∷ ls) h.pairs m (Contains-first m ls)) in
    let b = first n (omega (arith, part.second, most)) in
    record { rest = b.rest; whole = b.whole ∙ ap (λ (q : List ℕ). q ∷ b.rest) (same_first n (path m) (path l) (omega (arith, most, part.at, shared_sym (path l) (path m)))) }

pub begins_first : (l : Leaf) (ls : List Leaf) → AreInOrder (l ∷ ls) → (n : ℕ) → n < length (path l) → Begins (l ∷ ls) n (take n (path l))
begins_first l [] h = first_of l [] h (shared_none l)
begins_first l (m ∷ ls) h = first_of l (m ∷ ls) h (shared_of_rest l m ls h (begins_first m ls (in_order-tail l (m ∷ ls) h)))

pub begins_shared : (l : Leaf) (ls : List Leaf) → AreInOrder (l ∷ ls) → (n : ℕ) → n ≤ shared_first l ls → Begins ls n (take n (path l))
begins_shared l [] h = shared_none l
begins_shared l (m ∷ ls) h = shared_of_rest l m ls h (begins_first m ls (in_order-tail l (m ∷ ls) h))

pub level_steps : (l : Leaf) (ls : List Leaf) (n : ℕ) → AreInOrder (l ∷ ls) → LevelStep l ls (shared_first l ls) n × BranchStep l ls (shared_first l ls) n
level_steps l ls n h = steps l ls (shared_first l ls) n h (leaves_rest l ls h) (begins_shared l ls h)
