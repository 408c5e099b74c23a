use Rattle.std.proofs.Common.{◌≡◌, ℕ, zero, suc, ◌<◌, ◌==◌, List, [], ◌∷◌, ◌++◌, length, get_or, refl, ap, sym, ◌∙◌, arith, Bool, true, false, inl, inr, add-one}
use Rattle.std.specs.Prelude.{filter, flat_map}
use Rattle.std.proofs.lemmas.List.Concat.{flat_map-append}
use Rattle.std.proofs.lemmas.List.Elements.{filter-append, All-filter, All-map, All-nil, All-cons, All-append, All-head, All-tail, All-weaker}
use Rattle.std.specs.List.{All}
use Rattle.std.proofs.lemmas.Bool.{false≢true, and_parts, or_cases, false_from_ne_true}
use Rattle.std.proofs.lemmas.List.{length_push, append-nil}
use Rattle.filter_model.specs.Leaves.{Leaf}
use Rattle.filter_model.specs.Strings.{extends}
use Rattle.filter_model.specs.Trie.{letters, is_node, is_reached, nodes_to, nodes, level, places, path, height, branches}

-- the nodes of n + 1 levels are the root and the branches of n levels that go on
pub nodes_to-suc : (ls : List Leaf) (n : ℕ) → nodes_to ls (suc n) ≡ [] ∷ filter (is_node ls) (flat_map (branches ls) (nodes_to ls n))
unfolding nodes_to level
nodes_to-suc ls zero = refl
nodes_to-suc ls (suc n) =
    ap (λ (y : List (List ℕ)). y ++ level ls (suc n)) (nodes_to-suc ls n)
    ∙ ap (λ (y : List (List ℕ)). [] ∷ y) (sym (ap (filter (is_node ls)) (flat_map-append (branches ls) (nodes_to ls n) (level ls n)) ∙ filter-append (is_node ls) (flat_map (branches ls) (nodes_to ls n)) (flat_map (branches ls) (level ls n))))

extends_longer : (p x : List ℕ) → extends p x ≡ true → length p < length x
extends_longer [] [] e = absurd (false≢true e)
extends_longer [] (b ∷ x) e = omega arith
extends_longer (a ∷ p) [] e = absurd (false≢true e)
extends_longer (a ∷ p) (b ∷ x) e = let h = extends_longer p x (and_parts (a == b) (extends p x) e).1 in omega (arith, h)

-- a node is shorter than some path, and so than the height
pub height_above : (ls : List Leaf) (p : List ℕ) → is_node ls p ≡ true → length p < height ls
unfolding is_node height
height_above [] p e = absurd (false≢true e)
height_above (l ∷ ls) p e = elim (or_cases _ _ e) [
  | inl here ↦ let h = extends_longer p (path l) here in omega arith
  | inr there ↦ let h = height_above ls p there in omega arith
]

-- each of a node's branches is one letter longer
branches_length : (ls : List Leaf) (p : List ℕ) → All (λ q. length q ≡ suc (length p)) (branches ls p)
unfolding branches
branches_length ls p = All-filter (is_reached ls) (λ q. length q ≡ suc (length p)) _
    (All-map (λ q. length q ≡ suc (length p)) (λ c. p ++ c ∷ []) letters
    (λ k d h. length_push p (get_or letters k d) ∙ add-one _))

-- what holds of the pieces of each element holds of them all
pub All-flat_map : {X A : Type 0} (P : A → Type 0) (f : X → List A) (xs : List X) → All (λ x. All P (f x)) xs → All P (flat_map f xs)
All-flat_map P f [] h = All-nil P
All-flat_map P f (x ∷ xs) h = All-append P (f x) (flat_map f xs) (All-head (λ y. All P (f y)) x xs h) (All-flat_map P f xs (All-tail (λ y. All P (f y)) x xs h))

branches_longer : (ls : List Leaf) (n : ℕ) (ps : List (List ℕ)) → All (λ p. length p ≡ n) ps → All (λ q. length q ≡ suc n) (flat_map (branches ls) ps)
branches_longer ls n ps h = All-flat_map (λ q. length q ≡ suc n) (branches ls) ps
    (All-weaker (λ p. length p ≡ n) (λ p. All (λ q. length q ≡ suc n) (branches ls p))
    (λ p e. rw (← e) (branches_length ls p)) ps h)

-- a string of the level n has n letters
pub level_length : (ls : List Leaf) (n : ℕ) → All (λ p. length p ≡ n) (level ls n)
unfolding level
level_length ls zero = All-cons (λ (p : List ℕ). length p ≡ 0) [] [] refl (All-nil (λ (p : List ℕ). length p ≡ 0))
level_length ls (suc n) = All-filter (is_node ls) (λ p. length p ≡ suc n) _ (branches_longer ls n (level ls n) (level_length ls n))

pub filter_none : {X : Type 0} (p : X → Bool) (xs : List X) → All (λ x. p x ≡ false) xs → filter p xs ≡ []
filter_none p [] h = refl
filter_none p (x ∷ xs) h = rw (All-head (λ y. p y ≡ false) x xs h) (filter_none p xs (All-tail (λ y. p y ≡ false) x xs h))

-- no level stands below the height
pub level-height : (ls : List Leaf) (n : ℕ) → height ls ≡ suc n → level ls (suc n) ≡ []
unfolding level
level-height ls n h = filter_none (is_node ls) _
    (All-weaker (λ q. length q ≡ suc n) (λ q. is_node ls q ≡ false)
    (λ q e. false_from_ne_true _ (λ t. let up = height_above ls q t in omega arith)) _
    (branches_longer ls n (level ls n) (level_length ls n)))

last_level : (ls : List Leaf) (n : ℕ) → height ls ≡ suc n → nodes_to ls (suc (height ls)) ≡ nodes_to ls (height ls)
unfolding nodes_to
last_level ls n e = rw e (ap (λ (y : List (List ℕ)). nodes_to ls (suc n) ++ y) (level-height ls n e) ∙ append-nil (nodes_to ls (suc n)))

-- the nodes are the root and the branches that go on
pub nodes_is : (ls : List Leaf) → 0 < height ls → nodes ls ≡ [] ∷ filter (is_node ls) (places ls)
unfolding nodes places
nodes_is ls h = go (height ls) refl
  where
    go : (n : ℕ) → height ls ≡ n → nodes_to ls (height ls) ≡ [] ∷ filter (is_node ls) (flat_map (branches ls) (nodes_to ls (height ls)))
    go zero e = absurd (omega arith)
    go (suc n) e = sym (last_level ls n e) ∙ nodes_to-suc ls (height ls)
