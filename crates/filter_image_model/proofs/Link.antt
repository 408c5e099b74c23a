-- The trie by sets of prefixes and the trie by groups are one.
use Rattle.std.proofs.Common.{◌≡◌, ℕ, zero, suc, List, [], ◌∷◌, ◌++◌, get_or, refl, ap, sym, ◌∙◌, map, Bool, true, false, cond, inl, inr, eqb}
use Rattle.std.specs.Prelude.{filter, flat_map, ◌||◌, ◌&&◌}
use Rattle.std.specs.List.{list_any}
use Rattle.std.proofs.lemmas.Bool.{cases_Bool, eqb-true, eq-eqb, eqb-false, ne_eqb}
use Rattle.std.proofs.lemmas.List.Elements.{filter_agree, filter-append}
use Rattle.std.proofs.lemmas.List.{map-append}
use Rattle.filter_model.specs.Leaves.{Leaf}
use Rattle.filter_model.specs.Strings.{is_prefix, extends}
use Rattle.filter_model.specs.Trie.{letters, path, is_node, is_reached, branches, level}
use Rattle.filter_model.specs.Nodes.{Node}
use Rattle.filter_model.specs.Nodes.{node_of, last_letter}
use Rattle.trie_model.specs.Rests.{rests, tails}
use Rattle.filter_image_model.proofs.GroupWords.{Group, is_cons, goes_on, heads, node_of_group, children_of, group_level, gather, AreLevels}
use Rattle.filter_image_model.proofs.Gather.{level-gather, nodes-gather}
use Rattle.trie_laws.proofs.Places.{last_letter-push}

pub rests-push : (p : List ℕ) (c : ℕ) (g : Group) → rests (p ++ c ∷ []) g ≡ tails c (rests p g)
rests-push [] c g = refl
rests-push (a ∷ p) c g = rests-push p c (tails a g)

pub eqb_comm : (a c : ℕ) → eqb a c ≡ eqb c a
eqb_comm a c = elim (cases_Bool (eqb a c)) [
  | inl same ↦ same ∙ sym (eq-eqb c a (sym (eqb-true a c same)))
  | inr apart ↦ apart ∙ sym (ne_eqb c a (λ h. eqb-false a c apart (sym h)))
]

pub any_picked : {X : Type 0} (b : Bool) (f : X → Bool) (x : X) (t : List X) (v : Bool) → v ≡ list_any f t → (b && f x || v) ≡ list_any f (cond b (x ∷ t) t)
any_picked true f x t v e = ap (λ w. f x || w) e
any_picked false f x t v e = e

prefix_first : (c : ℕ) (p : List ℕ) (g : Group) → list_any (is_prefix (c ∷ p)) g ≡ list_any (is_prefix p) (tails c g)
prefix_first c p [] = refl
prefix_first c p ([] ∷ g) = prefix_first c p g
prefix_first c p ((a ∷ x) ∷ g) =
    ap (λ (b : Bool). b && is_prefix p x || list_any (is_prefix (c ∷ p)) g) (eqb_comm c a)
    ∙ any_picked (eqb a c) (is_prefix p) x (tails c g) _ (prefix_first c p g)

reached_is : (p : List ℕ) (g : Group) → list_any (is_prefix p) g ≡ is_cons (rests p g)
reached_is [] [] = refl
reached_is [] (x ∷ g) = refl
reached_is (c ∷ p) g = prefix_first c p g ∙ reached_is p (tails c g)

extends_first : (c : ℕ) (p : List ℕ) (g : Group) → list_any (extends (c ∷ p)) g ≡ list_any (extends p) (tails c g)
extends_first c p [] = refl
extends_first c p ([] ∷ g) = extends_first c p g
extends_first c p ((a ∷ x) ∷ g) =
    ap (λ (b : Bool). b && extends p x || list_any (extends (c ∷ p)) g) (eqb_comm c a)
    ∙ any_picked (eqb a c) (extends p) x (tails c g) _ (extends_first c p g)

goes_on_is : (p : List ℕ) (g : Group) → list_any (extends p) g ≡ goes_on (rests p g)
goes_on_is [] [] = refl
goes_on_is [] ([] ∷ g) = goes_on_is [] g
goes_on_is [] ((a ∷ x) ∷ g) = refl
goes_on_is (c ∷ p) g = extends_first c p g ∙ goes_on_is p (tails c g)

list_any-map : {X Y : Type 0} (p : Y → Bool) (f : X → Y) (xs : List X) → list_any (λ x. p (f x)) xs ≡ list_any p (map f xs)
list_any-map p f [] = refl
list_any-map p f (x ∷ xs) = ap (λ b. p (f x) || b) (list_any-map p f xs)

filter_step : {X Y : Type 0} (b : Bool) (f : X → Y) (x : X) (ys : List Y) (xs : List X) → ys ≡ map f xs → cond b (f x ∷ ys) ys ≡ map f (cond b (x ∷ xs) xs)
filter_step true f x ys xs e = ap (λ zs. f x ∷ zs) e
filter_step false f x ys xs e = e

pub filter-map : {X Y : Type 0} (p : Y → Bool) (f : X → Y) (xs : List X) → filter p (map f xs) ≡ map f (filter (λ x. p (f x)) xs)
filter-map p f [] = refl
filter-map p f (x ∷ xs) = filter_step (p (f x)) f x _ _ (filter-map p f xs)

pub filter-flat_map : {X Y : Type 0} (p : Y → Bool) (f : X → List Y) (xs : List X) → filter p (flat_map f xs) ≡ flat_map (λ x. filter p (f x)) xs
filter-flat_map p f [] = refl
filter-flat_map p f (x ∷ xs) = filter-append p (f x) (flat_map f xs) ∙ ap (λ ys. filter p (f x) ++ ys) (filter-flat_map p f xs)

pub map_of-flat_map : {X Y Z : Type 0} (g : Y → Z) (f : X → List Y) (xs : List X) → map g (flat_map f xs) ≡ flat_map (λ x. map g (f x)) xs
map_of-flat_map g f [] = refl
map_of-flat_map g f (x ∷ xs) = map-append g (f x) (flat_map f xs) ∙ ap (λ ys. map g (f x) ++ ys) (map_of-flat_map g f xs)

pub flat_map-map : {X Y Z : Type 0} (f : Y → List Z) (g : X → Y) (xs : List X) → flat_map f (map g xs) ≡ flat_map (λ x. f (g x)) xs
flat_map-map f g [] = refl
flat_map-map f g (x ∷ xs) = ap (λ ys. f (g x) ++ ys) (flat_map-map f g xs)

pub flat_map_agree : {X Y : Type 0} (f g : X → List Y) → ((x : X) → f x ≡ g x) → (xs : List X) → flat_map f xs ≡ flat_map g xs
flat_map_agree f g e [] = refl
flat_map_agree f g e (x ∷ xs) = ap (λ y. y ++ flat_map f xs) (e x) ∙ ap (λ ys. g x ++ ys) (flat_map_agree f g e xs)

pub map_agree : {X Y : Type 0} (f g : X → Y) → ((x : X) → f x ≡ g x) → (xs : List X) → map f xs ≡ map g xs
map_agree f g e [] = refl
map_agree f g e (x ∷ xs) = ap (λ y. y ∷ map f xs) (e x) ∙ ap (λ ys. g x ∷ ys) (map_agree f g e xs)

pub map-map : {X Y Z : Type 0} (f : Y → Z) (g : X → Y) (xs : List X) → map f (map g xs) ≡ map (λ x. f (g x)) xs
map-map f g [] = refl
map-map f g (x ∷ xs) = ap (λ ys. f (g x) ∷ ys) (map-map f g xs)

module _ (ls : List Leaf) where
  abbrev paths : Group
  paths = map path ls

  pub reached-rests : (p : List ℕ) → is_reached ls p ≡ is_cons (rests p (map path ls))
  unfolding is_reached
  reached-rests p = list_any-map (is_prefix p) path ls ∙ reached_is p (map path ls)

  pub node-rests : (p : List ℕ) → is_node ls p ≡ goes_on (rests p (map path ls))
  unfolding is_node
  node-rests p = list_any-map (extends p) path ls ∙ goes_on_is p (map path ls)

  pub branches-rests : (p : List ℕ) → branches ls p ≡ map (λ (c : ℕ). p ++ c ∷ []) (heads (rests p (map path ls)))
  unfolding branches heads
  branches-rests p =
      filter-map (is_reached ls) (λ (c : ℕ). p ++ c ∷ []) letters
      ∙ ap (map (λ (c : ℕ). p ++ c ∷ [])) (filter_agree (λ c. is_reached ls (p ++ c ∷ [])) (λ c. is_cons (tails c (rests p (map path ls))))
      (λ c. reached-rests (p ++ c ∷ []) ∙ ap is_cons (rests-push p c (map path ls))) letters)

  pub node_of-rests : (p : List ℕ) → node_of ls p ≡ node_of_group (rests p (map path ls))
  unfolding node_of
  node_of-rests p =
      ap (map (λ (q : List ℕ). (last_letter q, is_node ls q))) (branches-rests p)
      ∙ map-map (λ (q : List ℕ). (last_letter q, is_node ls q)) (λ (c : ℕ). p ++ c ∷ []) (heads (rests p (map path ls)))
      ∙ map_agree (λ (c : ℕ). (last_letter (p ++ c ∷ []), is_node ls (p ++ c ∷ []))) (λ (c : ℕ). (c, goes_on (tails c (rests p (map path ls)))))
      (λ c. ap (λ (d : ℕ). (d, is_node ls (p ++ c ∷ []))) (last_letter-push p c) ∙ ap (λ (b : Bool). (c, b)) (node-rests (p ++ c ∷ []) ∙ ap goes_on (rests-push p c (map path ls))))
      (heads (rests p (map path ls)))

  children-rests : (p : List ℕ) → map (λ (q : List ℕ). rests q (map path ls)) (filter (is_node ls) (branches ls p)) ≡ children_of (rests p (map path ls))
  children-rests p =
      let R = rests p (map path ls) in
      let P = λ (c : ℕ). p ++ c ∷ [] in
      ap (λ (qs : List (List ℕ)). map (λ (q : List ℕ). rests q (map path ls)) (filter (is_node ls) qs)) (branches-rests p)
      ∙ ap (map (λ (q : List ℕ). rests q (map path ls))) (filter-map (is_node ls) P (heads R))
      ∙ map-map (λ (q : List ℕ). rests q (map path ls)) P (filter (λ (c : ℕ). is_node ls (p ++ c ∷ [])) (heads R))
      ∙ map_agree (λ (c : ℕ). rests (p ++ c ∷ []) (map path ls)) (λ (c : ℕ). tails c R) (λ c. rests-push p c (map path ls)) (filter (λ (c : ℕ). is_node ls (p ++ c ∷ [])) (heads R))
      ∙ ap (map (λ (c : ℕ). tails c R)) (filter_agree (λ (c : ℕ). is_node ls (p ++ c ∷ [])) (λ (c : ℕ). goes_on (tails c R)) (λ c. node-rests (p ++ c ∷ []) ∙ ap goes_on (rests-push p c (map path ls))) (heads R))
      ∙ sym (filter-map goes_on (λ (c : ℕ). tails c R) (heads R))

  pub level-rests : (n : ℕ) → map (λ (p : List ℕ). rests p (map path ls)) (level ls n) ≡ group_level (map path ls) n
  unfolding level group_level
  level-rests zero = refl
  level-rests (suc n) =
      let G = map path ls in
      let r = λ (q : List ℕ). rests q G in
      ap (map r) (filter-flat_map (is_node ls) (branches ls) (level ls n))
      ∙ map_of-flat_map r (λ (p : List ℕ). filter (is_node ls) (branches ls p)) (level ls n)
      ∙ flat_map_agree (λ (p : List ℕ). map r (filter (is_node ls) (branches ls p))) (λ (p : List ℕ). children_of (r p)) children-rests (level ls n)
      ∙ sym (flat_map-map children_of r (level ls n))
      ∙ ap (flat_map children_of) (level-rests n)

  -- the nodes of a level are those of the groups of the level
  pub level-nodes : (n : ℕ) → map (node_of ls) (level ls n) ≡ map node_of_group (group_level (map path ls) n)
  level-nodes n =
      map_agree (node_of ls) (λ (p : List ℕ). node_of_group (rests p (map path ls))) node_of-rests (level ls n)
      ∙ sym (map-map node_of_group (λ (p : List ℕ). rests p (map path ls)) (level ls n))
      ∙ ap (map node_of_group) (level-rests n)

-- what was gathered from levels of nodes is a list of leaves with these levels
pub read_back : (ls : List Leaf) (levels : List (List Node)) (n : ℕ) → AreLevels levels → gather levels ≡ map path ls ∷ [] → map (node_of ls) (level ls n) ≡ get_or levels n []
read_back ls levels n a e = level-nodes ls n ∙ ap (map node_of_group) (level-gather levels (map path ls) n a e) ∙ nodes-gather levels n a
