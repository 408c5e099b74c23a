-- Lists of keys and leaf lists without bits are one and the same.
use Rattle.std.proofs.Common.{◌≡◌, ◌<◌, ◌+◌, ◌^◌, ℕ, List, [], ◌∷◌, Bool, true, ◌||◌, length, get_or, map, refl, sym, ap, subst, ◌∙◌, arith}
use Rattle.std.specs.List.{All, AllPairs, Contains, list_any}
use Rattle.std.proofs.lemmas.List.{get_or-map, length-map}
use Rattle.std.proofs.lemmas.List.Elements.{All-contains, All-map}
use Rattle.filter_model.specs.Keys.{IsKey, IsKeyList}
use Rattle.filter_model.specs.Leaves.{Leaf}
use Rattle.filter_model.specs.Strings.{extends, is_before}
use Rattle.filter_model.specs.Valid.{EndsRightly, IsLeaf, IsLeafList}
use Rattle.filter_model.proofs.Pairs.{Contains-first}
use Rattle.filter_model.proofs.Stubs.{Contains-more}
use Rattle.whole_keys.specs.Laws.{IsWhole, ListsAreWhole, WholeKeysAreListed}
use Rattle.whole_keys.specs.Whole.{stubs, whole_leaf, whole_leaves}

pub list_any-map : {X Y : Type 0} (p : Y → Bool) (f : X → Y) (xs : List X) → list_any p (map f xs) ≡ list_any (λ x. p (f x)) xs
list_any-map p f [] = refl
list_any-map p f (x ∷ xs) = ap (λ (t : Bool). p (f x) || t) (list_any-map p f xs)

-- what holds of each two elements of a list holds of what f makes of them
pub AllPairs-map : {X Y : Type 0} (R : Y → Y → Type 0) (f : X → Y) (xs : List X) → AllPairs (λ a b. R (f a) (f b)) xs → AllPairs R (map f xs)
AllPairs-map R f [] h i j d before within = absurd (omega arith)
AllPairs-map {X} {Y} R f (x ∷ xs) h i j d before within =
    let size = length-map (x ∷ xs) f in
    let at_i = get_or-map f (x ∷ xs) i x d (omega (arith, size)) in
    let at_j = get_or-map f (x ∷ xs) j x d (omega (arith, size)) in
    subst (λ (a : Y). R a (get_or (map f (x ∷ xs)) j d)) (sym at_i)
    (subst (λ (b : Y). R (f (get_or (x ∷ xs) i x)) b) (sym at_j) (h i j x before (omega (arith, size))))

-- what changes no element of a list changes nothing
pub same_map : {X : Type 0} (f : X → X) (xs : List X) → ((x : X) → Contains xs x → f x ≡ x) → map f xs ≡ xs
same_map f [] h = refl
same_map f (x ∷ xs) h = λ i. h x (Contains-first x xs) i ∷ same_map f xs (λ y c. h y (Contains-more x xs y c)) i

pub map-map : {X Y Z : Type 0} (g : Y → Z) (f : X → Y) (xs : List X) → map g (map f xs) ≡ map (λ x. g (f x)) xs
map-map g f [] = refl
map-map {X} {Y} {Z} g f (x ∷ xs) = ap (λ (l : List Z). g (f x) ∷ l) (map-map g f xs)

-- ---- keys, as leaves

pub stubs_are : (keys : List (List ℕ)) → stubs (whole_leaves keys) ≡ keys
stubs_are keys = map-map (λ (l : Leaf). l.stub) (whole_leaf keys) keys ∙ same_map (λ k. k) keys (λ k c. refl)

pub leaf_of_key : (keys : List (List ℕ)) (k : List ℕ) → IsKey k → IsLeaf 0 0 (whole_leaf keys k)
leaf_of_key keys k key = record { stub = key; hash_fits = omega arith; real_fits = omega arith; end_without_real = λ e. refl }

ends_rightly : (keys : List (List ℕ)) (k : List ℕ) → EndsRightly (whole_leaves keys) (whole_leaf keys k)
ends_rightly keys k = sym (list_any-map (λ (o : Leaf). extends k o.stub) (whole_leaf keys) keys)

pub keys_are_leaf_list : (keys : List (List ℕ)) → IsKeyList keys → IsLeafList 0 0 (whole_leaves keys)
keys_are_leaf_list keys h =
    let f = whole_leaf keys in
    let size = length-map keys f in
    record {
      some = omega (arith, size, h.some);
      few = omega (arith, size, h.few);
      leaves = All-map (IsLeaf 0 0) f keys (λ i d l. leaf_of_key keys (get_or keys i d) (h.each i d l));
      rising = AllPairs-map (λ (a b : Leaf). is_before a.stub b.stub ≡ true) f keys h.rising;
      ends = All-map (EndsRightly (whole_leaves keys)) f keys (λ i d l. ends_rightly keys (get_or keys i d));
    }

pub keys_are_listed : WholeKeysAreListed
keys_are_listed keys h = record { list = keys_are_leaf_list keys h; stubs_are = stubs_are keys }

-- ---- leaves, as keys

whole_again : (ls : List Leaf) → IsLeafList 0 0 ls → (l : Leaf) → Contains ls l → whole_leaf (stubs ls) l.stub ≡ l
whole_again ls v l c =
    let leaf = All-contains (IsLeaf 0 0) ls l v.leaves c in
    let ends : list_any (extends l.stub) (stubs ls) ≡ l.ends =
    list_any-map (extends l.stub) (λ (o : Leaf). o.stub) ls ∙ sym (All-contains (EndsRightly ls) ls l v.ends c) in
    let hash : 0 ≡ l.hash = omega (arith, leaf.hash_fits) in
    let real : 0 ≡ l.real = omega (arith, leaf.real_fits) in
    λ i. record { stub = l.stub; ends = ends i; hash = hash i; real = real i }

pub keys_of_leaves : (ls : List Leaf) → IsLeafList 0 0 ls → IsKeyList (stubs ls)
keys_of_leaves ls v =
    let f : Leaf → List ℕ = λ l. l.stub in
    let size = length-map ls f in
    record {
      some = omega (arith, size, v.some);
      few = omega (arith, size, v.few);
      each = All-map IsKey f ls (λ i d l. (v.leaves i d l).stub);
      rising = AllPairs-map (λ (a b : List ℕ). is_before a b ≡ true) f ls v.rising;
    }

pub lists_are_whole : ListsAreWhole
lists_are_whole ls v = record {
  keys = keys_of_leaves ls v;
  same = map-map (whole_leaf (stubs ls)) (λ (l : Leaf). l.stub) ls ∙ same_map (λ (l : Leaf). whole_leaf (stubs ls) l.stub) ls (whole_again ls v);
}
