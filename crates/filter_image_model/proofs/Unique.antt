-- What is gathered from the nodes of sorted groups is these groups.
use Rattle.std.proofs.Common.{◌≡◌, ℕ, zero, suc, ◌+◌, List, [], ◌∷◌, ◌++◌, length, drop, refl, ap, sym, ◌∙◌, arith, map, Bool, true, false, cond}
use Rattle.std.specs.Prelude.{filter, flat_map}
use Rattle.std.specs.List.{AllByRecursion}
use Rattle.std.proofs.lemmas.List.{append-nil, append_assoc, drop_at}
use Rattle.filter_model.specs.Nodes.{Node}
use Rattle.trie_model.specs.Rests.{tails}
use Rattle.filter_image_model.proofs.GroupWords.{Group, goes_on, heads, node_of_group, children_of, join, deal, children_in, raise, gather, Sorted, Rising}
use Rattle.filter_image_model.proofs.Sorted.{join_over, HeadsIn}

-- a leaf has nothing behind its letter
abbrev pub IsPlain : (ℕ → Group) → List ℕ → Type 0
IsPlain T cs = AllByRecursion (λ c. goes_on (T c) ≡ false → T c ≡ [] ∷ []) cs

-- the branches of a group, dealt with its own children, are its letters with what stands behind them
deal_own : (T : ℕ → Group) (cs : List ℕ) (more : List Group) → IsPlain T cs
    → deal (map (λ (c : ℕ). (c, goes_on (T c))) cs) (filter goes_on (map T cs) ++ more) ≡ map (λ (c : ℕ). (c, T c)) cs
deal_own T [] [] w = refl
deal_own T [] (g ∷ more) w = refl
deal_own T (c ∷ cs) more w = go (goes_on (T c)) refl (deal_own T cs more w.1)
  where
    rest : Node
    rest = map (λ (d : ℕ). (d, goes_on (T d))) cs

    go : (t : Bool) → goes_on (T c) ≡ t → deal rest (filter goes_on (map T cs) ++ more) ≡ map (λ (d : ℕ). (d, T d)) cs
        → deal ((c, t) ∷ rest) (cond t (T c ∷ filter goes_on (map T cs)) (filter goes_on (map T cs)) ++ more) ≡ (c, T c) ∷ map (λ (d : ℕ). (d, T d)) cs
    go true e ih = ap (λ (ds : List (ℕ × Group)). (c, T c) ∷ ds) ih
    go false e ih = leaf_first (filter goes_on (map T cs) ++ more) ∙ ap (λ (g : Group). (c, g) ∷ deal rest (filter goes_on (map T cs) ++ more)) (sym (w.0 e)) ∙ ap (λ (ds : List (ℕ × Group)). (c, T c) ∷ ds) ih
      where
        leaf_first : (gs : List Group) → deal ((c, false) ∷ rest) gs ≡ (c, [] ∷ []) ∷ deal rest gs
        leaf_first [] = refl
        leaf_first (g ∷ gs) = refl

pub children_own : (T : ℕ → Group) (cs : List ℕ) → children_in (map (λ (c : ℕ). (c, goes_on (T c))) cs) ≡ length (filter goes_on (map T cs))
children_own T [] = refl
children_own T (c ∷ cs) = go (goes_on (T c)) (children_own T cs)
  where
    go : (t : Bool) → children_in (map (λ (d : ℕ). (d, goes_on (T d))) cs) ≡ length (filter goes_on (map T cs)) → cond t 1 0 + children_in (map (λ (d : ℕ). (d, goes_on (T d))) cs) ≡ length (cond t (T c ∷ filter goes_on (map T cs)) (filter goes_on (map T cs)))
    go true ih = omega (arith, ih)
    go false ih = omega (arith, ih)

-- a group of a valid list
pub record IsOwn (g : Group) : Type 0 where
  pub sorted : Sorted g
  pub rising : Rising (heads g)
  pub within : HeadsIn (heads g) g
  pub plain : IsPlain (λ c. tails c g) (heads g)

raise_own : (gs : List Group) (more : List Group) → AllByRecursion IsOwn gs → raise (map node_of_group gs) (flat_map children_of gs ++ more) ≡ gs
raise_own [] more w = refl
raise_own (g ∷ gs) more w =
    let T = λ (c : ℕ). tails c g in
    let regroup : flat_map children_of (g ∷ gs) ++ more ≡ children_of g ++ (flat_map children_of gs ++ more) = append_assoc (children_of g) (flat_map children_of gs) more in
    let dealt = deal_own T (heads g) (flat_map children_of gs ++ more) w.0.plain in
    let joined = join_over (heads g) g w.0.rising w.0.sorted w.0.within in
    let dropped : drop (children_in (node_of_group g)) (children_of g ++ (flat_map children_of gs ++ more)) ≡ flat_map children_of gs ++ more = drop_at (children_of g) (flat_map children_of gs ++ more) (children_in (node_of_group g)) (sym (children_own T (heads g))) in
    ap (λ (hs : List Group). join (deal (node_of_group g) hs) ∷ raise (map node_of_group gs) (drop (children_in (node_of_group g)) hs)) regroup
    ∙ ap (λ (ds : List (ℕ × Group)). join ds ∷ raise (map node_of_group gs) (drop (children_in (node_of_group g)) (children_of g ++ (flat_map children_of gs ++ more)))) dealt
    ∙ ap (λ (h : Group). h ∷ raise (map node_of_group gs) (drop (children_in (node_of_group g)) (children_of g ++ (flat_map children_of gs ++ more)))) joined
    ∙ ap (λ (hs : List Group). g ∷ raise (map node_of_group gs) hs) dropped
    ∙ ap (λ (hs : List Group). g ∷ hs) (raise_own gs more w.1)

-- n levels of nodes, from the level with these groups down
abbrev pub levels_from : ℕ → List Group → List (List Node)
levels_from zero gs = []
levels_from (suc n) gs = map node_of_group gs ∷ levels_from n (flat_map children_of gs)

-- all groups that come below are those of a valid list, and after n levels there are none
abbrev pub OwnTo : ℕ → List Group → Type 0
OwnTo zero gs = gs ≡ []
OwnTo (suc n) gs = AllByRecursion IsOwn gs × OwnTo n (flat_map children_of gs)

-- **gathering undoes cutting into levels**
pub gather_own : (n : ℕ) (gs : List Group) → OwnTo n gs → gather (levels_from n gs) ≡ gs
gather_own zero gs w = sym w
gather_own (suc n) gs w =
    ap (raise (map node_of_group gs)) (gather_own n (flat_map children_of gs) w.1 ∙ sym (append-nil (flat_map children_of gs)))
    ∙ raise_own gs [] w.0
