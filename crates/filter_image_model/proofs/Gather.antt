-- The groups that are gathered from levels of nodes have these levels.
use Rattle.std.proofs.Common.{◌≡◌, ℕ, zero, suc, ◌+◌, ◌≤◌, List, [], ◌∷◌, ◌++◌, length, get_or, take, drop, refl, ap, sym, ◌∙◌, arith, map, true, false}
use Rattle.std.specs.Prelude.{filter, flat_map, All}
use Rattle.std.specs.List.{AllByRecursion}
use Rattle.std.proofs.lemmas.Bool.{false≢true}
use Rattle.std.proofs.lemmas.List.Elements.{All-head, All-cons, All-nil}
use Rattle.std.proofs.lemmas.List.{take-append-drop, length-drop}
use Rattle.filter_model.specs.Nodes.{Branch, Node}
use Rattle.trie_model.specs.Rests.{tails}
use Rattle.filter_image_model.proofs.GroupWords.{Group, is_cons, goes_on, heads, node_of_group, children_of, group_level, join, deal, children_in, InOrder, raise, gather, all_children, IsGoodNode, AreLevels}
use Rattle.filter_image_model.proofs.Joins.{heads-join, tails-join}

abbrev pub GoOn : List Group → Type 0
GoOn gs = AllByRecursion (λ (g : Group). goes_on g ≡ true) gs

pub goes_on_drop : (n : ℕ) (gs : List Group) → GoOn gs → GoOn (drop n gs)
goes_on_drop zero gs w = w
goes_on_drop (suc n) [] w = w
goes_on_drop (suc n) (g ∷ gs) w = goes_on_drop n gs w.1

skip : (n : ℕ) → 0 + n ≡ n
skip n = omega arith

more : (n : ℕ) → 1 + n ≡ suc n
more n = omega arith

-- a dealt node has its letters, and goes on where the node says
deal_node : (n : Node) (gs : List Group) → GoOn gs → children_in n ≤ length gs → map (λ (b : ℕ × Group). (b.0, goes_on b.1)) (deal n gs) ≡ n
deal_node [] gs w l = refl
deal_node ((c, true) ∷ n) [] w l = absurd (omega arith)
deal_node ((c, false) ∷ n) [] w l = ap (λ (m : Node). (c, false) ∷ m) (deal_node n [] w (omega arith))
deal_node ((c, true) ∷ n) (g ∷ gs) w l = rw w.0 (ap (λ (m : Node). (c, true) ∷ m) (deal_node n gs w.1 (omega arith)))
deal_node ((c, false) ∷ n) (g ∷ gs) w l = ap (λ (m : Node). (c, false) ∷ m) (deal_node n (g ∷ gs) w (omega arith))

-- the groups that go on are the ones that were handed in
deal_groups : (n : Node) (gs : List Group) → GoOn gs → children_in n ≤ length gs → filter goes_on (map (λ (b : ℕ × Group). b.1) (deal n gs)) ≡ take (children_in n) gs
deal_groups [] gs w l = refl
deal_groups ((c, true) ∷ n) [] w l = absurd (omega arith)
deal_groups ((c, false) ∷ n) [] w l = rw (skip (children_in n)) (deal_groups n [] w (omega arith))
deal_groups ((c, true) ∷ n) (g ∷ gs) w l = rw (w.0, more (children_in n)) (ap (λ (hs : List Group). g ∷ hs) (deal_groups n gs w.1 (omega arith)))
deal_groups ((c, false) ∷ n) (g ∷ gs) w l = rw (skip (children_in n)) (deal_groups n (g ∷ gs) w (omega arith))

cons_if_on : (g : Group) → goes_on g ≡ true → is_cons g ≡ true
cons_if_on [] e = e
cons_if_on (x ∷ g) e = refl

abbrev Filled : ℕ × Group → Type 0
Filled b = is_cons b.1 ≡ true

deal_filled : (n : Node) (gs : List Group) → GoOn gs → All Filled (deal n gs)
deal_filled [] gs w = All-nil Filled
deal_filled ((c, true) ∷ n) [] w = All-nil Filled
deal_filled ((c, false) ∷ n) [] w = All-cons Filled _ _ refl (deal_filled n [] w)
deal_filled ((c, true) ∷ n) (g ∷ gs) w = All-cons Filled _ _ (cons_if_on g w.0) (deal_filled n gs w.1)
deal_filled ((c, false) ∷ n) (g ∷ gs) w = All-cons Filled _ _ refl (deal_filled n (g ∷ gs) w)

letters-deal : (n : Node) (gs : List Group) → GoOn gs → children_in n ≤ length gs → map (λ (b : ℕ × Group). b.0) (deal n gs) ≡ map (λ (b : Branch). b.0) n
letters-deal [] gs w l = refl
letters-deal ((c, true) ∷ n) [] w l = absurd (omega arith)
letters-deal ((c, false) ∷ n) [] w l = ap (λ (m : List ℕ). c ∷ m) (letters-deal n [] w (omega arith))
letters-deal ((c, true) ∷ n) (g ∷ gs) w l = ap (λ (m : List ℕ). c ∷ m) (letters-deal n gs w.1 (omega arith))
letters-deal ((c, false) ∷ n) (g ∷ gs) w l = ap (λ (m : List ℕ). c ∷ m) (letters-deal n (g ∷ gs) w (omega arith))

pair_up : (T : ℕ → Group) (ds : List (ℕ × Group)) → map T (map (λ (b : ℕ × Group). b.0) ds) ≡ map (λ (b : ℕ × Group). b.1) ds
    → map {B = Branch} (λ (c : ℕ). (c, goes_on (T c))) (map (λ (b : ℕ × Group). b.0) ds) ≡ map (λ (b : ℕ × Group). (b.0, goes_on b.1)) ds
pair_up T [] e = refl
pair_up T (d ∷ ds) e =
    let here : T d.0 ≡ d.1 = cc in
    let there : map T (map (λ (b : ℕ × Group). b.0) ds) ≡ map (λ (b : ℕ × Group). b.1) ds = cc in
    ap (λ (g : Group). (d.0, goes_on g) ∷ map {B = Branch} (λ (c : ℕ). (c, goes_on (T c))) (map (λ (b : ℕ × Group). b.0) ds)) here
    ∙ ap (λ (m : Node). (d.0, goes_on d.1) ∷ m) (pair_up T ds there)

module _ (n : Node) (gs : List Group) (good : IsGoodNode n) (w : GoOn gs) (l : children_in n ≤ length gs) where
  order_dealt : InOrder (map (λ (b : ℕ × Group). b.0) (deal n gs))
  order_dealt = rw (letters-deal n gs w l) good.order

  heads_dealt : heads (join (deal n gs)) ≡ map (λ (b : ℕ × Group). b.0) (deal n gs)
  heads_dealt = heads-join (deal n gs) (deal_filled n gs w) order_dealt

  tails_dealt : map (λ (c : ℕ). tails c (join (deal n gs))) (map (λ (b : ℕ × Group). b.0) (deal n gs)) ≡ map (λ (b : ℕ × Group). b.1) (deal n gs)
  tails_dealt = tails-join (deal n gs) order_dealt.once

  -- the node that is read off a joined group is the node
  pub node-join : node_of_group (join (deal n gs)) ≡ n
  node-join = rw heads_dealt (pair_up (λ c. tails c (join (deal n gs))) (deal n gs) tails_dealt ∙ deal_node n gs w l)

  pub children-join : children_of (join (deal n gs)) ≡ take (children_in n) gs
  children-join = rw heads_dealt (ap (filter goes_on) tails_dealt ∙ deal_groups n gs w l)

join_on : (b : ℕ × Group) (bs : List (ℕ × Group)) → is_cons b.1 ≡ true → goes_on (join (b ∷ bs)) ≡ true
join_on (c, []) bs e = absurd (false≢true e)
join_on (c, x ∷ g) bs e = refl

-- a joined group goes on
join_goes_on : (n : Node) (gs : List Group) → IsGoodNode n → GoOn gs → children_in n ≤ length gs → goes_on (join (deal n gs)) ≡ true
join_goes_on n gs good w l = go (deal n gs) (deal_filled n gs w) (ap (λ (m : Node). is_cons m) (deal_node n gs w l) ∙ good.filled)
  where
    go : (ds : List (ℕ × Group)) → All Filled ds → is_cons {X = Branch} (map (λ (b : ℕ × Group). (b.0, goes_on b.1)) ds) ≡ true → goes_on (join ds) ≡ true
    go [] f e = absurd (false≢true e)
    go (d ∷ ds) f e = join_on d ds (All-head Filled d ds f)

raise_goes_on : (ns : List Node) (gs : List Group) → AllByRecursion IsGoodNode ns → GoOn gs → all_children ns ≤ length gs → GoOn (raise ns gs)
raise_goes_on [] gs good w l = tt
raise_goes_on (n ∷ ns) gs good w l = (join_goes_on n gs good.0 w (omega arith), raise_goes_on ns (drop (children_in n) gs) good.1 (goes_on_drop (children_in n) gs w) (omega (arith, length-drop (children_in n) gs)))

nodes-raise : (ns : List Node) (gs : List Group) → AllByRecursion IsGoodNode ns → GoOn gs → all_children ns ≤ length gs → map node_of_group (raise ns gs) ≡ ns
nodes-raise [] gs good w l = refl
nodes-raise (n ∷ ns) gs good w l =
    ap (λ (m : Node). m ∷ map node_of_group (raise ns (drop (children_in n) gs))) (node-join n gs good.0 w (omega arith))
    ∙ ap (λ (ms : List Node). n ∷ ms) (nodes-raise ns (drop (children_in n) gs) good.1 (goes_on_drop (children_in n) gs w) (omega (arith, length-drop (children_in n) gs)))

children-raise : (ns : List Node) (gs : List Group) → AllByRecursion IsGoodNode ns → GoOn gs → all_children ns ≡ length gs → flat_map children_of (raise ns gs) ≡ gs
children-raise [] [] good w l = refl
children-raise [] (g ∷ gs) good w l = absurd (omega arith)
children-raise (n ∷ ns) gs good w l =
    ap (λ (hs : List Group). hs ++ flat_map children_of (raise ns (drop (children_in n) gs))) (children-join n gs good.0 w (omega arith))
    ∙ ap (λ (hs : List Group). take (children_in n) gs ++ hs) (children-raise ns (drop (children_in n) gs) good.1 (goes_on_drop (children_in n) gs w) (omega (arith, length-drop (children_in n) gs)))
    ∙ take-append-drop (children_in n) gs

pub gather_goes_on : (ls : List (List Node)) → AreLevels ls → GoOn (gather ls)
gather_goes_on [] a = tt
gather_goes_on (l ∷ ls) a = raise_goes_on l (gather ls) a.0 (gather_goes_on ls a.2) (omega (arith, a.1))

level_down : (ls : List (List Node)) (k : ℕ) → AreLevels ls → flat_map children_of (gather (drop k ls)) ≡ gather (drop (suc k) ls)
level_down [] zero a = refl
level_down [] (suc k) a = refl
level_down (l ∷ ls) zero a = children-raise l (gather ls) a.0 (gather_goes_on ls a.2) a.1
level_down (l ∷ ls) (suc k) a = level_down ls k a.2

-- the levels of what was gathered from levels are these levels
pub level-gather : (ls : List (List Node)) (g : Group) (k : ℕ) → AreLevels ls → gather ls ≡ g ∷ [] → group_level g k ≡ gather (drop k ls)
unfolding group_level
level-gather ls g zero a e = sym e
level-gather ls g (suc k) a e = ap (flat_map children_of) (level-gather ls g k a e) ∙ level_down ls k a

-- and the nodes that are read off them are the nodes
pub nodes-gather : (ls : List (List Node)) (k : ℕ) → AreLevels ls → map node_of_group (gather (drop k ls)) ≡ get_or ls k []
nodes-gather [] zero a = refl
nodes-gather [] (suc k) a = refl
nodes-gather (l ∷ ls) zero a = nodes-raise l (gather ls) a.0 (gather_goes_on ls a.2) (omega (arith, a.1))
nodes-gather (l ∷ ls) (suc k) a = nodes-gather ls k a.2
