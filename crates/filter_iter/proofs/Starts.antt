-- Where levels begin, and what stands before later nodes and places.
use Rattle.std.proofs.Common.{◌≡◌, ℕ, zero, suc, ◌+◌, ◌-◌, ◌*◌, ◌^◌, ◌<◌, ◌≤◌, cond, List, [], ◌∷◌, ◌++◌, length, map, take, refl, ap, sym, ◌∙◌, arith}
use Rattle.std.specs.Prelude.{count_by, filter, flat_map, not, sum_by}
use Rattle.std.proofs.lemmas.List.{length-append, length-take, take-take, take_at}
use Rattle.std.proofs.lemmas.List.Concat.{flat_map-append}
use Rattle.std.proofs.lemmas.List.Elements.{filter-append}
use Rattle.std.proofs.lemmas.List.Sums.{length-filter, sum_by-take-le}
use native.Mathlib.Nat.{mul-le-mul_right}
use Rattle.filter_api.specs.Spellings.{MayBeTrie}
use Rattle.filter_image_model.proofs.OneImage.{room}
use Rattle.filter_image_model.proofs.Paths.{fine_paths, trie_flat}
use Rattle.filter_image_model.proofs.Sizes.{few_nodes, low_height, total_of}
use Rattle.filter_iter.proofs.Counts.{behind_first, leaves-trie_of}
use Rattle.filter_model.specs.Leaves.{Filter, Leaf}
use Rattle.filter_model.specs.Nodes.{Branch, Node, all, children_before, first_place, leaves_before, trie_of}
use Rattle.filter_model.specs.Trie.{branches, height, is_node, level, nodes, nodes_to, path, places, slots}
use Rattle.filter_model.specs.Valid.{IsLeafList}
use Rattle.filter_trie.proofs.Levels.{levels_within}
use Rattle.filter_trie.proofs.Parts.{joined}
use Rattle.filter_trie.specs.Parts.{lower, upper}
use Rattle.filter_trie.specs.Places.{trie as trie_in}
use Rattle.louds_dense.proofs.Ranks.{before_within, node_within}
use Rattle.louds_dense.specs.Places.{branches_before}
use Rattle.trie_laws.proofs.Joining.{halves_join}
use Rattle.trie_laws.proofs.Places.{children-trie_of, first-trie_of, length-all, length-trie_of}
use Rattle.trie_laws.proofs.Slots.{leaves_have_slots}
use Rattle.trie_levels.specs.Tries.{HasTrie}
use Rattle.trie_model.specs.Halves.{begin_of, first_below, slot_at, whole}
use Rattle.trie_model.specs.Rests.{leaves_below}

-- ---- more of a list

pub sum_up : {X : Type 0} (f : X → ℕ) (xs : List X) (i j : ℕ) → i ≤ j → sum_by f (take i xs) ≤ sum_by f (take j xs)
sum_up f xs i j l = omega (arith, sum_by-take-le f (take j xs) i, ap (sum_by f) (take-take i j xs l))

pub more_behind : (ls : List Leaf) (p q : ℕ) → p ≤ q → behind_first ls p ≤ behind_first ls q
more_behind ls p q l = sum_up (leaves_below ls) (places ls) p q l

pub more_children : (ns : List Node) (p q : ℕ) → p ≤ q → children_before ns p ≤ children_before ns q
more_children ns p q l = sum_up (λ (b : Branch). cond b.1 1 0) (all ns) p q l

pub more_places : (ns : List Node) (v w : ℕ) → v ≤ w → w ≤ length ns → first_place ns v ≤ first_place ns w
more_places ns v w l m =
    omega (arith, node_within (take w ns) v (omega (arith, l, m, length-take w ns)), ap (λ (ms : List Node). length (all ms)) (take-take v w ns l))

-- no more leaves stand before a place than there are
pub leaves_within : (ls : List Leaf) (p : ℕ) → HasTrie ls → leaves_before (trie_of ls) p ≤ length ls
unfolding slots
leaves_within ls p t =
    let test = λ (q : List ℕ). not (is_node ls q) in
    omega (arith, leaves-trie_of ls p, sum_by-take-le (λ (q : List ℕ). cond (test q) 1 0) (places ls) p, length-filter test (places ls), (leaves_have_slots ls t).as_many)

-- ---- levels

nodes_to-suc : (ls : List Leaf) (n : ℕ) → nodes_to ls (suc n) ≡ [] ∷ filter (is_node ls) (flat_map (branches ls) (nodes_to ls n))
unfolding nodes_to level
nodes_to-suc ls zero = refl
nodes_to-suc ls (suc n) =
    ap (λ (y : List (List ℕ)). y ++ level ls (suc n)) (nodes_to-suc ls n)
    ∙ ap (λ (y : List (List ℕ)). [] ∷ y) (sym (ap (filter (is_node ls)) (flat_map-append (branches ls) (nodes_to ls n) (level ls n)) ∙ filter-append (is_node ls) (flat_map (branches ls) (nodes_to ls n)) (flat_map (branches ls) (level ls n))))

-- the places before a level are those of the levels above
places_above : (ls : List Leaf) (i : ℕ) → i ≤ height ls → take (first_place (trie_of ls) (length (nodes_to ls i))) (places ls) ≡ flat_map (branches ls) (nodes_to ls i)
unfolding nodes places
places_above ls i l =
    let b = levels_within ls i (height ls) l in
    let here = flat_map (branches ls) (nodes_to ls i) in
    let front : take (length (nodes_to ls i)) (nodes ls) ≡ nodes_to ls i = ap (take (length (nodes_to ls i))) b.is ∙ take_at (nodes_to ls i) b.rest (length (nodes_to ls i)) refl in
    let first : first_place (trie_of ls) (length (nodes_to ls i)) ≡ length here = first-trie_of ls (length (nodes_to ls i)) ∙ ap (λ (ps : List (List ℕ)). length (flat_map (branches ls) ps)) front in
    (λ j. take (first j) (flat_map (branches ls) (b.is j)))
    ∙ ap (take (length here)) (flat_map-append (branches ls) (nodes_to ls i) b.rest)
    ∙ take_at here (flat_map (branches ls) b.rest) (length here) refl

-- the first node below a level's first branch is the next level's first
pub level_next : (ls : List Leaf) (i : ℕ) → i ≤ height ls → first_below (whole (trie_of ls)) (first_place (trie_of ls) (length (nodes_to ls i))) ≡ length (nodes_to ls (i + 1))
level_next ls i l =
    let p = first_place (trie_of ls) (length (nodes_to ls i)) in
    omega (
      arith,
      children-trie_of ls p,
      ap (count_by (is_node ls)) (places_above ls i l),
      sym (length-filter (is_node ls) (flat_map (branches ls) (nodes_to ls i))),
      ap (λ (ps : List (List ℕ)). length ps) (nodes_to-suc ls i),
      ap (λ (n : ℕ). length (nodes_to ls n)) (plus_one i),
    )
  where
    plus_one : (n : ℕ) → n + 1 ≡ suc n
    plus_one n = omega arith

pub level_within : (ls : List Leaf) (i : ℕ) → i ≤ height ls → length (nodes_to ls i) ≤ length (nodes ls)
unfolding nodes
level_within ls i l = let b = levels_within ls i (height ls) l in omega (arith, ap (λ (ps : List (List ℕ)). length ps) b.is, length-append (nodes_to ls i) b.rest)

pub last_level : (ls : List Leaf) → length (nodes_to ls (height ls)) ≡ length (nodes ls)
unfolding nodes
last_level ls = refl

pub no_level : (ls : List Leaf) → length (nodes_to ls 0) ≡ 0
unfolding nodes_to
no_level ls = refl

pub begins : (ns : List Node) (v : ℕ) → begin_of (whole ns) v ≡ first_place ns v
begins ns v = ap (first_place ns) (zero_less v)
  where
    zero_less : (k : ℕ) → k - 0 ≡ k
    zero_less k = omega arith

pub place_within : (ls : List Leaf) (v : ℕ) → v ≤ length (nodes ls) → first_place (trie_of ls) v ≤ length (places ls)
place_within ls v l = omega (arith, node_within (trie_of ls) v (omega (arith, l, length-trie_of ls)), length-all ls)

-- a node's number is small
pub node_fits : (hash_bits real_bits : ℕ) (ls : List Leaf) → IsLeafList hash_bits real_bits ls → length (nodes ls) < 2 ^ 63
node_fits hash_bits real_bits ls valid =
    let h = height ls in
    let fine = fine_paths hash_bits real_bits ls valid h (omega arith) in
    let few = few_nodes h (length ls) (map path ls ∷ []) (fine, tt) (total_of ls) in
    let low : h * length ls ≤ 1024 * length ls = mul-le-mul_right (length ls) (low_height hash_bits real_bits ls valid) in
    let many = valid.few in
    omega (arith, few, low, many, ap (λ (ns : List Node). length ns) (trie_flat ls h (omega arith) fine), length-trie_of ls)

-- where the dense half has no leaf, none stands before its places
pub none_before_dense : (i : Filter) (p : ℕ) → MayBeTrie i.hash_bits i.real_bits i.cutoff i.leaves → leaves_before (upper i.cutoff i.leaves) (length (all (upper i.cutoff i.leaves))) ≡ 0
    → slot_at (trie_in i) (branches_before (upper i.cutoff i.leaves) p) ≡ 0
none_before_dense i p stands none =
    let ds = upper i.cutoff i.leaves in
    let n = branches_before ds p in
    let l = before_within ds p (room i.hash_bits i.real_bits i.cutoff i.leaves stands).dense_nodes in
    omega (
      arith,
      none,
      sum_up (λ (b : Branch). cond (not b.1) 1 0) (all ds) n (length (all ds)) l,
      (halves_join ds (lower i.cutoff i.leaves)).0.leaves n l,
      ap (λ (ns : List Node). slot_at (whole ns) n) (joined i),
    )
