-- Borders, level by level.
use Rattle.std.proofs.Common.{◌≡◌, ℕ, zero, suc, ◌+◌, ◌-◌, ◌*◌, ◌<◌, ◌≤◌, ◌^◌, List, length, map, refl, ap, subst, sym, ◌∙◌, arith}
use Rattle.std.proofs.lemmas.List.{length-map}
use native.Mathlib.Nat.{mul-le-mul_right}
use Rattle.filter_image_model.proofs.Sizes.{low_height, some_height}
use Rattle.filter_iter.proofs.Counts.{behind_first, by_nodes, counted_by_places}
use Rattle.filter_iter.proofs.Groups.{start_within}
use Rattle.filter_iter.proofs.Starts.{begins, last_level, leaves_within, level_next, level_within, more_behind, more_children, more_places, no_level, place_within}
use Rattle.filter_iter.specs.Borders.{IsBorder, leaves_at}
use Rattle.filter_iter.specs.Counts.{LeavesAreCountedByLevels, below_first}
use Rattle.filter_iter.specs.declared.parts.Border.{Border}
use Rattle.filter_model.specs.Leaves.{Leaf}
use Rattle.filter_model.specs.Nodes.{Node, children_before, first_place, leaves_before, trie_of}
use Rattle.filter_model.specs.Trie.{height, nodes, nodes_to, path, places}
use Rattle.filter_model.specs.Valid.{IsLeafList}
use Rattle.filter_trie.proofs.LevelStarts.{nodes_within as nodes_below}
use Rattle.filter_trie.specs.LevelStarts.{slots_down}
use Rattle.trie_laws.proofs.Places.{length-trie_of}
use Rattle.trie_levels.proofs.Totals.{valid_lists_have_tries}
use Rattle.trie_model.specs.Halves.{begin_of, first_below, slot_at, whole}
use Rattle.trie_model.specs.Rests.{first_leaf}

plain : (ns : List Node) (p : ℕ) → first_below (whole ns) p ≡ children_before ns p + 1
plain ns p = drop_zero (children_before ns p)
  where
    drop_zero : (k : ℕ) → 0 + k + 1 ≡ k + 1
    drop_zero k = omega arith

pub leaves_are_counted_by_levels : LeavesAreCountedByLevels
leaves_are_counted_by_levels hash_bits real_bits ls v valid l =
    omega (arith, counted_by_places hash_bits real_bits ls valid (first_place (trie_of ls) v) (place_within ls v l), by_nodes hash_bits real_bits ls valid v l, ap (below_first ls) (plain (trie_of ls) (first_place (trie_of ls) v)))

pub first_leaf_within : (ls : List Leaf) (p : List ℕ) → first_leaf ls p ≤ length ls
first_leaf_within ls p = omega (arith, start_within p (map path ls), length-map ls path)

pub one_more : (k n : ℕ) → (k + 1) * n ≡ k * n + n
one_more k n = omega arith

module _ (hash_bits real_bits : ℕ) (ls : List Leaf) (valid : IsLeafList hash_bits real_bits ls) where
  abbrev ns : List Node
  ns = trie_of ls

  -- the border one level down, where on its level it stands before place p
  pub record IsDown (p : ℕ) (b c : Border) : Type 0 where
    pub place : p ≤ length (places ls)
    pub from : first_place ns b.node ≤ p
    pub node : c.node ≡ first_below (whole ns) p
    pub sum : c.sum ≡ b.sum + slot_at (whole ns) p

  counted : (p : ℕ) → p ≤ length (places ls) → behind_first ls p + length ls ≡ leaves_before ns p + below_first ls (children_before ns p + 1)
  counted = counted_by_places hash_bits real_bits ls valid

  pub nodes_within : (p : ℕ) → first_below (whole ns) p ≤ length (nodes ls)
  nodes_within p = nodes_below ls p (some_height hash_bits real_bits ls valid)

  module _ (p : ℕ) (b c : Border) (d : IsDown p b c) where
    pub step_counts : c.sum + below_first ls c.node ≡ b.sum + length ls + behind_first ls p
    step_counts = omega (arith, d.sum, counted p d.place, ap (below_first ls) (d.node ∙ plain ns p))

    pub step_border : (level : ℕ) → IsBorder ls level b → level < height ls → IsBorder ls (level + 1) c
    step_border level is high =
        let first = length (nodes_to ls level) in
        let from = first_place ns first in
        let order : from ≤ p = omega (arith, more_places ns first b.node is.order (omega (arith, is.within, length-trie_of ls)), d.from) in
        record {
          high = omega (arith, high);
          order = omega (arith, level_next ls level (omega (arith, high)), plain ns from, more_children ns from p order, d.node, plain ns p);
          within = omega (arith, d.node, nodes_within p);
          counted = omega (arith, one_more level (length ls), step_counts, is.counted, more_behind ls (first_place ns b.node) p d.from, by_nodes hash_bits real_bits ls valid b.node is.within);
        }

  -- where on its level it stands before node v with all its branches
  pub down_to : (v : ℕ) (b c : Border) → b.node ≤ v → v ≤ length (nodes ls) → c.node ≡ first_below (whole ns) (begin_of (whole ns) v) → c.sum ≡ b.sum + slot_at (whole ns) (begin_of (whole ns) v) → IsDown (first_place ns v) b c
  down_to v b c up l node sum = record {
    place = place_within ls v l;
    from = more_places ns b.node v up (omega (arith, l, length-trie_of ls));
    node = node ∙ ap (first_below (whole ns)) (begins ns v);
    sum = sum ∙ ap (λ (p : ℕ). b.sum + slot_at (whole ns) p) (begins ns v);
  }

  -- one level further down, with the same leaves before it
  pub below_border : (level : ℕ) (b c : Border) → IsBorder ls level b → level < height ls → c.node ≡ first_below (whole ns) (begin_of (whole ns) b.node) → c.sum ≡ b.sum + slot_at (whole ns) (begin_of (whole ns) b.node)
      → IsBorder ls (level + 1) c × (leaves_at ls (level + 1) c ≡ leaves_at ls level b)
  below_border level b c is high node sum =
      let d = down_to b.node b c (omega arith) is.within node sum in (
        step_border (first_place ns b.node) b c d level is high,
        omega (arith, step_counts (first_place ns b.node) b c d, by_nodes hash_bits real_bits ls valid b.node is.within, one_more level (length ls), is.counted),
      )

  -- a sum of leaves is small
  pub sum_small : (level : ℕ) (b : Border) → IsBorder ls level b → leaves_at ls level b ≤ length ls → b.sum ≤ 1025 * length ls
  sum_small level b is few =
      let low : level ≤ 1024 = omega (arith, is.high, low_height hash_bits real_bits ls valid) in
      omega (arith, few, is.counted, mul-le-mul_right (length ls) low)

  -- so that there is room for one more
  pub room : (level p : ℕ) (b : Border) → IsBorder ls level b → leaves_at ls level b ≤ length ls → b.sum + slot_at (whole ns) p < 2 ^ 64
  room level p b is few =
      let many = valid.few in
      omega (arith, sum_small level b is few, many, leaves_within ls p (valid_lists_have_tries hash_bits real_bits ls valid))

  -- ---- where levels begin

  level_sum : (n i : ℕ) → i + n ≤ height ls → slots_down (whole ns) n (length (nodes_to ls i)) + below_first ls (length (nodes_to ls (i + n))) ≡ below_first ls (length (nodes_to ls i)) + n * length ls
  level_sum zero i l = omega (arith, ap (λ (k : ℕ). below_first ls (length (nodes_to ls k))) (plus_none i))
    where
      plus_none : (k : ℕ) → k + 0 ≡ k
      plus_none k = omega arith
  level_sum (suc n) i l =
      let v = length (nodes_to ls i) in
      let next : first_below (whole ns) (begin_of (whole ns) v) ≡ length (nodes_to ls (i + 1)) = ap (first_below (whole ns)) (begins ns v) ∙ level_next ls i (omega (arith, l)) in
      let here : slots_down (whole ns) (suc n) v ≡ slot_at (whole ns) (begin_of (whole ns) v) + slots_down (whole ns) n (first_below (whole ns) (begin_of (whole ns) v)) = refl in
      let slots : slot_at (whole ns) (begin_of (whole ns) v) ≡ leaves_before ns (first_place ns v) = omega (arith, ap (leaves_before ns) (begins ns v)) in
      omega (
        arith,
        here,
        slots,
        level_sum n (i + 1) (omega (arith, l)),
        leaves_are_counted_by_levels hash_bits real_bits ls v valid (level_within ls i (omega (arith, l))),
        ap (below_first ls) (level_next ls i (omega (arith, l))),
        ap (slots_down (whole ns) n) next,
        ap (λ (k : ℕ). below_first ls (length (nodes_to ls k))) (one_on i n),
        suc_times n (length ls),
      )
    where
      one_on : (i n : ℕ) → i + 1 + n ≡ i + suc n
      one_on i n = omega arith

      suc_times : (n m : ℕ) → suc n * m ≡ n * m + m
      suc_times n m = omega arith

  starts_are : slots_down (whole ns) (height ls) 0 + below_first ls (length (nodes ls)) ≡ height ls * length ls
  starts_are =
      omega (
        arith,
        level_sum (height ls) 0 (omega arith),
        ap (slots_down (whole ns) (height ls)) (no_level ls),
        ap (below_first ls) (no_level ls),
        ap (λ (k : ℕ). below_first ls (length (nodes_to ls k))) (none_on (height ls)),
        ap (below_first ls) (last_level ls),
      )
    where
      none_on : (n : ℕ) → 0 + n ≡ n
      none_on n = omega arith

  at_end : (b : Border) → IsBorder ls (height ls) b → b.node ≡ length (nodes ls)
  at_end b is = omega (arith, is.order, is.within, last_level ls)

  -- below the last level nothing stands
  pub last_border : (b : Border) → IsBorder ls (height ls) b → leaves_at ls (height ls) b ≡ b.sum - slots_down (whole ns) (height ls) 0
  last_border b is = omega (arith, starts_are, ap (below_first ls) (at_end b is), is.counted)

  pub starts_before : (b : Border) → IsBorder ls (height ls) b → slots_down (whole ns) (height ls) 0 ≤ b.sum
  starts_before b is = omega (arith, starts_are, ap (below_first ls) (at_end b is), is.counted)

  -- what still is to be counted from a border on, on n levels: with it all is counted
  rest_border : (n level : ℕ) (b : Border) → level + n ≡ height ls → IsBorder ls level b
      → (leaves_at ls level b + slots_down (whole ns) (height ls) 0 ≡ b.sum + slots_down (whole ns) n b.node) × ((leaves_at ls level b ≤ length ls) → b.sum + slots_down (whole ns) n b.node ≤ 1025 * length ls)
  rest_border zero level b end is =
      let last : level ≡ height ls = omega (arith, end) in
      let at : IsBorder ls (height ls) b = subst (λ (n : ℕ). IsBorder ls n b) last is in
      let same : leaves_at ls level b ≡ leaves_at ls (height ls) b = ap (λ (n : ℕ). leaves_at ls n b) last in
      let none : slots_down (whole ns) zero b.node ≡ 0 = refl in (
        omega (arith, none, same, last_border b at, starts_before b at),
        λ few. omega (arith, none, sum_small level b is few),
      )
  rest_border (suc n) level b end is =
      let p = begin_of (whole ns) b.node in
      let c : Border = record { node = first_below (whole ns) p; sum = b.sum + slot_at (whole ns) p } in
      let down = below_border level b c is (omega (arith, end)) refl refl in
      let rest = rest_border n (level + 1) c (omega (arith, end)) down.0 in
      let here : slots_down (whole ns) (suc n) b.node ≡ slot_at (whole ns) p + slots_down (whole ns) n (first_below (whole ns) p) = refl in (
        omega (arith, here, down.1, rest.0),
        λ few. omega (arith, here, rest.1 (omega (arith, down.1, few))),
      )

  -- so it is the sum that a trie keeps
  pub rest_counted : (level : ℕ) (b : Border) → IsBorder ls level b → leaves_at ls level b + slots_down (whole ns) (height ls) 0 ≡ b.sum + slots_down (whole ns) (height ls - level) b.node
  rest_counted level b is = (rest_border (height ls - level) level b (omega (arith, is.high)) is).0

  pub rest_small : (level : ℕ) (b : Border) → IsBorder ls level b → leaves_at ls level b ≤ length ls → b.sum + slots_down (whole ns) (height ls - level) b.node ≤ 1025 * length ls
  rest_small level b is few = (rest_border (height ls - level) level b (omega (arith, is.high)) is).1 few

  -- two borders at one node: what was counted differs as much as the leaves that come before them
  pub at_one_node : (level m n : ℕ) (b c : Border) → IsBorder ls level b → IsBorder ls level c → b.node ≡ c.node → leaves_at ls level b ≡ m → leaves_at ls level c ≡ n → c.sum + m ≡ b.sum + n
  at_one_node level m n b c is is' same before before' = omega (arith, before, before', is.counted, is'.counted, ap (below_first ls) same)

  pub at_bottom : (b c : Border) → IsBorder ls (height ls) b → IsBorder ls (height ls) c → b.node ≡ c.node
  at_bottom b c is is' = at_end b is ∙ sym (at_end c is')
