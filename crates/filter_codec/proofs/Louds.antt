-- Opening bits, and levels one after the other.
use Rattle.std.proofs.Common.{◌≡◌, ◌≢◌, ℕ, suc, ◌+◌, ◌-◌, ◌<◌, ◌≤◌, ◌∙◌, refl, sym, ap, arith, length, get_or, take, drop, Bool, true, false, List, [], ◌∷◌, ◌++◌, nat_le, eq-eqb, inl, inr}
use Rattle.std.specs.Prelude.{not, ◌&&◌, ◌==◌}
use Rattle.std.proofs.Common.{length-drop, take-add}
use Rattle.std.proofs.lemmas.List.{drop-drop}
use Rattle.std.proofs.lemmas.Bool.{cases_Bool, eqb-false, eqb-true, le-leb, lt-leb, ne_eqb}
use Rattle.filter_codec.proofs.Trees.{children_add}
use Rattle.filter_image_model.specs.Levels.{are_levels, children_of, nodes_above}
use Rattle.filter_image_model.specs.Reading.{begins_clear}
use Rattle.filter_model.specs.Nodes.{Node}
use Rattle.filter_codec.specs.Tree.{IsNextLevel}

taken : (a b : ℕ) (ns : List Node) → a ≤ b → take b ns ≡ take a ns ++ take (b - a) (drop a ns)
taken a b ns le = ap (λ k. take k ns) (sym (back a b le)) ∙ take-add a (b - a) ns
  where
    back : (a b : ℕ) → a ≤ b → a + (b - a) ≡ b
    back a b le = omega arith

pub none_clear : (bits : List Bool) → length bits ≡ 0 → false ≡ begins_clear bits
none_clear [] e = refl
none_clear (b ∷ bits) e = absurd (omega (arith, e))

pub first_clear : (bits : List Bool) → (length bits ≡ 0 → ⊥) → not (get_or bits 0 false) ≡ begins_clear bits
first_clear [] e = absurd (e refl)
first_clear (b ∷ bits) e = refl

-- ---- levels

module _ (ns : List Node) where
  module _ (n start end : ℕ) (l : IsNextLevel ns n start end) (some : end ≢ start) (there : end ≤ length ns) where
    size : ℕ
    size = end - start

    abbrev part : List Node
    part = drop start ns

    long : length part ≡ length ns - start
    long = length-drop start ns

    -- the children of the level are the nodes of the next
    below : children_of (take (end - start) part) ≡ children_of (take end ns) + 1 - end
    below =
        let whole : take end ns ≡ take start ns ++ take (end - start) part = taken start end ns l.order in
        let sum : children_of (take end ns) ≡ children_of (take start ns) + children_of (take (end - start) part) = ap children_of whole ∙ children_add (take start ns) (take (end - start) part) in
        omega (arith, sum, l.next)

    behind : drop (end - start) part ≡ drop end ns
    behind = drop-drop (end - start) start ns ∙ ap (λ k. drop k ns) (back start end l.order)
      where
        back : (a b : ℕ) → a ≤ b → a + (b - a) ≡ b
        back a b le = omega arith

    is_some : (end - start == 0) ≡ false
    is_some = ne_eqb (end - start) 0 (λ e. some (omega (arith, e, l.order)))

    is_there : nat_le (end - start) (length part) ≡ true
    is_there = le-leb (end - start) (length part) (omega (arith, long, there, l.order))

    step : (k : ℕ) → are_levels (suc k) (end - start) part ≡ are_levels k (children_of (take end ns) + 1 - end) (drop end ns)
    step k =
        (λ j. not (is_some j) && is_there j && are_levels k (children_of (take (end - start) part)) (drop (end - start) part))
        ∙ (λ j. are_levels k (below j) (behind j))

    pub next_level : IsNextLevel ns (n + 1) end (children_of (take end ns) + 1)
    next_level = record {
      rest = λ k. ap (λ m. are_levels m 1 ns) (move n k) ∙ l.rest (suc k) ∙ step k;
      above = λ k.
          ap (λ m. nodes_above m 1 ns) (move n k) ∙ l.above (suc k)
          ∙ (λ j. start + ((end - start) + nodes_above k (below j) (behind j)))
          ∙ up start end (nodes_above k (children_of (take end ns) + 1 - end) (drop end ns)) l.order;
      order = omega (arith, below, l.next, children_add (take start ns) (take (end - start) part), ap children_of (taken start end ns l.order));
      next = refl;
      within = there;
    }
      where
        move : (n k : ℕ) → n + 1 + k ≡ n + suc k
        move n k = omega arith

        up : (a b x : ℕ) → a ≤ b → a + ((b - a) + x) ≡ b + x
        up a b x le = omega arith

-- where the next level has no node, or more nodes than are left, there are no more levels
pub no_more : (ns : List Node) (n start end levels k : ℕ) → IsNextLevel ns n start end → n < levels → end ≡ start → are_levels (levels + k) 1 ns ≡ false
no_more ns n start end levels k l lt e =
    let m : levels + k ≡ n + suc (levels - n - 1 + k) = omega arith in
    let none : (end - start == 0) ≡ true = eq-eqb (end - start) 0 (omega (arith, e)) in
    ap (λ x. are_levels x 1 ns) m ∙ l.rest (suc (levels - n - 1 + k))
    ∙ ap (λ (t : Bool). not t && nat_le (end - start) (length (drop start ns)) && are_levels (levels - n - 1 + k) (children_of (take (end - start) (drop start ns))) (drop (end - start) (drop start ns))) none

pub too_many : (ns : List Node) (n start end levels k : ℕ) → IsNextLevel ns n start end → n < levels → length ns < end → are_levels (levels + k) 1 ns ≡ false
too_many ns n start end levels k l lt more =
    let m : levels + k ≡ n + suc (levels - n - 1 + k) = omega arith in
    let past : nat_le (end - start) (length (drop start ns)) ≡ false = lt-leb (end - start) (length (drop start ns)) (omega (arith, length-drop start ns, l.order, l.within)) in
    ap (λ x. are_levels x 1 ns) m ∙ l.rest (suc (levels - n - 1 + k))
    ∙ ap (λ (t : Bool). not (end - start == 0) && t && are_levels (levels - n - 1 + k) (children_of (take (end - start) (drop start ns))) (drop (end - start) (drop start ns))) past
    ∙ both (not (end - start == 0)) (are_levels (levels - n - 1 + k) (children_of (take (end - start) (drop start ns))) (drop (end - start) (drop start ns)))
  where
    both : (a b : Bool) → (a && false && b) ≡ false
    both true b = refl
    both false b = refl

-- behind the last level there is nothing
same_test : (a b c d : ℕ) → (a ≡ b → c ≡ d) → (c ≡ d → a ≡ b) → (a == b) ≡ (c == d)
same_test a b c d f g = elim (cases_Bool (a == b)) [
  | inl e ↦ e ∙ sym (eq-eqb c d (f (eqb-true a b e)))
  | inr e ↦ e ∙ sym (ne_eqb c d (λ x. eqb-false a b e (g x)))
]

pub last_level : (ns : List Node) (n start end : ℕ) → IsNextLevel ns n start end → ((end == start) && (start == length ns)) ≡ are_levels n 1 ns
last_level ns n start end l =
    (λ j. same_test end start (end - start) 0 (λ e. omega (arith, e)) (λ e. omega (arith, e, l.order)) j
    && same_test start (length ns) (length (drop start ns)) 0 (λ e. omega (arith, e, length-drop start ns)) (λ e. omega (arith, e, length-drop start ns, l.within)) j)
    ∙ sym (l.rest 0) ∙ ap (λ m. are_levels m 1 ns) (plain n)
  where
    plain : (n : ℕ) → n + 0 ≡ n
    plain n = omega arith

pub above_level : (ns : List Node) (n start end : ℕ) → IsNextLevel ns n start end → start ≡ nodes_above n 1 ns
above_level ns n start end l = plain start ∙ sym (l.above 0) ∙ ap (λ m. nodes_above m 1 ns) (sym (plain n))
  where
    plain : (n : ℕ) → n ≡ n + 0
    plain n = omega arith

pub no_levels : (ns : List Node) (n m : ℕ) → n ≤ m → ((k : ℕ) → are_levels (n + k) 1 ns ≡ false) → are_levels m 1 ns ≡ false
no_levels ns n m le e = ap (λ k. are_levels k 1 ns) (back n m le) ∙ e (m - n)
  where
    back : (n m : ℕ) → n ≤ m → m ≡ n + (m - n)
    back n m le = omega arith
