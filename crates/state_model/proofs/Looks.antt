-- A closed seek looks up to its answer, and no farther.
use Rattle.std.proofs.Common.{◌≡◌, ◌≤◌, ℕ, suc, List, [], ◌∷◌, refl, ap, ◌∙◌, Bool, true, false, cond, not, ◌&&◌, ◌||◌, arith}
use Rattle.std.specs.Prelude.{Option, Some, None, filter, sum_by}
use Rattle.std.specs.Option.{option_map_or}
use Rattle.std.proofs.lemmas.Bool.{and_parts, false≢true}
use Rattle.std.proofs.lemmas.List.Sums.{sum_by-cons}
use Rattle.filter_model.proofs.Order.{Leq-from, Leq-itself, Leq-to, Leq-trans}
use Rattle.filter_model.specs.Answers.{begins, is_past, meets, ranged}
use Rattle.filter_model.specs.Leaves.{Leaf}
use Rattle.map_model.specs.SortedMap.{Bytes, Map}
use Rattle.map_model.specs.Slices.{is_before, seek}
use Rattle.map_model.proofs.Between.{sought_between}
use Rattle.state_model.specs.Bounds.{admits_range, looks_to, stepped, table_leaves}
use Rattle.state_model.specs.ReadLaws.{SeeksLookNoFarther}
use Rattle.state_model.specs.View.{state_map}
use Rattle.table_model.specs.Tables.{Table}

-- ---- where it looks

not_true : (b : Bool) → not b ≡ true → b ≡ false
not_true true e = absurd (false≢true e)
not_true false e = refl

itself : (x : Bytes) → is_before x x ≡ false
itself x = Leq-to x x (Leq-itself x)

module _ (map : Map) (lo hi : Bytes) where
  abbrev looked : Option (Bytes × Bytes) → Bytes
  looked answer = option_map_or (λ (pair : Bytes × Bytes). pair.0) answer hi

  parts : (pair : Bytes × Bytes) → seek map lo (Some hi) ≡ Some pair → (not (is_before pair.0 lo) ≡ true) × (not (is_before hi pair.0) ≡ true)
  parts pair found = and_parts (not (is_before pair.0 lo)) (not (is_before hi pair.0)) (sought_between map lo (Some hi) pair found)

  -- not above the upper bound
  pub looks_up_to : is_before hi (looks_to map lo hi) ≡ false
  looks_up_to = by_answer (seek map lo (Some hi)) refl
    where
      by_answer : (answer : Option (Bytes × Bytes)) → seek map lo (Some hi) ≡ answer → is_before hi (looked answer) ≡ false
      by_answer None _ = itself hi
      by_answer (Some pair) found = not_true (is_before hi pair.0) (parts pair found).1

  -- nor below the lower one, where they are not crossed
  pub looks_from : is_before hi lo ≡ false → is_before (looks_to map lo hi) lo ≡ false
  looks_from order = by_answer (seek map lo (Some hi)) refl
    where
      by_answer : (answer : Option (Bytes × Bytes)) → seek map lo (Some hi) ≡ answer → is_before (looked answer) lo ≡ false
      by_answer None _ = order
      by_answer (Some pair) found = not_true (is_before pair.0 lo) (parts pair found).0

-- ---- a filter that admits some bounds admits those up to a greater one

module _ (real_bits : ℕ) (lo near far : Bytes) (order : is_before far near ≡ false) where
  meets_farther : (l : Leaf) → meets real_bits lo near l ≡ true → meets real_bits lo far l ≡ true
  meets_farther l near_too =
      let both = and_parts (not (is_before near (begins real_bits l))) (not (is_past real_bits lo l)) near_too in
      let above = Leq-to (begins real_bits l) far (Leq-trans (begins real_bits l) near far (Leq-from (begins real_bits l) near (not_true (is_before near (begins real_bits l)) both.0)) (Leq-from near far order)) in
      ap (λ (b : Bool). not b && not (is_past real_bits lo l)) above ∙ both.1

  any_farther : (leaves : List Leaf) → ranged real_bits leaves lo near ≡ true → ranged real_bits leaves lo far ≡ true
  any_farther [] e = e
  any_farther (l ∷ leaves) e = by_first (meets real_bits lo near l) (meets real_bits lo far l) (meets_farther l) (any_farther leaves) e
    where
      by_first : (a b : Bool) → (a ≡ true → b ≡ true) → (ranged real_bits leaves lo near ≡ true → ranged real_bits leaves lo far ≡ true)
          → (a || ranged real_bits leaves lo near) ≡ true → (b || ranged real_bits leaves lo far) ≡ true
      by_first true b first rest e = ap (λ (x : Bool). x || ranged real_bits leaves lo far) (first refl)
      by_first false true first rest e = refl
      by_first false false first rest e = rest e

pub admits_farther : (lo near far : Bytes) → is_before far near ≡ false → (t : Table) → admits_range lo near t ≡ true → admits_range lo far t ≡ true
admits_farther lo near far order t = any_farther t.settings.real_bits lo near far order (table_leaves t)

-- ---- so more tables are counted

pub sum_farther : {X : Type 0} (f : X → ℕ) (p q : X → Bool) → ((x : X) → p x ≡ true → q x ≡ true) → (xs : List X) → sum_by f (filter p xs) ≤ sum_by f (filter q xs)
sum_farther {X} f p q more [] = omega arith
sum_farther {X} f p q more (x ∷ xs) = by_first (sum_farther f p q more xs) (p x) (q x) (more x)
  where
    by_first : sum_by f (filter p xs) ≤ sum_by f (filter q xs) → (a b : Bool) → (a ≡ true → b ≡ true) → sum_by f (cond a (x ∷ filter p xs) (filter p xs)) ≤ sum_by f (cond b (x ∷ filter q xs) (filter q xs))
    by_first rest true true first = omega (arith, rest, sum_by-cons f x (filter p xs), sum_by-cons f x (filter q xs))
    by_first rest true false first = absurd (false≢true (first refl))
    by_first rest false true first = omega (arith, rest, sum_by-cons f x (filter q xs))
    by_first rest false false first = rest

pub looks_no_farther : SeeksLookNoFarther
looks_no_farther s lo hi = by_order (is_before hi lo)
  where
    near : ℕ
    near = sum_by (λ (t : Table). suc (stepped (state_map s) lo hi t)) (filter (admits_range lo (looks_to (state_map s) lo hi)) s.tables)

    far : ℕ
    far = sum_by (λ (t : Table). suc (stepped (state_map s) lo hi t)) (filter (admits_range lo hi) s.tables)

    by_order : (crossed : Bool) → cond crossed 0 near ≤ far
    by_order true = omega arith
    by_order false = sum_farther (λ (t : Table). suc (stepped (state_map s) lo hi t)) (admits_range lo (looks_to (state_map s) lo hi)) (admits_range lo hi)
        (admits_farther lo (looks_to (state_map s) lo hi) hi (looks_up_to (state_map s) lo hi)) s.tables
