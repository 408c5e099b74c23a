-- The tally against the true count.
use Rattle.std.proofs.Common.{◌≡◌, ◌≤◌, ◌==◌, ℕ, List, [], ◌∷◌, ◌⊎◌, true, not, length, drop, get_or, map, refl, sym, ap, subst, ◌∙◌, arith, inl, inr}
use Rattle.std.specs.List.{AllPairs, list_any}
use Rattle.std.proofs.lemmas.Bool.{cases_Bool, and_parts, not-true, cond-true, cond-false}
use Rattle.std.proofs.lemmas.List.{append-nil}
use Rattle.std.proofs.lemmas.List.Elements.{Contains-get_or}
use Rattle.byte_fields.specs.Spelling.{IsBytes}
use Rattle.filter_model.specs.Strings.{is_before, is_prefix, extends, bytes_eq, bits}
use Rattle.filter_model.specs.Keys.{IsKey}
use Rattle.filter_model.specs.Leaves.{Leaf, leaf_of, leaves_of}
use Rattle.filter_model.specs.Answers.{begins, fits, is_past, meets, is_within}
use Rattle.filter_model.specs.Valid.{IsValid}
use Rattle.filter_model.specs.Laws.{AreBounds, TallyIsNear, NoHeldRangeIsDenied}
use Rattle.filter_model.proofs.Order.{Leq, Lt-from, Leq-from, Leq-trans, Lt-Leq, Lt-not_back, Lt-or-Leq}
use Rattle.filter_model.proofs.Fronts.{same-true, is_prefix-append}
use Rattle.filter_model.proofs.Fits.{begins_least, not_past, fits_between, meets_from}
use Rattle.filter_model.proofs.Ranges.{within_parts, within_from}
use Rattle.filter_model.proofs.Shared.{is_prefix_Leq, prefixes_of_one}
use Rattle.filter_model.proofs.Stubs.{any_at, fits_own, leaf_of_key}
use Rattle.filter_model.proofs.Counts.{count_by-map, count_le, count_three, count_one}
use Rattle.filter_model.proofs.Validity.{key_of, leaves_are_valid}

-- a key in the range is of a leaf that meets it
held_key_meets : (hash_bits n : ℕ) (keys : List (List ℕ)) (lo hi k : List ℕ) → AreBounds lo hi → IsBytes k → is_within lo hi k ≡ true → meets n lo hi (leaf_of hash_bits n keys k) ≡ true
held_key_meets hash_bits n keys lo hi k bounds bytes within =
    let parts = within_parts lo hi k within in
    meets_from n lo hi k (leaf_of hash_bits n keys k) bounds.lo_bytes bytes parts.0 parts.1 (fits_own hash_bits n keys k)

pub no_held_range_is_denied : NoHeldRangeIsDenied
no_held_range_is_denied hash_bits n keys lo hi k h bounds c within =
    any_at (meets n lo hi) (leaf_of hash_bits n keys) keys k c (held_key_meets hash_bits n keys lo hi k bounds (key_of keys h k c).bytes within)

-- a leaf that meets the range without its key is one that a bound fits
met_by : (hash_bits n : ℕ) (keys : List (List ℕ)) (lo hi k : List ℕ) → n ≤ 32 → AreBounds lo hi → IsKey k → meets n lo hi (leaf_of hash_bits n keys k) ≡ true
    → (is_within lo hi k ≡ true) ⊎ ((fits n lo (leaf_of hash_bits n keys k) ≡ true) ⊎ (fits n hi (leaf_of hash_bits n keys k) ≡ true))
met_by hash_bits n keys lo hi k nh bounds key m =
    let l = leaf_of hash_bits n keys k in
    let leaf = leaf_of_key hash_bits n keys k nh key in
    let own = fits_own hash_bits n keys k in
    let least = begins_least n k l key.bytes own in
    let parts = and_parts (not (is_before hi (begins n l))) (not (is_past n lo l)) m in
    let upper = Leq-from (begins n l) hi (not-true (is_before hi (begins n l)) parts.0) in
    let open_at_lo = not-true (is_past n lo l) parts.1 in
    elim (Lt-or-Leq k lo) [
      | inl below ↦
          inr (inl (fits_between hash_bits n lo l nh leaf bounds.lo_bytes (Leq-trans (begins n l) k lo least (Lt-Leq k lo below)) open_at_lo))
      | inr not_below ↦ elim (Lt-or-Leq hi k) [
        | inl above ↦
            inr (inr (fits_between hash_bits n hi l nh leaf bounds.hi_bytes upper (not_past n hi k l bounds.hi_bytes key.bytes (Lt-Leq hi k above) own)))
        | inr not_above ↦ inl (within_from lo hi k not_below not_above)
      ]
    ]

-- what fits a leaf begins with its stub
fits_begun : (n : ℕ) (x : List ℕ) (l : Leaf) → fits n x l ≡ true → is_prefix l.stub x ≡ true
fits_begun n x l f = elim (cases_Bool l.ends) [
  | inl e ↦
      let one = same-true l.stub x (sym (cond-true l.ends (bytes_eq l.stub x) _ e) ∙ f) in
      subst (λ (y : List ℕ). is_prefix l.stub y ≡ true) one (begins_itself l.stub)
  | inr e ↦ (and_parts (is_prefix l.stub x) (bits n (drop (length l.stub) x) == l.real) (sym (cond-false l.ends (bytes_eq l.stub x) _ e) ∙ f)).0
]
  where
    begins_itself : (x : List ℕ) → is_prefix x x ≡ true
    begins_itself x = ap (is_prefix x) (sym (append-nil x)) ∙ is_prefix-append x []

-- no string fits two leaves of a valid list
pub fit_one : (hash_bits n : ℕ) (ls : List Leaf) (x : List ℕ) → IsValid hash_bits n ls → AllPairs (λ a b. fits n x a ≡ true → fits n x b ≡ true → ⊥) ls
fit_one hash_bits n ls x valid i j d before within fa fb =
    let a = get_or ls i d in
    let b = get_or ls j d in
    let lt = Lt-from a.stub b.stub (valid.rising i j d before within) in
    let b_begun = fits_begun n x b fb in
    let more = prefixes_of_one a.stub b.stub x (fits_begun n x a fa) b_begun lt in
    let some = any_at (λ (o : Leaf). extends a.stub o.stub) (λ (o : Leaf). o) ls b (Contains-get_or ls j d within) more in
    let a_ends : a.ends ≡ true = valid.ends i d (omega arith) ∙ ap (list_any (λ (o : Leaf). extends a.stub o.stub)) (sym (map-itself ls)) ∙ some in
    let one = same-true a.stub x (sym (cond-true a.ends (bytes_eq a.stub x) _ a_ends) ∙ fa) in
    Lt-not_back a.stub b.stub lt (subst (Leq b.stub) (sym one) (is_prefix_Leq b.stub x b_begun))
  where
    map-itself : (ls : List Leaf) → map (λ (o : Leaf). o) ls ≡ ls
    map-itself [] = refl
    map-itself (l ∷ ls) = ap (λ (r : List Leaf). l ∷ r) (map-itself ls)

pub tally_is_near : TallyIsNear
tally_is_near hash_bits n keys lo hi nh h bounds =
    let f = leaf_of hash_bits n keys in
    let ls = leaves_of hash_bits n keys in
    let valid = leaves_are_valid hash_bits n keys nh h in
    let counted = count_by-map (meets n lo hi) f keys in
    let at_lo = count_by-map (fits n lo) f keys in
    let at_hi = count_by-map (fits n hi) f keys in
    let lower = count_le (is_within lo hi) (λ k. meets n lo hi (f k)) keys (λ k c w. held_key_meets hash_bits n keys lo hi k bounds (key_of keys h k c).bytes w) in
    let upper = count_three (λ k. meets n lo hi (f k)) (is_within lo hi) (λ k. fits n lo (f k)) (λ k. fits n hi (f k)) keys (λ k c m. met_by hash_bits n keys lo hi k nh bounds (key_of keys h k c) m) in
    let one_lo = count_one (fits n lo) ls (fit_one hash_bits n ls lo valid) in
    let one_hi = count_one (fits n hi) ls (fit_one hash_bits n ls hi valid) in
    (omega (arith, counted, lower), omega (arith, counted, at_lo, at_hi, upper, one_lo, one_hi))
