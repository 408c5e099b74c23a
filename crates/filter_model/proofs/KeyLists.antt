-- A list of keys, one key more.
use Rattle.std.proofs.Common.{◌≡◌, ◌<◌, ◌+◌, ◌-◌, ℕ, List, [], true, length, get_or, subst, arith, inl, inr}
use Rattle.std.proofs.lemmas.Bool.{cases_lt}
use Rattle.std.proofs.lemmas.List.{get_or_default}
use Rattle.filter_model.specs.Keys.{IsKey}
use Rattle.filter_model.specs.Strings.{is_before}
use Rattle.filter_model.proofs.Order.{is_before-trans}

pub each_more : (keys : List (List ℕ)) (i : ℕ) → i < length keys → IsKey (get_or keys i []) → ((k : ℕ) (d : List ℕ) → k < i → IsKey (get_or keys k d))
    → (k : ℕ) (d : List ℕ) → k < i + 1 → IsKey (get_or keys k d)
each_more keys i l here before k d h = elim (cases_lt k i) [
  | inl less ↦ before k d less
  | inr last ↦
      let e : i ≡ k = omega arith in
      subst (λ j. IsKey (get_or keys j d)) e (subst IsKey (get_or_default keys i [] d l) here)
]

pub rise_more : (keys : List (List ℕ)) (i : ℕ) → i < length keys → (0 < i → is_before (get_or keys (i - 1) []) (get_or keys i []) ≡ true)
    → ((j k : ℕ) (d : List ℕ) → j < k → k < i → is_before (get_or keys j d) (get_or keys k d) ≡ true)
    → (j k : ℕ) (d : List ℕ) → j < k → k < i + 1 → is_before (get_or keys j d) (get_or keys k d) ≡ true
rise_more keys i l last before j k d h m = elim (cases_lt k i) [
  | inl less ↦ before j k d h less
  | inr at_end ↦
      let e : i ≡ k = omega arith in
      subst (λ n. is_before (get_or keys j d) (get_or keys n d) ≡ true) e (to_last (omega arith))
]
  where
    step : 0 < i → is_before (get_or keys (i - 1) d) (get_or keys i d) ≡ true
    step pos =
        subst (λ (x : List ℕ). is_before x (get_or keys i d) ≡ true) (get_or_default keys (i - 1) [] d (omega arith))
        (subst (λ (x : List ℕ). is_before (get_or keys (i - 1) []) x ≡ true) (get_or_default keys i [] d l) (last pos))

    to_last : j < i → is_before (get_or keys j d) (get_or keys i d) ≡ true
    to_last less = elim (cases_lt j (i - 1)) [
      | inl further ↦ is_before-trans (get_or keys j d) (get_or keys (i - 1) d) (get_or keys i d) (before j (i - 1) d further (omega arith)) (step (omega arith))
      | inr next ↦
          let e : i - 1 ≡ j = omega arith in
          subst (λ n. is_before (get_or keys n d) (get_or keys i d) ≡ true) e (step (omega arith))
    ]
