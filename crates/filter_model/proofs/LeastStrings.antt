-- Least strings: they fit their leaves, and in a valid list they rise.
use Rattle.std.proofs.Common.{◌≡◌, ◌<◌, ℕ, suc, List, [], ◌∷◌, ◌++◌, Bool, true, false, ◌&&◌, length, get_or, map, refl, sym, ap, subst, ◌∙◌, arith, inl, inr}
use Rattle.std.specs.List.{Contains, list_any}
use Rattle.std.proofs.lemmas.Bool.{cases_Bool, or_cases, eq-eqb, false≢true}
use Rattle.std.proofs.lemmas.List.Elements.{Contains-get_or}
use Rattle.byte_fields.specs.Spelling.{IsBytes}
use Rattle.filter_model.specs.Strings.{is_before, extends}
use Rattle.filter_model.specs.Leaves.{Leaf, leaf_of}
use Rattle.filter_model.specs.Answers.{begins, fits, is_past}
use Rattle.filter_model.specs.Valid.{IsValid}
use Rattle.filter_model.specs.Laws.{LeastStringsFit, NoKeyBeforeLeast, PastIsBelow}
use Rattle.filter_model.proofs.Order.{Leq-to, Leq-itself, Lt, Lt-from, Lt-to, Lt-Leq, Lt-not_back, Lt-or-Leq}
use Rattle.filter_model.proofs.Fits.{begins_least, begins_fits, begins_bytes, begins_end, not_past, fits_between}
use Rattle.filter_model.proofs.Stubs.{any_at, fits_own}
use Rattle.filter_model.proofs.Validity.{key_of}

pub least_strings_fit : LeastStringsFit
least_strings_fit hash_bits n ls nh valid i d l =
    let leaf = valid.leaves i d l in
    record {
      bytes = begins_bytes hash_bits n (get_or ls i d) nh leaf;
      fit = begins_fits n (get_or ls i d) nh leaf.real_fits;
      least = λ y bytes fit. Leq-to (begins n (get_or ls i d)) y (begins_least n y (get_or ls i d) bytes fit);
    }

pub no_key_before_least : NoKeyBeforeLeast
no_key_before_least hash_bits n keys k h c =
    let l = leaf_of hash_bits n keys k in
    Leq-to (begins n l) k (begins_least n k l (key_of keys h k c).bytes (fits_own hash_bits n keys k))

pub past_is_below : PastIsBelow
past_is_below hash_bits n lo l nh bytes leaf = (below, past)
  where
    below : is_past n lo l ≡ true → (x : List ℕ) → IsBytes x → fits n x l ≡ true → is_before x lo ≡ true
    below past x x_bytes fit = elim (Lt-or-Leq x lo) [
      | inl before ↦ Lt-to x lo before
      | inr after ↦ absurd (false≢true (sym (not_past n lo x l bytes x_bytes after fit) ∙ past))
    ]

    past : ((x : List ℕ) → IsBytes x → fits n x l ≡ true → is_before x lo ≡ true) → is_past n lo l ≡ true
    past all = elim (cases_Bool (is_past n lo l)) [
      | inl passed ↦ passed
      | inr passed_not ↦
          let least = Lt-from (begins n l) lo (all (begins n l) (begins_bytes hash_bits n l nh leaf) (begins_fits n l nh leaf.real_fits)) in
          let fit = fits_between hash_bits n lo l nh leaf bytes (Lt-Leq (begins n l) lo least) passed_not in
          absurd (Lt-not_back lo lo (Lt-from lo lo (all lo bytes fit)) (Leq-itself lo))
    ]

-- where the first bytes are one, what does not go on from them does not go on after them
and_off : (a b : ℕ) (s t : List ℕ) → a ≡ b → extends (a ∷ s) (b ∷ t) ≡ false → extends s t ≡ false
and_off a b s t same e = ap (λ (c : Bool). c && extends s t) (sym (eq-eqb a b same)) ∙ e

-- a string below another that does not go on from it stays below whatever stands behind it
Lt_before : (s u t : List ℕ) → Lt s t → extends s t ≡ false → Lt (s ++ u) t
Lt_before s u [] h e = h
Lt_before [] u (b ∷ t) h e = absurd (false≢true (sym e))
Lt_before (a ∷ s) u (b ∷ t) (inl less) e = inl less
Lt_before (a ∷ s) u (b ∷ t) (inr (same, rest)) e = inr (same, Lt_before s u t rest (and_off a b s t same e))

Lt_append : (x t u : List ℕ) → Lt x t → Lt x (t ++ u)
Lt_append x [] u h = absurd h
Lt_append [] (b ∷ t) u h = tt
Lt_append (a ∷ x) (b ∷ t) u (inl less) = inl less
Lt_append (a ∷ x) (b ∷ t) u (inr (same, rest)) = inr (same, Lt_append x t u rest)

pub any_here : {X : Type 0} (p : X → Bool) (xs : List X) (x : X) → Contains xs x → p x ≡ true → list_any p xs ≡ true
any_here {X} p xs x h e = ap (list_any p) (sym (map-itself xs)) ∙ any_at p (λ (y : X). y) xs x h e
  where
    map-itself : (ys : List X) → map (λ (y : X). y) ys ≡ ys
    map-itself [] = refl
    map-itself (y ∷ ys) = ap (λ (r : List X). y ∷ r) (map-itself ys)

-- and one that passes has a place
pub any_place : {X : Type 0} (p : X → Bool) (xs : List X) → list_any p xs ≡ true → (i : ℕ) × (i < length xs) × ((d : X) → p (get_or xs i d) ≡ true)
any_place p [] e = absurd (false≢true e)
any_place p (x ∷ xs) e = elim (or_cases (p x) (list_any p xs) e) [
  | inl here ↦ (0, omega arith, λ d. here)
  | inr there ↦ let rest = any_place p xs there in (suc rest.0, omega (arith, rest.1), rest.2)
]

-- the least strings of a valid list rise with its stubs
pub begins_rise : (hash_bits n : ℕ) (ls : List Leaf) → IsValid hash_bits n ls → (i j : ℕ) (d : Leaf) → i < j → j < length ls → Lt (begins n (get_or ls i d)) (begins n (get_or ls j d))
begins_rise hash_bits n ls valid i j d before within =
    let a = get_or ls i d in
    let b = get_or ls j d in
    let lt = Lt-from a.stub b.stub (valid.rising i j d before within) in
    Lt_append (begins n a) b.stub _ (elim (cases_Bool (extends a.stub b.stub)) [
      | inl on ↦
          let some = any_here (λ (o : Leaf). extends a.stub o.stub) ls b (Contains-get_or ls j d within) on in
          subst (λ (x : List ℕ). Lt x b.stub) (sym (begins_end n a (valid.ends i d (omega arith) ∙ some))) lt
      | inr off ↦ Lt_before a.stub _ b.stub lt off
    ])
