-- Entries that stand one after the other, by rising keys.
use Rattle.std.proofs.Common.{◌≡◌, ◌≤◌, ◌<◌, ◌+◌, ◌-◌, ℕ, zero, suc, Bool, true, false, cond, not, List, ◌∷◌, length, drop, refl, sym, ap, ◌∙◌, subst, arith}
use Rattle.std.specs.Prelude.{Some, None, bytes_eq, if◌then◌else◌, ◌||◌, nat_lt}
use Rattle.std.specs.Cmp.Lexicographic.{nat_list_cmp_total, texts_ties}
use Rattle.std.specs.Ordering.{is_lt, is_eq, ordering_reverse}
use Rattle.std.specs.declared.cmp.Ordering.{Ordering}
use Rattle.std.specs.declared.cmp.Ordering.TheVariants.{Less, Equal, Greater}
use Rattle.std.proofs.lemmas.Bool.{ltb-false}
use Rattle.map_model.specs.SortedMap.{Bytes, byte_order}
use Rattle.entry_model.specs.Entries.{Entry}
use Rattle.entry_model.specs.Newest.{entries_from, lookup}
use Rattle.key_base.specs.Limits.{is_no_key_length}
use Rattle.block_model.specs.OldReading.{has_no_kind, old_entries_fault, old_entries_in, old_entry_fault}
use Rattle.block_model.specs.Order.{is_any, is_from}
use Rattle.entry_model.specs.Reading.{entry_in, key_in, key_length_in, value_length_in, width_in}
use Rattle.byte_fields.specs.Faults.{refuse}
use Rattle.key_base.specs.ByteOrder.{is_before}
use Rattle.block_model.proofs.Refusals.{kept, neither, not_false}
use Rattle.block_format.specs.Reading.{Stand}

pub weaker : (n : ℕ) (test : Bytes → Bool) (rest : Bytes) → Stand n test rest → Stand n is_any rest
weaker zero test rest s = tt
weaker (suc n) test rest s = (s.0, refl, s.2)

-- ---- entries that break no rule

one_stands : (place : ℕ) (test : Bytes → Bool) (rest : Bytes) → old_entry_fault place test rest ≡ None → (width_in rest ≤ length rest) × (test (key_in rest) ≡ true)
unfolding old_entry_fault
one_stands place test rest none =
    let past = nat_lt (length rest) (width_in rest) in
    let late = refuse past place 3 (refuse (not (test (key_in rest))) place 6 None) in
    let lengths = refuse (is_no_key_length (key_length_in rest) || nat_lt 65536 (value_length_in rest)) place 5 late in
    let a = kept (nat_lt (length rest) 7) place 3 (refuse (has_no_kind rest) place 4 lengths) none in
    let b = kept (has_no_kind rest) place 4 lengths a.1 in
    let c = kept (is_no_key_length (key_length_in rest) || nat_lt 65536 (value_length_in rest)) place 5 late b.1 in
    let d = kept past place 3 (refuse (not (test (key_in rest))) place 6 None) c.1 in
    let f = kept (not (test (key_in rest))) place 6 None d.1 in
    (ltb-false _ _ d.0, not_false _ f.0)

pub all_stand : (n place : ℕ) (test : Bytes → Bool) (rest : Bytes) → old_entries_fault n place test rest ≡ None → Stand n test rest
unfolding old_entries_fault
all_stand zero place test rest none = tt
all_stand (suc n) place test rest none =
    let both = neither _ _ none in
    let one = one_stands place test rest both.0 in
    (one.0, one.1, all_stand n (place + width_in rest) (is_before (key_in rest)) (drop (width_in rest) rest) both.1)

-- ---- orders

pub less_of : (o : Ordering) → is_lt o ≡ true → o ≡ Less
less_of Less e = refl
less_of Equal e = absurd cc
less_of Greater e = absurd cc

pub above_apart : (a b : Bytes) → byte_order a b ≡ Less → bytes_eq b a ≡ false
above_apart a b less = texts_ties b a ∙ ap is_eq (nat_list_cmp_total.antisymm b a ∙ ap ordering_reverse less)

pub still_from : (before key low : Bytes) → is_from low before ≡ true → byte_order before key ≡ Less → is_from low key ≡ true
still_from before key low from less = elim (is_lt (byte_order key low)) as (λ t. is_lt (byte_order key low) ≡ t → not t ≡ true) [
  | true ↦ λ e. let below : byte_order before low ≡ Less = nat_list_cmp_total.trans before key low less (less_of (byte_order key low) e) in
      sym (ap (λ (o : Ordering). not (is_lt o)) below) ∙ from
  | false ↦ λ e. refl
] refl

-- ---- behind a key

none_behind : (n : ℕ) (before key rest : Bytes) → byte_order key before ≡ Less → Stand n (is_before before) rest → lookup (old_entries_in n rest) key ≡ None
unfolding old_entries_in entry_in
none_behind zero before key rest above s = refl
none_behind (suc n) before key rest above s =
    let k = key_in rest in
    let here : byte_order key k ≡ Less = nat_list_cmp_total.trans key before k above (less_of (byte_order before k) s.1) in
    let later = lookup (old_entries_in n (drop (width_in rest) rest)) key in
    ap (λ (t : Bool). cond t (Some (entry_in rest).value) later) (above_apart key k here) ∙ none_behind n k key (drop (width_in rest) rest) here s.2

all_behind : (n : ℕ) (before low rest : Bytes) → is_from low before ≡ true → Stand n (is_before before) rest → entries_from (old_entries_in n rest) low ≡ old_entries_in n rest
unfolding old_entries_in entry_in
all_behind zero before low rest from s = refl
all_behind (suc n) before low rest from s =
    let k = key_in rest in
    let here : is_from low k ≡ true = still_from before k low from (less_of (byte_order before k) s.1) in
    let later = old_entries_in n (drop (width_in rest) rest) in
    ap (λ (t : Bool). cond t (entry_in rest ∷ entries_from later low) (entries_from later low)) here
    ∙ ap (λ (es : List Entry). entry_in rest ∷ es) (all_behind n k low (drop (width_in rest) rest) here s.2)

-- ---- the first of some entries

module _ (n : ℕ) (rest : Bytes) (some : 0 < n) (stand : Stand n is_any rest) where
  one_more : n ≡ suc (n - 1)
  one_more = omega (arith, some)

  first : Stand (suc (n - 1)) is_any rest
  first = subst (λ (k : ℕ). Stand k is_any rest) one_more stand

  pub fits : width_in rest ≤ length rest
  fits = first.0

  abbrev later : List Entry
  later = old_entries_in (n - 1) (drop (width_in rest) rest)

  pub behind : Stand (n - 1) is_any (drop (width_in rest) rest)
  behind = weaker (n - 1) (is_before (key_in rest)) (drop (width_in rest) rest) first.2

  pub cells : old_entries_in n rest ≡ entry_in rest ∷ old_entries_in (n - 1) (drop (width_in rest) rest)
  unfolding old_entries_in
  cells = ap (λ (k : ℕ). old_entries_in k rest) one_more

  found : (key : Bytes) → byte_order (key_in rest) key ≡ Equal → lookup (old_entries_in n rest) key ≡ Some (entry_in rest).value
  unfolding entry_in
  found key equal = ap (λ (es : List Entry). lookup es key) cells
      ∙ ap (λ (t : Bool). cond t (Some (entry_in rest).value) (lookup later key)) (texts_ties (key_in rest) key ∙ ap is_eq equal)

  passed_by : (key : Bytes) → byte_order (key_in rest) key ≡ Less → lookup (old_entries_in n rest) key ≡ lookup (old_entries_in (n - 1) (drop (width_in rest) rest)) key
  unfolding entry_in
  passed_by key less = ap (λ (es : List Entry). lookup es key) cells
      ∙ ap (λ (t : Bool). cond t (Some (entry_in rest).value) (lookup later key)) (texts_ties (key_in rest) key ∙ ap is_eq less)

  missing : (key : Bytes) → byte_order (key_in rest) key ≡ Greater → lookup (old_entries_in n rest) key ≡ None
  unfolding entry_in
  missing key greater = ap (λ (es : List Entry). lookup es key) cells
      ∙ ap (λ (t : Bool). cond t (Some (entry_in rest).value) (lookup later key)) (texts_ties (key_in rest) key ∙ ap is_eq greater)
      ∙ none_behind (n - 1) (key_in rest) key (drop (width_in rest) rest) (nat_list_cmp_total.antisymm key (key_in rest) ∙ ap ordering_reverse greater) first.2

  -- where its key is below the one that is looked for, and where not
  pub passed_below : (key : Bytes) → is_before (key_in rest) key ≡ true → lookup (old_entries_in n rest) key ≡ lookup (old_entries_in (n - 1) (drop (width_in rest) rest)) key
  passed_below key below = passed_by key (less_of (byte_order (key_in rest) key) below)

  pub here_or_missing : (key : Bytes) → is_before (key_in rest) key ≡ false
      → lookup (old_entries_in n rest) key ≡ (if bytes_eq (key_in rest) key then Some (entry_in rest).value else None)
  here_or_missing key not_below =
      let says = λ (t : Bool). cond t (Some (entry_in rest).value) None in
      elim (byte_order (key_in rest) key) as (λ o. byte_order (key_in rest) key ≡ o → is_lt o ≡ false → lookup (old_entries_in n rest) key ≡ says (bytes_eq (key_in rest) key)) [
        | Less ↦ λ _ never. absurd cc
        | Equal ↦ λ is _. found key is ∙ sym (ap says (texts_ties (key_in rest) key ∙ ap is_eq is))
        | Greater ↦ λ is _. missing key is ∙ sym (ap says (texts_ties (key_in rest) key ∙ ap is_eq is))
      ] refl not_below

  pub left_out : (low : Bytes) → is_from low (key_in rest) ≡ false → entries_from (old_entries_in n rest) low ≡ entries_from (old_entries_in (n - 1) (drop (width_in rest) rest)) low
  unfolding entry_in
  left_out low below = ap (λ (es : List Entry). entries_from es low) cells
      ∙ ap (λ (t : Bool). cond t (entry_in rest ∷ entries_from later low) (entries_from later low)) below

  pub kept_all : (low : Bytes) → is_from low (key_in rest) ≡ true → entries_from (old_entries_in n rest) low ≡ old_entries_in n rest
  unfolding entry_in
  kept_all low from = ap (λ (es : List Entry). entries_from es low) cells
      ∙ ap (λ (t : Bool). cond t (entry_in rest ∷ entries_from later low) (entries_from later low)) from
      ∙ ap (λ (es : List Entry). entry_in rest ∷ es) (all_behind (n - 1) (key_in rest) low (drop (width_in rest) rest) from first.2)
      ∙ sym cells
