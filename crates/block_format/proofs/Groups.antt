-- In a block with shared prefixes a key is in one group of sixteen entries, if at all.
use Rattle.std.proofs.Common.{◌≡◌, ◌≤◌, ◌<◌, ◌+◌, ◌-◌, ◌*◌, ℕ, zero, suc, Bool, true, false, cond, List, [], ◌∷◌, ◌++◌, length, take, drop, refl, sym, ap, ap₂, ◌∙◌, subst, arith, length-drop, length-take-le, inl, inr}
use Rattle.std.specs.Prelude.{Option, Some, None, bytes_eq, not}
use Rattle.std.specs.Cmp.Lexicographic.{nat_list_cmp_total, texts_ties}
use Rattle.std.specs.Ordering.{is_eq, is_lt, ordering_reverse}
use Rattle.std.specs.declared.cmp.Ordering.{Ordering}
use Rattle.std.specs.declared.cmp.Ordering.TheVariants.{Less, Equal, Greater}
use Rattle.std.proofs.lemmas.Bool.{cases_lt}
use Rattle.std.proofs.lemmas.List.{drop-drop, drop-take}
use Rattle.key_base.specs.ByteOrder.{byte_order, is_before}
use Rattle.map_model.specs.SortedMap.{Bytes}
use Rattle.entry_model.specs.Entries.{Entry, entry_of, keys_of}
use Rattle.entry_model.specs.Newest.{entries_from, lookup}
use Rattle.block_model.specs.BlockReading.{block_fault, block_fault_by, block_in, block_in_by, count_in, entries_place, used_in}
use Rattle.block_model.specs.FormatLaws.{listed_key}
use Rattle.block_model.specs.Formats.{Format, Prefixed, entries_by, format_in, key_by, listed_in, places_length, rest_length_in, value_by, width_by}
use Rattle.block_model.specs.Order.{Follow}
use Rattle.block_model.specs.Pages.{first_key}
use Rattle.block_model.proofs.ListedEntries.{block_many, block_rises, listed_are_later, listed_break_none, listed_is}
use Rattle.block_format.specs.Finding.{IsGroupOf, IsGroupSize, IsHeadOf, StandClose}
use Rattle.block_format.specs.declared.header.BlockHead.{BlockHead}
use Rattle.block_format.proofs.Close.{fits, stand_close}
use Rattle.block_format.proofs.Standing.{above_apart, less_of}

-- ---- rising keys

-- what is below a key that another one is not below is below that other one
below_both : (a b key : Bytes) → byte_order a b ≡ Less → is_before key b ≡ false → byte_order a key ≡ Less
below_both a b key less not_below = elim (byte_order b key) as (λ o. byte_order b key ≡ o → byte_order a key ≡ Less) [
  | Less ↦ λ is. nat_list_cmp_total.trans a b key less is
  | Equal ↦ λ is. nat_list_cmp_total.antisymm a key ∙ ap ordering_reverse (sym (nat_list_cmp_total.congr b key a is)) ∙ sym (nat_list_cmp_total.antisymm a b) ∙ less
  | Greater ↦ λ is. let wrong : is_before key b ≡ true = ap is_lt (nat_list_cmp_total.antisymm key b ∙ ap ordering_reverse is) in absurd cc
] refl

later_above : (low : Bytes) (es : List Entry) (m : ℕ) → Follow (is_before low) (keys_of es) → m < length es → byte_order low (first_key (drop m es)) ≡ Less
later_above low [] m rise lt = absurd (omega (arith, lt))
later_above low (e ∷ es) zero rise lt = less_of (byte_order low e.key) rise.0
later_above low (e ∷ es) (suc m) rise lt =
    nat_list_cmp_total.trans low e.key (first_key (drop m es)) (less_of (byte_order low e.key) rise.0) (later_above e.key es m rise.1 (omega (arith, lt)))

-- a key below all is none of them
none_of : (low key : Bytes) (es : List Entry) → Follow (is_before low) (keys_of es) → byte_order key low ≡ Less → lookup es key ≡ None
none_of low key [] rise below = refl
none_of low key (e ∷ es) rise below =
    let here : byte_order key e.key ≡ Less = nat_list_cmp_total.trans key low e.key below (less_of (byte_order low e.key) rise.0) in
    ap (λ (t : Bool). cond t (Some e.value) (lookup es key)) (above_apart key e.key here) ∙ none_of e.key key es rise.1 here

-- those before an entry whose key is not above the one sought do not have it
pub skipped : (low key : Bytes) (es : List Entry) (m : ℕ) → Follow (is_before low) (keys_of es) → m < length es → is_before key (first_key (drop m es)) ≡ false
    → lookup es key ≡ lookup (drop m es) key
skipped low key [] m rise lt from = absurd (omega (arith, lt))
skipped low key (e ∷ es) zero rise lt from = refl
skipped low key (e ∷ es) (suc m) rise lt from =
    let next = later_above e.key es m rise.1 (omega (arith, lt)) in
    let below : byte_order e.key key ≡ Less = below_both e.key (first_key (drop m es)) key next from in
    ap (λ (t : Bool). cond t (Some e.value) (lookup es key)) (texts_ties e.key key ∙ ap is_eq below) ∙ skipped e.key key es m rise.1 (omega (arith, lt)) from

-- so it is with the entries from that key on
pub left_out : (low key : Bytes) (es : List Entry) (m : ℕ) → Follow (is_before low) (keys_of es) → m < length es → is_before key (first_key (drop m es)) ≡ false
    → entries_from es key ≡ entries_from (drop m es) key
left_out low key [] m rise lt from = absurd (omega (arith, lt))
left_out low key (e ∷ es) zero rise lt from = refl
left_out low key (e ∷ es) (suc m) rise lt from =
    let next = later_above e.key es m rise.1 (omega (arith, lt)) in
    let below : byte_order e.key key ≡ Less = below_both e.key (first_key (drop m es)) key next from in
    ap (λ (o : Ordering). cond (not (is_lt o)) (e ∷ entries_from es key) (entries_from es key)) below ∙ left_out e.key key es m rise.1 (omega (arith, lt)) from

-- nor those from one on whose key is above it
pub cut : (low key : Bytes) (es : List Entry) (m : ℕ) → Follow (is_before low) (keys_of es) → (m < length es → is_before key (first_key (drop m es)) ≡ true)
    → lookup es key ≡ lookup (take m es) key
cut low key [] zero rise to = refl
cut low key [] (suc m) rise to = refl
cut low key (e ∷ es) zero rise to =
    let below : byte_order key e.key ≡ Less = less_of (byte_order key e.key) (to (omega arith)) in
    ap (λ (t : Bool). cond t (Some e.value) (lookup es key)) (above_apart key e.key below) ∙ none_of e.key key es rise.1 below
cut low key (e ∷ es) (suc m) rise to =
    ap (λ (o : Option (Option Bytes)). cond (bytes_eq e.key key) (Some e.value) o) (cut e.key key es m rise.1 (λ lt. to (omega (arith, lt))))

rise_after : (low : Bytes) (es : List Entry) (m : ℕ) → Follow (is_before low) (keys_of es) → (other : Bytes) × Follow (is_before other) (keys_of (drop m es))
rise_after low [] zero rise = (low, tt)
rise_after low [] (suc m) rise = (low, tt)
rise_after low (e ∷ es) zero rise = (low, rise)
rise_after low (e ∷ es) (suc m) rise = rise_after e.key es m rise.1

taken : (m n : ℕ) (before rest : Bytes) → m ≤ n → entries_by Prefixed m before rest ≡ take m (entries_by Prefixed n before rest)
unfolding entries_by
taken zero n before rest le = refl
taken (suc m) zero before rest le = absurd (omega (arith, le))
taken (suc m) (suc n) before rest le =
    ap (λ (es : List Entry). entry_of (key_by Prefixed before rest) (value_by Prefixed rest) ∷ es) (taken m n (key_by Prefixed before rest) (drop (width_by Prefixed rest) rest) (omega (arith, le)))

-- ---- a group

module _ (bytes : Bytes) (format : format_in bytes ≡ Prefixed) (whole : block_fault bytes ≡ None) where
  abbrev part : ℕ → Bytes
  part j = drop (listed_in bytes j) (take (used_in bytes) bytes)

  abbrev entries : List Entry
  entries = block_in_by Prefixed bytes

  fault_free : block_fault_by Prefixed bytes ≡ None
  fault_free = sym (ap (λ (f : Format). block_fault_by f bytes) format) ∙ whole

  named : block_in bytes ≡ entries
  named = ap (λ (f : Format). block_in_by f bytes) format

  pub group_stands : (group size : ℕ) → 16 * group < count_in bytes → 16 * group + size ≤ count_in bytes → size ≤ 16 → StandClose size [] (part group)
  group_stands group size lt within most =
      stand_close bytes (16 * group) size (count_in bytes - 16 * group) (listed_in bytes group) [] (part group) (listed_break_none bytes format whole group lt) (omega (arith, within)) (λ _ _. refl) (omega (arith, most))

  -- the listed entry, which is the first of its group
  module _ (group : ℕ) (lt : 16 * group < count_in bytes) where
    alone : StandClose 1 [] (part group)
    alone = group_stands group 1 lt (omega (arith, lt)) (omega arith)

    pub whole_entry : 9 + rest_length_in Prefixed (part group) ≤ length (part group)
    whole_entry = omega (arith, fits 1 [] (part group) [] (omega arith) alone)

    pub listed_within : used_in bytes ≤ length bytes → listed_in bytes group + 9 ≤ used_in bytes
    listed_within le =
        let size : length (take (used_in bytes) bytes) ≡ used_in bytes = length-take-le (used_in bytes) bytes le in
        omega (arith, whole_entry, size, length-drop (listed_in bytes group) (take (used_in bytes) bytes))

    pub listed_rest : take (rest_length_in Prefixed (part group)) (drop 9 (part group)) ≡ listed_key bytes group
    unfolding key_by
    listed_rest = sym (ap (λ (n : ℕ). take n [] ++ take (rest_length_in Prefixed (part group)) (drop 9 (part group))) alone.0.shares)

  -- no entry before its group is one from a key on
  module _ (key : Bytes) (group : ℕ) (of : IsGroupOf bytes key group) where
    from_of : (g : ℕ) → g ≡ group → entries_from entries key ≡ entries_from (drop (16 * g) entries) key
    from_of zero same = refl
    from_of (suc g) same =
        let inside : 16 * suc g < count_in bytes = omega (arith, same, of.inside) in
        let from : is_before key (listed_key bytes (suc g)) ≡ false = subst (λ (j : ℕ). is_before key (listed_key bytes j) ≡ false) (sym same) (of.from (omega (arith, same))) in
        left_out [] key entries (16 * suc g) (block_rises bytes fault_free) (omega (arith, inside, block_many bytes))
        (ap (is_before key) (sym (listed_is bytes fault_free (suc g) inside)) ∙ from)

    pub from_group : entries_from (block_in bytes) key ≡ entries_from (drop (16 * group) (block_in bytes)) key
    from_group =
        ap (λ (es : List Entry). entries_from es key) named
        ∙ from_of group refl
        ∙ ap (λ (es : List Entry). entries_from (drop (16 * group) es) key) (sym named)

  module _ (key : Bytes) (group size : ℕ) (of : IsGroupOf bytes key group) (is : IsGroupSize (count_in bytes) group size) where
    skips : (g : ℕ) → g ≡ group → lookup entries key ≡ lookup (drop (16 * g) entries) key
    skips zero same = refl
    skips (suc g) same =
        let at : suc g ≡ group = same in
        let inside : 16 * suc g < count_in bytes = omega (arith, same, of.inside) in
        let from : is_before key (listed_key bytes (suc g)) ≡ false = subst (λ (j : ℕ). is_before key (listed_key bytes j) ≡ false) (sym same) (of.from (omega (arith, same))) in
        skipped [] key entries (16 * suc g) (block_rises bytes fault_free) (omega (arith, inside, block_many bytes))
        (ap (is_before key) (sym (listed_is bytes fault_free (suc g) inside)) ∙ from)

    ends : size < length (drop (16 * group) entries) → is_before key (first_key (drop size (drop (16 * group) entries))) ≡ true
    ends lt =
        let many : length (drop (16 * group) entries) ≡ count_in bytes - 16 * group = length-drop (16 * group) entries ∙ ap (λ (n : ℕ). n - 16 * group) (block_many bytes) in
        let full : size ≡ 16 = elim (cases_lt size 16) [
          | inl small ↦ absurd (omega (arith, is.full small, lt, many))
          | inr le ↦ omega (arith, is.most, le)
        ] in
        let inside : 16 * (group + 1) < count_in bytes = omega (arith, full, lt, many) in
        let place : 16 * group + size ≡ 16 * (group + 1) = omega (arith, full) in
        ap (λ (es : List Entry). is_before key (first_key es)) (drop-drop size (16 * group) entries)
        ∙ ap (λ (n : ℕ). is_before key (first_key (drop n entries))) place
        ∙ ap (is_before key) (sym (listed_is bytes fault_free (group + 1) inside))
        ∙ of.to inside

    pub said_in_group : lookup (block_in bytes) key ≡ lookup (entries_by Prefixed size [] (part group)) key
    said_in_group =
        let rise = rise_after [] entries (16 * group) (block_rises bytes fault_free) in
        ap (λ (es : List Entry). lookup es key) named
        ∙ skips group refl
        ∙ cut rise.0 key (drop (16 * group) entries) size rise.1 ends
        ∙ ap (λ (es : List Entry). lookup (take size es) key)
        (sym (listed_are_later bytes format whole group of.inside [] ∙ ap (drop (16 * group)) named))
        ∙ ap (λ (es : List Entry). lookup es key) (sym (taken size (count_in bytes - 16 * group) [] (part group) (omega (arith, is.within))))

-- ---- by what the header says

module _ (head : BlockHead) (bytes : Bytes) (is : IsHeadOf head bytes) (format : format_in bytes ≡ Prefixed) where
  from_is : head.from ≡ 8 + places_length (count_in bytes)
  from_is = is.from ∙ ap (λ (f : Format). entries_place f bytes) format

  pub number_fits : (group : ℕ) → 16 * group < count_in bytes → 8 + 2 * group + 2 ≤ length bytes
  number_fits group lt = omega (arith, from_is, lt, is.within, is.inside)

  pub place_fits : (group : ℕ) → 16 * group < count_in bytes → listed_in bytes group + 9 ≤ head.used
  place_fits group lt = omega (arith, is.used, listed_within bytes format is.whole group lt (omega (arith, is.used, is.inside)))

  pub group_part : (group at : ℕ) → at ≡ listed_in bytes group → 16 * group < count_in bytes
      → take (head.used - at) (drop at bytes) ≡ drop (listed_in bytes group) (take (used_in bytes) bytes)
  group_part group at at_is lt =
      let sum : at + (head.used - at) ≡ head.used = omega (arith, at_is, place_fits group lt) in
      sym (drop-take at (head.used - at) bytes)
      ∙ ap (λ (k : ℕ). drop at (take k bytes)) sum
      ∙ ap₂ (λ (p u : ℕ). drop p (take u bytes)) at_is is.used
