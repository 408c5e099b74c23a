-- Keys above a floor, and lists of entries that are cut at one.
use Rattle.std.proofs.Common.{◌≡◌, List, [], ◌∷◌, refl, sym, ap, ◌∙◌, subst, Bool, true, false, cond, not}
use Rattle.std.specs.Prelude.{Option, Some, None, bytes_eq}
use Rattle.std.specs.Option.{option_or}
use Rattle.std.specs.List.{AllByRecursion}
use Rattle.std.proofs.lemmas.Bool.{false≢true}
use Rattle.std.proofs.lemmas.Slice.Eq.{bytes_eq-Decides}
use Rattle.std.specs.Cmp.Lexicographic.{nat_list_cmp_total}
use Rattle.std.specs.Ordering.{is_lt}
use Rattle.std.specs.declared.cmp.Ordering.{Ordering}
use Rattle.std.specs.declared.cmp.Ordering.TheVariants.{Less, Equal, Greater}
use Rattle.key_base.specs.ByteOrder.{IsBefore, byte_order, is_before}
use Rattle.map_model.specs.SortedMap.{Bytes}
use Rattle.map_model.proofs.Maps.{by_order, equal_keys, less_of_greater, order_same}
use Rattle.entry_model.specs.Entries.{Entry, newest}
use Rattle.entry_model.specs.Newest.{ComesBehind}
use Rattle.entry_model.proofs.Newest.{above_apart, greater_of_less}
use Rattle.merge_rows.specs.Rows.{KeyFloor, above_floor, clears}

pub or_none : (o : Option (Option Bytes)) → option_or o None ≡ o
or_none None = refl
or_none (Some value) = refl

pub less_of : (o : Ordering) → is_lt o ≡ true → o ≡ Less
less_of Less e = refl
less_of Equal e = absurd (false≢true e)
less_of Greater e = absurd (false≢true e)

-- a key comes before another one
pub before_of : (a b : Bytes) → is_before a b ≡ true → IsBefore a b
before_of a b e = less_of (byte_order a b) e

pub is_before_of : (a b : Bytes) → IsBefore a b → is_before a b ≡ true
is_before_of a b less = ap is_lt less

pub not_before_itself : (a : Bytes) → is_before a a ≡ false
not_before_itself a = ap is_lt (order_same a a refl)

pub not_before_back : (a b : Bytes) → IsBefore a b → is_before b a ≡ false
not_before_back a b less = ap is_lt (greater_of_less a b less)

pub before_then : (a b c : Bytes) → IsBefore a b → IsBefore b c → IsBefore a c
before_then a b c one two = nat_list_cmp_total.trans a b c one two

-- not before, so it is the same or it comes after
pub at_or_after : (P : Type 0) (a b : Bytes) → is_before a b ≡ false → (a ≡ b → P) → (IsBefore b a → P) → P
at_or_after P a b not_so same after = by_order (λ _. P) a b
    (λ less. absurd (false≢true (sym not_so ∙ ap is_lt less)))
    (λ equal. same (equal_keys a b equal))
    (λ greater. after (less_of_greater a b greater))

pub before_from : (a b c : Bytes) → IsBefore a b → is_before c b ≡ false → IsBefore a c
before_from a b c less not_so = at_or_after (IsBefore a c) c b not_so (λ same. subst (IsBefore a) (sym same) less) (λ after. before_then a b c less after)

-- ---- floors

passed_clears : (floor : KeyFloor) (a b : Bytes) (passed : Bool) → cond passed (is_before floor.key a) (not (is_before a floor.key)) ≡ true → IsBefore a b
    → cond passed (is_before floor.key b) (not (is_before b floor.key)) ≡ true
passed_clears floor a b true clear less = is_before_of floor.key b (before_then floor.key a b (before_of floor.key a clear) less)
passed_clears floor a b false clear less = ap not (elim (is_before b floor.key) as (λ t. is_before b floor.key ≡ t → t ≡ false) [
  | false ↦ λ _. refl
  | true ↦ λ e. let back : is_before a floor.key ≡ true = is_before_of a floor.key (before_then a b floor.key less (before_of b floor.key e)) in
      absurd (false≢true (ap not (sym back) ∙ clear))
] refl)

-- a key above one that is above the floor is above it too
pub clears_later : (floor : KeyFloor) (a b : Bytes) → clears floor a ≡ true → IsBefore a b → clears floor b ≡ true
clears_later floor a b clear less = passed_clears floor a b floor.passed clear less

-- a key beside the floor's, by their order
clears_less_by : (low key : Bytes) (passed : Bool) → byte_order low key ≡ Less → true ≡ cond passed (is_before low key) (not (is_before key low))
clears_less_by low key true less = sym (ap is_lt less)
clears_less_by low key false less = sym (ap not (not_before_back low key less))

pub clears_less : (floor : KeyFloor) (key : Bytes) → byte_order floor.key key ≡ Less → true ≡ clears floor key
clears_less floor key less = clears_less_by floor.key key floor.passed less

clears_equal_by : (low key : Bytes) (passed : Bool) → byte_order low key ≡ Equal → not passed ≡ cond passed (is_before low key) (not (is_before key low))
clears_equal_by low key true equal = sym (ap is_lt equal)
clears_equal_by low key false equal = subst (λ (k : Bytes). true ≡ not (is_before k low)) (equal_keys low key equal) (sym (ap not (not_before_itself low)))

pub clears_equal : (floor : KeyFloor) (key : Bytes) → byte_order floor.key key ≡ Equal → not floor.passed ≡ clears floor key
clears_equal floor key equal = clears_equal_by floor.key key floor.passed equal

clears_greater_by : (low key : Bytes) (passed : Bool) → byte_order low key ≡ Greater → false ≡ cond passed (is_before low key) (not (is_before key low))
clears_greater_by low key true greater = sym (ap is_lt greater)
clears_greater_by low key false greater = sym (ap not (is_before_of key low (less_of_greater low key greater)))

pub clears_greater : (floor : KeyFloor) (key : Bytes) → byte_order floor.key key ≡ Greater → false ≡ clears floor key
clears_greater floor key greater = clears_greater_by floor.key key floor.passed greater

-- ---- what some entries say of a key

pub newest_above : (key : Bytes) (entries : List Entry) → AllByRecursion (ComesBehind key) entries → newest entries key ≡ None
newest_above key [] above = refl
newest_above key (entry ∷ later) above =
    ap (λ (o : Option (Option Bytes)). option_or o (cond (bytes_eq entry.key key) (Some entry.value) None)) (newest_above key later above.1)
    ∙ ap (λ (t : Bool). cond t (Some entry.value) None) (above_apart key entry.key above.0)

-- of the keys that pass a test, those that pass it say what they said
pub newest_kept : (floor : KeyFloor) (key : Bytes) (entries : List Entry) → clears floor key ≡ true → newest (above_floor floor entries) key ≡ newest entries key
newest_kept floor key [] clear = refl
newest_kept floor key (entry ∷ later) clear =
    let rest = newest_kept floor key later clear in
    let own : Option (Option Bytes) = cond (bytes_eq entry.key key) (Some entry.value) None in
    elim (clears floor entry.key) as (λ t. clears floor entry.key ≡ t → newest (cond t (entry ∷ above_floor floor later) (above_floor floor later)) key ≡ option_or (newest later key) own) [
      | true ↦ λ _. ap (λ (o : Option (Option Bytes)). option_or o own) rest
      | false ↦ λ e. elim (bytes_eq entry.key key) as (λ t. bytes_eq entry.key key ≡ t → newest (above_floor floor later) key ≡ option_or (newest later key) (cond t (Some entry.value) None)) [
        | true ↦ λ here. let same : entry.key ≡ key = (bytes_eq-Decides entry.key key).0 here in
            absurd (false≢true (sym e ∙ ap (clears floor) same ∙ clear))
        | false ↦ λ _. rest ∙ sym (or_none (newest later key))
      ] refl
    ] refl

pub newest_cut : (floor : KeyFloor) (key : Bytes) (entries : List Entry) → clears floor key ≡ false → newest (above_floor floor entries) key ≡ None
newest_cut floor key [] not_so = refl
newest_cut floor key (entry ∷ later) not_so =
    let rest = newest_cut floor key later not_so in
    elim (clears floor entry.key) as (λ t. clears floor entry.key ≡ t → newest (cond t (entry ∷ above_floor floor later) (above_floor floor later)) key ≡ None) [
      | true ↦ λ e. ap (λ (o : Option (Option Bytes)). option_or o (cond (bytes_eq entry.key key) (Some entry.value) None)) rest
          ∙ elim (bytes_eq entry.key key) as (λ t. bytes_eq entry.key key ≡ t → cond t (Some entry.value) None ≡ None) [
            | true ↦ λ here. let same : entry.key ≡ key = (bytes_eq-Decides entry.key key).0 here in
                absurd (false≢true (sym not_so ∙ ap (clears floor) (sym same) ∙ e))
            | false ↦ λ _. refl
          ] refl
      | false ↦ λ _. rest
    ] refl

-- what is above a passed key comes after it
pub all_above : (floor : KeyFloor) (low : Bytes) (entries : List Entry) → floor ≡ record { key = low; passed = true } → AllByRecursion (ComesBehind low) (above_floor floor entries)
all_above floor low [] is = tt
all_above floor low (entry ∷ later) is =
    let rest = all_above floor low later is in
    elim (clears floor entry.key) as (λ t. clears floor entry.key ≡ t → AllByRecursion (ComesBehind low) (cond t (entry ∷ above_floor floor later) (above_floor floor later))) [
      | true ↦ λ e. (before_of low entry.key (subst (λ (f : KeyFloor). clears f entry.key ≡ true) is e), rest)
      | false ↦ λ _. rest
    ] refl
