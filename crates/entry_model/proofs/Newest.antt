-- The newest entries: what they say of each key, that their keys rise, and that no other list does so.
use Rattle.std.proofs.Common.{◌≡◌, List, [], ◌∷◌, ◌++◌, refl, sym, ap, ◌∙◌, subst, Bool, true, false, cond}
use Rattle.std.specs.Option.{option_or}
use Rattle.std.specs.Prelude.{Option, Some, None, bytes_eq, fold}
use Rattle.std.specs.List.{AllByRecursion}
use Rattle.std.proofs.lemmas.List.Sums.{fold-append}
use Rattle.std.proofs.lemmas.Slice.Eq.{bytes_eq-Decides}
use Rattle.std.specs.Cmp.Lexicographic.{nat_list_cmp_total, texts_ties}
use Rattle.std.specs.Ordering.{ordering_reverse, is_eq}
use Rattle.std.specs.declared.cmp.Ordering.TheVariants.{Less, Greater}
use Rattle.map_model.specs.SortedMap.{Bytes, byte_order, in_place}
use Rattle.entry_model.specs.Entries.{Entry, newest}
use Rattle.map_model.proofs.Maps.{same_key, other_key, equal_keys, less_of_greater, by_order}
use Rattle.entry_model.specs.Newest.{ComesBehind, KeysRise, with_entry, newest_entries, lookup}

pub greater_of_less : (a b : Bytes) → byte_order a b ≡ Less → byte_order b a ≡ Greater
greater_of_less a b less = nat_list_cmp_total.antisymm b a ∙ ap ordering_reverse less

pub above_apart : (a b : Bytes) → byte_order a b ≡ Less → bytes_eq b a ≡ false
above_apart a b less = texts_ties b a ∙ ap is_eq (greater_of_less a b less)

pub below_apart : (a b : Bytes) → byte_order a b ≡ Less → bytes_eq a b ≡ false
below_apart a b less = texts_ties a b ∙ ap is_eq less

-- ---- an entry more

-- what an entry says of a key, or else what was said before it
abbrev pub said : Entry → Bytes → Option (Option Bytes) → Option (Option Bytes)
said entry key older = cond (bytes_eq entry.key key) (Some entry.value) older

-- two entries of different keys speak in either order
said_apart : (a b : Entry) (key : Bytes) (older : Option (Option Bytes)) → bytes_eq a.key b.key ≡ false → said a key (said b key older) ≡ said b key (said a key older)
said_apart a b key older apart = elim (bytes_eq a.key key) as (λ t. bytes_eq a.key key ≡ t → cond t (Some a.value) (said b key older) ≡ said b key (cond t (Some a.value) older)) [
  | false ↦ λ _. refl
  | true ↦ λ here. let other : bytes_eq b.key key ≡ false = other_key b.key key (λ there. let same = (bytes_eq-Decides a.key b.key).1 ((bytes_eq-Decides a.key key).0 here ∙ sym there) in cc) in
      sym (ap (λ (t : Bool). cond t (Some b.value) (Some a.value)) other)
] refl

-- of one key the later alone
said_again : (a b : Entry) (key : Bytes) (older : Option (Option Bytes)) → a.key ≡ b.key → said a key (said b key older) ≡ said a key older
said_again a b key older same = elim (bytes_eq a.key key) as (λ t. bytes_eq a.key key ≡ t → cond t (Some a.value) (said b key older) ≡ cond t (Some a.value) older) [
  | true ↦ λ _. refl
  | false ↦ λ e. ap (λ (t : Bool). cond t (Some b.value) older) (subst (λ (k : Bytes). bytes_eq k key ≡ false) same e)
] refl

pub lookup_with : (entries : List Entry) (new : Entry) (key : Bytes) → lookup (with_entry entries new) key ≡ said new key (lookup entries key)
lookup_with [] new key = refl
lookup_with (entry ∷ more) new key = by_order (λ o. lookup (in_place o new entry more (with_entry more new)) key ≡ said new key (said entry key (lookup more key))) new.key entry.key
    (λ less. refl)
    (λ equal. sym (said_again new entry key (lookup more key) (equal_keys new.key entry.key equal)))
    (λ greater. ap (said entry key) (lookup_with more new key) ∙ said_apart entry new key (lookup more key) (below_apart entry.key new.key (less_of_greater new.key entry.key greater)))

pub above_with : (low : Bytes) (entries : List Entry) (new : Entry) → byte_order low new.key ≡ Less → AllByRecursion (ComesBehind low) entries → AllByRecursion (ComesBehind low) (with_entry entries new)
above_with low [] new less above = (less, tt)
above_with low (entry ∷ more) new less above = by_order (λ o. AllByRecursion (ComesBehind low) (in_place o new entry more (with_entry more new))) new.key entry.key
    (λ _. (less, above)) (λ _. (less, above.1)) (λ _. (above.0, above_with low more new less above.1))

pub above_lower : (low high : Bytes) (entries : List Entry) → byte_order low high ≡ Less → AllByRecursion (ComesBehind high) entries → AllByRecursion (ComesBehind low) entries
above_lower low high [] less above = tt
above_lower low high (entry ∷ more) less above = (nat_list_cmp_total.trans low high entry.key less above.0, above_lower low high more less above.1)

pub rises_with : (entries : List Entry) (new : Entry) → KeysRise entries → KeysRise (with_entry entries new)
rises_with [] new rises = (tt, tt)
rises_with (entry ∷ more) new rises = by_order (λ o. KeysRise (in_place o new entry more (with_entry more new))) new.key entry.key
    (λ less. ((less, above_lower new.key entry.key more less rises.0), rises))
    (λ equal. (subst (λ (k : Bytes). AllByRecursion (ComesBehind k) more) (sym (equal_keys new.key entry.key equal)) rises.0, rises.1))
    (λ greater. (above_with entry.key more new (less_of_greater new.key entry.key greater) rises.0, rises_with more new rises.1))

-- ---- all of them

said_then : (entry : Entry) (key : Bytes) (later older : Option (Option Bytes)) → option_or later (said entry key older) ≡ option_or (option_or later (said entry key None)) older
said_then entry key (Some value) older = refl
said_then entry key None older = elim (bytes_eq entry.key key) as (λ t. cond t (Some entry.value) older ≡ option_or (cond t (Some entry.value) None) older) [ true ↦ refl | false ↦ refl ]

pub lookup_after : (start entries : List Entry) (key : Bytes) → lookup (fold with_entry start entries) key ≡ option_or (newest entries key) (lookup start key)
lookup_after start [] key = refl
lookup_after start (entry ∷ later) key = lookup_after (with_entry start entry) later key
    ∙ ap (option_or (newest later key)) (lookup_with start entry key)
    ∙ said_then entry key (newest later key) (lookup start key)

or_none : (found : Option (Option Bytes)) → option_or found None ≡ found
or_none None = refl
or_none (Some value) = refl

pub lookup_newest : (entries : List Entry) (key : Bytes) → lookup (newest_entries entries) key ≡ newest entries key
lookup_newest entries key = lookup_after [] entries key ∙ or_none (newest entries key)

pub rises_after : (start entries : List Entry) → KeysRise start → KeysRise (fold with_entry start entries)
rises_after start [] rises = rises
rises_after start (entry ∷ later) rises = rises_after (with_entry start entry) later (rises_with start entry rises)

pub newest_more : (entries : List Entry) (entry : Entry) → newest_entries (entries ++ entry ∷ []) ≡ with_entry (newest_entries entries) entry
newest_more entries entry = fold-append with_entry [] entries (entry ∷ [])

-- ---- no other list

pub none_above : (low : Bytes) (entries : List Entry) → AllByRecursion (ComesBehind low) entries → lookup entries low ≡ None
none_above low [] above = refl
none_above low (entry ∷ more) above = ap (λ (t : Bool). cond t (Some entry.value) (lookup more low)) (above_apart low entry.key above.0) ∙ none_above low more above.1

here : (entry : Entry) (more : List Entry) → lookup (entry ∷ more) entry.key ≡ Some entry.value
here entry more = ap (λ (t : Bool). cond t (Some entry.value) (lookup more entry.key)) (same_key entry.key)

abbrev SayTheSame : List Entry → List Entry → Type 0
SayTheSame entries others = (key : Bytes) → lookup entries key ≡ lookup others key

-- where one begins with a lesser key, the other does not say it
lesser : (a b : Entry) (more others : List Entry) → KeysRise (b ∷ others) → byte_order a.key b.key ≡ Less → lookup (a ∷ more) a.key ≡ lookup (b ∷ others) a.key → ⊥
lesser a b more others rises less same =
    let missing : lookup (b ∷ others) a.key ≡ None = none_above a.key (b ∷ others) (less, above_lower a.key b.key others less rises.0) in
    let found : Some a.value ≡ None = sym (here a more) ∙ same ∙ missing in cc

-- behind one key, which both begin with, they say the same
tails_same : (a b : Entry) (more others : List Entry) → KeysRise (a ∷ more) → KeysRise (b ∷ others) → a.key ≡ b.key → SayTheSame (a ∷ more) (b ∷ others) → SayTheSame more others
tails_same a b more others rises_a rises_b same says key = elim (bytes_eq a.key key) as (λ t. bytes_eq a.key key ≡ t → lookup more key ≡ lookup others key) [
  | true ↦ λ e. let at_key : a.key ≡ key = (bytes_eq-Decides a.key key).0 e in
      subst (λ (k : Bytes). lookup more k ≡ lookup others k) at_key
      (none_above a.key more rises_a.0 ∙ sym (none_above a.key others (subst (λ (k : Bytes). AllByRecursion (ComesBehind k) others) (sym same) rises_b.0)))
  | false ↦ λ e. sym (ap (λ (t : Bool). cond t (Some a.value) (lookup more key)) e)
      ∙ says key
      ∙ ap (λ (t : Bool). cond t (Some b.value) (lookup others key)) (subst (λ (k : Bytes). bytes_eq k key ≡ false) same e)
] refl

same_entry : (a b : Entry) → a.key ≡ b.key → a.value ≡ b.value → a ≡ b
same_entry a b key value i = record { key = key i; value = value i }

pub one_list : (entries others : List Entry) → KeysRise entries → KeysRise others → SayTheSame entries others → entries ≡ others
one_list [] [] rises_a rises_b says = refl
one_list [] (b ∷ others) rises_a rises_b says = let none : None ≡ Some b.value = says b.key ∙ here b others in absurd cc
one_list (a ∷ more) [] rises_a rises_b says = let none : None ≡ Some a.value = sym (says a.key) ∙ here a more in absurd cc
one_list (a ∷ more) (b ∷ others) rises_a rises_b says = by_order (λ _. a ∷ more ≡ b ∷ others) a.key b.key
    (λ less. absurd (lesser a b more others rises_b less (says a.key)))
    (λ equal. let same = equal_keys a.key b.key equal in
    let values : Some a.value ≡ Some b.value = sym (here a more) ∙ says a.key ∙ subst (λ (k : Bytes). lookup (b ∷ others) k ≡ Some b.value) (sym same) (here b others) in
    let value : a.value ≡ b.value = cc in
    let heads = same_entry a b same value in
    let tails = one_list more others rises_a.1 rises_b.1 (tails_same a b more others rises_a rises_b same says) in
    λ i. heads i ∷ tails i)
    (λ greater. absurd (lesser b a others more rises_a (less_of_greater a.key b.key greater) (sym (says b.key))))
