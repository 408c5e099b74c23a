-- The entries of a memory with one over them: those below its key, the entry, and those above it.
use Rattle.std.proofs.Common.{◌≡◌, ◌≢◌, ◌∙◌, ◌≤◌, ◌+◌, ℕ, Bool, true, false, cond, not, List, [], ◌∷◌, ◌++◌, length, refl, sym, ap, ap₂, subst, arith, append_assoc}
use Rattle.std.specs.Prelude.{bytes_eq, filter}
use Rattle.std.specs.List.{AllByRecursion}
use Rattle.std.proofs.lemmas.Slice.Eq.{bytes_eq-Decides}
use Rattle.std.specs.Ordering.{is_ge, is_lt}
use Rattle.std.specs.declared.cmp.Ordering.{Ordering}
use Rattle.std.specs.declared.cmp.Ordering.TheVariants.{Less, Equal, Greater}
use Rattle.std.proofs.lemmas.List.{append-nil}
use Rattle.block_model.specs.Block.{IsTable}
use Rattle.block_model.specs.Order.{Follow, is_any}
use Rattle.entry_model.proofs.Newest.{above_lower, greater_of_less}
use Rattle.entry_model.specs.Entries.{Entry, IsEntry, keys_of}
use Rattle.entry_model.specs.Newest.{ComesBehind, KeysRise, entries_from, with_entry}
use Rattle.extent_model.proofs.Lists.{all_kept, all_pass}
use Rattle.filter_api.specs.declared.settings.Settings.{Settings}
use Rattle.key_base.specs.ByteOrder.{is_before}
use Rattle.map_model.proofs.Maps.{by_order, equal_keys, less_of_greater}
use Rattle.map_model.specs.SortedMap.{Bytes, byte_order, in_place}
use Rattle.state_model.proofs.Sayings.{rises_parts}
use Rattle.state_model.proofs.SoundLogs.{follow_of}
use Rattle.table_file.specs.Building.{Built}
use Rattle.store_core.specs.Flushing.{entries_above, entries_below}
use Rattle.store_core.proofs.PlannedRows.{each_behind, front_follows}

-- ---- what is before a key, and what after it

before_of_less : (a b : Bytes) → byte_order a b ≡ Less → is_before a b ≡ true
before_of_less a b less = ap is_lt less

not_after_less : (a b : Bytes) → byte_order a b ≡ Less → is_before b a ≡ false
not_after_less a b less = ap is_lt (greater_of_less a b less)

pub never_itself : (a : Bytes) → is_before a a ≡ false
never_itself a = by_order (λ o. is_lt o ≡ false) a a (λ less. ap is_lt (sym less ∙ greater_of_less a a less)) (λ equal. refl) (λ greater. refl)

pub not_less : (o : Ordering) → is_ge o ≡ true → is_lt o ≡ false
not_less Less is = sym is
not_less Equal is = refl
not_less Greater is = refl

-- keys that were compared
pub unlike_of : (a b : Bytes) → not (bytes_eq a b) ≡ true → a ≢ b
unlike_of a b is same = let both = sym is ∙ ap not ((bytes_eq-Decides a b).1 same) in cc

pub same_of : (a b : Bytes) → not (bytes_eq a b) ≡ false → a ≡ b
same_of a b is = (bytes_eq-Decides a b).0 (not_false (bytes_eq a b) is)
  where
    not_false : (test : Bool) → not test ≡ false → test ≡ true
    not_false true same = refl
    not_false false same = sym same

-- not before the key and another one: after it
pub behind_of : (key other : Bytes) → is_before other key ≡ false → other ≢ key → byte_order key other ≡ Less
behind_of key other not_before unlike = by_order (λ o. byte_order key other ≡ o → byte_order key other ≡ Less) key other
    (λ _ is. is)
    (λ equal _. absurd (unlike (sym (equal_keys key other equal))))
    (λ greater _. absurd (let both = sym (before_of_less other key (less_of_greater key other greater)) ∙ not_before in cc))
    refl

-- those after a key are above it, and none of them is below it
all_above : (key : Bytes) (entries : List Entry) → AllByRecursion (ComesBehind key) entries → entries_above entries key ≡ entries
all_above key [] behind = refl
all_above key (e ∷ more) behind =
    ap (λ (b : Bool). cond b (e ∷ entries_above more key) (entries_above more key)) (before_of_less key e.key behind.0) ∙ ap (λ (es : List Entry). e ∷ es) (all_above key more behind.1)

none_below : (key : Bytes) (entries : List Entry) → AllByRecursion (ComesBehind key) entries → entries_below entries key ≡ []
none_below key [] behind = refl
none_below key (e ∷ more) behind =
    ap (λ (b : Bool). cond b (e ∷ entries_below more key) (entries_below more key)) (not_after_less key e.key behind.0) ∙ none_below key more behind.1

-- from an entry on that is not below the key none is
pub below_ends : (key : Bytes) (e : Entry) (more : List Entry) → is_before e.key key ≡ false → KeysRise (e ∷ more) → entries_below (e ∷ more) key ≡ []
below_ends key e more from rises =
    ap (λ (b : Bool). cond b (e ∷ entries_below more key) (entries_below more key)) from
    ∙ by_order (λ o. byte_order key e.key ≡ o → entries_below more key ≡ []) key e.key
    (λ less _. none_below key more (above_lower key e.key more less rises.0))
    (λ equal _. none_below key more (subst (λ (k : Bytes). AllByRecursion (ComesBehind k) more) (sym (equal_keys key e.key equal)) rises.0))
    (λ greater _. absurd (let both = sym (before_of_less e.key key (less_of_greater key e.key greater)) ∙ from in cc))
    refl

pub below_next : (key : Bytes) (e : Entry) (more : List Entry) → is_before e.key key ≡ true → entries_below (e ∷ more) key ≡ e ∷ entries_below more key
below_next key e more before = ap (λ (b : Bool). cond b (e ∷ entries_below more key) (entries_below more key)) before

pub above_next : (key : Bytes) (e : Entry) (more : List Entry) → is_before e.key key ≡ false → e.key ≢ key → entries_above (e ∷ more) key ≡ e ∷ entries_above more key
above_next key e more from unlike =
    ap (λ (b : Bool). cond b (e ∷ entries_above more key) (entries_above more key)) (before_of_less key e.key (behind_of key e.key from unlike))

pub above_same : (key : Bytes) (e : Entry) (more : List Entry) → e.key ≡ key → entries_above (e ∷ more) key ≡ entries_above more key
above_same key e more same =
    ap (λ (b : Bool). cond b (e ∷ entries_above more key) (entries_above more key)) (ap (is_before key) same ∙ never_itself key)

-- those above a key are among those from it on
pub above_from : (key : Bytes) (entries : List Entry) → entries_above (entries_from entries key) key ≡ entries_above entries key
above_from key [] = refl
above_from key (e ∷ more) = elim (is_before e.key key) as (λ b. is_before e.key key ≡ b
    → entries_above (cond (not b) (e ∷ entries_from more key) (entries_from more key)) key ≡ cond (is_before key e.key) (e ∷ entries_above more key) (entries_above more key)) [
      | false ↦ λ _. ap (λ (es : List Entry). cond (is_before key e.key) (e ∷ es) es) (above_from key more)
      | true ↦ λ before. above_from key more ∙ sym (ap (λ (b : Bool). cond b (e ∷ entries_above more key) (entries_above more key)) (behind_not key e.key before))
    ] refl
  where
    behind_not : (a b : Bytes) → is_before b a ≡ true → is_before a b ≡ false
    behind_not a b before = by_order (λ o. byte_order a b ≡ o → is_lt o ≡ false) a b
        (λ less _. absurd (let both = sym before ∙ not_after_less a b less in cc)) (λ _ _. refl) (λ _ _. refl) refl

-- ---- the law

pub with_between : (entries : List Entry) (new : Entry) → KeysRise entries → with_entry entries new ≡ entries_below entries new.key ++ new ∷ entries_above entries new.key
with_between [] new rises = refl
with_between (e ∷ more) new rises = by_order (λ o. byte_order new.key e.key ≡ o
    → in_place o new e more (with_entry more new) ≡ entries_below (e ∷ more) new.key ++ new ∷ entries_above (e ∷ more) new.key) new.key e.key
    (λ less _.
    let behind : AllByRecursion (ComesBehind new.key) (e ∷ more) = (less, above_lower new.key e.key more less rises.0) in
    sym (ap₂ (λ (xs ys : List Entry). xs ++ new ∷ ys) (none_below new.key (e ∷ more) behind) (all_above new.key (e ∷ more) behind)))
    (λ equal _.
    let same = equal_keys new.key e.key equal in
    let behind = subst (λ (k : Bytes). AllByRecursion (ComesBehind k) more) (sym same) rises.0 in
    sym (ap₂ (λ (xs ys : List Entry). xs ++ new ∷ ys)
    (below_ends new.key e more (ap (λ (k : Bytes). is_before e.key k) same ∙ never_itself e.key) rises) (above_same new.key e more (sym same) ∙ all_above new.key more behind)))
    (λ greater _.
    let before = before_of_less e.key new.key (less_of_greater new.key e.key greater) in
    let above : entries_above (e ∷ more) new.key ≡ entries_above more new.key
    = ap (λ (b : Bool). cond b (e ∷ entries_above more new.key) (entries_above more new.key)) (ap is_lt greater) in
    ap (λ (es : List Entry). e ∷ es) (with_between more new rises.1)
    ∙ sym (ap₂ (λ (xs ys : List Entry). xs ++ new ∷ ys) (below_next new.key e more before) above))
    refl

-- a table of them all
module _ (entries : List Entry) (e : Entry) (rises : KeysRise entries) where
  pub between_is : (entries_below entries e.key ++ e ∷ []) ++ entries_above entries e.key ≡ with_entry entries e
  between_is = append_assoc (entries_below entries e.key) (e ∷ []) (entries_above entries e.key) ∙ sym (with_between entries e rises)

  module _ (table : IsTable (with_entry entries e)) where
    between : IsTable (entries_below entries e.key ++ e ∷ entries_above entries e.key)
    between = subst IsTable (with_between entries e rises) table

    pub between_sound : IsEntry e
    between_sound = each_behind IsEntry (entries_below entries e.key) e (entries_above entries e.key) between.sound.each

    pub all_follow : Follow is_any (keys_of ((entries_below entries e.key ++ e ∷ []) ++ entries_above entries e.key))
    all_follow = subst (λ (es : List Entry). Follow is_any (keys_of es)) (sym between_is) table.rising

    pub below_follow : Follow is_any (keys_of (entries_below entries e.key ++ e ∷ []))
    below_follow = front_follows is_any (entries_below entries e.key ++ e ∷ []) (entries_above entries e.key) all_follow

    pub some_between : 1 ≤ length ((entries_below entries e.key ++ e ∷ []) ++ entries_above entries e.key)
    some_between = subst (λ (es : List Entry). 1 ≤ length es) (sym between_is) table.some

-- ---- what a loop adds

-- an entry of a memory after some others, and before the rest
module _ (all front : List Entry) (e : Entry) (rest : List Entry) (are : front ++ e ∷ rest ≡ all) where
  pub is_sound_there : AllByRecursion IsEntry all → IsEntry e
  is_sound_there sound = each_behind IsEntry front e rest (subst (AllByRecursion IsEntry) (sym are) sound)

  pub follows_there : Follow is_any (keys_of all) → Follow is_any (keys_of (front ++ e ∷ []))
  follows_there follow =
      front_follows is_any (front ++ e ∷ []) rest
      (subst (λ (es : List Entry). Follow is_any (keys_of es)) (sym (append_assoc front (e ∷ []) rest)) (subst (λ (es : List Entry). Follow is_any (keys_of es)) (sym are) follow))

  pub rises_there : KeysRise all → KeysRise (e ∷ rest)
  rises_there rises = (rises_parts front (e ∷ rest) (subst KeysRise (sym are) rises)).1

-- once more is added
pub added_one : (front : List Entry) (e : Entry) (rest all : List Entry) → front ++ e ∷ rest ≡ all → (front ++ e ∷ []) ++ rest ≡ all
added_one front e rest all are = append_assoc front (e ∷ []) rest ∙ are

-- and once nothing is left
pub added_all : (front rest all : List Entry) → rest ≡ [] → front ++ rest ≡ all → front ≡ all
added_all front rest all none are = sym (append-nil front) ∙ ap (λ (es : List Entry). front ++ es) (sym none) ∙ are

-- of those below a key
pub below_added : (key : Bytes) (front : List Entry) (e : Entry) (rest all : List Entry) → is_before e.key key ≡ true → front ++ entries_below (e ∷ rest) key ≡ all → (front ++ e ∷ []) ++ entries_below rest key ≡ all
below_added key front e rest all before are = added_one front e (entries_below rest key) all (ap (λ (es : List Entry). front ++ es) (sym (below_next key e rest before)) ∙ are)

pub below_stopped : (key : Bytes) (front : List Entry) (e : Entry) (rest all : List Entry) → is_before e.key key ≡ false → KeysRise (e ∷ rest) → front ++ entries_below (e ∷ rest) key ≡ all → front ≡ all
below_stopped key front e rest all from rises are = added_all front (entries_below (e ∷ rest) key) all (below_ends key e rest from rises) are

pub below_done : (key : Bytes) (front cursor all : List Entry) → cursor ≡ [] → front ++ entries_below cursor key ≡ all → front ≡ all
below_done key front cursor all none are = added_all front (entries_below cursor key) all (ap (λ (es : List Entry). entries_below es key) none) are

-- of those above it
pub above_added : (key : Bytes) (front : List Entry) (e : Entry) (rest all : List Entry) → is_before e.key key ≡ false → e.key ≢ key → front ++ entries_above (e ∷ rest) key ≡ all → front ++ e ∷ entries_above rest key ≡ all
above_added key front e rest all from unlike are = ap (λ (es : List Entry). front ++ es) (sym (above_next key e rest from unlike)) ∙ are

pub above_passed : (key : Bytes) (front : List Entry) (e : Entry) (rest all : List Entry) → e.key ≡ key → front ++ entries_above (e ∷ rest) key ≡ all → front ++ entries_above rest key ≡ all
above_passed key front e rest all same are = ap (λ (es : List Entry). front ++ es) (sym (above_same key e rest same)) ∙ are

pub above_done : (key : Bytes) (front cursor all : List Entry) → cursor ≡ [] → front ++ entries_above cursor key ≡ all → front ≡ all
above_done key front cursor all none are = added_all front (entries_above cursor key) all (ap (λ (es : List Entry). entries_above es key) none) are

-- a way through the entries from a key on is no longer than they are
pub from_few : (entries : List Entry) (key : Bytes) → length (entries_from entries key) ≤ length entries
from_few [] key = omega arith
from_few (e ∷ more) key = elim (is_before e.key key) as (λ b. length (cond (not b) (e ∷ entries_from more key) (entries_from more key)) ≤ length (e ∷ more)) [
  | true ↦ omega (arith, from_few more key)
  | false ↦ omega (arith, from_few more key)
]

pub from_begins : (entries : List Entry) (key : Bytes) → AllByRecursion (λ (e : Entry). not (is_before e.key key) ≡ true) (entries_from entries key)
from_begins entries key = all_pass (λ (e : Entry). not (is_before e.key key)) entries

pub from_sound : (entries : List Entry) (key : Bytes) → AllByRecursion IsEntry entries → AllByRecursion IsEntry (entries_from entries key)
from_sound entries key sound = all_kept IsEntry (λ (e : Entry). not (is_before e.key key)) entries sound

pub not_true : (b : Bool) → not b ≡ true → b ≡ false
not_true false is = refl
not_true true is = sym is

pub none_left : (entries : List Entry) → length entries ≤ 0 → entries ≡ []
none_left [] few = refl
none_left (e ∷ more) few = absurd (omega (arith, few))

pub built_as : (built before : Built) (entries : List Entry) → built.settings ≡ before.settings → built.ranges ≡ before.ranges → built.entries ≡ entries → built ≡ record before { entries = entries }
built_as built before entries settings ranges are = λ i. record { settings = settings i; entries = are i; ranges = ranges i }
