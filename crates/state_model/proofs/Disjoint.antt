-- Tables that do not meet: at most one of them says something of a key.
use Rattle.std.proofs.Common.{◌≡◌, ◌⊎◌, inl, inr, ℕ, ◌≤◌, List, [], ◌∷◌, refl, sym, ap, ap₂, ◌∙◌, subst, Bool, true, false, cond, arith}
use Rattle.std.proofs.lemmas.Bool.{false≢true}
use Rattle.std.specs.Option.{option_or}
use Rattle.std.specs.Prelude.{Option, Some, None, bytes_eq, not, ◌&&◌, filter, fold}
use Rattle.std.specs.List.{AllByRecursion}
use Rattle.std.proofs.lemmas.Slice.Eq.{bytes_eq-Decides}
use Rattle.std.specs.Ordering.{is_lt}
use Rattle.std.specs.Cmp.Lexicographic.{nat_list_cmp_total}
use Rattle.map_model.specs.SortedMap.{Bytes}
use Rattle.entry_model.specs.Entries.{Entry}
use Rattle.map_model.proofs.Maps.{equal_keys, less_of_greater, by_order, order_same}
use Rattle.entry_model.specs.Newest.{ComesBehind, KeysRise, lookup}
use Rattle.entry_model.proofs.Newest.{greater_of_less}
use Rattle.block_model.specs.Pages.{first_key, last_key}
use Rattle.map_model.specs.Slices.{is_before}
use Rattle.map_model.proofs.Between.{before_less}
use Rattle.range_model.specs.Sources.{IsSource, Source}
use Rattle.range_model.specs.Laws.{LieApart}
use Rattle.range_model.proofs.Silence.{last_below}
use Rattle.state_model.specs.View.{sources_of}
use Rattle.range_model.specs.Reach.{reach, lies_below}
use Rattle.range_model.proofs.KeyOrders.{at_or_after}
use Rattle.range_model.proofs.Reach.{both, nothing_below, nothing_from}
use Rattle.table_model.specs.Tables.{Table, as_source}
use Rattle.state_model.specs.Merges.{LiesBelow, all_below, greater_key, greatest_key, greatest_of, least_key, least_of, lesser_key, reaches_into, reach_of}
use Rattle.key_base.specs.ByteOrder.{IsBefore}
use Rattle.state_model.specs.Sound.{StandsBefore}
use Rattle.state_model.proofs.Levels.{told, EitherNone, AllAt, AtMostOne, says}
use Rattle.extent_model.proofs.Lists.{Pairs}

-- ---- order

abbrev pub Upto : Bytes → Bytes → Type 0
Upto x y = (x ≡ y) ⊎ IsBefore x y

pub upto_then : (x y z : Bytes) → Upto x y → Upto y z → Upto x z
upto_then x y z (inl e) yz = subst (λ (w : Bytes). Upto w z) (sym e) yz
upto_then x y z (inr less) (inl e) = subst (λ (w : Bytes). Upto x w) e (inr less)
upto_then x y z (inr less) (inr more) = inr (nat_list_cmp_total.trans x y z less more)

pub not_before : (x y : Bytes) → Upto x y → is_before y x ≡ false
not_before x y (inl e) = ap is_lt (order_same y x (sym e))
not_before x y (inr less) = ap is_lt (greater_of_less x y less)

pub upto_of_test : (x y : Bytes) → is_before y x ≡ false → Upto x y
upto_of_test x y e = at_or_after (Upto x y) y x e (λ same. inl (sym same)) (λ less. inr less)

-- as tests
upto_test : (x y key : Bytes) → Upto x y → is_before y key ≡ true → IsBefore x key
upto_test x y key (inl e) less = before_less x key (ap (λ (k : Bytes). is_before k key) e ∙ less)
upto_test x y key (inr before) less = nat_list_cmp_total.trans x y key before (before_less y key less)

test_of : (x y : Bytes) → IsBefore x y → is_before x y ≡ true
test_of x y less = ap is_lt less

pub crossed : (x y : Bytes) → Upto x y → IsBefore y x → ⊥
crossed x y upto less = let e = sym (not_before x y upto) ∙ ap is_lt less in cc

pub lesser_first : (x y : Bytes) → Upto (lesser_key x y) x
lesser_first x y = by_order (λ o. Upto (cond (is_lt o) y x) x) y x (λ less. inr less) (λ _. inl refl) (λ _. inl refl)

pub lesser_second : (x y : Bytes) → Upto (lesser_key x y) y
lesser_second x y = by_order (λ o. Upto (cond (is_lt o) y x) y) y x (λ _. inl refl) (λ equal. inl (sym (equal_keys y x equal))) (λ more. inr (less_of_greater y x more))

pub greater_first : (x y : Bytes) → Upto x (greater_key x y)
greater_first x y = by_order (λ o. Upto x (cond (is_lt o) y x)) x y (λ less. inr less) (λ _. inl refl) (λ _. inl refl)

pub greater_second : (x y : Bytes) → Upto y (greater_key x y)
greater_second x y = by_order (λ o. Upto y (cond (is_lt o) y x)) x y (λ _. inl refl) (λ equal. inl (sym (equal_keys x y equal))) (λ more. inr (less_of_greater x y more))

-- ---- a key that a table has

-- some table says it
abbrev pub IsSome : Option (Option Bytes) → Type 0
IsSome None = ⊥
IsSome (Some value) = Unit {0}

pub some_or_none : (a : Option (Option Bytes)) → (a ≡ None) ⊎ IsSome a
some_or_none None = inl refl
some_or_none (Some value) = inr tt

not_both : (a b : Option (Option Bytes)) → (IsSome a → IsSome b → ⊥) → EitherNone a b
not_both None b apart = inl refl
not_both (Some x) None apart = inr refl
not_both (Some x) (Some y) apart = absurd (apart tt tt)

above_found : (low : Bytes) (entries : List Entry) (key : Bytes) → AllByRecursion (ComesBehind low) entries → IsSome (lookup entries key) → IsBefore low key
above_found low [] key above some = absurd some
above_found low (entry ∷ more) key above some = elim (bytes_eq entry.key key) as (λ t. bytes_eq entry.key key ≡ t → IsSome (cond t (Some entry.value) (lookup more key)) → IsBefore low key) [
  | true ↦ λ e _. subst (λ (k : Bytes). IsBefore low k) ((bytes_eq-Decides entry.key key).0 e) above.0
  | false ↦ λ _ found. above_found low more key above.1 found
] refl some

pub first_upto : (entries : List Entry) (key : Bytes) → KeysRise entries → IsSome (lookup entries key) → Upto (first_key entries) key
first_upto [] key rises some = absurd some
first_upto (entry ∷ more) key rises some = elim (bytes_eq entry.key key) as (λ t. bytes_eq entry.key key ≡ t → IsSome (cond t (Some entry.value) (lookup more key)) → Upto entry.key key) [
  | true ↦ λ e _. inl ((bytes_eq-Decides entry.key key).0 e)
  | false ↦ λ _ found. inr (above_found entry.key more key rises.0 found)
] refl some

above_last : (low : Bytes) (entry : Entry) (more : List Entry) → AllByRecursion (ComesBehind low) (entry ∷ more) → IsBefore low (last_key (entry ∷ more))
above_last low entry [] above = above.0
above_last low entry (next ∷ more) above = above_last low next more above.1

pub upto_last : (entries : List Entry) (key : Bytes) → KeysRise entries → IsSome (lookup entries key) → Upto key (last_key entries)
upto_last [] key rises some = absurd some
upto_last (entry ∷ []) key rises some = elim (bytes_eq entry.key key) as (λ t. bytes_eq entry.key key ≡ t → IsSome (cond t (Some entry.value) None) → Upto key entry.key) [
  | true ↦ λ e _. inl (sym ((bytes_eq-Decides entry.key key).0 e))
  | false ↦ λ _ found. absurd found
] refl some
upto_last (entry ∷ next ∷ more) key rises some = elim (bytes_eq entry.key key) as (λ t. bytes_eq entry.key key ≡ t → IsSome (cond t (Some entry.value) (lookup (next ∷ more) key)) → Upto key (last_key (next ∷ more))) [
  | true ↦ λ e _. subst (λ (k : Bytes). Upto k (last_key (next ∷ more))) ((bytes_eq-Decides entry.key key).0 e) (inr (above_last entry.key next more rises.0))
  | false ↦ λ _ found. upto_last (next ∷ more) key rises.1 found
] refl some

-- ---- a table that says something of a key

abbrev pub Rise : List Table → Type 0
Rise tables = AllByRecursion (λ (t : Table). IsSource (as_source t)) tables

-- its least key is not above the key
pub least_upto : (t : Table) (key : Bytes) → IsSource (as_source t) → IsSome (told t key) → Upto (least_key t) key
least_upto t key is some = upto_of_test (least_key t) key (elim (is_before key (least_key t)) as (λ b. is_before key (least_key t) ≡ b → b ≡ false) [
  | true ↦ λ e. absurd (subst IsSome (nothing_below (as_source t) key is e) some)
  | false ↦ λ _. refl
] refl)

-- and it does not lie below the key, nor below one that is not above it
pub not_below : (t : Table) (at key : Bytes) → IsSource (as_source t) → Upto at key → IsSome (told t key) → lies_below (as_source t) at ≡ false
not_below t at key is upto some = elim (lies_below (as_source t) at) as (λ b. lies_below (as_source t) at ≡ b → b ≡ false) [
  | true ↦ λ e. absurd (subst IsSome (nothing_from (as_source t) at key is e (not_before at key upto)) some)
  | false ↦ λ _. refl
] refl

-- ---- tables of one level

apart_at : (t u : Table) (key : Bytes) → IsSource (as_source t) → IsSource (as_source u) → LiesBelow t (least_key u) → EitherNone (told t key) (told u key)
apart_at t u key is_t is_u below = not_both (told t key) (told u key)
    (λ in_t in_u. absurd (false≢true (sym (not_below t (least_key u) key is_t (least_upto u key is_u in_u) in_t) ∙ below)))

none_of_all : (a : Option (Option Bytes)) (tables : List Table) (key : Bytes) → AllByRecursion (λ (u : Table). EitherNone a (told u key)) tables → EitherNone a (says tables key)
none_of_all a [] key all = inr refl
none_of_all a (u ∷ more) key all = elim all.0 [
  | inl e ↦ inl e
  | inr none ↦ elim (none_of_all a more key all.1) [ inl e ↦ inl e | inr rest ↦ inr (ap (λ (o : Option (Option Bytes)). option_or o (says more key)) none ∙ rest) ]
]

stands_apart : (level : ℕ) (t u : Table) (key : Bytes) → 1 ≤ level → t.level ≡ level → u.level ≡ level → IsSource (as_source t) → IsSource (as_source u) → StandsBefore t u → EitherNone (told t key) (told u key)
stands_apart level t u key some at_t at_u is_t is_u (inl less) = absurd (omega arith)
stands_apart level t u key some at_t at_u is_t is_u (inr same) = elim same.1 [
  | inl zero_level ↦ absurd (omega arith)
  | inr before ↦ apart_at t u key is_t is_u before
]

others_apart : (level : ℕ) (t : Table) (more : List Table) (key : Bytes) → 1 ≤ level → t.level ≡ level → IsSource (as_source t) → AllByRecursion (λ (u : Table). u.level ≡ level) more → Rise more → AllByRecursion (StandsBefore t) more
    → AllByRecursion (λ (u : Table). EitherNone (told t key) (told u key)) more
others_apart level t [] key some at_t is_t at rise order = tt
others_apart level t (u ∷ more) key some at_t is_t at rise order = (stands_apart level t u key some at_t at.0 is_t rise.0 order.0, others_apart level t more key some at_t is_t at.1 rise.1 order.1)

pub one_of_level : (level : ℕ) (tables : List Table) (key : Bytes) → 1 ≤ level → AllByRecursion (λ (t : Table). t.level ≡ level) tables → Rise tables → Pairs StandsBefore tables → AtMostOne key tables
one_of_level level [] key some at rise order = tt
one_of_level level (t ∷ more) key some at rise order = (none_of_all (told t key) more key (others_apart level t more key some at.0 rise.0 at.1 rise.1 order.0), one_of_level level more key some at.1 rise.1 order.1)

-- ---- the hull of some tables

-- all of a table that ends with this key and this reach comes before the key
abbrev pub ends_below : Bytes → Bytes → Bytes → Bool
ends_below last end key = is_before last key && not (is_before key end)

-- below the greater ends lies what lies below both
before_greater : (x y key : Bytes) → is_before (greater_key x y) key ≡ true → (is_before x key ≡ true) × (is_before y key ≡ true)
before_greater x y key e = (test_of x key (upto_test x (greater_key x y) key (greater_first x y) e), test_of y key (upto_test y (greater_key x y) key (greater_second x y) e))

from_greater : (x y key : Bytes) → is_before key (greater_key x y) ≡ false → (is_before key x ≡ false) × (is_before key y ≡ false)
from_greater x y key e = (
  not_before x key (upto_then x (greater_key x y) key (greater_first x y) (upto_of_test (greater_key x y) key e)),
  not_before y key (upto_then y (greater_key x y) key (greater_second x y) (upto_of_test (greater_key x y) key e)),
)

both_ends : (last end key : Bytes) → ends_below last end key ≡ true → (is_before last key ≡ true) × (is_before key end ≡ false)
both_ends last end key e = both (is_before last key) (is_before key end) e

of_ends : (last end key : Bytes) → is_before last key ≡ true → is_before key end ≡ false → ends_below last end key ≡ true
of_ends last end key e f = ap₂ (λ (x y : Bool). x && not y) e f

abbrev pub lower_of : Bytes → List Table → Bytes
lower_of start tables = fold (λ key (u : Table). lesser_key key (least_key u)) start tables

abbrev pub upper_of : Bytes → List Table → Bytes
upper_of start tables = fold (λ key (u : Table). greater_key key (greatest_key u)) start tables

abbrev pub end_of : Bytes → List Table → Bytes
end_of start tables = fold (λ key (u : Table). greater_key key (reach u.ranges)) start tables

pub lower_start : (start : Bytes) (tables : List Table) → Upto (lower_of start tables) start
lower_start start [] = inl refl
lower_start start (u ∷ more) = upto_then (lower_of (lesser_key start (least_key u)) more) (lesser_key start (least_key u)) start (lower_start (lesser_key start (least_key u)) more) (lesser_first start (least_key u))

lower_each : (start : Bytes) (tables : List Table) → AllByRecursion (λ (u : Table). Upto (lower_of start tables) (least_key u)) tables
lower_each start [] = tt
lower_each start (u ∷ more) = let low = lesser_key start (least_key u) in
    (upto_then (lower_of low more) low (least_key u) (lower_start low more) (lesser_second start (least_key u)), lower_each low more)

-- the least key of some tables is not above that of each
pub least_each : (tables : List Table) → AllByRecursion (λ (u : Table). Upto (least_of tables) (least_key u)) tables
least_each [] = tt
least_each (t ∷ more) = (lower_start (least_key t) more, lower_each (least_key t) more)

-- where the hull's end lies below a key, each table does
hull_start : (last end : Bytes) (tables : List Table) (key : Bytes) → ends_below (upper_of last tables) (end_of end tables) key ≡ true → ends_below last end key ≡ true
hull_start last end [] key e = e
hull_start last end (u ∷ more) key e =
    let parts = both_ends (greater_key last (greatest_key u)) (greater_key end (reach u.ranges)) key (hull_start (greater_key last (greatest_key u)) (greater_key end (reach u.ranges)) more key e) in
    of_ends last end key (before_greater last (greatest_key u) key parts.0).0 (from_greater end (reach u.ranges) key parts.1).0

hull_each : (last end : Bytes) (tables : List Table) (key : Bytes) → ends_below (upper_of last tables) (end_of end tables) key ≡ true → AllByRecursion (λ (u : Table). LiesBelow u key) tables
hull_each last end [] key e = tt
hull_each last end (u ∷ more) key e =
    let parts = both_ends (greater_key last (greatest_key u)) (greater_key end (reach u.ranges)) key (hull_start (greater_key last (greatest_key u)) (greater_key end (reach u.ranges)) more key e) in
    (of_ends (greatest_key u) (reach u.ranges) key (before_greater last (greatest_key u) key parts.0).1 (from_greater end (reach u.ranges) key parts.1).1, hull_each (greater_key last (greatest_key u)) (greater_key end (reach u.ranges)) more key e)

pub all_lie_below : (tables : List Table) (key : Bytes) → all_below tables key ≡ true → AllByRecursion (λ (u : Table). LiesBelow u key) tables
all_lie_below [] key e = tt
all_lie_below (t ∷ more) key e =
    let parts = both_ends (greatest_key t) (greater_key [] (reach t.ranges)) key (hull_start (greatest_key t) (greater_key [] (reach t.ranges)) more key e) in
    (of_ends (greatest_key t) (reach t.ranges) key parts.0 (from_greater [] (reach t.ranges) key parts.1).1, hull_each (greatest_key t) (greater_key [] (reach t.ranges)) more key e)

-- ---- what the hull does not meet

-- tables that begin after a key say nothing of it
none_over : (low : Bytes) (tables : List Table) (key : Bytes) → Rise tables → AllByRecursion (λ (u : Table). Upto low (least_key u)) tables → IsSome (says tables key) → Upto low key
none_over low [] key rise from some = absurd some
none_over low (t ∷ more) key rise from some = elim (some_or_none (told t key)) [
  | inr here ↦ upto_then low (least_key t) key from.0 (least_upto t key rise.0 here)
  | inl none ↦ none_over low more key rise.1 from.1 (subst (λ (o : Option (Option Bytes)). IsSome (option_or o (says more key))) none some)
]

-- nor do tables that lie below it, or below one that is not above it
pub none_under : (at : Bytes) (tables : List Table) (key : Bytes) → Rise tables → AllByRecursion (λ (u : Table). LiesBelow u at) tables → Upto at key → says tables key ≡ None
none_under at [] key rise below upto = refl
none_under at (t ∷ more) key rise below upto =
    ap (λ (o : Option (Option Bytes)). option_or o (says more key)) (nothing_from (as_source t) at key rise.0 below.0 (not_before at key upto)) ∙ none_under at more key rise.1 below.1 upto

pub said_from : (tables : List Table) (key : Bytes) → Rise tables → IsSome (says tables key) → Upto (least_of tables) key
said_from tables key rise some = none_over (least_of tables) tables key rise (least_each tables) some

meets_said : (tables : List Table) (t : Table) (key : Bytes) → Rise tables → IsSource (as_source t) → IsSome (says tables key) → IsSome (told t key) → reaches_into tables t ≡ true
meets_said tables t key rise is in_all in_t =
    ap (λ (b : Bool). not b && not (all_below tables (least_key t))) (not_below t (least_of tables) key is (said_from tables key rise in_all) in_t)
    ∙ ap (λ (b : Bool). not b) (elim (all_below tables (least_key t)) as (λ b. all_below tables (least_key t) ≡ b → b ≡ false) [
      | true ↦ λ e. absurd (subst IsSome (none_under (least_key t) tables key rise (all_lie_below tables (least_key t) e) (least_upto t key is in_t)) in_all)
      | false ↦ λ _. refl
    ] refl)

outside_none : (tables others : List Table) (key : Bytes) → Rise tables → Rise others → IsSome (says tables key) → says (filter (λ (t : Table). not (reaches_into tables t)) others) key ≡ None
outside_none tables [] key rise_t rise in_all = refl
outside_none tables (t ∷ more) key rise_t rise in_all = let rest = outside_none tables more key rise_t rise.1 in_all in
    elim (reaches_into tables t) as (λ b. reaches_into tables t ≡ b → says (cond (not b) (t ∷ filter (λ (u : Table). not (reaches_into tables u)) more) (filter (λ (u : Table). not (reaches_into tables u)) more)) key ≡ None) [
      | true ↦ λ _. rest
      | false ↦ λ e. elim (some_or_none (told t key)) [
        | inl none ↦ ap (λ (o : Option (Option Bytes)). option_or o (says (filter (λ (u : Table). not (reaches_into tables u)) more) key)) none ∙ rest
        | inr some ↦ absurd (false≢true (sym e ∙ meets_said tables t key rise_t rise.0 in_all some))
      ]
    ] refl

-- where some tables say something of a key, those that they do not meet say nothing of it
pub hull_apart : (tables others : List Table) (key : Bytes) → Rise tables → Rise others → EitherNone (says tables key) (says (filter (λ (t : Table). not (reaches_into tables t)) others) key)
hull_apart tables others key rise_t rise_o = elim (some_or_none (says tables key)) [
  | inl none ↦ inl none
  | inr some ↦ inr (outside_none tables others key rise_t rise_o some)
]

-- ---- what lies below a key

pub below_greatest : (t : Table) (key : Bytes) → LiesBelow t key → IsBefore (greatest_key t) key
below_greatest t key below = last_below (as_source t) key below

less_upto : (x y z : Bytes) → IsBefore x y → Upto y z → IsBefore x z
less_upto x y z less (inl e) = subst (IsBefore x) e less
less_upto x y z less (inr more) = nat_list_cmp_total.trans x y z less more

end_upto : (last end x y : Bytes) → ends_below last end x ≡ true → Upto x y → ends_below last end y ≡ true
end_upto last end x y below upto = let parts = both_ends last end x below in
    of_ends last end y (test_of last y (less_upto last x y (before_less last x parts.0) upto)) (not_before end y (upto_then end x y (upto_of_test end x parts.1) upto))

pub below_upto : (t : Table) (x y : Bytes) → LiesBelow t x → Upto x y → LiesBelow t y
below_upto t x y below upto = end_upto (greatest_key t) (reach t.ranges) x y below upto

pub all_below_upto : (tables : List Table) (x y : Bytes) → all_below tables x ≡ true → Upto x y → all_below tables y ≡ true
all_below_upto tables x y below upto = end_upto (greatest_of tables) (reach_of tables) x y below upto

-- what a table that lies below a key says something of comes before the key
pub said_before : (t : Table) (at key : Bytes) → IsSource (as_source t) → LiesBelow t at → IsSome (told t key) → IsBefore key at
said_before t at key is below some = elim (is_before key at) as (λ b. is_before key at ≡ b → IsBefore key at) [
  | true ↦ λ e. before_less key at e
  | false ↦ λ e. absurd (subst IsSome (nothing_from (as_source t) at key is below e) some)
] refl

pub all_said_before : (tables : List Table) (at key : Bytes) → Rise tables → all_below tables at ≡ true → IsSome (says tables key) → IsBefore key at
all_said_before tables at key rise below some = elim (is_before key at) as (λ b. is_before key at ≡ b → IsBefore key at) [
  | true ↦ λ e. before_less key at e
  | false ↦ λ e. absurd (subst IsSome (none_under at tables key rise (all_lie_below tables at below) (upto_of_test at key e)) some)
] refl

-- ---- tables of outputs

stands_before : (level : ℕ) (t : Table) (more : List Table) → t.level ≡ level → AllAt level more → AllByRecursion (λ (u : Source). lies_below (as_source t) (first_key u.entries) ≡ true) (sources_of more)
    → AllByRecursion (StandsBefore t) more
stands_before level t [] at all below = tt
stands_before level t (u ∷ more) at all below = (inr (at ∙ sym all.0, inr below.0), stands_before level t more at all.1 below.1)

-- tables of one level that lie below one another are in their order
pub rising_order : (level : ℕ) (made : List Table) → AllAt level made → LieApart (sources_of made) → Pairs StandsBefore made
rising_order level [] all apart = tt
rising_order level (t ∷ more) all apart = (stands_before level t more all.0 all.1 apart.0, rising_order level more all.1 apart.1)

pub rise_of_sources : (tables : List Table) → AllByRecursion IsSource (sources_of tables) → Rise tables
rise_of_sources [] are = tt
rise_of_sources (t ∷ more) are = (are.0, rise_of_sources more are.1)

pub sources_rise : (tables : List Table) → Rise tables → AllByRecursion IsSource (sources_of tables)
sources_rise [] rise = tt
sources_rise (t ∷ more) rise = (rise.0, sources_rise more rise.1)
