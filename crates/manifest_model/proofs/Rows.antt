-- Rows break no rule exactly where each is one of a table, levels do not fall, and the tables lie apart.
use Rattle.std.proofs.Common.{◌≡◌, ◌⊎◌, inl, inr, ◌≤◌, ◌+◌, ℕ, List, [], ◌∷◌, map, true, false, refl, arith}
use Rattle.std.specs.Prelude.{None, nat_lt, not, ◌==◌, ◌&&◌, ◌||◌}
use Rattle.std.specs.List.{AllByRecursion, list_any}
use Rattle.std.proofs.lemmas.Bool.{eq-eqb, eqb-false, eqb-true, le-ltb, ltb-false, or_from, or_parts}
use Rattle.byte_fields.specs.declared.parts.Row.{Row}
use Rattle.block_model.specs.Pages.{pages_for}
use Rattle.block_model.specs.Places.{FitsDevice, end_page}
use Rattle.block_model.proofs.OldEntriesRead.{eqb_zero}
use Rattle.block_model.proofs.Refusals.{kept, neither, none_of, not_false, not_true, passed}
use Rattle.extent_model.specs.Extents.{AreApart, IsOnDevice}
use Rattle.extent_model.proofs.Lists.{Pairs, all_pairs, pairs_of}
use Rattle.manifest_model.specs.Reading.{extents_fault, leaves, levels_fault, meets_row, table_row_fault, table_rows_fault}
use Rattle.manifest_model.specs.Rows.{IsNoDeeper, IsTableRow, RowsKeepTheRules, TablesFitDevice, extent_of}

-- ---- a row by itself

row_kept : (place : ℕ) (row : Row) → table_row_fault place row ≡ None → IsTableRow row
unfolding table_row_fault
row_kept place row none =
    let a = kept (nat_lt 6 row.level) place 8 _ none in
    let b = kept (row.data_pages == 0) (place + 8) 8 _ a.1 in
    let c = kept (not (row.index_pages == pages_for row.index_len)) (place + 12) 8 _ b.1 in
    let d = kept (not (row.filter_pages == pages_for row.filter_len)) (place + 16) 8 _ c.1 in
    let e = kept (row.entries == 0) (place + 20) 8 _ d.1 in
    let some_pages = eqb-false row.data_pages 0 b.0 in
    let some_entries = eqb-false row.entries 0 e.0 in
    record {
      level = ltb-false 6 row.level a.0;
      data_pages = omega (arith, some_pages);
      index_pages = eqb-true row.index_pages (pages_for row.index_len) (not_false _ c.0);
      filter_pages = eqb-true row.filter_pages (pages_for row.filter_len) (not_false _ d.0);
      entries = omega (arith, some_entries);
    }

row_unbroken : (place : ℕ) (row : Row) → IsTableRow row → table_row_fault place row ≡ None
unfolding table_row_fault
row_unbroken place row is =
    passed (nat_lt 6 row.level) place 8 _ (le-ltb 6 row.level is.level)
    (passed (row.data_pages == 0) (place + 8) 8 _ (eqb_zero row.data_pages is.data_pages)
    (passed (not (row.index_pages == pages_for row.index_len)) (place + 12) 8 _ (not_true _ (eq-eqb row.index_pages (pages_for row.index_len) is.index_pages))
    (passed (not (row.filter_pages == pages_for row.filter_len)) (place + 16) 8 _ (not_true _ (eq-eqb row.filter_pages (pages_for row.filter_len) is.filter_pages))
    (passed (row.entries == 0) (place + 20) 8 _ (eqb_zero row.entries is.entries) refl))))

rows_kept : (place : ℕ) (rows : List Row) → table_rows_fault place rows ≡ None → AllByRecursion IsTableRow rows
unfolding table_rows_fault
rows_kept place [] none = tt
rows_kept place (row ∷ later) none = let both = neither _ _ none in (row_kept place row both.0, rows_kept (place + 64) later both.1)

rows_unbroken : (place : ℕ) (rows : List Row) → AllByRecursion IsTableRow rows → table_rows_fault place rows ≡ None
unfolding table_rows_fault
rows_unbroken place [] are = refl
rows_unbroken place (row ∷ later) are = none_of _ _ (row_unbroken place row are.0) (rows_unbroken (place + 64) later are.1)

-- ---- levels

abbrev IsAtLeast : ℕ → Row → Type 0
IsAtLeast level row = level ≤ row.level

deeper : (level next : ℕ) (rows : List Row) → level ≤ next → AllByRecursion (IsAtLeast next) rows → AllByRecursion (IsAtLeast level) rows
deeper level next [] le all = tt
deeper level next (row ∷ rows) le all = (omega (arith, le, all.0), deeper level next rows le all.1)

levels_kept : (place before : ℕ) (rows : List Row) → levels_fault place before rows ≡ None → AllByRecursion (IsAtLeast before) rows × Pairs IsNoDeeper rows
unfolding levels_fault
levels_kept place before [] none = (tt, tt)
levels_kept place before (row ∷ later) none =
    let here = kept (nat_lt row.level before) place 9 _ none in
    let le = ltb-false row.level before here.0 in
    let rest = levels_kept (place + 64) row.level later here.1 in
    ((le, deeper before row.level later le rest.0), (rest.0, rest.1))

levels_unbroken : (place before : ℕ) (rows : List Row) → AllByRecursion (IsAtLeast before) rows → Pairs IsNoDeeper rows → levels_fault place before rows ≡ None
unfolding levels_fault
levels_unbroken place before [] from pairs = refl
levels_unbroken place before (row ∷ later) from pairs =
    passed (nat_lt row.level before) place 9 _ (le-ltb row.level before from.0) (levels_unbroken (place + 64) row.level later pairs.0 pairs.1)

-- ---- two extents

not_met : (a b c d : ℕ) → (b ≤ c) ⊎ (d ≤ a) → (nat_lt a d && nat_lt c b) ≡ false
not_met a b c d (inl before) = grind arith
not_met a b c d (inr behind) = grind arith

apart_if : (a b c d : ℕ) → (nat_lt a d && nat_lt c b) ≡ false → (b ≤ c) ⊎ (d ≤ a)
apart_if a b c d off = elim (nat_lt a d) as (λ t. nat_lt a d ≡ t → (t && nat_lt c b) ≡ false → (b ≤ c) ⊎ (d ≤ a)) [
  | true ↦ λ e off. let le : b ≤ c = grind arith in inl le
  | false ↦ λ e off. let le : d ≤ a = grind arith in inr le
] refl off

pub not_left : (first end pages : ℕ) → 192 ≤ first → end ≤ pages → (nat_lt first 192 || nat_lt pages end) ≡ false
not_left first end pages from to = or_from (nat_lt first 192) (nat_lt pages end) (le-ltb first 192 from) (le-ltb pages end to)

pub within_if : (first end pages : ℕ) → (nat_lt first 192 || nat_lt pages end) ≡ false → (192 ≤ first) × (end ≤ pages)
within_if first end pages off =
    let parts = or_parts (nat_lt first 192) (nat_lt pages end) off in
    (ltb-false first 192 parts.0, ltb-false pages end parts.1)

-- ---- with all earlier ones

-- the row's table is apart from those of some others
abbrev pub IsApartFrom : Row → List Row → Type 0
IsApartFrom row others = AllByRecursion (AreApart (extent_of row)) (map extent_of others)

pub none_met : (row : Row) (earlier : List Row) → IsApartFrom row earlier → list_any (meets_row row) earlier ≡ false
none_met row [] all = refl
none_met row (other ∷ more) all =
    or_from (meets_row row other) (list_any (meets_row row) more) (not_met row.first_page (end_page row) other.first_page (end_page other) all.0) (none_met row more all.1)

pub all_apart : (row : Row) (earlier : List Row) → list_any (meets_row row) earlier ≡ false → IsApartFrom row earlier
all_apart row [] off = tt
all_apart row (other ∷ more) off =
    let parts = or_parts (meets_row row other) (list_any (meets_row row) more) off in
    (apart_if row.first_page (end_page row) other.first_page (end_page other) parts.0, all_apart row more parts.1)

turned : (a b : Row) → AreApart (extent_of a) (extent_of b) → AreApart (extent_of b) (extent_of a)
turned a b (inl before) = inr before
turned a b (inr behind) = inl behind

-- ---- all rows

abbrev AreApartFrom : List Row → List Row → Type 0
AreApartFrom earlier rows = AllByRecursion (λ (row : Row). IsApartFrom row earlier) rows

-- one of the earlier ones is apart from each row
first_apart : (row : Row) (earlier rows : List Row) → AreApartFrom (row ∷ earlier) rows → IsApartFrom row rows
first_apart row earlier [] all = tt
first_apart row earlier (next ∷ rows) all = (turned next row all.0.0, first_apart row earlier rows all.1)

others_apart : (row : Row) (earlier rows : List Row) → AreApartFrom (row ∷ earlier) rows → AreApartFrom earlier rows
others_apart row earlier [] all = tt
others_apart row earlier (next ∷ rows) all = (all.0.1, others_apart row earlier rows all.1)

one_more : (row : Row) (earlier rows : List Row) → IsApartFrom row rows → AreApartFrom earlier rows → AreApartFrom (row ∷ earlier) rows
one_more row earlier [] first others = tt
one_more row earlier (next ∷ rows) first others = ((turned row next first.0, others.0), one_more row earlier rows first.1 others.1)

from_none : (rows : List Row) → AreApartFrom [] rows
from_none [] = tt
from_none (row ∷ rows) = (tt, from_none rows)

record AreLaidBehind (pages : ℕ) (earlier rows : List Row) : Type 0 where
  pub on_device : AllByRecursion (IsOnDevice pages) (map extent_of rows)
  pub apart : Pairs AreApart (map extent_of rows)
  pub behind : AreApartFrom earlier rows

laid : (pages place : ℕ) (earlier rows : List Row) → AllByRecursion IsTableRow rows → extents_fault pages place earlier rows ≡ None → AreLaidBehind pages earlier rows
unfolding extents_fault
laid pages place earlier [] are none = record { on_device = tt; apart = tt; behind = tt }
laid pages place earlier (row ∷ later) are none =
    let here = kept (leaves pages row || list_any (meets_row row) earlier) (place + 4) 10 _ none in
    let parts = or_parts (leaves pages row) (list_any (meets_row row) earlier) here.0 in
    let within = within_if row.first_page (end_page row) pages parts.0 in
    let rest = laid pages (place + 64) (row ∷ earlier) later are.1 here.1 in
    record {
      on_device = (record { some = omega (arith, are.0.data_pages); from = within.0; to = within.1 }, rest.on_device);
      apart = (first_apart row earlier later rest.behind, rest.apart);
      behind = (all_apart row earlier parts.1, others_apart row earlier later rest.behind);
    }

laid_unbroken : (pages place : ℕ) (earlier rows : List Row) → AreLaidBehind pages earlier rows → extents_fault pages place earlier rows ≡ None
unfolding extents_fault
laid_unbroken pages place earlier [] are = refl
laid_unbroken pages place earlier (row ∷ later) are =
    passed (leaves pages row || list_any (meets_row row) earlier) (place + 4) 10 _
    (or_from (leaves pages row) (list_any (meets_row row) earlier) (not_left row.first_page (end_page row) pages are.on_device.0.from are.on_device.0.to) (none_met row earlier are.behind.0))
    (laid_unbroken pages (place + 64) (row ∷ earlier) later (record { on_device = are.on_device.1; apart = are.apart.1; behind = one_more row earlier later are.apart.0 are.behind.1 }))

-- ---- of a version

from_zero : (rows : List Row) → AllByRecursion (IsAtLeast 0) rows
from_zero [] = tt
from_zero (row ∷ rows) = (omega arith, from_zero rows)

pub rows_keep : RowsKeepTheRules
rows_keep = record {
  kept = λ v none.
      let a = neither (table_rows_fault 64 v.rows) _ none in
      let b = neither (levels_fault 64 0 v.rows) _ a.1 in
      let each = rows_kept 64 v.rows a.0 in
      let are = laid v.pages 64 [] v.rows each b.1 in
      record {
        each = each;
        levels = all_pairs IsNoDeeper v.rows (levels_kept 64 0 v.rows b.0).1;
        laid = record { on_device = are.on_device; apart = all_pairs AreApart (map extent_of v.rows) are.apart };
      };
  unbroken = λ v are.
      none_of _ _ (rows_unbroken 64 v.rows are.each)
      (none_of _ _ (levels_unbroken 64 0 v.rows (from_zero v.rows) (pairs_of IsNoDeeper v.rows are.levels))
      (laid_unbroken v.pages 64 [] v.rows
      (record { on_device = are.laid.on_device; apart = pairs_of AreApart (map extent_of v.rows) are.laid.apart; behind = from_none v.rows })));
}

fit : (pages : ℕ) (rows : List Row) → pages ≤ 16777216 → AllByRecursion IsTableRow rows → AllByRecursion (IsOnDevice pages) (map extent_of rows) → AllByRecursion FitsDevice rows
fit pages [] few are placed = tt
fit pages (row ∷ rows) few are placed = (
  record { index_pages = are.0.index_pages; filter_pages = are.0.filter_pages; within = omega (arith, few, placed.0.to) },
  fit pages rows few are.1 placed.1,
)

pub tables_fit : TablesFitDevice
tables_fit v is = let are = rows_keep.kept v is.placed in fit v.pages v.rows is.few_pages are.each are.laid.on_device
