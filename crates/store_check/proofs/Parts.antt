-- Part after part: what is left of a check, before and after one is looked at.
use Rattle.std.proofs.Common.{◌≡◌, ◌≤◌, ◌<◌, ◌+◌, ◌*◌, ◌^◌, inl, inr, ℕ, zero, suc, Bool, true, false, List, [], ◌∷◌, ◌++◌, length, take, drop, get_or, refl, sym, ap, ◌∙◌, subst, arith}
use Rattle.std.proofs.lemmas.List.{append_assoc, drop_all, drop_more, take_all, take_more}
use Rattle.std.proofs.lemmas.Option.{get_or_from_slice_get, slice_get_past, slice_get_within}
use Rattle.std.proofs.lemmas.List.Elements.{All-from_recursion}
use Rattle.std.specs.Prelude.{slice_get, Ok, Err, OnErr, OnOk, Option, Some, None}
use Rattle.std.specs.declared.result.Result.{Result}
use Rattle.std.specs.List.{All}
use Rattle.std.specs.Option.{ForSome, option_and_then, option_map, option_or}
use Rattle.byte_fields.specs.Faults.{Fault}
use Rattle.byte_fields.specs.declared.parts.Row.{Row}
use Rattle.disk_trait.specs.Image.{Image}
use Rattle.filter_api.specs.Spellings.{Spelling}
use Rattle.manifest.specs.Manifest.{Manifest, place_of}
use Rattle.manifest_model.specs.Laws.{IsVersion}
use Rattle.manifest_model.specs.Slots.{IsVersionOf}
use Rattle.manifest_model.proofs.Rows.{tables_fit}
use Rattle.map_model.specs.SortedMap.{Bytes}
use Rattle.block_model.specs.Places.{FitsDevice}
use Rattle.table_file.specs.Faults.{filter_fault_of}
use Rattle.table_file.specs.Opened.{RowIndex}
use Rattle.image_model.specs.Findings.{Finding, RowsFindings, index_findings, neighbours_fault, ranges_findings}
use Rattle.store_check.specs.Checks.{CheckOfVersion, IsLookedAt, PartsLeft, VersionLeft}
use Rattle.store_check.specs.Orders.{IsOrderOf, IsSoundAt, TableOrder, is_out_of_order, no_tables, range_of_index, when, with_row}
use Rattle.store_check.specs.Tables.{AreTableFindings, IsIndexRead}
use Rattle.store_check.specs.declared.stage.Stage.{Stage}
use Rattle.store_check.specs.declared.stage.Stage.TheVariants as stage
use Rattle.store_check.proofs.Ordered.{order_more, range_read}

-- what holds of these three holds of what they are equal to
pub moved : (P : TableOrder → Stage → Option Manifest → Type 0) (a b : TableOrder) (at to : Stage) (v w : Option Manifest) → b ≡ a → to ≡ at → w ≡ v → P a at v → P b to w
moved P a b at to v w order same version p =
    subst (λ (u : Option Manifest). P b to u) (sym version) (subst (λ (s : Stage). P b s v) (sym same) (subst (λ (o : TableOrder). P o at v) (sym order) p))

-- the row with a number, of a version or of none
abbrev pub row_of : Option Manifest → TableOrder → Option Row
row_of v order = option_and_then (λ (m : Manifest). slice_get m.version.rows order.rows) v

-- ---- a row was looked at

module _ (spelling : Spelling) (first : Bytes → Fault) (image : Image) (m : Manifest) (order : TableOrder) (row : Row) (here : slice_get m.version.rows order.rows ≡ Some row) where
  abbrev rows : List Row
  rows = m.version.rows

  lt : order.rows < length rows
  lt = slice_get_within rows order.rows row here

  at_row : get_or rows order.rows row ≡ row
  at_row = get_or_from_slice_get rows order.rows row row here

  rest_is : drop order.rows rows ≡ row ∷ drop (order.rows + 1) rows
  rest_is = drop_more rows order.rows row lt ∙ ap (λ (r : Row). r ∷ drop (order.rows + 1) rows) at_row

  row_left : (after : TableOrder) (found behind later : List Finding) → after.rows ≡ order.rows + 1 → AreTableFindings spelling first row image found
      → PartsLeft spelling first image m after stage.Rows behind → later ≡ found ++ behind → PartsLeft spelling first image m order stage.Rows later
  row_left after found behind later more is (of_rows, of_log, rows_are, log_is, behind_is) later_is =
      let of_filter = is.0 in
      let all = index_findings row image in
      let ranges = ranges_findings (place_of m.slot) (neighbours_fault rows image) in (
        all ++ (of_filter ++ of_rows),
        of_log,
        subst (λ (rs : List Row). RowsFindings spelling (filter_fault_of first) image rs (all ++ (of_filter ++ of_rows))) (sym rest_is)
            (of_filter, of_rows, is.1, subst (λ (n : ℕ). RowsFindings spelling (filter_fault_of first) image (drop n rows) of_rows) more rows_are, refl),
        log_is,
        later_is
            ∙ (λ i. is.2 i ++ behind_is i)
            ∙ append_assoc all of_filter (of_rows ++ (ranges ++ of_log))
            ∙ ap (λ (fs : List Finding). all ++ fs) (sym (append_assoc of_filter of_rows (ranges ++ of_log)))
            ∙ sym (append_assoc all (of_filter ++ of_rows) (ranges ++ of_log)),
      )

  front_is : take (order.rows + 1) rows ≡ take order.rows rows ++ row ∷ []
  front_is = take_more rows order.rows row lt ∙ ap (λ (r : Row). take order.rows rows ++ r ∷ []) at_row

  row_seen : (after : TableOrder) → IsVersionOf m.version image → after.rows ≡ order.rows + 1 → IsOrderOf image (take order.rows rows ++ row ∷ []) after → IsLookedAt image m after stage.Rows
  row_seen after version more is = record {
    version_is = version;
    rows_done = omega (arith, lt, more);
    order_is = subst (λ (rs : List Row). IsOrderOf image rs after) (sym (ap (λ (n : ℕ). take n rows) more ∙ front_is)) is;
  }

module _ (spelling : Spelling) (first : Bytes → Fault) (image : Image) (order : TableOrder) (row : Row) (index : Option RowIndex) where
  abbrev after : TableOrder
  after = with_row (option_map range_of_index index) order

  pub row_was_left : (v : Option Manifest) (found behind later : List Finding) → row_of v order ≡ Some row → AreTableFindings spelling first row image found
      → VersionLeft spelling first image after stage.Rows v behind → later ≡ found ++ behind → VersionLeft spelling first image order stage.Rows v later
  row_was_left None found behind later here is left later_is = absurd cc
  row_was_left (Some m) found behind later here is left later_is = row_left spelling first image m order row here after found behind later refl is left later_is

  pub row_was_seen : (v : Option Manifest) → row_of v order ≡ Some row → IsIndexRead row image index → CheckOfVersion image order stage.Rows v → CheckOfVersion image after stage.Rows v
  row_was_seen None here read is = absurd cc
  row_was_seen (Some m) here read is =
      row_seen spelling first image m order row here after is.version_is refl
      (order_more image (take order.rows m.version.rows) order row (option_map range_of_index index) is.order_is (range_read row image index read))

-- over any device
less_than_more : (broken : Option ℕ) (bad : Bool) (n : ℕ) → ForSome broken (λ (number : ℕ). number < n) → ForSome (option_or broken (when bad n)) (λ (number : ℕ). number < n + 1)
less_than_more (Some m) bad n is k same = omega (arith, is k same)
less_than_more None true n is k same = omega (arith, some_is n k same)
  where
    some_is : (n k : ℕ) → Some n ≡ Some k → n ≡ k
    some_is n k same = cc
less_than_more None false n is k same = absurd cc

pub sound_more : (v : Option Manifest) (order : TableOrder) (row : Row) (index : Option RowIndex) → row_of v order ≡ Some row → ForSome v (λ (m : Manifest). IsSoundAt m order)
    → ForSome v (λ (m : Manifest). IsSoundAt m (with_row (option_map range_of_index index) order))
sound_more v order row index here is m same =
    let old = is m same in
    record {
      few = old.few;
      slot = old.slot;
      log_page = old.log_page;
      fits = old.fits;
      rows = omega (arith, slice_get_within m.version.rows order.rows row (sym (ap (λ (o : Option Manifest). row_of o order) same) ∙ here));
      broken = less_than_more order.broken (is_out_of_order order.before (option_map range_of_index index)) order.rows old.broken;
    }

pub few_rows : (v : Option Manifest) (order : TableOrder) (row : Row) → row_of v order ≡ Some row → ForSome v (λ (m : Manifest). IsSoundAt m order) → order.rows < 1024
few_rows None order row here is = absurd cc
few_rows (Some m) order row here is = omega (arith, slice_get_within m.version.rows order.rows row here, (is m refl).few)

-- at the start
pub sound_first : (m : Manifest) → IsVersion m.version → m.slot ≤ 1 → IsSoundAt m no_tables
sound_first m is slot = record {
  few = is.few_tables;
  slot = slot;
  log_page = elim is.log_page [ inl a ↦ omega (arith, a) | inr b ↦ omega (arith, b) ];
  fits = All-from_recursion FitsDevice m.version.rows (tables_fit m.version is);
  rows = omega arith;
  broken = λ number none. absurd cc;
}

-- ---- after the last row

behind_rows : (front : List Row) (n : ℕ) → slice_get front n ≡ None → length front ≤ n
behind_rows [] n is = omega arith
behind_rows (row ∷ later) zero is = absurd cc
behind_rows (row ∷ later) (suc n) is = omega (arith, behind_rows later n is)

pub rows_left_over : (spelling : Spelling) (first : Bytes → Fault) (image : Image) (order : TableOrder) (v : Option Manifest) (later : List Finding) → row_of v order ≡ None → CheckOfVersion image order stage.Rows v
    → VersionLeft spelling first image order stage.Ranges v later → VersionLeft spelling first image order stage.Rows v later
rows_left_over spelling first image order None later past is left = left
rows_left_over spelling first image order (Some m) later past is (of_log, log_is, later_is) =
    let front = m.version.rows in
    let all = behind_rows front order.rows past in
    let broken = is.order_is.broken_is ∙ ap (λ (rs : List Row). neighbours_fault rs image) (take_all order.rows front all) in (
      [],
      of_log,
      subst (λ (rs : List Row). RowsFindings spelling (filter_fault_of first) image rs []) (sym (drop_all order.rows front all)) refl,
      log_is,
      later_is ∙ ap (λ (o : Option Fault). ranges_findings (place_of m.slot) o ++ of_log) broken,
    )

-- the row that breaks the order is one of few
pub few_broken : (m : Manifest) (order : TableOrder) → IsSoundAt m order → ForSome order.broken (λ (number : ℕ). number < 1024)
few_broken m order is number same = omega (arith, is.broken number same, is.rows, is.few)

-- ---- how far it is

-- one part less, and however many findings wait then, there is less to do
pub steps_lower : (parts fewer many waits most : ℕ) → fewer < parts → waits < 2 ^ 64 → 2 ^ 64 * parts + many ≤ most → 2 ^ 64 * fewer + waits ≤ most
steps_lower parts fewer many waits most less few le = omega (arith, less, few, le)

-- ---- what is known at a row, over any device

one_some : (n m : Manifest) → Some n ≡ Some m → n ≡ m
one_some n m same = cc

pub sound_start : (n m : Manifest) → IsVersion n.version → n.slot ≤ 1 → Some n ≡ Some m → IsSoundAt m no_tables
sound_start n m is slot same = subst (λ (k : Manifest). IsSoundAt k no_tables) (one_some n m same) (sound_first n is slot)

pub fits_at : (all : List Row) (i : ℕ) (row : Row) → row ≡ get_or all i row → i < length all → All FitsDevice all → FitsDevice row
fits_at front i row is lt fits = subst FitsDevice (sym is) (fits i row lt)

pub none_at : (v : Option Manifest) (m : Manifest) (order : TableOrder) → v ≡ Some m → length m.version.rows ≤ order.rows → None ≡ row_of v order
none_at v m order is past = sym (ap (λ (w : Option Manifest). row_of w order) is ∙ slice_get_past m.version.rows order.rows past)

pub drop_none : {A : Type 0} (n : ℕ) (xs : List A) → drop n xs ≡ [] → length xs ≤ n
drop_none n [] none = omega arith
drop_none zero (x ∷ xs) none = absurd cc
drop_none (suc n) (x ∷ xs) none = omega (arith, drop_none n xs none)

-- one row more was added, or without memory none
pub sound_either : {T E : Type 0} (r : Result T E) (v : Option Manifest) (order new : TableOrder) (row : Row) (index : Option RowIndex) → row_of v order ≡ Some row → ForSome v (λ (m : Manifest). IsSoundAt m order)
    → OnOk r (new ≡ with_row (option_map range_of_index index) order) → OnErr r (new ≡ order) → ForSome v (λ (m : Manifest). IsSoundAt m new)
sound_either (Ok x) v order new row index here is added same m one = subst (IsSoundAt m) (sym added) (sound_more v order row index here is m one)
sound_either (Err e) v order new row index here is added same m one = subst (IsSoundAt m) (sym same) (is m one)
