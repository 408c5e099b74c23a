-- The blocks of a table of a state are read again, and their values counted.
use Rattle.std.proofs.Common.{◌≡◌, ◌∙◌, ◌==◌, true, ◌<◌, ◌≤◌, ◌+◌, ◌*◌, ℕ, zero, suc, List, [], ◌∷◌, ◌++◌, length, drop, take, map, refl, sym, ap, ap₂, subst, arith}
use Rattle.std.specs.Prelude.{Err, IfErr, IfSome, IsErrAnd, MatchOption, MatchResult, None, Ok, Option, Some}
use Rattle.std.specs.declared.result.Result.{Result}
use Rattle.std.specs.List.{AllByRecursion, sum_by}
use Rattle.std.proofs.lemmas.List.Sums.{sum_by-append, sum_by-cons}
use Rattle.image_model.proofs.Opening.{not_some}
use Rattle.std.proofs.lemmas.Bool.{eqb-true}
use Rattle.std.proofs.lemmas.List.{drop_all, drop_more}
use Rattle.block_model.specs.BlockReading.{block_in}
use Rattle.block_model.specs.Index.{Index, IndexRow}
use Rattle.block_model.specs.Laws.{joined}
use Rattle.block_model.specs.Places.{byte_of_page}
use Rattle.disk_trait.specs.Image.{Image, Shows}
use Rattle.disk_trait.specs.World.{World}
use Rattle.entry_model.specs.Entries.{Entry}
use Rattle.byte_fields.specs.declared.parts.Row.{Row}
use Rattle.filter_api.specs.Spellings.{Spelling}
use Rattle.image_model.specs.Findings.{block_at, blocks_at}
use Rattle.map_model.specs.SortedMap.{Bytes}
use Rattle.store_check.specs.Causes.{HasCause, IsFree}
use Rattle.store_check.specs.Places.{damage_at, page_of}
use Rattle.store_check.specs.Summaries.{HasSummaryCause, IsDamage, IsSummaryErrorBy, IsSummaryErrorOf, IsUndamaged}
use Rattle.store_check.specs.Values.{table_values, values_in}
use Rattle.store_check.specs.declared.error.CheckError.{CheckError}
use Rattle.store_check.specs.declared.error.CheckError.TheVariants as check
use Rattle.store_check.specs.declared.summary.SummaryError.{SummaryError}
use Rattle.store_check.specs.declared.summary.SummaryError.TheVariants as summary
use Rattle.store_check.proofs.OneLevel.{values_of_both}
use Rattle.store_check.proofs.Seen.{next_page}
use Rattle.table_file.specs.Faults.{HasReadCause, IsIndexAnswer, IsNoDamage}
use Rattle.table_file.specs.declared.fault.TableFault.{TableFault}
use Rattle.table_file.specs.declared.fault.TableFault.TheVariants as table
use Rattle.table_file.specs.Opened.{IsReadIndex, RowIndex}
use Rattle.table_file.specs.Search.{row_at}
use Rattle.table_model.proofs.Pieces.{piece_fills, ranges_of_index, row_pages_are, rows_of_index}
use Rattle.table_model.proofs.Shown.{shown_is, shown_parts}
use Rattle.table_model.proofs.Sound.{blocks_have_none, index_has_none, index_read}
use Rattle.table_model.specs.Damage.{AreSoundBlocks, index_damage}
use Rattle.table_model.specs.Images.{IsTableOf}
use Rattle.table_model.specs.Pieces.{IsPiece, blocks_in, end_to_end, index_of_pieces, row_of_piece}
use Rattle.table_model.specs.Tables.{Table}

-- ---- a table that is there

blocks_read : (page : ℕ) (pieces : List Bytes) (image : Image) → AllByRecursion IsPiece pieces → Shows (byte_of_page page) (end_to_end pieces) image
    → blocks_at page (map row_of_piece pieces) image ≡ blocks_in pieces
blocks_read page [] image each shown = refl
blocks_read page (piece ∷ later) image each shown =
    let row = row_of_piece piece in
    let parts = shown_parts (byte_of_page page) piece (end_to_end later) image shown in
    let long : length piece ≡ 4096 * row.pages = piece_fills piece each.0.whole ∙ ap (λ (n : ℕ). 4096 * n) (sym (row_pages_are piece)) in
    let next : byte_of_page page + length piece ≡ byte_of_page (page + row.pages) = omega (arith, long) in
    ap₂ (λ (b : List Entry) (bs : List (List Entry)). b ∷ bs) (ap block_in (shown_is (byte_of_page page) (4096 * row.pages) piece image long parts.0))
    (blocks_read (page + row.pages) later image each.1 (subst (λ (at : ℕ). Shows at (end_to_end later) image) next parts.1))

-- the index that was read is the one of the table's blocks, which have no damage
pub record IsIndexThere (x : RowIndex) (t : Table) (image : Image) : Type 0 where
  pub sound : AreSoundBlocks x.row.first_page x.index.rows image
  pub entries : joined (blocks_at x.row.first_page x.index.rows image) ≡ t.entries
  pub ranges : x.index.ranges ≡ t.ranges

pub index_there : (spelling : Spelling) (row : Row) (t : Table) (image : Image) (x : RowIndex) → x.row ≡ row → IsReadIndex row image x → IsTableOf spelling row t image → IsIndexThere x t image
index_there spelling row t image x same read is =
    let at = is.1 in
    let index : x.index ≡ index_of_pieces at.pieces at.ranges = read.index_is ∙ index_read spelling row is.0 image at in
    let rows : x.index.rows ≡ map row_of_piece at.pieces = ap (λ (i : Index). i.rows) index ∙ rows_of_index at.pieces at.ranges in
    record {
      sound = subst (λ (r : Row). AreSoundBlocks r.first_page x.index.rows image) (sym same)
          (subst (λ (i : Index). AreSoundBlocks row.first_page i.rows image) (sym read.index_is) (blocks_have_none spelling row is.0 image at));
      entries =
          (λ i. joined (blocks_at (same i).first_page (rows i) image))
          ∙ ap (λ (bs : List (List Entry)). joined bs) (blocks_read row.first_page at.pieces image at.each at.blocks_shown ∙ at.read)
          ∙ sym (ap (λ (u : Table). u.entries) is.2);
      ranges = ap (λ (i : Index). i.ranges) index ∙ ranges_of_index at.pieces at.ranges ∙ sym (ap (λ (u : Table). u.ranges) is.2);
    }

-- its number is added
pub table_counted : (x : RowIndex) (t : Table) (image there : Image) → there ≡ image → IsIndexThere x t image → (tables : List Table) (i values more : ℕ) → take (suc i) tables ≡ take i tables ++ t ∷ []
    → values ≡ sum_by table_values (take i tables)
    → (AreSoundBlocks x.row.first_page x.index.rows there → more ≡ values_in (joined (blocks_at x.row.first_page x.index.rows there)))
    → values + more ≡ sum_by table_values (take (i + 1) tables)
table_counted x t image there held is tables i values more taken before count =
    let own = count (subst (λ (h : Image). AreSoundBlocks x.row.first_page x.index.rows h) (sym held) is.sound) in
    let same : more ≡ values_in t.entries = own ∙ ap (λ (h : Image). values_in (joined (blocks_at x.row.first_page x.index.rows h))) held ∙ ap values_in is.entries in
    let place : suc i ≡ i + 1 = omega arith in
    let sum = sum_by-append table_values (take i tables) (t ∷ []) in
    let all = ap (λ (n : ℕ). sum_by table_values (take n tables)) (sym place) ∙ ap (sum_by table_values) taken in
    let last : sum_by table_values (t ∷ []) ≡ values_in t.entries + 0 = sum_by-cons table_values t [] in
    omega (arith, before, same, sum, all, last)

-- the index of a table that is there has no damage
pub index_undamaged : (spelling : Spelling) (row : Row) (t : Table) (image : Image) (fault : TableFault) → IsTableOf spelling row t image → IsIndexAnswer row image fault → IsNoDamage fault
index_undamaged spelling row t image table.Memory is answer = tt
index_undamaged spelling row t image (table.Device cause) is answer = tt
index_undamaged spelling row t image (table.Damaged d) is answer = not_some d (index_damage row image) (index_has_none spelling row is.0 image is.1) answer

-- ---- block after block

-- after n blocks: so many values are counted, and the others are those of the blocks that are left
pub record AreCounted (x : RowIndex) (image : Image) (n values : ℕ) : Type 0 where
  pub sound : AreSoundBlocks (page_of x n) (drop n x.index.rows) image
  pub sum : values + values_in (joined (blocks_at (page_of x n) (drop n x.index.rows) image)) ≡ values_in (joined (blocks_at x.row.first_page x.index.rows image))

pub none_counted : (x : RowIndex) (image : Image) → AreSoundBlocks x.row.first_page x.index.rows image → AreCounted x image 0 0
none_counted x image sound =
    let here : x.row.first_page ≡ page_of x 0 = omega arith in
    record {
      sound = subst (λ (page : ℕ). AreSoundBlocks page x.index.rows image) here sound;
      sum = omega (arith, ap (λ (page : ℕ). values_in (joined (blocks_at page x.index.rows image))) here);
    }

module _ (x : RowIndex) (image : Image) (n values : ℕ) (are : AreCounted x image n values) where
  module _ (lt : n < length x.index.rows) where
    abbrev row : IndexRow
    row = row_at x.index.rows n

    abbrev later : List IndexRow
    later = drop (n + 1) x.index.rows

    here : drop n x.index.rows ≡ row ∷ later
    here = drop_more x.index.rows n (record { pages = 0; sum = 0; last = [] }) lt

    parts : AreSoundBlocks (page_of x n) (row ∷ later) image
    parts = subst (λ (rows : List IndexRow). AreSoundBlocks (page_of x n) rows image) here are.sound

    -- the next block is not damaged
    pub next_sound : damage_at x n image ≡ None
    next_sound = parts.0

    pub counted_next : (more : ℕ) → more ≡ values_in (block_at (page_of x n) row image) → AreCounted x image (n + 1) (values + more)
    counted_next more is =
        let step = next_page x n lt in
        let both = values_of_both (block_at (page_of x n) row image) (joined (blocks_at (page_of x n + row.pages) later image)) in
        let front = ap (λ (rows : List IndexRow). values_in (joined (blocks_at (page_of x n) rows image))) here in
        let rest = ap (λ (page : ℕ). values_in (joined (blocks_at page later image))) step in
        record {
          sound = subst (λ (page : ℕ). AreSoundBlocks page later image) step parts.1;
          sum = omega (arith, is, are.sum, both, front, rest);
        }

  pub all_counted : length x.index.rows ≤ n → values ≡ values_in (joined (blocks_at x.row.first_page x.index.rows image))
  all_counted all =
      let rest : values_in (joined (blocks_at (page_of x n) (drop n x.index.rows) image)) ≡ 0 =
      ap (λ (rows : List IndexRow). values_in (joined (blocks_at (page_of x n) rows image))) (drop_all n x.index.rows all) in
      omega (arith, rest, are.sum)

-- ---- why there is no number

pub undamaged_by : (why : CheckError) (error : SummaryError) → IsFree why → IsSummaryErrorBy why error → IsUndamaged error
undamaged_by check.Memory error free is = subst IsUndamaged (sym is) tt
undamaged_by (check.Device cause) error free is = subst IsUndamaged (sym is) tt
undamaged_by check.NotAStore error free is = absurd free

pub summary_cause_by : (old new : World) (why : CheckError) (error : SummaryError) → HasCause old new why → IsSummaryErrorBy why error → HasSummaryCause old new error
summary_cause_by old new check.Memory error cause is = subst (HasSummaryCause old new) (sym is) tt
summary_cause_by old new (check.Device f) error cause is = subst (HasSummaryCause old new) (sym is) cause
summary_cause_by old new check.NotAStore error cause is = subst (HasSummaryCause old new) (sym is) tt

pub later_summary_cause : (a b c : World) (error : SummaryError) → a.seen.read_faults ≤ b.seen.read_faults → HasSummaryCause b c error → HasSummaryCause a c error
later_summary_cause a b c summary.Memory le cause = tt
later_summary_cause a b c (summary.Device f) le cause = omega (arith, le, cause)
later_summary_cause a b c summary.NotAStore le cause = tt
later_summary_cause a b c (summary.Damaged f) le cause = tt

pub damage_has_cause : (old new : World) (error : SummaryError) → IsDamage error → HasSummaryCause old new error
damage_has_cause old new summary.Memory is = tt
damage_has_cause old new (summary.Device f) is = absurd is
damage_has_cause old new summary.NotAStore is = tt
damage_has_cause old new (summary.Damaged f) is = tt

-- ---- what is handed on

module _ {T : Type 0} (P : T → Type 0) where
  pub given_by : (r : Result T SummaryError) (why : CheckError) → IsErrAnd r (λ e. IsSummaryErrorBy why e) → IsFree why → MatchResult r P IsUndamaged
  given_by (Ok x) why is free = absurd is
  given_by (Err e) why is free = undamaged_by why e free is

  pub same_given : (r : Result T SummaryError) (e : SummaryError) → IsErrAnd r (λ y. y ≡ e) → IsUndamaged e → MatchResult r P IsUndamaged
  same_given (Ok x) e is none = absurd is
  same_given (Err y) e is none = subst IsUndamaged (sym is) none

pub cause_given_by : {T : Type 0} (r : Result T SummaryError) (old new : World) (why : CheckError) → IsErrAnd r (λ e. IsSummaryErrorBy why e) → HasCause old new why → IfErr r (HasSummaryCause old new)
cause_given_by (Ok x) old new why is cause = tt
cause_given_by (Err e) old new why is cause = summary_cause_by old new why e cause is

pub same_cause_given : {T : Type 0} (r : Result T SummaryError) (old new : World) (e : SummaryError) → IsErrAnd r (λ y. y ≡ e) → HasSummaryCause old new e → IfErr r (HasSummaryCause old new)
same_cause_given (Ok x) old new e is cause = tt
same_cause_given (Err y) old new e is cause = subst (HasSummaryCause old new) (sym is) cause

pub read_cause_given : {T : Type 0} (r : Result T SummaryError) (a b c : World) (at : ℕ) (fault : TableFault) → a.seen.read_faults ≤ b.seen.read_faults → IsErrAnd r (λ e. IsSummaryErrorOf fault e) → HasReadCause at b c fault
    → IfErr r (HasSummaryCause a c)
read_cause_given (Ok x) a b c at fault le is cause = tt
read_cause_given (Err e) a b c at table.Memory le is cause = subst (HasSummaryCause a c) (sym is) tt
read_cause_given (Err e) a b c at (table.Device f) le is cause = subst (HasSummaryCause a c) (sym is) (omega (arith, le, cause.1))
read_cause_given (Err e) a b c at (table.Damaged d) le is cause = subst (HasSummaryCause a c) (sym is.1) tt

-- a number, or none, of as many
pub pairs_of_sum : (r : Result (Option ℕ) SummaryError) (none : Type 0) (sum many : ℕ) → sum ≡ many → MatchResult r (λ found. MatchOption found none (λ n. n ≡ sum)) IsUndamaged
    → MatchResult r (λ found. IfSome found (λ n. n ≡ many)) IsUndamaged
pairs_of_sum (Ok None) none sum many same is = tt
pairs_of_sum (Ok (Some n)) none sum many same is = is ∙ same
pairs_of_sum (Err e) none sum many same is = is

pub none_of_empty : {A : Type 0} (xs : List A) → (length xs == 0) ≡ true → xs ≡ []
none_of_empty [] is = refl
none_of_empty (x ∷ xs) is = absurd (omega (arith, eqb-true (length (x ∷ xs)) 0 is))
