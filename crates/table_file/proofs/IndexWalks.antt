-- How the rules of an index go on from one row to the next, and when none is broken.
use Rattle.std.proofs.Common.{◌≡◌, ◌<◌, ◌+◌, ◌-◌, ℕ, suc, Bool, true, false, List, [], ◌∷◌, ◌++◌, length, drop, refl, sym, ap, ap₂, ◌∙◌, subst, arith, append_assoc, get_or}
use Rattle.std.specs.Option.{option_or}
use Rattle.std.specs.Prelude.{Option, Some, None, ◌==◌, not, flat_map}
use Rattle.std.proofs.lemmas.List.{append-nil, map-append}
use Rattle.std.proofs.Math.Seq.{drop-cons}
use Rattle.std.proofs.lemmas.List.Sums.{sum_by-cons}
use Rattle.std.proofs.lemmas.Bool.{eq-eqb, ne_eqb}
use Rattle.byte_fields.specs.Faults.{Fault, fault, refuse}
use Rattle.byte_fields.specs.Spelling.{IsBytes}
use Rattle.map_model.specs.SortedMap.{Bytes}
use Rattle.range_model.specs.Ranges.{DeletedRange}
use Rattle.block_model.specs.Index.{Index, IndexRow, IsIndex, index_row_bytes, row_pages}
use Rattle.block_model.specs.IndexReading.{all_ranges_fault, all_ranges_in, has_ranges_in, head_width_in, index_fault, index_head_fault, index_in, last_in, least_in, pages_fault, row_fault, row_in, row_width_in, rows_count_in, rows_end_in, rows_fault, rows_in, rows_part, rows_width_in}
use Rattle.key_base.specs.ByteOrder.{is_before}
use Rattle.block_model.specs.Order.{is_from}
use Rattle.block_model.proofs.IndexesRead.{index_written}
use Rattle.block_model.proofs.Refusals.{none_of, not_true}
use Rattle.table_file.specs.BlockRows.{StandFrom, row_seen, rows_seen}
use Rattle.table_file.specs.Faults.{IsIndexFault, IsShape}
use Rattle.byte_fields.specs.declared.part_fault.PartFault.{PartFault}
use Rattle.byte_fields.specs.declared.part_fault.PartFault.TheVariants as index
use Rattle.table_file.specs.declared.block_row.BlockRow.{BlockRow}

module _ (n place : ℕ) (test : Bytes → Bool) (rest : Bytes) (some : 0 < n) where
  one_more : n ≡ suc (n - 1)
  one_more = omega (arith, some)

  pub next_kept : row_fault place test rest ≡ None
      → rows_fault n place test rest ≡ rows_fault (n - 1) (place + row_width_in rest) (is_before (last_in rest)) (drop (row_width_in rest) rest)
  unfolding rows_fault
  next_kept none =
      let later = rows_fault (n - 1) (place + row_width_in rest) (is_before (last_in rest)) (drop (row_width_in rest) rest) in
      ap (λ (k : ℕ). rows_fault k place test rest) one_more ∙ ap (λ (f : Option Fault). option_or f later) none

  pub next_broken : (f : Fault) → row_fault place test rest ≡ Some f → rows_fault n place test rest ≡ Some f
  unfolding rows_fault
  next_broken f broken =
      let later = rows_fault (n - 1) (place + row_width_in rest) (is_before (last_in rest)) (drop (row_width_in rest) rest) in
      ap (λ (k : ℕ). rows_fault k place test rest) one_more ∙ ap (λ (g : Option Fault). option_or g later) broken

pub none_is_left : (n place : ℕ) (test : Bytes → Bool) (rest : Bytes) → n ≡ 0 → rows_fault n place test rest ≡ None
unfolding rows_fault
none_is_left n place test rest zero = ap (λ (k : ℕ). rows_fault k place test rest) zero

-- ---- how long the rows are

pub next_width : (n : ℕ) (rest : Bytes) → 0 < n → rows_width_in n rest ≡ row_width_in rest + rows_width_in (n - 1) (drop (row_width_in rest) rest)
unfolding rows_width_in
next_width n rest some =
    let one : n ≡ suc (n - 1) = omega (arith, some) in
    ap (λ (k : ℕ). rows_width_in k rest) one

pub no_width : (n : ℕ) (rest : Bytes) → n ≡ 0 → rows_width_in n rest ≡ 0
unfolding rows_width_in
no_width n rest zero = ap (λ (k : ℕ). rows_width_in k rest) zero

-- ---- what is read

pub next_read : (n : ℕ) (rest : Bytes) (row : BlockRow) (rows : List BlockRow) → 0 < n → row_seen row ≡ row_in rest
    → rows_seen rows ++ rows_in n rest ≡ rows_seen (rows ++ row ∷ []) ++ rows_in (n - 1) (drop (row_width_in rest) rest)
unfolding rows_in
next_read n rest row rows some is =
    let one : n ≡ suc (n - 1) = omega (arith, some) in
    let later = rows_in (n - 1) (drop (row_width_in rest) rest) in
    ap (λ (k : ℕ). rows_seen rows ++ rows_in k rest) one
    ∙ ap (λ (r : IndexRow). rows_seen rows ++ r ∷ later) (sym is)
    ∙ sym (append_assoc (rows_seen rows) (row_seen row ∷ []) later)
    ∙ ap (λ (l : List IndexRow). l ++ later) (sym (map-append row_seen rows (row ∷ [])))

pub all_read : (n : ℕ) (rest : Bytes) (rows : List IndexRow) → n ≡ 0 → rows ++ rows_in n rest ≡ rows
unfolding rows_in
all_read n rest rows zero = ap (λ (k : ℕ). rows ++ rows_in k rest) zero ∙ append-nil rows

pages_of_cons : (r : BlockRow) (rows : List BlockRow) → row_pages (rows_seen (r ∷ rows)) ≡ r.pages + row_pages (rows_seen rows)
pages_of_cons r rows = sum_by-cons (λ (x : IndexRow). x.pages) (row_seen r) (rows_seen rows)

pub pages_more : (rows : List BlockRow) (row : BlockRow) → row_pages (rows_seen (rows ++ row ∷ [])) ≡ row_pages (rows_seen rows) + row.pages
pages_more [] row = refl
pages_more (r ∷ rows) row = omega (arith, pages_of_cons r (rows ++ row ∷ []), pages_of_cons r rows, pages_more rows row)

-- a row more is after the others
pub stand_more : (page : ℕ) (rows : List BlockRow) (row : BlockRow) → StandFrom page rows → row.first ≡ page + row_pages (rows_seen rows) → StandFrom page (rows ++ row ∷ [])
stand_more page [] row stand is = (omega (arith, is), tt)
stand_more page (r ∷ rows) row stand is = (stand.0, stand_more (page + r.pages) rows row stand.1 (omega (arith, is, pages_of_cons r rows)))

-- a shape goes on as what is broken first does
pub shape_first : (first whole : Option Fault) (e : PartFault) → ((f : Fault) → first ≡ Some f → whole ≡ Some f) → IsShape first e → IsIndexFault whole e
shape_first first whole index.Memory on is = absurd is
shape_first first whole (index.Shape place rule) on is = on (fault place rule) is

-- ---- the whole index

-- none before, and then this one
after : (a b : Option Fault) (f : Fault) → a ≡ None → b ≡ Some f → option_or a b ≡ Some f
after None b f none is = is
after (Some g) b f none is = absurd cc

at_once : (a b : Option Fault) (f : Fault) → a ≡ Some f → option_or a b ≡ Some f
at_once None b f is = absurd cc
at_once (Some g) b f is = is

-- a fault goes on as what is broken first does
pub fault_first : (first whole : Option Fault) (e : PartFault) → ((f : Fault) → first ≡ Some f → whole ≡ Some f) → IsIndexFault first e → IsIndexFault whole e
fault_first first whole index.Memory on is = tt
fault_first first whole (index.Shape place rule) on is = on (fault place rule) is

-- head and rows are read, and keep their rules
pub record HeadAndRows (bytes : Bytes) (count width long : ℕ) (least : Bytes) (has : Bool) : Type 0 where
  pub counted : count ≡ rows_count_in bytes
  pub wide : width ≡ head_width_in bytes
  pub least_is : least ≡ least_in bytes
  pub has_is : has ≡ has_ranges_in bytes
  pub long_is : long ≡ rows_width_in count (drop width bytes)
  pub head : index_head_fault bytes ≡ None
  pub kept : rows_fault count width (is_from least) (drop width bytes) ≡ None

module _ (pages : ℕ) (bytes : Bytes) (count width long : ℕ) (least : Bytes) (has : Bool) (is : HeadAndRows bytes count width long least has) where
  end_is : width + long ≡ rows_end_in bytes
  unfolding rows_end_in
  end_is = ap₂ (λ (w l : ℕ). w + l) is.wide (is.long_is ∙ ap₂ (λ (n w : ℕ). rows_width_in n (drop w bytes)) is.counted is.wide)

  rows_kept : rows_fault (rows_count_in bytes) (head_width_in bytes) (is_from (least_in bytes)) (rows_part bytes) ≡ None
  rows_kept =
      ap (λ (l : Bytes). rows_fault (rows_count_in bytes) (head_width_in bytes) (is_from l) (rows_part bytes)) (sym is.least_is)
      ∙ ap₂ (λ (n w : ℕ). rows_fault n w (is_from least) (drop w bytes)) (sym is.counted) (sym is.wide)
      ∙ is.kept

  ranges_are : all_ranges_fault (has_ranges_in bytes) (rows_end_in bytes) (drop (rows_end_in bytes) bytes) ≡ all_ranges_fault has (width + long) (drop (width + long) bytes)
  ranges_are = ap₂ (λ (h : Bool) (p : ℕ). all_ranges_fault h p (drop p bytes)) (sym is.has_is) (sym end_is)

  pub ranges_broken : (f : Fault) → all_ranges_fault has (width + long) (drop (width + long) bytes) ≡ Some f → index_fault pages bytes ≡ Some f
  unfolding index_fault
  ranges_broken f broken = after _ _ f is.head (after _ _ f rows_kept (at_once _ _ f (ranges_are ∙ broken)))

  module _ (whole : all_ranges_fault has (width + long) (drop (width + long) bytes) ≡ None) where
    abbrev pages_in_rows : ℕ
    pages_in_rows = row_pages (rows_in count (drop width bytes))

    pages_are : row_pages (index_in bytes).rows ≡ pages_in_rows
    unfolding index_in
    pages_are = ap₂ (λ (n w : ℕ). row_pages (rows_in n (drop w bytes))) (sym is.counted) (sym is.wide)

    pub pages_broken : (pages_in_rows ≡ pages → ⊥) → index_fault pages bytes ≡ Some (fault 4 8)
    unfolding index_fault pages_fault
    pages_broken other =
        let f : Fault = fault 4 8 in
        let wrong : (row_pages (index_in bytes).rows == pages) ≡ false = ne_eqb _ _ (λ same. other (sym pages_are ∙ same)) in
        after _ _ f is.head (after _ _ f rows_kept (after _ _ f (ranges_are ∙ whole) (ap (λ (t : Bool). refuse (not t) 4 8 None) wrong)))

    pub no_fault : pages_in_rows ≡ pages → index_fault pages bytes ≡ None
    unfolding index_fault pages_fault
    no_fault all =
        none_of _ _ is.head (none_of _ _ rows_kept (none_of _ _ (ranges_are ∙ whole) (ap (λ (t : Bool). refuse t 4 8 None) (not_true _ (eq-eqb _ _ (pages_are ∙ all))))))

    module _ (rows : List IndexRow) (ranges : List DeletedRange) (read : rows ≡ rows_in count (drop width bytes)) (found : ranges ≡ all_ranges_in has (drop (width + long) bytes)) where
      pub index_is : record { least = least; rows = rows; ranges = ranges } ≡ index_in bytes
      unfolding index_in
      index_is =
          let rows_are = read ∙ ap₂ (λ (n w : ℕ). rows_in n (drop w bytes)) is.counted is.wide in
          let found_are = found ∙ ap₂ (λ (h : Bool) (p : ℕ). all_ranges_in h (drop p bytes)) is.has_is end_is in
          λ i. record { least = is.least_is i; rows = rows_are i; ranges = found_are i }

      pub sound : IsBytes bytes → row_pages rows ≡ pages → IsIndex (row_pages rows) (record { least = least; rows = rows; ranges = ranges })
      sound are all =
          subst (λ (n : ℕ). IsIndex n (record { least = least; rows = rows; ranges = ranges })) (sym all)
          (subst (IsIndex pages) (sym index_is) (index_written pages bytes are (no_fault (ap row_pages (sym read) ∙ all))).0)

-- ---- rows that are written

pub next_written : (rows : List BlockRow) (i : ℕ) (row : BlockRow) (out : Bytes) → i < length rows → row ≡ get_or rows i row
    → out ++ flat_map index_row_bytes (rows_seen (drop i rows)) ≡ (out ++ index_row_bytes (row_seen row)) ++ flat_map index_row_bytes (rows_seen (drop (i + 1) rows))
next_written rows i row out lt is =
    let one : suc i ≡ i + 1 = omega arith in
    ap (λ (l : List BlockRow). out ++ flat_map index_row_bytes (rows_seen l)) (drop-cons rows i row lt)
    ∙ ap (λ (r : BlockRow). out ++ (index_row_bytes (row_seen r) ++ flat_map index_row_bytes (rows_seen (drop (suc i) rows)))) (sym is)
    ∙ ap (λ (k : ℕ). out ++ (index_row_bytes (row_seen row) ++ flat_map index_row_bytes (rows_seen (drop k rows)))) one
    ∙ sym (append_assoc out (index_row_bytes (row_seen row)) (flat_map index_row_bytes (rows_seen (drop (i + 1) rows))))
