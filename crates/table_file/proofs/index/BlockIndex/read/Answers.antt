use Rattle.std.proofs.Common.{rules, ◌≡◌, ◌+◌, ◌∙◌, ℕ, Bool, List, drop, length, take, sym, ap, subst, arith}
use Rattle.std.specs.Prelude.{None, ◌-◌}
use Rattle.std.proofs.lemmas.List.{take_rest}
use Rattle.byte_fields.specs.Spelling.{IsBytes}
use Rattle.map_model.specs.SortedMap.{Bytes}
use Rattle.block_model.specs.IndexReading.{all_ranges_fault, all_ranges_in, has_ranges_in, head_width_in, index_fault, index_head_fault, least_in, rows_count_in, rows_fault, rows_in, rows_width_in}
use Rattle.block_model.specs.Order.{is_from}
use Rattle.block_model.specs.Index.{row_pages}
use Rattle.table_file.specs.BlockRows.{rows_seen}
use Rattle.table_file.specs.Faults.{IsIndexFault}
use Rattle.table_file.specs.Walks.{most_block_pages}
use Rattle.table_file.specs.declared.block_row.BlockRow.{BlockRow}
use Rattle.table_file.proofs.IndexWalks.{HeadAndRows, fault_first, index_is, no_fault, pages_broken, ranges_broken, sound}
use Rattle.table_file.proofs.index.BlockIndex.read.Goals as goal

-- as the code cuts the bytes
abbrev cut : Bytes → ℕ → Bytes
cut bytes from = take (length bytes - from) (drop from bytes)

read_both : (bytes : Bytes) (count width long : ℕ) (least : Bytes) (has : Bool)
    → count ≡ rows_count_in bytes → width ≡ head_width_in bytes → least ≡ least_in bytes → has ≡ has_ranges_in bytes → index_head_fault bytes ≡ None
    → long ≡ rows_width_in count (cut bytes width) → rows_fault count width (is_from least) (cut bytes width) ≡ None → HeadAndRows bytes count width long least has
read_both bytes count width long least has counted wide least_is has_is head long_is kept = record {
  counted = counted;
  wide = wide;
  least_is = least_is;
  has_is = has_is;
  long_is = long_is ∙ ap (rows_width_in count) (take_rest bytes width);
  head = head;
  kept = ap (rows_fault count width (is_from least)) (sym (take_rest bytes width)) ∙ kept;
}

pub returns-then-all-from-clause-place : goal.returns-then-all-from-clause-place
unfolding head_width_in
returns-then-all-from-clause-place c = omega (arith, c.in_ok-head.ensures.within, c.in_ok-head.ensures.width)

pub returns-in_err-ranges-clause-broken : goal.returns-in_err-ranges-clause-broken
returns-in_err-ranges-clause-broken c =
    let bytes = c.args.bytes.now in
    let head = c.in_ok-head.head in
    let h = c.in_ok-head.ensures in
    let end = head.width + c.in_ok-rows.width in
    let both = read_both bytes head.count head.width c.in_ok-rows.width head.least.now head.has_ranges h.count h.width h.least h.has h.whole c.in_ok-rows.ensures.width c.in_ok-rows.ensures.whole in
    let e = c.in_err-ranges.field-0.0 in
    let broken : IsIndexFault (index_fault c.args.pages bytes) e =
    fault_first (all_ranges_fault head.has_ranges end (drop end bytes)) _ e (ranges_broken c.args.pages bytes _ _ _ _ _ both)
    (subst (λ (l : Bytes). IsIndexFault (all_ranges_fault head.has_ranges end l) e) (take_rest bytes end) c.in_err-ranges.ensures.broken) in
    search rules

pub returns-then-all-from-clause-broken : goal.returns-then-all-from-clause-broken
returns-then-all-from-clause-broken c =
    let bytes = c.args.bytes.now in
    let head = c.in_ok-head.head in
    let h = c.in_ok-head.ensures in
    let end = head.width + c.in_ok-rows.width in
    let both = read_both bytes head.count head.width c.in_ok-rows.width head.least.now head.has_ranges h.count h.width h.least h.has h.whole c.in_ok-rows.ensures.width c.in_ok-rows.ensures.whole in
    let whole = ap (all_ranges_fault head.has_ranges end) (sym (take_rest bytes end)) ∙ c.in_ok-ranges.ensures.whole in
    let rows = c.in_ok-rows.ensures.rows ∙ ap (rows_in head.count) (take_rest bytes head.width) in
    pages_broken c.args.pages bytes _ _ _ _ _ both whole (λ same. c.if-all-from.true (c.in_ok-rows.ensures.pages ∙ ap row_pages rows ∙ same ∙ sym c.from.ensures))

pub returns-clause-whole : goal.returns-clause-whole
returns-clause-whole c =
    let bytes = c.args.bytes.now in
    let head = c.in_ok-head.head in
    let h = c.in_ok-head.ensures in
    let end = head.width + c.in_ok-rows.width in
    let both = read_both bytes head.count head.width c.in_ok-rows.width head.least.now head.has_ranges h.count h.width h.least h.has h.whole c.in_ok-rows.ensures.width c.in_ok-rows.ensures.whole in
    let whole = ap (all_ranges_fault head.has_ranges end) (sym (take_rest bytes end)) ∙ c.in_ok-ranges.ensures.whole in
    let rows = c.in_ok-rows.ensures.rows ∙ ap (rows_in head.count) (take_rest bytes head.width) in
    no_fault c.args.pages bytes _ _ _ _ _ both whole (sym (ap row_pages rows) ∙ sym c.in_ok-rows.ensures.pages ∙ c.if-all-from.false ∙ c.from.ensures)

pub returns-clause-index : goal.returns-clause-index
returns-clause-index c =
    let bytes = c.args.bytes.now in
    let head = c.in_ok-head.head in
    let h = c.in_ok-head.ensures in
    let end = head.width + c.in_ok-rows.width in
    let least = c.in_ok-least.ensures.items in
    let both = read_both bytes head.count head.width c.in_ok-rows.width c.in_ok-least.least.items head.has_ranges h.count h.width (least ∙ h.least) h.has h.whole c.in_ok-rows.ensures.width
    (ap (λ (k : Bytes). rows_fault head.count head.width (is_from k) (cut bytes head.width)) least ∙ c.in_ok-rows.ensures.whole) in
    let whole = ap (all_ranges_fault head.has_ranges end) (sym (take_rest bytes end)) ∙ c.in_ok-ranges.ensures.whole in
    let rows = c.in_ok-rows.ensures.rows ∙ ap (rows_in head.count) (take_rest bytes head.width) in
    index_is c.args.pages bytes _ _ _ _ _ both whole _ _ rows (c.in_ok-ranges.ensures.ranges ∙ ap (all_ranges_in head.has_ranges) (take_rest bytes end))

pub invariant_of-result : goal.invariant_of-result
invariant_of-result c =
    let bytes = c.args.bytes.now in
    let head = c.in_ok-head.head in
    let h = c.in_ok-head.ensures in
    let end = head.width + c.in_ok-rows.width in
    let least = c.in_ok-least.ensures.items in
    let both = read_both bytes head.count head.width c.in_ok-rows.width c.in_ok-least.least.items head.has_ranges h.count h.width (least ∙ h.least) h.has h.whole c.in_ok-rows.ensures.width
    (ap (λ (k : Bytes). rows_fault head.count head.width (is_from k) (cut bytes head.width)) least ∙ c.in_ok-rows.ensures.whole) in
    let whole = ap (all_ranges_fault head.has_ranges end) (sym (take_rest bytes end)) ∙ c.in_ok-ranges.ensures.whole in
    let rows = c.in_ok-rows.ensures.rows ∙ ap (rows_in head.count) (take_rest bytes head.width) in
    let is_bytes : IsBytes bytes = λ i. (c.type_inv.bytes i).fits in
    let all : row_pages (rows_seen c.in_ok-rows.rows.items) ≡ c.args.pages = sym c.in_ok-rows.ensures.pages ∙ c.if-all-from.false ∙ c.from.ensures in (
      sound c.args.pages bytes _ _ _ _ _ both whole _ _ rows (c.in_ok-ranges.ensures.ranges ∙ ap (all_ranges_in head.has_ranges) (take_rest bytes end)) is_bytes all,
      c.in_ok-rows.ensures.stand,
      c.most_pages-most.ensures ∙ ap (λ (rs : List BlockRow). most_block_pages (rows_seen rs)) c.as_slice.ensures.value,
    )
