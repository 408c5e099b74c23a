use Rattle.std.proofs.Common.{rules, ◌≡◌, ◌+◌, ◌-◌, ℕ, List, [], ◌∷◌, ◌++◌, length, drop, sym, ap, ap₂, ◌∙◌, subst, arith, length-drop}
use Rattle.std.specs.Prelude.{None}
use Rattle.std.proofs.lemmas.List.{take_rest, drop-drop}
use Rattle.map_model.specs.SortedMap.{Bytes}
use Rattle.block_model.specs.Index.{row_pages}
use Rattle.block_model.specs.IndexReading.{last_in, pages_in, row_fault, row_in, row_width_in, rows_fault, rows_in, rows_width_in, sum_in}
use Rattle.key_base.specs.ByteOrder.{is_before}
use Rattle.block_model.specs.Order.{is_from}
use Rattle.table_file.specs.BeforeLast.{passes}
use Rattle.table_file.specs.BlockRows.{StandFrom, row_seen, rows_seen}
use Rattle.table_file.specs.Faults.{IsIndexFault, IsShape}
use Rattle.table_file.specs.declared.block_row.BlockRow.{BlockRow}
use Rattle.table_file.proofs.IndexWalks.{all_read, next_broken, next_kept, next_read, next_width, no_width, none_is_left, pages_more, shape_first, stand_more}
use Rattle.table_file.proofs.index.read_rows.Goals as goal

pub returns-in_err-row-clause-broken : goal.returns-in_err-row-clause-broken
returns-in_err-row-clause-broken c =
    let bytes = c.args.bytes.now in
    let at = c.loop-i.at in
    let n = c.args.count - c.loop-i.i in
    let place = c.args.place + at in
    let test = passes c.loop-i.before in
    let here = drop at bytes in
    let broken : IsShape (row_fault place test here) c.in_err-row.field-0.0 = subst (λ (l : Bytes). IsShape (row_fault place test l) c.in_err-row.field-0.0) (take_rest bytes at) c.in_err-row.ensures.broken in
    let first : IsIndexFault (rows_fault c.args.count c.args.place (is_from c.args.least.now) bytes) c.in_err-row.field-0.0 =
    shape_first (row_fault place test here) _ c.in_err-row.field-0.0 (λ f is. c.loop-i.invariant.same ∙ next_broken n place test here (omega (arith, c.loop-i-test.true)) f is) broken in
    search rules

pub loop-i-preserved : goal.loop-i-preserved
unfolding row_in
loop-i-preserved c =
    let bytes = c.args.bytes.now in
    let at = c.loop-i.at in
    let n = c.args.count - c.loop-i.i in
    let place = c.args.place + at in
    let test = passes c.loop-i.before in
    let rest = take_rest bytes at in
    let here = drop at bytes in
    let row = c.in_ok-row.row in
    let w = row.width in
    let some = c.loop-i-test.true in
    let none : row_fault place test here ≡ None = ap (row_fault place test) (sym rest) ∙ c.in_ok-row.ensures.whole in
    let width : w ≡ row_width_in here = c.in_ok-row.ensures.width ∙ ap row_width_in rest in
    let last : row.last.now ≡ last_in here = c.in_ok-row.ensures.last ∙ ap last_in rest in
    let pages : row.pages ≡ pages_in here = c.in_ok-row.ensures.pages ∙ ap pages_in rest in
    let sum : row.sum ≡ sum_in here = c.in_ok-row.ensures.sum ∙ ap sum_in rest in
    let copied : c.in_ok-last.last.items ≡ last_in here = c.in_ok-last.ensures.items ∙ last in
    let fewer : n - 1 ≡ c.args.count - (c.loop-i.i + 1) = omega arith in
    let behind : place + w ≡ c.args.place + (at + w) = omega arith in
    let next : drop w here ≡ drop (at + w) bytes = drop-drop w at bytes in
    let kept : BlockRow = record { first = c.loop-i.first; pages = row.pages; sum = row.sum; last = c.in_ok-last.last } in
    let seen : row_seen kept ≡ row_in here = (λ i. record { pages = pages i; sum = sum i; last = copied i }) in
    let pushed : c.push.new.self.items ≡ c.loop-i.rows.items ++ kept ∷ [] = c.in_ok-push.ensures.items in
    record {
      within = omega (arith, c.in_ok-row.ensures.within, ap length rest, length-drop at bytes, c.loop-i.invariant.within);
      same = c.loop-i.invariant.same
          ∙ next_kept n place test here (omega (arith, some)) none
          ∙ ap (λ (k : ℕ). rows_fault (n - 1) (place + k) (is_before (last_in here)) (drop k here)) (sym width)
          ∙ ap (λ (k : Bytes). rows_fault (n - 1) (place + w) (is_before k) (drop w here)) (sym last)
          ∙ ap₂ (λ (m p : ℕ). rows_fault m p (is_before row.last.now) (drop w here)) fewer behind
          ∙ ap (rows_fault (c.args.count - (c.loop-i.i + 1)) (c.args.place + (at + w)) (is_before row.last.now)) next;
      read = c.loop-i.invariant.read
          ∙ next_read n here kept c.loop-i.rows.items (omega (arith, some)) seen
          ∙ ap (λ (k : ℕ). rows_seen (c.loop-i.rows.items ++ kept ∷ []) ++ rows_in (n - 1) (drop k here)) (sym width)
          ∙ ap₂ (λ (m : ℕ) (l : Bytes). rows_seen (c.loop-i.rows.items ++ kept ∷ []) ++ rows_in m l) fewer next
          ∙ ap (λ (rs : List BlockRow). rows_seen rs ++ rows_in (c.args.count - (c.loop-i.i + 1)) (drop (at + w) bytes)) (sym pushed);
      width = c.loop-i.invariant.width
          ∙ ap (λ (k : ℕ). at + k) (next_width n here (omega (arith, some)))
          ∙ ap (λ (k : ℕ). at + (k + rows_width_in (n - 1) (drop k here))) (sym width)
          ∙ ap₂ (λ (m : ℕ) (l : Bytes). at + (w + rows_width_in m l)) fewer next
          ∙ omega arith;
      pages = omega (arith, c.from-first.ensures, c.loop-i.invariant.pages, pages_more c.loop-i.rows.items kept, ap (λ (rs : List BlockRow). row_pages (rows_seen rs)) pushed);
      stand = subst (StandFrom 0) (sym pushed) (stand_more 0 c.loop-i.rows.items kept c.loop-i.invariant.stand (omega (arith, c.loop-i.invariant.pages)));
      few = omega (arith, c.from-first.ensures, c.loop-i.invariant.few, c.in_ok-row.ensures.few);
    }

pub returns-clause-whole : goal.returns-clause-whole
returns-clause-whole c =
    let at = c.loop-i.at in
    c.loop-i.invariant.same
    ∙ none_is_left (c.args.count - c.loop-i.i) (c.args.place + at) (passes c.loop-i.before) (drop at c.args.bytes.now) (omega (arith, c.loop-i-test.false))

pub returns-clause-width : goal.returns-clause-width
returns-clause-width c =
    omega (arith, c.loop-i.invariant.width, no_width (c.args.count - c.loop-i.i) (drop c.loop-i.at c.args.bytes.now) (omega (arith, c.loop-i-test.false)))

pub returns-clause-rows : goal.returns-clause-rows
returns-clause-rows c =
    sym (c.loop-i.invariant.read ∙ all_read (c.args.count - c.loop-i.i) (drop c.loop-i.at c.args.bytes.now) (rows_seen c.loop-i.rows.items) (omega (arith, c.loop-i-test.false)))
