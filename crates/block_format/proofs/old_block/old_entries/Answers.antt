use Rattle.std.proofs.Common.{rules, ◌≡◌, ◌+◌, ◌-◌, ℕ, [], length, take, drop, sym, ap, ap₂, ◌∙◌, arith, length-drop}
use Rattle.std.specs.Prelude.{Some, None}
use Rattle.std.specs.Option.{option_map}
use Rattle.std.proofs.lemmas.List.{take_rest, drop-drop}
use Rattle.map_model.specs.SortedMap.{Bytes}
use Rattle.block_model.specs.OldReading.{old_entries_fault, old_entry_fault}
use Rattle.block_model.specs.Order.{is_any}
use Rattle.entry_model.specs.Reading.{key_in, width_in}
use Rattle.key_base.specs.ByteOrder.{is_before}
use Rattle.block_format.specs.Reading.{passes_after, seen, sum_where}
use Rattle.block_format.proofs.Sums.{none_summed, taken_further}
use Rattle.block_format.proofs.Walks.{next_broken, next_kept, none_is_left, some_are_left}
use Rattle.block_format.proofs.old_block.old_entries.Goals as goal

pub loop-i-init : goal.loop-i-init
loop-i-init c =
    let bytes = take (c.args.used - 8) (drop 8 c.args.whole.now) in
    let all : c.args.count ≡ c.args.count - 0 = omega arith in
    record {
      within = omega arith;
      same = ap (λ (k : ℕ). old_entries_fault k 8 is_any bytes) all;
      sum = c.feed.ensures [] (c.new-summer.ensures ∙ none_summed c.args.summed);
    }

pub returns-in-Err-clause-broken : goal.returns-in-Err-clause-broken
returns-in-Err-clause-broken c =
    let bytes = take (c.args.used - 8) (drop 8 c.args.whole.now) in
    let at = c.loop-i.at in
    let n = c.args.count - c.loop-i.i in
    let test = passes_after (option_map (λ k. k.now) c.loop-i.before) in
    let found = seen c.in-Err.fault in
    let here : old_entry_fault (8 + at) test (drop at bytes) ≡ Some found = ap (old_entry_fault (8 + at) test) (sym (take_rest bytes at)) ∙ c.in-Err.ensures.broken in
    let broken : old_entries_fault c.args.count 8 is_any bytes ≡ Some found = c.loop-i.invariant.same ∙ next_broken n (8 + at) test (drop at bytes) (omega (arith, c.loop-i-test.true)) found here in
    search rules

pub loop-i-preserved : goal.loop-i-preserved
loop-i-preserved c =
    let bytes = take (c.args.used - 8) (drop 8 c.args.whole.now) in
    let at = c.loop-i.at in
    let n = c.args.count - c.loop-i.i in
    let test = passes_after (option_map (λ k. k.now) c.loop-i.before) in
    let rest = take_rest bytes at in
    let here = drop at bytes in
    let w = c.in-Ok.row.width in
    let none : old_entry_fault (8 + at) test here ≡ None = ap (old_entry_fault (8 + at) test) (sym rest) ∙ c.in-Ok.ensures.whole in
    let width : w ≡ width_in here = c.in-Ok.ensures.width ∙ ap width_in rest in
    let key : c.in-Ok.row.key.now ≡ key_in here = c.in-Ok.ensures.key ∙ ap key_in rest in
    let fewer : n - 1 ≡ c.args.count - (c.loop-i.i + 1) = omega arith in
    let place : 8 + at + w ≡ 8 + (at + w) = omega arith in
    record {
      within = omega (arith, c.in-Ok.ensures.within, ap length rest, length-drop at bytes, c.loop-i.invariant.within);
      same = c.loop-i.invariant.same
          ∙ next_kept n (8 + at) test here (omega (arith, c.loop-i-test.true)) none
          ∙ ap (λ (k : ℕ). old_entries_fault (n - 1) (8 + at + k) (is_before (key_in here)) (drop k here)) (sym width)
          ∙ ap (λ (k : Bytes). old_entries_fault (n - 1) (8 + at + w) (is_before k) (drop w here)) (sym key)
          ∙ ap₂ (λ (m p : ℕ). old_entries_fault m p (is_before c.in-Ok.row.key.now) (drop w here)) fewer place
          ∙ ap (old_entries_fault (c.args.count - (c.loop-i.i + 1)) (8 + (at + w)) (is_before c.in-Ok.row.key.now)) (drop-drop w at bytes);
      sum = c.feed-in-loop-i.ensures (take (8 + at) c.args.whole.now) c.loop-i.invariant.sum ∙ ap (sum_where c.args.summed) (taken_further c.args.whole.now (8 + at) (8 + at + w) (omega arith))
          ∙ ap (λ (k : ℕ). sum_where c.args.summed (take k c.args.whole.now)) place;
    }

pub returns-then-at-bytes-clause-broken : goal.returns-then-at-bytes-clause-broken
returns-then-at-bytes-clause-broken c =
    let bytes = take (c.args.used - 8) (drop 8 c.args.whole.now) in
    let at = c.loop-i.at in
    let test = passes_after (option_map (λ k. k.now) c.loop-i.before) in
    let zero : c.args.count - c.loop-i.i ≡ 0 = omega (arith, c.loop-i-test.false) in
    c.loop-i.invariant.same
    ∙ ap (λ (k : ℕ). old_entries_fault k (8 + at) test (drop at bytes)) zero
    ∙ some_are_left (8 + at) test (drop at bytes) (omega (arith, length-drop at bytes, c.if-at-bytes.true))

pub returns-clause-whole : goal.returns-clause-whole
returns-clause-whole c =
    let bytes = take (c.args.used - 8) (drop 8 c.args.whole.now) in
    let at = c.loop-i.at in
    let test = passes_after (option_map (λ k. k.now) c.loop-i.before) in
    let zero : c.args.count - c.loop-i.i ≡ 0 = omega (arith, c.loop-i-test.false) in
    c.loop-i.invariant.same
    ∙ ap (λ (k : ℕ). old_entries_fault k (8 + at) test (drop at bytes)) zero
    ∙ none_is_left (8 + at) test (drop at bytes) (omega (arith, length-drop at bytes, c.if-at-bytes.false))
