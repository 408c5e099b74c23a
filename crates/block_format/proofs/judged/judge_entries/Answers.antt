use Rattle.std.proofs.Common.{◌≡◌, ◌≤◌, ◌<◌, ◌+◌, ◌-◌, ℕ, [], length, take, drop, sym, ap, ap₂, ◌∙◌, arith, length-take-le, length-drop}
use Rattle.map_model.specs.SortedMap.{Bytes}
use Rattle.block_model.specs.BlockReading.{entries_fault_by}
use Rattle.block_model.proofs.EntriesJudged.{none_is_left, some_are_left}
use Rattle.block_format.specs.Judging.{key_after, left_from}
use Rattle.block_format.specs.Reading.{sum_where}
use Rattle.block_format.specs.Walking.{format_of}
use Rattle.block_format.proofs.JudgedBlocks.{key_built}
use Rattle.block_format.proofs.Sums.{none_summed, taken_further}
use Rattle.block_format.proofs.judged.judge_entries.Goals as goal

pub loop-i-init : goal.loop-i-init
loop-i-init c =
    let head = c.args.head in
    let all : head.count ≡ head.count - 0 = omega arith in
    record {
      from = omega arith;
      within = c.requires.within.0;
      held = omega arith;
      same = ap (λ (n : ℕ). entries_fault_by (format_of head.format) c.args.whole.now 0 n head.from [] (left_from head.used head.from c.args.whole.now)) all;
      sum = c.feed.ensures [] (c.new-summer.ensures ∙ none_summed c.args.summed);
    }

pub loop-i-preserved : goal.loop-i-preserved
loop-i-preserved c =
    let head = c.args.head in
    let whole = c.args.whole.now in
    let f = format_of head.format in
    let e = c.in-Ok.entry in
    let at = c.loop-i.at in
    let w = e.bytes + e.rest + e.value in
    let rest = left_from head.used at whole in
    let number : c.from.result ≡ c.loop-i.i = c.from.ensures in
    let n = head.count - c.loop-i.i in
    let some : 0 < n = omega (arith, c.loop-i-test.true) in
    let fewer : n - 1 ≡ head.count - (c.loop-i.i + 1) = omega arith in
    let held : c.loop-i.key_length ≤ length c.loop-i.key = omega (arith, c.loop-i.invariant.held) in
    record {
      from = omega (arith, c.loop-i.invariant.from);
      within = c.in-Ok.ensures.inside;
      held = c.in-Ok.ensures.short;
      same = c.loop-i.invariant.same
          ∙ ap (λ (k : ℕ). entries_fault_by f whole k n at (take c.loop-i.key_length c.loop-i.key) rest) (sym number)
          ∙ c.in-Ok.ensures.kept n some
          ∙ ap (λ (k : ℕ). entries_fault_by f whole (k + 1) (n - 1) (at + w) (key_after e.shared e.rest e.bytes (take c.loop-i.key_length c.loop-i.key) rest) (left_from head.used (at + w) whole)) number
          ∙ ap₂ (λ (m : ℕ) (k : Bytes). entries_fault_by f whole (c.loop-i.i + 1) m (at + w) k (left_from head.used (at + w) whole)) fewer
          (key_built e.shared e.rest e.bytes c.loop-i.key_length c.loop-i.key c.build_key.new.buffer (left_from head.used at whole) c.in-Ok.ensures.few held c.build_key.ensures.built);
      sum = c.feed-in-loop-i.ensures (take at whole) c.loop-i.invariant.sum ∙ ap (sum_where c.args.summed) (taken_further whole at (at + w) (omega arith));
    }

pub returns-then-at-head-clause-broken : goal.returns-then-at-head-clause-broken
returns-then-at-head-clause-broken c =
    let head = c.args.head in
    let whole = c.args.whole.now in
    let f = format_of head.format in
    let at = c.loop-i.at in
    let rest = left_from head.used at whole in
    let before = take c.loop-i.key_length c.loop-i.key in
    let zero : head.count - c.loop-i.i ≡ 0 = omega (arith, c.loop-i-test.false) in
    let size : length rest ≡ head.used - at = length-take-le (head.used - at) (drop at whole) (omega (arith, c.requires.within.1, c.loop-i.invariant.within, length-drop at whole)) in
    c.loop-i.invariant.same
    ∙ ap (λ (n : ℕ). entries_fault_by f whole c.loop-i.i n at before rest) zero
    ∙ some_are_left f whole c.loop-i.i at before rest (omega (arith, size, c.if-at-head.true))

pub returns-clause-kept : goal.returns-clause-kept
returns-clause-kept c =
    let head = c.args.head in
    let whole = c.args.whole.now in
    let f = format_of head.format in
    let at = c.loop-i.at in
    let rest = left_from head.used at whole in
    let before = take c.loop-i.key_length c.loop-i.key in
    let zero : head.count - c.loop-i.i ≡ 0 = omega (arith, c.loop-i-test.false) in
    let size : length rest ≡ head.used - at = length-take-le (head.used - at) (drop at whole) (omega (arith, c.requires.within.1, c.loop-i.invariant.within, length-drop at whole)) in
    c.loop-i.invariant.same
    ∙ ap (λ (n : ℕ). entries_fault_by f whole c.loop-i.i n at before rest) zero
    ∙ none_is_left f whole c.loop-i.i at before rest (omega (arith, size, c.if-at-head.false))
