use Rattle.std.proofs.Common.{rules, ◌≡◌, ◌+◌, ◌-◌, ℕ, List, [], ◌∷◌, ◌++◌, length, drop, sym, ap, ap₂, ◌∙◌, subst, arith, length-drop}
use Rattle.std.specs.Prelude.{None}
use Rattle.std.proofs.lemmas.List.{take_rest, drop-drop}
use Rattle.byte_fields.specs.Spelling.{IsBytes}
use Rattle.byte_fields.proofs.NumberLemmas.{IsBytes-drop}
use Rattle.key_base.specs.ByteOrder.{Bytes}
use Rattle.map_model.proofs.Between.{before_less}
use Rattle.range_model.specs.Ranges.{AreRanges, DeletedRange, range_of}
use Rattle.block_model.specs.IndexReading.{range_fault, range_in, range_width_in, ranges_fault, ranges_in}
use Rattle.block_model.proofs.RangesRead.{range_written}
use Rattle.table_file.specs.Faults.{IsIndexFault, IsShape}
use Rattle.table_file.proofs.IndexWalks.{shape_first}
use Rattle.table_file.proofs.RangeWalks.{all_read, next_broken, next_kept, next_read, none_is_left, one_more_range, some_are_left}
use Rattle.table_file.proofs.index_ranges.read_all.Goals as goal

pub loop-i-init : goal.loop-i-init
loop-i-init c =
    let bytes = c.args.bytes.now in
    let all : c.args.count ≡ c.args.count - 0 = omega arith in
    let here : c.args.place ≡ c.args.place + 0 = omega arith in
    let none = c.new-ranges.ensures in
    record {
      within = omega arith;
      same = ap₂ (λ (n p : ℕ). ranges_fault n p [] bytes) all here;
      read = ap (λ (n : ℕ). ranges_in n bytes) all ∙ ap (λ (l : List DeletedRange). l ++ ranges_in (c.args.count - 0) bytes) (sym none);
      room = λ new less is has. subst (λ (l : List DeletedRange). AreRanges (l ++ new ∷ [])) (sym none) (record { are = (is, tt); rise = (tt, tt); bounds = (has, tt) });
    }

pub returns-in_err-range-clause-broken : goal.returns-in_err-range-clause-broken
returns-in_err-range-clause-broken c =
    let bytes = c.args.bytes.now in
    let at = c.loop-i.at in
    let n = c.args.count - c.loop-i.i in
    let place = c.args.place + at in
    let before = c.loop-i.before.now in
    let here = drop at bytes in
    let broken : IsShape (range_fault place before here) c.in_err-range.field-0.0 = subst (λ (l : Bytes). IsShape (range_fault place before l) c.in_err-range.field-0.0) (take_rest bytes at) c.in_err-range.ensures.broken in
    let first : IsIndexFault (ranges_fault c.args.count c.args.place [] bytes) c.in_err-range.field-0.0 =
    shape_first (range_fault place before here) _ c.in_err-range.field-0.0 (λ f is. c.loop-i.invariant.same ∙ next_broken n place before here (omega (arith, c.loop-i-test.true)) f is) broken in
    search rules

pub push-requires : goal.push-requires
push-requires c =
    let bytes = c.args.bytes.now in
    let at = c.loop-i.at in
    let place = c.args.place + at in
    let before = c.loop-i.before.now in
    let here = drop at bytes in
    let range = c.in_ok-range.range in
    let rest = take_rest bytes at in
    let is_bytes : IsBytes bytes = λ i. (c.type_inv.bytes i).fits in
    let none : range_fault place before here ≡ None = ap (range_fault place before) (sym rest) ∙ c.in_ok-range.ensures.whole in
    let got : range_of range.lo.now range.hi.now ≡ range_in here = c.in_ok-range.ensures.range ∙ ap range_in rest in
    let written = range_written place before here (IsBytes-drop at bytes is_bytes) none in
    let one = c.loop-i.invariant.room (range_in here) (before_less before (range_in here).lo written.above) written.is written.bounds in
    subst (λ (r : DeletedRange). AreRanges (c.loop-i.ranges.ranges ++ r ∷ [])) (sym got) one

pub loop-i-preserved : goal.loop-i-preserved
loop-i-preserved c =
    let bytes = c.args.bytes.now in
    let at = c.loop-i.at in
    let n = c.args.count - c.loop-i.i in
    let place = c.args.place + at in
    let before = c.loop-i.before.now in
    let rest = take_rest bytes at in
    let here = drop at bytes in
    let range = c.in_ok-range.range in
    let w = range.width in
    let some = c.loop-i-test.true in
    let is_bytes : IsBytes bytes = λ i. (c.type_inv.bytes i).fits in
    let none : range_fault place before here ≡ None = ap (range_fault place before) (sym rest) ∙ c.in_ok-range.ensures.whole in
    let got : range_of range.lo.now range.hi.now ≡ range_in here = c.in_ok-range.ensures.range ∙ ap range_in rest in
    let width : w ≡ range_width_in here = c.in_ok-range.ensures.width ∙ ap range_width_in rest in
    let fewer : n - 1 ≡ c.args.count - (c.loop-i.i + 1) = omega arith in
    let behind : place + w ≡ c.args.place + (at + w) = omega arith in
    let next : drop w here ≡ drop (at + w) bytes = drop-drop w at bytes in
    let pushed : c.push.new.self.ranges ≡ c.loop-i.ranges.ranges ++ range_of range.lo.now range.hi.now ∷ [] = c.in_ok-push.ensures.added in
    let written = range_written place before here (IsBytes-drop at bytes is_bytes) none in
    let one = subst (λ (r : DeletedRange). AreRanges (c.loop-i.ranges.ranges ++ r ∷ [])) (sym got)
    (c.loop-i.invariant.room (range_in here) (before_less before (range_in here).lo written.above) written.is written.bounds) in
    record {
      within = omega (arith, c.in_ok-range.ensures.within, ap length rest, length-drop at bytes, c.loop-i.invariant.within);
      same = c.loop-i.invariant.same
          ∙ next_kept n place before here (omega (arith, some)) none
          ∙ ap (λ (k : ℕ). ranges_fault (n - 1) (place + k) (range_in here).hi (drop k here)) (sym width)
          ∙ ap (λ (r : DeletedRange). ranges_fault (n - 1) (place + w) r.hi (drop w here)) (sym got)
          ∙ ap₂ (λ (m p : ℕ). ranges_fault m p range.hi.now (drop w here)) fewer behind
          ∙ ap (ranges_fault (c.args.count - (c.loop-i.i + 1)) (c.args.place + (at + w)) range.hi.now) next;
      read = c.loop-i.invariant.read
          ∙ next_read n here c.loop-i.ranges.ranges (omega (arith, some))
          ∙ ap₂ (λ (r : DeletedRange) (k : ℕ). (c.loop-i.ranges.ranges ++ r ∷ []) ++ ranges_in (n - 1) (drop k here)) (sym got) (sym width)
          ∙ ap₂ (λ (m : ℕ) (l : Bytes). (c.loop-i.ranges.ranges ++ range_of range.lo.now range.hi.now ∷ []) ++ ranges_in m l) fewer next
          ∙ ap (λ (l : List DeletedRange). l ++ ranges_in (c.args.count - (c.loop-i.i + 1)) (drop (at + w) bytes)) (sym pushed);
      room = λ new less is has.
          subst (λ (l : List DeletedRange). AreRanges (l ++ new ∷ [])) (sym pushed) (one_more_range c.loop-i.ranges.ranges (range_of range.lo.now range.hi.now) new one less is has);
    }

pub returns-then-at-bytes-clause-broken : goal.returns-then-at-bytes-clause-broken
returns-then-at-bytes-clause-broken c =
    let bytes = c.args.bytes.now in
    let at = c.loop-i.at in
    subst (IsIndexFault (ranges_fault c.args.count c.args.place [] bytes)) (sym c.shape.ensures)
    (c.loop-i.invariant.same
    ∙ some_are_left (c.args.count - c.loop-i.i) (c.args.place + at) c.loop-i.before.now (drop at bytes) (omega (arith, c.loop-i-test.false)) (omega (arith, length-drop at bytes, c.if-at-bytes.true)))

pub returns-clause-whole : goal.returns-clause-whole
returns-clause-whole c =
    let bytes = c.args.bytes.now in
    let at = c.loop-i.at in
    c.loop-i.invariant.same
    ∙ none_is_left (c.args.count - c.loop-i.i) (c.args.place + at) c.loop-i.before.now (drop at bytes) (omega (arith, c.loop-i-test.false)) (omega (arith, length-drop at bytes, c.if-at-bytes.false))

pub returns-clause-ranges : goal.returns-clause-ranges
returns-clause-ranges c =
    sym (c.loop-i.invariant.read ∙ all_read (c.args.count - c.loop-i.i) (drop c.loop-i.at c.args.bytes.now) c.loop-i.ranges.ranges (omega (arith, c.loop-i-test.false)))
