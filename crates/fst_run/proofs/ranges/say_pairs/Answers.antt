use Rattle.std.proofs.Common.{◌≡◌, ◌+◌, ◌∙◌, ap, arith, false, sym, true}
use Rattle.std.specs.Prelude.{Some, slice_get}
use Rattle.fst_map.specs.Places.{Place, moved}
use Rattle.fst_run.proofs.Parts.{pair_short}
use Rattle.fst_run.proofs.RangeSteps.{all_by_bound, all_by_end, at_last, counted_all, first_at, if_err, none_said, one_cut, one_said, pair_at, said_all, still_low, taken_all}
use Rattle.map_model.specs.Slices.{is_up_to}
use Rattle.fst_run.proofs.ranges.say_pairs.Goals as goal

pub loop-count-init : goal.loop-count-init
loop-count-init g c =
    let start = c.args.cursor.now in
    record {
      place = ap (moved start) (let e : start.number ≡ start.number + 0 = omega arith in e);
      few = omega arith;
      room = c.requires.buffer;
      so_far = none_said g.W.Outside.tells_output (Some c.args.hi.now) start (g.W.Disk.world c.args.out.now) c.args.buffer.now (g.met.W.Outside.said_now c.args.out.now);
    }

pub add_reply-requires-clause-short : goal.add_reply-requires-clause-short
add_reply-requires-clause-short g c =
    let start = c.args.cursor.now in
    let key = c.key-in-loop-count.result.now in
    let value = c.value.result.now in
    pair_short start.map (start.number + c.loop-count.count) (key, value) c.requires.may.short
    (pair_at c.loop-count.cursor start c.loop-count.count key value c.loop-count.invariant.place c.key-in-loop-count.ensures c.value.ensures)

-- ---- one more

pub loop-count-preserved : goal.loop-count-preserved
loop-count-preserved g c =
    let start = c.args.cursor.now in
    let key = c.key-in-loop-count.result.now in
    let value = c.value.result.now in
    let at = c.loop-count.cursor in
    let count = c.loop-count.count in
    let a = g.W.Disk.world c.args.out.now in
    let place = c.loop-count.invariant.place in
    record {
      place = c.if-not-next.ensures.moved ∙ ap (λ (p : Place). moved p (p.number + 1)) place ∙ ap (moved start) (let e : start.number + count + 1 ≡ start.number + (count + 1) = omega arith in e);
      few = omega (arith, c.loop-count-test.true);
      room = c.in_ok-used.ensures.room;
      so_far = one_said g.W.Outside.tells_output (Some c.args.hi.now) start a count c.loop-count.used c.loop-count.buffer (g.W.Disk.world c.loop-count.out) c.loop-count.invariant.so_far (key, value)
          (pair_at at start count key value place c.key-in-loop-count.ensures c.value.ensures) c.in_ok-used.used c.add_reply.new.buffer (g.W.Disk.world c.add_reply.new.out)
          (still_low (Some c.args.hi.now) (slice_get at.map at.number) c.key.result.now key c.is_up_to.result c.key.ensures c.key-in-loop-count.ensures c.is_up_to.ensures c.if-is_up_to.true) c.in_ok-used.ensures.said c.add_reply.ensures.moves;
    }

-- ---- the output failed

pub returns-in_err-used-clause-prefix : goal.returns-in_err-used-clause-prefix
returns-in_err-used-clause-prefix g c output =
    let start = c.args.cursor.now in
    let key = c.key-in-loop-count.result.now in
    let value = c.value.result.now in
    let at = c.loop-count.cursor in
    let count = c.loop-count.count in
    if_err c.from_residual.result _ (one_cut g.W.Outside.tells_output (Some c.args.hi.now) start (g.W.Disk.world c.args.out.now) count c.loop-count.used c.loop-count.buffer (g.W.Disk.world c.loop-count.out) c.loop-count.invariant.so_far (key, value)
    (pair_at at start count key value c.loop-count.invariant.place c.key-in-loop-count.ensures c.value.ensures) c.args.most (g.W.Disk.world c.add_reply.new.out) c.loop-count-test.true
    (still_low (Some c.args.hi.now) (slice_get at.map at.number) c.key.result.now key c.is_up_to.result c.key.ensures c.key-in-loop-count.ensures c.is_up_to.ensures c.if-is_up_to.true) output (c.add_reply.ensures.prefix output)
    c.add_reply.ensures.moves)

-- ---- no pair is left

pub returns-then-not-next-clause-said : goal.returns-then-not-next-clause-said
returns-then-not-next-clause-said g c =
    let start = c.args.cursor.now in
    let key = c.key-in-loop-count.result.now in
    let value = c.value.result.now in
    let at = c.loop-count.cursor in
    let count = c.loop-count.count in
    let hi = Some c.args.hi.now in
    let a = g.W.Disk.world c.args.out.now in
    let b = g.W.Disk.world c.add_reply.new.out in
    let place = c.loop-count.invariant.place in
    let so_far = one_said g.W.Outside.tells_output hi start a count c.loop-count.used c.loop-count.buffer (g.W.Disk.world c.loop-count.out) c.loop-count.invariant.so_far (key, value)
    (pair_at at start count key value place c.key-in-loop-count.ensures c.value.ensures) c.in_ok-used.used c.add_reply.new.buffer b
    (still_low hi (slice_get at.map at.number) c.key.result.now key c.is_up_to.result c.key.ensures c.key-in-loop-count.ensures c.is_up_to.ensures c.if-is_up_to.true) c.in_ok-used.ensures.said c.add_reply.ensures.moves in
    let all = all_by_end g.W.Outside.tells_output hi start a (count + 1) c.in_ok-used.used c.add_reply.new.buffer b so_far (at_last at start count place (λ more. let never : false ≡ true = c.if-not-next.ensures.end.1 more in cc)) in
    said_all g.W.Outside.tells_output hi start a (count + 1) c.in_ok-used.used c.add_reply.new.buffer b so_far c.args.most
    (taken_all g.W.Outside.tells_output hi start a (count + 1) c.in_ok-used.used c.add_reply.new.buffer b so_far c.args.most (omega (arith, c.loop-count-test.true)) all)

pub returns-then-not-next-clause-count : goal.returns-then-not-next-clause-count
returns-then-not-next-clause-count g c =
    let start = c.args.cursor.now in
    let key = c.key-in-loop-count.result.now in
    let value = c.value.result.now in
    let at = c.loop-count.cursor in
    let count = c.loop-count.count in
    let hi = Some c.args.hi.now in
    let a = g.W.Disk.world c.args.out.now in
    let b = g.W.Disk.world c.add_reply.new.out in
    let place = c.loop-count.invariant.place in
    let so_far = one_said g.W.Outside.tells_output hi start a count c.loop-count.used c.loop-count.buffer (g.W.Disk.world c.loop-count.out) c.loop-count.invariant.so_far (key, value)
    (pair_at at start count key value place c.key-in-loop-count.ensures c.value.ensures) c.in_ok-used.used c.add_reply.new.buffer b
    (still_low hi (slice_get at.map at.number) c.key.result.now key c.is_up_to.result c.key.ensures c.key-in-loop-count.ensures c.is_up_to.ensures c.if-is_up_to.true) c.in_ok-used.ensures.said c.add_reply.ensures.moves in
    let all = all_by_end g.W.Outside.tells_output hi start a (count + 1) c.in_ok-used.used c.add_reply.new.buffer b so_far (at_last at start count place (λ more. let never : false ≡ true = c.if-not-next.ensures.end.1 more in cc)) in
    counted_all g.W.Outside.tells_output hi start a (count + 1) c.in_ok-used.used c.add_reply.new.buffer b so_far c.args.most
    (taken_all g.W.Outside.tells_output hi start a (count + 1) c.in_ok-used.used c.add_reply.new.buffer b so_far c.args.most (omega (arith, c.loop-count-test.true)) all)

-- ---- the next pair is above the bound

pub returns-else-is_up_to-clause-said : goal.returns-else-is_up_to-clause-said
returns-else-is_up_to-clause-said g c =
    let start = c.args.cursor.now in
    let count = c.loop-count.count in
    let hi = Some c.args.hi.now in
    let a = g.W.Disk.world c.args.out.now in
    let w = g.W.Disk.world c.loop-count.out in
    let so_far = c.loop-count.invariant.so_far in
    let pair = first_at c.loop-count.cursor start count c.key.result.now c.loop-count.invariant.place c.key.ensures in
    let all = all_by_bound g.W.Outside.tells_output hi start a count c.loop-count.used c.loop-count.buffer w so_far pair.0 pair.1 c.requires.may.rises
    (ap (is_up_to hi) pair.2 ∙ sym c.is_up_to.ensures ∙ c.if-is_up_to.false) in
    said_all g.W.Outside.tells_output hi start a count c.loop-count.used c.loop-count.buffer w so_far c.args.most
    (taken_all g.W.Outside.tells_output hi start a count c.loop-count.used c.loop-count.buffer w so_far c.args.most c.loop-count.invariant.few all)

pub returns-else-is_up_to-clause-count : goal.returns-else-is_up_to-clause-count
returns-else-is_up_to-clause-count g c =
    let start = c.args.cursor.now in
    let count = c.loop-count.count in
    let hi = Some c.args.hi.now in
    let a = g.W.Disk.world c.args.out.now in
    let w = g.W.Disk.world c.loop-count.out in
    let so_far = c.loop-count.invariant.so_far in
    let pair = first_at c.loop-count.cursor start count c.key.result.now c.loop-count.invariant.place c.key.ensures in
    let all = all_by_bound g.W.Outside.tells_output hi start a count c.loop-count.used c.loop-count.buffer w so_far pair.0 pair.1 c.requires.may.rises
    (ap (is_up_to hi) pair.2 ∙ sym c.is_up_to.ensures ∙ c.if-is_up_to.false) in
    counted_all g.W.Outside.tells_output hi start a count c.loop-count.used c.loop-count.buffer w so_far c.args.most
    (taken_all g.W.Outside.tells_output hi start a count c.loop-count.used c.loop-count.buffer w so_far c.args.most c.loop-count.invariant.few all)
