use Rattle.std.proofs.Common.{◌≡◌, ◌<◌, ◌≤◌, ◌^◌, ◌+◌, ◌*◌, ◌%◌, length, get_or, refl, ◌∙◌, arith}
use Rattle.std.specs.Int.RustNames.{count_ones}
use Rattle.std.proofs.lemmas.Nat.{ones-le}
use Rattle.std.proofs.lemmas.List.{length_push}
use Rattle.std.proofs.lemmas.List.Sums.{sum_by-take-le}
use Rattle.bit_words.specs.Counts.{rank_of}
use Rattle.bit_words.proofs.Counting.{rank-le, ones_in_words}
use Rattle.bit_select.proofs.Sampling.{rank_more, sampled_push, sampled_pass, sampled_all}
use Rattle.bit_select.proofs.Selecting.{placed, set-lt}
use Rattle.bit_select.proofs.selected.Selected.new.Goals as goal
use Rattle.bit_select.proofs.selected.Selected.new.Goals.{then-next-before, else-next-before}

pub overflow_add-before : goal.overflow_add-before
overflow_add-before g c =
    let words = c.words-words.result.now in
    record {
      fits = omega (
        arith,
        rank_more c.args.bits words c.loop-i.i c.words-words.ensures.value c.loop-i-test.true,
        rank-le c.args.bits (64 * (c.loop-i.i + 1)),
        c.loop-i.invariant.counted,
        c.from-count.ensures,
        c.words-words.ensures.limit,
      );
    }

pub overflow_cast-place : goal.overflow_cast-place
overflow_cast-place g c =
    let bits = c.args.bits in
    let words = c.words-words.result.now in
    let one = placed bits words _ c.loop-i.i c.nth_one_in.result c.words-words.ensures.value c.nth_one_in.ensures.place c.nth_one_in.ensures.is_set refl in
    record { fits = omega (arith, set-lt bits (64 * c.loop-i.i + c.nth_one_in.result) one.is_set, c.if-len-gt-MAX_BITS.false, c.len.ensures) }

pub push_reserved-requires : goal.push_reserved-requires
push_reserved-requires g c =
    let words = c.words-words.result.now in
    omega (
      arith,
      rank_more c.args.bits words c.loop-i.i c.words-words.ensures.value c.loop-i-test.true,
      ones_in_words c.args.bits words (c.loop-i.i + 1) c.words-words.ensures.value,
      sum_by-take-le count_ones words (c.loop-i.i + 1),
      c.loop-i.invariant.counted,
      c.loop-i.invariant.due,
      c.loop-i.invariant.room,
      c.from-count.ensures,
      c.if-next-before.true,
      c.loop-i.samples.ok.0,
    )

pub overflow_add-before-in-loop-i : goal.overflow_add-before-in-loop-i
overflow_add-before-in-loop-i g c =
    let words = c.words-words.result.now in
    record {
      fits = omega (
        arith,
        rank_more c.args.bits words c.loop-i.i c.words-words.ensures.value c.loop-i-test.true,
        rank-le c.args.bits (64 * (c.loop-i.i + 1)),
        c.loop-i.invariant.counted,
        c.from-count.ensures,
        c.words-words.ensures.limit,
      );
    }

pub loop-i-preserved : goal.loop-i-preserved
loop-i-preserved g c =
    let bits = c.args.bits in
    let words = c.words-words.result.now in
    let samples = c.loop-i.samples.items in
    let held = c.words-words.ensures.value in
    let few = ones-le 64 (get_or c.words-words.result.now c.loop-i.i 0) (c.type_inv.words c.loop-i.i).fits in
    let more = rank_more c.args.bits c.words-words.result.now c.loop-i.i c.words-words.ensures.value c.loop-i-test.true in
    elim c.if-next-before.branch [
      | then-next-before w ↦
          let due : 64 * length c.loop-i.samples.items < rank_of c.args.bits (64 * c.loop-i.i) + count_ones (get_or c.words-words.result.now c.loop-i.i 0) =
          omega (arith, w.if-next-before.true, c.loop-i.invariant.due, c.loop-i.invariant.counted, c.from-count.ensures) in
          let before : rank_of c.args.bits (64 * c.loop-i.i) + count_ones (get_or c.words-words.result.now c.loop-i.i 0 % 2 ^ w.nth_one_in.result) ≡ 64 * length c.loop-i.samples.items =
          omega (arith, w.nth_one_in.ensures.before, c.loop-i.invariant.due, c.loop-i.invariant.counted, c.loop-i.invariant.sampled.all) in
          record {
            counted = omega (arith, more, c.loop-i.invariant.counted, c.from-count.ensures);
            due = rw (w.samples-is, w.push_reserved.ensures.items) (omega (arith, w.next-is, c.loop-i.invariant.due, length_push c.loop-i.samples.items (64 * c.loop-i.i + w.nth_one_in.result)));
            sampled =
                rw (w.samples-is, w.push_reserved.ensures.items)
                (sampled_push bits words samples c.loop-i.i w.nth_one_in.result held c.loop-i-test.true c.loop-i.invariant.sampled few due
                w.nth_one_in.ensures.place w.nth_one_in.ensures.is_set before);
            room = rw w.samples-is (omega (arith, w.push_reserved.ensures.capacity, c.loop-i.invariant.room));
          }
      | else-next-before w ↦
          let early : rank_of c.args.bits (64 * c.loop-i.i) + count_ones (get_or c.words-words.result.now c.loop-i.i 0) ≤ 64 * length c.loop-i.samples.items =
          omega (arith, w.if-next-before.false, c.loop-i.invariant.due, c.loop-i.invariant.counted, c.from-count.ensures) in
          record {
            counted = omega (arith, more, c.loop-i.invariant.counted, c.from-count.ensures);
            due = rw w.samples-is (w.next-is ∙ c.loop-i.invariant.due);
            sampled = rw w.samples-is (sampled_pass bits words samples c.loop-i.i held c.loop-i-test.true c.loop-i.invariant.sampled early);
            room = rw w.samples-is c.loop-i.invariant.room;
          }
    ]

pub invariant_of-result : goal.invariant_of-result
invariant_of-result g c =
    sampled_all c.args.bits c.words-words.result.now c.loop-i.samples.items c.loop-i.i c.words-words.ensures.value (omega arith) c.loop-i.invariant.sampled
