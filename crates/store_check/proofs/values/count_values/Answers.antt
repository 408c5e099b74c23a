use Rattle.std.proofs.Common.{◌≡◌, ◌<◌, arith, ap}
use Rattle.std.specs.Prelude.{List}
use Rattle.entry_model.specs.Entries.{Entry}
use Rattle.block_format.proofs.Walked.{none_walked}
use Rattle.store_check.proofs.Walked.{one_at_most, one_walked, value_walked}
use Rattle.store_check.specs.Values.{values_in}
use Rattle.store_check.proofs.values.count_values.Goals as goal

pub loop-init : goal.loop-init
loop-init c = record { room = c.requires.room; stands = c.requires.stands; many = omega arith; few = omega arith; all = omega arith }

pub loop-preserved : goal.loop-preserved
loop-preserved c =
    let l = c.loop in
    let bytes = c.args.bytes.now in
    let some : 0 < l.on.left = omega (arith, l.invariant.many, c.loop-test.true) in
    let one = one_walked l.on l.buffer bytes c.advance-place.new.self c.advance-place.new.buffer c.advance-place.result some c.advance-place.ensures.entries in
    let value = value_walked l.on l.buffer bytes c.advance-place.new.self c.advance-place.new.buffer c.advance-place.result some c.advance-place.ensures.entries in
    record {
      room = omega (arith, c.advance-place.ensures.room, l.invariant.room);
      stands = c.advance-place.ensures.stands;
      many = omega (arith, l.invariant.many, one.1);
      few = omega (arith, l.invariant.few, c.value_at_hand-values.ensures, one_at_most c.advance-place.result);
      all = omega (arith, value, l.invariant.all, c.value_at_hand-values.ensures);
    }

pub returns : goal.returns
returns c =
    let l = c.loop in
    let none = none_walked l.on l.buffer c.args.bytes.now (omega (arith, l.invariant.many, c.loop-test.false)) in
    omega (arith, ap values_in none, l.invariant.all)
