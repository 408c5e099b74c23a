use Rattle.std.proofs.Common.{◌≤◌, ◌<◌, ◌+◌, ℕ, refl, length, map, sym, ap, ◌∙◌, arith}
use Rattle.disk_mem.specs.Calls.{last_sync}
use Rattle.disk_mem.specs.Choices.{pick_of, pick_at, picked}
use Rattle.disk_mem.proofs.Synced.{last_sync-le, settled, write_crashed, other_crashed}
use Rattle.disk_mem.proofs.crash.crashed.Goals as goal
use Rattle.disk_mem.proofs.crash.crashed.Goals.{then-is_write+in_ok-make, else-is_write}

pub replayed-requires : goal.replayed-requires
replayed-requires c = omega (arith, c.last_sync-from.ensures, last_sync-le c.args.log.now.calls)

pub loop-number-init : goal.loop-number-init
loop-number-init c =
    let start = settled c.args.first.now (map pick_of c.args.choice.now) c.args.log.now.calls in
    let replayed = rw c.last_sync-from.ensures at c.in_ok-bytes.ensures in
    rw c.last_sync-from.ensures (record { bytes = replayed ∙ sym start.0; next = sym start.1; small = omega arith })

pub loop-number-preserved : goal.loop-number-preserved
loop-number-preserved c =
    let was = c.loop-number.invariant in
    let calls = c.args.log.now.calls in
    let picks = map pick_of c.args.choice.now in
    let lt : c.loop-number.number < length calls = omega (arith, c.loop-number-test.true, c.len-number-end.ensures) in
    let since : last_sync calls ≤ c.loop-number.number = omega (arith, c.loop-number.auto.number, c.last_sync-from.ensures) in
    elim c.if-is_write.branch [
      | then-is_write+in_ok-make w ↦
          let step = write_crashed c.args.first.now picks calls c.loop-number.number lt (w.if-is_write.ensures.0 refl) in
          record {
            bytes = (λ i. (w.bytes-is i).items) ∙ w.in_ok-make.ensures ∙ (λ i. picked (pick_at picks (was.next i)) (w.place.ensures i) (w.bytes.ensures.bytes i) (was.bytes i)) ∙ sym step.0;
            next = w.next-is ∙ ap (λ (n : ℕ). n + 1) was.next ∙ sym step.1;
            small = omega (arith, w.next-is, was.small);
          }
      | else-is_write w ↦
          let step = other_crashed c.args.first.now picks calls c.loop-number.number since lt (λ is. let never = w.if-is_write.ensures.1 is in absurd cc) in
          record { bytes = (λ i. (w.bytes-is i).items) ∙ was.bytes ∙ sym step.0; next = w.next-is ∙ was.next ∙ sym step.1; small = omega (arith, w.next-is, was.small) }
    ]
