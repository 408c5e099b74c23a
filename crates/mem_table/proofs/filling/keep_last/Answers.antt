use Rattle.std.proofs.Common.{◌≡◌, ◌≢◌, ◌-◌, ◌<◌, get_or, [], length, arith}
use Rattle.std.specs.Prelude.{None}
use Rattle.entry_model.specs.Entries.{entry_of}
use Rattle.mem_table.proofs.Fills.{kept_same, kept_other}
use Rattle.mem_table.proofs.filling.keep_last.Goals as goal
use Rattle.mem_table.proofs.filling.keep_last.Goals.{then-repeats, else-repeats}

pub loop-i-preserved : goal.loop-i-preserved
loop-i-preserved c =
    let old = c.args.entries.now.items in
    let entries = c.loop-i.entries.items in
    let d = entry_of [] None in
    let lt : c.loop-i.i < length old = omega (arith, c.loop-i-test.true, c.len-i-end.ensures) in
    elim c.if-repeats.branch [
      | then-repeats w ↦
          let same : (get_or entries (c.loop-i.kept - 1) d).key ≡ (get_or entries c.loop-i.i d).key = rw (← c.deref.ensures.value) (c.repeats.ensures.same d w.if-repeats.true) in
          rw (w.entries-is, w.kept-is, w.swap.ensures.items) (kept_same old entries c.loop-i.i c.loop-i.kept c.loop-i.invariant lt d (c.repeats.ensures.some w.if-repeats.true) same)
      | else-repeats w ↦
          let other : 0 < c.loop-i.kept → (get_or entries (c.loop-i.kept - 1) d).key ≢ (get_or entries c.loop-i.i d).key = rw (← c.deref.ensures.value) (c.repeats.ensures.other d w.if-repeats.false) in
          rw (w.entries-is, w.kept-is, w.swap-else-repeats.ensures.items) (kept_other old entries c.loop-i.i c.loop-i.kept c.loop-i.invariant lt d c.requires other)
    ]
