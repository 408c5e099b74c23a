use Rattle.std.proofs.Common.{List, ℕ, ◌++◌, ap, arith, length, drop, sym, ◌∙◌}
use Rattle.filter_iter.proofs.WayBytes.{byte_written, few_taken, no_more}
use Rattle.filter_iter.proofs.stubs.write_stub.Goals.{then-pass-lt-END_LETTER, else-pass-lt-END_LETTER}
use Rattle.filter_iter.proofs.stubs.write_stub.Goals as goal

pub bounds-out-count : goal.bounds-out-count
bounds-out-count c = omega (arith, c.loop-pass.invariant.1, few_taken c.args.way.now c.loop-pass.pass-index, c.loop-pass-test.true, c.requires, c.loop-pass.auto.out)

pub loop-pass-preserved : goal.loop-pass-preserved
loop-pass-preserved c =
    let room = few_taken c.args.way.now c.loop-pass.pass-index in
    elim c.if-pass-lt-END_LETTER.branch [
      | then-pass-lt-END_LETTER w ↦
          rw (w.out-is, w.count-is) (byte_written c.args.way.now c.loop-pass.pass-index _ c.args.out.now c.loop-pass.out c.loop-pass.count c.loop-pass-test.true w.if-pass-lt-END_LETTER.true (omega (arith, c.loop-pass.invariant.1, room, c.loop-pass-test.true, c.requires)) c.loop-pass.invariant.0 c.loop-pass.invariant.1)
      | else-pass-lt-END_LETTER w ↦
          let same = no_more c.args.way.now c.loop-pass.pass-index _ c.loop-pass-test.true w.if-pass-lt-END_LETTER.false in
          rw (w.out-is, w.count-is) (c.loop-pass.invariant.0 ∙ ap (λ (s : List ℕ). s ++ drop c.loop-pass.count c.args.out.now) (sym same), c.loop-pass.invariant.1 ∙ ap (λ (s : List ℕ). length s) (sym same))
    ]
