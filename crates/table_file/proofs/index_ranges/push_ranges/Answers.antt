use Rattle.std.proofs.Common.{◌+◌, ◌++◌, ◌∙◌, drop, sym, ap, arith, append_assoc}
use Rattle.std.specs.Prelude.{flat_map}
use Rattle.key_base.specs.ByteOrder.{Bytes}
use Rattle.range_model.specs.Ranges.{range_of}
use Rattle.block_model.specs.Index.{bound_bytes, range_bytes}
use Rattle.table_file.proofs.RangeWalks.{next_written}
use Rattle.table_file.proofs.index_ranges.push_ranges.Goals as goal

pub loop-i-preserved : goal.loop-i-preserved
unfolding range_bytes
loop-i-preserved c =
    let ranges = c.args.ranges.now.ranges in
    let out = c.loop-i.out.items in
    let i = c.loop-i.i in
    let lo = c.get.result.0.now in
    let hi = c.get.result.1.now in
    ap (λ (o : Bytes). o ++ flat_map range_bytes (drop (i + 1) ranges)) (c.in_ok-push_bound-2.ensures
    ∙ ap (λ (o : Bytes). o ++ bound_bytes hi) c.in_ok-push_bound.ensures
    ∙ append_assoc out (bound_bytes lo) (bound_bytes hi))
    ∙ sym (next_written ranges i (range_of lo hi) out (omega (arith, c.loop-i-test.true, c.len-i-end.ensures.len)) c.get.ensures)
    ∙ c.loop-i.invariant
