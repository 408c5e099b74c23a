use Rattle.std.proofs.Common.{◌≡◌, Bool, sym, subst}
use Rattle.std.specs.Prelude.{IfOk}
use Rattle.block_model.specs.IndexReading.{all_ranges_in, ranges_in}
use Rattle.table_file.proofs.index_ranges.read_ranges.Goals as goal

pub returns-then-not-has-clause-ranges : goal.returns-then-not-has-clause-ranges
unfolding all_ranges_in ranges_in
returns-then-not-has-clause-ranges c =
    subst (λ (h : Bool). IfOk c.read_all.result (λ found. found.ranges ≡ all_ranges_in h c.args.bytes.now)) (sym c.if-not-has.true) c.read_all.ensures.ranges
