use Rattle.std.proofs.Common.{◌≡◌, take}
use Rattle.load_gen.specs.Summary.{summary_of}
use Rattle.line_tests.proofs.plain_load.summed.Given as goal

abbrev pub invariant-loop-pair : goal.invariant-loop-pair
invariant-loop-pair l = record {
  whole : l.pair-items ≡ l.map;
  counted : l.summary.live ≡ l.pair-index;
  summed : l.summary ≡ summary_of (take l.pair-index l.pair-items);
}
