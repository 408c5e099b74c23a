use Rattle.std.proofs.Common.{refl, sym}
use Rattle.std.specs.Prelude.{Some}
use Rattle.store_check.proofs.Judged.{judged_damaged}
use Rattle.store_check.proofs.blocks.BlocksSeen.judge.Goals as goal

pub returns-in-Err-clause-judged : goal.returns-in-Err-clause-judged
returns-in-Err-clause-judged c image part_is =
    judged_damaged c.args.index.now c.args.n image c.args.bytes.now part_is c.args.self.now _ (Some c.found_by.result) c.in-Err.damage (c.in-Err.ensures.damaged image part_is) (sym c.found_by.ensures) refl refl
