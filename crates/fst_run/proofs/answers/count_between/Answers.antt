use Rattle.std.proofs.Common.{◌∙◌, sym, ap}
use Rattle.std.specs.Ordering.{is_lt}
use Rattle.map_model.proofs.Between.{count_crossed}
use Rattle.fst_run.proofs.answers.count_between.Goals as goal

pub returns-then-is_lt : goal.returns-then-is_lt
returns-then-is_lt c = sym (count_crossed c.args.map.now c.args.lo.now c.args.hi.now (ap is_lt (sym c.compare.ensures) ∙ sym c.is_lt.ensures ∙ c.if-is_lt.true))
