use Rattle.std.proofs.Common.{◌∙◌, sym}
use Rattle.block_model.proofs.EntriesJudged.{next_elsewhere}
use Rattle.block_format.specs.Judging.{left_from}
use Rattle.block_format.specs.Walking.{format_of}
use Rattle.block_format.proofs.JudgedBlocks.{all_broken, all_go_on}
use Rattle.block_format.proofs.judged.next_judged.Goals as goal

pub returns-then-is_listed_elsewhere-clause-broken :
    goal.returns-then-is_listed_elsewhere-clause-broken
returns-then-is_listed_elsewhere-clause-broken c =
    λ n some. next_elsewhere (format_of c.args.head.format) c.args.whole.now c.args.i n c.args.at c.args.before.now (left_from c.args.head.used c.args.at c.args.whole.now) some
    (sym c.is_listed_elsewhere.ensures ∙ c.if-is_listed_elsewhere.true)

pub returns-clause-broken : goal.returns-clause-broken
returns-clause-broken c =
    all_broken (format_of c.args.head.format) c.args.whole.now c.args.i c.args.at c.args.head.used c.args.before.now (sym c.is_listed_elsewhere.ensures ∙ c.if-is_listed_elsewhere.false)
    c.judged_entry.result c.judged_entry.ensures.broken

pub returns-clause-kept : goal.returns-clause-kept
returns-clause-kept c =
    let e = c.judged_entry.ensures in
    all_go_on (format_of c.args.head.format) c.args.whole.now c.args.i c.args.at c.args.head.used c.args.before.now (sym c.is_listed_elsewhere.ensures ∙ c.if-is_listed_elsewhere.false)
    c.judged_entry.result c.requires.within.0 c.requires.within.1 e.kept e.shared e.rest e.value e.bytes e.within
