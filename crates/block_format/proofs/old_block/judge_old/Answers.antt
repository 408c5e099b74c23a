use Rattle.std.proofs.Common.{◌∙◌, ℕ, ap₂}
use Rattle.map_model.specs.SortedMap.{Bytes}
use Rattle.entry_model.specs.Newest.{lookup}
use Rattle.block_format.proofs.Standing.{all_stand}
use Rattle.block_format.specs.Reading.{seen}
use Rattle.block_format.proofs.Walks.{entries_broken, no_fault, part_is, tail_broken}
use Rattle.block_format.proofs.old_block.judge_old.Goals as goal

pub returns-in-Err-judged-clause-broken : goal.returns-in-Err-judged-clause-broken
returns-in-Err-judged-clause-broken c =
    entries_broken c.args.bytes.now c.in-Ok.used c.in-Ok.count (seen c.in-Err-judged.fault) c.in-Ok.ensures.some c.in-Ok.ensures.used c.in-Ok.ensures.count
    c.in-Ok.ensures.whole (rw c.in-Err-judged.is at c.old_entries-sum.ensures.broken)

pub returns-in-Err-check_padding-clause-broken : goal.returns-in-Err-check_padding-clause-broken
returns-in-Err-check_padding-clause-broken c =
    tail_broken c.args.bytes.now c.in-Ok.used c.in-Ok.count (seen c.in-Err-check_padding.fault) c.in-Ok.ensures.some c.in-Ok.ensures.used c.in-Ok.ensures.count
    c.in-Ok.ensures.whole (rw c.in-Ok-judged.is at c.old_entries-sum.ensures.whole) c.in-Err-check_padding.ensures.broken

pub returns-in-Ok-check_padding-clause-whole : goal.returns-in-Ok-check_padding-clause-whole
returns-in-Ok-check_padding-clause-whole c =
    no_fault c.args.bytes.now c.in-Ok.used c.in-Ok.count c.in-Ok.ensures.some c.in-Ok.ensures.used c.in-Ok.ensures.count
    c.in-Ok.ensures.whole (rw c.in-Ok-judged.is at c.old_entries-sum.ensures.whole) c.in-Ok-check_padding.ensures.whole
