use Rattle.std.proofs.Common.{length, ap, sym, ◌∙◌}
use Rattle.entry_model.specs.Entries.{Entry}
use Rattle.block_model.proofs.LastBlocks.{last_key_at, positive}
use Rattle.plain_blocks.proofs.bytes.last_key.Goals as goal

pub returns : goal.returns
returns c =
    let some = positive (length c.args.entries.now) c.if-is_empty.ensures in
    c.key.ensures ∙ ap (λ (e : Entry). e.key) c.index-entries-entries.is ∙ sym (last_key_at c.args.entries.now c.index-entries-entries.result some)
