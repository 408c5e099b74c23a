use Rattle.std.proofs.Common.{length, sym, ◌∙◌, arith}
use Rattle.block_model.proofs.LastBlocks.{positive}
use Rattle.store_check.proofs.Risen.{key_list}
use Rattle.store_check.proofs.keys.known.Goals as goal

pub returns-clause-list : goal.returns-clause-list
returns-clause-list c =
    let some = positive (length c.args.keys) (sym (sym c.is_empty.ensures ∙ c.if-is_empty.false)) in
    key_list c.args.keys (c.requires c.if-not-right.false) (omega (arith, some)) (omega (arith, c.if-len.false, c.len.ensures))
