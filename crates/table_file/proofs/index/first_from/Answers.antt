use Rattle.std.proofs.lemmas.Fn.{always_returns_same}
use Rattle.std.proofs.Common.{rules}
use Rattle.block_model.specs.Order.{is_any}
use Rattle.table_file.proofs.Searches.{is_under, parted, point_is}
use Rattle.table_file.proofs.index.first_from.Goals as goal

pub returns-clause-first : goal.returns-clause-first
returns-clause-first c =
    let p = is_under c.args.key.now in
    let point = c.partition_point.ensures.partitioned p (always_returns_same _ _ _ (λ a r f' k. search rules)) (parted c.args.key.now is_any c.args.rows.now c.requires) in
    point_is c.args.key.now c.args.rows.now c.partition_point.result c.partition_point.ensures.bound point
