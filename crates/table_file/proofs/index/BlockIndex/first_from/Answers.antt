use Rattle.std.proofs.Common.{List, sym, subst}
use Rattle.block_model.specs.Order.{Follow, is_any}
use Rattle.block_model.proofs.Cutting.{any_follow}
use Rattle.table_file.specs.BlockRows.{lasts}
use Rattle.table_file.specs.declared.block_row.BlockRow.{BlockRow}
use Rattle.table_file.proofs.Searches.{lasts_seen}
use Rattle.table_file.proofs.index.BlockIndex.first_from.Goals as goal

pub first_from-requires : goal.first_from-requires
first_from-requires c =
    subst (λ (rs : List BlockRow). Follow is_any (lasts rs)) (sym c.as_slice.ensures.value)
    (subst (Follow is_any) (lasts_seen c.self.inside.rows.items) (any_follow _ _ c.self.invariant.0.rising))
