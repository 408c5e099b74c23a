use Rattle.table_model.specs.Tables.{filter_bytes_of}
use Rattle.store_core.proofs.AsBefore.{represents_as_before}
use Rattle.store_core.proofs.store.Store.refusals_law.Goals as goal

pub returns : goal.returns
returns g c before is = represents_as_before g.F.RangeFilter.spelling (filter_bytes_of g.F.RangeFilter.spelling g.F.RangeFilter.built_cutoff) before (g.D.Disk.world c.args.disk.now) c.args.self.now is
