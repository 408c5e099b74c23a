use Rattle.std.proofs.Common.{ap}
use Rattle.table_file.specs.Walks.{CursorWalk}
use Rattle.merge_rows.proofs.LeadOrder.{lead_ended}
use Rattle.merge_rows.proofs.table_source.TableSource.new.Goals as goal

pub invariant_of-result : goal.invariant_of-result
invariant_of-result g c = lead_ended c.in_ok-walk.walk.now (ap (λ (w : CursorWalk). w.now) c.in_ok-walk.ensures)
