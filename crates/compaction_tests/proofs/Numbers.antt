-- The tables of a merge that is begun are there.
use Rattle.std.proofs.Common.{◌≡◌, List, [], sym, ap, subst}
use Rattle.level_merge.specs.JobValue.{JobValue, begun}
use Rattle.level_merge.specs.Plans.{MayStart, PlanByNumbers}
use Rattle.merge_rows.proofs.Begins.{walks_known}
use Rattle.merge_rows.specs.Steps.{AreWalksIn, stands}
use Rattle.table_file.specs.Opened.{Opened}

pub begun_there : (plan : PlanByNumbers) (settings : _) (tables : List Opened) (job : JobValue) → MayStart tables plan → job ≡ begun plan settings tables → AreWalksIn tables (stands job.merge.walks)
begun_there plan settings tables job starts is = subst (AreWalksIn tables) (sym (ap (λ (m : JobValue). stands m.merge.walks) is)) (walks_known plan.inputs tables [] starts.there)
