use Rattle.std.proofs.Common.{◌≡◌, ◌*◌, length}
use Rattle.std.specs.Prelude.{IsTrue}
use Rattle.std.specs.List.{AllByRecursion}
use Rattle.block_model.specs.Pages.{page_bytes}
use Rattle.level_merge.specs.JobValue.{all_numbers, work_left}
use Rattle.merge_rows.specs.Steps.{numbers}
use Rattle.state_model.specs.State.{State}
use Rattle.store_core.specs.Compacting.{IsHeldBy}
use Rattle.store_core.specs.Framing.{IsInUse, LeavesPlaces}
use Rattle.store_core.specs.Tending.{SomeMoves}
use Rattle.store_core.proofs.CompactRuns.{IsCompacting}
use Rattle.store_core.proofs.CompactSlices.{IsGoing}
use Rattle.store_core.proofs.CompactSound.{SoundBefore}
use Rattle.table_model.specs.Tables.{filter_bytes_of}
use Rattle.store_core.proofs.compacting.write_all.Given as goal

-- its outputs are tables of the deepest level, apart from all others; and they are the first of the state's
abbrev pub invariant-loop-job : goal.invariant-loop-job
invariant-loop-job g l =
    let spelling = g.F.RangeFilter.spelling in
    let bytes = filter_bytes_of g.F.RangeFilter.spelling g.F.RangeFilter.built_cutoff in
    let before = g.D.Disk.world l.fn.disk in
    let after = g.D.Disk.world l.disk in
    record {
      on : IsCompacting l.version.version l.tables.tables l.job l.extents;
      going : (s : State) → IsTrue g.D.Disk.tells → IsHeldBy spelling bytes l.version l.tables.tables l.memory.entries s before → IsGoing spelling bytes l.version l.tables.tables s before after l.job l.extents;
      read : IsTrue g.D.Disk.tells → AllByRecursion (SoundBefore l.tables.tables before.seen.held) l.job.merge.walks;
      numbers_are : numbers l.job.merge.walks ≡ all_numbers (length l.tables.tables);
      moves : SomeMoves (page_bytes * l.version.version.pages) before after;
      frame : LeavesPlaces (IsInUse l.version 262144) before after;
    }

abbrev pub decreases-loop-job : goal.decreases-loop-job
decreases-loop-job g l = work_left l.tables.tables l.job
