use Rattle.std.proofs.Common.{◌≡◌, ◌≤◌, ◌-◌, ◌++◌, drop, length, take}
use Rattle.merge_rows.specs.Steps.{numbers}
use Rattle.store_core.specs.Install.{others_in}
use Rattle.store_core.proofs.install.take_merged.Given as goal

-- those before these numbers, and the others of what lies after
abbrev pub invariant-loop-number : goal.invariant-loop-number
invariant-loop-number g l = record {
  all : l.tables.tables
      ≡ take (length l.fn.tables.tables - l.number) l.fn.tables.tables
      ++ others_in (numbers l.job.merge.walks) (drop (length l.fn.tables.tables - l.number) l.fn.tables.tables);
  room : l.fn.tables.room ≤ l.tables.room;
}
