use Rattle.std.proofs.Common.{◌≡◌, ◌≤◌, ◌+◌, ◌-◌, ◌++◌, drop, length, map}
use Rattle.std.specs.Prelude.{vec_capacity, vec_len}
use Rattle.merge_rows.specs.Steps.{numbers}
use Rattle.store_core.specs.Install.{others_in}
use Rattle.store_core.proofs.install.others_of.Given as goal

-- those so far and those among what is left, and room for as many
abbrev pub invariant-loop-place : goal.invariant-loop-place
invariant-loop-place g l = record {
  all : map (λ t. t.now) l.others.items ++ others_in (numbers l.job.merge.walks) (drop l.place l.tables.tables) ≡ others_in (numbers l.job.merge.walks) l.tables.tables;
  room : vec_len l.others + (length l.tables.tables - l.place) + length l.job.made ≤ vec_capacity l.others;
}
