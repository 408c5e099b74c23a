use Rattle.std.proofs.Common.{◌≡◌, List, take}
use Rattle.std.specs.List.{AllByRecursion}
use Rattle.entry_model.specs.Entries.{Entry, keys_of}
use Rattle.range_model.specs.Sources.{BeginsAtOne}
use Rattle.table_file.proofs.builder.all_begin.Given as goal

-- the ranges before this one begin at keys
abbrev pub invariant-loop-i : goal.invariant-loop-i
invariant-loop-i l = (entries : List Entry) → keys_of entries ≡ l.keys → AllByRecursion (BeginsAtOne entries) (take l.i l.ranges.ranges)
