use Rattle.std.proofs.Common.{◌≡◌, ◌≤◌, ◌-◌, [], take}
use Rattle.key_base.specs.Limits.{max_key_bytes}
use Rattle.block_model.specs.BlockReading.{entries_fault_by}
use Rattle.block_format.specs.Judging.{left_from}
use Rattle.block_format.specs.Reading.{sum_where}
use Rattle.block_format.specs.Walking.{format_of}
use Rattle.block_format.proofs.judged.judge_entries.Given as goal

-- the entries that are left break the rules that all break, after the key in the buffer; and the bytes before them are summed
abbrev pub invariant-loop-i : goal.invariant-loop-i
invariant-loop-i l = record {
  from : l.head.from ≤ l.at;
  within : l.at ≤ l.head.used;
  held : l.key_length ≤ max_key_bytes;
  same : entries_fault_by (format_of l.head.format) l.whole 0 l.head.count l.head.from [] (left_from l.head.used l.head.from l.whole)
      ≡ entries_fault_by (format_of l.head.format) l.whole l.i (l.head.count - l.i) l.at (take l.key_length l.key) (left_from l.head.used l.at l.whole);
  sum : l.summer ≡ sum_where l.summed (take l.at l.whole);
}
