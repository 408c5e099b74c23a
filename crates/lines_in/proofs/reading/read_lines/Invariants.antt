use Rattle.std.proofs.Common.{◌≡◌, ◌+◌, ◌^◌, ◌++◌, [], List, ℕ, length}
use Rattle.std.specs.Prelude.{IsTrue}
use Rattle.lines_in.specs.Causes.{NoFall, WritesWithin}
use Rattle.lines_in.specs.Reading.{ReadSoFar}
use Rattle.lines_in.proofs.reading.read_lines.Given as goal

abbrev pub invariant-loop-left : goal.invariant-loop-left
invariant-loop-left g l = record {
  read :
      (start : g.R.LineReader.Start) (first : g.row.W.Denot) → IsTrue g.W.Disk.tells → IsTrue g.W.Outside.tells_input → IsTrue g.W.Outside.tells_output
      → (g.W.Disk.world first).beside.to_take ≡ (g.W.Disk.world l.fn.out).beside.to_take
      → ReadSoFar g.row.MOST (λ lines. g.R.LineReader.has_read start lines l.fn.reader first l.fn.out) [] l.fn.pending
      → (taken : List ℕ) × ((g.W.Disk.world first).beside.to_take ≡ taken ++ (g.W.Disk.world l.out).beside.to_take) × (length taken + l.left ≡ 2 ^ 40)
      × ReadSoFar g.row.MOST (λ lines. g.R.LineReader.has_read start lines l.reader first l.out) taken l.pending;
  reads_on : g.R.LineReader.reads_on l.reader;
  counts : NoFall (g.W.Disk.world l.fn.out) (g.W.Disk.world l.out);
  within : WritesWithin (g.R.LineReader.reach l.fn.reader) (g.W.Disk.world l.fn.out) (g.W.Disk.world l.out);
  reach : g.R.LineReader.reach l.reader ≡ g.R.LineReader.reach l.fn.reader;
}

abbrev pub decreases-loop-left : goal.decreases-loop-left
decreases-loop-left g l = l.left
