use Rattle.std.proofs.Common.{◌≡◌, ◌∷◌, ◌++◌}
use Rattle.mem_table.proofs.Ordered.{left_next, left_chunk}
use Rattle.mem_table.proofs.cursor.MemCursor.next.Goals as goal
use Rattle.mem_table.proofs.cursor.MemCursor.next.Goals.{then-is_empty+in_ok-chunk, else-is_empty}

pub invariant_of-self-2 : goal.invariant_of-self-2
invariant_of-self-2 c =
    let inside = c.if-is_empty.self-inside in
    elim c.if-is_empty.branch [
      | then-is_empty+in_ok-chunk w ↦
          left_next inside.entries.now inside.here.now c.in_ok-place.here.now c.in_ok-place.place.now inside.behind.now c.in_ok-place.ensures.cases.0
          (rw w.self-inside-is (left_chunk c.self.inside.entries.now c.self.inside.here.now w.as_slice-self-inside.result.now c.self.inside.behind.now w.in_ok-chunk.behind.now w.in_ok-chunk.chunk.now
          w.in_ok-chunk.ensures.cases.0 w.as_slice-self-inside.ensures.value c.self.invariant))
      | else-is_empty w ↦
          left_next inside.entries.now inside.here.now c.in_ok-place.here.now c.in_ok-place.place.now inside.behind.now c.in_ok-place.ensures.cases.0 (rw w.self-inside-is c.self.invariant)
    ]
