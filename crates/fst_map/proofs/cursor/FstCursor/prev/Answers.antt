use Rattle.fst_map.proofs.Standing.{prev_at}
use Rattle.fst_map.proofs.cursor.FstCursor.prev.Goals as goal

pub invariant_of-self-2 : goal.invariant_of-self-2
invariant_of-self-2 g c =
    let i = c.self.inside in
    prev_at i.bytes.now i.parts i.leaf i.buffer i.len c.self.invariant c.prev.new.self c.prev.result c.stub-self-inside.new.out i.buffer c.stub-self-inside.result
    c.prev.ensures.moved c.stub-self-inside.ensures.stub c.stub-self-inside.ensures.count
