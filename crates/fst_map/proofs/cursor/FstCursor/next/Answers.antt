use Rattle.std.proofs.Common.{◌<◌, ◌+◌, true, false, length, subst}
use Rattle.std.specs.Prelude.{◌↔◌, IsTrue}
use Rattle.fst_map.proofs.Standing.{end_is, next_at}
use Rattle.fst_map.proofs.cursor.FstCursor.next.Goals as goal
use Rattle.fst_map.specs.Places.{Place}

pub returns-then-not-next-clause-end : goal.returns-then-not-next-clause-end
returns-then-not-next-clause-end g c =
    let i = c.self.inside in
    subst (λ (p : Place). IsTrue false ↔ (p.number + 1 < length p.map)) c.self.view_is (end_is i.bytes.now i.parts i.leaf i.buffer i.len c.self.invariant c.next.result false c.if-not-next.true c.next.ensures.end)

pub invariant_of-self-2 : goal.invariant_of-self-2
invariant_of-self-2 g c =
    let i = c.self.inside in
    next_at i.bytes.now i.parts i.leaf i.buffer i.len c.self.invariant c.next.new.self c.next.result c.stub-self-inside.new.out i.buffer c.stub-self-inside.result
    c.next.ensures.moved c.next.ensures.end c.if-not-next.false c.stub-self-inside.ensures.stub c.stub-self-inside.ensures.count

pub returns-clause-end : goal.returns-clause-end
returns-clause-end g c =
    let i = c.self.inside in
    subst (λ (p : Place). IsTrue true ↔ (p.number + 1 < length p.map)) c.self.view_is (end_is i.bytes.now i.parts i.leaf i.buffer i.len c.self.invariant c.next.result true c.if-not-next.false c.next.ensures.end)
