use Rattle.std.proofs.Common.{take, drop}
use Rattle.extent_map.proofs.Search.{Searched}
use Rattle.extent_map.proofs.extents.Extents.gap.Given as goal

abbrev pub invariant-loop-first : goal.invariant-loop-first
invariant-loop-first l = Searched l.fn.self.pages l.need l.free l.largest (take l.first-index l.first-items) (drop l.first-index l.first-items)
