use Rattle.std.proofs.Common.{length, ap}
use Rattle.std.proofs.lemmas.List.{length-map}
use Rattle.mem_table.specs.Table.{MemoryTable}
use Rattle.mem_table.specs.Chunks.{entry_at, flat}
use Rattle.mem_table.proofs.table.MemTable.len.Goals as goal

pub returns : goal.returns
returns c =
    let size = length-map (flat c.self.inside.chunks.items) (entry_at c.self.inside.entries.items) in
    let shown = ap (λ (t : MemoryTable). length t.entries) c.self.view_is in
    cc
