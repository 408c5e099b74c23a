use Rattle.std.proofs.lemmas.Fn.{always_returns_same}
use Rattle.std.proofs.Common.{rules}
use Rattle.map_model.specs.SortedMap.{byte_order}
use Rattle.mem_table.specs.Chunks.{first_in}
use Rattle.mem_table.proofs.search.chunk_of.Goals as goal

pub returns-clause-result : goal.returns-clause-result
returns-clause-result c = c.binary_search_by.ensures.position (λ chunk. byte_order (first_in c.args.entries.now chunk).key c.args.key.now) (always_returns_same _ _ _ (λ a r f' k. search rules))
