use Rattle.std.proofs.Common.{List, ℕ, subst, rules}
use Rattle.std.specs.List.Sorted.{IsBinarySearchResult}
use Rattle.std.proofs.lemmas.Fn.{always_returns_same}
use Rattle.map_model.specs.SortedMap.{byte_order}
use Rattle.mem_table.specs.Chunks.{entry_at}
use Rattle.mem_table.proofs.search.within_of.Goals as goal

pub returns-clause-result : goal.returns-clause-result
returns-clause-result c =
    subst (λ (places : List ℕ). IsBinarySearchResult (λ place. byte_order (entry_at c.args.entries.now place).key c.args.key.now) places c.binary_search_by.result) c.as_slice.ensures.value
    (c.binary_search_by.ensures.position (λ place. byte_order (entry_at c.args.entries.now place).key c.args.key.now) (always_returns_same _ _ _ (λ a r f' k. search rules)))
