use Rattle.std.proofs.Common.{◌∙◌, ◌+◌, ℕ, sym, ap, ap₂, arith, length, sum_by}
use Rattle.table_model.specs.Tables.{filter_bytes_of}
use Rattle.store_core.specs.StoreValue.{StoreValue}
use Rattle.store_core.specs.Telling.{tally_of}
use Rattle.store_core.proofs.Countings.{between_count, memory_few, memory_rises, tables_few}
use Rattle.store_core.proofs.Tellings.{seen_estimate}
use Rattle.store_core.proofs.store.Store.estimate.Goals as goal

pub entries_between-in_memory-requires : goal.entries_between-in_memory-requires
entries_between-in_memory-requires g c = record {
  rises = memory_rises _ _ c.self.invariant.0.changes;
  some = omega (arith, memory_few _ _ c.self.invariant.0.changes);
}

pub overflow_add-result : goal.overflow_add-result
overflow_add-result g c =
    let few = tables_few _ c.self.invariant.0 in
    omega (arith, c.entries_between-in_memory.ensures.few, memory_few _ _ c.self.invariant.0.changes, c.tallies.ensures.small, ap length c.as_slice.ensures, few)

pub returns-clause-answer : goal.returns-clause-answer
returns-clause-answer g c s image seen =
    let low = c.args.low.now in
    let high = c.args.high.now in
    let order = sym c.is_crossed.ensures ∙ c.if-is_crossed.false in
    let told = seen_estimate g.F.RangeFilter.spelling (filter_bytes_of g.F.RangeFilter.spelling g.F.RangeFilter.built_cutoff) c.args.self.now s image seen low high order in
    let entries = c.entries_between-in_memory.ensures.count ∙ ap (λ (k : StoreValue). between_count low high k.memory.entries) c.self.view_is in
    let tables = c.tallies.ensures.sum ∙ ap (sum_by (tally_of low high)) (c.as_slice.ensures ∙ ap (λ (k : StoreValue). k.tables) c.self.view_is) in
    ap₂ (λ (n m : ℕ). n + m) entries tables ∙ told
