use Rattle.std.proofs.Common.{◌≡◌, ◌-◌, ◌<◌, ◌≤◌, ℕ, [], List, length, get_or, arith, subst, sym, ap}
use Rattle.std.specs.List.Sorted.{IsPartitionPoint, IsNonDecreasingBy}
use Rattle.std.specs.Ordering.{ordering_index}
use Rattle.std.specs.declared.cmp.Ordering.TheVariants.{Less, Equal, Greater}
use Rattle.arrayvec.specs.ArrayVec.{ArrayVec}
use Rattle.map_model.specs.SortedMap.{byte_order}
use Rattle.mem_table.specs.Chunks.{entry_at, first_in}
use Rattle.mem_table.proofs.Flat.{first_place, first_gap, place_from, gap_from}
use Rattle.mem_table.proofs.Found.{chunks_ordered, within_ordered, found_at, missing_first, missing_within}
use Rattle.mem_table.proofs.search.spot_of.Goals as goal

pub returns-in-Ok-clause-place : goal.returns-in-Ok-clause-place
returns-in-Ok-clause-place c = first_place c.args.chunks.now c.in-Ok.chunk c.requires.some c.in-Ok.ensures.range

pub returns-in-Ok-clause-found : goal.returns-in-Ok-clause-found
returns-in-Ok-clause-found c =
    found_at c.args.key.now c.args.entries.now c.args.chunks.now c.requires c.in-Ok.chunk 0 (record { items = [] }) (returns-in-Ok-clause-place c) (c.in-Ok.ensures.result (record { items = [] }))

pub returns-then-behind-eq0-clause-gap : goal.returns-then-behind-eq0-clause-gap
returns-then-behind-eq0-clause-gap c = first_gap c.args.chunks.now

pub returns-then-behind-eq0-clause-missing : goal.returns-then-behind-eq0-clause-missing
returns-then-behind-eq0-clause-missing c =
    missing_first c.args.key.now c.args.entries.now c.args.chunks.now c.requires
    (subst (λ (n : ℕ). IsPartitionPoint (λ (x : ArrayVec ℕ). byte_order (first_in c.args.entries.now x).key c.args.key.now ≡ Less) (λ (x : ArrayVec ℕ). byte_order (first_in c.args.entries.now x).key c.args.key.now ≡ Greater) c.args.chunks.now n)
    c.if-behind-eq0.true (c.in-Err.ensures.result (chunks_ordered c.args.key.now c.args.entries.now c.args.chunks.now c.requires)))

pub returns-in-Ok-within_of-clause-place : goal.returns-in-Ok-within_of-clause-place
returns-in-Ok-within_of-clause-place c =
    let chunk = c.index-chunks-chunk.result in
    place_from c.args.chunks.now (c.in-Err.behind - 1) c.in-Ok-within_of.within chunk (omega (arith, c.if-behind-eq0.false, c.in-Err.ensures.range))
    (subst (λ (x : ArrayVec ℕ). c.in-Ok-within_of.within < length x.items) c.index-chunks-chunk.is c.in-Ok-within_of.ensures.range)

pub returns-in-Ok-within_of-clause-found : goal.returns-in-Ok-within_of-clause-found
returns-in-Ok-within_of-clause-found c =
    let chunk = c.index-chunks-chunk.result in
    found_at c.args.key.now c.args.entries.now c.args.chunks.now c.requires (c.in-Err.behind - 1) c.in-Ok-within_of.within chunk (returns-in-Ok-within_of-clause-place c)
    (subst (λ (x : ArrayVec ℕ). byte_order (entry_at c.args.entries.now (get_or x.items c.in-Ok-within_of.within 0)).key c.args.key.now ≡ Equal) c.index-chunks-chunk.is (c.in-Ok-within_of.ensures.result 0))

pub returns-in-Err-within_of-clause-gap : goal.returns-in-Err-within_of-clause-gap
returns-in-Err-within_of-clause-gap c =
    let chunk = c.index-chunks-chunk.result in
    gap_from c.args.chunks.now (c.in-Err.behind - 1) c.in-Err-within_of.within chunk (omega (arith, c.if-behind-eq0.false, c.in-Err.ensures.range))
    (subst (λ (x : ArrayVec ℕ). c.in-Err-within_of.within ≤ length x.items) c.index-chunks-chunk.is c.in-Err-within_of.ensures.range)

pub returns-in-Err-within_of-clause-missing : goal.returns-in-Err-within_of-clause-missing
returns-in-Err-within_of-clause-missing c =
    let key = c.args.key.now in
    let entries = c.args.entries.now in
    let chunks = c.args.chunks.now in
    let chunk = c.index-chunks-chunk.result in
    let at = c.in-Err.behind - 1 in
    let within = c.in-Err-within_of.within in
    let lt : at < length chunks = omega (arith, c.if-behind-eq0.false, c.in-Err.ensures.range) in
    let same : (get_or chunks at chunk).items ≡ chunk.items = ap (λ (x : ArrayVec ℕ). x.items) (sym c.index-chunks-chunk.is) in
    let point : (places : List ℕ) → Type 0 = λ places. IsPartitionPoint (λ (p : ℕ). byte_order (entry_at entries p).key key ≡ Less) (λ (p : ℕ). byte_order (entry_at entries p).key key ≡ Greater) places within in
    missing_within key entries chunks c.requires at within c.in-Err.behind chunk lt (omega (arith, c.if-behind-eq0.false))
    (subst (λ (x : ArrayVec ℕ). within ≤ length x.items) c.index-chunks-chunk.is c.in-Err-within_of.ensures.range)
    (c.in-Err.ensures.result (chunks_ordered key entries chunks c.requires))
    (subst point (sym same) (c.in-Err-within_of.ensures.result
    (subst (λ (places : List ℕ). IsNonDecreasingBy (λ p. ordering_index (byte_order (entry_at entries p).key key)) places) same (within_ordered key entries chunks c.requires at chunk lt))))
