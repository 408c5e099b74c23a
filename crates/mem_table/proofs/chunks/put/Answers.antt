use Rattle.std.proofs.Common.{◌≡◌, ◌+◌, ◌<◌, ◌≤◌, ◌∙◌, suc, sym, ap, arith, length, set, ℕ, List, get_or}
use Rattle.std.specs.Prelude.{insert}
use Rattle.std.proofs.lemmas.List.{get_or_default}
use Rattle.arrayvec.specs.ArrayVec.{ArrayVec, array_vec_len}
use Rattle.mem_table.specs.Chunks.{flat}
use Rattle.mem_table.proofs.Flat.{gap_chunk, flat_set, flat_split, flat_push}
use Rattle.mem_table.proofs.chunks.put.Goals as goal

pub returns-then-chunk-len-clause-placed : goal.returns-then-chunk-len-clause-placed
returns-then-chunk-len-clause-placed c =
    ap flat c.push_reserved.ensures.items
    ∙ flat_push c.args.chunks.now.items c.args.spot.chunk c.args.spot.within c.args.place c.alone.result (omega (arith, c.if-chunk-len.true, c.len.ensures)) c.alone.ensures

-- the gap is in the chunk that is read
in_chunk : (chunks : List (ArrayVec ℕ)) (at within : ℕ) (chunk : ArrayVec ℕ) → within ≤ length (get_or chunks at chunk).items → chunk ≡ get_or chunks at chunk → within ≤ length chunk.items
in_chunk chunks at within chunk le is = rw is le

pub insert-requires : goal.insert-requires
insert-requires c =
    let chunks = c.args.chunks.now.items in
    let chunk = c.index_mut.result.now in
    let below : c.args.spot.chunk < length chunks = omega (arith, c.if-chunk-len.false, c.len.ensures) in
    let same : c.index.result.now ≡ chunk = c.index.ensures ∙ get_or_default chunks c.args.spot.chunk c.index.result.now chunk below ∙ sym c.index_mut.ensures.value in
    let short : array_vec_len chunk < 256 = rw (← same) (omega (arith, c.if-len-lt-CHUNK_PLACES.true, c.len-2.ensures.value)) in
    (omega arith, (in_chunk chunks c.args.spot.chunk c.args.spot.within chunk (gap_chunk chunks c.args.spot.chunk c.args.spot.within chunk c.requires.gap below) c.index_mut.ensures.value, short))

pub returns-then-len-lt-CHUNK_PLACES-clause-placed : goal.returns-then-len-lt-CHUNK_PLACES-clause-placed
returns-then-len-lt-CHUNK_PLACES-clause-placed c =
    flat_set c.args.chunks.now.items c.args.spot.chunk c.args.spot.within c.args.place c.insert.new.self c.index_mut.result.now
    (omega (arith, c.if-chunk-len.false, c.len.ensures)) c.requires.gap
    (c.insert.ensures.items ∙ ap (λ (x : ArrayVec ℕ). insert x.items c.args.spot.within c.args.place) c.index_mut.ensures.value)

pub split-upper-requires-clause-gap : goal.split-upper-requires-clause-gap
split-upper-requires-clause-gap c =
    let chunks = c.args.chunks.now.items in
    let chunk = c.index.result.now in
    let below : c.args.spot.chunk < length chunks = omega (arith, c.if-chunk-len.false, c.len.ensures) in
    omega (arith, in_chunk chunks c.args.spot.chunk c.args.spot.within chunk (gap_chunk chunks c.args.spot.chunk c.args.spot.within chunk c.requires.gap below) c.index.ensures, c.len-2.ensures.value, c.len-2.ensures.fits)

pub returns-clause-placed : goal.returns-clause-placed
returns-clause-placed c =
    let chunks = c.args.chunks.now.items in
    let next : c.args.spot.chunk + 1 ≡ suc c.args.spot.chunk = omega arith in
    ap flat c.in-Ok.ensures.items
    ∙ ap (λ (n : ℕ). flat (insert (set chunks c.args.spot.chunk c.split-upper.new.chunk) n c.split-upper.result)) next
    ∙ flat_split chunks c.args.spot.chunk c.args.spot.within c.args.place c.split-upper.new.chunk c.split-upper.result c.index_mut-2.result.now
    (omega (arith, c.if-chunk-len.false, c.len.ensures)) c.requires.gap
    (c.split-upper.ensures.parts ∙ ap (λ (x : ArrayVec ℕ). insert x.items c.args.spot.within c.args.place) c.index_mut-2.ensures.value)
