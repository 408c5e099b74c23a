use Rattle.std.proofs.Common.{rules, ◌≡◌, ◌<◌, ◌≤◌, ◌+◌, ◌-◌, ◌++◌, ◌∙◌, take, suc, sym, ap, arith, length, drop, get_or, ℕ, List}
use Rattle.std.proofs.lemmas.List.{take_rest, drop_all}
use Rattle.arrayvec.specs.ArrayVec.{ArrayVec}
use Rattle.mem_table.specs.Chunks.{flat, flat_at, IsGap}
use Rattle.mem_table.proofs.Flat.{gap_chunk, end_at, flat_from}
use Rattle.mem_table.proofs.chunks.rest_from.Goals as goal

-- the gap is in the chunk that is read
inside : (chunks : List (ArrayVec ℕ)) (at within : ℕ) (chunk : ArrayVec ℕ) (places : List ℕ) → IsGap chunks at within → at < length chunks → places ≡ chunk.items → chunk ≡ get_or chunks at chunk → within ≤ length places
inside chunks at within chunk places gap lt items is =
    let all : places ≡ (get_or chunks at chunk).items = items ∙ ap (λ (x : ArrayVec ℕ). x.items) is in
    rw all (gap_chunk chunks at within chunk gap lt)

pub returns-then-chunk-chunks-clause-rest : goal.returns-then-chunk-chunks-clause-rest
returns-then-chunk-chunks-clause-rest c =
    sym (drop_all (flat_at c.args.chunks.now c.args.spot.chunk c.args.spot.within) (flat c.args.chunks.now) (omega (arith, end_at c.args.chunks.now c.args.spot.chunk c.args.spot.within c.if-chunk-chunks.true)))

pub slice_bounds-result-count : goal.slice_bounds-result-count
slice_bounds-result-count c = inside c.args.chunks.now c.args.spot.chunk c.args.spot.within c.index-chunks-chunk.result c.as_slice-here.result.now c.requires c.if-chunk-chunks.false c.as_slice-here.ensures.value c.index-chunks-chunk.is

pub offset_bounds-here-within : goal.offset_bounds-here-within
offset_bounds-here-within c =
    let le : c.args.spot.within ≤ length c.as_slice-here.result.now = inside c.args.chunks.now c.args.spot.chunk c.args.spot.within c.index-chunks-chunk.result c.as_slice-here.result.now c.requires c.if-chunk-chunks.false c.as_slice-here.ensures.value c.index-chunks-chunk.is in
    search rules

pub slice_bounds-result-start : goal.slice_bounds-result-start
slice_bounds-result-start c =
    let le : c.args.spot.within ≤ length c.as_slice-here.result.now = inside c.args.chunks.now c.args.spot.chunk c.args.spot.within c.index-chunks-chunk.result c.as_slice-here.result.now c.requires c.if-chunk-chunks.false c.as_slice-here.ensures.value c.index-chunks-chunk.is in
    search rules

pub returns-clause-rest : goal.returns-clause-rest
returns-clause-rest c =
    let chunks = c.args.chunks.now in
    let at = c.args.spot.chunk in
    let within = c.args.spot.within in
    let chunk = c.index-chunks-chunk.result in
    let all : c.as_slice-here.result.now ≡ (get_or chunks at chunk).items = c.as_slice-here.ensures.value ∙ ap (λ (x : ArrayVec ℕ). x.items) c.index-chunks-chunk.is in
    let next : at + 1 ≡ suc at = omega arith in
    ap (λ (ps : List ℕ). ps ++ flat (take (length chunks - (at + 1)) (drop (at + 1) chunks))) (take_rest c.as_slice-here.result.now within ∙ ap (drop within) all)
    ∙ ap (λ (more : List (ArrayVec ℕ)). drop within (get_or chunks at chunk).items ++ flat more) (take_rest chunks (at + 1) ∙ ap (λ (n : ℕ). drop n chunks) next)
    ∙ sym (flat_from chunks at within chunk c.if-chunk-chunks.false (gap_chunk chunks at within chunk c.requires c.if-chunk-chunks.false))
