use Rattle.std.proofs.Common.{rules, ◌≡◌, ◌<◌, ◌∙◌, ap, [], length, ℕ, List, get_or}
use Rattle.arrayvec.specs.ArrayVec.{ArrayVec}
use Rattle.mem_table.specs.Chunks.{IsPlace}
use Rattle.mem_table.proofs.Flat.{place_chunk, place_is}
use Rattle.mem_table.proofs.chunks.place_at.Goals as goal

-- the place is in the chunk that is read
ends_below : (chunks : List (ArrayVec ℕ)) (at within : ℕ) (chunk : ArrayVec ℕ) (places : List ℕ) → IsPlace chunks at within → places ≡ chunk.items → chunk ≡ get_or chunks at chunk → within < length places
ends_below chunks at within chunk places place items is =
    let all : places ≡ (get_or chunks at chunk).items = items ∙ ap (λ (x : ArrayVec ℕ). x.items) is in
    rw all (place_chunk chunks at within chunk place).1

pub offset_bounds-chunks-spot : goal.offset_bounds-chunks-spot
offset_bounds-chunks-spot c =
    let below : c.args.spot.chunk < length c.args.chunks.now = (place_chunk c.args.chunks.now c.args.spot.chunk c.args.spot.within (record { items = [] }) c.requires).0 in
    search rules

pub bounds-chunks-spot : goal.bounds-chunks-spot
bounds-chunks-spot c = (place_chunk c.args.chunks.now c.args.spot.chunk c.args.spot.within (record { items = [] }) c.requires).0

pub bounds-as_slice-spot : goal.bounds-as_slice-spot
bounds-as_slice-spot c = ends_below c.args.chunks.now c.args.spot.chunk c.args.spot.within c.index-chunks-spot.result c.as_slice.result.now c.requires c.as_slice.ensures.value c.index-chunks-spot.is

pub offset_bounds-as_slice-spot : goal.offset_bounds-as_slice-spot
offset_bounds-as_slice-spot c =
    let chunk = c.index-chunks-spot.result in
    let below : c.args.spot.within < length c.as_slice.result.now = ends_below c.args.chunks.now c.args.spot.chunk c.args.spot.within chunk c.as_slice.result.now c.requires c.as_slice.ensures.value c.index-chunks-spot.is in
    search rules

pub returns : goal.returns
returns c =
    let chunk = c.index-chunks-spot.result in
    ap (λ (ps : List ℕ). get_or ps c.args.spot.within 0) (c.as_slice.ensures.value ∙ ap (λ (x : ArrayVec ℕ). x.items) c.index-chunks-spot.is)
    ∙ place_is c.args.chunks.now c.args.spot.chunk c.args.spot.within 0 chunk c.requires
