use Rattle.std.proofs.Common.{◌∙◌, sym}
use Rattle.std.proofs.lemmas.List.{drop-map}
use Rattle.mem_table.specs.Chunks.{flat, flat_at, in_order, entry_at}
use Rattle.mem_table.proofs.Flat.{gap_of_place}
use Rattle.mem_table.proofs.Places.{from_found, from_gap}
use Rattle.mem_table.proofs.search.first_from.Goals as goal

pub returns-in-Ok-clause-gap : goal.returns-in-Ok-clause-gap
returns-in-Ok-clause-gap c = gap_of_place c.args.chunks.now c.in-Ok.spot.chunk c.in-Ok.spot.within c.in-Ok.ensures.place

pub returns-in-Ok-clause-from : goal.returns-in-Ok-clause-from
returns-in-Ok-clause-from c =
    let at = flat_at c.args.chunks.now c.in-Ok.spot.chunk c.in-Ok.spot.within in
    sym (drop-map (entry_at c.args.entries.now) at (flat c.args.chunks.now))
    ∙ sym (from_found (in_order c.args.entries.now (flat c.args.chunks.now)) c.args.key.now at c.in-Ok.ensures.found c.requires.rises)

pub returns-in-Err-clause-from : goal.returns-in-Err-clause-from
returns-in-Err-clause-from c =
    let at = flat_at c.args.chunks.now c.in-Err.spot.chunk c.in-Err.spot.within in
    sym (drop-map (entry_at c.args.entries.now) at (flat c.args.chunks.now))
    ∙ sym (from_gap (in_order c.args.entries.now (flat c.args.chunks.now)) c.args.key.now at c.in-Err.ensures.missing)
