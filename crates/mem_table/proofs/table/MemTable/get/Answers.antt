use Rattle.std.proofs.Common.{◌∙◌, sym, ap}
use Rattle.std.specs.Prelude.{Option, Some}
use Rattle.map_model.specs.SortedMap.{Bytes}
use Rattle.mem_table.specs.Table.{MemoryTable, KeyStandsAt, BelongsAt}
use Rattle.entry_model.specs.Newest.{lookup}
use Rattle.mem_table.specs.Chunks.{flat, flat_at, in_order, IsPlace}
use Rattle.mem_table.proofs.Flat.{place_in}
use Rattle.mem_table.proofs.Places.{lookup_none}
use Rattle.mem_table.proofs.Setting.{looked_up}
use Rattle.mem_table.proofs.table.MemTable.get.Goals as goal

pub returns-in-Ok : goal.returns-in-Ok
returns-in-Ok c =
    let entries = c.self.inside.entries.items in
    let chunks = c.self.inside.chunks.items in
    let at = flat_at chunks c.in-Ok.spot.chunk c.in-Ok.spot.within in
    let place : IsPlace chunks c.in-Ok.spot.chunk c.in-Ok.spot.within = rw (← c.deref-2.ensures.value) c.in-Ok.ensures.place in
    let found : KeyStandsAt at c.args.key.now (in_order entries (flat chunks)) = rw (← c.deref.ensures.value, ← c.deref-2.ensures.value) c.in-Ok.ensures.found in
    ap (λ (v : Option Bytes). Some v) c.value.ensures
    ∙ sym (looked_up entries chunks c.self.invariant.0 at c.args.key.now c.index-entry.result.now c.place_at-place.result found (place_in chunks c.in-Ok.spot.chunk c.in-Ok.spot.within place)
    (rw (← c.deref-in-Ok.ensures.value) c.place_at-place.ensures) c.index-entry.ensures)
    ∙ ap (λ (t : MemoryTable). lookup t.entries c.args.key.now) c.self.view_is

pub returns-in-Err : goal.returns-in-Err
returns-in-Err c =
    let entries = c.self.inside.entries.items in
    let chunks = c.self.inside.chunks.items in
    let at = flat_at chunks c.in-Err.field-0.chunk c.in-Err.field-0.within in
    let missing : BelongsAt at c.args.key.now (in_order entries (flat chunks)) = rw (← c.deref.ensures.value, ← c.deref-2.ensures.value) c.in-Err.ensures.missing in
    sym (lookup_none (in_order entries (flat chunks)) c.args.key.now at missing) ∙ ap (λ (t : MemoryTable). lookup t.entries c.args.key.now) c.self.view_is
