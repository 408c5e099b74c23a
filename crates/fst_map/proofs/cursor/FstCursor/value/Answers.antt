use Rattle.std.proofs.Common.{◌∙◌, ap, sym}
use Rattle.std.specs.Prelude.{Some, slice_get}
use Rattle.std.specs.Option.{option_map}
use Rattle.fst_map.proofs.Asked.{offsets_kept}
use Rattle.fst_map.proofs.Standing.{slot_is_low, slot_is_short, value_is}
use Rattle.fst_map.proofs.cursor.FstCursor.value.Goals as goal
use Rattle.fst_map.specs.Places.{Place}
use Rattle.map_file_model.specs.Maps.{Bytes}

pub overflow_cast-slot : goal.overflow_cast-slot
overflow_cast-slot g c = let i = c.self.inside in record { fits = slot_is_short i.bytes.now i.parts i.leaf i.buffer i.len c.self.invariant c.slot.result c.slot.ensures }

pub value_in-requires-clause-rising : goal.value_in-requires-clause-rising
value_in-requires-clause-rising g c = offsets_kept c.self.inside.bytes.now c.self.invariant.opened.no_fault

pub value_in-requires-clause-within : goal.value_in-requires-clause-within
value_in-requires-clause-within g c = let i = c.self.inside in slot_is_low i.bytes.now i.parts i.leaf i.buffer i.len c.self.invariant c.slot.result c.slot.ensures

pub returns : goal.returns
returns g c =
    let i = c.self.inside in
    ap (λ (p : Place). option_map (λ pair. pair.1) (slice_get p.map p.number)) (sym c.self.view_is) ∙ value_is i.bytes.now i.parts i.leaf i.buffer i.len c.self.invariant c.slot.result c.slot.ensures
    ∙ ap (λ (v : Bytes). Some v) (sym c.value_in.ensures)
