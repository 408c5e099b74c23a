use Rattle.std.proofs.Common.{◌∙◌, ap, sym}
use Rattle.std.specs.Prelude.{Some}
use Rattle.fst_map.proofs.Asked.{got, leaf_list, not_got, offsets_kept, slot_fits, slot_low}
use Rattle.fst_map.proofs.map.FstMap.get.Goals as goal
use Rattle.map_file_model.specs.Maps.{Bytes, Map, get}

pub key_slot-requires : goal.key_slot-requires
key_slot-requires g c = let i = c.self.inside in leaf_list i.bytes.now i.parts i.trie c.self.invariant

pub overflow_cast-slot : goal.overflow_cast-slot
overflow_cast-slot g c = let i = c.self.inside in record { fits = slot_fits i.bytes.now i.parts i.trie c.self.invariant c.in-Some.slot c.args.key.now c.in-Some.ensures }

pub value_in-requires : goal.value_in-requires
value_in-requires g c =
    let i = c.self.inside in
    let o = c.self.invariant in
    record { has = o.has; parts = o.parts_are; rising = offsets_kept i.bytes.now o.no_fault; within = slot_low i.bytes.now i.parts i.trie o c.in-Some.slot c.args.key.now c.in-Some.ensures }

pub returns-in-Some : goal.returns-in-Some
returns-in-Some g c =
    let i = c.self.inside in
    ap (λ (v : Bytes). Some v) c.value_in.ensures ∙ sym (got i.bytes.now i.parts i.trie c.self.invariant c.in-Some.slot c.args.key.now c.in-Some.ensures)
    ∙ ap (λ (m : Map). get m c.args.key.now) c.self.view_is

pub returns-in-None : goal.returns-in-None
returns-in-None g c =
    let i = c.self.inside in
    sym (not_got i.bytes.now i.parts i.trie c.self.invariant c.args.key.now c.in-None.ensures) ∙ ap (λ (m : Map). get m c.args.key.now) c.self.view_is
