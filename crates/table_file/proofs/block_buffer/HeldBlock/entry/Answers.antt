use Rattle.std.proofs.Common.{◌≡◌, ◌≤◌, ◌∙◌, length, sym, ap, subst}
use Rattle.std.specs.Prelude.{Option, Some, IfSome}
use Rattle.std.specs.Option.{option_map}
use Rattle.map_model.specs.SortedMap.{Bytes}
use Rattle.entry_model.specs.Entries.{Entry, IsEntry, entry_of}
use Rattle.block_format.specs.Walking.{LiesIn, at_hand, key_held, value_at}
use Rattle.block_format.proofs.AtHand.{at_hand_is, none_at_hand}
use Rattle.table_file.specs.Walks.{BlockInHand}
use Rattle.table_file.proofs.block_buffer.HeldBlock.entry.Goals as goal

pub key-requires : goal.key-requires
key-requires c = subst (λ (b : Bytes). c.self.inside.walk.key_length ≤ length b) (sym c.deref.ensures.value) c.self.invariant.2.held

pub value_of-requires : goal.value_of-requires
value_of-requires c = subst (λ (b : Bytes). LiesIn c.in-Some.place b) (sym c.deref-in-Some.ensures.value) (rw c.in-Some.is at c.self.invariant.3)

pub returns-in-Some-clause-now : goal.returns-in-Some-clause-now
returns-in-Some-clause-now c =
    let inside = c.self.inside in
    at_hand_is inside.place c.in-Some.place (key_held inside.walk inside.key.items) inside.bytes.items c.key.result.now (option_map (λ v. v.now) c.value_of.result) c.in-Some.is
    (c.key.ensures ∙ ap (key_held inside.walk) c.deref.ensures.value)
    (c.value_of.ensures ∙ ap (value_at c.in-Some.place) c.deref-in-Some.ensures.value)
    ∙ ap (λ (s : BlockInHand). s.now) c.self.view_is

pub returns-in-Some-clause-sound : goal.returns-in-Some-clause-sound
returns-in-Some-clause-sound c =
    let inside = c.self.inside in
    let here : Some (entry_of c.key.result.now (option_map (λ v. v.now) c.value_of.result)) ≡ at_hand inside.place (key_held inside.walk inside.key.items) inside.bytes.items =
    at_hand_is inside.place c.in-Some.place (key_held inside.walk inside.key.items) inside.bytes.items c.key.result.now (option_map (λ v. v.now) c.value_of.result) c.in-Some.is
    (c.key.ensures ∙ ap (key_held inside.walk) c.deref.ensures.value)
    (c.value_of.ensures ∙ ap (value_at c.in-Some.place) c.deref-in-Some.ensures.value) in
    subst (λ (o : Option Entry). IfSome o IsEntry) (sym here) c.self.invariant.4

pub returns-in-None-clause-now : goal.returns-in-None-clause-now
returns-in-None-clause-now c =
    let inside = c.self.inside in
    none_at_hand inside.place (key_held inside.walk inside.key.items) inside.bytes.items c.in-None.is ∙ ap (λ (s : BlockInHand). s.now) c.self.view_is
