use Rattle.std.proofs.Common.{◌∙◌, ap}
use Rattle.std.specs.Option.{option_map}
use Rattle.block_format.specs.Walking.{EntriesLeft, key_held}
use Rattle.block_format.proofs.AtHand.{at_hand_is, none_at_hand}
use Rattle.block_format.proofs.cursor.BlockCursor.entry.Goals as goal

pub key-requires : goal.key-requires
key-requires c = c.self.invariant.0.held

pub value_of-requires : goal.value_of-requires
value_of-requires c = rw c.in-Some.is at c.self.invariant.1

pub returns-in-Some : goal.returns-in-Some
returns-in-Some c =
    let inside = c.self.inside in
    at_hand_is inside.place c.in-Some.place (key_held inside.walk inside.buffer) inside.bytes.now c.key.result.now (option_map (λ v. v.now) c.value_of.result) c.in-Some.is c.key.ensures c.value_of.ensures
    ∙ ap (λ (s : EntriesLeft). s.now) c.self.view_is

pub returns-in-None : goal.returns-in-None
returns-in-None c =
    let inside = c.self.inside in
    none_at_hand inside.place (key_held inside.walk inside.buffer) inside.bytes.now c.in-None.is ∙ ap (λ (s : EntriesLeft). s.now) c.self.view_is
