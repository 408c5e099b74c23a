use Rattle.std.proofs.Common.{◌≡◌, ◌++◌, ◌∙◌, length, take, drop, ap, arith}
use Rattle.block_format.specs.Walking.{key_held}
use Rattle.block_format.proofs.AtHand.{is_at_hand}
use Rattle.table_file.specs.Walks.{BlockInHand, first_of, others_of}
use Rattle.table_file.proofs.Helds.{IsStep, filled, stepped}
use Rattle.table_file.proofs.block_buffer.HeldBlock.step.Goals as goal

pub invariant_of-self : goal.invariant_of-self
invariant_of-self c =
    let key = c.self.inside.key in
    let bytes = c.self.inside.bytes.items in
    let buffer = c.advance-place.new.buffer in
    let keys = take key.len (buffer ++ drop (length buffer) key.items) in
    let keys_are : keys ≡ buffer = filled key.len buffer key.items (c.advance-place.ensures.room ∙ ap length c.deref_mut.ensures.value) (omega (arith, c.deref_mut.ensures.len)) in
    let step : IsStep c.self.inside.walk c.advance-place.new.self c.advance-place.result key.items keys bytes =
    stepped c.self.inside.walk c.advance-place.new.self c.advance-place.result key.items keys bytes _ buffer _ c.deref_mut.ensures.value keys_are c.deref.ensures.value
    c.advance-place.ensures.stands c.advance-place.ensures.lies c.advance-place.ensures.entries c.self.invariant.5 in (
      c.self.invariant.0,
      ap length keys_are ∙ c.advance-place.ensures.room ∙ ap length c.deref_mut.ensures.value ∙ c.self.invariant.1,
      step.stands,
      step.lies,
      step.now_sound,
      step.later_sound,
    )

pub returns-clause-said : goal.returns-clause-said
returns-clause-said c =
    let key = c.self.inside.key in
    let buffer = c.advance-place.new.buffer in
    c.is_some.ensures ∙ is_at_hand c.advance-place.result (key_held c.advance-place.new.self (take key.len (buffer ++ drop (length buffer) key.items))) c.self.inside.bytes.items

pub returns-clause-now : goal.returns-clause-now
returns-clause-now c =
    let key = c.self.inside.key in
    let bytes = c.self.inside.bytes.items in
    let buffer = c.advance-place.new.buffer in
    let keys = take key.len (buffer ++ drop (length buffer) key.items) in
    let keys_are : keys ≡ buffer = filled key.len buffer key.items (c.advance-place.ensures.room ∙ ap length c.deref_mut.ensures.value) (omega (arith, c.deref_mut.ensures.len)) in
    let step : IsStep c.self.inside.walk c.advance-place.new.self c.advance-place.result key.items keys bytes =
    stepped c.self.inside.walk c.advance-place.new.self c.advance-place.result key.items keys bytes _ buffer _ c.deref_mut.ensures.value keys_are c.deref.ensures.value
    c.advance-place.ensures.stands c.advance-place.ensures.lies c.advance-place.ensures.entries c.self.invariant.5 in
    step.now_is ∙ ap (λ (h : BlockInHand). first_of h.later) c.self.view_is

pub returns-clause-later : goal.returns-clause-later
returns-clause-later c =
    let key = c.self.inside.key in
    let bytes = c.self.inside.bytes.items in
    let buffer = c.advance-place.new.buffer in
    let keys = take key.len (buffer ++ drop (length buffer) key.items) in
    let keys_are : keys ≡ buffer = filled key.len buffer key.items (c.advance-place.ensures.room ∙ ap length c.deref_mut.ensures.value) (omega (arith, c.deref_mut.ensures.len)) in
    let step : IsStep c.self.inside.walk c.advance-place.new.self c.advance-place.result key.items keys bytes =
    stepped c.self.inside.walk c.advance-place.new.self c.advance-place.result key.items keys bytes _ buffer _ c.deref_mut.ensures.value keys_are c.deref.ensures.value
    c.advance-place.ensures.stands c.advance-place.ensures.lies c.advance-place.ensures.entries c.self.invariant.5 in
    step.later_is ∙ ap (λ (h : BlockInHand). others_of h.later) c.self.view_is
