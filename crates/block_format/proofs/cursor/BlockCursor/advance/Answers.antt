use Rattle.std.proofs.Common.{◌∙◌}
use Rattle.block_format.specs.Walking.{key_held}
use Rattle.block_format.proofs.AtHand.{goes_on_at_hand, is_at_hand}
use Rattle.block_format.proofs.cursor.BlockCursor.advance.Goals as goal

pub returns-clause-said : goal.returns-clause-said
returns-clause-said c = c.is_some.ensures ∙ is_at_hand c.advance-place.result (key_held c.advance-place.new.self c.advance-place.new.buffer) c.self.inside.bytes.now

pub returns-clause-goes_on : goal.returns-clause-goes_on
returns-clause-goes_on c =
    rw (← c.self.view_is) (goes_on_at_hand c.advance-place.result (key_held c.advance-place.new.self c.advance-place.new.buffer) c.self.inside.bytes.now _ _ _ c.advance-place.ensures.entries)
