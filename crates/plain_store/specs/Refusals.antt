-- The code's refusals as the definitions see them.
use Rattle.std.specs.Prelude.{Result}
use Rattle.std.specs.Result.{result_map_both}
use Rattle.state_model.specs.State.{State}
use Rattle.line_model.specs.Replies as model
use Rattle.plain_store.specs.declared.changes.Refusal.{Refusal}
use Rattle.plain_store.specs.declared.changes.Refusal.TheVariants.{ManyTables, LastEpoch, Full}

abbrev pub refusal_reply : Refusal → model.Reply
refusal_reply ManyTables = model.ManyTables
refusal_reply LastEpoch = model.LastEpoch
refusal_reply (Full need gap) = model.Full need gap

-- a changed state, or the reply to what was refused
abbrev pub as_replied : Result State Refusal → Result State model.Reply
as_replied result = result_map_both (λ s. s) refusal_reply result
