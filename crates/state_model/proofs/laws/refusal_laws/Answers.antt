use Rattle.state_model.proofs.Limited.{broken_limits, limits_broken}
use Rattle.state_model.proofs.Reasons.{gives_reply, only_so}
use Rattle.state_model.proofs.Rooms.{wants_more, flush_refused, flush_wants_more}
use Rattle.state_model.proofs.laws.refusal_laws.Goals as goal

pub returns : goal.returns
returns c = record { gives = gives_reply; only = only_so; limits = broken_limits; limits_only = limits_broken; room = wants_more; flush_room = flush_refused; flush_room_only = flush_wants_more }
