use Rattle.waking_keys.proofs.Near.{nothing_before_waking, nothing_without_waking, waking_is_admitted}
use Rattle.waking_keys.proofs.laws.waking_keys_are_near.Goals as goal

pub returns : goal.returns
returns c = record { before = nothing_before_waking; none = nothing_without_waking; admitted = waking_is_admitted }
