use Rattle.range_model.proofs.Clearing.{cleared_inside, cleared_elsewhere, clear_rises, clear_crossed}
use Rattle.range_model.proofs.laws.clear_laws.Goals as goal

pub returns : goal.returns
returns c = record { inside = cleared_inside; elsewhere = cleared_elsewhere; rises = clear_rises; crossed = clear_crossed }
