use Rattle.std.proofs.Common.{Err}
use Rattle.surf_filter.proofs.Refusals.{first_fault_is, place_in}
use Rattle.surf_filter.proofs.filter.SurfFilter.decode_in.Goals as goal

pub returns-in-Err-clause-fault : goal.returns-in-Err-clause-fault
returns-in-Err-clause-fault g c f e = first_fault_is c.args.bytes.now (Err c.in-Err.error) f c.in-Err.ensures.refused e

pub returns-in-Err-clause-place : goal.returns-in-Err-clause-place
returns-in-Err-clause-place g c f e = place_in c.args.bytes.now (Err c.in-Err.error) f c.in-Err.ensures.refused e
