use Rattle.std.proofs.Common.{◌<◌, arith}
use Rattle.state_model.proofs.examples.what_is_not_of_bytes.Goals as goal

pub returns-clause-a_key : goal.returns-clause-a_key
returns-clause-a_key c = λ bytes. let wrong : 256 < 256 = bytes 0 in omega (arith, wrong)

pub returns-clause-a_bound : goal.returns-clause-a_bound
returns-clause-a_bound c = λ bytes. let wrong : 256 < 256 = bytes.1 0 in omega (arith, wrong)

pub returns-clause-a_lower_bound : goal.returns-clause-a_lower_bound
returns-clause-a_lower_bound c = λ bytes. let wrong : 256 < 256 = bytes 0 in omega (arith, wrong)

pub returns-clause-a_lower_bound_of_two : goal.returns-clause-a_lower_bound_of_two
returns-clause-a_lower_bound_of_two c = λ bytes. let wrong : 256 < 256 = bytes.0 0 in omega (arith, wrong)

pub returns-clause-a_bound_of_a_range : goal.returns-clause-a_bound_of_a_range
returns-clause-a_bound_of_a_range c = λ bytes. let wrong : 256 < 256 = bytes.1 0 in omega (arith, wrong)

pub returns-clause-a_bound_of_a_count : goal.returns-clause-a_bound_of_a_count
returns-clause-a_bound_of_a_count c = λ bytes. let wrong : 256 < 256 = bytes.0 0 in omega (arith, wrong)

pub returns-clause-a_bound_of_an_estimate : goal.returns-clause-a_bound_of_an_estimate
returns-clause-a_bound_of_an_estimate c = λ bytes. let wrong : 256 < 256 = bytes.1 0 in omega (arith, wrong)

pub returns-clause-an_explained_key : goal.returns-clause-an_explained_key
returns-clause-an_explained_key c = λ bytes. let wrong : 256 < 256 = bytes 0 in omega (arith, wrong)
