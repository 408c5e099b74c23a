use Rattle.std.proofs.Common.{refl}
use Rattle.std.specs.Fmt.{digits}
use Rattle.hex.specs.Hex.{decode_pairs, encode_with}
use Rattle.map_run_model.proofs.examples.replies_of_a_map.Goals as goal

pub returns-clause-gets : goal.returns-clause-gets
unfolding digits decode_pairs encode_with
returns-clause-gets c = refl

pub returns-clause-counts : goal.returns-clause-counts
unfolding digits decode_pairs encode_with
returns-clause-counts c = refl

pub returns-clause-seeks : goal.returns-clause-seeks
unfolding digits decode_pairs encode_with
returns-clause-seeks c = refl

pub returns-clause-ranges : goal.returns-clause-ranges
unfolding digits decode_pairs encode_with
returns-clause-ranges c = refl

pub returns-clause-others : goal.returns-clause-others
unfolding digits decode_pairs encode_with
returns-clause-others c = refl
