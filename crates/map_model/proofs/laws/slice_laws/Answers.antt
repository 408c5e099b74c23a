use Rattle.map_model.proofs.Between.{within, outside, short, whole, slice_rises, slice_crossed}
use Rattle.map_model.proofs.laws.slice_laws.Goals as goal

pub returns : goal.returns
returns c = record {
  within = within;
  outside = outside;
  short = short;
  whole = whole;
  rises = slice_rises;
  crossed = slice_crossed;
}
