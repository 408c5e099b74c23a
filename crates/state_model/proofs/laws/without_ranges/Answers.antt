use Rattle.state_model.proofs.WithoutRanges.{memory_alone, sets_of, merged_alone, planned_alone, live_alone, compacted_alone, found_alone, view_alone, changes_alone, map_alone, meets_alone, filled_alone, gap_alone}
use Rattle.state_model.proofs.NoRanges.{installed_no_range, placed_no_range}
use Rattle.state_model.proofs.laws.without_ranges.Goals as goal

pub returns : goal.returns
returns c = record {
  newest = memory_alone;
  changes = sets_of;
  merged = merged_alone;
  outputs = planned_alone;
  live = live_alone;
  compacted = compacted_alone;
  found = found_alone;
  viewed = view_alone;
  all = changes_alone;
  map_is = map_alone;
  meeting = meets_alone;
  filled_so = filled_alone;
  gap_so = gap_alone;
  placed_so = placed_no_range;
  installed_so = installed_no_range;
}
