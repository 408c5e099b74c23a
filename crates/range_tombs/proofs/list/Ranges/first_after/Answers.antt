use Rattle.std.proofs.Common.{rules, of_calls, sym, ap, ◌∙◌, subst}
use Rattle.std.specs.List.Sorted.{IsPartitionedBy}
use Rattle.std.proofs.lemmas.List.Sorted.{IsPartitionPoint-from_clause}
use Rattle.range_tombs.specs.Lists.{RangeList}
use Rattle.range_tombs.proofs.Searches.{ends_by, parted, place_of_tests}
use Rattle.range_tombs.proofs.list.Ranges.first_after.Goals as goal

pub returns-clause-place : goal.returns-clause-place
returns-clause-place c =
    let key = c.args.key.now in
    let is = c.deref.ensures.value ∙ ap (λ (r : RangeList). r.ranges) c.self.view_is in
    let sorted = subst (IsPartitionedBy (ends_by key)) (sym c.deref.ensures.value) (parted key c.self.inside.list.items c.self.invariant.0.are c.self.invariant.0.rise) in
    let place = IsPartitionPoint-from_clause (ends_by key) c.deref.result.now c.partition_point.result c.partition_point.ensures.partitioned sorted (λ a r f k. search (rules, of_calls)) in
    place_of_tests key c.deref.result.now c.args.self.now.ranges c.partition_point.result is place
