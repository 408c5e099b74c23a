use Rattle.std.proofs.Common.{rules, of_calls, ◌≡◌, nat_lt, sym, ap, ◌∙◌, subst}
use Rattle.std.proofs.lemmas.List.Sorted.{IsPartitionPoint-from_clause, IsPartitionedBy-ltb}
use Rattle.extent_model.specs.Extents.{Extent}
use Rattle.extent_map.specs.Taken.{Taken, RiseFrom}
use Rattle.extent_map.proofs.Order.{never_fall, place_from_tests}
use Rattle.extent_map.proofs.extents.Extents.place_of.Goals as goal

pub returns-clause-place : goal.returns-clause-place
returns-clause-place c =
    let t = c.args.self.now in
    let xs = c.as_slice.result.now in
    let is : xs ≡ t.extents = c.as_slice.ensures.value ∙ ap (λ (t : Taken). t.extents) c.self.view_is in
    let rise = subst (λ (t : Taken). RiseFrom t.pages 192 t.extents) c.self.view_is c.self.invariant.1 in
    let sorted = IsPartitionedBy-ltb (λ (x : Extent). x.0) xs c.args.first (never_fall t.pages 192 xs (subst (RiseFrom t.pages 192) (sym is) rise)) in
    let point = IsPartitionPoint-from_clause (λ (x : Extent). nat_lt x.0 c.args.first) xs c.partition_point.result c.partition_point.ensures.partitioned sorted (λ a r f k. search (rules, of_calls)) in
    place_from_tests c.args.first c.partition_point.result xs t.extents is point

pub returns-clause-rise : goal.returns-clause-rise
returns-clause-rise c = subst (λ (t : Taken). RiseFrom t.pages 192 t.extents) c.self.view_is c.self.invariant.1
