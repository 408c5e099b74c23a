use Rattle.std.proofs.Common.{◌≤◌, ◌∙◌, ◌^◌, [], length, ap, arith, subst, sym}
use Rattle.louds_dense.specs.Building.{SectionsInRoom}
use Rattle.louds_dense.specs.Spelling.{IsSpelled, nodes_in}
use Rattle.louds_dense.proofs.Built.{none_in, none_spelled}
use Rattle.louds_dense.proofs.builder.DenseBuilder.new.Goals as goal

pub invariant_of-result : goal.invariant_of-result
invariant_of-result g c =
    subst (λ (s : SectionsInRoom). IsSpelled s.labels s.children s.ends (nodes_in s.labels s.children s.ends) × (length s.ends ≤ s.limit) × (s.limit ≤ 2 ^ 53)) (sym c.in_ok-sections.ensures)
    (subst (IsSpelled [] [] []) (sym none_in) none_spelled, omega arith, omega arith)

pub returns : goal.returns
returns g c =
    ap (λ (s : SectionsInRoom). record { nodes = nodes_in s.labels s.children s.ends; limit = s.limit }) c.in_ok-sections.ensures
    ∙ ap (λ ns. record { nodes = ns; limit = c.args.nodes }) none_in
