use Rattle.std.proofs.Common.{◌<◌, ◌∙◌, ◌^◌, [], ap, arith, subst, sym}
use Rattle.louds_sparse.specs.Building.{SectionsInRoom}
use Rattle.louds_sparse.specs.Spelling.{IsSpelled, half_in}
use Rattle.louds_sparse.proofs.Built.{none_in, none_spelled}
use Rattle.louds_sparse.proofs.builder.SparseBuilder.new.Goals as goal

pub invariant_of-result : goal.invariant_of-result
invariant_of-result g c =
    let before = c.args.before in
    subst (λ (s : SectionsInRoom). IsSpelled before s.labels s.children s.louds (half_in before s.labels s.children s.louds) × (s.limit < 2 ^ 62)) (sym c.in_ok-sections.ensures)
    (subst (IsSpelled before [] [] []) (sym (none_in before)) (none_spelled before c.requires), omega arith)

pub returns : goal.returns
returns g c =
    let before = c.args.before in
    ap (λ (s : SectionsInRoom). record { half = half_in before s.labels s.children s.louds; limit = s.limit }) c.in_ok-sections.ensures
    ∙ ap (λ h. record { half = h; limit = c.args.labels }) (none_in before)
