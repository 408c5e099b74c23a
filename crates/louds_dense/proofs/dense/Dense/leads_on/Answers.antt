use Rattle.std.proofs.Common.{Bool, List, false, get_or, length, ap, sym, ◌∙◌, arith}
use Rattle.louds_dense.proofs.Spelled.{leads_is, length_children}
use Rattle.louds_dense.specs.Spelling.{IsSpelled}
use Rattle.louds_dense.proofs.dense.Dense.leads_on.Goals as goal

pub get-requires : goal.get-requires
get-requires g c =
    let s : IsSpelled c.self.inside.labels c.self.inside.has_child c.self.inside.prefix c.args.self.now = rw c.self.view_is at c.self.invariant in
    omega (arith, ap length c.bits.ensures, length_children s, c.requires)

pub returns : goal.returns
returns g c =
    let s : IsSpelled c.self.inside.labels c.self.inside.has_child c.self.inside.prefix c.args.self.now = rw c.self.view_is at c.self.invariant in
    c.get.ensures ∙ ap (λ (bits : List Bool). get_or bits c.args.place false) c.bits.ensures ∙ leads_is s c.args.place c.requires
