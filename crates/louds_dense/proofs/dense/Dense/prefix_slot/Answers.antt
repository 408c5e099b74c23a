use Rattle.std.proofs.Common.{Bool, List, get_or, false, ap, sym, ◌∙◌}
use Rattle.louds_dense.proofs.Spelled.{end_some, end_none}
use Rattle.louds_dense.specs.Spelling.{IsSpelled}
use Rattle.louds_dense.proofs.dense.Dense.prefix_slot.Goals as goal

pub returns-then-get : goal.returns-then-get
returns-then-get g c =
    let s : IsSpelled c.self.inside.labels c.self.inside.has_child c.self.inside.prefix c.args.self.now = rw c.self.view_is at c.self.invariant in
    end_some s c.args.node c.node_slot.result c.requires (sym (c.get.ensures ∙ ap (λ (bits : List Bool). get_or bits c.args.node false) c.bits.ensures) ∙ c.if-get.true) c.node_slot.ensures

pub returns-else-get : goal.returns-else-get
returns-else-get g c =
    let s : IsSpelled c.self.inside.labels c.self.inside.has_child c.self.inside.prefix c.args.self.now = rw c.self.view_is at c.self.invariant in
    end_none s c.args.node c.requires (sym (c.get.ensures ∙ ap (λ (bits : List Bool). get_or bits c.args.node false) c.bits.ensures) ∙ c.if-get.false)
