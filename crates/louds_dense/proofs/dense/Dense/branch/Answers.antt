use Rattle.std.proofs.Common.{ℕ, ◌+◌, ◌*◌, Bool, List, get_or, length, false, ap, sym, ◌∙◌, arith}
use Rattle.louds_dense.proofs.Spelled.{branch_none, branch_some, length_labels}
use Rattle.louds_dense.specs.Spelling.{IsSpelled}
use Rattle.louds_dense.proofs.dense.Dense.branch.Goals as goal

pub overflow_mul-place : goal.overflow_mul-place
overflow_mul-place g c =
    let s : IsSpelled c.self.inside.labels c.self.inside.has_child c.self.inside.prefix c.args.self.now = rw c.self.view_is at c.self.invariant in
    omega (arith, s.few, c.requires)

pub overflow_add-place : goal.overflow_add-place
overflow_add-place g c =
    let s : IsSpelled c.self.inside.labels c.self.inside.has_child c.self.inside.prefix c.args.self.now = rw c.self.view_is at c.self.invariant in
    omega (arith, s.few, c.requires, c.from.ensures, c.ranges.byte.fits)

pub get-requires : goal.get-requires
get-requires g c =
    let s : IsSpelled c.self.inside.labels c.self.inside.has_child c.self.inside.prefix c.args.self.now = rw c.self.view_is at c.self.invariant in
    omega (arith, ap length c.bits-labels.ensures, length_labels s, c.requires, c.from.ensures, c.ranges.byte.fits)

pub returns-then-get : goal.returns-then-get
returns-then-get g c =
    let s : IsSpelled c.self.inside.labels c.self.inside.has_child c.self.inside.prefix c.args.self.now = rw c.self.view_is at c.self.invariant in
    branch_some s c.args.node c.args.byte _ c.requires c.ranges.byte.fits (ap (λ (b : ℕ). 256 * c.args.node + b) (sym c.from.ensures)) (sym (c.get.ensures ∙ ap (λ (bits : List Bool). get_or bits (256 * c.args.node + c.from.result) false) c.bits-labels.ensures) ∙ c.if-get.true)

pub returns-else-get : goal.returns-else-get
returns-else-get g c =
    let s : IsSpelled c.self.inside.labels c.self.inside.has_child c.self.inside.prefix c.args.self.now = rw c.self.view_is at c.self.invariant in
    branch_none s c.args.node c.args.byte _ c.requires c.ranges.byte.fits (ap (λ (b : ℕ). 256 * c.args.node + b) (sym c.from.ensures)) (sym (c.get.ensures ∙ ap (λ (bits : List Bool). get_or bits (256 * c.args.node + c.from.result) false) c.bits-labels.ensures) ∙ c.if-get.false)
