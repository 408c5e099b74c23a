use Rattle.std.proofs.Common.{arith}
use Rattle.louds_dense.proofs.Spelled.{length_labels}
use Rattle.louds_dense.specs.Spelling.{IsSpelled}
use Rattle.louds_dense.proofs.dense.Dense.leaves_to.Goals as goal

pub rank-requires : goal.rank-requires
rank-requires g c =
    let s : IsSpelled c.self.inside.labels c.self.inside.has_child c.self.inside.prefix c.args.self.now = rw c.self.view_is at c.self.invariant in
    omega (arith, length_labels s, c.requires.place)
