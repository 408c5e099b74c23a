use Rattle.std.proofs.Common.{◌≡◌, ◌<◌, ◌∙◌, Some, length, ap, sym, arith}
use Rattle.louds_sparse.proofs.Searches.{searched_none, searched_some, searched_there}
use Rattle.louds_sparse.proofs.Spelled.{length_children}
use Rattle.louds_sparse.specs.Spelling.{IsSpelled}
use Rattle.louds_sparse.proofs.sparse.Sparse.placed.Goals as goal

pub word_of-word-requires : goal.word_of-word-requires
word_of-word-requires g c =
    let s : IsSpelled c.self.inside.before c.self.inside.labels.items c.self.inside.has_child c.self.inside.louds c.args.self.now = rw c.self.view_is at c.self.invariant in
    omega (arith, searched_there s c.args.node c.requires c.searched-start.ensures, length_children s)

pub returns-in-Some-clause-place : goal.returns-in-Some-clause-place
returns-in-Some-clause-place g c =
    let s : IsSpelled c.self.inside.before c.self.inside.labels.items c.self.inside.has_child c.self.inside.louds c.args.self.now = rw c.self.view_is at c.self.invariant in
    ap (λ n. Some n) c.placed_by.ensures.place ∙ sym (searched_some s c.args.node c.requires c.searched-start.ensures c.in-Some.place c.ranges.byte.fits (rw c.deref.ensures.value at c.in-Some.ensures))

pub returns-in-None-clause-place : goal.returns-in-None-clause-place
returns-in-None-clause-place g c =
    let s : IsSpelled c.self.inside.before c.self.inside.labels.items c.self.inside.has_child c.self.inside.louds c.args.self.now = rw c.self.view_is at c.self.invariant in
    sym (searched_none s c.args.node c.requires c.searched-start.ensures c.ranges.byte.fits (rw c.deref.ensures.value at c.in-None.ensures))
