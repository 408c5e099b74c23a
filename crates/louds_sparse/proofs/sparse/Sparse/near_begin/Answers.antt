use Rattle.std.proofs.Common.{◌∙◌, ◌+◌, ◌*◌, length, ap, arith, subst}
use Rattle.bit_select.specs.Place.{IsPlaceOfOne}
use Rattle.bit_words.proofs.Counting.{ones_in_words, rank-le}
use Rattle.louds_sparse.proofs.Counted.{length_louds, ones_are, same_words}
use Rattle.louds_sparse.proofs.Spelled.{children_counted, first_found, length_children, length_labels}
use Rattle.louds_sparse.specs.Spelling.{IsSpelled}
use Rattle.louds_sparse.proofs.sparse.Sparse.near_begin.Goals as goal

pub overflow_mul-start : goal.overflow_mul-start
overflow_mul-start g c =
    let s : IsSpelled c.self.inside.before c.self.inside.labels.items c.self.inside.has_child c.self.inside.louds c.args.self.now = rw c.self.view_is at c.self.invariant in
    record { fits = omega (arith, c.in_ok-start.ensures.there, length_louds s, length_labels s, s.short) }

pub rank-before-requires : goal.rank-before-requires
rank-before-requires g c =
    let s : IsSpelled c.self.inside.before c.self.inside.labels.items c.self.inside.has_child c.self.inside.louds c.args.self.now = rw c.self.view_is at c.self.invariant in
    omega (arith, c.in_ok-start.ensures.there, length_louds s, length_children s)

pub near-requires-clause-along : goal.near-requires-clause-along
near-requires-clause-along g c =
    let s : IsSpelled c.self.inside.before c.self.inside.labels.items c.self.inside.has_child c.self.inside.louds c.args.self.now = rw c.self.view_is at c.self.invariant in
    ap length c.words.ensures ∙ same_words s

pub overflow_add-result : goal.overflow_add-result
overflow_add-result g c =
    let s : IsSpelled c.self.inside.before c.self.inside.labels.items c.self.inside.has_child c.self.inside.louds c.args.self.now = rw c.self.view_is at c.self.invariant in
    record { fits = omega (arith, c.rank-before.ensures, rank-le c.self.inside.has_child (64 * c.in_ok-start.start.word), c.in_ok-place.ensures.few, c.in_ok-start.ensures.there, length_louds s, length_labels s, s.short) }

pub returns-clause-place : goal.returns-clause-place
returns-clause-place g c =
    let s : IsSpelled c.self.inside.before c.self.inside.labels.items c.self.inside.has_child c.self.inside.louds c.args.self.now = rw c.self.view_is at c.self.invariant in
    first_found s c.args.number c.in_ok-place.place c.requires (subst (λ n. IsPlaceOfOne c.self.inside.louds n c.in_ok-place.place) c.in_ok-start.ensures.rank c.in_ok-place.ensures.place)

pub returns-clause-leading : goal.returns-clause-leading
returns-clause-leading g c =
    let s : IsSpelled c.self.inside.before c.self.inside.labels.items c.self.inside.has_child c.self.inside.louds c.args.self.now = rw c.self.view_is at c.self.invariant in
    let words = c.words.result.now in
    omega (
      arith,
      c.rank-before.ensures,
      ones_in_words c.self.inside.has_child words c.in_ok-start.start.word c.words.ensures,
      c.in_ok-place.ensures.along,
      ones_are c.self.inside.has_child words c.in_ok-place.place c.words.ensures,
      children_counted s c.in_ok-place.place,
    )
