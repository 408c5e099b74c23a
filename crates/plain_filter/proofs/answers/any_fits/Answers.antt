use Rattle.std.proofs.Common.{◌≡◌, sym, ap, ◌∙◌, ◌==◌, ◌&&◌}
use Rattle.filter_model.specs.Answers.{fits, fits_point}
use Rattle.filter_api.specs.Seen.{seen}
use Rattle.plain_filter.proofs.Loops.{any-rest_false, any-rest_true}
use Rattle.plain_filter.proofs.answers.any_fits.Goals as goal

pub loop-i-preserved : goal.loop-i-preserved
loop-i-preserved c =
    let x = seen c.get.result.now in
    let key = c.args.key.now in
    let n = c.args.real_bits in
    let h = c.args.hash_bits in
    let test : fits_point h n key x ≡ c.leaf_fits_point.result =
    ap (λ hash. fits n key x && (hash == x.hash)) (sym c.hash_bits_of-hash.ensures) ∙ sym c.leaf_fits_point.ensures in
    c.loop-i.invariant ∙ any-rest_false (fits_point h n key) c.args.leaves.now c.loop-i.i x c.get.ensures (test ∙ c.if-leaf_fits_point.false)

pub returns-then-leaf_fits_point : goal.returns-then-leaf_fits_point
returns-then-leaf_fits_point c =
    let x = seen c.get.result.now in
    let key = c.args.key.now in
    let n = c.args.real_bits in
    let h = c.args.hash_bits in
    let test : fits_point h n key x ≡ c.leaf_fits_point.result =
    ap (λ hash. fits n key x && (hash == x.hash)) (sym c.hash_bits_of-hash.ensures) ∙ sym c.leaf_fits_point.ensures in
    sym (c.loop-i.invariant ∙ any-rest_true (fits_point h n key) c.args.leaves.now c.loop-i.i x c.get.ensures (test ∙ c.if-leaf_fits_point.true))
