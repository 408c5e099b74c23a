use Rattle.std.proofs.Common.{◌≡◌, ◌<◌, ◌++◌, ◌-◌, ◌+◌, ◌∙◌, Some, ap, arith, sym}
use Rattle.std.specs.Option.{option_map}
use Rattle.filter_api.specs.Seen.{seen}
use Rattle.plain_filter_model.specs.Reading.{leaf_in, leaf_list_in}
use Rattle.plain_filter.proofs.Loops.{read-more}
use Rattle.plain_filter.proofs.decode.read_leaves.Goals as goal

pub loop-i-preserved : goal.loop-i-preserved
loop-i-preserved c =
    let l = seen c.in-Some.leaf in
    let within : c.loop-i.i < c.args.count = omega arith in
    let left = c.args.count - (c.loop-i.i + 1) in
    let found : leaf_in c.loop-i.rest.now ≡ Some l = sym c.in_ok-read_leaf.ensures.leaf ∙ ap (option_map seen) c.in-Some.is in
    read-more c.args.count c.loop-i.i c.args.bytes.now c.loop-i.rest.now c.loop-i.leaves l within c.loop-i.invariant found
    ∙ (λ j. option_map (λ more. sym c.in_ok-push-in-Some.ensures.added j ++ more) (leaf_list_in left (sym c.after-rest.ensures j)))
