use Rattle.std.proofs.Common.{◌≡◌, ◌<◌, slice_index, length, arith, sym, ap, ◌∙◌}
use Rattle.std.specs.Ordering.{nat_cmp}
use Rattle.plain_filter.proofs.LeafLemmas.{bytes_of, padded_all, padded_cmp, padded_differs, padded_more, padded_none}
use Rattle.plain_filter.proofs.leaf.compare_padded.Goals as goal

pub loop-i-init : goal.loop-i-init
loop-i-init c = padded_none c.args.stub.now c.args.lo.now

pub loop-i-preserved : goal.loop-i-preserved
loop-i-preserved c =
    let stub = c.args.stub.now in
    let lo = c.args.lo.now in
    let within : c.loop-i.i < length stub = omega arith in
    let alike : slice_index stub c.loop-i.i ≡ slice_index lo c.loop-i.i = grind arith in
    c.loop-i.invariant ∙ padded_more stub lo c.loop-i.i within alike

pub returns-then-stub-i : goal.returns-then-stub-i
returns-then-stub-i c =
    let stub = c.args.stub.now in
    let lo = c.args.lo.now in
    let i = c.loop-i.i in
    let within : i < length stub = omega arith in
    let apart : slice_index stub i ≡ slice_index lo i → ⊥ = λ e. grind arith in
    c.cmp.ensures ∙ ap (nat_cmp (slice_index stub i)) c.byte_at-other.ensures ∙ sym (c.loop-i.invariant ∙ padded_differs stub lo i (bytes_of stub c.type_inv.stub) (bytes_of lo c.type_inv.lo) within apart)

pub returns : goal.returns
returns c =
    let stub = c.args.stub.now in
    let lo = c.args.lo.now in
    let end : c.loop-i.i ≡ length stub = omega arith in
    sym (c.loop-i.invariant ∙ ap (padded_cmp stub lo) end ∙ padded_all stub lo)
