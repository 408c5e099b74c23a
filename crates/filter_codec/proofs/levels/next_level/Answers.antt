use Rattle.std.proofs.Common.{◌≡◌, ◌+◌, ◌++◌, arith, subst, sym, take}
use Rattle.filter_codec.specs.Tree.{IsNextLevel}
use Rattle.filter_image_model.specs.Levels.{children_of}
use Rattle.filter_codec.proofs.Louds.{next_level, no_more, too_many}
use Rattle.filter_codec.proofs.levels.next_level.Goals as goal

pub returns-then-end-start : goal.returns-then-end-start
returns-then-end-start g c =
    let ns = c.args.packed.now.dense ++ c.args.packed.now.sparse in
    λ k. no_more ns c.loop-i.i c.loop-i.start c.loop-i.end c.args.levels k c.loop-i.invariant (omega arith) (omega arith)

pub loop-i-preserved : goal.loop-i-preserved
loop-i-preserved g c =
    let ns = c.args.packed.now.dense ++ c.args.packed.now.sparse in
    let e : children_of (take c.loop-i.end ns) ≡ c.children_before-end.result = sym c.children_before-end.ensures.children in
    subst (λ n. IsNextLevel ns (c.loop-i.i + 1) c.loop-i.end (n + 1)) e
    (next_level ns c.loop-i.i c.loop-i.start c.loop-i.end c.loop-i.invariant c.if-end-start.false (omega (arith, c.node_count-count.ensures)))

pub returns-then-end-count : goal.returns-then-end-count
returns-then-end-count g c =
    let ns = c.args.packed.now.dense ++ c.args.packed.now.sparse in
    λ k. too_many ns c.loop-i.i c.loop-i.start c.loop-i.end c.args.levels k c.loop-i.invariant (omega arith) (omega (arith, c.node_count-count.ensures))
