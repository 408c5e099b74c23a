use Rattle.std.proofs.Common.{◌++◌, ◌∙◌, ap, arith, sym}
use Rattle.std.specs.Prelude.{◌==◌, ◌&&◌}
use Rattle.filter_codec.proofs.Louds.{last_level, no_levels}
use Rattle.filter_codec.proofs.levels.is_levels.Goals as goal

pub returns-in-Some : goal.returns-in-Some
returns-in-Some g c =
    let ns = c.args.packed.now.dense ++ c.args.packed.now.sparse in
    c.is_past.ensures ∙ ap (λ n. (c.in-Some.end == c.in-Some.start) && (c.in-Some.start == n)) c.node_count.ensures
    ∙ last_level ns c.args.height c.in-Some.start c.in-Some.end c.in-Some.ensures

pub returns-in-None : goal.returns-in-None
returns-in-None g c = sym (no_levels (c.args.packed.now.dense ++ c.args.packed.now.sparse) c.args.height c.args.height (omega arith) c.in-None.ensures)
