use Rattle.std.proofs.Common.{◌++◌, ◌∙◌, ap, length, sym, Bool}
use Rattle.std.specs.Prelude.{◌==◌, ◌&&◌}
use Rattle.filter_image_model.specs.Levels.{nodes_above}
use Rattle.filter_codec.proofs.Louds.{above_level, no_levels}
use Rattle.filter_codec.proofs.levels.has_levels.Goals as goal

pub returns-in-Some : goal.returns-in-Some
returns-in-Some g c =
    let ns = c.args.packed.now.dense ++ c.args.packed.now.sparse in
    let cutoff = c.args.header.now.cutoff in
    (λ j. above_level ns cutoff c.in-Some.above c.in-Some.field-0-1 c.in-Some.ensures j == c.dense_count.ensures.count j)
    ∙ ap (λ (t : Bool). t && (nodes_above cutoff 1 ns == length c.args.packed.now.dense)) c.if-not-is_levels.ensures

pub returns-in-None : goal.returns-in-None
returns-in-None g c =
    let ns = c.args.packed.now.dense ++ c.args.packed.now.sparse in
    let cutoff = c.args.header.now.cutoff in
    ap (λ (t : Bool). t && (nodes_above cutoff 1 ns == length c.args.packed.now.dense)) (sym (no_levels ns cutoff c.args.header.now.height c.requires c.in-None.ensures))
