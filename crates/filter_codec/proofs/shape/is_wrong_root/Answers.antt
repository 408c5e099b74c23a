use Rattle.std.proofs.Common.{◌≡◌, ◌++◌, ◌∙◌, arith, sym, le-ltb, lt-ltb, nat_lt, false}
use Rattle.std.specs.Prelude.{◌==◌, ◌&&◌, ◌||◌}
use Rattle.filter_codec.proofs.Shapes.{root_is}
use Rattle.filter_codec.proofs.shape.is_wrong_root.Goals as goal

pub returns-then-has_end_at_root : goal.returns-then-has_end_at_root
returns-then-has_end_at_root g c =
    let h = c.args.height in
    let l = c.args.leaves in
    let t = c.if-has_end_at_root.true in
    t ∙ (λ j. sym (sym c.has_end_at_root.ensures ∙ t) j || (nat_lt 1 h && (l == 1))) ∙ sym (root_is h l (c.args.packed.now.dense ++ c.args.packed.now.sparse) c.requires)

pub returns-then-height-gt1 : goal.returns-then-height-gt1
returns-then-height-gt1 g c =
    let h = c.args.height in
    let l = c.args.leaves in
    let t = sym c.has_end_at_root.ensures ∙ c.if-has_end_at_root.false in
    (λ j. sym t j || (sym (lt-ltb 1 h c.if-height-gt1.true) j && (l == 1))) ∙ sym (root_is h l (c.args.packed.now.dense ++ c.args.packed.now.sparse) c.requires)

pub returns-else-height-gt1 : goal.returns-else-height-gt1
returns-else-height-gt1 g c =
    let h = c.args.height in
    let l = c.args.leaves in
    let t = sym c.has_end_at_root.ensures ∙ c.if-has_end_at_root.false in
    let low : nat_lt 1 h ≡ false = le-ltb 1 h (omega arith) in
    low ∙ (λ j. sym t j || (sym low j && (l == 1))) ∙ sym (root_is h l (c.args.packed.now.dense ++ c.args.packed.now.sparse) c.requires)
