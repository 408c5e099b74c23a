use Rattle.std.proofs.Common.{◌≡◌, ◌%◌, false, ap, ◌∙◌, arith}
use Rattle.std.specs.Prelude.{◌==◌, not}
use Rattle.std.proofs.lemmas.List.{take_rest}
use Rattle.key_base.specs.Prefixes.{alike}
use Rattle.map_model.specs.SortedMap.{Bytes}
use Rattle.block_format.proofs.OneByte.{rest_alike, unequal}
use Rattle.block_format.proofs.judging.shares_another.Goals as goal

pub returns : goal.returns
returns c =
    let before = c.args.before.now in
    let rest = c.args.rest.now in
    let later : (c.args.i % 16 == 0) ≡ false = unequal (c.args.i % 16) 0 (λ e. omega (arith, e, c.if-i-eq0.false)) in
    c.begins_alike.ensures
    ∙ ap (λ (l : Bytes). not (alike l rest == 0)) (take_rest before c.args.shared)
    ∙ rest_alike c.args.i c.args.shared before rest later (omega (arith, c.if-shared-before.false))
