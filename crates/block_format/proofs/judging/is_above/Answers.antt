use Rattle.std.proofs.Common.{ap, ◌∙◌}
use Rattle.std.proofs.lemmas.List.{take_rest}
use Rattle.key_base.specs.ByteOrder.{is_before}
use Rattle.map_model.specs.SortedMap.{Bytes}
use Rattle.block_format.proofs.OneByte.{rest_above}
use Rattle.block_format.proofs.judging.is_above.Goals as goal

pub returns-else-shared-eq0 : goal.returns-else-shared-eq0
returns-else-shared-eq0 c =
    let before = c.args.before.now in
    let rest = c.args.rest.now in
    c.first_is_below.ensures
    ∙ ap (λ (l : Bytes). is_before l rest) (take_rest before c.args.shared)
    ∙ rest_above c.args.shared before rest c.requires.few
