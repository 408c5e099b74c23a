use Rattle.std.proofs.Common.{◌∙◌, length, sym, ap}
use Rattle.std.specs.Option.{option_map}
use Rattle.std.proofs.lemmas.List.{length-map}
use Rattle.late_rows.specs.Late.{LateMerge}
use Rattle.late_rows.proofs.late.LateRows.sleeper.Goals as goal

pub returns-clause-many : goal.returns-clause-many
returns-clause-many c =
    ap (λ (l : LateMerge). length l.asleep) (sym c.self.view_is)
    ∙ length-map c.self.inside.asleep.items (λ o. option_map (λ key. key.items) o)
    ∙ c.self.invariant.0
    ∙ ap (λ (l : LateMerge). length l.merge.walks) c.self.view_is
