use Rattle.manifest.proofs.Settings.{ArePassed}
use Rattle.manifest.proofs.rules.settings_rules.Given as goal

abbrev pub invariant-loop-row : goal.invariant-loop-row
invariant-loop-row l = ArePassed l.rows l.row-index l.place
