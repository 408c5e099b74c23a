use Rattle.std.proofs.Common.{[]}
use Rattle.range_model.proofs.ChangedMaps.{changes_rise}
use Rattle.state_model.specs.View.{changes_of}
use Rattle.state_model.proofs.Views.{view_says}
use Rattle.state_model.proofs.laws.view_laws.Goals as goal

pub returns : goal.returns
returns c = record { says = view_says; rises = λ s. changes_rise [] (changes_of s) tt }
