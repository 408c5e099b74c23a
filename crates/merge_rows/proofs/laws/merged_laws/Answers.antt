use Rattle.std.proofs.Common.{List, refl, ap, ◌∙◌}
use Rattle.entry_model.specs.Entries.{Entry}
use Rattle.entry_model.specs.Newest.{lookup}
use Rattle.entry_model.proofs.Newest.{lookup_after}
use Rattle.merge_rows.specs.Rows.{merged_rows}
use Rattle.merge_rows.proofs.Merged.{merged_first, merged_rises}
use Rattle.merge_rows.proofs.laws.merged_laws.Goals as goal

pub returns : goal.returns
returns c = record {
  rises = merged_rises;
  none = refl;
  first_says = λ source older key. ap (λ (l : List Entry). lookup l key) (merged_first source older) ∙ lookup_after (merged_rows older) source key;
}
