use Rattle.image_model.proofs.Told.{findings_are_told, first_damage_is_found, no_store_has_no_findings, one_list_of_findings}
use Rattle.image_model.proofs.laws.one_list_of_findings.Goals as goal

pub returns : goal.returns
returns c = record { one = one_list_of_findings; told = findings_are_told; no_store = no_store_has_no_findings; first = first_damage_is_found }
