-- The log was looked at: what was left before is what was found.
use Rattle.std.proofs.Common.{◌≡◌, List, [], ◌++◌, refl, sym, ap, ◌∙◌, subst}
use Rattle.std.proofs.lemmas.List.{append-nil}
use Rattle.std.specs.Prelude.{Some}
use Rattle.byte_fields.specs.Faults.{Fault}
use Rattle.disk_trait.specs.Image.{Image}
use Rattle.filter_api.specs.Spellings.{Spelling}
use Rattle.manifest.specs.Manifest.{Manifest}
use Rattle.map_model.specs.SortedMap.{Bytes}
use Rattle.image_model.specs.Findings.{Finding, LogFindings}
use Rattle.store_check.specs.Checks.{AreLeft, VersionLeft, waiting}
use Rattle.store_check.specs.declared.check.Check.{Check}
use Rattle.store_check.specs.declared.stage.Stage.TheVariants as stage
use Rattle.store_check.proofs.Parts.{moved}

pub log_was_left : (old new : Check) (version : new.version ≡ old.version) (order : new.order ≡ old.order) (at : old.stage ≡ stage.Log) (same : new.stage ≡ stage.End)
    (spelling : Spelling) (first : Bytes → Fault) (image : Image) (m : Manifest) (later : List Finding) → old.version ≡ Some m → waiting old ≡ []
    → LogFindings m.version image (waiting new) → AreLeft spelling first image new later → AreLeft spelling first image old later
log_was_left old new version order at same spelling first image m later some none found (behind, left, later_is) =
    let nothing : behind ≡ [] = moved (λ o s v. VersionLeft spelling first image o s v behind) new.order old.order new.stage stage.End new.version (Some m) (sym order) (sym same) (sym some ∙ sym version) left in
    let all : waiting new ≡ later = sym (append-nil (waiting new)) ∙ ap (λ (fs : List Finding). waiting new ++ fs) (sym nothing) ∙ sym later_is in (
      later,
      moved (λ o s v. VersionLeft spelling first image o s v later) old.order old.order stage.Log old.stage (Some m) old.version refl at some (subst (LogFindings m.version image) all found),
      sym (ap (λ (fs : List Finding). fs ++ later) none),
    )
