-- What a check finds in all is what is left of it at the start.
use Rattle.std.proofs.Common.{◌≡◌, List, [], ◌++◌, refl, sym, ap, ◌∙◌, subst, arith}
use Rattle.std.proofs.lemmas.List.{append-nil}
use Rattle.std.specs.Prelude.{Option, Some, None}
use Rattle.byte_fields.specs.Faults.{Fault}
use Rattle.byte_fields.specs.declared.parts.Damage.{Damage}
use Rattle.disk_trait.specs.Image.{Image}
use Rattle.filter_api.specs.Spellings.{Spelling}
use Rattle.manifest.specs.Loading.{IsLoaded}
use Rattle.manifest.specs.Manifest.{Manifest, other_place, place_of}
use Rattle.manifest.proofs.Steps.{are_slots}
use Rattle.manifest_model.specs.Slots.{slots_damage}
use Rattle.manifest_model.proofs.Versions.{in_use}
use Rattle.map_model.specs.SortedMap.{Bytes}
use Rattle.table_file.specs.Faults.{filter_fault_of}
use Rattle.image_model.specs.Findings.{AreFindings, Finding, found_by, of_slots, of_version}
use Rattle.store_check.specs.Checks.{AreLeft, CheckOfVersion, IsCheckOf, VersionLeft, waiting}
use Rattle.store_check.specs.Orders.{no_tables}
use Rattle.store_check.specs.declared.check.Check.{Check}
use Rattle.store_check.specs.declared.stage.Stage.TheVariants as stage
use Rattle.store_check.proofs.Parts.{moved}

module _ (image : Image) (c : Check) where
  pub fresh_of : (m : Manifest) → c.version ≡ Some m → c.stage ≡ stage.Rows → c.order ≡ no_tables → IsLoaded image m → IsCheckOf image c
  fresh_of m version at order loaded =
      moved (λ o s v. CheckOfVersion image o s v) no_tables c.order stage.Rows c.stage (Some m) c.version order at version
      (record {
        version_is = in_use (place_of m.slot) (other_place m.slot) m.version image (are_slots m.slot loaded.slot) loaded.stands.current;
        rows_done = omega arith;
        order_is = record { rows_are = refl; before_is = refl; broken_is = refl };
      })

  module _ (spelling : Spelling) (first : Bytes → Fault) (findings : List Finding) where
    pub fresh_left : (m : Manifest) → c.version ≡ Some m → c.stage ≡ stage.Rows → c.order ≡ no_tables → waiting c ≡ [] → IsLoaded image m
        → AreLeft spelling first image c findings → AreFindings spelling (filter_fault_of first) image findings
    fresh_left m version at order none loaded (behind, left, findings_are) =
        let parts = moved (λ o s v. VersionLeft spelling first image o s v behind) c.order no_tables c.stage stage.Rows c.version (Some m) (sym order) (sym at) (sym version) left in
        subst (AreFindings spelling (filter_fault_of first) image) (sym (findings_are ∙ ap (λ (fs : List Finding). fs ++ behind) none ∙ parts.4))
        (of_version (place_of m.slot) (other_place m.slot) m.version parts.0 parts.1 (are_slots m.slot loaded.slot) loaded.stands.current parts.2 parts.3)

    pub damaged_left : (d : Damage) → c.version ≡ None → waiting c ≡ found_by (Some d) → slots_damage image ≡ Some d
        → AreLeft spelling first image c findings → AreFindings spelling (filter_fault_of first) image findings
    damaged_left d version said is (behind, left, findings_are) =
        let none : behind ≡ [] = subst (λ (v : Option Manifest). VersionLeft spelling first image c.order c.stage v behind) version left in
        subst (AreFindings spelling (filter_fault_of first) image) (sym (findings_are ∙ (λ i. said i ++ none i) ∙ append-nil (found_by (Some d)))) (of_slots d is)
