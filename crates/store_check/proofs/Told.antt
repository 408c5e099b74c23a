-- What is left of a check can be told: there is a list of it, whatever was looked at.
use Rattle.std.proofs.Common.{inl, inr, refl, List, [], ◌∷◌, ◌++◌}
use Rattle.std.specs.Prelude.{Option, Some, None}
use Rattle.byte_fields.specs.Faults.{Fault}
use Rattle.byte_fields.specs.declared.parts.Row.{Row}
use Rattle.disk_trait.specs.Image.{Image}
use Rattle.filter_api.specs.Spellings.{IsDecided, Spelling}
use Rattle.manifest.specs.Manifest.{Manifest, place_of}
use Rattle.manifest_model.specs.Slots.{IsVersionOf}
use Rattle.manifest_model.specs.Version.{Version}
use Rattle.map_model.specs.SortedMap.{Bytes}
use Rattle.table_file.specs.Faults.{filter_fault_of}
use Rattle.table_model.specs.Damage.{IsOfBytes, IsSoundFilter}
use Rattle.table_model.proofs.Decided.{sound_or_damaged}
use Rattle.image_model.specs.Findings.{FilterFindings, Finding, LogFindings, RowsFindings, broken, compared, damaged, index_findings, known_keys, neighbours_fault, ranges_findings, spelled, unknown}
use Rattle.image_model.proofs.Opened.{area_of, log_ends}
use Rattle.image_model.proofs.Sound.{version_sound}
use Rattle.store_check.specs.Checks.{AreLeft, CheckOfVersion, IsCheckOf, PartsLeft, VersionLeft, rows_left, waiting}
use Rattle.store_check.specs.Orders.{TableOrder, broken_fault}
use Rattle.store_check.specs.declared.check.Check.{Check}
use Rattle.store_check.specs.declared.stage.Stage.{Stage}
use Rattle.store_check.specs.declared.stage.Stage.TheVariants as stage

module _ (spelling : Spelling) (first : Bytes → Fault) (image : Image) (decided : IsDecided spelling) (bytes : IsOfBytes image) where
  of_sound : (row : Row) (keys : Option (List Bytes)) → IsSoundFilter spelling row image → (xs : List Finding) × FilterFindings spelling (filter_fault_of first) row keys image xs
  of_sound row None sound = (_, unknown sound refl)
  of_sound row (Some known) sound = (_, compared known sound refl)

  filter_told : (row : Row) (keys : Option (List Bytes)) → (xs : List Finding) × FilterFindings spelling (filter_fault_of first) row keys image xs
  filter_told row keys = elim (sound_or_damaged spelling (filter_fault_of first) row image decided bytes) [
    | inl sound ↦ of_sound row keys sound
    | inr harm ↦ (_, damaged harm.0 harm.1)
  ]

  rows_told : (rows : List Row) → (xs : List Finding) × RowsFindings spelling (filter_fault_of first) image rows xs
  rows_told [] = ([], refl)
  rows_told (row ∷ rows) =
      let filter = filter_told row (known_keys row image) in
      let later = rows_told rows in
      (index_findings row image ++ (filter.0 ++ later.0), (filter.0, later.0, filter.1, later.1, refl))

  log_told : (v : Version) → IsVersionOf v image → (xs : List Finding) × LogFindings v image xs
  log_told v is =
      let area = area_of spelling (filter_fault_of first) image decided bytes v (version_sound v image is) in
      elim (log_ends spelling (filter_fault_of first) image decided bytes area.0) [
        | inl log ↦ (_, spelled area.0 log.0 area.1 log.1)
        | inr harm ↦ (_, broken area.0 harm.0 harm.1 area.1 harm.2)
      ]

  parts_told : (m : Manifest) (order : TableOrder) (at : Stage) → IsVersionOf m.version image → (xs : List Finding) × PartsLeft spelling first image m order at xs
  parts_told m order stage.Rows is =
      let rows = rows_told (rows_left m order) in
      let log = log_told m.version is in
      (rows.0 ++ (ranges_findings (place_of m.slot) (neighbours_fault m.version.rows image) ++ log.0), (rows.0, log.0, rows.1, log.1, refl))
  parts_told m order stage.Ranges is =
      let log = log_told m.version is in
      (ranges_findings (place_of m.slot) (broken_fault order.broken) ++ log.0, (log.0, log.1, refl))
  parts_told m order stage.Log is = log_told m.version is
  parts_told m order stage.End is = ([], refl)

  version_told : (order : TableOrder) (at : Stage) (v : Option Manifest) → CheckOfVersion image order at v → (xs : List Finding) × VersionLeft spelling first image order at v xs
  version_told order at None is = ([], refl)
  version_told order at (Some m) is = parts_told m order at is.version_is

  pub left_is_told : (c : Check) → IsCheckOf image c → (later : List Finding) × AreLeft spelling first image c later
  left_is_told c is =
      let behind = version_told c.order c.stage c.version is in
      (waiting c ++ behind.0, (behind.0, behind.1, refl))
