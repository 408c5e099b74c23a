-- An image is no store, has a first damage, or opens.
use Rattle.std.proofs.Common.{◌≡◌, ◌⊎◌, inl, inr, ◌*◌, ◌+◌, ℕ, List, [], ◌∷◌, refl, sym, ap, ◌∙◌, subst, arith}
use Rattle.std.specs.Prelude.{Option, Some, None, map}
use Rattle.std.specs.List.{AllByRecursion}
use Rattle.byte_fields.specs.Faults.{Fault}
use Rattle.byte_fields.specs.declared.parts.Damage.{Damage}
use Rattle.byte_fields.specs.declared.parts.Row.{Row}
use Rattle.disk_trait.specs.Image.{Image}
use Rattle.disk_trait.proofs.Images.{window_size}
use Rattle.filter_api.specs.Spellings.{IsDecided, Spelling, SpellsOne}
use Rattle.filter_api.specs.declared.errors.FilterFault.{FilterFault}
use Rattle.log_model.specs.Area.{LogBreaks, LogIs, area_in, area_size, start_of}
use Rattle.log_model.proofs.Ends.{not_both}
use Rattle.log_model.proofs.Logs.{size_is}
use Rattle.log_model.proofs.Readings.{spells_or_breaks}
use Rattle.map_model.specs.SortedMap.{Bytes}
use Rattle.range_model.specs.Sources.{Change}
use Rattle.manifest_model.specs.Laws.{IsVersion}
use Rattle.manifest_model.specs.Reading.{levels_fault, table_rows_fault}
use Rattle.manifest_model.specs.Slots.{IsNoStore, IsVersionOf, body_room, slots_damage}
use Rattle.manifest_model.specs.Tables.{ranges_fault}
use Rattle.manifest_model.specs.Version.{Version, body_place, slot_a, slot_b}
use Rattle.manifest_model.proofs.Versions.{found, in_use, no_damage, one_version}
use Rattle.block_model.proofs.Refusals.{neither}
use Rattle.table_model.specs.Damage.{IsOfBytes, index_damage}
use Rattle.table_model.proofs.Decided.{sound_or_damaged, window_bytes}
use Rattle.image_model.specs.Opening.{AnImageOpens, FirstDamage, IsOpened, OpenedHasNoDamage, OpenedIsState, OpensWith, StateOpens, TablesBreak, VersionBreaks, at_a_table, at_the_log, at_the_ranges, at_the_slots, at_the_version, key_range_of}
use Rattle.image_model.proofs.InOrder.{climb_of, in_order}
use Rattle.image_model.proofs.Opening.{all_opened, none_of_opened, not_fault, not_some, same_area}
use Rattle.image_model.proofs.Placed.{version_levelled}
use Rattle.image_model.proofs.Ranges.{ranges_are, ranges_keep}
use Rattle.image_model.proofs.Sound.{tables_sound, version_sound}

pub damage_or_none : (o : Option Damage) → (o ≡ None) ⊎ ((d : Damage) × (o ≡ Some d))
damage_or_none None = inl refl
damage_or_none (Some d) = inr (d, refl)

fault_or_none : (o : Option Fault) → (o ≡ None) ⊎ ((f : Fault) × (o ≡ Some f))
fault_or_none None = inl refl
fault_or_none (Some f) = inr (f, refl)

module _ (spelling : Spelling) (first_fault : Bytes → FilterFault) (image : Image) (decided : IsDecided spelling) (bytes : IsOfBytes image) where
  -- ---- the tables

  tables_end : (rows : List Row) → AllByRecursion (IsOpened spelling image) rows ⊎ ((d : Damage) × TablesBreak spelling first_fault image d rows)
  tables_end [] = inl tt
  tables_end (row ∷ rows) = elim (damage_or_none (index_damage row image)) [
    | inr damaged ↦ inr (damaged.0, inl damaged.1)
    | inl index ↦ elim (sound_or_damaged spelling first_fault row image decided bytes) [
      | inr damaged ↦ inr (damaged.0, inr (index, inl damaged.1))
      | inl filter ↦ elim (tables_end rows) [
        | inr damaged ↦ inr (damaged.0, inr (index, inr (filter, damaged.1)))
        | inl all ↦ inl (record { index = index; filter = filter }, all)
      ]
    ]
  ]

  -- ---- the log

  pub area_of : (v : Version) → IsVersion v → (area : ℕ) × (v.log_page ≡ 64 * (area + 1))
  area_of v is = elim is.log_page [ inl first ↦ (0, first) | inr second ↦ (1, second) ]

  pub log_ends : (area : ℕ) → ((log : List Change) × LogIs area log image) ⊎ ((at : ℕ) × (rule : ℕ) × LogBreaks area at rule image)
  log_ends area = elim (spells_or_breaks (area_in area image) (window_bytes image (start_of area) area_size bytes) (omega (arith, window_size image (start_of area) area_size, size_is))) [
    | inl spelled ↦ inl spelled
    | inr broken ↦ inr (start_of area + broken.0, broken.1, (broken.0, refl, broken.2))
  ]

  -- ---- what a version names

  abbrev OfVersion : ℕ → Version → Type 0
  OfVersion slot v = ((d : Damage) × VersionBreaks spelling first_fault slot v image d) ⊎ ((log : List Change) × OpensWith spelling v log image)

  version_ends : (slot : ℕ) (v : Version) → IsVersionOf v image → OfVersion slot v
  version_ends slot v is = elim (tables_end v.rows) [
    | inr damaged ↦ inl (damaged.0, at_a_table damaged.0 damaged.1)
    | inl all ↦ elim (fault_or_none (ranges_fault (map (key_range_of image) v.rows))) [
      | inr fault ↦ inl (_, at_the_ranges fault.0 all fault.1)
      | inl none ↦
          let area = area_of v (version_sound v image is) in
          elim (log_ends area.0) [
            | inr broken ↦ inl (_, at_the_log area.0 broken.0 broken.1 all none area.1 broken.2)
            | inl log ↦ inr (log.0, record { version_is = is; tables = all; ranges = none; area = area.0; area_is = area.1; log = log.1 })
          ]
    ]
  ]

  -- ---- the image

  abbrev OfImage : Type 0
  OfImage = IsNoStore image ⊎ (((d : Damage) × FirstDamage spelling first_fault image d) ⊎ ((v : Version) × (log : List Change) × OpensWith spelling v log image))

  of_version_found : (v : Version) → IsVersionOf v image → OfImage
  of_version_found v (inl is) = elim (version_ends slot_a v (inl is)) [
    | inl damaged ↦ inr (inl (damaged.0, at_the_version slot_a slot_b v (inl (refl, refl)) is damaged.1))
    | inr opened ↦ inr (inr (v, opened.0, opened.1))
  ]
  of_version_found v (inr is) = elim (version_ends slot_b v (inr is)) [
    | inl damaged ↦ inr (inl (damaged.0, at_the_version slot_b slot_a v (inr (refl, refl)) is damaged.1))
    | inr opened ↦ inr (inr (v, opened.0, opened.1))
  ]

  of_image : OfImage
  of_image = elim (damage_or_none (slots_damage image)) [
    | inr damaged ↦ inr (inl (damaged.0, at_the_slots damaged.1))
    | inl none ↦ elim (found image (window_bytes image (body_place slot_a) body_room bytes) (window_bytes image (body_place slot_b) body_room bytes) none) [
      | inl no_store ↦ inl no_store
      | inr version ↦ of_version_found version.0 version.1
    ]
  ]

pub image_opens : AnImageOpens
image_opens spelling first_fault image decided bytes = of_image spelling first_fault image decided bytes

-- ---- what opens has no damage

module _ (spelling : Spelling) (first_fault : Bytes → FilterFault) (v : Version) (log : List Change) (image : Image) (one : SpellsOne spelling) (opens : OpensWith spelling v log image) where
  none_of_version : (slot : ℕ) (d : Damage) → VersionBreaks spelling first_fault slot v image d → ⊥
  none_of_version slot _ (at_a_table d a) = none_of_opened spelling first_fault image one d v.rows opens.tables a
  none_of_version slot _ (at_the_ranges f all a) = not_fault f _ opens.ranges a
  none_of_version slot _ (at_the_log area at rule all none is a) =
      not_both log a.0 rule (area_in area image) (subst (λ (k : ℕ). LogIs k log image) (same_area v.log_page opens.area area opens.area_is is) opens.log) a.2

  none_of_image : (d : Damage) → FirstDamage spelling first_fault image d → ⊥
  none_of_image d (at_the_slots a) = not_some d (slots_damage image) (no_damage v image opens.version_is) a
  none_of_image d (at_the_version slot other w are current a) =
      none_of_version slot d (subst (λ (u : Version). VersionBreaks spelling first_fault slot u image d) (one_version image w v (in_use slot other w image are current) opens.version_is) a)

pub opened_has_none : OpenedHasNoDamage
opened_has_none spelling first_fault v log image d one opens damaged = none_of_image spelling first_fault v log image one opens d damaged

-- ---- states

pub state_opens : StateOpens
state_opens spelling s image is =
    let v = is.0 in
    let named = is.1.named in (
      v,
      record {
        version_is = is.1.version_is;
        tables = all_opened spelling v.rows s.tables image named.tables;
        ranges = ranges_keep spelling v.rows s.tables image named.tables named.no_ranges named.order;
        area = named.area;
        area_is = named.area_is;
        log = named.log;
      },
    )

no_level_falls : (v : Version) → IsVersion v → levels_fault 64 0 v.rows ≡ None
no_level_falls v is = (neither (levels_fault 64 0 v.rows) _ (neither (table_rows_fault 64 v.rows) _ is.placed).1).0

pub opened_is_state : OpenedIsState
opened_is_state spelling v log entries tables image opens are only =
    let is = version_sound v image opens.version_is in (
      v,
      record {
        version_is = opens.version_is;
        named = record {
          settings = refl;
          pages = refl;
          epoch = refl;
          tables = are;
          order = in_order 0 tables (climb_of spelling 64 0 v.rows tables image are (no_level_falls v is))
              (sym (ap ranges_fault (ranges_are spelling v.rows tables image are only.tables)) ∙ opens.ranges)
              (tables_sound spelling v.rows tables image (version_levelled v is) are only.tables);
          area = opens.area;
          area_is = opens.area_is;
          log = opens.log;
          entries = entries;
          sets = only.log;
          no_ranges = only.tables;
          no_job = refl;
          none_kept = refl;
        };
      },
    )
