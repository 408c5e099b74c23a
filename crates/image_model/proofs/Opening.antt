-- An image has one first damage, and none where it stands for a state.
use Rattle.std.proofs.Common.{◌≡◌, inl, inr, ◌*◌, ◌+◌, ◌++◌, ℕ, List, [], ◌∷◌, sym, ap, ap₂, subst, arith}
use Rattle.std.specs.Prelude.{Option, Some, None}
use Rattle.std.specs.List.{AllByRecursion}
use Rattle.byte_fields.specs.declared.parts.Damage.{Damage}
use Rattle.byte_fields.specs.declared.parts.Damage.TheVariants as damage
use Rattle.byte_fields.specs.declared.parts.Part.TheVariants as part
use Rattle.byte_fields.specs.declared.parts.Row.{Row}
use Rattle.disk_trait.specs.Image.{Image}
use Rattle.filter_api.specs.Spellings.{Spelling, SpellsOne}
use Rattle.filter_api.specs.declared.errors.FilterFault.{FilterFault}
use Rattle.log_model.specs.Area.{LogBreaks, LogIs, area_in, start_of}
use Rattle.log_model.specs.Records.{Breaks}
use Rattle.log_model.proofs.Ends.{not_both, one_fault}
use Rattle.map_model.specs.SortedMap.{Bytes}
use Rattle.byte_fields.specs.Faults.{Fault}
use Rattle.block_model.specs.Places.{byte_of_page}
use Rattle.manifest_model.specs.Slots.{slots_damage}
use Rattle.manifest_model.specs.Version.{Version, body_place}
use Rattle.manifest_model.proofs.Versions.{in_use, no_damage, no_store, none_open, one_slot, one_version}
use Rattle.state_model.specs.State.{State}
use Rattle.table_model.specs.Tables.{Table}
use Rattle.table_model.specs.Damage.{index_damage}
use Rattle.table_model.proofs.Sound.{filter_has_none, index_has_none, one_filter_damage, sound_filter_has_none}
use Rattle.image_model.specs.Opening.{IsOpened, LogIsAtItsPage, NoStoreHasNoDamage, NoStoreHasNoState, OneDamage, RangesAreAtTheBody, RowsComeFirst, StateHasNoDamage, TablesBreak, VersionBreaks, at_a_table, at_the_log, at_the_ranges, at_the_slots, at_the_version}
use Rattle.image_model.specs.Stands.{IsNamedBy}
use Rattle.image_model.specs.Tables.{AreTablesOf}
use Rattle.image_model.proofs.Ranges.{ranges_keep}

some_one : (d e : Damage) (o : Option Damage) → o ≡ Some d → o ≡ Some e → d ≡ e
some_one d e None a b = absurd cc
some_one d e (Some f) a b = cc

pub not_some : (d : Damage) (o : Option Damage) → o ≡ None → o ≡ Some d → ⊥
not_some d None none some = absurd cc
not_some d (Some f) none some = absurd cc

pub none_or_some : (d e : Damage) (o : Option Damage) → o ≡ None → o ≡ Some d → d ≡ e
none_or_some d e o none some = absurd (not_some d o none some)

-- ---- of the tables

module _ (spelling : Spelling) (first_fault : Bytes → FilterFault) (image : Image) (one : SpellsOne spelling) where
  one_of_tables : (d e : Damage) (rows : List Row) → TablesBreak spelling first_fault image d rows → TablesBreak spelling first_fault image e rows → d ≡ e
  one_of_tables d e [] a b = elim a [ ]
  one_of_tables d e (row ∷ rows) (inl a) (inl b) = some_one d e (index_damage row image) a b
  one_of_tables d e (row ∷ rows) (inl a) (inr b) = none_or_some d e (index_damage row image) b.0 a
  one_of_tables d e (row ∷ rows) (inr a) (inl b) = sym (none_or_some e d (index_damage row image) a.0 b)
  one_of_tables d e (row ∷ rows) (inr (_, inl a)) (inr (_, inl b)) = one_filter_damage spelling first_fault row image d e one a b
  one_of_tables d e (row ∷ rows) (inr (_, inl a)) (inr (_, inr b)) = absurd (sound_filter_has_none spelling first_fault row image d one b.0 a)
  one_of_tables d e (row ∷ rows) (inr (_, inr a)) (inr (_, inl b)) = absurd (sound_filter_has_none spelling first_fault row image e one a.0 b)
  one_of_tables d e (row ∷ rows) (inr (_, inr a)) (inr (_, inr b)) = one_of_tables d e rows a.1 b.1

  pub none_of_opened : (d : Damage) (rows : List Row) → AllByRecursion (IsOpened spelling image) rows → TablesBreak spelling first_fault image d rows → ⊥
  none_of_opened d [] all a = a
  none_of_opened d (row ∷ rows) all (inl a) = not_some d (index_damage row image) all.0.index a
  none_of_opened d (row ∷ rows) all (inr (_, inl a)) = sound_filter_has_none spelling first_fault row image d one all.0.filter a
  none_of_opened d (row ∷ rows) all (inr (_, inr a)) = none_of_opened d rows all.1 a.1

pub all_opened : (spelling : Spelling) (rows : List Row) (tables : List Table) (image : Image) → AreTablesOf spelling rows tables image
    → AllByRecursion (IsOpened spelling image) rows
all_opened spelling [] tables image are = tt
all_opened spelling (row ∷ rows) [] image are = elim are [ ]
all_opened spelling (row ∷ rows) (t ∷ ts) image are = (
  record { index = index_has_none spelling row are.0.0 image are.0.1; filter = filter_has_none spelling row are.0.0 image are.0.1 },
  all_opened spelling rows ts image are.1,
)

-- ---- of the log

pub log_place : (area at rule other more number : ℕ) (image : Image) → area ≡ other → LogBreaks area at rule image → LogBreaks other more number image → (at ≡ more) × (rule ≡ number)
log_place area at rule other more number image same a b =
    let so = one_fault a.0 rule b.0 number (area_in area image) a.2
    (subst (λ (k : ℕ). Breaks b.0 number (area_in k image)) (sym same) b.2) in
    (omega (arith, a.1, b.1, same, so.0), so.1)

-- ---- of what a version names

fault_one : (f g : Fault) (o : Option Fault) → o ≡ Some f → o ≡ Some g → f ≡ g
fault_one f g None a b = absurd cc
fault_one f g (Some h) a b = cc

pub not_fault : (f : Fault) (o : Option Fault) → o ≡ None → o ≡ Some f → ⊥
not_fault f None none some = absurd cc
not_fault f (Some g) none some = absurd cc

abbrev range_damage : ℕ → Fault → Damage
range_damage slot f = damage.Shape part.Manifest (body_place slot + f.place) f.rule

pub same_area : (log_page area other : ℕ) → log_page ≡ 64 * (area + 1) → log_page ≡ 64 * (other + 1) → area ≡ other
same_area log_page area other a b = omega (arith, a, b)

module _ (spelling : Spelling) (first_fault : Bytes → FilterFault) (slot : ℕ) (v : Version) (image : Image) (one : SpellsOne spelling) where
  one_of_version : (d e : Damage) → VersionBreaks spelling first_fault slot v image d → VersionBreaks spelling first_fault slot v image e → d ≡ e
  one_of_version _ _ (at_a_table d a) (at_a_table e b) = one_of_tables spelling first_fault image one d e v.rows a b
  one_of_version _ _ (at_a_table d a) (at_the_ranges f all b) = absurd (none_of_opened spelling first_fault image one d v.rows all a)
  one_of_version _ _ (at_a_table d a) (at_the_log area at rule all none is b) = absurd (none_of_opened spelling first_fault image one d v.rows all a)
  one_of_version _ _ (at_the_ranges f all a) (at_a_table e b) = absurd (none_of_opened spelling first_fault image one e v.rows all b)
  one_of_version _ _ (at_the_ranges f all a) (at_the_ranges g again b) = ap (range_damage slot) (fault_one f g _ a b)
  one_of_version _ _ (at_the_ranges f all a) (at_the_log area at rule again none is b) = absurd (not_fault f _ none a)
  one_of_version _ _ (at_the_log area at rule all none is a) (at_a_table e b) = absurd (none_of_opened spelling first_fault image one e v.rows all b)
  one_of_version _ _ (at_the_log area at rule all none is a) (at_the_ranges g again b) = absurd (not_fault g _ none b)
  one_of_version _ _ (at_the_log area at rule all none is a) (at_the_log other more number again nothing that b) =
      let so = log_place area at rule other more number image (same_area v.log_page area other is that) a b in
      ap₂ (λ (place number : ℕ). damage.Shape part.Log place number) so.0 so.1

  none_of_named : (s : State) (d : Damage) → IsNamedBy spelling v s image → VersionBreaks spelling first_fault slot v image d → ⊥
  none_of_named s _ named (at_a_table d a) =
      none_of_opened spelling first_fault image one d v.rows
      (all_opened spelling v.rows s.tables image named.tables) a
  none_of_named s _ named (at_the_ranges f all a) = not_fault f _ (ranges_keep spelling v.rows s.tables image named.tables named.no_ranges named.order) a
  none_of_named s _ named (at_the_log area at rule all none is a) =
      not_both s.log a.0 rule (area_in area image) (subst (λ (k : ℕ). LogIs k s.log image) (same_area v.log_page named.area area named.area_is is) named.log) a.2

-- ---- of an image

pub one_damage : OneDamage
one_damage spelling first_fault image d e one (at_the_slots a) (at_the_slots b) = some_one d e (slots_damage image) a b
one_damage spelling first_fault image d e one (at_the_slots a) (at_the_version slot other v are current b) =
    none_or_some d e (slots_damage image) (no_damage v image (in_use slot other v image are current)) a
one_damage spelling first_fault image d e one (at_the_version slot other v are current a) (at_the_slots b) =
    sym (none_or_some e d (slots_damage image) (no_damage v image (in_use slot other v image are current)) b)
one_damage spelling first_fault image d e one (at_the_version slot other v are current a) (at_the_version more others w again present b) =
    let version : w ≡ v = one_version image w v (in_use more others w image again present) (in_use slot other v image are current) in
    let place : more ≡ slot = one_slot more others slot other w v image again are present current in
    one_of_version spelling first_fault slot v image one d e a
    (subst (λ (k : ℕ). VersionBreaks spelling first_fault k v image e) place (subst (λ (u : Version). VersionBreaks spelling first_fault more u image e) version b))

pub state_has_none : StateHasNoDamage
state_has_none spelling first_fault s image d one is (at_the_slots a) = not_some d (slots_damage image) (no_damage is.0 image is.1.version_is) a
state_has_none spelling first_fault s image d one is (at_the_version slot other v are current a) =
    none_of_named spelling first_fault slot v image one s d
    (subst (λ (u : Version). IsNamedBy spelling u s image) (one_version image is.0 v is.1.version_is (in_use slot other v image are current)) is.1.named) a

pub no_store_has_none : NoStoreHasNoDamage
no_store_has_none spelling first_fault image d none (at_the_slots a) = not_some d (slots_damage image) (none_open image none) a
no_store_has_none spelling first_fault image d none (at_the_version slot other v are current a) = no_store v image none (in_use slot other v image are current)

pub no_store_has_no_state : NoStoreHasNoState
no_store_has_no_state spelling s image none is = no_store is.0 image none is.1.version_is

-- the place of a fault of the ranges
pub ranges_at_the_body : RangesAreAtTheBody
ranges_at_the_body spelling first_fault slot other v image f are is all fault = at_the_version slot other v are is (at_the_ranges f all fault)

-- the place of a fault of the log
pub log_at_its_page : LogIsAtItsPage
log_at_its_page spelling first_fault slot other v image area place rule slots current all none is breaks =
    let here : byte_of_page v.log_page + place ≡ start_of area + place = omega (arith, is) in
    at_the_version slot other v slots current (at_the_log area (byte_of_page v.log_page + place) rule all none is (place, here, breaks))

-- row by row

module _ (spelling : Spelling) (first_fault : Bytes → FilterFault) (image : Image) (d : Damage) where
  at_the_row : (before rows : List Row) → AllByRecursion (IsOpened spelling image) before → TablesBreak spelling first_fault image d rows
      → TablesBreak spelling first_fault image d (before ++ rows)
  at_the_row [] rows all breaks = breaks
  at_the_row (row ∷ before) rows all breaks = inr (all.0.index, inr (all.0.filter, at_the_row before rows all.1 breaks))

  of_the_row : (all before : List Row) (rows : List Row) → all ≡ before ++ rows → AllByRecursion (IsOpened spelling image) before
      → TablesBreak spelling first_fault image d rows → TablesBreak spelling first_fault image d all
  of_the_row all before rows are opened breaks = subst (TablesBreak spelling first_fault image d) (sym are) (at_the_row before rows opened breaks)

pub rows_come_first : RowsComeFirst
rows_come_first spelling first_fault image d = record {
  index = λ slot other v before later row slots current are opened damaged.
      at_the_version slot other v slots current (at_a_table d (of_the_row spelling first_fault image d v.rows before (row ∷ later) are opened (inl damaged)));
  filter = λ slot other v before later row slots current are opened none damaged.
      at_the_version slot other v slots current (at_a_table d (of_the_row spelling first_fault image d v.rows before (row ∷ later) are opened (inr (none, inl damaged))));
}
