-- An image has one list of findings, and a store of bytes has one; the damage that opening finds first is among them.
use Rattle.std.proofs.Common.{◌≡◌, ◌⊎◌, ◌+◌, ◌==◌, ◌||◌, not, ℕ, Bool, true, false, cond, List, [], ◌∷◌, ◌++◌, length, refl, inl, inr, sym, ap, ap₂, ◌∙◌, subst, append_assoc}
use Rattle.std.proofs.lemmas.List.{append-nil}
use Rattle.std.specs.Prelude.{map, Option, Some, None}
use Rattle.std.specs.Option.{option_map}
use Rattle.std.specs.List.{AllByRecursion}
use Rattle.byte_fields.specs.Faults.{Fault}
use Rattle.byte_fields.specs.Sums.{fnv_of}
use Rattle.byte_fields.specs.declared.parts.Damage.{Damage}
use Rattle.byte_fields.specs.declared.parts.Damage.TheVariants as damage
use Rattle.byte_fields.specs.declared.parts.Part.{Part}
use Rattle.byte_fields.specs.declared.parts.Part.TheVariants as part
use Rattle.byte_fields.specs.declared.parts.Row.{Row}
use Rattle.disk_trait.specs.Image.{Image}
use Rattle.filter_api.specs.Spellings.{IsDecided, Spelling, SpellsOne}
use Rattle.filter_api.specs.declared.errors.FilterFault.{FilterFault}
use Rattle.filter_model.specs.Answers.{first_difference}
use Rattle.filter_model.specs.Leaves.{leaves_of}
use Rattle.map_model.specs.SortedMap.{Bytes}
use Rattle.block_model.specs.BlockReading.{block_fault}
use Rattle.block_model.specs.Index.{IndexRow}
use Rattle.block_model.specs.IndexReading.{index_in}
use Rattle.block_model.specs.Laws.{joined}
use Rattle.block_model.specs.Places.{byte_of_page, index_page}
use Rattle.log_model.specs.Area.{LogBreaks, LogIs, area_in}
use Rattle.log_model.proofs.Ends.{not_both}
use Rattle.manifest_model.specs.Slots.{AreSlots, IsCurrent, IsNoStore, IsVersionOf, body_room, slots_damage}
use Rattle.manifest_model.specs.Tables.{ranges_fault}
use Rattle.manifest_model.specs.Version.{Version, body_place, log_page_of, slot_a, slot_b}
use Rattle.manifest_model.proofs.Versions.{found, in_use, no_damage, no_store, none_open, one_slot, one_version}
use Rattle.table_model.specs.Damage.{IsFilterDamage, IsOfBytes, IsSoundFilter, block_damage, block_part, index_damage, index_part, part_damage}
use Rattle.table_model.proofs.Decided.{sound_or_damaged, window_bytes}
use Rattle.table_model.proofs.Sound.{one_filter_damage, sound_filter_has_none}
use Rattle.image_model.specs.Findings.{AreFindings, AtLeast, Before, BrokenRule, FilterFindings, Finding, FindingsAreTold, FirstDamageIsFound, IsBeyondOpening, LogFindings, NoStoreHasNoFindings, OneListOfFindings, RowsFindings, WrongCount, WrongKeys, are_sound_blocks, block_at, block_findings, blocks_of_row, broken, compared, count_findings, damaged, finding, findings_at, findings_behind, findings_of_blocks, found_by, has_its_keys, index_findings, index_rows, known_behind, known_keys, leaf_findings, neighbours_fault, of_slots, of_version, ranges_findings, spelled, unknown, unless}
use Rattle.image_model.specs.Opening.{FirstDamage, IsOpened, TablesBreak, VersionBreaks, at_a_table, at_the_log, at_the_ranges, at_the_slots, at_the_version, key_range_of}
use Rattle.image_model.proofs.NoFindings.{indexes_of_opened, neighbours_are}
use Rattle.image_model.proofs.Opened.{area_of, damage_or_none, log_ends}
use Rattle.image_model.proofs.Opening.{log_place, not_some, same_area}
use Rattle.image_model.proofs.Sound.{version_sound}

-- ---- one list

one_some : (d e : Damage) (o : Option Damage) → o ≡ Some d → o ≡ Some e → d ≡ e
one_some d e None a b = absurd cc
one_some d e (Some f) a b = cc

module _ (spelling : Spelling) (first_fault : Bytes → FilterFault) (image : Image) (one : SpellsOne spelling) where
  one_filter : (row : Row) (keys : Option (List Bytes)) (xs ys : List Finding) → FilterFindings spelling first_fault row keys image xs → FilterFindings spelling first_fault row keys image ys → xs ≡ ys
  one_filter row keys _ _ (damaged d a) (damaged e b) = ap (λ (x : Damage). found_by (Some x)) (one_filter_damage spelling first_fault row image d e one a b)
  one_filter row keys _ _ (damaged d a) (unknown s n) = absurd (sound_filter_has_none spelling first_fault row image d one s a)
  one_filter row keys _ _ (damaged d a) (compared k s n) = absurd (sound_filter_has_none spelling first_fault row image d one s a)
  one_filter row keys _ _ (unknown s n) (damaged d b) = absurd (sound_filter_has_none spelling first_fault row image d one s b)
  one_filter row keys _ _ (unknown s n) (unknown t m) = refl
  one_filter row keys _ _ (unknown s n) (compared k t m) = absurd cc
  one_filter row keys _ _ (compared k s n) (damaged d b) = absurd (sound_filter_has_none spelling first_fault row image d one s b)
  one_filter row keys _ _ (compared k s n) (unknown t m) = absurd cc
  one_filter row keys _ _ (compared k s n) (compared l t m) =
      let known : k ≡ l = cc in
      let leaves : s.leaves ≡ t.leaves = (one _ _ _ _ _ _ _ _ _ s.spelled t.spelled).leaves_are in
      (λ j. leaf_findings row (first_difference (leaves j) (leaves_of row.hash_bits row.real_bits (known j))))

  one_of_rows : (rows : List Row) (xs ys : List Finding) → RowsFindings spelling first_fault image rows xs → RowsFindings spelling first_fault image rows ys → xs ≡ ys
  one_of_rows [] xs ys a b = a ∙ sym b
  one_of_rows (row ∷ rows) xs ys a b =
      let filters = one_filter row (known_keys row image) a.0 b.0 a.2 b.2 in
      let later = one_of_rows rows a.1 b.1 a.3 b.3 in
      a.4 ∙ (λ j. index_findings row image ++ (filters j ++ later j)) ∙ sym b.4

  one_log : (v : Version) (xs ys : List Finding) → LogFindings v image xs → LogFindings v image ys → xs ≡ ys
  one_log v _ _ (spelled area entries is log) (spelled other more that others) = refl
  one_log v _ _ (spelled area entries is log) (broken other at rule that b) =
      absurd (not_both entries b.0 rule (area_in other image) (subst (λ (k : ℕ). LogIs k entries image) (same_area v.log_page area other is that) log) b.2)
  one_log v _ _ (broken area at rule is a) (spelled other more that others) =
      absurd (not_both more a.0 rule (area_in area image) (subst (λ (k : ℕ). LogIs k more image) (same_area v.log_page other area that is) others) a.2)
  one_log v _ _ (broken area at rule is a) (broken other more number that b) =
      let so = log_place area at rule other more number image (same_area v.log_page area other is that) a b in
      ap₂ (λ (place broken_rule : ℕ). found_by (Some (damage.Shape part.Log place broken_rule))) so.0 so.1

  one_list : (xs ys : List Finding) → AreFindings spelling first_fault image xs → AreFindings spelling first_fault image ys → xs ≡ ys
  one_list _ _ (of_slots d a) (of_slots e b) = ap (λ (x : Damage). found_by (Some x)) (one_some d e (slots_damage image) a b)
  one_list _ _ (of_slots d a) (of_version slot other v of_rows of_log slots current rows log) = absurd (not_some d (slots_damage image) (no_damage v image (in_use slot other v image slots current)) a)
  one_list _ _ (of_version slot other v of_rows of_log slots current rows log) (of_slots d b) = absurd (not_some d (slots_damage image) (no_damage v image (in_use slot other v image slots current)) b)
  one_list _ _ (of_version slot other v of_rows of_log slots current rows log) (of_version more others w their_rows their_log again present theirs there) =
      let version : v ≡ w = one_version image v w (in_use slot other v image slots current) (in_use more others w image again present) in
      let place : slot ≡ more = one_slot slot other more others v w image slots again current present in
      let of_rows_are = one_of_rows v.rows of_rows their_rows rows (subst (λ (u : Version). RowsFindings spelling first_fault image u.rows their_rows) (sym version) theirs) in
      let of_log_is = one_log v of_log their_log log (subst (λ (u : Version). LogFindings u image their_log) (sym version) there) in
      (λ j. of_rows_are j ++ (ranges_findings (place j) (neighbours_fault (version j).rows image) ++ of_log_is j))

pub one_list_of_findings : OneListOfFindings
one_list_of_findings spelling first_fault image xs ys one a b = one_list spelling first_fault image one xs ys a b

-- ---- a list

module _ (spelling : Spelling) (first_fault : Bytes → FilterFault) (image : Image) (decided : IsDecided spelling) (bytes : IsOfBytes image) where
  of_sound : (row : Row) (keys : Option (List Bytes)) → IsSoundFilter spelling row image → (xs : List Finding) × FilterFindings spelling first_fault row keys image xs
  of_sound row None sound = (_, unknown sound refl)
  of_sound row (Some known) sound = (_, compared known sound refl)

  filter_told : (row : Row) (keys : Option (List Bytes)) → (xs : List Finding) × FilterFindings spelling first_fault row keys image xs
  filter_told row keys = elim (sound_or_damaged spelling first_fault row image decided bytes) [
    | inl sound ↦ of_sound row keys sound
    | inr harm ↦ (_, damaged harm.0 harm.1)
  ]

  rows_told : (rows : List Row) → (xs : List Finding) × RowsFindings spelling first_fault image rows xs
  rows_told [] = ([], refl)
  rows_told (row ∷ rows) =
      let filter = filter_told row (known_keys row image) in
      let later = rows_told rows in
      (index_findings row image ++ (filter.0 ++ later.0), (filter.0, later.0, filter.1, later.1, refl))

  log_told : (v : Version) → IsVersionOf v image → (xs : List Finding) × LogFindings v image xs
  log_told v is =
      let area = area_of spelling first_fault image decided bytes v (version_sound v image is) in
      elim (log_ends spelling first_fault image decided bytes area.0) [
        | inl log ↦ (_, spelled area.0 log.0 area.1 log.1)
        | inr harm ↦ (_, broken area.0 harm.0 harm.1 area.1 harm.2)
      ]

  version_told : (slot other : ℕ) (v : Version) → AreSlots slot other → IsCurrent slot other v image → (xs : List Finding) × AreFindings spelling first_fault image xs
  version_told slot other v slots current =
      let rows = rows_told v.rows in
      let log = log_told v (in_use slot other v image slots current) in
      (_, of_version slot other v rows.0 log.0 slots current rows.1 log.1)

  of_found : (v : Version) → IsVersionOf v image → (xs : List Finding) × AreFindings spelling first_fault image xs
  of_found v (inl current) = version_told slot_a slot_b v (inl (refl, refl)) current
  of_found v (inr current) = version_told slot_b slot_a v (inr (refl, refl)) current

  image_told : IsNoStore image ⊎ ((xs : List Finding) × AreFindings spelling first_fault image xs)
  image_told = elim (damage_or_none (slots_damage image)) [
    | inr harm ↦ inr (_, of_slots harm.0 harm.1)
    | inl none ↦ elim (found image (window_bytes image (body_place slot_a) body_room bytes) (window_bytes image (body_place slot_b) body_room bytes) none) [
      | inl no_store ↦ inl no_store
      | inr version ↦ inr (of_found version.0 version.1)
    ]
  ]

pub findings_are_told : FindingsAreTold
findings_are_told spelling first_fault image decided bytes = image_told spelling first_fault image decided bytes

pub no_store_has_no_findings : NoStoreHasNoFindings
no_store_has_no_findings spelling first_fault image _ none (of_slots d is) = not_some d (slots_damage image) (none_open image none) is
no_store_has_no_findings spelling first_fault image _ none (of_version slot other v of_rows of_log slots current rows log) = no_store v image none (in_use slot other v image slots current)

-- ---- the first damage

abbrev AreBeyond : List Finding → Type 0
AreBeyond xs = AllByRecursion IsBeyondOpening xs

both_beyond : (xs ys : List Finding) → AreBeyond xs → AreBeyond ys → AreBeyond (xs ++ ys)
both_beyond [] ys a b = b
both_beyond (x ∷ xs) ys a b = (a.0, both_beyond xs ys a.1 b)

-- the damage of a part is a finding of that part
of_part : (p : Part) (at kept : ℕ) (bytes : Bytes) (fault : Option Fault) (d : Damage) → part_damage p at kept bytes fault ≡ Some d → AllByRecursion (λ (f : Finding). f.part ≡ p) (found_by (Some d))
of_part p at kept bytes fault d e = go (kept == fnv_of bytes) fault e
  where
    go : (b : Bool) (o : Option Fault) → cond b (option_map (λ (f : Fault). damage.Shape p (at + f.place) f.rule) o) (Some (damage.Sum p at kept (fnv_of bytes))) ≡ Some d → AllByRecursion (λ (f : Finding). f.part ≡ p) (found_by (Some d))
    go true None f = absurd cc
    go true (Some g) f = let is : damage.Shape p (at + g.place) g.rule ≡ d = cc in subst (λ (x : Damage). AllByRecursion (λ (h : Finding). h.part ≡ p) (found_by (Some x))) is (refl, tt)
    go false o f = let is : damage.Sum p at kept (fnv_of bytes) ≡ d = cc in subst (λ (x : Damage). AllByRecursion (λ (h : Finding). h.part ≡ p) (found_by (Some x))) is (refl, tt)

parts_beyond : (xs : List Finding) → AllByRecursion (λ (f : Finding). f.part ≡ part.Block) xs → AreBeyond xs
parts_beyond [] a = tt
parts_beyond (x ∷ xs) a = (inl a.0, parts_beyond xs a.1)

unless_beyond : (b : Bool) (f : Finding) → IsBeyondOpening f → AreBeyond (unless b f)
unless_beyond true f a = tt
unless_beyond false f a = (a, tt)

block_beyond : (page : ℕ) (before : Before) (row : IndexRow) (image : Image) (o : Option Damage) → block_damage page row image ≡ o → AreBeyond (findings_at page before row o image)
block_beyond page before row image None e = unless_beyond (has_its_keys before row (block_at page row image)) (finding part.Block (byte_of_page page) WrongKeys) (inl refl)
block_beyond page before row image (Some d) e =
    parts_beyond (found_by (Some d)) (of_part part.Block (byte_of_page page) row.sum (block_part page row image) (block_fault (block_part page row image)) d e)

blocks_beyond : (page : ℕ) (before : Before) (rows : List IndexRow) (image : Image) → AreBeyond (block_findings page before rows image)
blocks_beyond page before [] image = tt
blocks_beyond page before (row ∷ later) image =
    both_beyond (findings_at page before row (block_damage page row image) image) _ (block_beyond page before row image (block_damage page row image) refl)
    (blocks_beyond (page + row.pages) (known_behind page row (block_damage page row image) image) later image)

index_beyond : (row : Row) (image : Image) (o : Option Damage) → o ≡ None → AreBeyond (findings_behind row o image)
index_beyond row image (Some d) e = absurd cc
index_beyond row image None e =
    both_beyond (findings_of_blocks row image) (count_findings row image) (blocks_beyond row.first_page (AtLeast (index_in (index_part row image)).least) (index_rows row image) image)
    (unless_beyond (not (are_sound_blocks row.first_page (index_rows row image) image) || (length (joined (blocks_of_row row image)) == row.entries)) (finding part.Index (byte_of_page (index_page row)) WrongCount) (inr (inl refl)))

leaf_beyond : (row : Row) (o : Option ℕ) → AreBeyond (leaf_findings row o)
leaf_beyond row None = tt
leaf_beyond row (Some n) = (inr (inr (n, refl)), tt)

-- a damage is found in a list, with what is beyond opening before it
abbrev IsFoundIn : Damage → List Finding → Type 0
IsFoundIn d xs = (before : List Finding) × (later : List Finding) × AreBeyond before × (xs ≡ before ++ (found_by (Some d) ++ later))

found_behind : (d : Damage) (xs ys : List Finding) → AreBeyond xs → IsFoundIn d ys → IsFoundIn d (xs ++ ys)
found_behind d xs ys a f = (
  xs ++ f.0,
  f.1,
  both_beyond xs f.0 a f.2,
  ap (λ (zs : List Finding). xs ++ zs) f.3 ∙ sym (append_assoc xs f.0 (found_by (Some d) ++ f.1)),
)

found_before : (d : Damage) (xs ys : List Finding) → IsFoundIn d xs → IsFoundIn d (xs ++ ys)
found_before d xs ys f = (
  f.0,
  f.1 ++ ys,
  f.2,
  ap (λ (zs : List Finding). zs ++ ys) f.3 ∙ append_assoc f.0 (found_by (Some d) ++ f.1) ys ∙ ap (λ (zs : List Finding). f.0 ++ zs) (append_assoc (found_by (Some d)) f.1 ys),
)

found_here : (d : Damage) (xs later : List Finding) → xs ≡ found_by (Some d) ++ later → IsFoundIn d xs
found_here d xs later e = ([], later, tt, e)

module _ (spelling : Spelling) (first_fault : Bytes → FilterFault) (image : Image) (one : SpellsOne spelling) where
  filter_beyond : (row : Row) (keys : Option (List Bytes)) (xs : List Finding) → IsSoundFilter spelling row image → FilterFindings spelling first_fault row keys image xs → AreBeyond xs
  filter_beyond row keys _ sound (damaged d a) = absurd (sound_filter_has_none spelling first_fault row image d one sound a)
  filter_beyond row keys _ sound (unknown s n) = tt
  filter_beyond row keys _ sound (compared k s n) = leaf_beyond row (first_difference s.leaves (leaves_of row.hash_bits row.real_bits k))

  filter_found : (d : Damage) (row : Row) (keys : Option (List Bytes)) (xs : List Finding) → IsFilterDamage spelling first_fault row image d → FilterFindings spelling first_fault row keys image xs → IsFoundIn d xs
  filter_found d row keys _ a (damaged e b) =
      found_here d (found_by (Some e)) [] (ap (λ (x : Damage). found_by (Some x)) (one_filter_damage spelling first_fault row image e d one b a) ∙ sym (append-nil (found_by (Some d))))
  filter_found d row keys _ a (unknown s n) = absurd (sound_filter_has_none spelling first_fault row image d one s a)
  filter_found d row keys _ a (compared k s n) = absurd (sound_filter_has_none spelling first_fault row image d one s a)

  rows_found : (d : Damage) (rows : List Row) (xs : List Finding) → TablesBreak spelling first_fault image d rows → RowsFindings spelling first_fault image rows xs → IsFoundIn d xs
  rows_found d [] xs a r = elim a [ ]
  rows_found d (row ∷ rows) xs (inl a) r =
      found_here d xs (r.0 ++ r.1) (r.4 ∙ ap (λ (o : Option Damage). findings_behind row o image ++ (r.0 ++ r.1)) a)
  rows_found d (row ∷ rows) xs (inr (none, inl a)) r =
      subst (IsFoundIn d) (sym r.4)
      (found_behind d (index_findings row image) (r.0 ++ r.1) (index_beyond row image (index_damage row image) none) (found_before d r.0 r.1 (filter_found d row (known_keys row image) r.0 a r.2)))
  rows_found d (row ∷ rows) xs (inr (none, inr (sound, a))) r =
      subst (IsFoundIn d) (sym r.4)
      (found_behind d (index_findings row image) (r.0 ++ r.1) (index_beyond row image (index_damage row image) none)
      (found_behind d r.0 r.1 (filter_beyond row (known_keys row image) r.0 sound r.2) (rows_found d rows r.1 a r.3)))

  rows_beyond : (rows : List Row) (xs : List Finding) → AllByRecursion (IsOpened spelling image) rows → RowsFindings spelling first_fault image rows xs → AreBeyond xs
  rows_beyond [] xs all r = subst AreBeyond (sym r) tt
  rows_beyond (row ∷ rows) xs all r =
      subst AreBeyond (sym r.4)
      (both_beyond (index_findings row image) (r.0 ++ r.1) (index_beyond row image (index_damage row image) all.0.index)
      (both_beyond r.0 r.1 (filter_beyond row (known_keys row image) r.0 all.0.filter r.2) (rows_beyond rows r.1 all.1 r.3)))

  log_found : (v : Version) (area at rule : ℕ) (xs : List Finding) → v.log_page ≡ log_page_of area → LogBreaks area at rule image → LogFindings v image xs → IsFoundIn (damage.Shape part.Log at rule) xs
  log_found v area at rule _ is a (spelled other more that others) =
      absurd (not_both more a.0 rule (area_in area image) (subst (λ (k : ℕ). LogIs k more image) (same_area v.log_page other area that is) others) a.2)
  log_found v area at rule _ is a (broken other more number that b) =
      let so = log_place other more number area at rule image (same_area v.log_page other area that is) b a in
      found_here (damage.Shape part.Log at rule) _ [] (ap₂ (λ (place broken_rule : ℕ). finding part.Log place (BrokenRule broken_rule) ∷ []) so.0 so.1)

  ranges_are : (slot : ℕ) (v : Version) (o : Option Fault) → AllByRecursion (IsOpened spelling image) v.rows → ranges_fault (map (key_range_of image) v.rows) ≡ o → ranges_findings slot (neighbours_fault v.rows image) ≡ ranges_findings slot o
  ranges_are slot v o all e = ap (ranges_findings slot) (neighbours_are image v.rows (indexes_of_opened spelling image v.rows all) ∙ e)

  version_found : (slot : ℕ) (v : Version) (d : Damage) (of_rows of_log : List Finding) → VersionBreaks spelling first_fault slot v image d → RowsFindings spelling first_fault image v.rows of_rows → LogFindings v image of_log
      → IsFoundIn d (of_rows ++ (ranges_findings slot (neighbours_fault v.rows image) ++ of_log))
  version_found slot v _ of_rows of_log (at_a_table d a) rows log = found_before d of_rows _ (rows_found d v.rows of_rows a rows)
  version_found slot v _ of_rows of_log (at_the_ranges f all a) rows log =
      let d = damage.Shape part.Manifest (body_place slot + f.place) f.rule in
      found_behind d of_rows (ranges_findings slot (neighbours_fault v.rows image) ++ of_log) (rows_beyond v.rows of_rows all rows)
      (found_here d _ of_log (ap (λ (xs : List Finding). xs ++ of_log) (ranges_are slot v (Some f) all a)))
  version_found slot v _ of_rows of_log (at_the_log area at rule all none is a) rows log =
      let d = damage.Shape part.Log at rule in
      found_behind d of_rows (ranges_findings slot (neighbours_fault v.rows image) ++ of_log) (rows_beyond v.rows of_rows all rows)
      (subst (λ (xs : List Finding). IsFoundIn d (xs ++ of_log)) (sym (ranges_are slot v None all none)) (log_found v area at rule of_log is a log))

  image_found : (d : Damage) (xs : List Finding) → FirstDamage spelling first_fault image d → AreFindings spelling first_fault image xs → IsFoundIn d xs
  image_found d _ (at_the_slots a) (of_slots e b) =
      found_here d (found_by (Some e)) [] (ap (λ (x : Damage). found_by (Some x)) (one_some e d (slots_damage image) b a) ∙ sym (append-nil (found_by (Some d))))
  image_found d _ (at_the_slots a) (of_version slot other v of_rows of_log slots current rows log) = absurd (not_some d (slots_damage image) (no_damage v image (in_use slot other v image slots current)) a)
  image_found d _ (at_the_version slot other v slots current a) (of_slots e b) = absurd (not_some e (slots_damage image) (no_damage v image (in_use slot other v image slots current)) b)
  image_found d _ (at_the_version more others w again present a) (of_version slot other v of_rows of_log slots current rows log) =
      let version : w ≡ v = one_version image w v (in_use more others w image again present) (in_use slot other v image slots current) in
      let place : more ≡ slot = one_slot more others slot other w v image again slots present current in
      version_found slot v d of_rows of_log
      (subst (λ (k : ℕ). VersionBreaks spelling first_fault k v image d) place (subst (λ (u : Version). VersionBreaks spelling first_fault more u image d) version a)) rows log

pub first_damage_is_found : FirstDamageIsFound
first_damage_is_found spelling first_fault image d xs one first are = image_found spelling first_fault image one d xs first are
