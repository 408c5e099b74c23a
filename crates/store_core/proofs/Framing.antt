-- What calls leave as it was, on each image, whatever is there.
use Rattle.std.proofs.Common.{◌≡◌, ◌⊎◌, inl, inr, ◌∙◌, ◌<◌, ◌≤◌, ◌+◌, ◌*◌, ℕ, zero, suc, List, [], ◌∷◌, map, refl, sym, ap, subst, arith}
use Rattle.std.specs.List.{AllByRecursion}
use Rattle.block_model.specs.Places.{byte_of_page}
use Rattle.byte_fields.specs.declared.parts.Row.{Row}
use Rattle.entry_model.specs.Entries.{Entry}
use Rattle.disk_trait.proofs.Moments.{passes_joined, passes_other, passes_still}
use Rattle.disk_trait.specs.Image.{Image, Torn}
use Rattle.disk_trait.specs.World.{Moves, ReadMoves, Same, World, WriteMoves}
use Rattle.extent_model.specs.Extents.{AreApart, AreLaid}
use Rattle.filter_api.specs.Spellings.{Spelling}
use Rattle.filter_model.specs.Leaves.{Leaf}
use Rattle.image_model.proofs.Placed.{behind_logs}
use Rattle.manifest.specs.Manifest.{Manifest, other_place, place_of}
use Rattle.manifest_model.specs.Laws.{IsVersion}
use Rattle.manifest_model.specs.Rows.{extent_of}
use Rattle.manifest_model.specs.Version.{Version, log_page_of}
use Rattle.std.proofs.lemmas.List.{map-append}
use Rattle.table_file.specs.Building.{Built, source_in}
use Rattle.log_model.specs.Area.{start_of}
use Rattle.table_model.specs.Laws.{IsApartFromRow}
use Rattle.table_model.specs.Tables.{filter_bytes_of, source_pages}
use Rattle.store_core.specs.Flushing.{IsPlan, other_log_page}
use Rattle.store_core.specs.Running.{extents_with}
use Rattle.store_core.proofs.PlannedRows.{first_of_both}
use Rattle.store_core.proofs.Plans.{plan_is_free}
use Rattle.store_core.specs.Framing.{IsInTables, IsInUse, IsWithin, KeepsPlaces, LeavesPlaces}

keeps_still : (P : ℕ → Type 0) (f : Image) → KeepsPlaces P f f
keeps_still P f place is = refl

keeps_twice : (P : ℕ → Type 0) (f g h : Image) → KeepsPlaces P f g → KeepsPlaces P g h → KeepsPlaces P f h
keeps_twice P f g h first second place is = second place is ∙ first place is

-- nothing in a range is one of these places
abbrev pub IsOutside : (ℕ → Type 0) → ℕ → ℕ → Type 0
IsOutside P at n = (place : ℕ) → P place → (place < at) ⊎ (at + n ≤ place)

module _ (P : ℕ → Type 0) where
  pub leaves_none : (a : World) → LeavesPlaces P a a
  leaves_none a = record { held = keeps_still P a.seen.held; time = passes_still (KeepsPlaces P) a }

  pub leaves_then : (a b c : World) → LeavesPlaces P a b → LeavesPlaces P b c → LeavesPlaces P a c
  leaves_then a b c first second = record {
    held = keeps_twice P a.seen.held b.seen.held c.seen.held first.held second.held;
    time = passes_joined (KeepsPlaces P) a b c (keeps_still P) (keeps_twice P) first.time second.time;
  }

  torn_keeps : (at n : ℕ) → IsOutside P at n → (f g : Image) → Torn at n f g → KeepsPlaces P f g
  torn_keeps at n out f g torn place is = elim (out place is) [ inl low ↦ torn.before place low | inr high ↦ torn.after place high ]

  pub leaves_write : (at n : ℕ) (a b : World) → IsOutside P at n → WriteMoves at n a b → LeavesPlaces P a b
  leaves_write at n a b out moves = record {
    held = torn_keeps at n out a.seen.held b.seen.held moves.torn;
    time = passes_other (Torn at n) (KeepsPlaces P) a b (torn_keeps at n out) moves.time;
  }

  pub leaves_moves : (at n most : ℕ) (a b : World) → IsOutside P at n → Moves at n most a b → LeavesPlaces P a b
  leaves_moves at n most a b out moves = record {
    held = torn_keeps at n out a.seen.held b.seen.held moves.torn;
    time = passes_other (Torn at n) (KeepsPlaces P) a b (torn_keeps at n out) moves.time;
  }

  pub leaves_read : (n : ℕ) (a b : World) → ReadMoves n a b → LeavesPlaces P a b
  leaves_read n a b moves = record {
    held = λ place is. ap (λ (f : Image). f place) moves.held;
    time = passes_other Same (KeepsPlaces P) a b (λ f g same place is. ap (λ (i : Image). i place) same) moves.time;
  }

  -- fewer places
  pub leaves_fewer : (Q : ℕ → Type 0) (a b : World) → ((place : ℕ) → Q place → P place) → LeavesPlaces P a b → LeavesPlaces Q a b
  leaves_fewer Q a b fewer leaves = record {
    held = λ place is. leaves.held place (fewer place is);
    time = passes_other (KeepsPlaces P) (KeepsPlaces Q) a b (λ f g keeps place is. keeps place (fewer place is)) leaves.time;
  }

-- ---- ranges apart from what is in use

outside_rows : (rows : List Row) (at n : ℕ) → AllByRecursion (IsApartFromRow at n) rows → IsOutside (IsInTables rows) at n
outside_rows [] at n apart place is = absurd is
outside_rows (row ∷ rows) at n apart place (inl here) = elim apart.0 [
  | inl below ↦ inl (omega (arith, below, here.1))
  | inr above ↦ inr (omega (arith, above, here.0))
]
outside_rows (row ∷ rows) at n apart place (inr there) = outside_rows rows at n apart.1 place there

rows_apart_from : (first pages : ℕ) (rows : List Row) → AllByRecursion (AreApart (first, pages)) (map extent_of rows) → AllByRecursion (IsApartFromRow (byte_of_page first) (4096 * pages)) rows
rows_apart_from first pages [] apart = tt
rows_apart_from first pages (row ∷ rows) apart = (
  elim apart.0 [
    | inl before ↦ inr (omega (arith, before))
    | inr behind ↦ inl (omega (arith, behind))
  ],
  rows_apart_from first pages rows apart.1,
)

other_slot : (slot : ℕ) → slot ≤ 1 → (place : ℕ) → IsWithin (place_of slot) 131072 place → (place < other_place slot) ⊎ (other_place slot + 131072 ≤ place)
other_slot zero few place is = inl (omega (arith, is.1))
other_slot (suc n) few place is = inr (omega (arith, few, is.0))

area_is_one : (area : ℕ) → area ≤ 1 → (log_page_of area ≡ 64 → ⊥) → area ≡ 1
area_is_one zero small other = absurd (other (omega arith))
area_is_one (suc n) small other = omega (arith, small)

area_is_none : (area : ℕ) → area ≤ 1 → (log_page_of area ≡ 128 → ⊥) → area ≡ 0
area_is_none zero small other = refl
area_is_none (suc n) small other = absurd (other (omega (arith, small)))

module _ (m : Manifest) (is : IsVersion m.version) (few : m.slot ≤ 1) where
  -- the slot and the log in use end where the pages of tables begin
  before_tables : (logged at n : ℕ) → logged ≤ 262144 → 786432 ≤ at → IsOutside (IsInTables m.version.rows) at n → IsOutside (IsInUse m logged) at n
  before_tables logged at n within from rows place (inl slot) = inl (omega (arith, few, from, slot.1))
  before_tables logged at n within from rows place (inr (inl log)) =
      elim is.log_page [ inl first ↦ inl (omega (arith, first, within, from, log.1)) | inr second ↦ inl (omega (arith, second, within, from, log.1)) ]
  before_tables logged at n within from rows place (inr (inr table)) = rows place table

  -- pages that are free
  pub free_outside : (logged first pages : ℕ) → logged ≤ 262144 → 192 ≤ first → AllByRecursion (AreApart (first, pages)) (map extent_of m.version.rows) → IsOutside (IsInUse m logged) (byte_of_page first) (4096 * pages)
  free_outside logged first pages within from apart =
      before_tables logged (byte_of_page first) (4096 * pages) within (omega (arith, from)) (outside_rows m.version.rows (byte_of_page first) (4096 * pages) (rows_apart_from first pages m.version.rows apart))

  -- the other slot
  pub slot_outside : (logged : ℕ) → IsOutside (IsInUse m logged) (other_place m.slot) 131072
  slot_outside logged place (inl slot) = other_slot m.slot few place slot
  slot_outside logged place (inr (inl log)) = elim is.log_page [ inl first ↦ inr (omega (arith, few, first, log.0)) | inr second ↦ inr (omega (arith, few, second, log.0)) ]
  slot_outside logged place (inr (inr table)) =
      outside_rows m.version.rows (other_place m.slot) 131072 (behind_logs m.version (other_place m.slot) 131072 is (omega (arith, few))) place table

  -- a range of the other log area
  pub log_outside : (logged area at n : ℕ) → logged ≤ 262144 → area ≤ 1 → (log_page_of area ≡ m.version.log_page → ⊥) → start_of area ≤ at → at + n ≤ start_of area + 262144 → IsOutside (IsInUse m logged) at n
  log_outside logged area at n within small other from to place (inl slot) = inl (omega (arith, few, from, slot.1))
  log_outside logged area at n within small other from to place (inr (inl log)) = elim is.log_page [
    | inl first ↦ let here = area_is_one area small (λ same. other (same ∙ sym first)) in inl (omega (arith, first, within, here, from, log.1))
    | inr second ↦ let here = area_is_none area small (λ same. other (same ∙ sym second)) in inr (omega (arith, second, here, to, log.0))
  ]
  log_outside logged area at n within small other from to place (inr (inr table)) =
      outside_rows m.version.rows at n (behind_logs m.version at n is (omega (arith, to, small))) place table

  -- the log in use from a place on
  pub record_outside : (logged n : ℕ) → logged + n ≤ 262144 → IsOutside (IsInUse m logged) (byte_of_page m.version.log_page + logged) n
  record_outside logged n fits place (inl slot) = elim is.log_page [ inl first ↦ inl (omega (arith, few, first, slot.1)) | inr second ↦ inl (omega (arith, few, second, slot.1)) ]
  record_outside logged n fits place (inr (inl log)) = inl log.1
  record_outside logged n fits place (inr (inr table)) =
      outside_rows m.version.rows (byte_of_page m.version.log_page + logged) n
      (behind_logs m.version (byte_of_page m.version.log_page + logged) n is (elim is.log_page [ inl first ↦ omega (arith, first, fits) | inr second ↦ omega (arith, second, fits) ])) place table

-- pages beside those of the version and of some outputs
pub row_outside : (m : Manifest) → IsVersion m.version → m.slot ≤ 1 → (outputs : List Row) (first pages : ℕ) → 192 ≤ first → AllByRecursion (AreApart (first, pages)) (extents_with m.version outputs)
    → IsOutside (IsInUse m 262144) (byte_of_page first) (4096 * pages)
row_outside m is few outputs first pages from apart =
    free_outside m is few 262144 first pages (omega arith) from
    (first_of_both (AreApart (first, pages)) (map extent_of m.version.rows) (map extent_of outputs) (subst (AllByRecursion (AreApart (first, pages))) (map-append extent_of m.version.rows outputs) apart))

-- ---- what a flush writes

pub other_page : (v : Version) → IsVersion v → (area : ℕ) → other_log_page v ≡ log_page_of area → (area ≤ 1) × (log_page_of area ≡ v.log_page → ⊥)
other_page v is area other = elim is.log_page [
  | inl first ↦ (omega (arith, first, other), λ same. omega (arith, first, other, same))
  | inr second ↦ (omega (arith, second, other), λ same. omega (arith, second, other, same))
]

-- the gate of the other log
pub gate_outside : (m : Manifest) → IsVersion m.version → m.slot ≤ 1 → (area : ℕ) → other_log_page m.version ≡ log_page_of area → IsOutside (IsInUse m 262144) (start_of area) 1
gate_outside m is few area other =
    let at = other_page m.version is area other in
    log_outside m is few 262144 area (start_of area) 1 (omega arith) at.0 at.1 (omega arith) (omega arith)

module _ (spelling : Spelling) (built_cutoff : ℕ → List Leaf → ℕ) (m : Manifest) (outputs : List Row) (entries : List Entry) (parts : Built) (row : Row) (next : Manifest) (is : IsVersion m.version) (few : m.slot ≤ 1)
    (laid : AreLaid m.version.pages (extents_with m.version outputs)) (plan : IsPlan spelling built_cutoff m outputs entries parts row next) where
  abbrev P : ℕ → Type 0
  P = IsInUse m 262144

  pub table_left : (a b : World) → WriteMoves (byte_of_page row.first_page) (4096 * source_pages (filter_bytes_of spelling built_cutoff) parts.settings (source_in parts)) a b → LeavesPlaces P a b
  table_left a b moves =
      let need = source_pages (filter_bytes_of spelling built_cutoff) parts.settings (source_in parts) in
      let free = plan_is_free spelling built_cutoff m outputs entries parts row next is laid plan in
      leaves_write P (byte_of_page row.first_page) (4096 * need) a b (row_outside m is few outputs row.first_page need free.0.from free.1) moves

  pub log_left : (a b c : World) (area : ℕ) → next.version.log_page ≡ log_page_of area → LeavesPlaces P a b → WriteMoves (start_of area) 1 b c → LeavesPlaces P a c
  log_left a b c area at before moves =
      leaves_then P a b c before
      (leaves_write P (start_of area) 1 b c (gate_outside m is few area (sym (ap (λ (n : Manifest). n.version.log_page) plan.next_is) ∙ at)) moves)

  pub slot_left : (a b c : World) → LeavesPlaces P a b → WriteMoves (other_place next.slot) 131072 b c → LeavesPlaces P a c
  slot_left a b c before moves =
      leaves_then P a b c before
      (leaves_write P (other_place m.slot) 131072 b c (slot_outside m is few 262144) (subst (λ (n : ℕ). WriteMoves (other_place n) 131072 b c) (ap (λ (n : Manifest). n.slot) plan.next_is) moves))

-- ---- in less of the log

pub less_in_use : (m : Manifest) (less more : ℕ) → less ≤ more → (place : ℕ) → IsInUse m less place → IsInUse m more place
less_in_use m less more within place (inl slot) = inl slot
less_in_use m less more within place (inr (inl log)) = inr (inl (log.0, omega (arith, log.1, within)))
less_in_use m less more within place (inr (inr table)) = inr (inr table)
