-- A version is read as it was written.
use Rattle.std.proofs.Common.{◌≡◌, ◌⊎◌, inl, inr, ◌<◌, ◌≤◌, ◌+◌, ◌*◌, ◌^◌, ℕ, true, false, cond, List, [], ◌∷◌, ◌++◌, length, take, drop, refl, sym, ap, ap₂, subst, ◌∙◌, arith, append_assoc, length-append}
use Rattle.std.specs.Prelude.{Option, Some, None, ◌==◌, ◌&&◌, nat_lt, not, flat_map, slice_index}
use Rattle.std.specs.List.{AllByRecursion}
use Rattle.std.proofs.lemmas.Bool.{and_left, and_right, cond-true, eq-eqb, le-ltb, or_from}
use Rattle.std.proofs.lemmas.List.{drop_at, take_at}
use Rattle.byteorder.specs.Endian.{little_bytes, little_number}
use Rattle.byte_fields.specs.Fields.{FieldsFit}
use Rattle.byte_fields.specs.Sums.{fnv_of}
use Rattle.byte_fields.specs.declared.parts.Damage.{Damage}
use Rattle.byte_fields.specs.declared.parts.Row.{Row}
use Rattle.byte_fields.proofs.FieldLemmas.{fields_again}
use Rattle.byte_fields.proofs.NumberLemmas.{number_again}
use Rattle.key_base.specs.Limits.{log_pages}
use Rattle.map_model.specs.SortedMap.{Bytes}
use Rattle.byte_fields.specs.Faults.{Fault}
use Rattle.block_model.proofs.OldEntriesRead.{eqb_zero}
use Rattle.block_model.proofs.Refusals.{none_of, not_true, passed}
use Rattle.block_model.proofs.TableIndex.{sum_below}
use Rattle.filter_api.specs.Ranges.{IsRowInRange}
use Rattle.filter_api.specs.declared.settings.Settings.{Settings}
use Rattle.manifest_model.specs.Laws.{IsVersion, RowFits, VersionIsReadAgain}
use Rattle.manifest_model.specs.Reading.{are_no_pages, body_damage, body_format, table_count_in, early_fault, head_settings, is_no_format, last_zeros_fault, log_area_fault, prefix_length_in, is_no_log_page, kept_sum, later_fault, numbers_fault, of_version, settings_fault, table_row_in, row_of, row_zeros_fault, table_rows_in, seen_sum, shape_at, sum_damage, version_in, zeros_fault}
use Rattle.manifest_model.specs.Version.{HasHeadSettings, MaySpell, Version, body_bytes, by_format, prefix_bytes, head_bytes, manifest_magic, row_bytes, row_numbers, row_widths}

-- ---- the formats

abbrev pub IsFormat : ℕ → Type 0
IsFormat format = (format ≡ 2) ⊎ (format ≡ 1)

pub format_of : (format : ℕ) (v : Version) → MaySpell format v → IsFormat format
format_of format v (inl e) = inl e
format_of format v (inr both) = inr both.0

format_small : (format : ℕ) → IsFormat format → format < 256 ^ 2
format_small format (inl e) = omega (arith, e)
format_small format (inr e) = omega (arith, e)

format_kept : (format : ℕ) → IsFormat format → is_no_format format ≡ false
format_kept format (inl e) = and_right (not (format == 1)) (not (format == 2)) (not_true _ (eq-eqb format 2 e))
format_kept format (inr e) = and_left (not (format == 1)) (not (format == 2)) (not_true _ (eq-eqb format 1 e))

-- ---- the head, with anything after it

magic_again : (format : ℕ) (v : Version) (rest : Bytes) → little_number 4 (head_bytes format v ++ rest) ≡ manifest_magic
unfolding head_bytes
magic_again format v rest = number_again 4 manifest_magic (drop 4 (head_bytes format v ++ rest)) (omega arith)

format_again : (format : ℕ) (v : Version) (rest : Bytes) → IsFormat format → body_format (head_bytes format v ++ rest) ≡ format
unfolding head_bytes
format_again format v rest is = number_again 2 format (drop 6 (head_bytes format v ++ rest)) (format_small format is)

count_again : (format : ℕ) (v : Version) (rest : Bytes) → IsVersion v → table_count_in (head_bytes format v ++ rest) ≡ length v.rows
unfolding head_bytes
count_again format v rest is = number_again 2 (length v.rows) (drop 8 (head_bytes format v ++ rest)) (omega (arith, is.few_tables))

epoch_again : (format : ℕ) (v : Version) (rest : Bytes) → IsVersion v → little_number 8 (drop 8 (head_bytes format v ++ rest)) ≡ v.epoch
unfolding head_bytes
epoch_again format v rest is = number_again 8 v.epoch (drop 16 (head_bytes format v ++ rest)) is.epoch

pages_again : (format : ℕ) (v : Version) (rest : Bytes) → IsVersion v → little_number 4 (drop 16 (head_bytes format v ++ rest)) ≡ v.pages
unfolding head_bytes
pages_again format v rest is = number_again 4 v.pages (drop 20 (head_bytes format v ++ rest)) (omega (arith, is.few_pages))

hash_again : (format : ℕ) (v : Version) (rest : Bytes) → IsVersion v → slice_index (head_bytes format v ++ rest) 20 ≡ v.hash_bits
unfolding head_bytes
hash_again format v rest is = let few = is.hash_bits in omega (arith, few)

real_again : (format : ℕ) (v : Version) (rest : Bytes) → IsVersion v → slice_index (head_bytes format v ++ rest) 21 ≡ v.real_bits
unfolding head_bytes
real_again format v rest is = let few = is.real_bits in omega (arith, few)

ratio_again : (format : ℕ) (v : Version) (rest : Bytes) → IsVersion v → little_number 2 (drop 22 (head_bytes format v ++ rest)) ≡ v.ratio
unfolding head_bytes
ratio_again format v rest is = number_again 2 v.ratio (drop 24 (head_bytes format v ++ rest)) (omega (arith, is.ratio))

area_small : (page : ℕ) → (page ≡ 64) ⊎ (page ≡ 128) → page < 256 ^ 4
area_small page (inl e) = omega (arith, e)
area_small page (inr e) = omega (arith, e)

area_again : (format : ℕ) (v : Version) (rest : Bytes) → IsVersion v → little_number 4 (drop 24 (head_bytes format v ++ rest)) ≡ v.log_page
unfolding head_bytes
area_again format v rest is = number_again 4 v.log_page (drop 28 (head_bytes format v ++ rest)) (area_small v.log_page is.log_page)

area_pages_again : (format : ℕ) (v : Version) (rest : Bytes) → little_number 4 (drop 28 (head_bytes format v ++ rest)) ≡ log_pages
unfolding head_bytes
area_pages_again format v rest = number_again 4 log_pages (drop 32 (head_bytes format v ++ rest)) (omega arith)

head_zeros : (format : ℕ) (v : Version) (rest : Bytes) → zeros_fault 32 (take 32 (drop 32 (head_bytes format v ++ rest))) ≡ None
unfolding head_bytes zeros_fault
head_zeros format v rest = refl

behind_head : (format : ℕ) (v : Version) (rest : Bytes) → drop 64 (head_bytes format v ++ rest) ≡ rest
unfolding head_bytes
behind_head format v rest = refl

head_long : (format : ℕ) (v : Version) → length (head_bytes format v) ≡ 64
unfolding head_bytes
head_long format v = refl

-- ---- the rows

-- a version's settings
abbrev pub settings_of : Version → Settings
settings_of v = record { hash_bits = v.hash_bits; real_bits = v.real_bits; ratio = v.ratio }

settings_again : (format : ℕ) (v : Version) (rest : Bytes) → IsVersion v → head_settings (head_bytes format v ++ rest) ≡ settings_of v
settings_again format v rest is =
    let a = hash_again format v rest is in
    let b = real_again format v rest is in
    let c = ratio_again format v rest is in
    λ i. record { hash_bits = a i; real_bits = b i; ratio = c i }

pub either_less : (format this that bound : ℕ) → this < bound → that < bound → by_format format this that < bound
either_less format this that bound a b = elim (format == 1) as (λ t. cond t this that < bound) [ true ↦ a | false ↦ b ]

fits_in : (format : ℕ) (row : Row) → RowFits row → FieldsFit row_widths (row_numbers format row)
fits_in format row f = (f.0, (f.1.0, (f.1.1.0, (f.1.1.1.0, (f.1.1.1.1.0, (f.1.1.1.1.1.0, (f.1.1.1.1.1.1.0, (f.1.1.1.1.1.1.1.0, (f.1.1.1.1.1.1.1.1.0, (f.1.1.1.1.1.1.1.1.1.0, (f.1.1.1.1.1.1.1.1.1.1.0, (either_less format 0 row.hash_bits (256 ^ 1) (omega arith) f.1.1.1.1.1.1.1.1.1.1.1.0, (either_less format 0 row.real_bits (256 ^ 1) (omega arith) f.1.1.1.1.1.1.1.1.1.1.1.1.0, (either_less format 0 row.ratio (256 ^ 2) (omega arith) f.1.1.1.1.1.1.1.1.1.1.1.1.1.0, (f.1.1.1.1.1.1.1.1.1.1.1.1.1.1.0, tt)))))))))))))))

-- with the settings in the head a row is read as it was written
record IsReadAs (format : ℕ) (head : Settings) (row : Row) : Type 0 where
  pub hash_bits : by_format format head.hash_bits (by_format format 0 row.hash_bits) ≡ row.hash_bits
  pub real_bits : by_format format head.real_bits (by_format format 0 row.real_bits) ≡ row.real_bits
  pub ratio : by_format format head.ratio (by_format format 0 row.ratio) ≡ row.ratio

all_read : (head : Settings) (rows : List Row) → AllByRecursion (IsReadAs 2 head) rows
all_read head [] = tt
all_read head (row ∷ rows) = (record { hash_bits = refl; real_bits = refl; ratio = refl }, all_read head rows)

all_as_head : (v : Version) (rows : List Row) → AllByRecursion (HasHeadSettings v) rows → AllByRecursion (IsReadAs 1 (settings_of v)) rows
all_as_head v [] have = tt
all_as_head v (row ∷ rows) have = (record { hash_bits = sym have.0.hash_bits; real_bits = sym have.0.real_bits; ratio = sym have.0.ratio }, all_as_head v rows have.1)

are_read : (format : ℕ) (v : Version) → MaySpell format v → AllByRecursion (IsReadAs format (settings_of v)) v.rows
are_read format v (inl e) = subst (λ (f : ℕ). AllByRecursion (IsReadAs f (settings_of v)) v.rows) (sym e) (all_read (settings_of v) v.rows)
are_read format v (inr both) = subst (λ (f : ℕ). AllByRecursion (IsReadAs f (settings_of v)) v.rows) (sym both.0) (all_as_head v v.rows both.1)

row_again : (format : ℕ) (head : Settings) (row : Row) (rest : Bytes) → RowFits row → IsReadAs format head row → table_row_in format head (row_bytes format row ++ rest) ≡ row
unfolding table_row_in row_bytes
row_again format head row rest fits is =
    ap (row_of format head) (fields_again row_widths (row_numbers format row) rest (fits_in format row fits))
    ∙ (λ i. record row { hash_bits = is.hash_bits i; real_bits = is.real_bits i; ratio = is.ratio i })

past_row : (format : ℕ) (row : Row) (later rest : Bytes) → drop 64 ((row_bytes format row ++ later) ++ rest) ≡ later ++ rest
unfolding row_bytes
past_row format row later rest = refl

regrouped : (format : ℕ) (row : Row) (later rest : Bytes) → (row_bytes format row ++ later) ++ rest ≡ row_bytes format row ++ (later ++ rest)
regrouped format row later rest = append_assoc (row_bytes format row) later rest

rows_again : (format : ℕ) (head : Settings) (rows : List Row) (rest : Bytes) → AllByRecursion RowFits rows → AllByRecursion (IsReadAs format head) rows
    → table_rows_in format head (length rows) (flat_map (row_bytes format) rows ++ rest) ≡ rows
unfolding table_rows_in
rows_again format head [] rest fit are = refl
rows_again format head (row ∷ rows) rest fit are =
    let later = flat_map (row_bytes format) rows in
    ap₂ (λ (x : Row) (l : Bytes). x ∷ table_rows_in format head (length rows) l)
    (ap (table_row_in format head) (regrouped format row later rest) ∙ row_again format head row (later ++ rest) fit.0 are.0) (past_row format row later rest)
    ∙ ap (λ (l : List Row). row ∷ l) (rows_again format head rows rest fit.1 are.1)

first_zeros : (format place : ℕ) (row : Row) (rest : Bytes) → zeros_fault (place + 1) (take 3 (drop 1 (row_bytes format row ++ rest))) ≡ None
unfolding zeros_fault row_bytes
first_zeros format place row rest = refl

last_zeros : (format place : ℕ) (row : Row) (rest : Bytes) → IsFormat format → last_zeros_fault format place (row_bytes format row ++ rest) ≡ None
unfolding zeros_fault row_bytes
last_zeros format place row rest (inl e) = subst (λ (f : ℕ). last_zeros_fault f place (row_bytes f row ++ rest) ≡ None) (sym e) refl
last_zeros format place row rest (inr e) = subst (λ (f : ℕ). last_zeros_fault f place (row_bytes f row ++ rest) ≡ None) (sym e) refl

row_zeros : (format place : ℕ) (rows : List Row) (rest : Bytes) → IsFormat format → row_zeros_fault format (length rows) place (flat_map (row_bytes format) rows ++ rest) ≡ None
unfolding row_zeros_fault
row_zeros format place [] rest is = refl
row_zeros format place (row ∷ rows) rest is =
    let later = flat_map (row_bytes format) rows in
    let parts = regrouped format row later rest in
    none_of _ _ (ap (λ (l : Bytes). zeros_fault (place + 1) (take 3 (drop 1 l))) parts ∙ first_zeros format place row (later ++ rest))
    (none_of _ _ (ap (last_zeros_fault format place) parts ∙ last_zeros format place row (later ++ rest) is)
    (ap (row_zeros_fault format (length rows) (place + 64)) (past_row format row later rest) ∙ row_zeros format (place + 64) rows rest is))

-- settings in range break no rule
settings_kept : (place : ℕ) (rows : List Row) → AllByRecursion IsRowInRange rows → settings_fault place rows ≡ None
unfolding settings_fault
settings_kept place [] are = refl
settings_kept place (row ∷ rows) are =
    passed _ _ _ _ (le-ltb 32 row.hash_bits are.0.settings.hash_bits)
    (passed _ _ _ _ (le-ltb 32 row.real_bits are.0.settings.real_bits) (settings_kept (place + 64) rows are.1))

row_long : (format : ℕ) (row : Row) → length (row_bytes format row) ≡ 64
unfolding row_bytes
row_long format row = refl

pub rows_long : (format : ℕ) (rows : List Row) → length (flat_map (row_bytes format) rows) ≡ 64 * length rows
rows_long format [] = refl
rows_long format (row ∷ rows) = omega (arith, length-append (row_bytes format row) (flat_map (row_bytes format) rows), row_long format row, rows_long format rows)

-- ---- the body: the head, the rows, and what follows them

abbrev spelled : ℕ → Version → Bytes → Bytes
spelled format v rest = head_bytes format v ++ (flat_map (row_bytes format) v.rows ++ rest)

version_again : (format : ℕ) (v : Version) (rest : Bytes) → IsVersion v → MaySpell format v → version_in (spelled format v rest) ≡ v
unfolding version_in
version_again format v rest is may =
    let bytes = flat_map (row_bytes format) v.rows ++ rest in
    let rows : table_rows_in (body_format (spelled format v rest)) (head_settings (spelled format v rest)) (table_count_in (spelled format v rest)) (drop 64 (spelled format v rest)) ≡ v.rows =
    ap₂ (λ (f : ℕ) (head : Settings). table_rows_in f head (table_count_in (spelled format v rest)) (drop 64 (spelled format v rest)))
    (format_again format v bytes (format_of format v may)) (settings_again format v bytes is)
    ∙ ap₂ (table_rows_in format (settings_of v)) (count_again format v bytes is) (behind_head format v bytes)
    ∙ rows_again format (settings_of v) v.rows rest is.rows (are_read format v may) in
    let a = epoch_again format v bytes is in
    let b = pages_again format v bytes is in
    let c = hash_again format v bytes is in
    let d = real_again format v bytes is in
    let e = ratio_again format v bytes is in
    let f = area_again format v bytes is in
    λ i. record { epoch = a i; pages = b i; hash_bits = c i; real_bits = d i; ratio = e i; log_page = f i; rows = rows i }

first_again : (format : ℕ) (v : Version) (rest : Bytes) → IsVersion v → IsFormat format → early_fault (spelled format v rest) ≡ None
unfolding early_fault
first_again format v rest is form =
    let bytes = flat_map (row_bytes format) v.rows ++ rest in
    passed _ _ _ _ (not_true _ (eq-eqb _ _ (magic_again format v bytes)))
    (passed _ _ _ _ (ap is_no_format (format_again format v bytes form) ∙ format_kept format form)
    (passed _ _ _ _ (le-ltb 1024 (table_count_in (spelled format v rest)) (omega (arith, count_again format v bytes is, is.few_tables))) refl))

area_kept : (page : ℕ) → (page ≡ 64) ⊎ (page ≡ 128) → is_no_log_page page ≡ false
area_kept page (inl e) = and_left (not (page == 64)) (not (page == 128)) (not_true _ (eq-eqb page 64 e))
area_kept page (inr e) = and_right (not (page == 64)) (not (page == 128)) (not_true _ (eq-eqb page 128 e))

pages_kept : (pages : ℕ) → 512 ≤ pages → pages ≤ 16777216 → are_no_pages pages ≡ false
pages_kept pages some few = or_from (nat_lt pages 512) (nat_lt 16777216 pages) (le-ltb pages 512 some) (le-ltb 16777216 pages few)

numbers_again : (format : ℕ) (v : Version) (rest : Bytes) → IsVersion v → numbers_fault (head_bytes format v ++ rest) ≡ None
unfolding numbers_fault
numbers_again format v rest is =
    let hash = hash_again format v rest is in
    let real = real_again format v rest is in
    passed _ _ _ _ (ap (λ (n : ℕ). n == 0) (epoch_again format v rest is) ∙ eqb_zero v.epoch is.some_epoch)
    (passed _ _ _ _ (ap are_no_pages (pages_again format v rest is) ∙ pages_kept v.pages is.some_pages is.few_pages)
    (passed _ _ _ _ (ap (nat_lt 32) hash ∙ le-ltb 32 v.hash_bits is.hash_bits)
    (passed _ _ _ _ (ap (nat_lt 32) real ∙ le-ltb 32 v.real_bits is.real_bits) refl)))

log_area_again : (format : ℕ) (v : Version) (rest : Bytes) → IsVersion v → log_area_fault (head_bytes format v ++ rest) ≡ None
unfolding log_area_fault
log_area_again format v rest is =
    passed _ _ _ _ (ap is_no_log_page (area_again format v rest is) ∙ area_kept v.log_page is.log_page)
    (passed _ _ _ _ (not_true _ (eq-eqb _ _ (area_pages_again format v rest))) refl)

later_again : (format : ℕ) (v : Version) (rest : Bytes) → IsVersion v → MaySpell format v → later_fault (spelled format v rest) ≡ None
unfolding later_fault
later_again format v rest is may =
    let bytes = flat_map (row_bytes format) v.rows ++ rest in
    let form = format_of format v may in
    let version = version_again format v rest is may in
    none_of _ _ (numbers_again format v bytes is)
    (none_of _ _ (ap (λ (u : Version). settings_fault 64 u.rows) version ∙ settings_kept 64 v.rows is.settings)
    (none_of _ _ (log_area_again format v bytes is)
    (none_of _ _ (head_zeros format v bytes)
    (none_of _ _
    (ap₂ (λ (f n : ℕ). row_zeros_fault f n 64 (drop 64 (spelled format v rest))) (format_again format v bytes form) (count_again format v bytes is)
    ∙ ap (row_zeros_fault format (length v.rows) 64) (behind_head format v bytes) ∙ row_zeros format 64 v.rows rest form)
    (ap of_version version ∙ is.placed)))))

-- ---- the sum

front_long : (format : ℕ) (v : Version) → length (prefix_bytes format v) ≡ 64 + 64 * length v.rows
unfolding prefix_bytes
front_long format v = omega (arith, length-append (head_bytes format v) (flat_map (row_bytes format) v.rows), head_long format v, rows_long format v.rows)

front_parts : (format : ℕ) (v : Version) (rest : Bytes) → spelled format v rest ≡ prefix_bytes format v ++ rest
unfolding prefix_bytes
front_parts format v rest = sym (append_assoc (head_bytes format v) (flat_map (row_bytes format) v.rows) rest)

length_again : (format : ℕ) (v : Version) (rest : Bytes) → IsVersion v → prefix_length_in (spelled format v rest) ≡ length (prefix_bytes format v)
unfolding prefix_length_in
length_again format v rest is = omega (arith, count_again format v (flat_map (row_bytes format) v.rows ++ rest) is, front_long format v)

seen_again : (format : ℕ) (v : Version) (rest : Bytes) → IsVersion v → seen_sum (spelled format v rest) ≡ fnv_of (prefix_bytes format v)
seen_again format v rest is =
    ap₂ (λ (n : ℕ) (l : Bytes). fnv_of (take n l)) (length_again format v rest is) (front_parts format v rest) ∙ ap fnv_of (take_at (prefix_bytes format v) rest (length (prefix_bytes format v)) refl)

kept_again : (format : ℕ) (v : Version) (rest : Bytes) → IsVersion v → kept_sum (spelled format v (little_bytes 8 (fnv_of (prefix_bytes format v)) ++ rest)) ≡ fnv_of (prefix_bytes format v)
kept_again format v rest is =
    let sum = little_bytes 8 (fnv_of (prefix_bytes format v)) ++ rest in
    ap₂ (λ (n : ℕ) (l : Bytes). little_number 8 (drop n l)) (length_again format v sum is) (front_parts format v sum)
    ∙ ap (little_number 8) (drop_at (prefix_bytes format v) sum (length (prefix_bytes format v)) refl)
    ∙ number_again 8 (fnv_of (prefix_bytes format v)) rest (sum_below (prefix_bytes format v))

body_parts : (format : ℕ) (v : Version) (rest : Bytes) → body_bytes format v ++ rest ≡ spelled format v (little_bytes 8 (fnv_of (prefix_bytes format v)) ++ rest)
unfolding body_bytes
body_parts format v rest =
    append_assoc (prefix_bytes format v) (little_bytes 8 (fnv_of (prefix_bytes format v))) rest ∙ sym (front_parts format v (little_bytes 8 (fnv_of (prefix_bytes format v)) ++ rest))

shape_none : (slot : ℕ) (o : Option Fault) (later : Option Damage) → o ≡ None → later ≡ None → shape_at slot o later ≡ None
shape_none slot None later none e = e
shape_none slot (Some f) later none e = absurd cc

sums_agree : (slot : ℕ) (bytes : Bytes) (later : Option Damage) → kept_sum bytes ≡ seen_sum bytes → later ≡ None → sum_damage slot bytes later ≡ None
unfolding sum_damage
sums_agree slot bytes later same none =
    cond-true (kept_sum bytes == seen_sum bytes) later _ (eq-eqb (kept_sum bytes) (seen_sum bytes) same) ∙ none

damage_again : (slot format : ℕ) (v : Version) (rest : Bytes) → IsVersion v → MaySpell format v
    → body_damage slot (spelled format v (little_bytes 8 (fnv_of (prefix_bytes format v)) ++ rest)) ≡ None
unfolding body_damage
damage_again slot format v rest is may =
    let sum = little_bytes 8 (fnv_of (prefix_bytes format v)) ++ rest in
    shape_none slot _ _ (first_again format v sum is (format_of format v may))
    (sums_agree slot (spelled format v sum) _ (kept_again format v rest is ∙ sym (seen_again format v sum is)) (shape_none slot _ None (later_again format v sum is may) refl))

pub body_again : VersionIsReadAgain
body_again slot format v rest is may =
    let sum = little_bytes 8 (fnv_of (prefix_bytes format v)) ++ rest in (
      ap (body_damage slot) (body_parts format v rest) ∙ damage_again slot format v rest is may,
      ap body_format (body_parts format v rest) ∙ format_again format v (flat_map (row_bytes format) v.rows ++ sum) (format_of format v may),
      ap version_in (body_parts format v rest) ∙ version_again format v sum is may,
    )
