-- A body that breaks no rule was written as it is read.
use Rattle.std.proofs.Common.{◌≡◌, ◌⊎◌, inl, inr, ◌≤◌, ◌+◌, ◌*◌, ℕ, zero, suc, Bool, true, false, cond, List, [], ◌∷◌, ◌++◌, length, take, drop, replicate, refl, sym, ap, ap₂, subst, ◌∙◌, arith, length-drop}
use Rattle.std.specs.Prelude.{◌<◌, ◌^◌, Option, Some, None, ◌==◌, nat_lt, not, flat_map, slice_index, position}
use Rattle.std.specs.List.{AllByRecursion}
use Rattle.std.proofs.lemmas.Bool.{and_cases, eqb-true, ltb-false, or_parts}
use Rattle.std.proofs.lemmas.List.{drop-drop, get_or-drop, length-take, take-append-drop}
use Rattle.std.proofs.Math.Seq.{take-add}
use Rattle.byteorder.specs.Endian.{little_bytes, little_number}
use Rattle.byte_fields.specs.Fields.{fields, numbers_in, FieldsFit}
use Rattle.byte_fields.specs.Spelling.{IsBytes}
use Rattle.byte_fields.specs.Sums.{fnv_of}
use Rattle.byte_fields.specs.declared.parts.Damage.{Damage}
use Rattle.byte_fields.specs.declared.parts.Damage.TheVariants as damage
use Rattle.byte_fields.specs.declared.parts.Part.TheVariants as part
use Rattle.byte_fields.specs.declared.parts.Row.{Row}
use Rattle.byte_fields.proofs.FieldLemmas.{fields_back, fields_below}
use Rattle.byte_fields.proofs.NumberLemmas.{IsBytes-drop, number_again, number_back, number_below}
use Rattle.key_base.specs.Limits.{log_pages}
use Rattle.map_model.specs.SortedMap.{Bytes}
use Rattle.byte_fields.specs.Faults.{Fault, fault}
use Rattle.entry_model.proofs.Bodies.{joined}
use Rattle.block_model.proofs.LastBlocks.{positive}
use Rattle.block_model.proofs.Refusals.{is_other, kept, neither, not_false, nowhere, zeros_are}
use Rattle.filter_api.specs.Ranges.{IsRowInRange}
use Rattle.filter_api.specs.declared.settings.Settings.{Settings}
use Rattle.manifest_model.specs.Laws.{IsVersion, RowFits, VersionWasWrittenSo}
use Rattle.manifest_model.specs.Reading.{body_damage, body_format, head_settings, is_no_format, last_zeros_fault, log_area_fault, settings_fault, table_count_in, early_fault, prefix_length_in, is_no_log_page, kept_sum, later_fault, numbers_fault, of_version, table_row_in, row_of, row_zeros_fault, table_rows_in, seen_sum, shape_at, sum_damage, version_in, zeros_fault}
use Rattle.manifest_model.specs.Version.{HasHeadSettings, MaySpell, Version, body_bytes, body_place, by_format, prefix_bytes, head_bytes, manifest_magic, row_bytes, row_numbers, row_widths}
use Rattle.manifest_model.proofs.VersionsRead.{IsFormat, either_less}

-- ---- numbers by their places

abbrev pub numbers_from : ℕ → List ℕ → Bytes → List ℕ
numbers_from at [] bytes = []
numbers_from at (w ∷ ws) bytes = little_number w (drop at bytes) ∷ numbers_from (at + w) ws bytes

pub numbers_at : (ws : List ℕ) (at : ℕ) (bytes : Bytes) → numbers_in ws (drop at bytes) ≡ numbers_from at ws bytes
numbers_at [] at bytes = refl
numbers_at (w ∷ ws) at bytes =
    ap (λ (ns : List ℕ). little_number w (drop at bytes) ∷ ns) (ap (numbers_in ws) (drop-drop w at bytes) ∙ numbers_at ws (at + w) bytes)

pub one_byte : (at : ℕ) (bytes : Bytes) → little_number 1 (drop at bytes) ≡ slice_index bytes at
one_byte at bytes =
    let e : at + 0 ≡ at = omega arith in
    let byte = get_or-drop at bytes 0 0 ∙ ap (slice_index bytes) e in
    omega (arith, byte)

-- ---- bytes that must be 0

zeros_of : (place : ℕ) (bytes : Bytes) → zeros_fault place bytes ≡ None → bytes ≡ replicate (length bytes) 0
unfolding zeros_fault
zeros_of place bytes none = zeros_are bytes (nowhere (λ k. fault (place + k) 7) (position is_other bytes) none)

zeros_there : (place at n : ℕ) (bytes : Bytes) → at + n ≤ length bytes → zeros_fault place (take n (drop at bytes)) ≡ None → take n (drop at bytes) ≡ replicate n 0
zeros_there place at n bytes le none =
    let long : length (take n (drop at bytes)) ≡ n = omega (arith, length-take n (drop at bytes), length-drop at bytes, le) in
    zeros_of place (take n (drop at bytes)) none ∙ ap (λ (m : ℕ). replicate m 0) long

three_zeros : (l : Bytes) → take 3 l ≡ replicate 3 0 → little_number 3 l ≡ 0
three_zeros l z = ap (little_number 3) (sym (take-append-drop 3 l) ∙ ap (λ (x : Bytes). x ++ drop 3 l) z) ∙ number_again 3 0 (drop 3 l) (omega arith)

four_zeros : (l : Bytes) → take 4 l ≡ replicate 4 0 → little_number 4 l ≡ 0
four_zeros l z = ap (little_number 4) (sym (take-append-drop 4 l) ∙ ap (λ (x : Bytes). x ++ drop 4 l) z) ∙ number_again 4 0 (drop 4 l) (omega arith)

-- ---- a row

-- what stands in a row where a format puts the settings and four bytes 0
record IsOfFormat (format : ℕ) (rest : Bytes) : Type 0 where
  pub hash_bits : format ≡ 1 → little_number 1 (drop 56 rest) ≡ 0
  pub real_bits : format ≡ 1 → little_number 1 (drop 57 rest) ≡ 0
  pub ratio : format ≡ 1 → little_number 2 (drop 58 rest) ≡ 0
  pub last : little_number 4 (drop 60 rest) ≡ 0

no_settings : (rest : Bytes) → take 8 (drop 56 rest) ≡ replicate 8 0 → IsOfFormat 1 rest
no_settings rest z =
    let l = drop 56 rest in
    let parts : l ≡ replicate 8 0 ++ drop 8 l = sym (take-append-drop 8 l) ∙ ap (λ (x : Bytes). x ++ drop 8 l) z in
    record {
      hash_bits = λ e. ap (little_number 1) parts;
      real_bits = λ e. ap (little_number 1) (sym (drop-drop 1 56 rest)) ∙ ap (λ (x : Bytes). little_number 1 (drop 1 x)) parts;
      ratio = λ e. ap (little_number 2) (sym (drop-drop 2 56 rest)) ∙ ap (λ (x : Bytes). little_number 2 (drop 2 x)) parts;
      last = ap (little_number 4) (sym (drop-drop 4 56 rest)) ∙ ap (λ (x : Bytes). little_number 4 (drop 4 x)) parts;
    }

some_settings : (rest : Bytes) → take 4 (drop 60 rest) ≡ replicate 4 0 → IsOfFormat 2 rest
some_settings rest z = record {
  hash_bits = λ e. absurd (omega (arith, e));
  real_bits = λ e. absurd (omega (arith, e));
  ratio = λ e. absurd (omega (arith, e));
  last = four_zeros (drop 60 rest) z;
}

last_of : (format place : ℕ) (rest : Bytes) → IsFormat format → 64 ≤ length rest → last_zeros_fault format place rest ≡ None → IsOfFormat format rest
last_of format place rest (inl e) long none = subst (λ (f : ℕ). IsOfFormat f rest) (sym e)
    (some_settings rest (zeros_there (place + 60) 60 4 rest (omega (arith, long)) (subst (λ (f : ℕ). last_zeros_fault f place rest ≡ None) e none)))
last_of format place rest (inr e) long none = subst (λ (f : ℕ). IsOfFormat f rest) (sym e)
    (no_settings rest (zeros_there (place + 56) 56 8 rest (omega (arith, long)) (subst (λ (f : ℕ). last_zeros_fault f place rest ≡ None) e none)))

row_same : (format : ℕ) (head : Settings) (rest : Bytes) → IsFormat format → little_number 3 (drop 1 rest) ≡ 0 → IsOfFormat format rest
    → row_numbers format (row_of format head (numbers_from 0 row_widths rest)) ≡ numbers_from 0 row_widths rest
row_same format head rest (inl e) first is =
    subst (λ (f : ℕ). row_numbers f (row_of f head (numbers_from 0 row_widths rest)) ≡ numbers_from 0 row_widths rest) (sym e) (rw (first, is.last) refl)
row_same format head rest (inr e) first is =
    subst (λ (f : ℕ). row_numbers f (row_of f head (numbers_from 0 row_widths rest)) ≡ numbers_from 0 row_widths rest) (sym e)
    (rw (first, is.hash_bits e, is.real_bits e, is.ratio e, is.last) refl)

row_is : (format : ℕ) (head : Settings) (rest : Bytes) → IsFormat format → little_number 3 (drop 1 rest) ≡ 0 → IsOfFormat format rest
    → row_numbers format (table_row_in format head rest) ≡ numbers_in row_widths rest
unfolding table_row_in
row_is format head rest form first is =
    let at = numbers_at row_widths 0 rest in
    ap (λ (ns : List ℕ). row_numbers format (row_of format head ns)) at ∙ row_same format head rest form first is ∙ sym at

-- settings that fit their fields
record SettingsFit (s : Settings) : Type 0 where
  pub hash_bits : s.hash_bits < 256 ^ 1
  pub real_bits : s.real_bits < 256 ^ 1
  pub ratio : s.ratio < 256 ^ 2

-- where a row fits a format but for its settings, and these fit, it fits
fits_with : (format : ℕ) (row : Row) → FieldsFit row_widths (row_numbers format row) → row.hash_bits < 256 ^ 1 → row.real_bits < 256 ^ 1 → row.ratio < 256 ^ 2 → RowFits row
fits_with format row f hash real ratio = (f.0, (f.1.0, (f.1.1.0, (f.1.1.1.0, (f.1.1.1.1.0, (f.1.1.1.1.1.0, (f.1.1.1.1.1.1.0, (f.1.1.1.1.1.1.1.0, (f.1.1.1.1.1.1.1.1.0, (f.1.1.1.1.1.1.1.1.1.0, (f.1.1.1.1.1.1.1.1.1.1.0, (hash, (real, (ratio, (f.1.1.1.1.1.1.1.1.1.1.1.1.1.1.0, tt)))))))))))))))

-- the settings that are read fit
read_fits : (format : ℕ) (head : Settings) (rest : Bytes) → SettingsFit head → FieldsFit row_widths (numbers_in row_widths rest) → FieldsFit row_widths (row_numbers format (table_row_in format head rest))
    → RowFits (table_row_in format head rest)
unfolding table_row_in
read_fits format head rest of_head f same =
    fits_with format (table_row_in format head rest) same (either_less format head.hash_bits _ 256 of_head.hash_bits f.1.1.1.1.1.1.1.1.1.1.1.0) (either_less format head.real_bits _ 256 of_head.real_bits f.1.1.1.1.1.1.1.1.1.1.1.1.0)
    (either_less format head.ratio _ 65536 of_head.ratio f.1.1.1.1.1.1.1.1.1.1.1.1.1.0)

record RowWritten (format : ℕ) (head : Settings) (rest : Bytes) : Type 0 where
  pub written : row_bytes format (table_row_in format head rest) ≡ take 64 rest
  pub fits : RowFits (table_row_in format head rest)

module _ (format : ℕ) (head : Settings) (form : IsFormat format) (of_head : SettingsFit head) where
  row_written : (place : ℕ) (rest : Bytes) → IsBytes rest → 64 ≤ length rest → zeros_fault (place + 1) (take 3 (drop 1 rest)) ≡ None → last_zeros_fault format place rest ≡ None → RowWritten format head rest
  unfolding row_bytes
  row_written place rest is long first last =
      let three = three_zeros (drop 1 rest) (zeros_there (place + 1) 1 3 rest (omega (arith, long)) first) in
      let same = row_is format head rest form three (last_of format place rest form long last) in
      let fits = fields_below row_widths rest is (omega (arith, long)) in
      record {
        written = ap (fields row_widths) same ∙ fields_back row_widths rest is (omega (arith, long));
        fits = read_fits format head rest of_head fits (subst (FieldsFit row_widths) (sym same) fits);
      }

  record RowsWritten (n : ℕ) (rest : Bytes) : Type 0 where
    pub written : flat_map (row_bytes format) (table_rows_in format head n rest) ≡ take (64 * n) rest
    pub fit : AllByRecursion RowFits (table_rows_in format head n rest)
    pub many : length (table_rows_in format head n rest) ≡ n

  rows_written : (n place : ℕ) (rest : Bytes) → IsBytes rest → 64 * n ≤ length rest → row_zeros_fault format n place rest ≡ None → RowsWritten n rest
  unfolding table_rows_in row_zeros_fault
  rows_written zero place rest is long none = record { written = refl; fit = tt; many = refl }
  rows_written (suc n) place rest is long none =
      let a = neither _ _ none in
      let b = neither _ _ a.1 in
      let row = row_written place rest is (omega (arith, long)) a.0 b.0 in
      let later = rows_written n (place + 64) (drop 64 rest) (IsBytes-drop 64 rest is) (omega (arith, long, length-drop 64 rest)) b.1 in
      let e : 64 + 64 * n ≡ 64 * suc n = omega arith in
      record {
        written = ap₂ (λ (x y : Bytes). x ++ y) row.written later.written ∙ joined 64 (64 * n) 0 rest ∙ ap (λ (m : ℕ). take m rest) e;
        fit = (row.fits, later.fit);
        many = omega (arith, later.many);
      }

-- settings that break no rule are in range
in_range : (place : ℕ) (rows : List Row) → AllByRecursion RowFits rows → settings_fault place rows ≡ None → AllByRecursion IsRowInRange rows
unfolding settings_fault
in_range place [] fit none = tt
in_range place (row ∷ rows) fit none =
    let a = kept (nat_lt 32 row.hash_bits) (place + 56) 5 _ none in
    let b = kept (nat_lt 32 row.real_bits) (place + 57) 5 _ a.1 in
    let f = fit.0 in
    let ratio : row.ratio < 65536 = f.1.1.1.1.1.1.1.1.1.1.1.1.1.0 in
    (record { settings = record { hash_bits = ltb-false 32 row.hash_bits a.0; real_bits = ltb-false 32 row.real_bits b.0 }; ratio = omega (arith, ratio) }, in_range (place + 64) rows fit.1 b.1)

-- ---- the head

abbrev front_widths : List ℕ
front_widths = 4 ∷ 2 ∷ 2 ∷ 8 ∷ 4 ∷ 1 ∷ 1 ∷ 2 ∷ 4 ∷ 4 ∷ []

abbrev front_numbers : ℕ → Version → List ℕ
front_numbers format v = manifest_magic ∷ format ∷ length v.rows ∷ v.epoch ∷ v.pages ∷ v.hash_bits ∷ v.real_bits ∷ v.ratio ∷ v.log_page ∷ log_pages ∷ []

head_parts : (format : ℕ) (v : Version) → head_bytes format v ≡ fields front_widths (front_numbers format v) ++ replicate 32 0
unfolding head_bytes
head_parts format v = refl

record HeadKept (bytes : Bytes) : Type 0 where
  pub magic : little_number 4 bytes ≡ 0x4D465253
  pub format : IsFormat (body_format bytes)
  pub few : table_count_in bytes ≤ 1024
  pub epoch : 1 ≤ little_number 8 (drop 8 bytes)
  pub some_pages : 512 ≤ little_number 4 (drop 16 bytes)
  pub few_pages : little_number 4 (drop 16 bytes) ≤ 16777216
  pub hash : slice_index bytes 20 ≤ 32
  pub real : slice_index bytes 21 ≤ 32
  pub area : (little_number 4 (drop 24 bytes) ≡ 64) ⊎ (little_number 4 (drop 24 bytes) ≡ 128)
  pub area_pages : little_number 4 (drop 28 bytes) ≡ 64

area_of : (page : ℕ) → is_no_log_page page ≡ false → (page ≡ 64) ⊎ (page ≡ 128)
area_of page e = elim (and_cases (not (page == 64)) (not (page == 128)) e) [
  | inl first ↦ inl (eqb-true page 64 (not_false _ first))
  | inr second ↦ inr (eqb-true page 128 (not_false _ second))
]

format_was : (format : ℕ) → is_no_format format ≡ false → IsFormat format
format_was format e = elim (and_cases (not (format == 1)) (not (format == 2)) e) [
  | inl first ↦ inr (eqb-true format 1 (not_false _ first))
  | inr second ↦ inl (eqb-true format 2 (not_false _ second))
]

head_was_kept : (bytes : Bytes) → early_fault bytes ≡ None → numbers_fault bytes ≡ None → log_area_fault bytes ≡ None → HeadKept bytes
unfolding early_fault numbers_fault log_area_fault
head_was_kept bytes first none area =
    let a = kept _ _ _ _ first in
    let b = kept _ _ _ _ a.1 in
    let c = kept _ _ _ _ b.1 in
    let d = kept _ _ _ _ none in
    let f = kept _ _ _ _ d.1 in
    let g = kept _ _ _ _ f.1 in
    let h = kept _ _ _ _ g.1 in
    let i = kept _ _ _ _ area in
    let j = kept _ _ _ _ i.1 in
    let pages = or_parts _ _ f.0 in
    let epoch = positive (little_number 8 (drop 8 bytes)) (sym d.0) in
    record {
      magic = eqb-true _ _ (not_false _ a.0);
      format = format_was _ b.0;
      few = ltb-false _ _ c.0;
      epoch = omega (arith, epoch);
      some_pages = ltb-false _ _ pages.0;
      few_pages = ltb-false _ _ pages.1;
      hash = ltb-false _ _ g.0;
      real = ltb-false _ _ h.0;
      area = area_of _ i.0;
      area_pages = eqb-true _ _ (not_false _ j.0);
    }

rows_many : (format : ℕ) (head : Settings) (n : ℕ) (rest : Bytes) → length (table_rows_in format head n rest) ≡ n
unfolding table_rows_in
rows_many format head zero rest = refl
rows_many format head (suc n) rest = ap suc (rows_many format head n (drop 64 rest))

front_same : (bytes : Bytes) → HeadKept bytes → front_numbers (body_format bytes) (version_in bytes) ≡ numbers_from 0 front_widths bytes
unfolding version_in
front_same bytes head =
    rw (rows_many (body_format bytes) (head_settings bytes) (table_count_in bytes) (drop 64 bytes), head.magic, head.area_pages, one_byte 20 bytes, one_byte 21 bytes) refl

head_written : (bytes : Bytes) → IsBytes bytes → 64 ≤ length bytes → HeadKept bytes → zeros_fault 32 (take 32 (drop 32 bytes)) ≡ None
    → head_bytes (body_format bytes) (version_in bytes) ≡ take 64 bytes
head_written bytes is long head zeros =
    let v = version_in bytes in
    let front : fields front_widths (front_numbers (body_format bytes) v) ≡ take 32 bytes =
    ap (fields front_widths) (front_same bytes head ∙ sym (numbers_at front_widths 0 bytes)) ∙ fields_back front_widths bytes is (omega (arith, long)) in
    let back = zeros_there 32 32 32 bytes (omega (arith, long)) zeros in
    head_parts (body_format bytes) v ∙ ap₂ (λ (x y : Bytes). x ++ y) front (sym back) ∙ joined 32 32 0 bytes

head_fits : (bytes : Bytes) → IsBytes bytes → 64 ≤ length bytes → HeadKept bytes → SettingsFit (head_settings bytes)
head_fits bytes is long head = record {
  hash_bits = omega (arith, head.hash);
  real_bits = omega (arith, head.real);
  ratio = number_below 2 (drop 22 bytes) (IsBytes-drop 22 bytes is) (omega (arith, long, length-drop 22 bytes));
}

-- ---- the body

shape_kept : (slot : ℕ) (o : Option Fault) (later : Option Damage) → shape_at slot o later ≡ None → (o ≡ None) × (later ≡ None)
shape_kept slot None later e = (refl, e)
shape_kept slot (Some f) later e = absurd cc

cond_kept : {X : Type 0} (t : Bool) (later : Option X) (x : X) → cond t later (Some x) ≡ None → (t ≡ true) × (later ≡ None)
cond_kept true later x none = (refl, none)
cond_kept false later x none = absurd cc

sum_kept : (slot : ℕ) (bytes : Bytes) (later : Option Damage) → sum_damage slot bytes later ≡ None → (kept_sum bytes ≡ seen_sum bytes) × (later ≡ None)
unfolding sum_damage
sum_kept slot bytes later none =
    let both = cond_kept (kept_sum bytes == seen_sum bytes) later (damage.Sum part.Manifest (body_place slot) (kept_sum bytes) (seen_sum bytes)) none in
    (eqb-true _ _ both.0, both.1)

record BodyKept (bytes : Bytes) : Type 0 where
  pub head : HeadKept bytes
  pub sum : kept_sum bytes ≡ seen_sum bytes
  pub head_zeros : zeros_fault 32 (take 32 (drop 32 bytes)) ≡ None
  pub row_zeros : row_zeros_fault (body_format bytes) (table_count_in bytes) 64 (drop 64 bytes) ≡ None
  pub settings : settings_fault 64 (version_in bytes).rows ≡ None
  pub placed : of_version (version_in bytes) ≡ None

body_was_kept : (slot : ℕ) (bytes : Bytes) → body_damage slot bytes ≡ None → BodyKept bytes
unfolding body_damage later_fault
body_was_kept slot bytes none =
    let a = shape_kept slot _ _ none in
    let b = sum_kept slot bytes _ a.1 in
    let c = shape_kept slot _ _ b.1 in
    let d = neither _ _ c.0 in
    let e = neither _ _ d.1 in
    let f = neither _ _ e.1 in
    let g = neither _ _ f.1 in
    let h = neither _ _ g.1 in
    record { head = head_was_kept bytes a.0 d.0 f.0; sum = b.0; head_zeros = g.0; row_zeros = h.0; settings = e.0; placed = h.1 }

-- a body that breaks no rule has room in its slot
pub body_few : (slot : ℕ) (bytes : Bytes) → body_damage slot bytes ≡ None → table_count_in bytes ≤ 1024
body_few slot bytes none = (body_was_kept slot bytes none).head.few

pub version_rows : (bytes : Bytes) → (version_in bytes).rows ≡ table_rows_in (body_format bytes) (head_settings bytes) (table_count_in bytes) (drop 64 bytes)
unfolding version_in
version_rows bytes = refl

rows_were : (bytes : Bytes) (is : IsBytes bytes) (long : 64 + 64 * table_count_in bytes ≤ length bytes) (body : BodyKept bytes)
    → RowsWritten (body_format bytes) (head_settings bytes) body.head.format (head_fits bytes is (omega (arith, long)) body.head) (table_count_in bytes) (drop 64 bytes)
rows_were bytes is long body =
    rows_written (body_format bytes) (head_settings bytes) body.head.format (head_fits bytes is (omega (arith, long)) body.head) (table_count_in bytes) 64 (drop 64 bytes) (IsBytes-drop 64 bytes is)
    (omega (arith, long, length-drop 64 bytes)) body.row_zeros

front_written : (bytes : Bytes) → IsBytes bytes → 64 + 64 * table_count_in bytes ≤ length bytes → BodyKept bytes
    → prefix_bytes (body_format bytes) (version_in bytes) ≡ take (64 + 64 * table_count_in bytes) bytes
unfolding prefix_bytes
front_written bytes is long body =
    let rows = rows_were bytes is long body in
    ap₂ (λ (x y : Bytes). x ++ y) (head_written bytes is (omega (arith, long)) body.head body.head_zeros) (ap (flat_map (row_bytes (body_format bytes))) (version_rows bytes) ∙ rows.written)
    ∙ joined 64 (64 * table_count_in bytes) 0 bytes

all_written : (bytes : Bytes) → IsBytes bytes → prefix_length_in bytes + 8 ≤ length bytes → BodyKept bytes → body_bytes (body_format bytes) (version_in bytes) ≡ take (prefix_length_in bytes + 8) bytes
unfolding body_bytes prefix_length_in
all_written bytes is long body =
    let n = 64 + 64 * table_count_in bytes in
    let front = front_written bytes is (omega (arith, long)) body in
    let sum : little_bytes 8 (fnv_of (take n bytes)) ≡ take 8 (drop n bytes) =
    ap (little_bytes 8) (sym body.sum) ∙ number_back 8 (drop n bytes) (IsBytes-drop n bytes is) (omega (arith, long, length-drop n bytes)) in
    ap (λ (l : Bytes). l ++ little_bytes 8 (fnv_of l)) front ∙ ap (λ (l : Bytes). take n bytes ++ l) sum ∙ sym (take-add n 8 bytes)

version_sound : (bytes : Bytes) → IsBytes bytes → prefix_length_in bytes + 8 ≤ length bytes → BodyKept bytes → IsVersion (version_in bytes)
unfolding version_in prefix_length_in
version_sound bytes is long body =
    let head = body.head in
    let rows = rows_were bytes is (omega (arith, long)) body in
    record {
      few_tables = omega (arith, rows.many, head.few);
      some_epoch = head.epoch;
      epoch = number_below 8 (drop 8 bytes) (IsBytes-drop 8 bytes is) (omega (arith, long, length-drop 8 bytes));
      some_pages = head.some_pages;
      few_pages = head.few_pages;
      hash_bits = head.hash;
      real_bits = head.real;
      ratio = number_below 2 (drop 22 bytes) (IsBytes-drop 22 bytes is) (omega (arith, long, length-drop 22 bytes));
      log_page = head.area;
      rows = rows.fit;
      settings = in_range 64 _ rows.fit body.settings;
      placed = body.placed;
    }

-- ---- the format can spell it

head_have : (v : Version) (head : Settings) (n : ℕ) (rest : Bytes) → head.hash_bits ≡ v.hash_bits → head.real_bits ≡ v.real_bits → head.ratio ≡ v.ratio
    → AllByRecursion (HasHeadSettings v) (table_rows_in 1 head n rest)
unfolding table_rows_in table_row_in
head_have v head zero rest a b c = tt
head_have v head (suc n) rest a b c = (record { hash_bits = a; real_bits = b; ratio = c }, head_have v head n (drop 64 rest) a b c)

may_spell : (bytes : Bytes) → IsFormat (body_format bytes) → MaySpell (body_format bytes) (version_in bytes)
unfolding version_in
may_spell bytes (inl e) = inl e
may_spell bytes (inr e) =
    inr (
      e,
      subst (λ (f : ℕ). AllByRecursion (HasHeadSettings (version_in bytes)) (table_rows_in f (head_settings bytes) (table_count_in bytes) (drop 64 bytes))) (sym e)
          (head_have (version_in bytes) (head_settings bytes) (table_count_in bytes) (drop 64 bytes) refl refl refl),
    )

pub body_written : VersionWasWrittenSo
body_written slot bytes is long none =
    let body = body_was_kept slot bytes none in
    (version_sound bytes is long body, may_spell bytes body.head.format, all_written bytes is long body)
