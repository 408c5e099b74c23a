-- The damage of a body, by the rules in their order.
use Rattle.std.proofs.Common.{◌≡◌, ◌⊎◌, inl, inr, ◌≤◌, ℕ, take, drop, Bool, true, false, refl, sym, ap, ◌∙◌}
use Rattle.std.specs.Option.{option_or}
use Rattle.std.specs.Prelude.{Option, Some, None, ◌==◌, nat_lt, not, slice_index, ◌||◌, ◌&&◌}
use Rattle.std.proofs.lemmas.Bool.{eq-eqb, eqb-true, ltb-false}
use Rattle.byteorder.specs.Endian.{little_number}
use Rattle.byte_fields.specs.Faults.{Fault}
use Rattle.byte_fields.proofs.FaultLemmas.{kept, not_false}
use Rattle.map_model.specs.SortedMap.{Bytes}
use Rattle.manifest_model.specs.Reading.{are_no_pages, body_damage, body_format, table_count_in, early_fault, head_settings, is_no_format, is_no_log_page, kept_sum, later_fault, log_area_fault, numbers_fault, seen_sum, settings_fault, sum_damage, version_in, zeros_fault}
use Rattle.manifest_model.specs.Version.{manifest_magic}
use Rattle.manifest.specs.Reading.{rows_broken, shape_of, sum_of}
use Rattle.manifest.proofs.Rows.{or_assoc}

pub few_kept : (bytes : Bytes) → early_fault bytes ≡ None → table_count_in bytes ≤ 1024
unfolding early_fault
few_kept bytes none =
    let a = kept (not (little_number 4 bytes == manifest_magic)) 0 1 _ none in
    let b = kept (is_no_format (body_format bytes)) 4 2 _ a.1 in
    let c = kept (nat_lt 1024 (table_count_in bytes)) 6 3 None b.1 in
    ltb-false _ _ c.0

or_parts : (a b : Bool) → (a || b) ≡ false → (a ≡ false) × (b ≡ false)
or_parts true b e = absurd cc
or_parts false b e = (refl, e)

and_cases : (a b : Bool) → (a && b) ≡ false → (a ≡ false) ⊎ (b ≡ false)
and_cases true b e = inr e
and_cases false b e = inl refl

-- what rule 5 says of the pages
pub record PagesKept (bytes : Bytes) : Type 0 where
  pub some_pages : 512 ≤ little_number 4 (drop 16 bytes)
  pub few_pages : little_number 4 (drop 16 bytes) ≤ 16777216

pub pages_kept : (bytes : Bytes) → numbers_fault bytes ≡ None → PagesKept bytes
unfolding numbers_fault
pages_kept bytes none =
    let a = kept (little_number 8 (drop 8 bytes) == 0) 8 4 _ none in
    let b = kept (are_no_pages (little_number 4 (drop 16 bytes))) 16 5 _ a.1 in
    let pages = or_parts _ _ b.0 in
    record { some_pages = ltb-false _ _ pages.0; few_pages = ltb-false _ _ pages.1 }

-- what rule 6 says of the log's first page
pub log_area_kept : (bytes : Bytes) → log_area_fault bytes ≡ None → (little_number 4 (drop 24 bytes) ≡ 64) ⊎ (little_number 4 (drop 24 bytes) ≡ 128)
unfolding log_area_fault
log_area_kept bytes none =
    let page = little_number 4 (drop 24 bytes) in
    let a = kept (is_no_log_page page) 24 6 _ none in
    elim (and_cases (not (page == 64)) (not (page == 128)) a.0) [
      | inl first ↦ inl (eqb-true _ 64 (not_false _ first))
      | inr second ↦ inr (eqb-true _ 128 (not_false _ second))
    ]

-- what rows break, by the pages and the count that the head names
abbrev pub broken_rows : Bytes → Option Fault
broken_rows bytes = rows_broken (body_format bytes) (head_settings bytes) (little_number 4 (drop 16 bytes)) (table_count_in bytes) (drop 64 bytes)

-- rules 5 of the rows to 10, as they are tried
abbrev pub after_numbers : Bytes → Option Fault
after_numbers bytes =
    option_or (settings_fault 64 (version_in bytes).rows) (option_or (log_area_fault bytes) (option_or (zeros_fault 32 (take 32 (drop 32 bytes))) (broken_rows bytes)))

-- rules 4 to 10
pub later_is : (bytes : Bytes) → later_fault bytes ≡ option_or (numbers_fault bytes) (after_numbers bytes)
unfolding later_fault version_in
later_is bytes = refl

pub head_broken : (slot : ℕ) (bytes : Bytes) (f : Fault) → early_fault bytes ≡ Some f → body_damage slot bytes ≡ Some (shape_of slot f)
unfolding body_damage
head_broken slot bytes f is = rw is refl

other_sum : (a b : ℕ) → (a ≡ b → ⊥) → (a == b) ≡ false
other_sum a b differ = elim (a == b) as (λ t. (a == b) ≡ t → t ≡ false) [ true ↦ λ e. absurd (differ (eqb-true a b e)) | false ↦ λ e. refl ] refl

pub sum_broken : (slot : ℕ) (bytes : Bytes) → early_fault bytes ≡ None → (kept_sum bytes ≡ seen_sum bytes → ⊥)
    → body_damage slot bytes ≡ Some (sum_of slot bytes)
unfolding body_damage sum_damage
sum_broken slot bytes none differ = let test = other_sum (kept_sum bytes) (seen_sum bytes) differ in rw (none, test) refl

pub later_broken : (slot : ℕ) (bytes : Bytes) (f : Fault) → early_fault bytes ≡ None → kept_sum bytes ≡ seen_sum bytes → later_fault bytes ≡ Some f → body_damage slot bytes ≡ Some (shape_of slot f)
unfolding body_damage sum_damage
later_broken slot bytes f none sum is = let test = eq-eqb (kept_sum bytes) (seen_sum bytes) sum in rw (none, test, is) refl

pub none_broken : (slot : ℕ) (bytes : Bytes) → early_fault bytes ≡ None → kept_sum bytes ≡ seen_sum bytes → later_fault bytes ≡ None → body_damage slot bytes ≡ None
unfolding body_damage sum_damage
none_broken slot bytes none sum is = let test = eq-eqb (kept_sum bytes) (seen_sum bytes) sum in rw (none, test, is) refl

-- rules 4 and 5 of the head are the first that are broken after the sum
pub early_first : (bytes : Bytes) (f : Fault) → numbers_fault bytes ≡ Some f → later_fault bytes ≡ Some f
early_first bytes f is = later_is bytes ∙ ap (λ (o : Option Fault). option_or o (after_numbers bytes)) is

-- and where they are kept, it is what the others say
pub others_first : (bytes : Bytes) → numbers_fault bytes ≡ None → later_fault bytes ≡ after_numbers bytes
others_first bytes is = later_is bytes ∙ ap (λ (o : Option Fault). option_or o (after_numbers bytes)) is
