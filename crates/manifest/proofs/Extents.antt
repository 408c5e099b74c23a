-- A row leaves the pages of tables or meets an earlier one exactly where its pages are not free beside those of earlier ones.
use Rattle.std.proofs.Common.{◌≡◌, ◌<◌, ℕ, List, ◌∷◌, map, Bool, true, false, refl}
use Rattle.std.specs.Prelude.{◌||◌}
use Rattle.std.proofs.lemmas.Bool.{or_from, or_parts}
use Rattle.std.specs.List.{AllByRecursion, list_any}
use Rattle.std.specs.List.Sorted.{IsPermutation}
use Rattle.std.proofs.lemmas.List.Elements.{recursion_from_All, All-from_recursion}
use Rattle.std.proofs.lemmas.List.Sorted.{All-permutation, IsPermutation-sym, IsPermutation-cons, IsPermutation-trans}
use Rattle.byte_fields.specs.declared.parts.Row.{Row}
use Rattle.block_model.specs.Places.{end_page, pages_of}
use Rattle.extent_model.specs.Extents.{Extent, IsOnDevice, AreApart}
use Rattle.manifest_model.specs.Reading.{leaves, meets_row}
use Rattle.manifest_model.specs.Rows.{extent_of}
use Rattle.manifest_model.proofs.Rows.{all_apart, none_met, not_left, within_if}

abbrev pub is_bad : ℕ → Row → List Row → Bool
is_bad pages row earlier = leaves pages row || list_any (meets_row row) earlier

permuted : (P : Extent → Type 0) (xs ys : List Extent) → IsPermutation xs ys → AllByRecursion P xs → AllByRecursion P ys
permuted P xs ys same all = recursion_from_All P ys (All-permutation P xs ys same (All-from_recursion P xs all))

abbrev IsFree : ℕ → Row → List Extent → Type 0
IsFree pages row taken = IsOnDevice pages (extent_of row) × AllByRecursion (AreApart (extent_of row)) taken

module _ (pages : ℕ) (row : Row) (earlier : List Row) (taken : List Extent) (same : IsPermutation (map extent_of earlier) taken) where
  pub free_is_good : IsFree pages row taken → is_bad pages row earlier ≡ false
  free_is_good free =
      or_from (leaves pages row) (list_any (meets_row row) earlier) (not_left row.first_page (end_page row) pages free.0.from free.0.to)
      (none_met row earlier (permuted (AreApart (extent_of row)) taken (map extent_of earlier) (IsPermutation-sym (map extent_of earlier) taken same) free.1))

  pub good_is_free : 0 < pages_of row → is_bad pages row earlier ≡ false → IsFree pages row taken
  good_is_free some good =
      let parts = or_parts (leaves pages row) (list_any (meets_row row) earlier) good in
      let on = within_if row.first_page (end_page row) pages parts.0 in
      (record { some = some; from = on.0; to = on.1 }, permuted (AreApart (extent_of row)) (map extent_of earlier) taken same (all_apart row earlier parts.1))

  pub taken_is_bad : 0 < pages_of row → (IsFree pages row taken → ⊥) → is_bad pages row earlier ≡ true
  taken_is_bad some not_free = elim (is_bad pages row earlier) as (λ b. is_bad pages row earlier ≡ b → b ≡ true) [
    | true ↦ λ e. refl
    | false ↦ λ e. absurd (not_free (good_is_free some e))
  ] refl

  pub one_more : (now : List Extent) → IsPermutation (extent_of row ∷ taken) now → IsPermutation (map extent_of (row ∷ earlier)) now
  one_more now added = IsPermutation-trans _ _ _ (IsPermutation-cons (extent_of row) (map extent_of earlier) taken same) added
