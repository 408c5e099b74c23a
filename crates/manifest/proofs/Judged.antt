-- Rows that were read and judged so far.
use Rattle.std.proofs.Common.{◌≡◌, ◌+◌, ◌*◌, ℕ, suc, List, [], ◌∷◌, ◌++◌, length, drop, map, refl, sym, ap, ◌∙◌, subst}
use Rattle.std.specs.Option.{option_or}
use Rattle.std.specs.Prelude.{Option, Some, None, nat_lt, ◌||◌}
use Rattle.std.specs.List.{list_any}
use Rattle.std.specs.List.Sorted.{IsPermutation}
use Rattle.std.proofs.lemmas.List.Sorted.{IsPermutation-refl}
use Rattle.byte_fields.specs.Faults.{Fault, refuse}
use Rattle.byte_fields.specs.declared.parts.Row.{Row}
use Rattle.filter_api.specs.declared.settings.Settings.{Settings}
use Rattle.map_model.specs.SortedMap.{Bytes}
use Rattle.extent_map.specs.Taken.{Taken}
use Rattle.manifest_model.specs.Reading.{extents_fault, leaves, levels_fault, meets_row, table_row_fault, table_row_in, row_zeros_fault, table_rows_fault, table_rows_in}
use Rattle.manifest_model.specs.Rows.{extent_of}
use Rattle.manifest.specs.Reading.{rows_broken}
use Rattle.manifest.proofs.Rows.{before_all, extents_more, last_before, last_level, level_last, levels_more, many, row_zeros, rows_more, shape_more, zeros_more}

-- of the first i rows of some bytes
pub record Judged (format : ℕ) (head : Settings) (pages i : ℕ) (rest : Bytes) (rows : List Row) (level : ℕ) (zeros shape order meeting : Option Fault) (taken : Taken) : Type 0 where
  pub rows_are : rows ≡ table_rows_in format head i rest
  pub level_is : level ≡ last_level 0 rows
  pub zeros_are : zeros ≡ row_zeros_fault format i 64 rest
  pub shape_is : shape ≡ table_rows_fault 64 rows
  pub order_is : order ≡ levels_fault 64 0 rows
  pub meeting_is : shape ≡ None → meeting ≡ extents_fault pages 64 [] rows
  pub taken_are : shape ≡ None → meeting ≡ None → IsPermutation (map extent_of (before_all [] rows)) taken.extents
  pub device : taken.pages ≡ pages

pub begun : (format : ℕ) (head : Settings) (pages : ℕ) (rest : Bytes) → Judged format head pages 0 rest [] 0 None None None None (record { pages = pages; extents = [] })
unfolding table_rows_in row_zeros_fault table_rows_fault levels_fault extents_fault
begun format head pages rest = record {
  rows_are = refl;
  level_is = refl;
  zeros_are = refl;
  shape_is = refl;
  order_is = refl;
  meeting_is = λ none. refl;
  taken_are = λ none met. IsPermutation-refl [];
  device = refl;
}

neither : (a b : Option Fault) → option_or a b ≡ None → (a ≡ None) × (b ≡ None)
neither None b e = (refl, e)
neither (Some f) b e = absurd cc

module _ (format : ℕ) (head : Settings) (pages i : ℕ) (rest : Bytes) (rows : List Row) (level : ℕ) (zeros shape order meeting : Option Fault) (taken now : Taken)
    (so_far : Judged format head pages i rest rows level zeros shape order meeting taken) where
  place_is : 64 + 64 * length rows ≡ 64 + 64 * i
  place_is = ap (λ (n : ℕ). 64 + 64 * n) (ap length so_far.rows_are ∙ many format head i rest)

  pub still_none : (row : Row) → option_or shape (table_row_fault (64 + 64 * i) row) ≡ None → shape ≡ None
  still_none row none = (neither shape (table_row_fault (64 + 64 * i) row) none).0

  pub one_more : (row : Row) (met : Option Fault) → row ≡ table_row_in format head (drop (64 * i) rest)
      → (option_or shape (table_row_fault (64 + 64 * i) row) ≡ None → met ≡ option_or meeting (refuse (leaves pages row || list_any (meets_row row) (before_all [] rows)) (64 + 64 * i + 4) 10 None))
      → (option_or shape (table_row_fault (64 + 64 * i) row) ≡ None → met ≡ None → IsPermutation (map extent_of (row ∷ before_all [] rows)) now.extents) → now.pages ≡ pages
      → Judged format head pages (suc i) rest (rows ++ row ∷ []) row.level (option_or zeros (row_zeros format (64 + 64 * i) (drop (64 * i) rest))) (option_or shape (table_row_fault (64 + 64 * i) row))
      (option_or order (refuse (nat_lt row.level level) (64 + 64 * i) 9 None)) met now
  one_more row met is meets_so takes_so device = record {
    rows_are = ap (λ (xs : List Row). xs ++ row ∷ []) so_far.rows_are ∙ ap (λ (x : Row). table_rows_in format head i rest ++ x ∷ []) is ∙ sym (rows_more format head i rest);
    level_is = sym (level_last 0 rows row);
    zeros_are = ap (λ (z : Option Fault). option_or z (row_zeros format (64 + 64 * i) (drop (64 * i) rest))) so_far.zeros_are ∙ sym (zeros_more format i 64 rest);
    shape_is =
        ap (λ (z : Option Fault). option_or z (table_row_fault (64 + 64 * i) row)) so_far.shape_is
        ∙ ap (λ (n : ℕ). option_or (table_rows_fault 64 rows) (table_row_fault n row)) (sym place_is) ∙ sym (shape_more 64 rows row);
    order_is =
        ap (λ (z : Option Fault). option_or z (refuse (nat_lt row.level level) (64 + 64 * i) 9 None)) so_far.order_is
        ∙ ap (λ (l : ℕ). option_or (levels_fault 64 0 rows) (refuse (nat_lt row.level l) (64 + 64 * i) 9 None)) so_far.level_is
        ∙ ap (λ (n : ℕ). option_or (levels_fault 64 0 rows) (refuse (nat_lt row.level (last_level 0 rows)) n 9 None)) (sym place_is) ∙ sym (levels_more 64 0 rows row);
    meeting_is = λ none.
        let bad = leaves pages row || list_any (meets_row row) (before_all [] rows) in
        meets_so none ∙ ap (λ (z : Option Fault). option_or z (refuse bad (64 + 64 * i + 4) 10 None)) (so_far.meeting_is (still_none row none))
        ∙ ap (λ (n : ℕ). option_or (extents_fault pages 64 [] rows) (refuse bad (n + 4) 10 None)) (sym place_is) ∙ sym (extents_more pages 64 [] rows row);
    taken_are = λ none met_none. subst (λ (xs : List Row). IsPermutation (map extent_of xs) now.extents) (sym (last_before [] rows row)) (takes_so none met_none);
    device = device;
  }

  -- all of them: the first of the rules that they break
  pub judged : option_or zeros (option_or shape (option_or order meeting)) ≡ rows_broken format head pages i rest
  judged =
      ap (λ (z : Option Fault). option_or z (option_or shape (option_or order meeting))) so_far.zeros_are
      ∙ ap (option_or (row_zeros_fault format i 64 rest)) (first_shape shape so_far.shape_is so_far.meeting_is)
      ∙ ap (λ (xs : List Row). option_or (row_zeros_fault format i 64 rest) (option_or (table_rows_fault 64 xs) (option_or (levels_fault 64 0 xs) (extents_fault pages 64 [] xs)))) so_far.rows_are
    where
      first_shape : (s : Option Fault) → s ≡ table_rows_fault 64 rows → (s ≡ None → meeting ≡ extents_fault pages 64 [] rows)
          → option_or s (option_or order meeting) ≡ option_or (table_rows_fault 64 rows) (option_or (levels_fault 64 0 rows) (extents_fault pages 64 [] rows))
      first_shape None is met =
          ap (λ (z : Option Fault). option_or z meeting) so_far.order_is ∙ ap (option_or (levels_fault 64 0 rows)) (met refl)
          ∙ ap (λ (z : Option Fault). option_or z (option_or (levels_fault 64 0 rows) (extents_fault pages 64 [] rows))) is
      first_shape (Some f) is met = ap (λ (z : Option Fault). option_or z (option_or (levels_fault 64 0 rows) (extents_fault pages 64 [] rows))) is

-- the same of what was computed so
pub as_found : (format : ℕ) (head : Settings) (pages i j : ℕ) (rest : Bytes) (rows rows2 : List Row) (level : ℕ) (zeros zeros2 shape shape2 order order2 meeting : Option Fault) (taken : Taken)
    → j ≡ i → rows2 ≡ rows → zeros2 ≡ zeros → shape2 ≡ shape → order2 ≡ order
    → Judged format head pages i rest rows level zeros shape order meeting taken → Judged format head pages j rest rows2 level zeros2 shape2 order2 meeting taken
as_found format head pages i j rest rows rows2 level zeros zeros2 shape shape2 order order2 meeting taken is_i is_rows is_zeros is_shape is_order judged =
    subst (λ (n : ℕ). Judged format head pages n rest rows2 level zeros2 shape2 order2 meeting taken) (sym is_i)
    (subst (λ (xs : List Row). Judged format head pages i rest xs level zeros2 shape2 order2 meeting taken) (sym is_rows)
    (subst (λ (z : Option Fault). Judged format head pages i rest rows level z shape2 order2 meeting taken) (sym is_zeros)
    (subst (λ (z : Option Fault). Judged format head pages i rest rows level zeros z order2 meeting taken) (sym is_shape)
    (subst (λ (z : Option Fault). Judged format head pages i rest rows level zeros shape z meeting taken) (sym is_order) judged))))
