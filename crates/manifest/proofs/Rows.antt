-- Rules over rows, with one row more.
use Rattle.std.proofs.Common.{◌≡◌, ◌<◌, ◌+◌, ◌-◌, ◌*◌, ℕ, zero, suc, List, [], ◌∷◌, ◌++◌, length, take, drop, Bool, true, false, refl, sym, ap, ap₂, ◌∙◌, arith}
use Rattle.std.specs.Option.{option_or}
use Rattle.std.specs.Prelude.{Option, Some, None, nat_lt, ◌||◌, ◌==◌}
use Rattle.std.specs.List.{list_any}
use Rattle.std.proofs.lemmas.List.{drop-drop, take_rest}
use Rattle.std.proofs.lemmas.Bool.{eqb-false}
use Rattle.byte_fields.proofs.FaultLemmas.{kept}
use Rattle.byte_fields.specs.Faults.{Fault, refuse}
use Rattle.byte_fields.specs.declared.parts.Row.{Row}
use Rattle.filter_api.specs.declared.settings.Settings.{Settings}
use Rattle.map_model.specs.SortedMap.{Bytes}
use Rattle.manifest_model.specs.Reading.{extents_fault, last_zeros_fault, leaves, levels_fault, meets_row, table_row_fault, table_row_in, row_zeros_fault, table_rows_fault, table_rows_in, zeros_fault}

-- ---- the first of faults

pub or_none : (a : Option Fault) → option_or a None ≡ a
or_none None = refl
or_none (Some f) = refl

pub or_assoc : (a b c : Option Fault) → option_or (option_or a b) c ≡ option_or a (option_or b c)
or_assoc None b c = refl
or_assoc (Some f) b c = refl

pub refused_then : (bad : Bool) (place rule : ℕ) (later more : Option Fault) → option_or (refuse bad place rule later) more ≡ refuse bad place rule (option_or later more)
refused_then true place rule later more = refl
refused_then false place rule later more = refl

-- ---- rows

rest_of : (i : ℕ) (rest : Bytes) → drop (64 * i) (drop 64 rest) ≡ drop (64 * suc i) rest
rest_of i rest = drop-drop (64 * i) 64 rest ∙ ap (λ (n : ℕ). drop n rest) (omega arith)

-- where a row begins in a body
pub behind_head : (i : ℕ) (body : Bytes) → take (length body - (64 + 64 * i)) (drop (64 + 64 * i) body) ≡ drop (64 * i) (drop 64 body)
behind_head i body = take_rest body (64 + 64 * i) ∙ sym (drop-drop (64 * i) 64 body ∙ ap (λ (n : ℕ). drop n body) (omega arith))

pub many : (format : ℕ) (head : Settings) (n : ℕ) (rest : Bytes) → length (table_rows_in format head n rest) ≡ n
unfolding table_rows_in
many format head zero rest = refl
many format head (suc n) rest = ap suc (many format head n (drop 64 rest))

pub rows_more : (format : ℕ) (head : Settings) (i : ℕ) (rest : Bytes)
    → table_rows_in format head (suc i) rest ≡ table_rows_in format head i rest ++ table_row_in format head (drop (64 * i) rest) ∷ []
unfolding table_rows_in
rows_more format head zero rest = refl
rows_more format head (suc i) rest =
    ap (λ (l : List Row). table_row_in format head rest ∷ l)
    (rows_more format head i (drop 64 rest) ∙ ap (λ (b : Bytes). table_rows_in format head i (drop 64 rest) ++ table_row_in format head b ∷ []) (rest_of i rest))

-- rule 7 of one row
abbrev pub row_zeros : ℕ → ℕ → Bytes → Option Fault
row_zeros format place row = option_or (zeros_fault (place + 1) (take 3 (drop 1 row))) (last_zeros_fault format place row)

pub zeros_more : (format i place : ℕ) (rest : Bytes)
    → row_zeros_fault format (suc i) place rest ≡ option_or (row_zeros_fault format i place rest) (row_zeros format (place + 64 * i) (drop (64 * i) rest))
unfolding row_zeros_fault
zeros_more format zero place rest =
    let e : place + 64 * 0 ≡ place = omega arith in
    ap (option_or (zeros_fault (place + 1) (take 3 (drop 1 rest)))) (or_none (last_zeros_fault format place rest)) ∙ ap (λ (n : ℕ). row_zeros format n rest) (sym e)
zeros_more format (suc i) place rest =
    let a = zeros_fault (place + 1) (take 3 (drop 1 rest)) in
    let b = last_zeros_fault format place rest in
    let at : place + 64 + 64 * i ≡ place + 64 * suc i = omega arith in
    let last : row_zeros format (place + 64 + 64 * i) (drop (64 * i) (drop 64 rest)) ≡ row_zeros format (place + 64 * suc i) (drop (64 * suc i) rest) =
    ap₂ (row_zeros format) at (rest_of i rest) in
    let z = row_zeros_fault format i (place + 64) (drop 64 rest) in
    let x = row_zeros format (place + 64 * suc i) (drop (64 * suc i) rest) in
    ap (λ (l : Option Fault). option_or a (option_or b l)) (zeros_more format i (place + 64) (drop 64 rest) ∙ ap (option_or z) last)
    ∙ ap (option_or a) (sym (or_assoc b z x)) ∙ sym (or_assoc a (option_or b z) x)

pub shape_more : (place : ℕ) (rows : List Row) (row : Row) → table_rows_fault place (rows ++ row ∷ []) ≡ option_or (table_rows_fault place rows) (table_row_fault (place + 64 * length rows) row)
unfolding table_rows_fault
shape_more place [] row = let e : place + 64 * 0 ≡ place = omega arith in or_none (table_row_fault place row) ∙ ap (λ (n : ℕ). table_row_fault n row) (sym e)
shape_more place (x ∷ rows) row =
    let at : place + 64 + 64 * length rows ≡ place + 64 * suc (length rows) = omega arith in
    ap (option_or (table_row_fault place x)) (shape_more (place + 64) rows row ∙ ap (λ (n : ℕ). option_or (table_rows_fault (place + 64) rows) (table_row_fault n row)) at)
    ∙ sym (or_assoc (table_row_fault place x) (table_rows_fault (place + 64) rows) (table_row_fault (place + 64 * suc (length rows)) row))

-- the level of the last row
abbrev pub last_level : ℕ → List Row → ℕ
last_level before [] = before
last_level before (row ∷ later) = last_level row.level later

pub level_last : (before : ℕ) (rows : List Row) (row : Row) → last_level before (rows ++ row ∷ []) ≡ row.level
level_last before [] row = refl
level_last before (x ∷ rows) row = level_last x.level rows row

pub levels_more : (place before : ℕ) (rows : List Row) (row : Row)
    → levels_fault place before (rows ++ row ∷ []) ≡ option_or (levels_fault place before rows) (refuse (nat_lt row.level (last_level before rows)) (place + 64 * length rows) 9 None)
unfolding levels_fault
levels_more place before [] row = let e : place + 64 * 0 ≡ place = omega arith in ap (λ (n : ℕ). refuse (nat_lt row.level before) n 9 None) (sym e)
levels_more place before (x ∷ rows) row =
    let at : place + 64 + 64 * length rows ≡ place + 64 * suc (length rows) = omega arith in
    let bad = nat_lt row.level (last_level x.level rows) in
    ap (refuse (nat_lt x.level before) place 9) (levels_more (place + 64) x.level rows row ∙ ap (λ (n : ℕ). option_or (levels_fault (place + 64) x.level rows) (refuse bad n 9 None)) at)
    ∙ sym (refused_then (nat_lt x.level before) place 9 (levels_fault (place + 64) x.level rows) (refuse bad (place + 64 * suc (length rows)) 9 None))

-- earlier rows, the last of them first
abbrev pub before_all : List Row → List Row → List Row
before_all earlier [] = earlier
before_all earlier (row ∷ later) = before_all (row ∷ earlier) later

pub last_before : (earlier rows : List Row) (row : Row) → before_all earlier (rows ++ row ∷ []) ≡ row ∷ before_all earlier rows
last_before earlier [] row = refl
last_before earlier (x ∷ rows) row = last_before (x ∷ earlier) rows row

pub extents_more : (pages place : ℕ) (earlier rows : List Row) (row : Row)
    → extents_fault pages place earlier (rows ++ row ∷ [])
    ≡ option_or (extents_fault pages place earlier rows) (refuse (leaves pages row || list_any (meets_row row) (before_all earlier rows)) (place + 64 * length rows + 4) 10 None)
unfolding extents_fault
extents_more pages place earlier [] row = let e : place + 64 * 0 + 4 ≡ place + 4 = omega arith in ap (λ (n : ℕ). refuse (leaves pages row || list_any (meets_row row) earlier) n 10 None) (sym e)
extents_more pages place earlier (x ∷ rows) row =
    let at : place + 64 + 64 * length rows + 4 ≡ place + 64 * suc (length rows) + 4 = omega arith in
    let bad = leaves pages row || list_any (meets_row row) (before_all (x ∷ earlier) rows) in
    let first = leaves pages x || list_any (meets_row x) earlier in
    ap (refuse first (place + 4) 10) (extents_more pages (place + 64) (x ∷ earlier) rows row ∙ ap (λ (n : ℕ). option_or (extents_fault pages (place + 64) (x ∷ earlier) rows) (refuse bad n 10 None)) at)
    ∙ sym (refused_then first (place + 4) 10 (extents_fault pages (place + 64) (x ∷ earlier) rows) (refuse bad (place + 64 * suc (length rows) + 4) 10 None))

-- where no row has a wrong shape, the last of them has pages
pub has_pages : (place : ℕ) (row : Row) → table_row_fault place row ≡ None → 0 < row.data_pages
unfolding table_row_fault
has_pages place row none =
    let level = kept (nat_lt 6 row.level) place 8 _ none in
    let pages = kept (row.data_pages == 0) (place + 8) 8 _ level.1 in
    let some = eqb-false row.data_pages 0 pages.0 in
    omega (arith, some)
