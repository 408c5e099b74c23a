-- Outlines by their places and by their numbers.
use Rattle.std.proofs.Common.{◌≡◌, ℕ, zero, suc, ◌<◌, ◌+◌, ◌-◌, ◌∙◌, Bool, true, false, cond, List, [], ◌∷◌, ◌++◌, length, map, take, drop, get_or, refl, sym, ap, subst, append_assoc, arith}
use Rattle.std.specs.Prelude.{◌==◌, filter, slice_index_or}
use Rattle.std.specs.List.{AllByRecursion}
use Rattle.std.proofs.lemmas.List.{at_drop_more, length-drop}
use Rattle.block_model.proofs.Bounds.{weaker}
use Rattle.extent_model.proofs.Lists.{all_kept}
use Rattle.level_merge.specs.Outlines.{nothing, overlaps, plan_by_keys, table_number, outline, outline_of, outlines}
use Rattle.state_model.specs.Merges.{greatest_of, least_of, on_level, plan_of, reaches_into}
use Rattle.state_model.specs.WithoutRanges.{HasNoRange}
use Rattle.state_model.proofs.Parts.{keep_same}
use Rattle.state_model.proofs.WithoutRanges.{meets_alone}
use Rattle.table_file.specs.Opened.{Opened}
use Rattle.table_model.specs.Tables.{Table}

pub many_outlines : (ts : List Opened) → length (outlines ts) ≡ length ts
many_outlines [] = refl
many_outlines (t ∷ later) = ap suc (many_outlines later)

-- ---- the outline at a place

pub outline_at : (ts : List Opened) (place : ℕ) (t : Opened) → place < length ts → t ≡ get_or ts place t
    → slice_index_or (outlines ts) place nothing ≡ outline (length ts - 1 - place) t
outline_at [] place t less is = absurd (omega arith)
outline_at (u ∷ later) zero t less is =
    let here : length (u ∷ later) - 1 - 0 ≡ length later = omega arith in
    subst (λ n. outline (length later) u ≡ outline n t) (sym here) (ap (outline (length later)) (sym is))
outline_at (u ∷ later) (suc place) t less is =
    let here : length (u ∷ later) - 1 - suc place ≡ length later - 1 - place = omega arith in
    subst (λ n. slice_index_or (outlines later) place nothing ≡ outline n t) (sym here) (outline_at later place t (omega arith) is)

-- the outlines from a place on begin with the one of the table there
pub outlines_more : (ts : List Opened) (place : ℕ) (d : Opened) → place < length ts
    → outlines (drop place ts) ≡ outline (length ts - 1 - place) (get_or ts place d) ∷ outlines (drop (place + 1) ts)
outlines_more ts place d less =
    let n : length (drop (place + 1) ts) ≡ length ts - 1 - place = length-drop (place + 1) ts ∙ omega arith in
    subst (λ n. outlines (drop place ts) ≡ outline n (get_or ts place d) ∷ outlines (drop (place + 1) ts)) n (at_drop_more outlines ts place d less)

-- ---- the outline of a number

-- its number is below how many tables there are, and its outline is found by it
abbrev pub IsNumbered : List Opened → Table → Type 0
IsNumbered ts t = (table_number t < length ts) × (outline_of ts (table_number t) ≡ t)

first_numbered : (t : Opened) (later : List Opened) → IsNumbered (t ∷ later) (outline (length later) t)
first_numbered t later =
    let here : length (t ∷ later) - 1 - length later ≡ 0 = omega arith in
    (omega arith, subst (λ n. slice_index_or (outlines (t ∷ later)) n nothing ≡ outline (length later) t) (sym here) refl)

later_numbered : (t : Opened) (later : List Opened) (u : Table) → IsNumbered later u → IsNumbered (t ∷ later) u
later_numbered t later u is =
    let less : table_number u < length later = is.0 in
    let here : length (t ∷ later) - 1 - table_number u ≡ suc (length later - 1 - table_number u) = omega arith in
    (omega arith, subst (λ n. slice_index_or (outlines (t ∷ later)) n nothing ≡ u) (sym here) is.1)

pub all_numbered : (ts : List Opened) → AllByRecursion (IsNumbered ts) (outlines ts)
all_numbered [] = tt
all_numbered (t ∷ later) = (first_numbered t later, weaker (IsNumbered later) (IsNumbered (t ∷ later)) (later_numbered t later) (outlines later) (all_numbered later))

pub all_taken : {X : Type 0} (P : X → Type 0) (n : ℕ) (xs : List X) → AllByRecursion P xs → AllByRecursion P (take n xs)
all_taken P zero xs all = tt
all_taken P (suc n) [] all = tt
all_taken P (suc n) (x ∷ more) all = (all.0, all_taken P n more all.1)

-- so with those of a level, and the first of them
pub level_numbered : (ts : List Opened) (test : Table → Bool) → AllByRecursion (IsNumbered ts) (filter test (outlines ts))
level_numbered ts test = all_kept (IsNumbered ts) test (outlines ts) (all_numbered ts)

-- outlines that are numbered are found by their numbers, each of a table
pub found_again : (ts : List Opened) (us : List Table) → AllByRecursion (IsNumbered ts) us → map (outline_of ts) (map table_number us) ≡ us
found_again ts [] all = refl
found_again ts (u ∷ more) all = ap (λ (x : Table). x ∷ map (outline_of ts) (map table_number more)) all.0.1 ∙ ap (λ l. u ∷ l) (found_again ts more all.1)

pub all_below : (ts : List Opened) (us : List Table) → AllByRecursion (IsNumbered ts) us → AllByRecursion (λ number. number < length ts) (map table_number us)
all_below ts [] all = tt
all_below ts (u ∷ more) all = (all.0.0, all_below ts more all.1)

-- ---- what is left of the tables, one place on

-- by one that is kept
pub kept_more : (F : List Table → List Table) (ts : List Opened) (place : ℕ) (t : Opened) (which : List ℕ) → place < length ts → t ≡ get_or ts place t
    → ((more : List Table) → F (outline (length ts - 1 - place) t ∷ more) ≡ outline (length ts - 1 - place) t ∷ F more)
    → (which ++ (length ts - 1 - place) ∷ []) ++ map table_number (F (outlines (drop (place + 1) ts))) ≡ which ++ map table_number (F (outlines (drop place ts)))
kept_more F ts place t which less is kept =
    let n = length ts - 1 - place in
    let more = outlines (drop (place + 1) ts) in
    let here : outlines (drop place ts) ≡ outline n t ∷ more = subst (λ x. outlines (drop place ts) ≡ outline n x ∷ more) (sym is) (outlines_more ts place t less) in
    append_assoc which (n ∷ []) (map table_number (F more)) ∙ ap (λ l. which ++ map table_number l) (sym (kept more)) ∙ ap (λ l. which ++ map table_number (F l)) (sym here)

-- by one that is left out
pub passed_more : (F : List Table → List Table) (ts : List Opened) (place : ℕ) (t : Opened) → place < length ts → t ≡ get_or ts place t
    → ((more : List Table) → F (outline (length ts - 1 - place) t ∷ more) ≡ F more)
    → F (outlines (drop (place + 1) ts)) ≡ F (outlines (drop place ts))
passed_more F ts place t less is passed =
    let n = length ts - 1 - place in
    let more = outlines (drop (place + 1) ts) in
    let here : outlines (drop place ts) ≡ outline n t ∷ more = subst (λ x. outlines (drop place ts) ≡ outline n x ∷ more) (sym is) (outlines_more ts place t less) in
    sym (passed more) ∙ ap F (sym here)

-- ---- tests of a level

pub same_level : (a b : ℕ) → a ≡ b → (a == b) ≡ true
same_level a b e = grind arith

pub other_level : (a b : ℕ) → (a ≡ b → ⊥) → (a == b) ≡ false
other_level a b e = grind arith

-- a table of the level is kept, and another one passed over
pub level_kept : (level number : ℕ) (t : Opened) → t.row.level ≡ level → (more : List Table) → on_level level (outline number t ∷ more) ≡ outline number t ∷ on_level level more
level_kept level number t e more = ap (λ b. cond b (outline number t ∷ on_level level more) (on_level level more)) (same_level t.row.level level e)

pub level_passed : (level number : ℕ) (t : Opened) → (t.row.level ≡ level → ⊥) → (more : List Table) → on_level level (outline number t ∷ more) ≡ on_level level more
level_passed level number t e more = ap (λ b. cond b (outline number t ∷ on_level level more) (on_level level more)) (other_level t.row.level level e)

-- ---- no outline has a range

pub outlines_alone : (ts : List Opened) → AllByRecursion HasNoRange (outlines ts)
outlines_alone [] = tt
outlines_alone (t ∷ later) = (refl, outlines_alone later)

-- so those that are chosen are planned by their keys
pub planned_by_keys : (ts : List Opened) (chosen : List Table) (output : ℕ) → AllByRecursion HasNoRange chosen → plan_by_keys (outlines ts) chosen output ≡ plan_of (outlines ts) chosen output
planned_by_keys ts chosen output none =
    ap (λ (met : List Table). record { inputs = chosen ++ met; output = output })
    (keep_same (overlaps (least_of chosen) (greatest_of chosen)) (reaches_into chosen) (on_level output (outlines ts))
    (weaker HasNoRange (λ (t : Table). overlaps (least_of chosen) (greatest_of chosen) t ≡ reaches_into chosen t) (λ t own. sym (meets_alone chosen t none own)) (on_level output (outlines ts))
    (all_kept HasNoRange (λ (t : Table). t.level == output) (outlines ts) (outlines_alone ts))))
