-- The outputs that a merge still makes, row by row.
use Rattle.std.proofs.Common.{◌≡◌, ℕ, zero, suc, ◌-◌, ◌<◌, List, [], ◌∷◌, ◌++◌, length, refl, sym, ap, ◌∙◌, append_assoc, Bool, true, false, cond, arith}
use Rattle.std.specs.Prelude.{filter, nat_le}
use Rattle.std.proofs.lemmas.Bool.{false≢true}
use Rattle.std.proofs.lemmas.List.{append-nil}
use Rattle.block_model.specs.Pages.{blocks_of, data_pages}
use Rattle.entry_model.specs.Entries.{Entry}
use Rattle.key_base.specs.Limits.{merge_data_pages}
use Rattle.level_merge.specs.JobValue.{is_full, outputs_with}
use Rattle.state_model.specs.Merges.{has_value, lasting, outputs_of, split_output}

-- what follows an entry with which the output is full or not
abbrev split_with : Bool → List Entry → List Entry → List Entry × List Entry
split_with full output more = cond full (output, more) (split_output output more)

none_more : (beside : ℕ) → outputs_of beside [] ≡ []
none_more zero = refl
none_more (suc beside) = refl

none_full : nat_le merge_data_pages (data_pages []) ≡ false
unfolding data_pages blocks_of
none_full = refl

-- one that is full has an entry
full_some : (built : List Entry) → nat_le merge_data_pages (data_pages built) ≡ true → outputs_of zero built ≡ built ∷ []
full_some [] full = absurd (false≢true (sym none_full ∙ full))
full_some (e ∷ more) full = refl

pub full_has : (beside : ℕ) (built : List Entry) → is_full beside built ≡ true → 0 < length built
full_has zero built full = absurd (false≢true full)
full_has (suc beside) [] full = absurd (false≢true (sym none_full ∙ full))
full_has (suc beside) (e ∷ more) full = omega arith

ends_some : (built : List Entry) (e : Entry) → outputs_of zero (built ++ e ∷ []) ≡ (built ++ e ∷ []) ∷ []
ends_some [] e = refl
ends_some (x ∷ built) e = refl

-- an output that has an entry is still to make
one_of_two : (full : Bool) (a b : List Entry) (xs ys : List (List Entry)) → cond full (a ∷ xs) (b ∷ ys) ≡ [] → ⊥
one_of_two true a b xs ys none = absurd cc
one_of_two false a b xs ys none = absurd cc

pub built_is_left : (beside : ℕ) (built later : List Entry) → 0 < length built → outputs_with beside built later ≡ [] → ⊥
built_is_left beside [] later some none = absurd (omega (arith, some))
built_is_left zero (e ∷ built) later some none = absurd cc
built_is_left (suc beside) (e ∷ built) [] some none = absurd cc
built_is_left (suc beside) (e ∷ built) (f ∷ later) some none =
    let split = split_output (e ∷ built) (f ∷ later) in
    one_of_two (nat_le merge_data_pages (data_pages (e ∷ built))) (e ∷ built) split.0 (outputs_of beside (f ∷ later)) (outputs_of beside split.1) none

-- ---- where nothing is built

pub none_built : (beside : ℕ) (later : List Entry) → outputs_with beside [] later ≡ outputs_of beside later
none_built zero later = refl
none_built (suc beside) [] = refl
none_built (suc beside) (entry ∷ later) =
    let split = split_output [] (entry ∷ later) in
    ap (λ b. cond b ([] ∷ outputs_of beside (entry ∷ later)) (split.0 ∷ outputs_of beside split.1)) none_full

-- ---- with one row more

last_row : (beside : ℕ) (built : List Entry) (e : Entry) (full : Bool)
    → (split_with full (built ++ e ∷ []) []).0 ∷ outputs_of beside (split_with full (built ++ e ∷ []) []).1 ≡ outputs_of zero (built ++ e ∷ [])
last_row beside built e true = ap (λ l. (built ++ e ∷ []) ∷ l) (none_more beside) ∙ sym (ends_some built e)
last_row beside built e false = ap (λ l. (built ++ e ∷ []) ∷ l) (none_more beside) ∙ sym (ends_some built e)

next_row : (beside : ℕ) (output : List Entry) (f : Entry) (later : List Entry) (full : Bool)
    → (split_with full output (f ∷ later)).0 ∷ outputs_of beside (split_with full output (f ∷ later)).1
    ≡ cond full (output ∷ outputs_of beside (f ∷ later)) ((split_output output (f ∷ later)).0 ∷ outputs_of beside (split_output output (f ∷ later)).1)
next_row beside output f later true = refl
next_row beside output f later false = refl

pub with_row : (beside : ℕ) (built : List Entry) (e : Entry) (later : List Entry) → is_full beside built ≡ false
    → outputs_with beside built (e ∷ later) ≡ outputs_with beside (built ++ e ∷ []) later
with_row zero built e later short = ap (outputs_of zero) (sym (append_assoc built (e ∷ []) later))
with_row (suc beside) built e [] short =
    let split = split_output built (e ∷ []) in
    ap (λ b. cond b (built ∷ outputs_of beside (e ∷ [])) (split.0 ∷ outputs_of beside split.1)) short
    ∙ last_row beside built e (nat_le merge_data_pages (data_pages (built ++ e ∷ [])))
with_row (suc beside) built e (f ∷ later) short =
    let split = split_output built (e ∷ f ∷ later) in
    ap (λ b. cond b (built ∷ outputs_of beside (e ∷ f ∷ later)) (split.0 ∷ outputs_of beside split.1)) short
    ∙ next_row beside (built ++ e ∷ []) f later (nat_le merge_data_pages (data_pages (built ++ e ∷ [])))

-- ---- where no row is left, and where the output is full

pub no_row : (beside : ℕ) (built : List Entry) → outputs_with beside built [] ≡ outputs_of zero built
no_row zero built = ap (outputs_of zero) (append-nil built)
no_row (suc beside) built = refl

pub full_output : (beside : ℕ) (built later : List Entry) → is_full beside built ≡ true → outputs_with beside built later ≡ built ∷ outputs_of (beside - 1) later
full_output zero built later full = absurd (false≢true full)
full_output (suc beside) built [] full = full_some built full ∙ ap (λ l. built ∷ l) (sym (none_more (suc beside - 1)))
full_output (suc beside) built (entry ∷ later) full =
    let split = split_output built (entry ∷ later) in
    ap (λ b. cond b (built ∷ outputs_of beside (entry ∷ later)) (split.0 ∷ outputs_of beside split.1)) full
    ∙ ap (λ n. built ∷ outputs_of n (entry ∷ later)) (less_one beside)
  where
    less_one : (n : ℕ) → n ≡ suc n - 1
    less_one n = omega arith

-- ---- tombstones

-- the row itself, or nothing where it is left out
pub first_lasts : (drops : Bool) (e : Entry) (rows : List Entry) → lasting drops (e ∷ rows) ≡ lasting drops (e ∷ []) ++ lasting drops rows
first_lasts false e rows = refl
first_lasts true e rows = by_value (has_value e.value)
  where
    by_value : (some : Bool) → cond some (e ∷ filter (λ (x : Entry). has_value x.value) rows) (filter (λ (x : Entry). has_value x.value) rows)
        ≡ cond some (e ∷ []) [] ++ filter (λ (x : Entry). has_value x.value) rows
    by_value true = refl
    by_value false = refl

with_kept : (beside : ℕ) (built kept later : List Entry) (drops : Bool) (e : Entry) (some : Bool) → is_full beside built ≡ false
    → outputs_with beside built (cond some (e ∷ []) [] ++ later) ≡ outputs_with beside (built ++ cond some (e ∷ []) []) later
with_kept beside built kept later drops e true short = with_row beside built e later short
with_kept beside built kept later drops e false short = ap (λ l. outputs_with beside l later) (sym (append-nil built))

-- a row that comes is added, or left out
pub with_lasting : (beside : ℕ) (built : List Entry) (drops : Bool) (e : Entry) (rows : List Entry) → is_full beside built ≡ false
    → outputs_with beside built (lasting drops (e ∷ rows)) ≡ outputs_with beside (built ++ lasting drops (e ∷ [])) (lasting drops rows)
with_lasting beside built false e rows short = with_row beside built e rows short
with_lasting beside built true e rows short =
    ap (outputs_with beside built) (first_lasts true e rows)
    ∙ with_kept beside built [] (lasting true rows) true e (has_value e.value) short
