-- Outputs are a source that is cut in order, and become tables of just these.
use Rattle.std.proofs.Common.{◌≡◌, ℕ, zero, suc, ◌≤◌, ◌+◌, List, [], ◌∷◌, ◌++◌, length, refl, sym, ap, ◌∙◌, subst, true, false, cond, arith}
use Rattle.std.specs.Prelude.{Option, Some, None, Result, Ok, Err, nat_le, flat_map, ◌-◌}
use Rattle.std.specs.List.{AllByRecursion}
use Rattle.std.proofs.lemmas.List.{append_assoc, append-nil, length-append}
use Rattle.std.proofs.lemmas.List.Concat.{flat_map-cons}
use Rattle.block_model.proofs.Bounds.{weaker}
use Rattle.key_base.specs.Limits.{merge_data_pages}
use Rattle.map_model.specs.SortedMap.{Bytes}
use Rattle.entry_model.specs.Entries.{Entry, IsEntry}
use Rattle.entry_model.specs.Newest.{KeysRise}
use Rattle.block_model.specs.Pages.{data_pages, first_key}
use Rattle.range_model.specs.Ranges.{DeletedRange, HasBounds, IsBound, ranges_below, ranges_from}
use Rattle.range_model.specs.Sources.{BeginsAtOne, IsSource, Source, first_said, says}
use Rattle.range_model.specs.Outputs.{HasEntries, all_entries, with_ranges}
use Rattle.range_model.specs.Laws.{LieApart}
use Rattle.range_model.proofs.Outputs.{outputs_say}
use Rattle.range_model.proofs.SoundOutputs.{outputs_are, outputs_are_cut, outputs_have_bounds}
use Rattle.range_model.proofs.Silence.{outputs_lie_apart}
use Rattle.state_model.specs.State.{State}
use Rattle.table_model.specs.Tables.{FilterBytes, Table, as_source, source_pages, table_from}
use Rattle.state_model.specs.View.{sources_of}
use Rattle.extent_model.specs.Extents.{Extent}
use Rattle.extent_model.specs.Gaps.{first_gap, largest_gap}
use Rattle.state_model.specs.Merges.{NoRoom, before, at_page, cut_for, placed, split_output, outputs_for, outputs_of}

-- ---- cut

-- the entries of some lists, one list after the other
abbrev joined : List (List Entry) → List Entry
joined [] = []
joined (entries ∷ more) = entries ++ joined more

split_joined : (output entries : List Entry) → (split_output output entries).0 ++ (split_output output entries).1 ≡ output ++ entries
split_joined output [] = refl
split_joined output (entry ∷ more) =
    elim (nat_le merge_data_pages (data_pages (output ++ (entry ∷ [])))) as (λ t.
    (cond t (output ++ (entry ∷ []), more) (split_output (output ++ (entry ∷ [])) more)).0 ++ (cond t (output ++ (entry ∷ []), more) (split_output (output ++ (entry ∷ [])) more)).1 ≡ output ++ (entry ∷ more)) [
      | true ↦ append_assoc output (entry ∷ []) more
      | false ↦ split_joined (output ++ (entry ∷ [])) more ∙ append_assoc output (entry ∷ []) more
    ]

outputs_joined : (beside : ℕ) (entries : List Entry) → joined (outputs_of beside entries) ≡ entries
outputs_joined zero [] = refl
outputs_joined (suc beside) [] = refl
outputs_joined zero (entry ∷ more) = append-nil (entry ∷ more)
outputs_joined (suc beside) (entry ∷ more) =
    let split = split_output [] (entry ∷ more) in
    ap (λ (l : List Entry). split.0 ++ l) (outputs_joined beside split.1) ∙ split_joined [] (entry ∷ more)

flat_joined : (lists : List (List Entry)) → all_entries lists ≡ joined lists
flat_joined [] = refl
flat_joined (entries ∷ more) = flat_map-cons (λ (l : List Entry). l) entries more ∙ ap (λ (l : List Entry). entries ++ l) (flat_joined more)

pub outputs_whole : (inputs : List Table) (entries : List Entry) → all_entries (outputs_for inputs entries) ≡ entries
outputs_whole inputs entries = flat_joined (outputs_for inputs entries) ∙ outputs_joined (length inputs - 1) entries

-- an output is no shorter than what it has already
split_grows : (output entries : List Entry) → length output ≤ length (split_output output entries).0
split_grows output [] = omega arith
split_grows output (entry ∷ more) =
    let longer = length-append output (entry ∷ []) in
    let rest = split_grows (output ++ (entry ∷ [])) more in
    elim (nat_le merge_data_pages (data_pages (output ++ (entry ∷ [])))) as (λ t. length output ≤ length (cond t (output ++ (entry ∷ []), more) (split_output (output ++ (entry ∷ [])) more)).0) [ true ↦ omega arith | false ↦ omega arith ]

split_some : (entry : Entry) (more : List Entry) → 1 ≤ length (split_output [] (entry ∷ more)).0
split_some entry more =
    elim (nat_le merge_data_pages (data_pages (entry ∷ []))) as (λ t. 1 ≤ length (cond t (entry ∷ [], more) (split_output (entry ∷ []) more)).0) [ true ↦ omega arith | false ↦ split_grows (entry ∷ []) more ]

outputs_some : (beside : ℕ) (entries : List Entry) → AllByRecursion (λ (output : List Entry). 1 ≤ length output) (outputs_of beside entries)
outputs_some zero [] = tt
outputs_some (suc beside) [] = tt
outputs_some zero (entry ∷ more) = (omega arith, tt)
outputs_some (suc beside) (entry ∷ more) = (split_some entry more, outputs_some beside (split_output [] (entry ∷ more)).1)

outputs_few : (beside : ℕ) (entries : List Entry) → length (outputs_of beside entries) ≤ beside + 1
outputs_few zero [] = omega arith
outputs_few (suc beside) [] = omega arith
outputs_few zero (entry ∷ more) = omega arith
outputs_few (suc beside) (entry ∷ more) = let rest = outputs_few beside (split_output [] (entry ∷ more)).1 in omega arith

some_has : (entries : List Entry) → 1 ≤ length entries → HasEntries entries
some_has [] some e = absurd (omega arith)
some_has (entry ∷ more) some e = cc

outputs_have : (inputs : List Table) (entries : List Entry) → AllByRecursion HasEntries (outputs_for inputs entries)
outputs_have inputs entries = weaker (λ (output : List Entry). 1 ≤ length output) HasEntries some_has (outputs_for inputs entries) (outputs_some (length inputs - 1) entries)

-- ---- each with its part of the ranges

-- what the entries of each output have
pub parts_have : (P : List Entry → Type 0) (outputs : List (List Entry)) (ranges : List DeletedRange) → AllByRecursion P outputs → AllByRecursion (λ (s : Source). P s.entries) (with_ranges outputs ranges)
parts_have P [] ranges all = tt
parts_have P (output ∷ []) ranges all = (all.0, tt)
parts_have P (output ∷ next ∷ more) ranges all = (all.0, parts_have P (next ∷ more) (ranges_from ranges (first_key next)) all.1)

parts_length : (outputs : List (List Entry)) (ranges : List DeletedRange) → length (with_ranges outputs ranges) ≡ length outputs
parts_length [] ranges = refl
parts_length (output ∷ []) ranges = refl
parts_length (output ∷ next ∷ more) ranges = let rest = parts_length (next ∷ more) (ranges_from ranges (first_key next)) in omega arith

parts_whole : (outputs : List (List Entry)) (ranges : List DeletedRange) → flat_map (λ (s : Source). s.entries) (with_ranges outputs ranges) ≡ all_entries outputs
parts_whole [] ranges = refl
parts_whole (output ∷ []) ranges = refl
parts_whole (output ∷ next ∷ more) ranges =
    flat_map-cons (λ (s : Source). s.entries) (record { entries = output; ranges = ranges_below ranges (first_key next) }) (with_ranges (next ∷ more) (ranges_from ranges (first_key next)))
    ∙ ap (λ (l : List Entry). output ++ l) (parts_whole (next ∷ more) (ranges_from ranges (first_key next)))
    ∙ sym (flat_map-cons (λ (l : List Entry). l) output (next ∷ more))

cut_is : (inputs : List Table) (s : Source) → IsSource s → IsSource (record { entries = all_entries (outputs_for inputs s.entries); ranges = s.ranges })
cut_is inputs s is = subst (λ (l : List Entry). IsSource (record { entries = l; ranges = s.ranges })) (sym (outputs_whole inputs s.entries)) is

pub cut_are : (inputs : List Table) (s : Source) → IsSource s → AllByRecursion IsSource (cut_for inputs s)
cut_are inputs s is = outputs_are (outputs_for inputs s.entries) s.ranges (outputs_have inputs s.entries) (cut_is inputs s is)

pub cut_apart : (inputs : List Table) (s : Source) → IsSource s → LieApart (cut_for inputs s)
cut_apart inputs s is = outputs_lie_apart (outputs_for inputs s.entries) s.ranges (outputs_have inputs s.entries) (cut_is inputs s is)

pub cut_some : (inputs : List Table) (s : Source) → AllByRecursion (λ (output : Source). 1 ≤ length output.entries) (cut_for inputs s)
cut_some inputs s = parts_have (λ (output : List Entry). 1 ≤ length output) (outputs_for inputs s.entries) s.ranges (outputs_some (length inputs - 1) s.entries)

pub cut_few : (inputs : List Table) (s : Source) → length (cut_for inputs s) ≤ (length inputs - 1) + 1
cut_few inputs s = omega (arith, parts_length (outputs_for inputs s.entries) s.ranges, outputs_few (length inputs - 1) s.entries)

pub cut_whole : (inputs : List Table) (s : Source) → flat_map (λ (output : Source). output.entries) (cut_for inputs s) ≡ s.entries
cut_whole inputs s = parts_whole (outputs_for inputs s.entries) s.ranges ∙ outputs_whole inputs s.entries

-- what each entry of a source has, each entry of its outputs has
pub cut_all : (P : Entry → Type 0) (inputs : List Table) (s : Source) → AllByRecursion P s.entries → AllByRecursion (λ (output : Source). AllByRecursion P output.entries) (cut_for inputs s)
cut_all P inputs s all = parts_have (λ (l : List Entry). AllByRecursion P l) (outputs_for inputs s.entries) s.ranges
    (joined_all (outputs_for inputs s.entries) (subst (AllByRecursion P) (sym (outputs_joined (length inputs - 1) s.entries)) all))
  where
    first_all : (xs ys : List Entry) → AllByRecursion P (xs ++ ys) → AllByRecursion P xs × AllByRecursion P ys
    first_all [] ys all = (tt, all)
    first_all (x ∷ xs) ys all = let rest = first_all xs ys all.1 in ((all.0, rest.0), rest.1)

    joined_all : (lists : List (List Entry)) → AllByRecursion P (joined lists) → AllByRecursion (λ (l : List Entry). AllByRecursion P l) lists
    joined_all [] all = tt
    joined_all (l ∷ more) all = let parts = first_all l (joined more) all in (parts.0, joined_all more parts.1)

-- its entries are entries, and the bounds of its ranges keys: so it is of its outputs
first_bound : (output : List Entry) → 1 ≤ length output → AllByRecursion IsEntry output → IsBound (first_key output)
first_bound [] some each = absurd (omega arith)
first_bound (e ∷ more) some each = record { some = each.0.some_key; short = each.0.short_key; bytes = each.0.key_bytes }

pub cut_bounds : (inputs : List Table) (s : Source) → AllByRecursion IsEntry s.entries → AllByRecursion HasBounds s.ranges → AllByRecursion (λ (output : Source). AllByRecursion HasBounds output.ranges) (cut_for inputs s)
cut_bounds inputs s each bounds = outputs_have_bounds (outputs_for inputs s.entries) s.ranges
    (keys (outputs_for inputs s.entries) (outputs_some (length inputs - 1) s.entries) (subst (AllByRecursion IsEntry) (sym (outputs_joined (length inputs - 1) s.entries)) each)) bounds
  where
    front : (xs ys : List Entry) → AllByRecursion IsEntry (xs ++ ys) → AllByRecursion IsEntry xs × AllByRecursion IsEntry ys
    front [] ys all = (tt, all)
    front (x ∷ xs) ys all = let rest = front xs ys all.1 in ((all.0, rest.0), rest.1)

    keys : (lists : List (List Entry)) → AllByRecursion (λ (l : List Entry). 1 ≤ length l) lists → AllByRecursion IsEntry (joined lists) → AllByRecursion (λ (l : List Entry). IsBound (first_key l)) lists
    keys [] some all = tt
    keys (l ∷ more) some all = let parts = front l (joined more) all in (first_bound l some.0 parts.0, keys more some.1 parts.1)

-- the outputs say what the source says
none_begin : (ranges : List DeletedRange) → AllByRecursion (BeginsAtOne []) ranges → ranges ≡ []
none_begin [] begin = refl
none_begin (range ∷ later) begin = absurd (begin.0 refl)

cut_say_of : (s : Source) (outputs : List (List Entry)) (key : Bytes) → IsSource s → AllByRecursion HasEntries outputs → all_entries outputs ≡ s.entries → first_said (with_ranges outputs s.ranges) key ≡ says s key
cut_say_of s [] key is some whole =
    let none = none_begin s.ranges (subst (λ (l : List Entry). AllByRecursion (BeginsAtOne l) s.ranges) (sym whole) is.begin) in
    λ i. says (record { entries = whole i; ranges = sym none i }) key
cut_say_of s (output ∷ more) key is some whole =
    outputs_say output more s.ranges key (outputs_are_cut (output ∷ more) some (subst KeysRise (sym whole) is.rises))
    ∙ ap (λ (l : List Entry). says (record { entries = l; ranges = s.ranges }) key) whole

pub cut_say : (inputs : List Table) (s : Source) (key : Bytes) → IsSource s → first_said (cut_for inputs s) key ≡ says s key
cut_say inputs s key is = cut_say_of s (outputs_for inputs s.entries) key is (outputs_have inputs s.entries) (outputs_whole inputs s.entries)

-- ---- placed

abbrev MadeOf : List Source → Result (List Table) NoRoom → Type 0
MadeOf outputs (Ok made) = sources_of made ≡ outputs
MadeOf outputs (Err refusal) = Unit {0}

before_made : (t : Table) (outputs : List Source) (placed : Result (List Table) NoRoom) → MadeOf outputs placed → MadeOf (as_source t ∷ outputs) (before t placed)
before_made t outputs (Ok made) so = ap (λ (l : List Source). as_source t ∷ l) so
before_made t outputs (Err refusal) so = tt

at_made : (outputs : List Source) (page : Option ℕ) (there : ℕ → Result (List Table) NoRoom) (refusal : NoRoom) → ((n : ℕ) → MadeOf outputs (there n)) → MadeOf outputs (at_page page there refusal)
at_made outputs (Some page) there refusal so = so page
at_made outputs None there refusal so = tt

placed_made : (filter_bytes : FilterBytes) (s : State) (taken : List Extent) (level : ℕ) (outputs : List Source) → MadeOf outputs (placed filter_bytes s.settings s.pages taken level outputs)
placed_made filter_bytes s taken level [] = refl
placed_made filter_bytes s taken level (output ∷ more) =
    let need = source_pages filter_bytes s.settings output in
    let rest = λ (page : ℕ). placed filter_bytes s.settings s.pages ((page, need) ∷ taken) level more in
    at_made (output ∷ more) (first_gap s.pages taken need)
    (λ page. before (table_from filter_bytes s.settings level page output) (rest page))
    (record { need = need; gap = largest_gap s.pages taken })
    (λ page. before_made (table_from filter_bytes s.settings level page output) more (rest page) (placed_made filter_bytes s ((page, need) ∷ taken) level more))

-- where there was room, the tables are the outputs, in their order
pub placed_lists : (filter_bytes : FilterBytes) (s : State) (taken : List Extent) (level : ℕ) (outputs : List Source) (made : List Table) → placed filter_bytes s.settings s.pages taken level outputs ≡ Ok made → sources_of made ≡ outputs
placed_lists filter_bytes s taken level outputs made e = subst (MadeOf outputs) e (placed_made filter_bytes s taken level outputs)
