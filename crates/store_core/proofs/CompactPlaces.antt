-- The outputs of a compaction are placed one after the other.
use Rattle.std.proofs.Common.{◌≡◌, ◌∙◌, ◌<◌, ◌++◌, ℕ, List, [], ◌∷◌, take, refl, sym, ap, subst, append_assoc}
use Rattle.std.specs.Prelude.{Option, Some, None, Result, Ok, Err, IsOk}
use Rattle.std.specs.List.Sorted.{IsPermutation}
use Rattle.std.proofs.lemmas.List.{append-nil}
use Rattle.std.proofs.lemmas.List.Sorted.{IsPermutation-cons}
use Rattle.extent_model.proofs.AnyOrder.{first_same, largest_same}
use Rattle.extent_model.proofs.Rooms.{gap_small}
use Rattle.extent_model.specs.Extents.{Extent}
use Rattle.extent_model.specs.Gaps.{first_gap, largest_gap}
use Rattle.filter_api.specs.declared.settings.Settings.{Settings}
use Rattle.range_model.specs.Sources.{Source}
use Rattle.state_model.specs.Merges.{NoRoom, at_page, before, placed}
use Rattle.table_model.specs.Tables.{FilterBytes, Table, table_from, source_pages}

-- ---- beside the same extents in another order

same_place : (o p : Option ℕ) (f g : ℕ → Result (List Table) NoRoom) (r q : NoRoom) → o ≡ p → ((page : ℕ) → f page ≡ g page) → r ≡ q → at_page o f r ≡ at_page p g q
same_place o None f g r q place there refusal = ap (λ (x : Option ℕ). at_page x f r) place ∙ ap (λ (x : NoRoom). Err x) refusal
same_place o (Some page) f g r q place there refusal = ap (λ (x : Option ℕ). at_page x f r) place ∙ there page

pub placed_same : (bytes : FilterBytes) (settings : Settings) (pages level : ℕ) (outputs : List Source) (xs ys : List Extent) → IsPermutation xs ys
    → placed bytes settings pages xs level outputs ≡ placed bytes settings pages ys level outputs
placed_same bytes settings pages level [] xs ys same = refl
placed_same bytes settings pages level (output ∷ more) xs ys same =
    let need = source_pages bytes settings output in
    same_place (first_gap pages xs need) (first_gap pages ys need)
    (λ page. before (table_from bytes settings level page output) (placed bytes settings pages ((page, need) ∷ xs) level more))
    (λ page. before (table_from bytes settings level page output) (placed bytes settings pages ((page, need) ∷ ys) level more))
    (record { need = need; gap = largest_gap pages xs }) (record { need = need; gap = largest_gap pages ys })
    (first_same pages need xs ys same)
    (λ page. ap (before (table_from bytes settings level page output)) (placed_same bytes settings pages level more ((page, need) ∷ xs) ((page, need) ∷ ys) (IsPermutation-cons (page, need) xs ys same)))
    (ap (λ (g : ℕ). record { need = need; gap = g }) (largest_same pages xs ys same))

-- ---- after those that are made

abbrev pub behind_made : List Table → Result (List Table) NoRoom → Result (List Table) NoRoom
behind_made made (Ok tables) = Ok (made ++ tables)
behind_made made (Err refusal) = Err refusal

one_more : (made : List Table) (t : Table) (done : Result (List Table) NoRoom) → behind_made made (before t done) ≡ behind_made (made ++ t ∷ []) done
one_more made t (Ok tables) = ap (λ (l : List Table). Ok l) (sym (append_assoc made (t ∷ []) tables))
one_more made t (Err refusal) = refl

pub all_made : (made : List Table) → behind_made made (Ok []) ≡ Ok made
all_made made = ap (λ (l : List Table). Ok l) (append-nil made)

module _ (bytes : FilterBytes) (settings : Settings) (pages level : ℕ) where
  -- the first has its place
  pub place_first : (extents now : List Extent) (output : Source) (more : List Source) (page : ℕ) (made : List Table) → first_gap pages extents (source_pages bytes settings output) ≡ Some page
      → IsPermutation ((page, source_pages bytes settings output) ∷ extents) now
      → behind_made made (placed bytes settings pages extents level (output ∷ more)) ≡ behind_made (made ++ table_from bytes settings level page output ∷ []) (placed bytes settings pages now level more)
  place_first extents now output more page made gap same =
      let need = source_pages bytes settings output in
      let t = table_from bytes settings level page output in
      ap (λ (o : Option ℕ). behind_made made (at_page o (λ p. before (table_from bytes settings level p output) (placed bytes settings pages ((p, need) ∷ extents) level more)) (record { need = need; gap = largest_gap pages extents }))) gap
      ∙ one_more made t (placed bytes settings pages ((page, need) ∷ extents) level more)
      ∙ ap (behind_made (made ++ t ∷ [])) (placed_same bytes settings pages level more ((page, need) ∷ extents) now same)

  -- it has none
  pub no_place_first : (extents : List Extent) (output : Source) (more : List Source) → largest_gap pages extents < source_pages bytes settings output
      → placed bytes settings pages extents level (output ∷ more) ≡ Err (record { need = source_pages bytes settings output; gap = largest_gap pages extents })
  no_place_first extents output more small =
      let need = source_pages bytes settings output in
      ap (λ (o : Option ℕ). at_page o (λ p. before (table_from bytes settings level p output) (placed bytes settings pages ((p, need) ∷ extents) level more)) (record { need = need; gap = largest_gap pages extents }))
      (gap_small pages extents need small)

  -- the first of some outputs has a place
  pub first_placed : (extents : List Extent) (output : Source) (more : List Source) (page : ℕ) → first_gap pages extents (source_pages bytes settings output) ≡ Some page
      → IsOk (placed bytes settings pages extents level (take 1 (output ∷ more)))
  first_placed extents output more page gap =
      let need = source_pages bytes settings output in
      let is : placed bytes settings pages extents level (output ∷ []) ≡ Ok (table_from bytes settings level page output ∷ []) =
      ap (λ (o : Option ℕ). at_page o (λ p. before (table_from bytes settings level p output) (Ok [])) (record { need = need; gap = largest_gap pages extents })) gap in
      subst (λ (r : Result (List Table) NoRoom). IsOk r) (sym is) refl

  -- so it has where all have
  pub all_then_first : (extents : List Extent) (outputs : List Source) (tables : List Table) → placed bytes settings pages extents level outputs ≡ Ok tables
      → IsOk (placed bytes settings pages extents level (take 1 outputs))
  all_then_first extents [] tables all = refl
  all_then_first extents (output ∷ more) tables all = by_gap (first_gap pages extents (source_pages bytes settings output)) refl
    where
      by_gap : (o : Option ℕ) → first_gap pages extents (source_pages bytes settings output) ≡ o → IsOk (placed bytes settings pages extents level (take 1 (output ∷ more)))
      by_gap (Some page) gap = first_placed extents output more page gap
      by_gap None gap =
          let none = ap (λ (o : Option ℕ). at_page o (λ p. before (table_from bytes settings level p output) (placed bytes settings pages ((p, source_pages bytes settings output) ∷ extents) level more))
          (record { need = source_pages bytes settings output; gap = largest_gap pages extents })) gap in
          let both = sym none ∙ all in
          absurd cc
