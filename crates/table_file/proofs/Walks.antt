-- A walk over the blocks of a table.
use Rattle.std.proofs.Common.{◌≡◌, ◌≤◌, ◌<◌, ◌+◌, ℕ, zero, suc, Bool, true, false, List, [], ◌∷◌, ◌++◌, length, drop, take, get_or, refl, sym, ap, ap₂, ◌∙◌, subst, arith}
use Rattle.std.specs.Prelude.{Option, None, Result, Ok, Err, OnOk, OnErr, ◌==◌, ◌&&◌, nat_lt, MatchOption}
use Rattle.std.proofs.lemmas.Bool.{eqb-true, ltb-false, ltb-true}
use Rattle.std.proofs.lemmas.List.Sums.{sum_by-cons}
use Rattle.disk_trait.specs.Image.{Image}
use Rattle.map_model.specs.SortedMap.{Bytes}
use Rattle.entry_model.specs.Entries.{Entry}
use Rattle.block_model.specs.BlockReading.{block_in}
use Rattle.block_model.specs.Index.{IndexRow, row_pages}
use Rattle.block_model.specs.Laws.{joined}
use Rattle.block_format.specs.Walking.{kept_from}
use Rattle.table_model.specs.Damage.{block_part}
use Rattle.table_file.specs.Opened.{Opened}
use Rattle.table_file.specs.Search.{bytes_at, row_at}
use Rattle.table_file.specs.Walks.{BeginsWell, HandsOut, CursorWalk, blocks_on, blocks_there, first_of, is_due, joined_from, others_of, to_come}

-- ---- the blocks of a table

pub blocks_many : (page : ℕ) (rows : List IndexRow) (image : Image) → length (blocks_there page rows image) ≡ length rows
blocks_many page [] image = refl
blocks_many page (row ∷ later) image = ap suc (blocks_many (page + row.pages) later image)

from_block : (page : ℕ) (rows : List IndexRow) (image : Image) (n : ℕ) → n < length rows
    → drop n (blocks_there page rows image) ≡ block_in (block_part (page + row_pages (take n rows)) (row_at rows n) image) ∷ drop (suc n) (blocks_there page rows image)
from_block page [] image n lt = absurd (omega (arith, lt))
from_block page (row ∷ later) image zero lt =
    let here : page ≡ page + 0 = omega arith in
    ap (λ (p : ℕ). block_in (block_part p row image) ∷ blocks_there (page + row.pages) later image) here
from_block page (row ∷ later) image (suc n) lt =
    let place : page + row.pages + row_pages (take n later) ≡ page + row_pages (row ∷ take n later) =
    omega (arith, sum_by-cons (λ (r : IndexRow). r.pages) row (take n later)) in
    from_block (page + row.pages) later image n (omega (arith, lt))
    ∙ ap (λ (p : ℕ). block_in (block_part p (row_at later n) image) ∷ drop (suc n) (blocks_there (page + row.pages) later image)) place

pub at_block : (t : Opened) (image : Image) (n : ℕ) → n < length t.index.rows → get_or (blocks_on t image) n [] ≡ block_in (bytes_at t n image)
at_block t image n lt = block_there t.row.first_page t.index.rows image n lt
  where
    block_there : (page : ℕ) (rows : List IndexRow) (image : Image) (n : ℕ) → n < length rows
        → get_or (blocks_there page rows image) n [] ≡ block_in (block_part (page + row_pages (take n rows)) (row_at rows n) image)
    block_there page [] image n lt = absurd (omega (arith, lt))
    block_there page (row ∷ later) image zero lt =
        let here : page ≡ page + 0 = omega arith in ap (λ (p : ℕ). block_in (block_part p row image)) here
    block_there page (row ∷ later) image (suc n) lt =
        let place : page + row.pages + row_pages (take n later) ≡ page + row_pages (row ∷ take n later) =
        omega (arith, sum_by-cons (λ (r : IndexRow). r.pages) row (take n later)) in
        block_there (page + row.pages) later image n (omega (arith, lt)) ∙ ap (λ (p : ℕ). block_in (block_part p (row_at later n) image)) place

from_one_block : (t : Opened) (image : Image) (n : ℕ) → n < length t.index.rows
    → drop n (blocks_on t image) ≡ block_in (bytes_at t n image) ∷ drop (n + 1) (blocks_on t image)
from_one_block t image n lt =
    let one : suc n ≡ n + 1 = omega arith in
    from_block t.row.first_page t.index.rows image n lt ∙ ap (λ (k : ℕ). block_in (bytes_at t n image) ∷ drop k (blocks_on t image)) one

-- ---- a block is read

begun : (blocks : List (List Entry)) → joined_from None blocks ≡ joined blocks
begun [] = refl
begun (block ∷ more) = refl

first_true : (a b : Bool) → (a && b) ≡ true → a ≡ true
first_true true b e = refl
first_true false b e = e

second_true : (a b : Bool) → (a && b) ≡ true → b ≡ true
second_true true b e = e
second_true false b e = absurd cc

no_entries_left : (later : List Entry) → length later ≡ 0 → later ≡ []
no_entries_left [] none = refl
no_entries_left (e ∷ later) none = absurd (omega (arith, none))

no_later : (later : List Entry) (n blocks : ℕ) → (length later == 0 && nat_lt n blocks) ≡ true → (later ≡ []) × (n < blocks)
no_later later n blocks due = (
  no_entries_left later (eqb-true (length later) 0 (first_true (length later == 0) (nat_lt n blocks) due)),
  ltb-true n blocks (second_true (length later == 0) (nat_lt n blocks) due),
)

module _ (t : Opened) (image : Image) (old new : CursorWalk) (due : is_due old (length t.index.rows) ≡ true) where
  pub is_there : old.block < length t.index.rows
  is_there = (no_later old.later old.block (length t.index.rows) due).1

  pub none_later : old.later ≡ []
  none_later = (no_later old.later old.block (length t.index.rows) due).0

  pub read_same : new.bound ≡ None → new.block ≡ old.block + 1 → new.later ≡ kept_from old.bound (block_in (bytes_at t old.block image))
      → to_come new (blocks_on t image) ≡ to_come old (blocks_on t image)
  read_same bound block later =
      let blocks = blocks_on t image in
      ap₂ (λ (b : Option Bytes) (n : ℕ). new.later ++ joined_from b (drop n blocks)) bound block
      ∙ ap (λ (es : List Entry). new.later ++ es) (begun (drop (old.block + 1) blocks))
      ∙ ap (λ (es : List Entry). es ++ joined (drop (old.block + 1) blocks)) later
      ∙ sym (ap (joined_from old.bound) (from_one_block t image old.block is_there))
      ∙ sym (ap (λ (es : List Entry). es ++ joined_from old.bound (drop old.block blocks)) none_later)

  pub failed_same : new.bound ≡ old.bound → new.block ≡ old.block → new.later ≡ [] → to_come new (blocks_on t image) ≡ to_come old (blocks_on t image)
  failed_same bound block later =
      let blocks = blocks_on t image in
      ap₂ (λ (b : Option Bytes) (n : ℕ). new.later ++ joined_from b (drop n blocks)) bound block
      ∙ ap (λ (es : List Entry). es ++ joined_from old.bound (drop old.block blocks)) (later ∙ sym none_later)

  pub both_same : {T E : Type 0} (result : Result T E) → OnErr result (new.bound ≡ old.bound) → OnErr result (new.block ≡ old.block) → OnErr result (new.later ≡ [])
      → OnOk result (new.bound ≡ None) → OnOk result (new.block ≡ old.block + 1) → OnOk result (new.later ≡ kept_from old.bound (block_in (bytes_at t old.block image)))
      → to_come new (blocks_on t image) ≡ to_come old (blocks_on t image)
  both_same (Ok value) no_bound no_block no_later bound block later = read_same bound block later
  both_same (Err fault) same_bound same_block none bound block later = failed_same same_bound same_block none

  not_due : (later : List Entry) (n blocks : ℕ) → 1 ≤ length later → (length later == 0 && nat_lt n blocks) ≡ false
  not_due later n blocks some =
      elim (length later == 0) as (λ b. (length later == 0) ≡ b → (b && nat_lt n blocks) ≡ false) [
        | true ↦ λ none. absurd (omega (arith, eqb-true (length later) 0 none, some))
        | false ↦ λ _. refl
      ] refl

  pub one_read : {T E : Type 0} (result : Result T E) → OnOk result (new.block ≡ old.block + 1) → OnOk result (new.later ≡ kept_from old.bound (block_in (bytes_at t old.block image)))
      → BeginsWell old (blocks_on t image) → OnOk result ((is_due new (length t.index.rows) ≡ false) × (new.block ≡ old.block + 1))
  one_read (Err fault) block later well = tt
  one_read (Ok value) block later well =
      let inside : old.block < length (blocks_on t image) = omega (arith, is_there, blocks_many t.row.first_page t.index.rows image) in
      let some : 1 ≤ length new.later =
      subst (λ (es : List Entry). 1 ≤ length es) (sym later)
      (subst (λ (es : List Entry). 1 ≤ length (kept_from old.bound es)) (at_block t image old.block is_there) (well inside)) in
      (not_due new.later new.block (length t.index.rows) some, block)

-- ---- a step

past_all : (n : ℕ) (blocks : List (List Entry)) → length blocks ≤ n → drop n blocks ≡ []
past_all zero [] le = refl
past_all (suc n) [] le = refl
past_all zero (b ∷ blocks) le = absurd (omega (arith, le))
past_all (suc n) (b ∷ blocks) le = past_all n blocks (omega (arith, le))

step_on : (before : List Entry) (bound new_bound : Option Bytes) (block new_block : ℕ) (now : Option Entry) (later all : List Entry) (blocks : List (List Entry))
    → before ++ joined_from bound (drop block blocks) ≡ all → (length before == 0 && nat_lt block (length blocks)) ≡ false
    → now ≡ first_of before → later ≡ others_of before → new_bound ≡ bound → new_block ≡ block
    → MatchOption now (all ≡ []) (λ entry. all ≡ entry ∷ (later ++ joined_from new_bound (drop new_block blocks)))
step_on [] bound new_bound block new_block now later all blocks same idle is_now is_later is_bound is_block =
    let past : drop block blocks ≡ [] = past_all block blocks (ltb-false block (length blocks) idle) in
    subst (λ (o : Option Entry). MatchOption o (all ≡ []) (λ entry. all ≡ entry ∷ (later ++ joined_from new_bound (drop new_block blocks)))) (sym is_now)
    (sym same ∙ ap (joined_from bound) past)
step_on (e ∷ before) bound new_bound block new_block now later all blocks same idle is_now is_later is_bound is_block =
    subst (λ (o : Option Entry). MatchOption o (all ≡ []) (λ entry. all ≡ entry ∷ (later ++ joined_from new_bound (drop new_block blocks)))) (sym is_now)
    (sym same
    ∙ ap (λ (es : List Entry). e ∷ (es ++ joined_from bound (drop block blocks))) (sym is_later)
    ∙ ap₂ (λ (b : Option Bytes) (n : ℕ). e ∷ (later ++ joined_from b (drop n blocks))) (sym is_bound) (sym is_block))

pub steps : (old mid new : CursorWalk) (blocks : List (List Entry)) → to_come mid blocks ≡ to_come old blocks → is_due mid (length blocks) ≡ false
    → new.now ≡ first_of mid.later → new.later ≡ others_of mid.later → new.bound ≡ mid.bound → new.block ≡ mid.block → HandsOut old new blocks
steps old mid new blocks same idle now later bound block =
    step_on mid.later mid.bound new.bound mid.block new.block new.now new.later (to_come old blocks) blocks same idle now later bound block
