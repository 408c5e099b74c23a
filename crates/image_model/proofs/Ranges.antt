-- The key ranges of a state's tables break no rule.
use Rattle.std.proofs.Common.{◌≡◌, ◌⊎◌, inl, inr, ◌≤◌, ◌+◌, ℕ, suc, List, [], ◌∷◌, ◌++◌, length, refl, sym, ap, ap₂, ◌∙◌, arith}
use Rattle.std.proofs.lemmas.Bool.{eq-eqb, eqb-true}
use Rattle.std.proofs.lemmas.List.{append-nil}
use Rattle.std.specs.Prelude.{map, Bool, true, false, not, ◌||◌, ◌==◌, None}
use Rattle.std.specs.List.{AllByRecursion, AllPairs}
use Rattle.byte_fields.specs.declared.parts.Row.{Row}
use Rattle.disk_trait.specs.Image.{Image}
use Rattle.filter_api.specs.Spellings.{Spelling}
use Rattle.map_model.specs.SortedMap.{Bytes}
use Rattle.entry_model.specs.Entries.{Entry}
use Rattle.block_model.specs.BlockReading.{block_in}
use Rattle.block_model.specs.Index.{Index}
use Rattle.block_model.specs.IndexReading.{index_in}
use Rattle.block_model.specs.Laws.{joined}
use Rattle.range_model.specs.Reach.{lies_below, reach}
use Rattle.block_model.specs.Pages.{first_key, last_key}
use Rattle.block_model.proofs.Refusals.{not_true, passed}
use Rattle.manifest_model.specs.Tables.{KeyRange, follows, ranges_after, ranges_fault}
use Rattle.state_model.specs.Merges.{LiesBelow, greatest_key, least_key}
use Rattle.state_model.specs.Sound.{StandsBefore}
use Rattle.state_model.specs.WithoutRanges.{HasNoRange}
use Rattle.table_model.specs.Tables.{Table, as_source}
use Rattle.table_model.specs.Damage.{index_part}
use Rattle.table_model.specs.Images.{IsTableOf}
use Rattle.table_model.specs.Pieces.{IsPiece, blocks_in, index_of_pieces, row_of_piece}
use Rattle.table_model.proofs.Pieces.{least_of_index, row_last, rows_of_index}
use Rattle.table_model.proofs.Sound.{index_read}
use Rattle.image_model.specs.Opening.{greatest_in, key_range_of, range_of_table}
use Rattle.image_model.specs.Tables.{AreTablesOf}

-- ---- the keys of an index

last_behind : (xs : List Entry) (y : Entry) (ys : List Entry) → last_key (xs ++ (y ∷ ys)) ≡ last_key (y ∷ ys)
last_behind [] y ys = refl
last_behind (x ∷ []) y ys = refl
last_behind (x ∷ next ∷ more) y ys = last_behind (next ∷ more) y ys

last_of_some : (xs ys : List Entry) → 1 ≤ length ys → last_key (xs ++ ys) ≡ last_key ys
last_of_some xs [] some = absurd (omega (arith, some))
last_of_some xs (y ∷ ys) some = last_behind xs y ys

some_joined : (block : List Entry) (later : List (List Entry)) → 1 ≤ length block → 1 ≤ length (joined (block ∷ later))
some_joined [] later some = absurd (omega (arith, some))
some_joined (e ∷ es) later some = omega arith

greatest_is : (pieces : List Bytes) → AllByRecursion IsPiece pieces → greatest_in (map row_of_piece pieces) ≡ last_key (joined (blocks_in pieces))
greatest_is [] each = refl
greatest_is (p ∷ []) each = row_last p ∙ ap last_key (sym (append-nil (block_in p)))
greatest_is (p ∷ next ∷ later) each =
    greatest_is (next ∷ later) each.1 ∙ sym (last_of_some (block_in p) (joined (blocks_in (next ∷ later))) (some_joined (block_in next) (blocks_in later) each.1.0.sound.some))

range_is : (spelling : Spelling) (row : Row) (t : Table) (image : Image) → IsTableOf spelling row t image → HasNoRange t → key_range_of image row ≡ range_of_table t
range_is spelling row t image is none =
    let pieces = is.1.pieces in
    let read : index_in (index_part row image) ≡ index_of_pieces pieces is.1.ranges = index_read spelling row is.0 image is.1 in
    let level : row.level ≡ t.level = sym (ap (λ (u : Table). u.level) is.2) in
    let least : (index_in (index_part row image)).least ≡ least_key t = ap (λ (x : Index). x.least) read ∙ least_of_index pieces is.1.ranges ∙ ap (λ (bs : List (List Entry)). first_key (joined bs)) is.1.read ∙ sym (ap least_key is.2) in
    let greatest : greatest_in (index_in (index_part row image)).rows ≡ greatest_key t =
    ap (λ (x : Index). greatest_in x.rows) read ∙ ap greatest_in (rows_of_index pieces is.1.ranges) ∙ greatest_is pieces is.1.each ∙ ap (λ (bs : List (List Entry)). last_key (joined bs)) is.1.read ∙ sym (ap greatest_key is.2) in
    let end : [] ≡ reach t.ranges = sym (ap reach none) in
    λ i. record { level = level i; least = least i; greatest = greatest i; reach = end i }

pub ranges_are : (spelling : Spelling) (rows : List Row) (tables : List Table) (image : Image) → AreTablesOf spelling rows tables image → AllByRecursion HasNoRange tables
    → map (key_range_of image) rows ≡ map range_of_table tables
ranges_are spelling [] [] image are none = refl
ranges_are spelling [] (t ∷ ts) image are none = elim are [ ]
ranges_are spelling (row ∷ rows) [] image are none = elim are [ ]
ranges_are spelling (row ∷ rows) (t ∷ ts) image are none =
    ap₂ (λ (r : KeyRange) (rs : List KeyRange). r ∷ rs) (range_is spelling row t image are.0 none.0) (ranges_are spelling rows ts image are.1 none.1)

-- ---- tables in their order

one_of_three : (a b c : Bool) → (a ≡ true) ⊎ ((b ≡ true) ⊎ (c ≡ true)) → (a || b || c) ≡ true
one_of_three true b c one = refl
one_of_three false true c one = refl
one_of_three false false true one = refl
one_of_three false false false (inl p) = absurd cc
one_of_three false false false (inr (inl p)) = absurd cc
one_of_three false false false (inr (inr p)) = absurd cc

level_differs : (a b : ℕ) → (a ≡ b → ⊥) → not (a == b) ≡ true
level_differs a b differ = elim (a == b) as (λ t. (a == b) ≡ t → not t ≡ true) [ true ↦ λ same. absurd (differ (eqb-true a b same)) | false ↦ λ same. refl ] refl

one_of : (t u : Table) → (not (t.level == u.level) ≡ true) ⊎ (((u.level == 0) ≡ true) ⊎ LiesBelow t (least_key u)) → follows (range_of_table t) (range_of_table u) ≡ true
one_of t u which = one_of_three (not (t.level == u.level)) (u.level == 0) (lies_below (as_source t) (least_key u)) which

pub comes_by_rule : (t u : Table) → StandsBefore t u → follows (range_of_table t) (range_of_table u) ≡ true
comes_by_rule t u (inl less) = one_of t u (inl (level_differs t.level u.level (λ same. omega (arith, less, same))))
comes_by_rule t u (inr deeper) = elim deeper.1 [
  | inl first ↦ one_of t u (inr (inl (eq-eqb u.level 0 (sym deeper.0 ∙ first))))
  | inr before ↦ one_of t u (inr (inr before))
]

-- each but the first is after the one before
next_pairs : (t u : Table) (later : List Table) → AllPairs StandsBefore (t ∷ u ∷ later) → StandsBefore t u × AllPairs StandsBefore (u ∷ later)
next_pairs t u later all = (all 0 1 t (omega arith) (omega arith), λ i j d before within. all (suc i) (suc j) d (omega (arith, before)) (omega (arith, within)))

after_none : (place : ℕ) (t : Table) (later : List Table) → AllPairs StandsBefore (t ∷ later) → ranges_after place (range_of_table t) (map range_of_table later) ≡ None
unfolding ranges_after
after_none place t [] all = refl
after_none place t (u ∷ later) all =
    let parts = next_pairs t u later all in
    passed _ place 12 _ (not_true _ (comes_by_rule t u parts.0)) (after_none (place + 64) u later parts.1)

none_of_tables : (tables : List Table) → AllPairs StandsBefore tables → ranges_fault (map range_of_table tables) ≡ None
unfolding ranges_fault
none_of_tables [] all = refl
none_of_tables (t ∷ later) all = after_none 128 t later all

pub ranges_keep : (spelling : Spelling) (rows : List Row) (tables : List Table) (image : Image) → AreTablesOf spelling rows tables image
    → AllByRecursion HasNoRange tables → AllPairs StandsBefore tables → ranges_fault (map (key_range_of image) rows) ≡ None
ranges_keep spelling rows tables image are none order = ap ranges_fault (ranges_are spelling rows tables image are none) ∙ none_of_tables tables order
