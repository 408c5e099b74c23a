-- Where no row is left no block is, and where a block is wanted one is left.
use Rattle.std.proofs.Common.{◌≡◌, ℕ, zero, suc, ◌+◌, ◌<◌, ◌≤◌, List, [], ◌∷◌, ◌++◌, length, map, drop, reverse, refl, sym, ap, ◌∙◌, subst, Bool, true, false, cond, arith}
use Rattle.std.specs.Prelude.{◌==◌, ◌&&◌, nat_lt, slice_index_or, Option, Some, None}
use Rattle.std.specs.List.{AllByRecursion}
use Rattle.std.proofs.lemmas.Bool.{false≢true, ltb-true}
use Rattle.std.proofs.lemmas.List.{reverse-append}
use Rattle.std.proofs.lemmas.List.Sums.{sum_by-cons}
use Rattle.block_format.specs.Walking.{kept_from}
use Rattle.block_model.specs.Laws.{joined}
use Rattle.disk_trait.specs.Image.{Image}
use Rattle.entry_model.specs.Entries.{Entry}
use Rattle.map_model.specs.SortedMap.{Bytes}
use Rattle.merge_rows.specs.Merges.{Merge, TableWalk, blocks_in, left_above, merged_left, numbered, row_count, sources_above, with_hand}
use Rattle.merge_rows.specs.Reads.{blocks_left, blocks_left_in, is_used_up, ones, wanted_by, wants}
use Rattle.merge_rows.specs.Rows.{KeyFloor, above_floor, clears}
use Rattle.merge_rows.specs.Steps.{AreSoundWalks, IsSoundMerge, IsSoundWalk}
use Rattle.state_model.proofs.SoundLogs.{newest_none}
use Rattle.table_file.specs.Opened.{Opened}
use Rattle.table_file.specs.Walks.{CursorWalk, blocks_there, is_due, joined_from, to_come}
use Rattle.block_model.specs.Index.{IndexRow}

-- ---- a list with nothing in it

none_first : (xs ys : List Entry) → xs ++ ys ≡ [] → xs ≡ []
none_first [] ys e = refl
none_first (x ∷ xs) ys e = absurd cc

none_second : (xs ys : List Entry) → xs ++ ys ≡ [] → ys ≡ []
none_second [] ys e = e
none_second (x ∷ xs) ys e = absurd cc

-- what is above the floor is not nothing
clear_none : (floor : KeyFloor) (entries : List Entry) → AllByRecursion (λ (e : Entry). clears floor e.key ≡ true) entries → above_floor floor entries ≡ [] → entries ≡ []
clear_none floor [] clear none = refl
clear_none floor (e ∷ later) clear none =
    absurd (taken (sym (ap (λ (t : Bool). cond t (e ∷ above_floor floor later) (above_floor floor later)) clear.0) ∙ none))
  where
    taken : e ∷ above_floor floor later ≡ [] → ⊥
    taken e = absurd cc

later_none : (floor : KeyFloor) (now : Option Entry) (come : List Entry) → above_floor floor (with_hand now come) ≡ [] → above_floor floor come ≡ []
later_none floor None come none = none
later_none floor (Some e) come none = elim (clears floor e.key) as (λ t. cond t (e ∷ above_floor floor come) (above_floor floor come) ≡ [] → above_floor floor come ≡ []) [
  | true ↦ λ some. absurd cc
  | false ↦ λ so. so
] none

-- ---- a walk

-- as many blocks as rows
many_there : (page : ℕ) (rows : List IndexRow) (image : Image) → length (blocks_there page rows image) ≡ length rows
many_there page [] image = refl
many_there page (row ∷ later) image = ap suc (many_there (page + row.pages) later image)

many_blocks : (t : Option Opened) (image : Image) → length (blocks_in t image) ≡ row_count t
many_blocks None image = refl
many_blocks (Some t) image = many_there t.row.first_page t.index.rows image

first_kept : (bound : Option Bytes) (n : ℕ) (blocks : List (List Entry)) → n < length blocks → joined_from bound (drop n blocks) ≡ [] → kept_from bound (slice_index_or blocks n []) ≡ []
first_kept bound n [] less none = absurd (omega arith)
first_kept bound zero (b ∷ more) less none = none_first (kept_from bound b) (joined more) none
first_kept bound (suc n) (b ∷ more) less none = first_kept bound n more (omega arith) none

past_all : (floor : KeyFloor) (walk : CursorWalk) (blocks : List (List Entry)) → IsSoundWalk floor walk blocks → to_come walk blocks ≡ [] → length blocks ≤ walk.block
past_all floor walk blocks sound none = elim (nat_lt walk.block (length blocks)) as (λ t. nat_lt walk.block (length blocks) ≡ t → length blocks ≤ walk.block) [
  | true ↦ λ e.
      let less : walk.block < length blocks = ltb-true walk.block (length blocks) e in
      let kept : kept_from walk.bound (slice_index_or blocks walk.block []) ≡ [] = first_kept walk.bound walk.block blocks less (none_second walk.later (joined_from walk.bound (drop walk.block blocks)) none) in
      let some : 1 ≤ length (kept_from walk.bound (slice_index_or blocks walk.block [])) = sound.begins less in
      let zero_long : length (kept_from walk.bound (slice_index_or blocks walk.block [])) ≡ 0 = ap length kept in
      absurd (omega (arith, some, zero_long))
  | false ↦ λ e. not_less walk.block (length blocks) e
] refl
  where
    not_less : (m n : ℕ) → nat_lt m n ≡ false → n ≤ m
    not_less m n e = grind arith

walk_read : (floor : KeyFloor) (tables : List Opened) (image : Image) (w : TableWalk) → IsSoundWalk floor w.walk (blocks_in (numbered tables w.number) image)
    → left_above floor tables image w ≡ [] → blocks_left_in tables w ≡ 0
walk_read floor tables image w sound none =
    let blocks = blocks_in (numbered tables w.number) image in
    let come : to_come w.walk blocks ≡ [] = clear_none floor (to_come w.walk blocks) sound.clear (later_none floor w.walk.now (to_come w.walk blocks) none) in
    let past : length blocks ≤ w.walk.block = past_all floor w.walk blocks sound come in
    let many : length blocks ≡ row_count (numbered tables w.number) = many_blocks (numbered tables w.number) image in
    omega (arith, past, many)

-- ---- all walks

walks_read : (floor : KeyFloor) (tables : List Opened) (image : Image) (walks : List TableWalk) → AreSoundWalks floor tables image walks
    → AllByRecursion (λ (xs : List Entry). xs ≡ []) (map (left_above floor tables image) walks) → blocks_left tables walks ≡ 0
walks_read floor tables image [] sound none = refl
walks_read floor tables image (w ∷ more) sound none =
    let here = walk_read floor tables image w sound.0 none.0 in
    let rest = walks_read floor tables image more sound.1 none.1 in
    let sum = sum_by-cons (blocks_left_in tables) w more in
    omega (arith, here, rest, sum)

joined_none : (lists : List (List Entry)) → joined lists ≡ [] → AllByRecursion (λ (xs : List Entry). xs ≡ []) lists
joined_none [] none = tt
joined_none (xs ∷ more) none = (none_first xs (joined more) none, joined_none more (none_second xs (joined more) none))

all_back : {X : Type 0} (P : X → Type 0) (xs ys : List X) → AllByRecursion P xs → AllByRecursion P ys → AllByRecursion P (xs ++ ys)
all_back P [] ys first second = second
all_back P (x ∷ xs) ys first second = (first.0, all_back P xs ys first.1 second)

all_reversed : {X : Type 0} (P : X → Type 0) (xs : List X) → AllByRecursion P (reverse xs) → AllByRecursion P xs
all_reversed P xs all = subst (AllByRecursion P) (Rattle.std.proofs.lemmas.List.reverse-reverse xs) (turned P (reverse xs) all)
  where
    turned : {X : Type 0} (P : X → Type 0) (ys : List X) → AllByRecursion P ys → AllByRecursion P (reverse ys)
    turned P [] all = tt
    turned P (y ∷ ys) all = subst (AllByRecursion P) (sym (reverse-append (y ∷ []) ys)) (all_back P (reverse ys) (y ∷ []) (turned P ys all.1) (all.0, tt))

-- where no row is left, all blocks were read
pub no_row_no_block : (m : Merge) (tables : List Opened) (image : Image) → IsSoundMerge m tables image → merged_left m tables image ≡ [] → blocks_left tables m.walks ≡ 0
no_row_no_block m tables image sound none =
    let sources = sources_above m.floor tables image m.memory m.walks in
    let empty = all_reversed (λ (xs : List Entry). xs ≡ []) sources (joined_none (reverse sources) (newest_none (joined (reverse sources)) none)) in
    walks_read m.floor tables image m.walks sound.walks empty.1
