-- A compaction passes each block of its tables, and each is sound as the device stood at first.
use Rattle.std.proofs.Common.{◌≡◌, ◌∙◌, ◌*◌, ◌+◌, ◌-◌, ◌<◌, ◌≤◌, ℕ, zero, suc, true, List, [], ◌∷◌, ◌++◌, length, map, take, get_or, inl, inr, refl, sym, ap, subst, arith}
use Rattle.std.specs.Prelude.{Option, Some, slice_get}
use Rattle.std.specs.List.{AllByRecursion}
use Rattle.std.proofs.lemmas.Bool.{cases_lt}
use Rattle.std.proofs.lemmas.List.{append_assoc}
use Rattle.std.proofs.lemmas.List.Sums.{position_or_len_is, sum_by-cons}
use Rattle.block_model.specs.BlockReading.{block_fault}
use Rattle.block_model.specs.Index.{IndexRow, row_pages}
use Rattle.block_model.specs.Order.{is_from}
use Rattle.block_model.specs.Places.{byte_of_page, pages_of}
use Rattle.byte_fields.specs.Sums.{fnv_of}
use Rattle.byte_fields.specs.declared.parts.Row.{Row}
use Rattle.disk_trait.proofs.Images.{window_same}
use Rattle.disk_trait.specs.Image.{Image}
use Rattle.level_merge.specs.JobValue.{all_numbers}
use Rattle.manifest.specs.Manifest.{Manifest}
use Rattle.map_model.specs.SortedMap.{Bytes}
use Rattle.merge_rows.specs.Merges.{TableWalk, numbered, row_count, walk_at}
use Rattle.merge_rows.specs.Reads.{AreAtEnd, AreSoundFrom, PassSound}
use Rattle.merge_rows.specs.Steps.{numbers}
use Rattle.store_core.proofs.ScanStates.{numbered_at}
use Rattle.store_core.specs.Compacting.{HasItsPages}
use Rattle.store_core.specs.Framing.{IsInTables, IsInUse, IsWithin, KeepsPlaces}
use Rattle.store_core.specs.Scans.{AreAllSound}
use Rattle.store_core.specs.StoreValue.{rows_of}
use Rattle.table_file.specs.Opened.{Opened}
use Rattle.table_file.specs.Search.{IsSoundBlock, bytes_at, page_at, row_at}
use Rattle.table_file.specs.Walks.{walk_from}

-- ---- the first tables have their pages

abbrev pub HaveUpTo : ℕ → List Opened → Type 0
HaveUpTo zero tables = Unit {0}
HaveUpTo (suc i) [] = Unit {0}
HaveUpTo (suc i) (t ∷ more) = HasItsPages t × HaveUpTo i more

have_next : (tables : List Opened) (i : ℕ) (t : Opened) → i < length tables → t ≡ get_or tables i t → HasItsPages t → HaveUpTo i tables → HaveUpTo (suc i) tables
have_next [] i t lt is has up = absurd (omega (arith, lt))
have_next (u ∷ more) zero t lt is has up = (subst HasItsPages is has, tt)
have_next (u ∷ more) (suc i) t lt is has up = (up.0, have_next more i t (omega (arith, lt)) is has up.1)

pub have_one : (tables : List Opened) (i : ℕ) (t : Opened) → i < length tables → t ≡ get_or tables i t → HasItsPages t → HaveUpTo i tables → HaveUpTo (i + 1) tables
have_one tables i t lt is has up =
    let one : suc i ≡ i + 1 = omega arith in
    subst (λ (n : ℕ). HaveUpTo n tables) one (have_next tables i t lt is has up)

pub have_all : (tables : List Opened) (i : ℕ) → length tables ≤ i → HaveUpTo i tables → AllByRecursion HasItsPages tables
have_all [] i le up = tt
have_all (t ∷ more) zero le up = absurd (omega (arith, le))
have_all (t ∷ more) (suc i) le up = (up.0, have_all more i (omega (arith, le)) up.1)

has_at : (tables : List Opened) (i : ℕ) (t : Opened) → slice_get tables i ≡ Some t → AllByRecursion HasItsPages tables → HasItsPages t
has_at [] zero t is all = absurd cc
has_at [] (suc i) t is all = absurd cc
has_at (u ∷ more) zero t is all = let same : u ≡ t = cc in subst HasItsPages same all.0
has_at (u ∷ more) (suc i) t is all = has_at more i t is all.1

-- ---- what is in the pages of the tables stays

-- a block lies in its table's pages
pages_within : (rows : List IndexRow) (n : ℕ) (d : IndexRow) → n < length rows → row_pages (take n rows) + (get_or rows n d).pages ≤ row_pages rows
pages_within [] n d lt = absurd (omega (arith, lt))
pages_within (r ∷ rows) zero d lt = omega (arith, sum_by-cons (λ (x : IndexRow). x.pages) r rows)
pages_within (r ∷ rows) (suc n) d lt =
    omega (arith, pages_within rows n d (omega (arith, lt)), sum_by-cons (λ (x : IndexRow). x.pages) r rows, sum_by-cons (λ (x : IndexRow). x.pages) r (take n rows))

in_tables : (tables : List Opened) (i : ℕ) (t : Opened) → slice_get tables i ≡ Some t → (place : ℕ) → IsWithin (byte_of_page t.row.first_page) (4096 * pages_of t.row) place → IsInTables (rows_of tables) place
in_tables [] zero t is place within = absurd cc
in_tables [] (suc i) t is place within = absurd cc
in_tables (u ∷ more) zero t is place within =
    let same : t ≡ u = cc in
    inl (subst (λ (x : Opened). IsWithin (byte_of_page x.row.first_page) (4096 * pages_of x.row) place) same within)
in_tables (u ∷ more) (suc i) t is place within = inr (in_tables more i t is place within)

-- each block before the next one of a walk is sound
abbrev pub SoundBefore : List Opened → Image → TableWalk → Type 0
SoundBefore tables image w = (t : Opened) (n : ℕ) → numbered tables w.number ≡ Some t → n < w.walk.block → n < length t.index.rows → IsSoundBlock t n image

module _ (m : Manifest) (tables : List Opened) (rows : rows_of tables ≡ m.version.rows) (has : AllByRecursion HasItsPages tables) (was image : Image) (kept : KeepsPlaces (IsInUse m 262144) was image) where
  same_block : (i : ℕ) (t : Opened) (n : ℕ) → slice_get tables i ≡ Some t → n < length t.index.rows → bytes_at t n image ≡ bytes_at t n was
  same_block i t n is lt = window_same was image (byte_of_page (page_at t n)) (4096 * (row_at t.index.rows n).pages) there
    where
      own : HasItsPages t
      own = has_at tables i t is has

      most : row_pages (take n t.index.rows) + (row_at t.index.rows n).pages ≤ row_pages t.index.rows
      most = pages_within t.index.rows n (record { pages = 0; sum = 0; last = [] }) lt

      there : (place : ℕ) → byte_of_page (page_at t n) ≤ place → place < byte_of_page (page_at t n) + 4096 * (row_at t.index.rows n).pages → image place ≡ was place
      there place low high =
          kept place (inr (inr (subst (λ (rs : List Row). IsInTables rs place) rows (in_tables tables i t is place (omega (arith, low), omega (arith, high, most, own))))))

  sound_was : (i : ℕ) (t : Opened) (n : ℕ) → slice_get tables i ≡ Some t → n < length t.index.rows → IsSoundBlock t n image → IsSoundBlock t n was
  sound_was i t n is lt sound =
      let same = same_block i t n is lt in
      record { sum = sound.sum ∙ ap fnv_of same; rules = ap block_fault (sym same) ∙ sound.rules }

  one_on : (old new : TableWalk) → SoundBefore tables was old → new.number ≡ old.number → AreSoundFrom (numbered tables old.number) image old.walk.block new.walk.block → SoundBefore tables was new
  one_on old new before number passed = λ t n is less lt.
      let here : numbered tables old.number ≡ Some t = ap (numbered tables) (sym number) ∙ is in
      elim (cases_lt n old.walk.block) [
        | inl earlier ↦ before t n here earlier lt
        | inr later ↦
            let each = subst (λ (o : Option Opened). AreSoundFrom o image old.walk.block new.walk.block) here passed in
            sound_was (length tables - 1 - old.number) t n here lt (each n later less)
      ]

  -- so after a slice too
  pub before_on : (old new : List TableWalk) → PassSound tables image old new → AllByRecursion (SoundBefore tables was) old → AllByRecursion (SoundBefore tables was) new
  before_on [] [] passes all = tt
  before_on [] (y ∷ new) passes all = absurd passes
  before_on (x ∷ old) [] passes all = absurd passes
  before_on (x ∷ old) (y ∷ new) passes all = (one_on x y all.0 passes.0.number passes.0.sound, before_on old new passes.1 all.1)

-- ---- as the compaction begins

from_nothing : (key : Bytes) → is_from [] key ≡ true
from_nothing [] = refl
from_nothing (b ∷ more) = refl

begins_first : (t : Opened) → (walk_from t []).block ≡ 0
begins_first t = position_or_len_is (λ (row : IndexRow). is_from [] row.last) t.index.rows 0 (record { pages = 0; sum = 0; last = [] }) (omega arith) (λ k less. absurd (omega (arith, less)))
    (λ _. from_nothing (row_at t.index.rows 0).last)

abbrev begun_walk : List Opened → ℕ → TableWalk
begun_walk tables number = record { number = number; walk = walk_at (numbered tables number) [] }

pub begun_before : (tables : List Opened) (image : Image) (which : List ℕ) → AllByRecursion (SoundBefore tables image) (map (begun_walk tables) which)
begun_before tables image [] = tt
begun_before tables image (number ∷ more) = (none_before, begun_before tables image more)
  where
    none_before : SoundBefore tables image (begun_walk tables number)
    none_before = λ t n is less lt.
        let first : (walk_at (numbered tables number) []).block ≡ 0 = ap (λ (o : Option Opened). (walk_at o []).block) is ∙ begins_first t in
        absurd (omega (arith, less, first))

pub begun_numbers : (tables : List Opened) (which : List ℕ) → numbers (map (begun_walk tables) which) ≡ which
begun_numbers tables [] = refl
begun_numbers tables (number ∷ more) = ap (λ (l : List ℕ). number ∷ l) (begun_numbers tables more)

-- ---- as it ends

-- each block of the table of a number is sound
abbrev WholeSound : List Opened → Image → ℕ → Type 0
WholeSound tables image number = (t : Opened) (n : ℕ) → numbered tables number ≡ Some t → n < length t.index.rows → IsSoundBlock t n image

all_whole : (tables : List Opened) (image : Image) (walks : List TableWalk) → AreAtEnd tables walks → AllByRecursion (SoundBefore tables image) walks → AllByRecursion (WholeSound tables image) (numbers walks)
all_whole tables image [] ends all = tt
all_whole tables image (w ∷ more) ends all = (whole, all_whole tables image more ends.1 all.1)
  where
    whole : WholeSound tables image w.number
    whole = λ t n is lt.
        let many : row_count (numbered tables w.number) ≡ length t.index.rows = ap row_count is in
        let read = ends.0.whole in
        all.0 t n is (omega (arith, lt, many, read)) lt

-- the tables are those of all numbers
by_numbers : (image : Image) (front tables : List Opened) → AllByRecursion (WholeSound (front ++ tables) image) (all_numbers (length tables)) → AreAllSound tables image
by_numbers image front [] all = tt
by_numbers image front (t ∷ older) all = (
  λ n lt. all.0 t n (numbered_at front t older) lt,
  by_numbers image (front ++ t ∷ []) older (subst (λ (ts : List Opened). AllByRecursion (WholeSound ts image) (all_numbers (length older))) (sym (append_assoc front (t ∷ []) older)) all.1),
)

pub all_passed : (tables : List Opened) (image : Image) (walks : List TableWalk) → numbers walks ≡ all_numbers (length tables) → AreAtEnd tables walks → AllByRecursion (SoundBefore tables image) walks → AreAllSound tables image
all_passed tables image walks are ends all = by_numbers image [] tables (subst (λ (which : List ℕ). AllByRecursion (WholeSound tables image) which) are (all_whole tables image walks ends all))
