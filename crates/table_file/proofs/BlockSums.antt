-- The sums of a table's blocks, one after the other.
use Rattle.std.proofs.Common.{◌≡◌, ◌≤◌, ◌<◌, ◌+◌, ◌-◌, ◌*◌, ℕ, zero, suc, List, [], ◌∷◌, ◌++◌, length, take, drop, get_or, set, refl, sym, ap, ap₂, ◌∙◌, subst, arith}
use Rattle.std.specs.Prelude.{flat_map, map}
use Rattle.std.proofs.lemmas.List.{drop-drop, drop-take, drop_at, length-map, map-set, take-append-drop, take-take, take_at}
use Rattle.std.proofs.lemmas.List.Sums.{sum_by-cons}
use Rattle.byte_fields.specs.Sums.{fnv_of}
use Rattle.map_model.specs.SortedMap.{Bytes}
use Rattle.entry_model.specs.Entries.{Entry}
use Rattle.block_model.specs.Block.{block_bytes}
use Rattle.block_model.specs.Index.{IndexRow, index_row_of, row_pages}
use Rattle.block_model.specs.Pages.{block_pages}
use Rattle.block_model.proofs.Cutting.{block_fills_pages}
use Rattle.table_file.specs.BlockRows.{AreRowsOf, StandFrom, block_at, row_seen, rows_seen, summed_rows, unsummed_row_of}
use Rattle.table_file.specs.Search.{row_at}
use Rattle.table_file.specs.declared.block_row.BlockRow.{BlockRow}
use Rattle.table_file.proofs.Searches.{pages_within, row_of, stand_at}

-- ---- sums change neither pages nor keys

pub summed_long : (k : ℕ) (rows : List IndexRow) (bytes : Bytes) → length (summed_rows k rows bytes) ≡ length rows
summed_long zero rows bytes = refl
summed_long (suc k) [] bytes = refl
summed_long (suc k) (r ∷ later) bytes = omega (arith, summed_long k later (drop (4096 * r.pages) bytes))

same_pages : (k n : ℕ) (rows : List IndexRow) (bytes : Bytes) → (row_at (summed_rows k rows bytes) n).pages ≡ (row_at rows n).pages
same_pages zero n rows bytes = refl
same_pages (suc k) n [] bytes = refl
same_pages (suc k) zero (r ∷ later) bytes = refl
same_pages (suc k) (suc n) (r ∷ later) bytes = same_pages k n later (drop (4096 * r.pages) bytes)

same_before : (k n : ℕ) (rows : List IndexRow) (bytes : Bytes) → row_pages (take n (summed_rows k rows bytes)) ≡ row_pages (take n rows)
same_before zero n rows bytes = refl
same_before (suc k) n [] bytes = refl
same_before (suc k) zero (r ∷ later) bytes = refl
same_before (suc k) (suc n) (r ∷ later) bytes =
    let rest = drop (4096 * r.pages) bytes in
    let one : IndexRow = record r { sum = fnv_of (take (4096 * r.pages) bytes) } in
    omega (arith, same_before k n later rest, sum_by-cons (λ (x : IndexRow). x.pages) one (take n (summed_rows k later rest)), sum_by-cons (λ (x : IndexRow). x.pages) r (take n later))

-- the next one is as it was
same_next : (n : ℕ) (rows : List IndexRow) (bytes : Bytes) → row_at (summed_rows n rows bytes) n ≡ row_at rows n
same_next zero rows bytes = refl
same_next (suc n) [] bytes = refl
same_next (suc n) (r ∷ later) bytes = same_next n later (drop (4096 * r.pages) bytes)

-- ---- one more

summed_more : (n : ℕ) (rows : List IndexRow) (bytes : Bytes) → n < length rows
    → set (summed_rows n rows bytes) n (record (row_at rows n) { sum = fnv_of (block_at n rows bytes) }) ≡ summed_rows (suc n) rows bytes
summed_more n [] bytes lt = absurd (omega (arith, lt))
summed_more zero (r ∷ later) bytes lt = refl
summed_more (suc n) (r ∷ later) bytes lt =
    let rest = drop (4096 * r.pages) bytes in
    let m = 4096 * row_pages (take n later) in
    let one : IndexRow = record r { sum = fnv_of (take (4096 * r.pages) bytes) } in
    let far : 4096 * row_pages (r ∷ take n later) ≡ 4096 * r.pages + m = omega (arith, sum_by-cons (λ (x : IndexRow). x.pages) r (take n later)) in
    let here : drop (4096 * row_pages (r ∷ take n later)) bytes ≡ drop m rest = ap (λ (k : ℕ). drop k bytes) far ∙ sym (drop-drop m (4096 * r.pages) bytes) in
    ap (λ (b : Bytes). one ∷ set (summed_rows n later rest) n (record (row_at later n) { sum = fnv_of (take (4096 * (row_at later n).pages) b) })) here
    ∙ ap (λ (l : List IndexRow). one ∷ l) (summed_more n later rest (omega (arith, lt)))

-- ---- in memory

stand_put : (page : ℕ) (rows : List BlockRow) (n : ℕ) (d r : BlockRow) → n < length rows → StandFrom page rows → r.first ≡ (get_or rows n d).first → r.pages ≡ (get_or rows n d).pages
    → StandFrom page (set rows n r)
stand_put page [] n d r lt stand first pages = absurd (omega (arith, lt))
stand_put page (x ∷ rows) zero d r lt stand first pages = (first ∙ stand.0, subst (λ (k : ℕ). StandFrom (page + k) rows) (sym pages) stand.1)
stand_put page (x ∷ rows) (suc n) d r lt stand first pages = (stand.0, stand_put (page + x.pages) rows n d r (omega (arith, lt)) stand.1 first pages)

pages_put : (rows : List BlockRow) (n : ℕ) (d r : BlockRow) → n < length rows → r.pages ≡ (get_or rows n d).pages → row_pages (rows_seen (set rows n r)) ≡ row_pages (rows_seen rows)
pages_put [] n d r lt pages = absurd (omega (arith, lt))
pages_put (x ∷ rows) zero d r lt pages =
    omega (arith, pages, sum_by-cons (λ (y : IndexRow). y.pages) (row_seen r) (rows_seen rows), sum_by-cons (λ (y : IndexRow). y.pages) (row_seen x) (rows_seen rows))
pages_put (x ∷ rows) (suc n) d r lt pages =
    omega (arith, pages_put rows n d r (omega (arith, lt)) pages, sum_by-cons (λ (y : IndexRow). y.pages) (row_seen x) (rows_seen (set rows n r)), sum_by-cons (λ (y : IndexRow). y.pages) (row_seen x) (rows_seen rows))

same_item : (rows : List BlockRow) (n : ℕ) (d e : BlockRow) → n < length rows → get_or rows n d ≡ get_or rows n e
same_item [] n d e lt = absurd (omega (arith, lt))
same_item (x ∷ rows) zero d e lt = refl
same_item (x ∷ rows) (suc n) d e lt = same_item rows n d e (omega (arith, lt))

module _ (rows : List BlockRow) (n : ℕ) (there : n < length rows) (d : BlockRow) where
  module _ (sum : ℕ) where
    abbrev put : BlockRow
    put = record (get_or rows n d) { sum = sum }

    pub rows_put : (bytes : Bytes) → AreRowsOf rows bytes → AreRowsOf (set rows n (record (get_or rows n d) { sum = sum })) bytes
    rows_put bytes are = record {
      stand = stand_put 0 rows n d put there are.stand refl refl;
      whole = are.whole ∙ ap (λ (k : ℕ). 4096 * k) (sym (pages_put rows n d put there refl));
    }

    pub sums_put : (first : List IndexRow) (bytes : Bytes) → rows_seen rows ≡ summed_rows n first bytes → sum ≡ fnv_of (block_at n first bytes)
        → rows_seen (set rows n (record (get_or rows n d) { sum = sum })) ≡ summed_rows (n + 1) first bytes
    sums_put first bytes seen sum_is =
        let within : n < length first = omega (arith, there, length-map rows row_seen, ap length seen, summed_long n first bytes) in
        let here : row_seen (get_or rows n d) ≡ row_at first n =
        row_of rows n (get_or rows n d) there (same_item rows n d (get_or rows n d) there) ∙ ap (λ (rs : List IndexRow). row_at rs n) seen ∙ same_next n first bytes in
        let one : suc n ≡ n + 1 = omega arith in
        map-set row_seen rows n put
        ∙ ap₂ (λ (rs : List IndexRow) (x : IndexRow). set rs n (record x { sum = sum })) seen here
        ∙ ap (λ (k : ℕ). set (summed_rows n first bytes) n (record (row_at first n) { sum = k })) sum_is
        ∙ summed_more n first bytes within
        ∙ ap (λ (k : ℕ). summed_rows k first bytes) one

  module _ (is : d ≡ get_or rows n d) (bytes : Bytes) (are : AreRowsOf rows bytes) where
    pub bytes_are : (first : List IndexRow) (k : ℕ) → rows_seen rows ≡ summed_rows k first bytes → take (4096 * d.pages) (drop (4096 * d.first) bytes) ≡ block_at n first bytes
    bytes_are first k seen =
        let pages : d.pages ≡ (row_at first n).pages =
        ap (λ (r : IndexRow). r.pages) (row_of rows n d there is) ∙ ap (λ (rs : List IndexRow). (row_at rs n).pages) seen ∙ same_pages k n first bytes in
        let before : d.first ≡ row_pages (take n first) =
        omega (arith, ap (λ (r : BlockRow). r.first) is, stand_at 0 rows n d are.stand there, ap (λ (rs : List IndexRow). row_pages (take n rs)) seen, same_before k n first bytes) in
        ap₂ (λ (p f : ℕ). take (4096 * p) (drop (4096 * f) bytes)) pages before

    pub bytes_within : 4096 * d.first + 4096 * d.pages ≤ length bytes
    bytes_within =
        let pages : d.pages ≡ (row_at (rows_seen rows) n).pages = ap (λ (r : IndexRow). r.pages) (row_of rows n d there is) in
        let before : d.first ≡ row_pages (take n (rows_seen rows)) = omega (arith, ap (λ (r : BlockRow). r.first) is, stand_at 0 rows n d are.stand there) in
        omega (arith, pages, before, are.whole, pages_within (rows_seen rows) n (record { pages = 0; sum = 0; last = [] }) (omega (arith, there, length-map rows row_seen)))

-- all are written over
pub filled : (n : ℕ) (new old : List BlockRow) → length new ≡ length old → n ≡ length old → take n (new ++ drop (length new) old) ≡ new
filled n new old same all = take_at new (drop (length new) old) n (sym all_new)
  where
    all_new : n ≡ length new
    all_new = omega (arith, same, all)

-- ---- eight bytes more

pub turn_more : (bytes : Bytes) (turn : ℕ) → take (8 * turn) bytes ++ take (8 * turn + 8 - 8 * turn) (drop (8 * turn) bytes) ≡ take (8 * (turn + 1)) bytes
turn_more bytes turn =
    let n = 8 * turn in
    let eight : 8 * turn + 8 - 8 * turn ≡ 8 = omega arith in
    let far : 8 * turn + 8 ≡ 8 * (turn + 1) = omega arith in
    ap (λ (k : ℕ). take n bytes ++ take k (drop n bytes)) eight
    ∙ ap₂ (λ (a b : Bytes). a ++ b) (sym (take-take n (n + 8) bytes (omega arith))) (sym (drop-take n 8 bytes))
    ∙ take-append-drop n (take (n + 8) bytes)
    ∙ ap (λ (k : ℕ). take k bytes) far

-- ---- all blocks

pub all_summed : (n : ℕ) (blocks : List (List Entry)) → n ≡ length blocks → summed_rows n (map unsummed_row_of blocks) (flat_map block_bytes blocks) ≡ map index_row_of blocks
unfolding index_row_of
all_summed zero [] is = refl
all_summed zero (b ∷ more) is = absurd (omega (arith, is))
all_summed (suc n) [] is = refl
all_summed (suc n) (b ∷ more) is =
    let rest = flat_map block_bytes more in
    let long : length (block_bytes b) ≡ 4096 * block_pages b = block_fills_pages b in
    ap₂ (λ (x y : Bytes). record (unsummed_row_of b) { sum = fnv_of x } ∷ summed_rows n (map unsummed_row_of more) y)
    (take_at (block_bytes b) rest (4096 * block_pages b) long) (drop_at (block_bytes b) rest (4096 * block_pages b) long)
    ∙ ap (λ (rs : List IndexRow). index_row_of b ∷ rs) (all_summed n more (omega (arith, is)))
