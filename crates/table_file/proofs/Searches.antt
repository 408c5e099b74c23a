-- Rows in the order of their last keys: where a key's block is.
use Rattle.std.proofs.Common.{◌≡◌, ◌≤◌, ◌<◌, ◌+◌, ℕ, zero, suc, Bool, true, false, cond, List, [], ◌∷◌, length, take, get_or, refl, sym, ap, ◌∙◌, subst, arith, inl, inr}
use Rattle.std.specs.Prelude.{map, not, Option, Some, None, position}
use Rattle.std.specs.List.{position_or_len}
use Rattle.std.specs.List.Sorted.{IsPartitionedBy, IsPartitionPoint}
use Rattle.std.specs.Ordering.{is_lt}
use Rattle.std.proofs.lemmas.List.{length-map}
use Rattle.std.proofs.lemmas.List.{get_or-map as get_or-map_within}
use Rattle.std.proofs.lemmas.List.Quantifiers.{position-Some}
use Rattle.std.proofs.lemmas.List.Sums.{sum_by-cons}
use Rattle.std.proofs.Math.ListN.{get_or-map}
use Rattle.map_model.specs.SortedMap.{Bytes, byte_order}
use Rattle.block_model.specs.Index.{IndexRow, row_pages}
use Rattle.key_base.specs.ByteOrder.{is_before}
use Rattle.block_model.specs.Order.{Follow, is_from}
use Rattle.block_model.proofs.Sizes.{all_at}
use Rattle.table_file.specs.BlockRows.{StandFrom, lasts, row_seen, rows_seen}
use Rattle.byte_fields.specs.declared.parts.Part.TheVariants as part
use Rattle.byte_fields.specs.Sums.{fnv_of}
use Rattle.disk_trait.specs.Image.{Image}
use Rattle.disk_trait.specs.World.{World}
use Rattle.filter_model.specs.Answers.{point}
use Rattle.block_model.specs.Places.{byte_of_page}
use Rattle.table_file.specs.Faults.{HasReadCause, IsNotMemory, IsOtherSum}
use Rattle.table_file.specs.Opened.{Opened}
use Rattle.table_file.specs.Search.{IsBrokenBlock, IsDamagedBlock, IsGetFault, IsOtherBlock, block_for, block_of_key, bytes_at, first_block, page_at, row_at}
use Rattle.table_file.specs.declared.fault.TableFault.{TableFault}
use Rattle.table_file.specs.declared.fault.TableFault.TheVariants as table
use Rattle.table_file.specs.declared.block_row.BlockRow.{BlockRow}
use Rattle.table_file.proofs.Keys.{above_above, all_above}

abbrev pub is_under : Bytes → BlockRow → Bool
is_under key row = is_lt (byte_order row.last.items key)

pub parted : (key : Bytes) (test : Bytes → Bool) (rows : List BlockRow) → Follow test (lasts rows) → IsPartitionedBy (is_under key) rows
parted key test [] f i j d le lt e = absurd (omega (arith, lt))
parted key test (r ∷ rows) f zero zero d le lt e = e
parted key test (r ∷ rows) f zero (suc j) d le lt e =
    let at : get_or (lasts rows) j d.last.items ≡ (get_or rows j d).last.items = get_or-map (λ (row : BlockRow). row.last.items) rows j d in
    let many : length (lasts rows) ≡ length rows = length-map rows (λ (row : BlockRow). row.last.items) in
    let above : is_before r.last.items (get_or (lasts rows) j d.last.items) ≡ true =
    all_at (λ k. is_before r.last.items k ≡ true) (lasts rows) j d.last.items (all_above r.last.items (lasts rows) f.1) (omega (arith, many, lt)) in
    above_above r.last.items (get_or rows j d).last.items key (ap (λ (k : Bytes). is_before r.last.items k) (sym at) ∙ above) e
parted key test (r ∷ rows) f (suc i) zero d le lt e = absurd (omega (arith, le))
parted key test (r ∷ rows) f (suc i) (suc j) d le lt e = parted key (is_before r.last.items) rows f.1 i j d (omega (arith, le)) (omega (arith, lt)) e

-- where the rows under the key end, the first one that is not under it begins
pub point_is : (key : Bytes) (rows : List BlockRow) (n : ℕ) → n ≤ length rows → IsPartitionPoint (λ row. is_under key row ≡ true) (λ row. is_under key row ≡ false) rows n
    → n ≡ position_or_len (λ (row : IndexRow). is_from key row.last) (rows_seen rows)
point_is key [] n le point = omega (arith, le)
point_is key (r ∷ rows) zero le point =
    let here : is_under key r ≡ false = point.1 0 r (omega arith) (omega arith) in
    sym (ap (λ (t : Bool). cond (not (not t)) (1 + position_or_len (λ (row : IndexRow). is_from key row.last) (rows_seen rows)) 0) here)
point_is key (r ∷ rows) (suc n) le point =
    let here : is_under key r ≡ true = point.0 0 r (omega arith) (omega arith) in
    let later = point_is key rows n (omega (arith, le)) ((λ k d a b. point.0 (suc k) d (omega arith) (omega (arith, b))), (λ k d a b. point.1 (suc k) d (omega (arith, a)) (omega (arith, b)))) in
    let one : suc n ≡ 1 + n = omega arith in
    one ∙ ap (λ (m : ℕ). 1 + m) later
    ∙ sym (ap (λ (t : Bool). cond (not (not t)) (1 + position_or_len (λ (row : IndexRow). is_from key row.last) (rows_seen rows)) 0) here)

pub lasts_seen : (rows : List BlockRow) → map (λ (row : IndexRow). row.last) (rows_seen rows) ≡ lasts rows
lasts_seen [] = refl
lasts_seen (r ∷ rows) = ap (λ (l : List Bytes). r.last.items ∷ l) (lasts_seen rows)

-- ---- one of the rows

pub stand_at : (page : ℕ) (rows : List BlockRow) (n : ℕ) (d : BlockRow) → StandFrom page rows → n < length rows → (get_or rows n d).first ≡ page + row_pages (take n (rows_seen rows))
stand_at page [] n d stand lt = absurd (omega (arith, lt))
stand_at page (r ∷ rows) zero d stand lt = omega (arith, stand.0)
stand_at page (r ∷ rows) (suc n) d stand lt =
    omega (arith, stand_at (page + r.pages) rows n d stand.1 (omega (arith, lt)), sum_by-cons (λ (x : IndexRow). x.pages) (row_seen r) (take n (rows_seen rows)))

pub pages_within : (rows : List IndexRow) (n : ℕ) (d : IndexRow) → n < length rows → row_pages (take n rows) + (get_or rows n d).pages ≤ row_pages rows
pages_within [] n d lt = absurd (omega (arith, lt))
pages_within (r ∷ rows) zero d lt = omega (arith, sum_by-cons (λ (x : IndexRow). x.pages) r rows)
pages_within (r ∷ rows) (suc n) d lt =
    omega (arith, pages_within rows n d (omega (arith, lt)), sum_by-cons (λ (x : IndexRow). x.pages) r rows, sum_by-cons (λ (x : IndexRow). x.pages) r (take n rows))

pub row_of : (rows : List BlockRow) (n : ℕ) (r : BlockRow) → n < length rows → r ≡ get_or rows n r → row_seen r ≡ row_at (rows_seen rows) n
row_of rows n r lt is = ap row_seen is ∙ sym (get_or-map_within row_seen rows n r (record { pages = 0; sum = 0; last = [] }) lt)

-- ---- the block that is read for a key is there

position_there : (p : IndexRow → Bool) (rows : List IndexRow) (n : ℕ) → position p rows ≡ Some n → n < length rows
position_there p rows n is = (position-Some p rows n (record { pages = 0; sum = 0; last = [] }) is).0

none_if : (t : Bool) (o : Option ℕ) (n : ℕ) → cond t o None ≡ Some n → o ≡ Some n
none_if true o n is = is
none_if false o n is = absurd cc

pub block_there : (t : Opened) (key : Bytes) (n : ℕ) → block_for t key ≡ Some n → n < length t.index.rows
block_there t key n is =
    position_there (λ row. is_from key row.last) t.index.rows n
    (none_if (is_from t.index.least key) (first_block t.index.rows key) n
    (none_if (point t.filter.hash_bits t.filter.real_bits t.filter.leaves key) (block_of_key t.index key) n is))

pub other_block : (t : Opened) (n : ℕ) (image : Image) (at sum : ℕ) (bytes : Bytes) (f : TableFault) → at ≡ byte_of_page (page_at t n) → sum ≡ (row_at t.index.rows n).sum → bytes ≡ bytes_at t n image
    → IsOtherSum part.Block at sum bytes f → IsOtherBlock t n image f
other_block t n image at sum bytes table.Memory a s b is = let no = is.fault_is in cc
other_block t n image at sum bytes (table.Device cause) a s b is = tt
other_block t n image at sum bytes (table.Damaged d) a s b is =
    subst (λ (x : ℕ). IsOtherSum part.Block x (row_at t.index.rows n).sum (bytes_at t n image) (table.Damaged d)) a
    (subst (λ (x : ℕ). IsOtherSum part.Block at x (bytes_at t n image) (table.Damaged d)) s
    (subst (λ (x : Bytes). IsOtherSum part.Block at sum x (table.Damaged d)) b is))

-- ---- faults of a get

same_some : (n m : ℕ) → Some n ≡ Some m → n ≡ m
same_some n m is = cc

pub same_block : (t : Opened) (key : Bytes) (n m : ℕ) → block_for t key ≡ Some n → block_for t key ≡ Some m → n ≡ m
same_block t key n m a b = same_some n m (sym a ∙ b)

pub get_other : (t : Opened) (n : ℕ) (image : Image) (f : TableFault) → IsOtherBlock t n image f → IsGetFault t n image f
get_other t n image table.Memory is = absurd is
get_other t n image (table.Device cause) is = tt
get_other t n image (table.Damaged d) is = inl is

pub get_broken : (t : Opened) (n : ℕ) (image : Image) (bytes : Bytes) (f : TableFault) → bytes ≡ bytes_at t n image → (row_at t.index.rows n).sum ≡ fnv_of (bytes_at t n image)
    → IsBrokenBlock t n bytes f → IsGetFault t n image f
get_broken t n image bytes table.Memory are sum is = absurd is
get_broken t n image bytes (table.Device cause) are sum is = absurd is
get_broken t n image bytes (table.Damaged d) are sum is = inr (sum, subst (λ (b : Bytes). IsBrokenBlock t n b (table.Damaged d)) are is)

pub broken_cause : (t : Opened) (n at : ℕ) (bytes : Bytes) (old new : World) (f : TableFault) → IsBrokenBlock t n bytes f → HasReadCause at old new f
broken_cause t n at bytes old new table.Memory is = absurd is
broken_cause t n at bytes old new (table.Device cause) is = absurd is
broken_cause t n at bytes old new (table.Damaged d) is = tt

-- ---- faults of the bytes of a block

pub sum_damaged : (t : Opened) (n : ℕ) (bytes : Bytes) (f : TableFault) → IsOtherSum part.Block (byte_of_page (page_at t n)) (row_at t.index.rows n).sum bytes f → IsDamagedBlock t n bytes f
sum_damaged t n bytes table.Memory is = let no = is.fault_is in cc
sum_damaged t n bytes (table.Device cause) is = let no = is.fault_is in cc
sum_damaged t n bytes (table.Damaged d) is = inl is

pub rule_damaged : (t : Opened) (n : ℕ) (bytes : Bytes) (f : TableFault) → (row_at t.index.rows n).sum ≡ fnv_of bytes → IsBrokenBlock t n bytes f → IsDamagedBlock t n bytes f
rule_damaged t n bytes table.Memory sum is = absurd is
rule_damaged t n bytes (table.Device cause) sum is = absurd is
rule_damaged t n bytes (table.Damaged d) sum is = inr (sum, is)

pub get_damaged : (t : Opened) (n : ℕ) (image : Image) (bytes : Bytes) (f : TableFault) → bytes ≡ bytes_at t n image → IsDamagedBlock t n bytes f → IsGetFault t n image f
get_damaged t n image bytes table.Memory are is = absurd is
get_damaged t n image bytes (table.Device cause) are is = absurd is
get_damaged t n image bytes (table.Damaged d) are is = subst (λ (b : Bytes). IsDamagedBlock t n b (table.Damaged d)) are is

pub damaged_cause : (t : Opened) (n at : ℕ) (bytes : Bytes) (old new : World) (f : TableFault) → IsDamagedBlock t n bytes f → HasReadCause at old new f
damaged_cause t n at bytes old new table.Memory is = absurd is
damaged_cause t n at bytes old new (table.Device cause) is = absurd is
damaged_cause t n at bytes old new (table.Damaged d) is = tt

pub damaged_never_memory : (t : Opened) (n : ℕ) (bytes : Bytes) (f : TableFault) → IsDamagedBlock t n bytes f → IsNotMemory f
damaged_never_memory t n bytes table.Memory is = absurd is
damaged_never_memory t n bytes (table.Device cause) is = absurd is
damaged_never_memory t n bytes (table.Damaged d) (inl is) = (bytes, byte_of_page (page_at t n), (row_at t.index.rows n).sum, inl is)
damaged_never_memory t n bytes (table.Damaged d) (inr is) = (bytes, byte_of_page (page_at t n), (row_at t.index.rows n).sum, inr is.1)
