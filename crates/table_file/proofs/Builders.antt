-- How the blocks of a builder grow.
use Rattle.std.proofs.Common.{◌≡◌, ◌≤◌, ◌<◌, ◌+◌, ◌*◌, ◌-◌, ◌^◌, ℕ, Bool, true, false, cond, List, [], ◌∷◌, ◌++◌, length, take, drop, refl, sym, ap, ap₂, ◌∙◌, subst, arith, append_assoc, length-append}
use Rattle.std.specs.Prelude.{◌||◌, map, flat_map, sum_by}
use Rattle.std.specs.List.{AllByRecursion}
use Rattle.std.proofs.lemmas.Grind.{flat_map-append}
use Rattle.std.proofs.lemmas.List.{append-nil, drop_at, map-append, take_at}
use Rattle.std.proofs.lemmas.List.Sums.{sum_by-append, sum_by-cons}
use Rattle.map_model.specs.SortedMap.{Bytes}
use Rattle.entry_model.specs.Entries.{Entry, IsEntry, keys_of}
use Rattle.range_model.specs.Ranges.{DeletedRange}
use Rattle.block_model.specs.Block.{AreEntries, IsBlock, IsTable, block_bytes}
use Rattle.block_model.specs.BlockReading.{block_in}
use Rattle.block_model.specs.Formats.{Prefixed}
use Rattle.block_model.specs.Index.{AreIndexRanges, IndexRow, index_row_of, row_pages}
use Rattle.block_model.specs.Laws.{joined}
use Rattle.key_base.specs.ByteOrder.{is_before}
use Rattle.block_model.specs.Order.{Follow, is_any}
use Rattle.block_model.specs.Pages.{block_pages, blocks_of, blocks_with, data_pages, has_room, last_key}
use Rattle.block_model.proofs.Bounds.{pages_bound}
use Rattle.block_model.proofs.BlocksRead.{block_again}
use Rattle.block_model.proofs.Cutting.{all_append, blocks_are_sound, blocks_step}
use Rattle.block_model.proofs.OldEntriesRead.{eqb_zero}
use Rattle.block_model.proofs.Cutting.{block_fills_pages, blocks_fill}
use Rattle.block_format.specs.Building.{takes}
use Rattle.table_file.specs.BlockRows.{StandFrom, rows_seen, unsummed_row_of}
use Rattle.table_file.specs.Building.{Holds, closed_in, entries_with, with_open}
use Rattle.table_file.specs.declared.block_row.BlockRow.{BlockRow}

pub no_ranges : (ranges : List DeletedRange) → ranges ≡ [] → AreIndexRanges ranges
no_ranges [] none = record { sound = record { are = tt; rise = tt; bounds = tt }; few = omega arith }
no_ranges (range ∷ later) none = cc

-- ---- blocks are read again

row_pages_are : (block : List Entry) → (index_row_of block).pages ≡ block_pages block
unfolding index_row_of
row_pages_are block = refl

rows_again : (row_of : List Entry → IndexRow) → ((b : List Entry) → (row_of b).pages ≡ block_pages b) → (blocks : List (List Entry)) → AllByRecursion (IsBlock Prefixed) blocks
    → closed_in (map row_of blocks) (flat_map block_bytes blocks) ≡ blocks
rows_again row_of pages [] all = refl
rows_again row_of pages (b ∷ more) all =
    let n = 4096 * (row_of b).pages in
    let rest = flat_map block_bytes more in
    let long : length (block_bytes b) ≡ n = block_fills_pages b ∙ ap (λ (k : ℕ). 4096 * k) (sym (pages b)) in
    let front : take n (block_bytes b ++ rest) ≡ block_bytes b = take_at (block_bytes b) rest n long in
    let back : drop n (block_bytes b ++ rest) ≡ rest = drop_at (block_bytes b) rest n long in
    ap₂ (λ (x y : Bytes). block_in x ∷ closed_in (map row_of more) y) front back
    ∙ ap₂ (λ (x : List Entry) (xs : List (List Entry)). x ∷ xs) (block_again b all.0).1 (rows_again row_of pages more all.1)

-- before they are summed, and then
closed_again : (blocks : List (List Entry)) → AllByRecursion (IsBlock Prefixed) blocks → closed_in (map unsummed_row_of blocks) (flat_map block_bytes blocks) ≡ blocks
closed_again = rows_again unsummed_row_of (λ b. refl)

summed_again : (blocks : List (List Entry)) → AllByRecursion (IsBlock Prefixed) blocks → closed_in (map index_row_of blocks) (flat_map block_bytes blocks) ≡ blocks
summed_again = rows_again index_row_of row_pages_are

pub rows_pages : (blocks : List (List Entry)) → row_pages (map unsummed_row_of blocks) ≡ sum_by block_pages blocks
rows_pages [] = refl
rows_pages (b ∷ more) =
    omega (arith, sum_by-cons (λ (r : IndexRow). r.pages) (unsummed_row_of b) (map unsummed_row_of more), sum_by-cons block_pages b more, rows_pages more)

-- ---- an entry more

first_of_none : (entry : Entry) → takes [] entry ≡ true
first_of_none entry = refl

room_of : (b : Entry) (more : List Entry) (e : Entry) (t : Bool) → takes (b ∷ more) e ≡ t → has_room (b ∷ more) e ≡ t
room_of b more e t is = sym (ap (λ (z : Bool). z || has_room (b ∷ more) e) (eqb_zero (length (b ∷ more)) (omega arith))) ∙ is

grown_last : (closed : List (List Entry)) (b : List Entry) (e : Entry) → has_room b e ≡ true → blocks_with (closed ++ b ∷ []) e ≡ closed ++ (b ++ e ∷ []) ∷ []
grown_last [] b e room = ap (λ (t : Bool). cond t ((b ++ e ∷ []) ∷ []) (b ∷ (e ∷ []) ∷ [])) room
grown_last (c ∷ []) b e room = ap (λ (l : List (List Entry)). c ∷ l) (grown_last [] b e room)
grown_last (c ∷ d ∷ more) b e room = ap (λ (l : List (List Entry)). c ∷ l) (grown_last (d ∷ more) b e room)

begun_behind : (closed : List (List Entry)) (b : List Entry) (e : Entry) → has_room b e ≡ false → blocks_with (closed ++ b ∷ []) e ≡ (closed ++ b ∷ []) ++ (e ∷ []) ∷ []
begun_behind [] b e room = ap (λ (t : Bool). cond t ((b ++ e ∷ []) ∷ []) (b ∷ (e ∷ []) ∷ [])) room
begun_behind (c ∷ []) b e room = ap (λ (l : List (List Entry)). c ∷ l) (begun_behind [] b e room)
begun_behind (c ∷ d ∷ more) b e room = ap (λ (l : List (List Entry)). c ∷ l) (begun_behind (d ∷ more) b e room)

in_place : (closed : List (List Entry)) (last : List Entry) (e : Entry) → takes last e ≡ true → (last ≡ [] → closed ≡ []) → blocks_with (with_open closed last) e ≡ with_open closed (last ++ e ∷ [])
in_place closed [] e room begun =
    ap (λ (c : List (List Entry)). blocks_with c e) (begun refl) ∙ ap (λ (c : List (List Entry)). c ++ (e ∷ []) ∷ []) (sym (begun refl))
in_place closed (b ∷ more) e room begun = grown_last closed (b ∷ more) e (room_of b more e true room)

behind : (closed : List (List Entry)) (last : List Entry) (e : Entry) → takes last e ≡ false → blocks_with (with_open closed last) e ≡ with_open (closed ++ last ∷ []) (e ∷ [])
behind closed [] e room = absurd cc
behind closed (b ∷ more) e room = begun_behind closed (b ∷ more) e (room_of b more e false room)

pub some_open : (last : List Entry) (e : Entry) → takes last e ≡ false → 0 < length last
some_open [] e room = absurd cc
some_open (b ∷ more) e room = omega arith

joined_more : (closed : List (List Entry)) (b : List Entry) → joined (closed ++ b ∷ []) ≡ joined closed ++ b
joined_more closed b = flat_map-append (λ (x : List Entry). x) closed (b ∷ []) ∙ ap (λ (l : List Entry). joined closed ++ l) (append-nil b)

keys_more : (entries : List Entry) (e : Entry) → keys_of (entries ++ e ∷ []) ≡ keys_of entries ++ e.key ∷ []
keys_more entries e = map-append (λ (x : Entry). x.key) entries (e ∷ [])

never_empty : (last : List Entry) (e : Entry) → last ++ e ∷ [] ≡ [] → ⊥
never_empty [] e is = cc
never_empty (b ∷ more) e is = cc

last_of_all : {X : Type 0} (P : X → Type 0) (xs : List X) (y : X) → AllByRecursion P (xs ++ y ∷ []) → P y
last_of_all P [] y all = all.0
last_of_all P (x ∷ xs) y all = last_of_all P xs y all.1

-- the open block, where it has an entry
open_sound : (closed : List (List Entry)) (last : List Entry) → 0 < length last → AllByRecursion (IsBlock Prefixed) (with_open closed last) → IsBlock Prefixed last
open_sound closed [] some all = absurd (omega (arith, some))
open_sound closed (b ∷ more) some all = last_of_all (IsBlock Prefixed) closed (b ∷ more) all

-- the closed blocks as they are read of bytes and rows
abbrev pub IsBuilt : List Entry → Bytes → List IndexRow → List Entry → List Bytes → Type 0
IsBuilt entries bytes rows last keys = Holds (closed_in rows bytes) bytes rows last keys × (entries_with (closed_in rows bytes) last ≡ entries)

pub as_read : (closed : List (List Entry)) (bytes : Bytes) (rows : List IndexRow) (last : List Entry) (keys : List Bytes) (entries : List Entry)
    → Holds closed bytes rows last keys → entries_with closed last ≡ entries → IsBuilt entries bytes rows last keys
as_read closed bytes rows last keys entries holds are =
    let again : closed_in rows bytes ≡ closed = ap₂ closed_in (sym holds.rows_are) (sym holds.bytes_are) ∙ closed_again closed holds.each in (
      subst (λ (c : List (List Entry)). Holds c bytes rows last keys) (sym again) holds,
      ap (λ (c : List (List Entry)). entries_with c last) again ∙ are,
    )

pub opened : (closed : List (List Entry)) (last : List Entry) → 0 < length last → with_open closed last ≡ closed ++ last ∷ []
opened closed [] some = absurd (omega (arith, some))
opened closed (b ∷ more) some = refl

module _ (closed : List (List Entry)) (bytes : Bytes) (rows : List IndexRow) (last : List Entry) (keys : List Bytes) (holds : Holds closed bytes rows last keys) where
  abbrev all : List Entry
  all = entries_with closed last

  pub bytes_long : length bytes ≡ 4096 * row_pages rows
  bytes_long = omega (arith, ap length holds.bytes_are, blocks_fill closed, rows_pages closed, ap row_pages holds.rows_are)

  pub read_again : closed_in rows bytes ≡ closed
  read_again = ap₂ closed_in (sym holds.rows_are) (sym holds.bytes_are) ∙ closed_again closed holds.each

  pub is_table : 0 < length all → IsTable all
  is_table some = record { sound = holds.sound; some = some; rising = holds.rising }

  pub open_is : 0 < length last → IsBlock Prefixed last
  open_is some =
      open_sound closed last some (subst (AllByRecursion (IsBlock Prefixed)) holds.cut (blocks_are_sound all (is_table (omega (arith, length-append (joined closed) last, some)))))

  module _ (e : Entry) (few : AreEntries (all ++ e ∷ [])) (rises : Follow is_any (keys_of (all ++ e ∷ []))) where
    more_keys : keys_of (all ++ e ∷ []) ≡ keys ++ e.key ∷ []
    more_keys = keys_more all e ∙ ap (λ (ks : List Bytes). ks ++ e.key ∷ []) holds.keys_are

    pub in_open : entries_with closed (last ++ e ∷ []) ≡ all ++ e ∷ []
    in_open = sym (append_assoc (joined closed) last (e ∷ []))

    pub holds_in_place : takes last e ≡ true → Holds closed bytes rows (last ++ e ∷ []) (keys ++ e.key ∷ [])
    holds_in_place room = record {
      bytes_are = holds.bytes_are;
      rows_are = holds.rows_are;
      keys_are = ap keys_of in_open ∙ more_keys;
      cut = ap blocks_of in_open ∙ blocks_step all e ∙ ap (λ (bs : List (List Entry)). blocks_with bs e) holds.cut ∙ in_place closed last e room holds.begun;
      each = holds.each;
      sound = subst AreEntries (sym in_open) few;
      rising = subst (λ (es : List Entry). Follow is_any (keys_of es)) (sym in_open) rises;
      begun = λ is. absurd (never_empty last e is);
    }

    pub in_next : entries_with (closed ++ last ∷ []) (e ∷ []) ≡ all ++ e ∷ []
    in_next = ap (λ (es : List Entry). es ++ e ∷ []) (joined_more closed last)

    pub holds_behind : takes last e ≡ false → Holds (closed ++ last ∷ []) (bytes ++ block_bytes last) (rows ++ unsummed_row_of last ∷ []) (e ∷ []) (keys ++ e.key ∷ [])
    holds_behind room = record {
      bytes_are = flat_map-append block_bytes closed (last ∷ []) ∙ ap₂ (λ (x y : Bytes). x ++ y) holds.bytes_are (append-nil (block_bytes last));
      rows_are = map-append unsummed_row_of closed (last ∷ []) ∙ ap (λ (rs : List IndexRow). rs ++ unsummed_row_of last ∷ []) holds.rows_are;
      keys_are = ap keys_of in_next ∙ more_keys;
      cut = ap blocks_of in_next ∙ blocks_step all e ∙ ap (λ (bs : List (List Entry)). blocks_with bs e) holds.cut ∙ behind closed last e room;
      each = all_append (IsBlock Prefixed) closed (last ∷ []) holds.each (open_is (some_open last e room), tt);
      sound = subst AreEntries (sym in_next) few;
      rising = subst (λ (es : List Entry). Follow is_any (keys_of es)) (sym in_next) rises;
      begun = λ is. absurd (never is);
    }
      where
        never : e ∷ [] ≡ [] → ⊥
        never is = cc

    -- with the closed blocks as they are read
    pub built_in_place : takes last e ≡ true → (o : List Entry) (k : List Bytes) → o ≡ last ++ e ∷ [] → k ≡ keys ++ e.key ∷ [] → IsBuilt (all ++ e ∷ []) bytes rows o k
    built_in_place room o k o_is k_is =
        subst (λ (x : List Entry). IsBuilt (all ++ e ∷ []) bytes rows x k) (sym o_is)
        (subst (λ (x : List Bytes). IsBuilt (all ++ e ∷ []) bytes rows (last ++ e ∷ []) x) (sym k_is)
        (as_read closed bytes rows (last ++ e ∷ []) (keys ++ e.key ∷ []) (all ++ e ∷ []) (holds_in_place room) in_open))

    pub built_behind : takes last e ≡ false → (d : Bytes) (r : List IndexRow) (o : List Entry) (k : List Bytes)
        → d ≡ bytes ++ block_bytes last → r ≡ rows ++ unsummed_row_of last ∷ [] → o ≡ e ∷ [] → k ≡ keys ++ e.key ∷ [] → IsBuilt (all ++ e ∷ []) d r o k
    built_behind room d r o k d_is r_is o_is k_is =
        subst (λ (x : Bytes). IsBuilt (all ++ e ∷ []) x r o k) (sym d_is)
        (subst (λ (x : List IndexRow). IsBuilt (all ++ e ∷ []) (bytes ++ block_bytes last) x o k) (sym r_is)
        (subst (λ (x : List Entry). IsBuilt (all ++ e ∷ []) (bytes ++ block_bytes last) (rows ++ unsummed_row_of last ∷ []) x k) (sym o_is)
        (subst (λ (x : List Bytes). IsBuilt (all ++ e ∷ []) (bytes ++ block_bytes last) (rows ++ unsummed_row_of last ∷ []) (e ∷ []) x) (sym k_is)
        (as_read (closed ++ last ∷ []) (bytes ++ block_bytes last) (rows ++ unsummed_row_of last ∷ []) (e ∷ []) (keys ++ e.key ∷ []) (all ++ e ∷ []) (holds_behind room) in_next))))

  -- the blocks when the open one is closed too
  pub holds_closed : 0 < length last → (flat_map block_bytes (closed ++ last ∷ []) ≡ bytes ++ block_bytes last) × (map unsummed_row_of (closed ++ last ∷ []) ≡ rows ++ unsummed_row_of last ∷ [])
      × (closed_in (map index_row_of (closed ++ last ∷ [])) (flat_map block_bytes (closed ++ last ∷ [])) ≡ closed ++ last ∷ [])
  holds_closed some = (
    flat_map-append block_bytes closed (last ∷ []) ∙ ap₂ (λ (x y : Bytes). x ++ y) holds.bytes_are (append-nil (block_bytes last)),
    map-append unsummed_row_of closed (last ∷ []) ∙ ap (λ (rs : List IndexRow). rs ++ unsummed_row_of last ∷ []) holds.rows_are,
    summed_again (closed ++ last ∷ []) (all_append (IsBlock Prefixed) closed (last ∷ []) holds.each (open_is some, tt)),
  )

  pub closed_long : 0 < length last → length (bytes ++ block_bytes last) ≡ 4096 * row_pages (rows ++ unsummed_row_of last ∷ [])
  closed_long some =
      let closing = holds_closed some in
      omega (arith, ap length closing.0, ap row_pages closing.1, blocks_fill (closed ++ last ∷ []), rows_pages (closed ++ last ∷ []))

  -- ---- the pages so far

  unopened : (last : List Entry) → length last ≡ 0 → with_open closed last ≡ closed
  unopened [] none = refl
  unopened (b ∷ more) none = absurd (omega (arith, none))

  pub pages_closed : length last ≡ 0 → data_pages all ≡ row_pages rows
  unfolding data_pages
  pages_closed none =
      ap (sum_by block_pages) (holds.cut ∙ unopened last none) ∙ sym (rows_pages closed) ∙ ap row_pages holds.rows_are

  pub pages_open : 0 < length last → data_pages all ≡ row_pages rows + block_pages last
  unfolding data_pages
  pages_open some =
      let sum = sum_by-append block_pages closed (last ∷ []) in
      let one = sum_by-cons block_pages last [] in
      let cut : sum_by block_pages (blocks_of all) ≡ sum_by block_pages (closed ++ last ∷ []) = ap (sum_by block_pages) (holds.cut ∙ opened closed last some) in
      omega (arith, cut, sum, one, rows_pages closed, ap row_pages holds.rows_are)

pub are_more : (entries : List Entry) (e : Entry) → AreEntries entries → IsEntry e → length entries < 2 ^ 32 - 1 → AreEntries (entries ++ e ∷ [])
are_more entries e are is few = record { each = all_append IsEntry entries (e ∷ []) are.each (is, tt); few = omega (arith, length-append entries (e ∷ []), few) }

pub few_pages : (block : List Entry) → IsBlock Prefixed block → block_pages block ≤ 257
few_pages block is = pages_bound block (record { each = is.each; some = is.some; few = is.few; small = is.small })

-- ---- none yet

none_built : Holds [] [] [] [] []
unfolding blocks_of
none_built = record { bytes_are = refl; rows_are = refl; keys_are = refl; cut = refl; each = tt; sound = record { each = tt; few = omega arith }; rising = tt; begun = λ is. refl }

pub holds_none : (rows : List BlockRow) (bytes : Bytes) (last : List Entry) (keys : List Bytes) → rows ≡ [] → bytes ≡ [] → last ≡ [] → keys ≡ []
    → Holds (closed_in (rows_seen rows) bytes) bytes (rows_seen rows) last keys
holds_none rows bytes last keys r b l k =
    subst (λ (x : List BlockRow). Holds (closed_in (rows_seen x) bytes) bytes (rows_seen x) last keys) (sym r)
    (subst (λ (x : Bytes). Holds [] x [] last keys) (sym b)
    (subst (λ (x : List Entry). Holds [] [] [] x keys) (sym l)
    (subst (λ (x : List Bytes). Holds [] [] [] [] x) (sym k) none_built)))

pub stand_none : (rows : List BlockRow) → rows ≡ [] → StandFrom 0 rows
stand_none rows none = subst (StandFrom 0) (sym none) tt

-- a key above the last one follows
pub follow_push : (test : Bytes → Bool) (es : List Entry) (e : Entry) → 1 ≤ length es → Follow test (keys_of es) → is_before (last_key es) e.key ≡ true → Follow test (keys_of (es ++ e ∷ []))
follow_push test [] e some f above = absurd (omega (arith, some))
follow_push test (x ∷ []) e some f above = (f.0, (above, tt))
follow_push test (x ∷ y ∷ more) e some f above = (f.0, follow_push (is_before x.key) (y ∷ more) e (omega arith) f.1 above)

-- and back
pub follow_last : (test : Bytes → Bool) (es : List Entry) (e : Entry) → 1 ≤ length es → Follow test (keys_of (es ++ e ∷ [])) → is_before (last_key es) e.key ≡ true
follow_last test [] e some f = absurd (omega (arith, some))
follow_last test (x ∷ []) e some f = f.1.0
follow_last test (x ∷ y ∷ more) e some f = follow_last (is_before x.key) (y ∷ more) e (omega arith) f.1

pub follow_alone : (es : List Entry) (e : Entry) → length es ≡ 0 → Follow is_any (keys_of (es ++ e ∷ []))
follow_alone [] e none = (refl, tt)
follow_alone (x ∷ es) e none = absurd (omega (arith, none))
