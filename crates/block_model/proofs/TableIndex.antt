-- The index of a table is an index.
use Rattle.std.proofs.Common.{◌≡◌, ◌<◌, ◌≤◌, ◌+◌, ◌*◌, ◌^◌, ℕ, Bool, true, List, [], ◌∷◌, ◌++◌, length, refl, sym, ap, subst, ◌∙◌, arith}
use Rattle.std.specs.Prelude.{map, sum_by, not, bit_xor}
use Rattle.std.specs.List.{AllByRecursion}
use Rattle.std.specs.declared.cmp.Ordering.{Ordering}
use Rattle.std.specs.declared.cmp.Ordering.TheVariants.{Less, Equal, Greater}
use Rattle.std.specs.Cmp.Lexicographic.{nat_list_cmp_total}
use Rattle.std.specs.Ordering.{is_lt, ordering_reverse}
use Rattle.std.proofs.lemmas.Cmp.{tied_itself}
use Rattle.std.proofs.lemmas.List.{length-map}
use Rattle.std.proofs.lemmas.List.Sums.{sum_by-cons}
use Rattle.byte_fields.specs.Sums.{fnv_after, fnv_of, fnv_step}
use Rattle.map_model.specs.SortedMap.{Bytes, byte_order}
use Rattle.entry_model.specs.Entries.{Entry, IsEntry, keys_of}
use Rattle.block_model.specs.Block.{block_bytes}
use Rattle.block_model.specs.Index.{IndexRow, IsIndexRow, index_with, index_row_of, row_pages}
use Rattle.block_model.specs.Laws.{IndexIsSound, joined}
use Rattle.block_model.specs.Order.{Follow, is_any, is_from}
use Rattle.block_model.specs.Pages.{block_length, block_pages, blocks_of, data_pages, first_key, last_key, pages_for}
use Rattle.key_base.specs.ByteOrder.{is_before}
use Rattle.block_model.proofs.Bounds.{few_blocks, pages_bound}
use Rattle.block_model.proofs.Cutting.{IsPart, blocks_are_parts, blocks_joined}

-- ---- sums fit eight bytes

step_below : (sum byte : ℕ) → fnv_step sum byte < 2 ^ 64
step_below sum byte = let n = bit_xor sum byte * 0x100000001b3 in omega arith

after_below : (bytes : Bytes) (sum : ℕ) → sum < 2 ^ 64 → fnv_after sum bytes < 2 ^ 64
after_below [] sum lt = lt
after_below (b ∷ bytes) sum lt = after_below bytes (fnv_step sum b) (step_below sum b)

pub sum_below : (bytes : Bytes) → fnv_of bytes < 2 ^ 64
sum_below bytes = after_below bytes 0xcbf29ce484222325 (omega arith)

-- ---- a row

some_pages : (block : List Entry) → 1 ≤ block_pages block
unfolding block_pages pages_for block_length
some_pages block = omega arith

last_sound : (block : List Entry) → AllByRecursion IsEntry block → 1 ≤ length block → (1 ≤ length (last_key block)) × (length (last_key block) ≤ 1024)
last_sound [] each some = absurd (omega (arith, some))
last_sound (e ∷ []) each some = (each.0.some_key, each.0.short_key)
last_sound (e ∷ next ∷ more) each some = last_sound (next ∷ more) each.1 (omega arith)

row_sound : (block : List Entry) → IsPart block → IsIndexRow (index_row_of block)
unfolding index_row_of
row_sound block part =
    let last = last_sound block part.each part.some in
    record { some_pages = some_pages block; few_pages = pages_bound block part; sum = sum_below (block_bytes block); some_key = last.0; short_key = last.1 }

rows_sound : (blocks : List (List Entry)) → AllByRecursion IsPart blocks → AllByRecursion IsIndexRow (map index_row_of blocks)
rows_sound [] parts = tt
rows_sound (block ∷ more) parts = (row_sound block parts.0, rows_sound more parts.1)

rows_pages : (blocks : List (List Entry)) → row_pages (map index_row_of blocks) ≡ sum_by block_pages blocks
unfolding index_row_of
rows_pages [] = refl
rows_pages (block ∷ more) =
    sum_by-cons (λ (row : IndexRow). row.pages) (index_row_of block) (map index_row_of more)
    ∙ ap (λ (n : ℕ). block_pages block + n) (rows_pages more)
    ∙ sym (sum_by-cons block_pages block more)

rows_lasts : (blocks : List (List Entry)) → map (λ (row : IndexRow). row.last) (map index_row_of blocks) ≡ map last_key blocks
unfolding index_row_of
rows_lasts [] = refl
rows_lasts (block ∷ more) = ap (λ (l : List Bytes). last_key block ∷ l) (rows_lasts more)

-- ---- the order of keys

pub less_of : (o : Ordering) → is_lt o ≡ true → o ≡ Less
less_of Less e = refl
less_of Equal e = absurd cc
less_of Greater e = absurd cc

pub above_above : (a b c : Bytes) → is_before a b ≡ true → is_before b c ≡ true → is_before a c ≡ true
above_above a b c ab bc = ap is_lt (nat_list_cmp_total.trans a b c (less_of (byte_order a b) ab) (less_of (byte_order b c) bc))

from_itself : (a : Bytes) → is_from a a ≡ true
from_itself a = ap (λ (o : Ordering). not (is_lt o)) (tied_itself nat_list_cmp_total a)

from_above : (a b : Bytes) → is_before a b ≡ true → is_from a b ≡ true
from_above a b ab = ap (λ (o : Ordering). not (is_lt o)) (nat_list_cmp_total.antisymm b a ∙ ap ordering_reverse (less_of (byte_order a b) ab))

-- the last key of some entries is above what their first is above
last_above : (low : Bytes) (e : Entry) (es : List Entry) → Follow (is_before low) (keys_of (e ∷ es)) → is_before low (last_key (e ∷ es)) ≡ true
last_above low e [] f = f.0
last_above low e (next ∷ more) f = above_above low e.key (last_key (next ∷ more)) f.0 (last_above e.key next more f.1)

last_from : (e : Entry) (es : List Entry) → Follow (is_before e.key) (keys_of es) → is_from e.key (last_key (e ∷ es)) ≡ true
last_from e [] f = from_itself e.key
last_from e (next ∷ more) f = from_above e.key (last_key (next ∷ more)) (last_above e.key next more f)

-- what follows some entries is above their last key
behind_last : (test : Bytes → Bool) (e : Entry) (es rest : List Entry) → Follow test (keys_of ((e ∷ es) ++ rest)) → Follow (is_before (last_key (e ∷ es))) (keys_of rest)
behind_last test e [] rest f = f.1
behind_last test e (next ∷ more) rest f = behind_last (is_before e.key) next more rest f.1

front_follows : (test : Bytes → Bool) (a b : List Entry) → Follow test (keys_of (a ++ b)) → Follow test (keys_of a)
front_follows test [] b f = tt
front_follows test (e ∷ a) b f = (f.0, front_follows (is_before e.key) a b f.1)

lasts_above : (low : Bytes) (blocks : List (List Entry)) → AllByRecursion IsPart blocks → Follow (is_before low) (keys_of (joined blocks)) → Follow (is_before low) (map last_key blocks)
lasts_above low [] parts f = tt
lasts_above low ([] ∷ more) parts f = absurd (omega (arith, parts.0.some))
lasts_above low ((e ∷ es) ∷ more) parts f = (
  last_above low e es (front_follows (is_before low) (e ∷ es) (joined more) f),
  lasts_above (last_key (e ∷ es)) more parts.1 (behind_last (is_before low) e es (joined more) f),
)

lasts_from : (blocks : List (List Entry)) → AllByRecursion IsPart blocks → Follow is_any (keys_of (joined blocks)) → Follow (is_from (first_key (joined blocks))) (map last_key blocks)
lasts_from [] parts f = tt
lasts_from ([] ∷ more) parts f = absurd (omega (arith, parts.0.some))
lasts_from ((e ∷ es) ∷ more) parts f =
    (last_from e es (front_follows (is_before e.key) es (joined more) f.1), lasts_above (last_key (e ∷ es)) more parts.1 (behind_last is_any e es (joined more) f))

-- ---- the index

first_sound : (entries : List Entry) → AllByRecursion IsEntry entries → 1 ≤ length entries → (1 ≤ length (first_key entries)) × (length (first_key entries) ≤ 1024)
first_sound [] each some = absurd (omega (arith, some))
first_sound (e ∷ more) each some = (each.0.some_key, each.0.short_key)

some_block : (blocks : List (List Entry)) → 1 ≤ length (joined blocks) → 1 ≤ length blocks
some_block [] some = absurd (omega (arith, some))
some_block (b ∷ more) some = omega arith

pub index_sound : IndexIsSound
unfolding index_with data_pages
index_sound entries ranges is are =
    let blocks = blocks_of entries in
    let parts = blocks_are_parts entries is.sound.each in
    let all = blocks_joined entries in
    let first = first_sound entries is.sound.each is.some in
    let many = length-map blocks index_row_of in
    let follow = lasts_from blocks parts (subst (λ (l : List Entry). Follow is_any (keys_of l)) (sym all) is.rising) in
    record {
      some_key = first.0;
      short_key = first.1;
      some = omega (arith, many, some_block blocks (omega (arith, ap length all, is.some)));
      few = omega (arith, many, few_blocks entries, is.sound.few);
      each = rows_sound blocks parts;
      rising = subst (Follow (is_from (first_key entries))) (sym (rows_lasts blocks)) (subst (λ (l : List Entry). Follow (is_from (first_key l)) (map last_key blocks)) all follow);
      all_pages = rows_pages blocks;
      ranges = are;
    }
