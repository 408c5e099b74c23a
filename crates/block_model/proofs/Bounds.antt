-- How much the pages of blocks and the bytes of an index can be, and loops that add them.
use Rattle.std.proofs.Common.{◌≡◌, ◌<◌, ◌≤◌, ◌+◌, ◌*◌, ◌^◌, ℕ, suc, List, [], ◌∷◌, length, drop, get_or, ap, subst, ◌∙◌, arith}
use Rattle.std.specs.Prelude.{fold, map, sum_by}
use Rattle.std.specs.List.{AllByRecursion}
use Rattle.std.proofs.Math.Seq.{drop-cons}
use Rattle.std.proofs.lemmas.List.Sums.{sum_by-cons}
use Rattle.entry_model.specs.Entries.{Entry, IsEntry}
use Rattle.block_model.specs.Block.{AreEntries}
use Rattle.block_model.specs.Pages.{block_length, block_pages, blocks_of, blocks_with, first_key, last_key, pages_for}
use Rattle.block_model.proofs.Cutting.{IsPart, blocks_are_parts, in_room}
use Rattle.block_model.proofs.BlocksRead.{most_length}

-- ---- at most as many blocks as entries

one_more : (bs : List (List Entry)) (e : Entry) → length (blocks_with bs e) ≤ length bs + 1
one_more [] e = omega arith
one_more (b ∷ []) e = in_room (λ bs. length bs ≤ 2) b e (λ _. omega arith) (λ _. omega arith)
one_more (b ∷ next ∷ more) e = omega (arith, one_more (next ∷ more) e)

many_after : (bs : List (List Entry)) (entries : List Entry) → length (fold blocks_with bs entries) ≤ length bs + length entries
many_after bs [] = omega arith
many_after bs (e ∷ later) = omega (arith, one_more bs e, many_after (blocks_with bs e) later)

pub few_blocks : (entries : List Entry) → length (blocks_of entries) ≤ length entries
unfolding blocks_of
few_blocks entries = omega (arith, many_after [] entries)

-- ---- a block takes at most 257 pages

pub length_bound : (block : List Entry) → IsPart block → block_length block ≤ 1049619
length_bound block part = most_length block part.each part.some part.small

pub pages_bound : (block : List Entry) → IsPart block → block_pages block ≤ 257
unfolding block_pages pages_for
pages_bound block part = omega (arith, length_bound block part)

sums_bound : {X : Type 0} (f : X → ℕ) (n : ℕ) (xs : List X) → AllByRecursion (λ x. f x ≤ n) xs → sum_by f xs ≤ n * length xs
sums_bound f n [] all = omega arith
sums_bound f n (x ∷ xs) all = omega (arith, all.0, sums_bound f n xs all.1, sum_by-cons f x xs)

pub weaker : {X : Type 0} (P Q : X → Type 0) → ((x : X) → P x → Q x) → (xs : List X) → AllByRecursion P xs → AllByRecursion Q xs
weaker P Q h [] all = tt
weaker P Q h (x ∷ xs) all = (h x all.0, weaker P Q h xs all.1)

pub data_bound : (entries : List Entry) → AreEntries entries → sum_by block_pages (blocks_of entries) < 2 ^ 60
data_bound entries is =
    let each = weaker IsPart (λ b. block_pages b ≤ 257) pages_bound (blocks_of entries) (blocks_are_parts entries is.each) in
    omega (arith, sums_bound block_pages 257 (blocks_of entries) each, few_blocks entries, is.few)

last_bound : (block : List Entry) → AllByRecursion IsEntry block → length (last_key block) ≤ 1024
last_bound [] each = omega arith
last_bound (e ∷ []) each = omega (arith, each.0.short_key)
last_bound (e ∷ next ∷ more) each = last_bound (next ∷ more) each.1

first_bound : (entries : List Entry) → AllByRecursion IsEntry entries → length (first_key entries) ≤ 1024
first_bound [] each = omega arith
first_bound (e ∷ more) each = omega (arith, each.0.short_key)

-- what a row of the index takes
abbrev pub row_length : List Entry → ℕ
row_length block = 14 + length (last_key block)

row_bound : (block : List Entry) → IsPart block → row_length block ≤ 1038
row_bound block part = omega (arith, last_bound block part.each)

pub index_bound : (entries : List Entry) → AreEntries entries → 10 + length (first_key entries) + sum_by row_length (blocks_of entries) < 2 ^ 60
index_bound entries is =
    let each = weaker IsPart (λ b. row_length b ≤ 1038) row_bound (blocks_of entries) (blocks_are_parts entries is.each) in
    omega (arith, sums_bound row_length 1038 (blocks_of entries) each, few_blocks entries, is.few, first_bound entries is.each)

-- ---- a loop over what is seen as blocks

pub next_sum : {X : Type 0} (v : X → List Entry) (f : List Entry → ℕ) (xs : List X) (i : ℕ) (d : X) → i < length xs
    → sum_by f (map v (drop i xs)) ≡ f (v (get_or xs i d)) + sum_by f (map v (drop (suc i) xs))
next_sum {X = X} v f xs i d lt =
    ap (λ (l : List X). sum_by f (map v l)) (drop-cons xs i d lt) ∙ sum_by-cons f (v (get_or xs i d)) (map v (drop (suc i) xs))

pub next_sound : {X : Type 0} (v : X → List Entry) (xs : List X) (i : ℕ) (d : X) → i < length xs → AllByRecursion AreEntries (map v (drop i xs))
    → AreEntries (v (get_or xs i d)) × AllByRecursion AreEntries (map v (drop (suc i) xs))
next_sound {X = X} v xs i d lt all = subst (λ (l : List X). AllByRecursion AreEntries (map v l)) (drop-cons xs i d lt) all
