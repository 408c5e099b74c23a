-- The last of some blocks, to which an entry is added.
use Rattle.std.proofs.Common.{◌≡◌, ◌<◌, ◌≤◌, ◌+◌, ◌-◌, ℕ, zero, suc, Bool, true, false, cond, List, [], ◌∷◌, ◌++◌, length, take, drop, set, get_or, refl, sym, ap, ap₂, subst, ◌∙◌, arith}
use Rattle.std.specs.Prelude.{◌==◌, map, flat_map}
use Rattle.std.specs.List.{AllByRecursion}
use Rattle.std.proofs.Math.Seq.{take-suc}
use Rattle.std.proofs.lemmas.List.{get_or-map, map-set, map-append, length-map, append-nil, at_drop_all}
use Rattle.entry_model.specs.Entries.{Entry, IsEntry}
use Rattle.byte_fields.specs.Fields.{fields}
use Rattle.map_model.specs.SortedMap.{Bytes}
use Rattle.block_model.specs.Block.{AreEntries}
use Rattle.block_model.specs.Index.{index_bytes, index_head_bytes, index_head_widths, index_magic, index_of, index_row_bytes, index_row_of, index_with, ranges_bytes}
use Rattle.block_model.specs.Pages.{blocks_of, blocks_with, first_key, has_room, last_has_room, last_key}
use Rattle.block_model.proofs.Cutting.{IsPart, blocks_are_parts, blocks_step}
use Rattle.block_model.proofs.Sizes.{all_at}

pub last_at : (bs : List (List Entry)) (d : List Entry) (e : Entry) → 0 < length bs → last_has_room bs e ≡ has_room (get_or bs (length bs - 1) d) e
last_at [] d e lt = absurd (omega (arith, lt))
last_at (b ∷ []) d e lt = refl
last_at (b ∷ next ∷ more) d e lt =
    let n : length (b ∷ next ∷ more) - 1 ≡ suc (length (next ∷ more) - 1) = omega arith in
    last_at (next ∷ more) d e (omega arith) ∙ sym (ap (λ (k : ℕ). has_room (get_or (b ∷ next ∷ more) k d) e) n)

pub none_at : (bs : List (List Entry)) (e : Entry) → length bs ≤ 0 → last_has_room bs e ≡ false
none_at [] e le = refl
none_at (b ∷ bs) e le = absurd (omega (arith, le))

some_last : (bs : List (List Entry)) (e : Entry) → last_has_room bs e ≡ true → 0 < length bs
some_last [] e room = absurd cc
some_last (b ∷ bs) e room = omega arith

with_room : (bs : List (List Entry)) (d : List Entry) (e : Entry) → last_has_room bs e ≡ true
    → blocks_with bs e ≡ set bs (length bs - 1) (get_or bs (length bs - 1) d ++ (e ∷ []))
with_room [] d e room = absurd cc
with_room (b ∷ []) d e room = ap (λ (t : Bool). cond t ((b ++ (e ∷ [])) ∷ []) (b ∷ (e ∷ []) ∷ [])) room
with_room (b ∷ next ∷ more) d e room =
    let n : length (b ∷ next ∷ more) - 1 ≡ suc (length (next ∷ more) - 1) = omega arith in
    ap (λ (l : List (List Entry)). b ∷ l) (with_room (next ∷ more) d e room)
    ∙ sym (ap (λ (k : ℕ). set (b ∷ next ∷ more) k (get_or (b ∷ next ∷ more) k d ++ (e ∷ []))) n)

with_none : (bs : List (List Entry)) (e : Entry) → last_has_room bs e ≡ false → blocks_with bs e ≡ bs ++ ((e ∷ []) ∷ [])
with_none [] e none = refl
with_none (b ∷ []) e none = ap (λ (t : Bool). cond t ((b ++ (e ∷ [])) ∷ []) (b ∷ (e ∷ []) ∷ [])) none
with_none (b ∷ next ∷ more) e none = ap (λ (l : List (List Entry)). b ∷ l) (with_none (next ∷ more) e none)

-- ---- over what the program holds: X seen as a block

pub seen_last : {X : Type 0} (v : X → List Entry) (xs : List X) (d : X) (e : Entry) → 0 < length xs → has_room (v (get_or xs (length xs - 1) d)) e ≡ last_has_room (map v xs) e
seen_last v xs d e lt =
    let n : length (map v xs) ≡ length xs = length-map xs v in
    sym (last_at (map v xs) (v d) e (omega (arith, n, lt)) ∙ ap (λ (k : ℕ). has_room (get_or (map v xs) (k - 1) (v d)) e) n
    ∙ ap (λ (b : List Entry). has_room b e) (get_or-map v xs (length xs - 1) d (v d) (omega (arith, lt))))

pub seen_none : {X : Type 0} (v : X → List Entry) (xs : List X) (e : Entry) → length xs ≤ 0 → false ≡ last_has_room (map v xs) e
seen_none v xs e le = sym (none_at (map v xs) e (omega (arith, length-map xs v, le)))

pub seen_added : {X : Type 0} (v : X → List Entry) (xs : List X) (d y : X) (e : Entry) → last_has_room (map v xs) e ≡ true → v y ≡ v (get_or xs (length xs - 1) d) ++ (e ∷ [])
    → map v (set xs (length xs - 1) y) ≡ blocks_with (map v xs) e
seen_added v xs d y e room is =
    let n : length (map v xs) ≡ length xs = length-map xs v in
    let some = some_last (map v xs) e room in
    let at = get_or-map v xs (length xs - 1) d (v d) (omega (arith, n, some)) in
    map-set v xs (length xs - 1) y ∙ ap (set (map v xs) (length xs - 1)) (is ∙ sym (ap (λ (b : List Entry). b ++ (e ∷ [])) at))
    ∙ sym (with_room (map v xs) (v d) e room ∙ ap (λ (k : ℕ). set (map v xs) (k - 1) (get_or (map v xs) (k - 1) (v d) ++ (e ∷ []))) n)

pub seen_begun : {X : Type 0} (v : X → List Entry) (xs : List X) (y : X) (e : Entry) → last_has_room (map v xs) e ≡ false → v y ≡ e ∷ [] → map v (xs ++ (y ∷ [])) ≡ blocks_with (map v xs) e
seen_begun v xs y e none is =
    map-append v xs (y ∷ []) ∙ ap (λ (b : List Entry). map v xs ++ (b ∷ [])) is ∙ sym (with_none (map v xs) e none)

pub seen_sound : {X : Type 0} (v : X → List Entry) (xs : List X) (d : X) → AllByRecursion AreEntries (map v xs) → 0 < length xs → AreEntries (v (get_or xs (length xs - 1) d))
seen_sound v xs d all lt =
    subst AreEntries (get_or-map v xs (length xs - 1) d (v d) (omega (arith, lt))) (all_at AreEntries (map v xs) (length xs - 1) (v d) all (omega (arith, length-map xs v, lt)))

-- ---- the loop over all entries

are_entries : (bs : List (List Entry)) → AllByRecursion IsPart bs → AllByRecursion AreEntries bs
are_entries [] parts = tt
are_entries (b ∷ bs) parts = (record { each = parts.0.each; few = omega (arith, parts.0.few) }, are_entries bs parts.1)

pub cut_sound : (entries : List Entry) → AllByRecursion IsEntry entries → AllByRecursion AreEntries (blocks_of entries)
cut_sound entries each = are_entries (blocks_of entries) (blocks_are_parts entries each)

pub positive : (n : ℕ) → false ≡ (n == 0) → 0 < n
positive zero e = absurd cc
positive (suc n) e = omega arith

all_take : {X : Type 0} (P : X → Type 0) (i : ℕ) (xs : List X) → AllByRecursion P xs → AllByRecursion P (take i xs)
all_take P zero xs all = tt
all_take P (suc i) [] all = tt
all_take P (suc i) (x ∷ xs) all = (all.0, all_take P i xs all.1)

pub no_blocks : [] ≡ blocks_of []
unfolding blocks_of
no_blocks = refl

pub so_far_sound : (entries : List Entry) (i : ℕ) → AreEntries entries → AllByRecursion AreEntries (blocks_of (take i entries))
so_far_sound entries i is = cut_sound (take i entries) (all_take IsEntry i entries is.each)

pub so_far_more : (entries : List Entry) (i : ℕ) (e : Entry) → i < length entries → e ≡ get_or entries i e → blocks_with (blocks_of (take i entries)) e ≡ blocks_of (take (i + 1) entries)
so_far_more entries i e lt is =
    let n : i + 1 ≡ suc i = omega arith in
    sym (blocks_step (take i entries) e) ∙ ap (λ (x : Entry). blocks_of (take i entries ++ (x ∷ []))) is
    ∙ sym (ap blocks_of (ap (λ (k : ℕ). take k entries) n ∙ take-suc entries i e lt))

pub last_key_at : (es : List Entry) (d : Entry) → 0 < length es → last_key es ≡ (get_or es (length es - 1) d).key
last_key_at [] d lt = absurd (omega (arith, lt))
last_key_at (e ∷ []) d lt = refl
last_key_at (e ∷ next ∷ more) d lt =
    let n : length (e ∷ next ∷ more) - 1 ≡ suc (length (next ∷ more) - 1) = omega arith in
    last_key_at (next ∷ more) d (omega arith) ∙ sym (ap (λ (k : ℕ). (get_or (e ∷ next ∷ more) k d).key) n)

-- a loop over a list that is at its end
pub all_done : {X : Type 0} (F : List X → List ℕ) → F [] ≡ [] → (xs : List X) (i : ℕ) (out all : List ℕ) → length xs ≤ i → out ++ F (drop i xs) ≡ all → out ≡ all
all_done F empty xs i out all le so_far =
    sym (append-nil out) ∙ sym (ap (λ (l : List ℕ). out ++ l) (at_drop_all F xs i le ∙ empty)) ∙ so_far

-- ---- the index of a table, by its blocks

pub index_head_is : (entries : List Entry) (many : ℕ) (least : Bytes) → many ≡ length (blocks_of entries) → least ≡ first_key entries
    → fields index_head_widths (index_magic ∷ many ∷ length least ∷ []) ++ least ≡ index_head_bytes (index_of entries)
unfolding index_head_bytes index_with
index_head_is entries many least n k =
    let rows : many ≡ length (map index_row_of (blocks_of entries)) = n ∙ sym (length-map (blocks_of entries) index_row_of) in
    ap₂ (λ (m : ℕ) (l : Bytes). fields index_head_widths (index_magic ∷ m ∷ length l ∷ []) ++ l) rows k

pub index_rows_are : (blocks : List (List Entry)) → flat_map (λ (b : List Entry). index_row_bytes (index_row_of b)) blocks ≡ flat_map index_row_bytes (map index_row_of blocks)
index_rows_are [] = refl
index_rows_are (block ∷ more) = ap (λ (l : Bytes). index_row_bytes (index_row_of block) ++ l) (index_rows_are more)

pub index_is : (entries : List Entry) → index_head_bytes (index_of entries) ++ flat_map (λ (b : List Entry). index_row_bytes (index_row_of b)) (blocks_of entries) ≡ index_bytes (index_of entries)
unfolding index_bytes index_with ranges_bytes
index_is entries =
    ap (λ (l : Bytes). index_head_bytes (index_of entries) ++ l) (index_rows_are (blocks_of entries) ∙ sym (append-nil (flat_map index_row_bytes (map index_row_of (blocks_of entries)))))
