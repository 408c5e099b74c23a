-- Loops over the entries of a block.
use Rattle.std.proofs.Common.{◌≡◌, ◌<◌, ◌≤◌, ◌+◌, ℕ, zero, suc, true, false, cond, List, [], ◌∷◌, ◌++◌, length, drop, get_or, refl, sym, ap, ◌∙◌, arith, append_assoc, length-append}
use Rattle.std.specs.Prelude.{◌==◌, flat_map}
use Rattle.std.specs.List.{common_prefix_len}
use Rattle.std.proofs.lemmas.List.Sums.{common_prefix_len-le}
use Rattle.std.proofs.Math.Seq.{drop-cons}
use Rattle.std.proofs.lemmas.List.{at_drop_all, append-nil}
use Rattle.entry_model.specs.Entries.{Entry, IsEntry}
use Rattle.byte_fields.specs.Endian.{little_bytes}
use Rattle.block_model.proofs.Cutting.{all_append}
use Rattle.block_model.specs.Formats.{begins_anew, places_length, wants_shared}
use Rattle.block_model.specs.Block.{AreEntries, list_bytes}
use Rattle.block_model.specs.Bodies.{entries_bytes, entry_bytes, listed_places}

-- the bytes of the next entry, and of those after it
pub next_entry : (i : ℕ) (before : List ℕ) (block : List Entry) (d : Entry) → i < length block
    → entries_bytes i before (drop i block) ≡ entry_bytes (wants_shared i before (get_or block i d).key) (get_or block i d) ++ entries_bytes (suc i) (get_or block i d).key (drop (suc i) block)
unfolding entries_bytes
next_entry i before block d lt = ap (entries_bytes i before) (drop-cons block i d lt)

pub next_bytes : (i : ℕ) (before : List ℕ) (block : List Entry) (d : Entry) → i < length block
    → length (entries_bytes i before (drop i block)) ≡ length (entry_bytes (wants_shared i before (get_or block i d).key) (get_or block i d)) + length (entries_bytes (suc i) (get_or block i d).key (drop (suc i) block))
next_bytes i before block d lt =
    ap length (next_entry i before block d lt)
    ∙ length-append (entry_bytes (wants_shared i before (get_or block i d).key) (get_or block i d)) (entries_bytes (suc i) (get_or block i d).key (drop (suc i) block))

-- behind the last entry there is none
pub none_left : (i j : ℕ) (before : List ℕ) (block : List Entry) → length block ≤ i → entries_bytes j before (drop i block) ≡ []
unfolding entries_bytes
none_left i j before block le = at_drop_all (entries_bytes j before) block i le

-- ---- the list

-- the list of some entries
unfoldable pub list_left : ℕ → ℕ → List ℕ → List Entry → List ℕ
list_left i place before block = flat_map (little_bytes 2) (listed_places i place before block)

pub next_listed : (i place : ℕ) (before : List ℕ) (block : List Entry) (d : Entry) → i < length block
    → list_left i place before (drop i block)
    ≡ (cond (begins_anew i) (little_bytes 2 place) [] ++ list_left (suc i) (place + length (entry_bytes (wants_shared i before (get_or block i d).key) (get_or block i d))) (get_or block i d).key (drop (suc i) block))
unfolding list_left listed_places
next_listed i place before block d lt =
    let e = get_or block i d in
    let others = listed_places (suc i) (place + length (entry_bytes (wants_shared i before e.key) e)) e.key (drop (suc i) block) in
    ap (λ (l : List Entry). flat_map (little_bytes 2) (listed_places i place before l)) (drop-cons block i d lt)
    ∙ elim (begins_anew i) as (λ t. flat_map (little_bytes 2) (cond t (place ∷ others) others) ≡ cond t (little_bytes 2 place) [] ++ flat_map (little_bytes 2) others) [
      | true ↦ refl
      | false ↦ refl
    ]

pub none_listed : (i j place : ℕ) (before : List ℕ) (block : List Entry) → length block ≤ i → list_left j place before (drop i block) ≡ []
unfolding list_left listed_places
none_listed i j place before block le = at_drop_all (list_left j place before) block i le

pub list_is : (block : List Entry) → list_left 0 (8 + places_length (length block)) [] block ≡ list_bytes block
unfolding list_left list_bytes
list_is block = refl

-- no more is shared than the key has
pub shared_own : (before key : List ℕ) → common_prefix_len (λ a b. a == b) before key ≤ length key
shared_own before key = (common_prefix_len-le (λ a b. a == b) before key).1

-- ---- a loop over the entries, one at a time

same_at : (block : List Entry) (i : ℕ) (d e : Entry) → i < length block → get_or block i d ≡ get_or block i e
same_at [] i d e lt = absurd (omega (arith, lt))
same_at (x ∷ xs) zero d e lt = refl
same_at (x ∷ xs) (suc i) d e lt = same_at xs i d e (omega (arith, lt))

pub entries_step : (i j shared : ℕ) (before key : List ℕ) (block : List Entry) (e other : Entry) (out new all : List ℕ)
    → j ≡ suc i → i < length block → e ≡ get_or block i e → other ≡ get_or block i other → key ≡ e.key → shared ≡ wants_shared i before key
    → new ≡ out ++ entry_bytes shared other → out ++ entries_bytes i before (drop i block) ≡ all → new ++ entries_bytes j key (drop j block) ≡ all
entries_step i j shared before key block e other out new all next lt is also key_is shared_is more so_far =
    let at = get_or block i e in
    let k : key ≡ at.key = key_is ∙ ap (λ (x : Entry). x.key) is in
    let o : other ≡ at = also ∙ same_at block i other e lt in
    let s : shared ≡ wants_shared i before at.key = shared_is ∙ ap (wants_shared i before) k in
    (λ n. more n ++ entries_bytes (next n) (k n) (drop (next n) block))
    ∙ (λ n. (out ++ entry_bytes (s n) (o n)) ++ entries_bytes (suc i) at.key (drop (suc i) block))
    ∙ append_assoc out (entry_bytes (wants_shared i before at.key) at) (entries_bytes (suc i) at.key (drop (suc i) block))
    ∙ ap (λ (l : List ℕ). out ++ l) (sym (next_entry i before block e lt)) ∙ so_far

pub entries_done : (i : ℕ) (before : List ℕ) (block : List Entry) (out all : List ℕ) → length block ≤ i → out ++ entries_bytes i before (drop i block) ≡ all → out ≡ all
entries_done i before block out all le so_far = sym (append-nil out) ∙ sym (ap (λ (l : List ℕ). out ++ l) (none_left i i before block le)) ∙ so_far

pub list_step : (i j place size shared : ℕ) (before key : List ℕ) (block : List Entry) (e other : Entry) (out new all : List ℕ)
    → j ≡ suc i → i < length block → e ≡ get_or block i e → other ≡ get_or block i other → key ≡ e.key → shared ≡ wants_shared i before key → size ≡ length (entry_bytes shared other)
    → new ≡ out ++ cond (begins_anew i) (little_bytes 2 place) [] → out ++ list_left i place before (drop i block) ≡ all → new ++ list_left j (place + size) key (drop j block) ≡ all
list_step i j place size shared before key block e other out new all next lt is also key_is shared_is size_is more so_far =
    let at = get_or block i e in
    let k : key ≡ at.key = key_is ∙ ap (λ (x : Entry). x.key) is in
    let o : other ≡ at = also ∙ same_at block i other e lt in
    let s : shared ≡ wants_shared i before at.key = shared_is ∙ ap (wants_shared i before) k in
    let z : size ≡ length (entry_bytes (wants_shared i before at.key) at) = size_is ∙ (λ n. length (entry_bytes (s n) (o n))) in
    let later = list_left (suc i) (place + length (entry_bytes (wants_shared i before at.key) at)) at.key (drop (suc i) block) in
    (λ n. more n ++ list_left (next n) (place + z n) (k n) (drop (next n) block))
    ∙ append_assoc out (cond (begins_anew i) (little_bytes 2 place) []) later
    ∙ ap (λ (l : List ℕ). out ++ l) (sym (next_listed i place before block e lt)) ∙ so_far

pub list_done : (i place : ℕ) (before : List ℕ) (block : List Entry) (out all : List ℕ) → length block ≤ i → out ++ list_left i place before (drop i block) ≡ all → out ≡ all
list_done i place before block out all le so_far = sym (append-nil out) ∙ sym (ap (λ (l : List ℕ). out ++ l) (none_listed i i place before block le)) ∙ so_far

pub no_more : (xs : List ℕ) → xs ≡ xs ++ []
no_more xs = sym (append-nil xs)

-- ---- one entry more

pub with_one_more : (block : List Entry) (e : Entry) → AreEntries block → IsEntry e → length block < 255 → AreEntries (block ++ (e ∷ []))
with_one_more block e is one lt = record {
  each = all_append IsEntry block (e ∷ []) is.each (one, tt);
  few = omega (arith, length-append block (e ∷ []), lt);
}
