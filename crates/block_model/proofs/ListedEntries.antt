-- The entries from a listed place on, and their keys.
use Rattle.std.proofs.Common.{◌≡◌, ◌≤◌, ◌<◌, ◌+◌, ◌-◌, ◌*◌, ◌/◌, ◌%◌, ℕ, zero, suc, Bool, true, false, cond, List, [], ◌∷◌, ◌++◌, length, take, drop, refl, sym, ap, ap₂, ◌∙◌, subst, arith, length-append, length-drop, length-take-le}
use Rattle.std.specs.Prelude.{Option, None, nat_lt, not, ◌||◌}
use Rattle.std.proofs.lemmas.Bool.{eq-eqb}
use Rattle.std.proofs.lemmas.List.{drop-drop}
use Rattle.byte_fields.specs.Faults.{Fault, refuse}
use Rattle.key_base.specs.ByteOrder.{byte_order, is_before}
use Rattle.key_base.specs.Limits.{is_no_key_length}
use Rattle.map_model.specs.SortedMap.{Bytes}
use Rattle.entry_model.specs.Entries.{Entry, entry_of, keys_of}
use Rattle.block_model.specs.BlockReading.{block_fault_by, block_in_by, count_in, entries_fault_by, entries_part_by, entry_fault_by, has_wrong_kind, shares_otherwise, used_in}
use Rattle.block_model.specs.FormatLaws.{ListedEntriesAreTheLater, ListedEntriesBreakNoRule, ListedKeysRise, listed_key}
use Rattle.block_model.specs.Formats.{Format, Prefixed, begins_anew, entries_by, entry_head_by, key_by, listed_in, most_value, places_length, rest_length_in, shared_in, value_by, value_length_by, wants_shared, width_by}
use Rattle.block_model.specs.Order.{Follow}
use Rattle.block_model.specs.Pages.{first_key}
use Rattle.block_model.proofs.BlocksRead.{above_none}
use Rattle.block_model.proofs.EntriesWritten.{not_listed_elsewhere, rules_kept}
use Rattle.block_model.proofs.Refusals.{kept, neither, none_of, not_true, passed}
use Rattle.block_model.proofs.TableIndex.{above_above, less_of}

-- ---- a listed entry shares nothing, so it is the same whatever key is before

pub shares_none : (i place : ℕ) (before rest : Bytes) → begins_anew i ≡ true → entry_fault_by Prefixed i place before rest ≡ None → shared_in Prefixed rest ≡ 0
shares_none i place before rest anew none =
    (rules_kept i place before rest none).shares ∙ ap (λ (t : Bool). cond t 0 (wants_shared 1 before (key_by Prefixed before rest))) anew

pub key_alone : (one other rest : Bytes) → shared_in Prefixed rest ≡ 0 → key_by Prefixed one rest ≡ key_by Prefixed other rest
unfolding key_by
key_alone one other rest none =
    let own = take (rest_length_in Prefixed rest) (drop 9 rest) in
    ap (λ (n : ℕ). take n one ++ own) none ∙ sym (ap (λ (n : ℕ). take n other ++ own) none)

any_before : (more : ℕ) (one other rest : Bytes) → shared_in Prefixed rest ≡ 0 → entries_by Prefixed (suc more) one rest ≡ entries_by Prefixed (suc more) other rest
unfolding entries_by
any_before more one other rest none =
    ap (λ (k : Bytes). entry_of k (value_by Prefixed rest) ∷ entries_by Prefixed more k (drop (width_by Prefixed rest) rest)) (key_alone one other rest none)

-- ---- entries that break no rule, from a listed one on

step : (more n : ℕ) (before part : Bytes) (place : ℕ) → drop (width_by Prefixed (drop place part)) (drop place part) ≡ drop (place + width_by Prefixed (drop place part)) part
    → drop (suc n) (entries_by Prefixed (suc more) before (drop place part)) ≡ drop n (entries_by Prefixed more (key_by Prefixed before (drop place part)) (drop (place + width_by Prefixed (drop place part)) part))
unfolding entries_by
step more n before part place behind = ap (λ (r : Bytes). drop n (entries_by Prefixed more (key_by Prefixed before (drop place part)) r)) behind

pub from_listed : (bytes part : Bytes) (more i place : ℕ) (before : Bytes) → entries_fault_by Prefixed bytes i more place before (drop place part) ≡ None
    → (n k left : ℕ) → k ≡ i + n → more ≡ n + suc left → begins_anew k ≡ true → (other : Bytes)
    → entries_by Prefixed (suc left) other (drop (listed_in bytes (k / 16)) part) ≡ drop n (entries_by Prefixed more before (drop place part))
unfolding entries_fault_by
from_listed bytes part zero i place before none n k left is many anew other = absurd (omega (arith, many))
from_listed bytes part (suc more) i place before none zero k left is many anew other =
    let rest = drop place part in
    let here : k ≡ i = omega (arith, is) in
    let fresh : begins_anew i ≡ true = subst (λ (j : ℕ). begins_anew j ≡ true) here anew in
    let both = kept _ _ _ _ none in
    let at : listed_in bytes (k / 16) ≡ place = ap (λ (j : ℕ). listed_in bytes (j / 16)) here ∙ not_listed_elsewhere bytes i place both.0 fresh in
    let entry = (neither _ _ both.1).0 in
    let same : suc left ≡ suc more = omega (arith, many) in
    ap₂ (λ (m p : ℕ). entries_by Prefixed m other (drop p part)) same at
    ∙ any_before more other before rest (shares_none i place before rest fresh entry)
from_listed bytes part (suc more) i place before none (suc n) k left is many anew other =
    let rest = drop place part in
    let w = width_by Prefixed rest in
    let key = key_by Prefixed before rest in
    let both = kept _ _ _ _ none in
    let later = (neither _ _ both.1).1 in
    let behind : drop w rest ≡ drop (place + w) part = drop-drop w place part in
    let goes = subst (λ (r : Bytes). entries_fault_by Prefixed bytes (suc i) more (place + w) key r ≡ None) behind later in
    from_listed bytes part more (suc i) (place + w) key goes n k left (omega (arith, is)) (omega (arith, many)) anew other
    ∙ sym (step more n before part place behind)

-- ---- they break no rule where no key is before them

-- the key of a listed entry has a byte of its own
fresh_long : (rest : Bytes) → 1 ≤ rest_length_in Prefixed rest → width_by Prefixed rest ≤ length rest → 1 ≤ length (key_by Prefixed [] rest)
unfolding key_by width_by
fresh_long rest some within =
    let n = shared_in Prefixed rest in
    let r = rest_length_in Prefixed rest in
    let own : length (take r (drop 9 rest)) ≡ r = length-take-le r (drop 9 rest) (omega (arith, within, length-drop 9 rest)) in
    omega (arith, some, own, length-append (take n []) (take r (drop 9 rest)))

-- where an entry keeps its rules, it does so with another key before it, if only the last two of them are kept then
last_two : (a b c d : Bool) (place : ℕ) (one other : Option Fault) → other ≡ None
    → refuse a place 3 (refuse b place 4 (refuse c place 5 (refuse d place 3 one))) ≡ None
    → refuse a place 3 (refuse b place 4 (refuse c place 5 (refuse d place 3 other))) ≡ None
last_two true b c d place one other is none = absurd cc
last_two false true c d place one other is none = absurd cc
last_two false false true d place one other is none = absurd cc
last_two false false false true place one other is none = absurd cc
last_two false false false false place one other is none = is

fresh_kept : (i place : ℕ) (before rest : Bytes) → begins_anew i ≡ true → entry_fault_by Prefixed i place before rest ≡ None → entry_fault_by Prefixed i place [] rest ≡ None
unfolding entry_fault_by
fresh_kept i place before rest anew none =
    let rules = rules_kept i place before rest none in
    let key = key_by Prefixed [] rest in
    let shares : shared_in Prefixed rest ≡ 0 = shares_none i place before rest anew none in
    let due : wants_shared i [] key ≡ 0 = ap (λ (t : Bool). cond t 0 (wants_shared 1 [] key)) anew in
    let alone : shares_otherwise Prefixed i [] rest ≡ false = not_true _ (eq-eqb _ _ (shares ∙ sym due)) in
    let above : not (is_before [] key) ≡ false = not_true _ (above_none key (fresh_long rest (omega (arith, shares, rules.some_key)) rules.within)) in
    last_two (nat_lt (length rest) (entry_head_by Prefixed)) (has_wrong_kind Prefixed rest)
    (is_no_key_length (shared_in Prefixed rest + rest_length_in Prefixed rest) || nat_lt (most_value Prefixed) (value_length_by Prefixed rest))
    (nat_lt (length rest) (width_by Prefixed rest)) place
    (refuse (shares_otherwise Prefixed i before rest) place 10 (refuse (not (is_before before (key_by Prefixed before rest))) place 6 None))
    (refuse (shares_otherwise Prefixed i [] rest) place 10 (refuse (not (is_before [] key)) place 6 None))
    (passed _ _ _ _ alone (passed _ _ _ _ above refl)) none

kept_from_listed : (bytes part : Bytes) (more i place : ℕ) (before : Bytes) → entries_fault_by Prefixed bytes i more place before (drop place part) ≡ None
    → (n k left : ℕ) → k ≡ i + n → more ≡ n + suc left → begins_anew k ≡ true
    → entries_fault_by Prefixed bytes k (suc left) (listed_in bytes (k / 16)) [] (drop (listed_in bytes (k / 16)) part) ≡ None
unfolding entries_fault_by
kept_from_listed bytes part zero i place before none n k left is many anew = absurd (omega (arith, many))
kept_from_listed bytes part (suc more) i place before none zero k left is many anew =
    let rest = drop place part in
    let w = width_by Prefixed rest in
    let here : k ≡ i = omega (arith, is) in
    let fresh : begins_anew i ≡ true = subst (λ (j : ℕ). begins_anew j ≡ true) here anew in
    let both = kept _ _ _ _ none in
    let at : listed_in bytes (k / 16) ≡ place = ap (λ (j : ℕ). listed_in bytes (j / 16)) here ∙ not_listed_elsewhere bytes i place both.0 fresh in
    let parts = neither _ _ both.1 in
    let same : suc left ≡ suc more = omega (arith, many) in
    let key = key_alone [] before rest (shares_none i place before rest fresh parts.0) in
    (λ j. entries_fault_by Prefixed bytes (here j) (same j) (at j) [] (drop (at j) part))
    ∙ passed _ _ _ _ both.0
    (none_of _ _ (fresh_kept i place before rest fresh parts.0)
    (ap (λ (b : Bytes). entries_fault_by Prefixed bytes (suc i) more (place + w) b (drop w rest)) key ∙ parts.1))
kept_from_listed bytes part (suc more) i place before none (suc n) k left is many anew =
    let rest = drop place part in
    let w = width_by Prefixed rest in
    let key = key_by Prefixed before rest in
    let later = (neither _ _ (kept _ _ _ _ none).1).1 in
    let goes = subst (λ (r : Bytes). entries_fault_by Prefixed bytes (suc i) more (place + w) key r ≡ None) (drop-drop w place part) later in
    kept_from_listed bytes part more (suc i) (place + w) key goes n k left (omega (arith, is)) (omega (arith, many)) anew

-- ---- of a block

abbrev in_used : Bytes → Bytes
in_used bytes = take (used_in bytes) bytes

anew_at : (j : ℕ) → begins_anew (16 * j) ≡ true
anew_at j = eq-eqb (16 * j % 16) 0 (omega arith)

listed_of_prefixed : (bytes : Bytes) → block_fault_by Prefixed bytes ≡ None → (j : ℕ) → 16 * j < count_in bytes → (other : Bytes)
    → entries_by Prefixed (count_in bytes - 16 * j) other (drop (listed_in bytes j) (in_used bytes)) ≡ drop (16 * j) (block_in_by Prefixed bytes)
unfolding block_fault_by block_in_by entries_part_by
listed_of_prefixed bytes none j lt other =
    let count = count_in bytes in
    let left = count - 16 * j - 1 in
    let entries : entries_fault_by Prefixed bytes 0 count (8 + places_length count) [] (drop (8 + places_length count) (in_used bytes)) ≡ None = (neither _ _ (neither _ _ none).1).0 in
    let many : count - 16 * j ≡ suc left = omega (arith, lt) in
    let place : j ≡ 16 * j / 16 = omega arith in
    ap₂ (λ (m p : ℕ). entries_by Prefixed m other (drop (listed_in bytes p) (in_used bytes))) many place
    ∙ from_listed bytes (in_used bytes) count 0 (8 + places_length count) [] entries (16 * j) (16 * j) left (omega arith) (omega (arith, many, lt)) (anew_at j) other

pub listed_are_later : ListedEntriesAreTheLater
listed_are_later bytes format none =
    let fault : block_fault_by Prefixed bytes ≡ None = sym (ap (λ (f : Format). block_fault_by f bytes) format) ∙ none in
    λ j lt other. listed_of_prefixed bytes fault j lt other ∙ sym (ap (λ (f : Format). drop (16 * j) (block_in_by f bytes)) format)

break_none_of_prefixed : (bytes : Bytes) → block_fault_by Prefixed bytes ≡ None → (j : ℕ) → 16 * j < count_in bytes
    → entries_fault_by Prefixed bytes (16 * j) (count_in bytes - 16 * j) (listed_in bytes j) [] (drop (listed_in bytes j) (in_used bytes)) ≡ None
unfolding block_fault_by entries_part_by
break_none_of_prefixed bytes none j lt =
    let count = count_in bytes in
    let left = count - 16 * j - 1 in
    let entries : entries_fault_by Prefixed bytes 0 count (8 + places_length count) [] (drop (8 + places_length count) (in_used bytes)) ≡ None = (neither _ _ (neither _ _ none).1).0 in
    let many : count - 16 * j ≡ suc left = omega (arith, lt) in
    let place : j ≡ 16 * j / 16 = omega arith in
    ap₂ (λ (m p : ℕ). entries_fault_by Prefixed bytes (16 * j) m (listed_in bytes p) [] (drop (listed_in bytes p) (in_used bytes))) many place
    ∙ kept_from_listed bytes (in_used bytes) count 0 (8 + places_length count) [] entries (16 * j) (16 * j) left (omega arith) (omega (arith, many, lt)) (anew_at j)

pub listed_break_none : ListedEntriesBreakNoRule
listed_break_none bytes format none =
    break_none_of_prefixed bytes (sym (ap (λ (f : Format). block_fault_by f bytes) format) ∙ none)

-- ---- the keys rise

entries_many : (f : Format) (n : ℕ) (before rest : Bytes) → length (entries_by f n before rest) ≡ n
unfolding entries_by
entries_many f zero before rest = refl
entries_many f (suc n) before rest = omega (arith, entries_many f n (key_by f before rest) (drop (width_by f rest) rest))

pub entries_rise : (bytes : Bytes) (i n place : ℕ) (before rest : Bytes) → entries_fault_by Prefixed bytes i n place before rest ≡ None
    → Follow (is_before before) (keys_of (entries_by Prefixed n before rest))
unfolding entries_fault_by entries_by
entries_rise bytes i zero place before rest none = tt
entries_rise bytes i (suc n) place before rest none =
    let both = neither _ _ (kept _ _ _ _ none).1 in
    let w = width_by Prefixed rest in
    ((rules_kept i place before rest both.0).rises, entries_rise bytes (suc i) n (place + w) (key_by Prefixed before rest) (drop w rest) both.1)

-- a later key is above what the first is above, and above an earlier one
later_above : (low : Bytes) (es : List Entry) (b : ℕ) → Follow (is_before low) (keys_of es) → b < length es → is_before low (first_key (drop b es)) ≡ true
later_above low [] b f lt = absurd (omega (arith, lt))
later_above low (e ∷ es) zero f lt = f.0
later_above low (e ∷ es) (suc b) f lt = above_above low e.key (first_key (drop b es)) f.0 (later_above e.key es b f.1 (omega (arith, lt)))

pub between : (low : Bytes) (es : List Entry) (a b : ℕ) → Follow (is_before low) (keys_of es) → a < b → b < length es → is_before (first_key (drop a es)) (first_key (drop b es)) ≡ true
between low [] a b f ab lt = absurd (omega (arith, lt))
between low (e ∷ es) a zero f ab lt = absurd (omega (arith, ab))
between low (e ∷ es) zero (suc b) f ab lt = later_above e.key es b f.1 (omega (arith, lt))
between low (e ∷ es) (suc a) (suc b) f ab lt = between e.key es a b f.1 (omega (arith, ab)) (omega (arith, lt))

pub listed_is : (bytes : Bytes) → block_fault_by Prefixed bytes ≡ None → (j : ℕ) → 16 * j < count_in bytes → listed_key bytes j ≡ first_key (drop (16 * j) (block_in_by Prefixed bytes))
unfolding entries_by
listed_is bytes none j lt =
    let many : suc (count_in bytes - 16 * j - 1) ≡ count_in bytes - 16 * j = omega (arith, lt) in
    ap (λ (m : ℕ). first_key (entries_by Prefixed m [] (drop (listed_in bytes j) (in_used bytes)))) many
    ∙ ap first_key (listed_of_prefixed bytes none j lt [])

pub block_rises : (bytes : Bytes) → block_fault_by Prefixed bytes ≡ None → Follow (is_before []) (keys_of (block_in_by Prefixed bytes))
unfolding block_fault_by block_in_by
block_rises bytes none =
    entries_rise bytes 0 (count_in bytes) (8 + places_length (count_in bytes)) [] (entries_part_by Prefixed bytes) (neither _ _ (neither _ _ none).1).0

pub block_many : (bytes : Bytes) → length (block_in_by Prefixed bytes) ≡ count_in bytes
unfolding block_in_by
block_many bytes = entries_many Prefixed (count_in bytes) [] (entries_part_by Prefixed bytes)

pub listed_rise : ListedKeysRise
listed_rise bytes format none j k jk lt =
    let fault : block_fault_by Prefixed bytes ≡ None = sym (ap (λ (f : Format). block_fault_by f bytes) format) ∙ none in
    let block = block_in_by Prefixed bytes in
    let rises = between [] block (16 * j) (16 * k) (block_rises bytes fault) (omega (arith, jk)) (omega (arith, lt, block_many bytes)) in
    ap₂ byte_order (listed_is bytes fault j (omega (arith, jk, lt))) (listed_is bytes fault k lt)
    ∙ less_of (byte_order (first_key (drop (16 * j) block)) (first_key (drop (16 * k) block))) rises
