-- How many blocks a get reads.
use Rattle.std.proofs.Common.{◌≡◌, inl, inr, ℕ, suc, ◌≤◌, ◌+◌, List, [], ◌∷◌, refl, sym, ap, ◌∙◌, subst, Bool, true, false, cond, not, ◌&&◌, arith}
use Rattle.std.specs.Prelude.{Option, Some, None, Result, Ok, Err, ◌==◌, count_by}
use Rattle.std.specs.List.{AllByRecursion}
use Rattle.std.specs.Ordering.{is_lt}
use Rattle.std.proofs.lemmas.Bool.{and_parts}
use Rattle.std.proofs.lemmas.List.Sums.{sum_by-cons}
use Rattle.extent_model.proofs.Lists.{Pairs, pairs_of}
use Rattle.key_base.specs.Limits.{last_epoch}
use Rattle.map_model.specs.SortedMap.{Bytes}
use Rattle.entry_model.specs.Newest.{lookup}
use Rattle.map_model.specs.Slices.{is_before}
use Rattle.state_model.specs.State.{State, without_job}
use Rattle.table_model.specs.Tables.{FilterBytes, Table}
use Rattle.state_model.specs.View.{memory, changes_of}
use Rattle.state_model.specs.Taken.{taken}
use Rattle.state_model.specs.Merges.{NoRoom, placed, least_key, greatest_key}
use Rattle.state_model.specs.Changes.{compact_placed, compacted_with, compacted, compacted_outputs}
use Rattle.line_model.specs.Replies.{Reply, LastEpoch}
use Rattle.state_model.specs.Bounds.{admits, encloses, is_searched, unless_found, searched, get_bound, admitted}
use Rattle.state_model.specs.Sound.{IsSound, StandsBefore}
use Rattle.state_model.proofs.Levels.{AllAt}
use Rattle.state_model.proofs.Disjoint.{below_greatest}
use Rattle.state_model.proofs.Inserted.{upto_of, upto_before}
use Rattle.state_model.proofs.Steps.{IfPlaced, placed_at}
use Rattle.state_model.proofs.EmptyStores.{without_entries}
use Rattle.state_model.proofs.SoundCompaction.{compacted_sound}
use Rattle.range_model.specs.Sources.{Change}

unless_le : (found : Option (Option Bytes)) (n : ℕ) → unless_found found n ≤ n
unless_le (Some value) n = omega arith
unless_le None n = omega arith

-- ---- no more than admit it

one_more : (admits encloses : Bool) (found : Option (Option Bytes)) (rest n : ℕ) → rest ≤ n → cond (admits && encloses) (suc (unless_found found rest)) rest ≤ cond admits 1 0 + n
one_more true true found rest n l = omega (arith, unless_le found rest, l)
one_more true false found rest n l = omega (arith, l)
one_more false encloses found rest n l = omega (arith, l)

searched_few : (key : Bytes) (tables : List Table) → searched key tables ≤ count_by (admits key) tables
searched_few key [] = omega arith
searched_few key (t ∷ older) =
    omega (
      arith,
      one_more (admits key t) (encloses key t) (lookup t.entries key) (searched key older) (count_by (admits key) older) (searched_few key older),
      sum_by-cons (λ (x : Table). cond (admits key x) 1 0) t older,
    )

pub get_admitted : (s : State) (key : Bytes) → get_bound s key ≤ admitted s key
get_admitted s key = omega (arith, unless_le (lookup (memory s) key) (searched key s.tables), searched_few key s.tables)

-- ---- at most one on a level

none_searched : (key : Bytes) (tables : List Table) → AllByRecursion (λ (t : Table). is_searched key t ≡ false) tables → searched key tables ≡ 0
none_searched key [] all = refl
none_searched key (t ∷ older) all =
    ap (λ (b : Bool). cond b (suc (unless_found (lookup t.entries key) (searched key older))) (searched key older)) all.0 ∙ none_searched key older all.1

and_off : (a : Bool) → (a && false) ≡ false
and_off true = refl
and_off false = refl

not_on : (b : Bool) → not b ≡ true → b ≡ false
not_on true e = absurd cc
not_on false e = refl

-- where a table encloses the key, those of its level that come after it do not
later_off : (level : ℕ) (key : Bytes) (t : Table) (more : List Table) → 1 ≤ level → t.level ≡ level → AllAt level more → is_before (greatest_key t) key ≡ false
    → AllByRecursion (StandsBefore t) more → AllByRecursion (λ (u : Table). is_searched key u ≡ false) more
later_off level key t [] some at all upto order = tt
later_off level key t (u ∷ more) some at all upto order = (off order.0, later_off level key t more some at all.1 upto order.1)
  where
    off : StandsBefore t u → is_searched key u ≡ false
    off (inl less) = absurd (omega (arith, at, all.0, less))
    off (inr (same, inl zero_level)) = absurd (omega (arith, at, zero_level, some))
    off (inr (same, inr before)) =
        let first = ap is_lt (upto_before key (greatest_key t) (least_key u) (upto_of key (greatest_key t) upto) (below_greatest t (least_key u) before)) in
        ap (λ (b : Bool). admits key u && (not b && not (is_before (greatest_key u) key))) first ∙ and_off (admits key u)

searched_one : (level : ℕ) (key : Bytes) (tables : List Table) → 1 ≤ level → AllAt level tables → Pairs StandsBefore tables → searched key tables ≤ 1
searched_one level key [] some all order = omega arith
searched_one level key (t ∷ more) some all order =
    elim (is_searched key t) as (λ b. is_searched key t ≡ b → cond b (suc (unless_found (lookup t.entries key) (searched key more))) (searched key more) ≤ 1) [
      | true ↦ λ e.
          let inside = (and_parts (admits key t) (encloses key t) e).1 in
          let upto = not_on (is_before (greatest_key t) key) (and_parts (not (is_before key (least_key t))) (not (is_before (greatest_key t) key)) inside).1 in
          omega (arith, unless_le (lookup t.entries key) (searched key more), none_searched key more (later_off level key t more some all.0 all.1 upto order.0))
      | false ↦ λ _. searched_one level key more some all.1 order.1
    ] refl

pub get_one : (filter_bytes : FilterBytes) (s : State) (level : ℕ) (key : Bytes) → IsSound filter_bytes s → 1 ≤ level → AllAt level s.tables → get_bound s key ≤ 1
get_one filter_bytes s level key sound some all =
    omega (arith, unless_le (lookup (memory s) key) (searched key s.tables), searched_one level key s.tables some all (pairs_of StandsBefore s.tables sound.order))

-- ---- after a compaction

abbrev IfDeep : Result State Reply → Type 0
IfDeep (Ok t) = AllAt 6 t.tables
IfDeep (Err refusal) = Unit {0}

placed_deep : (s : State) (done : Result (List Table) NoRoom) → IfPlaced (AllAt 6) done → IfDeep (compact_placed s done)
placed_deep s (Ok made) all = all
placed_deep s (Err refusal) all = tt

compacted_deep : (filter_bytes : FilterBytes) (s : State) (changes : List Change) → IsSound filter_bytes s → changes_of s ≡ changes → IfDeep (compacted_with filter_bytes s changes)
compacted_deep filter_bytes s [] sound e = subst (AllAt 6) (sym (without_entries filter_bytes s sound e)) tt
compacted_deep filter_bytes s (change ∷ more) sound e =
    let outputs = compacted_outputs s in
    let done = placed filter_bytes s.settings s.pages (taken (without_job s)) 6 outputs in
    elim (s.epoch == last_epoch) as (λ b. IfDeep (cond b (Err LastEpoch) (compact_placed s done))) [
      | true ↦ tt
      | false ↦ placed_deep s done (placed_at filter_bytes s (taken (without_job s)) 6 outputs)
    ]

pub get_compacted : (filter_bytes : FilterBytes) (s after : State) (key : Bytes) → IsSound filter_bytes s → compacted filter_bytes s ≡ Ok after → get_bound after key ≤ 1
get_compacted filter_bytes s after key sound e =
    get_one filter_bytes after 6 key (compacted_sound filter_bytes s after sound e) (omega arith) (subst IfDeep e (compacted_deep filter_bytes s (changes_of s) sound refl))
