-- Ranges that begin at keys of entries, one after the other.
use Rattle.std.proofs.Common.{◌≡◌, ◌≢◌, ◌<◌, ◌+◌, ℕ, zero, suc, true, false, cond, List, [], ◌∷◌, length, take, sym, ap, ◌∙◌, subst, arith}
use Rattle.std.specs.Prelude.{None, Some, Option, bytes_eq, slice_index_or}
use Rattle.std.specs.List.{AllByRecursion}
use Rattle.std.proofs.lemmas.Slice.Eq.{bytes_eq-Decides}
use Rattle.key_base.specs.ByteOrder.{Bytes}
use Rattle.entry_model.specs.Entries.{Entry, keys_of}
use Rattle.entry_model.specs.Newest.{lookup}
use Rattle.range_model.specs.Ranges.{DeletedRange, range_of}
use Rattle.range_model.specs.Sources.{BeginsAtOne}

-- a key at a place among those of entries is found
pub found_at : (entries : List Entry) (i : ℕ) (key : Bytes) → i < length (keys_of entries) → slice_index_or (keys_of entries) i [] ≡ key → lookup entries key ≢ None
found_at [] i key lt is none = omega (arith, lt)
found_at (entry ∷ later) zero key lt is none =
    let same : bytes_eq entry.key key ≡ true = (bytes_eq-Decides entry.key key).1 is in
    absurd (some_none (sym (ap (λ t. cond t (Some entry.value) (lookup later key)) same) ∙ none))
  where
    some_none : {A : Type 0} {a : A} → ◌≡◌ {A = Option A} (Some a) None → ⊥
    some_none e = cc
found_at (entry ∷ later) (suc i) key lt is none = elim (bytes_eq entry.key key) as (λ t. cond t (Some entry.value) (lookup later key) ≡ None → ⊥) [
  | true ↦ λ e. absurd cc
  | false ↦ λ e. found_at later i key (omega (arith, lt)) is e
] none

-- one range more
pub begin_more : (entries : List Entry) (ranges : List DeletedRange) (i : ℕ) → i < length ranges → AllByRecursion (BeginsAtOne entries) (take i ranges)
    → BeginsAtOne entries (slice_index_or ranges i (range_of [] [])) → AllByRecursion (BeginsAtOne entries) (take (i + 1) ranges)
begin_more entries ranges i lt all one =
    let next : suc i ≡ i + 1 = omega arith in
    subst (λ (k : ℕ). AllByRecursion (BeginsAtOne entries) (take k ranges)) next (more ranges i lt all one)
  where
    more : (rs : List DeletedRange) (k : ℕ) → k < length rs → AllByRecursion (BeginsAtOne entries) (take k rs) → BeginsAtOne entries (slice_index_or rs k (range_of [] []))
        → AllByRecursion (BeginsAtOne entries) (take (suc k) rs)
    more [] k lt all one = absurd (omega (arith, lt))
    more (r ∷ rs) zero lt all one = (one, tt)
    more (r ∷ rs) (suc k) lt all one = (all.0, more rs k (omega (arith, lt)) all.1 one)
