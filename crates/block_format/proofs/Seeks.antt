-- A walk passes by the entries whose keys are below a bound.
use Rattle.std.proofs.Common.{◌≡◌, ◌≤◌, ◌<◌, ◌+◌, ◌-◌, ℕ, zero, suc, Bool, true, false, cond, not, List, [], ◌∷◌, ◌++◌, length, drop, refl, sym, ap, ◌∙◌, arith}
use Rattle.std.specs.Prelude.{Option, Some, None, MatchOption, ◌==◌}
use Rattle.std.specs.Ordering.{is_lt}
use Rattle.std.proofs.lemmas.Bool.{eq-eqb}
use Rattle.std.proofs.lemmas.List.{drop_at}
use Rattle.std.proofs.lemmas.List.Sums.{common_prefix_len-le}
use Rattle.key_base.specs.ByteOrder.{byte_order, is_before}
use Rattle.key_base.specs.Prefixes.{alike}
use Rattle.key_base.proofs.Prefixes.{closer_decides, rests_decide}
use Rattle.map_model.specs.SortedMap.{Bytes}
use Rattle.entry_model.specs.Entries.{Entry, entry_of}
use Rattle.entry_model.specs.Newest.{entries_from}
use Rattle.block_model.specs.Formats.{Format, entries_by, key_by, value_by, width_by}
use Rattle.block_model.specs.Order.{is_from}
use Rattle.block_model.specs.Pages.{first_key}
use Rattle.block_format.specs.Walking.{StandBy, StandsAfter, format_of, key_held, part_walked, value_at, walked}
use Rattle.block_format.specs.declared.walk.EntryWalk.{EntryWalk}
use Rattle.block_format.specs.declared.walk.ValuePlace.{ValuePlace}
use Rattle.block_format.proofs.Standing.{less_of, still_from}
use Rattle.block_format.proofs.Walked.{cells, later}

-- ---- a key in two parts

long_alike : (front rest : Bytes) → length front ≤ alike front (front ++ rest)
long_alike [] rest = omega arith
long_alike (a ∷ xs) rest =
    let one : alike (a ∷ xs) (a ∷ (xs ++ rest)) ≡ 1 + alike xs (xs ++ rest) = ap (λ (t : Bool). cond t (1 + alike xs (xs ++ rest)) 0) (eq-eqb a a refl) in
    omega (arith, one, long_alike xs rest)

-- its front says how it compares with a key that has less than the front alike with it
pub front_decides : (front rest key : Bytes) (n : ℕ) → n ≡ alike front key → n < length front → is_before front key ≡ is_before (front ++ rest) key
front_decides front rest key n is lt =
    sym (ap is_lt (closer_decides front (front ++ rest) key (omega (arith, is, lt, long_alike front rest))).0)

-- and its rest where the key has the whole front
pub rest_decides : (front rest key : Bytes) (n : ℕ) → n ≡ alike front key → length front ≤ n → is_before rest (drop n key) ≡ is_before (front ++ rest) key
rest_decides front rest key n is le =
    let most = (common_prefix_len-le (λ a b. a == b) front key).0 in
    let all : length front ≡ n = omega (arith, is, le, most) in
    let both = rests_decide n front (front ++ rest) key (omega (arith, all, long_alike front rest)) (omega (arith, is)) in
    sym (ap is_lt (both.0 ∙ ap (λ (l : Bytes). byte_order l (drop n key)) (drop_at front rest n all)))

-- ---- entries after a key that is not below a bound

all_after : (f : Format) (n : ℕ) (before low rest : Bytes) → is_from low before ≡ true → StandBy f n before rest → entries_from (entries_by f n before rest) low ≡ entries_by f n before rest
unfolding entries_by
all_after f zero before low rest from stand = refl
all_after f (suc n) before low rest from stand =
    let k = key_by f before rest in
    let next : is_from low k ≡ true = still_from before k low from (less_of (byte_order before k) stand.0.above) in
    let others = entries_by f n k (drop (width_by f rest) rest) in
    let e = entry_of k (value_by f rest) in
    ap (λ (t : Bool). cond t (e ∷ entries_from others low) (entries_from others low)) next
    ∙ ap (λ (es : List Entry). e ∷ es) (all_after f n k low (drop (width_by f rest) rest) next stand.1)

many_by : (f : Format) (n : ℕ) (before rest : Bytes) → length (entries_by f n before rest) ≡ n
unfolding entries_by
many_by f zero before rest = refl
many_by f (suc n) before rest = omega (arith, many_by f n (key_by f before rest) (drop (width_by f rest) rest))

-- ---- a walk

pub many_walked : (walk : EntryWalk) (buffer bytes : Bytes) → length (walked walk buffer bytes) ≡ walk.left
many_walked walk buffer bytes = many_by (format_of walk.format) walk.left (key_held walk buffer) (part_walked walk bytes)

module _ (walk : EntryWalk) (buffer bytes low : Bytes) (some : 0 < walk.left) (stands : StandsAfter walk buffer bytes) where
  abbrev f : Format
  f = format_of walk.format

  abbrev before : Bytes
  before = key_held walk buffer

  abbrev part : Bytes
  part = part_walked walk bytes

  abbrev next_key : Bytes
  next_key = key_by f before part

  abbrev others : List Entry
  others = entries_by f (walk.left - 1) next_key (drop (width_by f part) part)

  all_cells : walked walk buffer bytes ≡ entry_of next_key (value_by f part) ∷ others
  all_cells = cells f walk.left before part some stands.entries

  -- where the next key is not below the bound, none of the keys is
  pub none_passed : is_before next_key low ≡ false → entries_from (walked walk buffer bytes) low ≡ walked walk buffer bytes
  none_passed not_below =
      let e = entry_of next_key (value_by f part) in
      let from : is_from low next_key ≡ true = ap not not_below in
      ap (λ (es : List Entry). entries_from es low) all_cells
      ∙ ap (λ (t : Bool). cond t (e ∷ entries_from others low) (entries_from others low)) from
      ∙ ap (λ (es : List Entry). e ∷ es) (all_after f (walk.left - 1) next_key low (drop (width_by f part) part) from (later f walk.left before part some stands.entries))
      ∙ sym all_cells

  -- where it is, the entry is left out
  pub one_passed : (next : EntryWalk) (built : Bytes) (r : Option (Option ValuePlace)) → is_before next_key low ≡ true
      → MatchOption r ((walked walk buffer bytes ≡ []) × (walked next built bytes ≡ [])) (λ v. walked walk buffer bytes ≡ entry_of (key_held next built) (value_at v bytes) ∷ walked next built bytes)
      → (entries_from (walked walk buffer bytes) low ≡ entries_from (walked next built bytes) low) × (next.left + 1 ≡ walk.left)
  one_passed next built None below m = absurd (omega (arith, ap (λ (es : List Entry). length es) m.0, many_walked walk buffer bytes, some))
  one_passed next built (Some v) below m =
      let e = entry_of (key_held next built) (value_at v bytes) in
      let es = walked next built bytes in
      let same : next_key ≡ key_held next built = ap first_key (sym all_cells ∙ m) in
      let passed : is_before e.key low ≡ true = ap (λ (k : Bytes). is_before k low) (sym same) ∙ below in (
        ap (λ (l : List Entry). entries_from l low) m ∙ ap (λ (t : Bool). cond (not t) (e ∷ entries_from es low) (entries_from es low)) passed,
        omega (arith, ap (λ (l : List Entry). length l) m, many_walked walk buffer bytes, many_walked next built bytes),
      )
