-- How the rules of the entries of either format go on from one entry to the next, and what they say of a block.
use Rattle.std.proofs.Common.{◌≡◌, ◌≤◌, ◌<◌, ◌+◌, ◌-◌, ◌*◌, ◌/◌, ℕ, suc, Bool, true, false, [], ◌∷◌, length, take, drop, refl, sym, ap, ap₂, ◌∙◌, subst, arith}
use Rattle.std.specs.Option.{option_or}
use Rattle.std.specs.Prelude.{Option, Some, None}
use Rattle.std.proofs.lemmas.Bool.{le-ltb, lt-ltb}
use Rattle.byte_fields.specs.Faults.{Fault, fault, refuse}
use Rattle.map_model.specs.SortedMap.{Bytes}
use Rattle.entry_model.specs.Entries.{entry_of}
use Rattle.block_model.specs.BlockReading.{block_fault, block_fault_by, block_in, block_in_by, count_in, entries_fault_by, entries_part_by, entries_place, entry_fault_by, header_fault_by, is_listed_elsewhere, tail_fault}
use Rattle.block_model.specs.Formats.{Format, entries_by, format_in, key_by, value_by, width_by}
use Rattle.block_model.proofs.Refusals.{neither}

-- the entries after the first of them
abbrev later_fault : Format → Bytes → ℕ → ℕ → ℕ → Bytes → Bytes → Option Fault
later_fault f bytes i more place before rest = entries_fault_by f bytes (suc i) more (place + width_by f rest) (key_by f before rest) (drop (width_by f rest) rest)

module _ (f : Format) (bytes : Bytes) (i n place : ℕ) (before rest : Bytes) (some : 0 < n) where
  one_more : n ≡ suc (n - 1)
  one_more = omega (arith, some)

  abbrev listed_place : ℕ
  listed_place = 8 + 2 * (i / 16)

  opened : entries_fault_by f bytes i n place before rest
      ≡ refuse (is_listed_elsewhere f bytes i place) (8 + 2 * (i / 16)) 9 (option_or (entry_fault_by f i place before rest) (later_fault f bytes i (n - 1) place before rest))
  unfolding entries_fault_by
  opened = ap (λ (k : ℕ). entries_fault_by f bytes i k place before rest) one_more

  pub next_elsewhere : is_listed_elsewhere f bytes i place ≡ true → entries_fault_by f bytes i n place before rest ≡ Some (fault (8 + 2 * (i / 16)) 9)
  next_elsewhere elsewhere =
      opened ∙ ap (λ (t : Bool). refuse t (8 + 2 * (i / 16)) 9 (option_or (entry_fault_by f i place before rest) (later_fault f bytes i (n - 1) place before rest))) elsewhere

  pub next_broken : (found : Fault) → is_listed_elsewhere f bytes i place ≡ false → entry_fault_by f i place before rest ≡ Some found
      → entries_fault_by f bytes i n place before rest ≡ Some found
  next_broken found listed broken =
      opened
      ∙ ap (λ (t : Bool). refuse t (8 + 2 * (i / 16)) 9 (option_or (entry_fault_by f i place before rest) (later_fault f bytes i (n - 1) place before rest))) listed
      ∙ ap (λ (o : Option Fault). option_or o (later_fault f bytes i (n - 1) place before rest)) broken

  pub next_kept : is_listed_elsewhere f bytes i place ≡ false → entry_fault_by f i place before rest ≡ None
      → entries_fault_by f bytes i n place before rest
      ≡ entries_fault_by f bytes (suc i) (n - 1) (place + width_by f rest) (key_by f before rest) (drop (width_by f rest) rest)
  next_kept listed kept =
      opened
      ∙ ap (λ (t : Bool). refuse t (8 + 2 * (i / 16)) 9 (option_or (entry_fault_by f i place before rest) (later_fault f bytes i (n - 1) place before rest))) listed
      ∙ ap (λ (o : Option Fault). option_or o (later_fault f bytes i (n - 1) place before rest)) kept

  pub next_entry : entries_by f n before rest ≡ entry_of (key_by f before rest) (value_by f rest) ∷ entries_by f (n - 1) (key_by f before rest) (drop (width_by f rest) rest)
  unfolding entries_by
  next_entry = ap (λ (k : ℕ). entries_by f k before rest) one_more

pub none_is_left : (f : Format) (bytes : Bytes) (i place : ℕ) (before rest : Bytes) → length rest ≤ 0 → entries_fault_by f bytes i 0 place before rest ≡ None
unfolding entries_fault_by
none_is_left f bytes i place before rest none = ap (λ (t : Bool). refuse t place 7 None) (le-ltb 0 (length rest) none)

pub some_are_left : (f : Format) (bytes : Bytes) (i place : ℕ) (before rest : Bytes) → 0 < length rest → entries_fault_by f bytes i 0 place before rest ≡ Some (fault place 7)
unfolding entries_fault_by
some_are_left f bytes i place before rest some = ap (λ (t : Bool). refuse t place 7 None) (lt-ltb 0 (length rest) some)

-- ---- the whole block

abbrev pub all_entries : Format → Bytes → Option Fault
all_entries f bytes = entries_fault_by f bytes 0 (count_in bytes) (entries_place f bytes) [] (entries_part_by f bytes)

module _ (bytes : Bytes) (f : Format) (is : f ≡ format_in bytes) where
  named : block_fault bytes ≡ block_fault_by f bytes
  named = ap (λ (g : Format). block_fault_by g bytes) (sym is)

  pub header_broken : (found : Fault) → header_fault_by f bytes ≡ Some found → block_fault bytes ≡ Some found
  unfolding block_fault_by
  header_broken found broken = named ∙ ap (λ (h : Option Fault). option_or h (option_or (all_entries f bytes) (tail_fault bytes))) broken

  pub entries_broken : (found : Fault) → header_fault_by f bytes ≡ None → all_entries f bytes ≡ Some found → block_fault bytes ≡ Some found
  unfolding block_fault_by
  entries_broken found header broken =
      named
      ∙ ap (λ (h : Option Fault). option_or h (option_or (all_entries f bytes) (tail_fault bytes))) header
      ∙ ap (λ (e : Option Fault). option_or e (tail_fault bytes)) broken

  pub tail_broken : (found : Option Fault) → header_fault_by f bytes ≡ None → all_entries f bytes ≡ None → tail_fault bytes ≡ found → block_fault bytes ≡ found
  unfolding block_fault_by
  tail_broken found header entries tail =
      named
      ∙ ap (λ (h : Option Fault). option_or h (option_or (all_entries f bytes) (tail_fault bytes))) header
      ∙ ap (λ (e : Option Fault). option_or e (tail_fault bytes)) entries
      ∙ tail

  pub header_kept : block_fault bytes ≡ None → header_fault_by f bytes ≡ None
  unfolding block_fault_by
  header_kept none = (neither (header_fault_by f bytes) _ (sym named ∙ none)).0

  pub entries_kept : block_fault bytes ≡ None → all_entries f bytes ≡ None
  unfolding block_fault_by
  entries_kept none = (neither (all_entries f bytes) (tail_fault bytes) (neither (header_fault_by f bytes) _ (sym named ∙ none)).1).0

  pub named_in : block_in bytes ≡ block_in_by f bytes
  named_in = ap (λ (g : Format). block_in_by g bytes) (sym is)
