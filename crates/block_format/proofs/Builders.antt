-- The entries of a builder of blocks with shared prefixes.
use Rattle.std.proofs.Common.{◌≡◌, ◌≤◌, ◌<◌, ◌+◌, ◌-◌, ◌*◌, ◌/◌, ◌%◌, ℕ, zero, suc, Bool, true, false, cond, List, [], ◌∷◌, ◌++◌, length, take, drop, get_or, replicate, refl, sym, ap, ap₂, ◌∙◌, subst, arith, append-nil, append_assoc, length-append}
use Rattle.std.specs.Prelude.{set, flat_map, nat_le, nat_lt, ◌==◌, ◌||◌, ◌&&◌}
use Rattle.std.specs.List.{AllByRecursion, common_prefix_len}
use Rattle.std.proofs.Math.Seq.{drop-cons}
use Rattle.std.proofs.lemmas.Bool.{and_parts, eq-eqb, eqb-true, leb-true, ltb-true}
use Rattle.std.proofs.lemmas.List.{at_drop_all}
use Rattle.std.proofs.lemmas.List.Sums.{common_prefix_len-le}
use Rattle.byteorder.specs.Endian.{little_bytes}
use Rattle.byte_fields.specs.Fields.{fields}
use Rattle.map_model.specs.SortedMap.{Bytes}
use Rattle.entry_model.specs.Entries.{Entry, IsEntry}
use Rattle.block_model.specs.Block.{block_bytes, header_bytes, list_bytes}
use Rattle.block_model.specs.Bodies.{entries_bytes, entry_bytes, listed_places}
use Rattle.block_model.specs.Formats.{Prefixed, begins_anew, entries_by, header_widths, key_by, places_length, wants_shared, width_by}
use Rattle.block_model.specs.Pages.{block_length, padding, pages_for}
use Rattle.block_model.proofs.Cutting.{all_append}
use Rattle.block_model.proofs.EntryBodies.{entry_size}
use Rattle.block_model.proofs.EntriesRead.{entries_again}
use Rattle.block_format.proofs.OneByte.{unequal}
use Rattle.block_format.specs.Building.{SpellsEntries, key_before, listed_among, places_bytes, laid, takes}

-- no more is shared than the key has
pub shared_own : (before key : Bytes) → common_prefix_len (λ a b. a == b) before key ≤ length key
shared_own before key = (common_prefix_len-le (λ a b. a == b) before key).1

-- ---- none

pub none_in : (bytes : Bytes) → entries_by Prefixed 0 [] bytes ≡ []
unfolding entries_by
none_in bytes = refl

pub holds_none : (bytes key : Bytes) (places : List ℕ) → bytes ≡ [] → key ≡ [] → SpellsEntries 0 bytes key places
unfolding entries_by entries_bytes listed_places
holds_none bytes key places none no_key = record { spelled = sym none; each = tt; few = omega arith; last = no_key; listed = refl }

-- ---- one more entry

pub many_in : (n : ℕ) (before rest : Bytes) → length (entries_by Prefixed n before rest) ≡ n
unfolding entries_by
many_in zero before rest = refl
many_in (suc n) before rest = omega (arith, many_in n (key_by Prefixed before rest) (drop (width_by Prefixed rest) rest))

more_bytes : (i j : ℕ) (before : Bytes) (es : List Entry) (e : Entry) → j ≡ i + length es
    → entries_bytes i before (es ++ e ∷ []) ≡ entries_bytes i before es ++ entry_bytes (wants_shared j (key_before before es) e.key) e
unfolding entries_bytes
more_bytes i j before [] e is =
    let same : i ≡ j = omega (arith, is) in
    append-nil (entry_bytes (wants_shared i before e.key) e) ∙ ap (λ (k : ℕ). entry_bytes (wants_shared k before e.key) e) same
more_bytes i j before (x ∷ es) e is =
    let body = entry_bytes (wants_shared i before x.key) x in
    ap (λ (l : Bytes). body ++ l) (more_bytes (suc i) j x.key es e (omega (arith, is)))
    ∙ sym (append_assoc body (entries_bytes (suc i) x.key es) (entry_bytes (wants_shared j (key_before x.key es) e.key) e))

more_listed : (i j place : ℕ) (before : Bytes) (es : List Entry) (e : Entry) → j ≡ i + length es
    → listed_places i place before (es ++ e ∷ []) ≡ listed_places i place before es ++ cond (begins_anew j) ((place + length (entries_bytes i before es)) ∷ []) []
unfolding listed_places entries_bytes
more_listed i j place before [] e is =
    let same : i ≡ j = omega (arith, is) in
    let all : place ≡ place + 0 = omega arith in
    ap₂ (λ (k p : ℕ). cond (begins_anew k) (p ∷ []) []) same all
more_listed i j place before (x ∷ es) e is =
    let body = entry_bytes (wants_shared i before x.key) x in
    let next = place + length body in
    let others = listed_places (suc i) next x.key es in
    let rest = entries_bytes (suc i) x.key es in
    let more = cond (begins_anew j) ((next + length rest) ∷ []) [] in
    let later : listed_places (suc i) next x.key (es ++ e ∷ []) ≡ others ++ more = more_listed (suc i) j next x.key es e (omega (arith, is)) in
    let total : next + length rest ≡ place + length (body ++ rest) = omega (arith, length-append body rest) in
    ap (λ (l : List ℕ). cond (begins_anew i) (place ∷ l) l) later
    ∙ elim (begins_anew i) as (λ t. cond t (place ∷ (others ++ more)) (others ++ more) ≡ cond t (place ∷ others) others ++ more) [
      | true ↦ refl
      | false ↦ refl
    ]
    ∙ ap (λ (p : ℕ). cond (begins_anew i) (place ∷ others) others ++ cond (begins_anew j) (p ∷ []) []) total

last_is : (before : Bytes) (es : List Entry) (e : Entry) → key_before before (es ++ e ∷ []) ≡ e.key
last_is before [] e = refl
last_is before (x ∷ es) e = last_is x.key es e

bodies_most : (i : ℕ) (before : Bytes) (es : List Entry) → AllByRecursion (IsEntry) es → length (entries_bytes i before es) ≤ 1049609 * length es
unfolding entries_bytes
bodies_most i before [] all = omega arith
bodies_most i before (e ∷ es) all =
    let n = wants_shared i before e.key in
    omega (
      arith,
      length-append (entry_bytes n e) (entries_bytes (suc i) e.key es),
      entry_size n e,
      all.0.short_key,
      all.0.short_value,
      bodies_most (suc i) e.key es all.1,
    )

-- ---- places that are counted from the first entry

shifted : (from i place : ℕ) (before : Bytes) (es : List Entry)
    → flat_map (λ p. little_bytes 2 (from + p)) (listed_places i place before es) ≡ flat_map (little_bytes 2) (listed_places i (from + place) before es)
unfolding listed_places
shifted from i place before [] = refl
shifted from i place before (e ∷ es) =
    let width = length (entry_bytes (wants_shared i before e.key) e) in
    let one = listed_places (suc i) (place + width) e.key es in
    let other = listed_places (suc i) (from + place + width) e.key es in
    let sum : from + (place + width) ≡ from + place + width = omega arith in
    let later : flat_map (λ p. little_bytes 2 (from + p)) one ≡ flat_map (little_bytes 2) other =
    shifted from (suc i) (place + width) e.key es ∙ ap (λ (p : ℕ). flat_map (little_bytes 2) (listed_places (suc i) p e.key es)) sum in
    elim (begins_anew i) as (λ t. flat_map (λ p. little_bytes 2 (from + p)) (cond t (place ∷ one) one) ≡ flat_map (little_bytes 2) (cond t ((from + place) ∷ other) other)) [
      | true ↦ ap (λ (l : Bytes). little_bytes 2 (from + place) ++ l) later
      | false ↦ later
    ]

-- one place after the other
pub places_step : (from i : ℕ) (places : List ℕ) (d : ℕ) (out new all : Bytes) → i < length places
    → new ≡ out ++ little_bytes 2 (from + get_or places i d) → out ++ places_bytes from (drop i places) ≡ all → new ++ places_bytes from (drop (i + 1) places) ≡ all
unfolding places_bytes
places_step from i places d out new all lt more so_far =
    let two = little_bytes 2 (from + get_or places i d) in
    let rest = places_bytes from (drop (suc i) places) in
    let next : i + 1 ≡ suc i = omega arith in
    ap (λ (k : ℕ). new ++ places_bytes from (drop k places)) next
    ∙ ap (λ (l : Bytes). l ++ rest) more
    ∙ append_assoc out two rest
    ∙ ap (λ (l : List ℕ). out ++ places_bytes from l) (sym (drop-cons places i d lt))
    ∙ so_far

pub places_done : (from i : ℕ) (places : List ℕ) (out all : Bytes) → length places ≤ i → out ++ places_bytes from (drop i places) ≡ all → out ≡ all
unfolding places_bytes
places_done from i places out all le so_far =
    sym (append-nil out) ∙ sym (ap (λ (l : Bytes). out ++ l) (at_drop_all (places_bytes from) places i le)) ∙ so_far

-- ---- the place of an entry that is added

take_set : (k : ℕ) (xs : List ℕ) (a : ℕ) → k < length xs → take (suc k) (set xs k a) ≡ take k xs ++ a ∷ []
take_set k [] a lt = absurd (omega (arith, lt))
take_set zero (x ∷ xs) a lt = refl
take_set (suc k) (x ∷ xs) a lt = ap (λ (l : List ℕ). x ∷ l) (take_set k xs a (omega (arith, lt)))

pub noted : (i j at : ℕ) (places : List ℕ) → j ≡ i → j % 16 ≡ 0 → i < 255 → length places ≡ 16
    → take (listed_among (i + 1)) (set places (j / 16) at) ≡ take (listed_among i) places ++ cond (begins_anew i) (at ∷ []) []
noted i j at places same anew few many =
    let k = j / 16 in
    let next : listed_among (i + 1) ≡ suc k = omega (arith, same, anew) in
    let now : listed_among i ≡ k = omega (arith, same, anew) in
    let fresh : begins_anew i ≡ true = eq-eqb (i % 16) 0 (omega (arith, same, anew)) in
    ap (λ (n : ℕ). take n (set places k at)) next
    ∙ take_set k places at (omega (arith, same, few, many))
    ∙ ap₂ (λ (n : ℕ) (t : Bool). take n places ++ cond t (at ∷ []) []) (sym now) (sym fresh)

pub not_noted : (i j at : ℕ) (places : List ℕ) → j ≡ i → (j % 16 ≡ 0 → ⊥)
    → take (listed_among (i + 1)) places ≡ take (listed_among i) places ++ cond (begins_anew i) (at ∷ []) []
not_noted i j at places same other =
    let some : 0 < i % 16 = omega (arith, same, other) in
    let next : listed_among (i + 1) ≡ listed_among i = omega (arith, some) in
    let later : begins_anew i ≡ false = unequal (i % 16) 0 (λ is. omega (arith, is, some)) in
    ap (λ (n : ℕ). take n places) next
    ∙ sym (append-nil (take (listed_among i) places))
    ∙ ap (λ (t : Bool). take (listed_among i) places ++ cond t (at ∷ []) []) (sym later)

-- ---- what a builder has

abbrev laid_by : ℕ → Bytes → Bytes → Bytes
laid_by count bytes list =
    let used = 8 + places_length count + length bytes in
    fields header_widths (used ∷ count ∷ 2 ∷ []) ++ (list ++ (bytes ++ replicate (4096 * pages_for used - used) 0))

module _ (n : ℕ) (bytes key : Bytes) (places : List ℕ) (holds : SpellsEntries n bytes key places) where
  abbrev es : List Entry
  es = entries_by Prefixed n [] bytes

  pub short : length bytes ≤ 1049609 * n
  short = omega (arith, ap length holds.spelled, bodies_most 0 [] es holds.each, many_in n [] bytes)

  -- the place of an entry that is added fits two bytes
  pub near : (p w : ℕ) → (n == 0 || (nat_le (8 + p + length bytes + w) 4096 && nat_lt n 255)) ≡ true → length bytes < 65536
  near p w e = elim (n == 0) as (λ t. (n == 0) ≡ t → (t || (nat_le (8 + p + length bytes + w) 4096 && nat_lt n 255)) ≡ true → length bytes < 65536) [
    | true ↦ λ is e. omega (arith, eqb-true n 0 is, short)
    | false ↦ λ is e. omega (arith, leb-true (8 + p + length bytes + w) 4096 (and_parts (nat_le (8 + p + length bytes + w) 4096) (nat_lt n 255) e).0)
  ] refl e

  pub laid_is : laid n bytes (take (listed_among n) places) ≡ block_bytes (entries_by Prefixed n [] bytes)
  unfolding laid places_bytes block_bytes header_bytes list_bytes padding block_length
  laid_is =
      let from = 8 + places_length n in
      let zero_more : from + 0 ≡ from = omega arith in
      let list : places_bytes from (take (listed_among n) places) ≡ flat_map (little_bytes 2) (listed_places 0 from [] es) =
      ap (places_bytes from) holds.listed ∙ shifted from 0 0 [] es ∙ ap (λ (p : ℕ). flat_map (little_bytes 2) (listed_places 0 p [] es)) zero_more in
      ap (laid_by n bytes) list
      ∙ ap₂ (λ (k : ℕ) (l : Bytes). laid_by k l (flat_map (little_bytes 2) (listed_places 0 (8 + places_length k) [] es))) (sym (many_in n [] bytes)) (sym holds.spelled)

  grown : (e : Entry) → entries_bytes 0 [] (es ++ e ∷ []) ≡ bytes ++ entry_bytes (wants_shared n key e.key) e
  grown e =
      more_bytes 0 n [] es e (omega (arith, many_in n [] bytes))
      ∙ ap₂ (λ (l k : Bytes). l ++ entry_bytes (wants_shared n k e.key) e) holds.spelled (sym holds.last)

  pub takes_is : (e : Entry)
      → takes (entries_by Prefixed n [] bytes) e
      ≡ (n == 0 || (nat_le (8 + places_length (n + 1) + length bytes + length (entry_bytes (wants_shared n key e.key) e)) 4096 && nat_lt n 255))
  unfolding block_length
  takes_is e =
      let body = entry_bytes (wants_shared n key e.key) e in
      let count : length (es ++ e ∷ []) ≡ n + 1 = omega (arith, length-append es (e ∷ []), many_in n [] bytes) in
      let places_are : places_length (length (es ++ e ∷ [])) ≡ places_length (n + 1) = ap places_length count in
      let size : block_length (es ++ e ∷ []) ≡ 8 + places_length (n + 1) + length bytes + length body =
      omega (arith, places_are, ap length (grown e), length-append bytes body) in
      ap₂ (λ (k l : ℕ). (k == 0 || (nat_le l 4096 && nat_lt k 255))) (many_in n [] bytes) size

  module _ (e : Entry) (is : IsEntry e) where
    all_sound : AllByRecursion (IsEntry) (es ++ e ∷ [])
    all_sound = all_append (IsEntry) es (e ∷ []) holds.each (is, tt)

    pub added : entries_by Prefixed (n + 1) [] (bytes ++ entry_bytes (wants_shared n key e.key) e) ≡ entries_by Prefixed n [] bytes ++ e ∷ []
    added =
        let count : length (es ++ e ∷ []) ≡ n + 1 = omega (arith, length-append es (e ∷ []), many_in n [] bytes) in
        ap₂ (λ (k : ℕ) (l : Bytes). entries_by Prefixed k [] l) (sym count) (sym (grown e)) ∙ entries_again 0 [] (es ++ e ∷ []) all_sound

    pub holds_added : (new : List ℕ) → n + 1 ≤ 255 → take (listed_among (n + 1)) new ≡ take (listed_among n) places ++ cond (begins_anew n) (length bytes ∷ []) []
        → SpellsEntries (n + 1) (bytes ++ entry_bytes (wants_shared n key e.key) e) e.key new
    holds_added new few noted =
        let place : length bytes ≡ 0 + length (entries_bytes 0 [] es) = omega (arith, ap length holds.spelled) in
        record {
          spelled = ap (entries_bytes 0 []) added ∙ grown e;
          each = subst (AllByRecursion (IsEntry)) (sym added) all_sound;
          few = few;
          last = sym (last_is [] es e) ∙ ap (key_before []) (sym added);
          listed = noted
              ∙ ap₂ (λ (l : List ℕ) (p : ℕ). l ++ cond (begins_anew n) (p ∷ []) []) holds.listed place
              ∙ sym (more_listed 0 n 0 [] es e (omega (arith, many_in n [] bytes)))
              ∙ ap (listed_places 0 0 []) (sym added);
        }

second : (a b : Bool) → (a && b) ≡ true → b ≡ true
second true b e = e
second false b e = absurd cc

pub few_more : (n l : ℕ) → (n == 0 || (nat_le l 4096 && nat_lt n 255)) ≡ true → n + 1 ≤ 255
few_more n l e = elim (n == 0) as (λ t. (n == 0) ≡ t → (t || (nat_le l 4096 && nat_lt n 255)) ≡ true → n + 1 ≤ 255) [
  | true ↦ λ is e. omega (arith, eqb-true n 0 is)
  | false ↦ λ is e. omega (arith, ltb-true n 255 (second (nat_le l 4096) (nat_lt n 255) e))
] refl e
