-- What a search in two steps says: first among the chunks, then within one.
use Rattle.std.proofs.Common.{◌≡◌, ℕ, suc, ◌+◌, ◌-◌, ◌<◌, ◌≤◌, List, [], ◌∷◌, length, get_or, refl, sym, ap, ◌∙◌, subst, arith, inl, inr}
use Rattle.std.specs.List.Sorted.{IsNonDecreasingBy, IsPartitionPoint}
use Rattle.std.proofs.lemmas.Bool.{cases_lt}
use Rattle.std.proofs.lemmas.List.{get_or-map, get_or_default, length-map}
use Rattle.std.specs.Ordering.{ordering_index}
use Rattle.std.specs.declared.cmp.Ordering.{Ordering}
use Rattle.std.specs.declared.cmp.Ordering.TheVariants.{Less, Equal, Greater}
use Rattle.arrayvec.specs.ArrayVec.{ArrayVec}
use Rattle.map_model.specs.SortedMap.{Bytes, byte_order}
use Rattle.entry_model.specs.Entries.{Entry}
use Rattle.map_model.proofs.Maps.{less_of_greater}
use Rattle.mem_table.specs.Table.{KeyStandsAt, BelongsAt}
use Rattle.entry_model.specs.Newest.{KeysRise}
use Rattle.mem_table.specs.Chunks.{flat, flat_at, IsPlace, Orders, entry_at, first_in, in_order}
use Rattle.mem_table.proofs.Flat.{place_in, gap_in, place_chunk, place_from, gap_from, first_place, place_is, within_at, next_at, end_at, chunks_rise}
use Rattle.mem_table.proofs.Places.{rises_between, orders_rise, stands, belongs}

-- keys rise along the places
places_rise : (entries : List Entry) (places : List ℕ) (i j : ℕ) → KeysRise (in_order entries places) → i < j → j < length places
    → byte_order (entry_at entries (get_or places i 0)).key (entry_at entries (get_or places j 0)).key ≡ Less
places_rise entries places i j rises lt within =
    let d = entry_at entries 0 in
    let between = rises_between (in_order entries places) i j d rises lt (omega (arith, length-map places (entry_at entries))) in
    subst (λ (e : Entry). byte_order e.key (entry_at entries (get_or places j 0)).key ≡ Less) (get_or-map (entry_at entries) places i 0 d (omega arith))
    (subst (λ (e : Entry). byte_order (get_or (in_order entries places) i d).key e.key ≡ Less) (get_or-map (entry_at entries) places j 0 d within) between)

module _ (key : Bytes) (entries : List Entry) (chunks : List (ArrayVec ℕ)) (orders : Orders chunks entries) where
  -- a place of a chunk, and its entry in the order
  there : (c k : ℕ) (e : ArrayVec ℕ) (d : ℕ) → IsPlace chunks c k → get_or (get_or chunks c e).items k d ≡ get_or (flat chunks) (flat_at chunks c k) 0
  there c k e d is = get_or_default (get_or chunks c e).items k d 0 (place_chunk chunks c k e is).1 ∙ place_is chunks c k 0 e is

  seen : (c k : ℕ) (e : ArrayVec ℕ) (p : ℕ) (d : Entry) → IsPlace chunks c k → get_or (in_order entries (flat chunks)) (flat_at chunks c k) d ≡ entry_at entries (get_or (get_or chunks c e).items k p)
  seen c k e p d is = get_or-map (entry_at entries) (flat chunks) (flat_at chunks c k) 0 d (place_in chunks c k is) ∙ ap (entry_at entries) (sym (there c k e p is))

  -- ---- keys rise along the first places of the chunks, and along those of one chunk

  rise_at : (i j c k : ℕ) (x y : ArrayVec ℕ) (p q : ℕ) → IsPlace chunks i j → IsPlace chunks c k → flat_at chunks i j < flat_at chunks c k
      → byte_order (entry_at entries (get_or (get_or chunks i x).items j p)).key (entry_at entries (get_or (get_or chunks c y).items k q)).key ≡ Less
  rise_at i j c k x y p q first second lt =
      subst (λ (n : ℕ). byte_order (entry_at entries n).key (entry_at entries (get_or (get_or chunks c y).items k q)).key ≡ Less) (sym (there i j x p first))
      (subst (λ (n : ℕ). byte_order (entry_at entries (get_or (flat chunks) (flat_at chunks i j) 0)).key (entry_at entries n).key ≡ Less) (sym (there c k y q second))
      (places_rise entries (flat chunks) (flat_at chunks i j) (flat_at chunks c k) orders.rises lt (place_in chunks c k second)))

  pub chunks_ordered : IsNonDecreasingBy (λ chunk. ordering_index (byte_order (first_in entries chunk).key key)) chunks
  chunks_ordered = orders_rise (first_in entries) key chunks (λ i j d lt within.
      rise_at i 0 j 0 d d 0 0 (first_place chunks i orders.some (omega arith)) (first_place chunks j orders.some within) (chunks_rise chunks i j orders.some lt within))

  pub within_ordered : (c : ℕ) (e : ArrayVec ℕ) → c < length chunks → IsNonDecreasingBy (λ place. ordering_index (byte_order (entry_at entries place).key key)) (get_or chunks c e).items
  within_ordered c e lt = orders_rise (entry_at entries) key (get_or chunks c e).items (λ i j d less within.
      rise_at c i c j e e d d (place_from chunks c i e lt (omega arith)) (place_from chunks c j e lt within) (omega (arith, within_at chunks c i lt, within_at chunks c j lt)))

  -- ---- found

  pub found_at : (c k : ℕ) (e : ArrayVec ℕ) → IsPlace chunks c k → byte_order (entry_at entries (get_or (get_or chunks c e).items k 0)).key key ≡ Equal → KeyStandsAt (flat_at chunks c k) key (in_order entries (flat chunks))
  found_at c k e is equal =
      stands key (in_order entries (flat chunks)) (flat_at chunks c k) orders.rises (omega (arith, place_in chunks c k is, length-map (flat chunks) (entry_at entries)))
      (λ d. subst (λ (x : Entry). byte_order x.key key ≡ Equal) (sym (seen c k e 0 d is)) equal)

  -- ---- not found

  less_at : (c k : ℕ) (e : ArrayVec ℕ) (d : Entry) → IsPlace chunks c k → byte_order (entry_at entries (get_or (get_or chunks c e).items k 0)).key key ≡ Less
      → byte_order (get_or (in_order entries (flat chunks)) (flat_at chunks c k) d).key key ≡ Less
  less_at c k e d is less = subst (λ (x : Entry). byte_order x.key key ≡ Less) (sym (seen c k e 0 d is)) less

  above_at : (c k : ℕ) (e : ArrayVec ℕ) (d : Entry) → IsPlace chunks c k → byte_order (entry_at entries (get_or (get_or chunks c e).items k 0)).key key ≡ Greater
      → byte_order key (get_or (in_order entries (flat chunks)) (flat_at chunks c k) d).key ≡ Less
  above_at c k e d is greater =
      subst (λ (x : Entry). byte_order key x.key ≡ Less) (sym (seen c k e 0 d is)) (less_of_greater (entry_at entries (get_or (get_or chunks c e).items k 0)).key key greater)

  -- the first chunk begins above the key, or there is none
  pub missing_first : IsPartitionPoint (λ chunk. byte_order (first_in entries chunk).key key ≡ Less) (λ chunk. byte_order (first_in entries chunk).key key ≡ Greater) chunks 0
      → BelongsAt (flat_at chunks 0 0) key (in_order entries (flat chunks))
  missing_first point =
      let size = length-map (flat chunks) (entry_at entries) in
      let start = start_at chunks in
      belongs key (in_order entries (flat chunks)) (flat_at chunks 0 0) orders.rises (omega (arith, start))
      (λ lt d. absurd (omega (arith, start, lt)))
      (λ lt d. elim (cases_lt 0 (length chunks)) [
        | inl some ↦ above_at 0 0 (record { items = [] }) d (first_place chunks 0 orders.some some) (point.1 0 (record { items = [] }) (omega arith) some)
        | inr none ↦ absurd (omega (arith, end_at chunks 0 0 none, size, lt))
      ])
    where
      start_at : (chunks : List (ArrayVec ℕ)) → flat_at chunks 0 0 ≡ 0
      start_at [] = refl
      start_at (x ∷ more) = refl

  module _ (c k behind : ℕ) (e : ArrayVec ℕ) (lt : c < length chunks) (next : behind ≡ c + 1) (inside : k ≤ length (get_or chunks c e).items)
      (outer : IsPartitionPoint (λ chunk. byte_order (first_in entries chunk).key key ≡ Less) (λ chunk. byte_order (first_in entries chunk).key key ≡ Greater) chunks behind)
      (inner : IsPartitionPoint (λ place. byte_order (entry_at entries place).key key ≡ Less) (λ place. byte_order (entry_at entries place).key key ≡ Greater) (get_or chunks c e).items k) where
    last_below : (d : Entry) → byte_order (get_or (in_order entries (flat chunks)) (flat_at chunks c k - 1) d).key key ≡ Less
    last_below d = elim (cases_lt 0 k) [
      | inl some ↦
          let at_is : flat_at chunks c (k - 1) ≡ flat_at chunks c k - 1 = omega (arith, within_at chunks c k lt, within_at chunks c (k - 1) lt) in
          subst (λ (n : ℕ). byte_order (get_or (in_order entries (flat chunks)) n d).key key ≡ Less) at_is
          (less_at c (k - 1) e d (place_from chunks c (k - 1) e lt (omega arith)) (inner.0 (k - 1) 0 (omega arith) (omega arith)))
      | inr none ↦
          let first = place_chunk chunks c 0 e (first_place chunks c orders.some lt) in
          let less : byte_order (first_in entries (get_or chunks c e)).key key ≡ Less = outer.0 c e (omega arith) (omega arith) in
          let greater : byte_order (first_in entries (get_or chunks c e)).key key ≡ Greater = inner.1 0 0 (omega arith) first.1 in
          absurd (apart less greater)
    ]
      where
        apart : {o : Ordering} → o ≡ Less → o ≡ Greater → ⊥
        apart less greater = let both : Less ≡ Greater = sym less ∙ greater in cc

    first_above : flat_at chunks c k < length (in_order entries (flat chunks)) → (d : Entry) → byte_order key (get_or (in_order entries (flat chunks)) (flat_at chunks c k) d).key ≡ Less
    first_above more d = elim (cases_lt k (length (get_or chunks c e).items)) [
      | inl here ↦ above_at c k e d (place_from chunks c k e lt here) (inner.1 k 0 (omega arith) here)
      | inr end ↦ elim (cases_lt (suc c) (length chunks)) [
        | inl another ↦
            let full : k ≡ length (get_or chunks c e).items = omega arith in
            let at_is : flat_at chunks (suc c) 0 ≡ flat_at chunks c k = sym (ap (flat_at chunks c) full ∙ next_at chunks c e lt) in
            subst (λ (n : ℕ). byte_order key (get_or (in_order entries (flat chunks)) n d).key ≡ Less) at_is
            (above_at (suc c) 0 e d (first_place chunks (suc c) orders.some another) (outer.1 (suc c) e (omega arith) another))
        | inr last ↦
            let full : k ≡ length (get_or chunks c e).items = omega arith in
            absurd (omega (arith, ap (flat_at chunks c) full, next_at chunks c e lt, end_at chunks (suc c) 0 last, length-map (flat chunks) (entry_at entries), more))
      ]
    ]

    pub missing_within : BelongsAt (flat_at chunks c k) key (in_order entries (flat chunks))
    missing_within =
        belongs key (in_order entries (flat chunks)) (flat_at chunks c k) orders.rises
        (omega (arith, gap_in chunks c k (gap_from chunks c k e lt inside), length-map (flat chunks) (entry_at entries)))
        (λ some. last_below) first_above
