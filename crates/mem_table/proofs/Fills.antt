-- A table from sorted entries, of which the last of each key are kept.
use Rattle.std.proofs.Common.{◌≡◌, ◌≢◌, ℕ, zero, suc, ◌+◌, ◌-◌, ◌<◌, ◌≤◌, List, [], ◌∷◌, ◌++◌, length, take, drop, get_or, set, refl, sym, ap, ◌∙◌, subst, arith, Bool, true, false, cond, not, inl, inr}
use Rattle.std.specs.Option.{option_or}
use Rattle.std.specs.Prelude.{Option, Some, None, bytes_eq, filter, ◌&&◌}
use Rattle.std.specs.List.{AllByRecursion, swap, range_with_len}
use Rattle.std.specs.List.Sorted.{IsStableBy, ties}
use Rattle.std.specs.Ordering.{is_lt}
use Rattle.std.proofs.lemmas.List.{append-nil, length-set, length-take-le, take_more, take-set-le, drop-set-lt, get_or-take, get_or-drop, drop-drop}
use Rattle.std.proofs.lemmas.List.Edits.{swap_is, length-swap}
use Rattle.std.proofs.lemmas.List.FromFn.{length-range_with_len, fill_by_all}
use Rattle.std.proofs.lemmas.Bool.{cases_lt}
use Rattle.arrayvec.specs.ArrayVec.{ArrayVec}
use Rattle.std.proofs.Math.Seq.{take-suc-set, get_or-append_seam}
use Rattle.std.specs.Cmp.Lexicographic.{nat_list_cmp_total}
use Rattle.std.specs.declared.cmp.Ordering.{Ordering}
use Rattle.std.specs.declared.cmp.Ordering.TheVariants.{Less, Equal, Greater}
use Rattle.map_model.specs.SortedMap.{Bytes, byte_order, in_place}
use Rattle.entry_model.specs.Entries.{Entry, newest, entry_of}
use Rattle.map_model.proofs.Maps.{order_same, equal_keys, less_of_greater, by_order}
use Rattle.entry_model.specs.Newest.{ComesBefore, ComesBehind, KeysRise, with_entry, newest_entries}
use Rattle.mem_table.specs.Filling.{DoNotFall}
use Rattle.mem_table.specs.Chunks.{flat, entry_at, in_order, NoneEmpty, Orders}
use Rattle.entry_model.proofs.Newest.{above_apart, below_apart, newest_more, lookup_newest, rises_after, one_list}
use Rattle.mem_table.proofs.Places.{with_behind}

-- ---- a stable sort keeps what the last entry of each key says

abbrev pub is_less : Entry → Entry → Bool
is_less entry other = is_lt (byte_order entry.key other.key)

or_none : (found : Option (Option Bytes)) → option_or found None ≡ found
or_none None = refl
or_none (Some value) = refl

tied : (a b : Bytes) → byte_order a b ≡ Equal → (not (is_lt (byte_order a b)) && not (is_lt (byte_order b a))) ≡ true
tied a b equal =
    let back = order_same b a (sym (equal_keys a b equal)) in
    ap (λ (o : Ordering). not (is_lt o) && not (is_lt (byte_order b a))) equal ∙ ap (λ (o : Ordering). not (is_lt o)) back

untied_below : (a b : Bytes) → byte_order a b ≡ Less → (not (is_lt (byte_order a b)) && not (is_lt (byte_order b a))) ≡ false
untied_below a b less = ap (λ (o : Ordering). not (is_lt o) && not (is_lt (byte_order b a))) less

untied_above : (a b : Bytes) → byte_order a b ≡ Greater → (not (is_lt (byte_order a b)) && not (is_lt (byte_order b a))) ≡ false
untied_above a b greater =
    ap (λ (o : Ordering). not (is_lt o) && not (is_lt (byte_order b a))) greater ∙ ap (λ (o : Ordering). not (is_lt o)) (less_of_greater a b greater)

-- the entries of a key say all that is said of it
of_key : (x : Entry) (entries : List Entry) → newest (filter (ties is_less x) entries) x.key ≡ newest entries x.key
of_key x [] = refl
of_key x (entry ∷ more) =
    let other : bytes_eq entry.key x.key ≡ false → newest more x.key ≡ newest (entry ∷ more) x.key =
    λ no. sym (ap (λ (t : Bool). option_or (newest more x.key) (cond t (Some entry.value) None)) no ∙ or_none (newest more x.key)) in
    by_order (λ _. newest (filter (ties is_less x) (entry ∷ more)) x.key ≡ newest (entry ∷ more) x.key) x.key entry.key
    (λ less. ap (λ (t : Bool). newest (cond t (entry ∷ filter (ties is_less x) more) (filter (ties is_less x) more)) x.key) (untied_below x.key entry.key less)
    ∙ of_key x more ∙ other (above_apart x.key entry.key less))
    (λ equal. ap (λ (t : Bool). newest (cond t (entry ∷ filter (ties is_less x) more) (filter (ties is_less x) more)) x.key) (tied x.key entry.key equal)
    ∙ ap (λ (later : Option (Option Bytes)). option_or later (cond (bytes_eq entry.key x.key) (Some entry.value) None)) (of_key x more))
    (λ greater. ap (λ (t : Bool). newest (cond t (entry ∷ filter (ties is_less x) more) (filter (ties is_less x) more)) x.key) (untied_above x.key entry.key greater)
    ∙ of_key x more ∙ other (below_apart entry.key x.key (less_of_greater x.key entry.key greater)))

pub newest_sorted : (entries others : List Entry) → IsStableBy is_less entries others → newest_entries others ≡ newest_entries entries
newest_sorted entries others stable =
    one_list (newest_entries others) (newest_entries entries) (rises_after [] others tt) (rises_after [] entries tt) (λ key.
    let x = entry_of key None in
    lookup_newest others key
    ∙ sym (of_key x others) ∙ ap (λ (es : List Entry). newest es key) (stable x) ∙ of_key x entries
    ∙ sym (lookup_newest entries key))

-- ---- an entry behind entries with rising keys whose keys are not above its own

last_of : (P : Entry → Type 0) (front : List Entry) (x : Entry) → AllByRecursion P (front ++ x ∷ []) → P x
last_of P [] x all = all.0
last_of P (entry ∷ front) x all = last_of P front x all.1

below_last : (front : List Entry) (x : Entry) → KeysRise (front ++ x ∷ []) → AllByRecursion (ComesBefore x.key) front
below_last [] x rises = tt
below_last (entry ∷ front) x rises = (last_of (ComesBehind entry.key) front x rises.0, below_last front x rises.1)

below_same : (front : List Entry) (low key : Bytes) → low ≡ key → AllByRecursion (ComesBefore low) front → AllByRecursion (ComesBefore key) front
below_same front low key same all = subst (λ (k : Bytes). AllByRecursion (ComesBefore k) front) same all

below_more : (front : List Entry) (x : Entry) (key : Bytes) → byte_order x.key key ≡ Less → AllByRecursion (ComesBefore x.key) front → AllByRecursion (ComesBefore key) (front ++ x ∷ [])
below_more [] x key less all = (less, tt)
below_more (entry ∷ front) x key less all = (nat_list_cmp_total.trans entry.key x.key key all.0 less, below_more front x key less all.1)

pub replace_last : (front : List Entry) (x new : Entry) → KeysRise (front ++ x ∷ []) → x.key ≡ new.key → with_entry (front ++ x ∷ []) new ≡ front ++ new ∷ []
replace_last front x new rises same =
    with_behind front (x ∷ []) new (below_same front x.key new.key same (below_last front x rises))
    ∙ ap (λ (o : Ordering). front ++ in_place o new x [] (new ∷ [])) (order_same new.key x.key (sym same))

pub append_last : (front : List Entry) (x new : Entry) → KeysRise (front ++ x ∷ []) → byte_order x.key new.key ≡ Less → with_entry (front ++ x ∷ []) new ≡ (front ++ x ∷ []) ++ new ∷ []
append_last front x new rises less =
    ap (λ (es : List Entry). with_entry es new) (sym (append-nil (front ++ x ∷ [])))
    ∙ with_behind (front ++ x ∷ []) [] new (below_more front x new.key less (below_last front x rises))

-- ---- an exchange in the place where a list is kept

swap_front : (entries : List Entry) (k i : ℕ) (d : Entry) → k ≤ i → i < length entries → take (k + 1) (swap entries k i) ≡ take k entries ++ get_or entries i d ∷ []
swap_front entries k i d le lt =
    let one : k + 1 ≡ suc k = omega arith in
    let before = set entries k (get_or entries i d) in
    ap (take (k + 1)) (sym (swap_is entries k i d (omega arith) lt))
    ∙ elim (cases_lt k i) [
      | inl less ↦ take-set-le (k + 1) before i (get_or entries k d) (omega arith)
          ∙ ap (λ (n : ℕ). take n before) one ∙ take-suc-set entries k (get_or entries i d) (omega arith)
      | inr ge ↦
          let same : i ≡ k = omega arith in
          ap (λ (n : ℕ). take (k + 1) (set before n (get_or entries k d))) same
          ∙ ap (λ (n : ℕ). take n (set before k (get_or entries k d))) one
          ∙ take-suc-set before k (get_or entries k d) (omega (arith, length-set entries k (get_or entries i d)))
          ∙ ap (λ (es : List Entry). es ++ get_or entries k d ∷ []) (take-set-le k entries k (get_or entries i d) (omega arith))
          ∙ ap (λ (n : ℕ). take k entries ++ get_or entries n d ∷ []) (sym same)
    ]

swap_behind : (entries : List Entry) (k i : ℕ) → k ≤ i → i < length entries → drop (i + 1) (swap entries k i) ≡ drop (i + 1) entries
swap_behind entries k i le lt =
    let d = entry_of [] None in
    ap (drop (i + 1)) (sym (swap_is entries k i d (omega arith) lt))
    ∙ drop-set-lt (i + 1) (set entries k (get_or entries i d)) i (get_or entries k d) (omega arith)
    ∙ drop-set-lt (i + 1) entries k (get_or entries i d) (omega arith)

swap_at : (entries : List Entry) (k i : ℕ) (d : Entry) → k ≤ i → i < length entries → get_or (swap entries k i) k d ≡ get_or entries i d
swap_at entries k i d le lt =
    let long = length-take-le k entries (omega arith) in
    sym (get_or-take (k + 1) (swap entries k i) k d (omega arith))
    ∙ ap (λ (es : List Entry). get_or es k d) (swap_front entries k i d le lt)
    ∙ ap (λ (n : ℕ). get_or (take k entries ++ get_or entries i d ∷ []) n d) (sym long)
    ∙ get_or-append_seam (take k entries) (get_or entries i d) [] d

-- ---- the last of each key of the first i entries, at the front

pub record Kept (old entries : List Entry) (i kept : ℕ) : Type 0 where
  pub size : length entries ≡ length old
  pub within : kept ≤ i
  pub front : take kept entries ≡ newest_entries (take i old)
  pub behind : drop i entries ≡ drop i old
  pub last : 0 < i → (d : Entry) → (0 < kept) × ((get_or entries (kept - 1) d).key ≡ (get_or old (i - 1) d).key)

pub kept_none : (old : List Entry) → Kept old old 0 0
kept_none old = record { size = refl; within = omega arith; front = refl; behind = refl; last = λ lt. absurd (omega arith) }

module _ (old entries : List Entry) (i kept : ℕ) (k : Kept old entries i kept) (lt : i < length old) where
  here : (d : Entry) → get_or entries i d ≡ get_or old i d
  here d =
      let zero_more : i + 0 ≡ i = omega arith in
      ap (λ (n : ℕ). get_or entries n d) (sym zero_more) ∙ sym (get_or-drop i entries 0 d) ∙ ap (λ (es : List Entry). get_or es 0 d) k.behind ∙ get_or-drop i old 0 d ∙ ap (λ (n : ℕ). get_or old n d) zero_more

  next_front : (d : Entry) → newest_entries (take (i + 1) old) ≡ with_entry (take kept entries) (get_or entries i d)
  next_front d =
      ap newest_entries (take_more old i d lt) ∙ newest_more (take i old) (get_or old i d)
      ∙ ap (with_entry (newest_entries (take i old))) (sym (here d)) ∙ ap (λ (es : List Entry). with_entry es (get_or entries i d)) (sym k.front)

  next_behind : (at : ℕ) → at ≤ i → drop (i + 1) (swap entries at i) ≡ drop (i + 1) old
  next_behind at le =
      let one : i + 1 ≡ suc i = omega arith in
      swap_behind entries at i le (omega (arith, k.size)) ∙ behind_more entries old k.behind
    where
      behind_more : (xs ys : List Entry) → drop i xs ≡ drop i ys → drop (i + 1) xs ≡ drop (i + 1) ys
      behind_more xs ys same = sym (drop-drop 1 i xs) ∙ ap (drop 1) same ∙ drop-drop 1 i ys

  split : (d : Entry) → 0 < kept → take kept entries ≡ take (kept - 1) entries ++ get_or entries (kept - 1) d ∷ []
  split d some = let one : kept ≡ kept - 1 + 1 = omega arith in ap (λ (n : ℕ). take n entries) one ∙ take_more entries (kept - 1) d (omega (arith, k.size, k.within))

  rises : KeysRise (take kept entries)
  rises = subst KeysRise (sym k.front) (rises_after [] (take i old) tt)

  -- one of the same key as the last goes in its place
  pub kept_same : (d : Entry) → 0 < kept → (get_or entries (kept - 1) d).key ≡ (get_or entries i d).key → Kept old (swap entries (kept - 1) i) (i + 1) kept
  kept_same d some same =
      let le : kept - 1 ≤ i = omega (arith, k.within) in
      let inside : i < length entries = omega (arith, k.size) in
      let one : kept ≡ kept - 1 + 1 = omega arith in
      record {
        size = length-swap entries (kept - 1) i ∙ k.size;
        within = omega (arith, k.within);
        front =
            ap (λ (n : ℕ). take n (swap entries (kept - 1) i)) one ∙ swap_front entries (kept - 1) i d le inside
            ∙ sym (replace_last (take (kept - 1) entries) (get_or entries (kept - 1) d) (get_or entries i d) (subst KeysRise (split d some) rises) same)
            ∙ ap (λ (es : List Entry). with_entry es (get_or entries i d)) (sym (split d some)) ∙ sym (next_front d);
        behind = next_behind (kept - 1) le;
        last = λ _ e. (some, ap (λ (x : Entry). x.key) (swap_at entries (kept - 1) i e le inside ∙ here e) ∙ last_is e);
      }
    where
      last_is : (e : Entry) → (get_or old i e).key ≡ (get_or old (i + 1 - 1) e).key
      last_is e = let one : i ≡ i + 1 - 1 = omega arith in ap (λ (n : ℕ). (get_or old n e).key) one

  -- one of another key goes behind the last
  pub kept_other : (d : Entry) → DoNotFall old → (0 < kept → (get_or entries (kept - 1) d).key ≢ (get_or entries i d).key) → Kept old (swap entries kept i) (i + 1) (kept + 1)
  kept_other d sorted other =
      let inside : i < length entries = omega (arith, k.size) in
      record {
        size = length-swap entries kept i ∙ k.size;
        within = omega (arith, k.within);
        front = swap_front entries kept i d k.within inside ∙ sym (next_front d ∙ behind_last);
        behind = next_behind kept k.within;
        last = λ _ e. (
          omega arith,
          ap (λ (n : ℕ). (get_or (swap entries kept i) n e).key) (back kept) ∙ ap (λ (x : Entry). x.key) (swap_at entries kept i e k.within inside ∙ here e)
              ∙ ap (λ (n : ℕ). (get_or old n e).key) (sym (back i)),
        );
      }
    where
      back : (n : ℕ) → n + 1 - 1 ≡ n
      back n = omega arith

      above : 0 < kept → byte_order (get_or entries (kept - 1) d).key (get_or entries i d).key ≡ Less
      above some =
          let a = (get_or entries (kept - 1) d).key in
          let b = (get_or entries i d).key in
          let first : 0 < i = omega (arith, k.within) in
          let low : a ≡ (get_or old (i - 1) d).key = (k.last first d).1 in
          let next : i - 1 + 1 ≡ i = omega arith in
          let not_less : is_lt (byte_order b a) ≡ false =
          ap (λ (x : Bytes). is_lt (byte_order b x)) low ∙ ap (λ (x : Entry). is_lt (byte_order x.key (get_or old (i - 1) d).key)) (here d)
          ∙ ap (λ (n : ℕ). is_lt (byte_order (get_or old n d).key (get_or old (i - 1) d).key)) (sym next) ∙ sorted (i - 1) d (omega arith) (omega arith) in
          by_order (λ _. byte_order a b ≡ Less) b a
          (λ less. let no : true ≡ false = sym (ap is_lt less) ∙ not_less in absurd cc)
          (λ equal. absurd (other some (sym (equal_keys b a equal))))
          (λ greater. less_of_greater b a greater)

      behind_last : with_entry (take kept entries) (get_or entries i d) ≡ take kept entries ++ get_or entries i d ∷ []
      behind_last = elim (cases_lt 0 kept) [
        | inl some ↦
            let parts = split d some in
            subst (λ (es : List Entry). with_entry es (get_or entries i d) ≡ es ++ get_or entries i d ∷ []) (sym parts)
            (append_last (take (kept - 1) entries) (get_or entries (kept - 1) d) (get_or entries i d) (subst KeysRise parts rises) (above some))
        | inr none ↦
            let no : kept ≡ 0 = omega arith in
            ap (λ (n : ℕ). with_entry (take n entries) (get_or entries i d)) no ∙ ap (λ (n : ℕ). take n entries ++ get_or entries i d ∷ []) (sym no)
      ]

-- ---- entries whose order is that in which they stand

pub row_shows : (entries : List Entry) (chunks : List (ArrayVec ℕ)) → flat chunks ≡ range_with_len 0 (length entries) → in_order entries (flat chunks) ≡ entries
row_shows entries chunks is = ap (in_order entries) is ∙ sym (fill_by_all (entry_at entries) entries (length entries) (entry_of [] None) refl (λ k lt. refl))

row_within : (most from n : ℕ) → from + n ≤ most → AllByRecursion (λ p. p < most) (range_with_len from n)
row_within most from zero le = tt
row_within most from (suc n) le = (omega arith, row_within most (from + 1) n (omega arith))

pub row_orders : (entries : List Entry) (chunks : List (ArrayVec ℕ)) → flat chunks ≡ range_with_len 0 (length entries) → NoneEmpty chunks → KeysRise entries → Orders chunks entries
row_orders entries chunks is some rises = record {
  rises = subst KeysRise (sym (row_shows entries chunks is)) rises;
  within = subst (λ (ps : List ℕ). AllByRecursion (λ p. p < length entries) ps) (sym is) (row_within (length entries) 0 (length entries) (omega arith));
  few = omega (arith, ap (λ (ps : List ℕ). length ps) is, length-range_with_len 0 (length entries));
  some = some;
}
