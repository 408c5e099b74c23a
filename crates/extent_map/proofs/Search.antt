-- One pass over extents in the order of their pages: what is known of the gaps before the page that it has come to.
use Rattle.std.proofs.Common.{◌≡◌, ◌⊎◌, inl, inr, ℕ, ◌<◌, ◌≤◌, ◌+◌, List, [], ◌∷◌, ◌++◌, Bool, true, false, cond, length, map, get_or, take, drop, append_assoc, append-nil, refl, sym, ap, ◌∙◌, subst, arith}
use Rattle.std.specs.Prelude.{Some, None, filter, fold, max, min, nat_le}
use Rattle.std.proofs.lemmas.Bool.{cases_lt, le-leb}
use Rattle.std.proofs.lemmas.List.{take-append-drop, drop_more, drop_all, take_more}
use Rattle.std.specs.List.{AllByRecursion}
use Rattle.extent_model.specs.Extents.{Extent, end_of, IsOnDevice, AreApart}
use Rattle.extent_model.specs.Gaps.{first_gap, gap_starts, largest_gap, least, room_at}
use Rattle.extent_model.proofs.AllGaps.{first_is_first, largest_is_enough}
use Rattle.extent_model.proofs.Free.{gap_is_free}
use Rattle.extent_model.proofs.Rooms.{no_gap, gap_small}
use Rattle.extent_map.specs.Taken.{RiseFrom, Taken}
use Rattle.extent_map.proofs.Order.{from_page, laid, lower, within}

-- so many pages are free from a page on
abbrev pub IsFree : ℕ → List Extent → ℕ → ℕ → Type 0
IsFree pages xs page n = IsOnDevice pages (page, n) × AllByRecursion (AreApart (page, n)) xs

-- The extents before the page are done, and those from it on are left.
pub record Searched (pages need page largest : ℕ) (done left : List Extent) : Type 0 where
  pub from : 192 ≤ page
  pub rise : RiseFrom pages page left
  pub behind : AllByRecursion (λ (x : Extent). end_of x ≤ page) done
  pub small : 0 < need → largest < need
  -- where none are asked for, the first page is a gap
  pub none_asked : need ≡ 0 → page ≡ 192
  -- free pages that do not lie behind the page are no more than the largest gap so far
  pub most : (first n : ℕ) → IsFree pages done first n → (page ≤ first) ⊎ (n ≤ largest)
  -- and there are as many
  pub met : (largest ≡ 0) ⊎ ((first : ℕ) × IsFree pages (done ++ left) first largest)

all_joined : (P : Extent → Type 0) (xs ys : List Extent) → AllByRecursion P xs → AllByRecursion P ys → AllByRecursion P (xs ++ ys)
all_joined P [] ys a b = b
all_joined P (x ∷ more) ys a b = (a.0, all_joined P more ys a.1 b)

all_before : (P : Extent → Type 0) (xs ys : List Extent) → AllByRecursion P (xs ++ ys) → AllByRecursion P xs
all_before P [] ys all = tt
all_before P (x ∷ more) ys all = (all.0, all_before P more ys all.1)

all_after : (P : Extent → Type 0) (xs ys : List Extent) → AllByRecursion P (xs ++ ys) → AllByRecursion P ys
all_after P [] ys all = all
all_after P (x ∷ more) ys all = all_after P more ys all.1

all_weaker : (P Q : Extent → Type 0) (xs : List Extent) → ((x : Extent) → P x → Q x) → AllByRecursion P xs → AllByRecursion Q xs
all_weaker P Q [] weaker all = tt
all_weaker P Q (x ∷ more) weaker all = (weaker x all.0, all_weaker P Q more weaker all.1)

pub begun : (pages need : ℕ) (xs : List Extent) → RiseFrom pages 192 xs → Searched pages need 192 0 [] xs
begun pages need xs rise = record { from = omega arith; rise = rise; behind = tt; small = λ some. some; none_asked = λ none. refl; most = λ first n free. inl free.0.from; met = inl refl }

-- pages from here up to the next extent, or to the device's end, are free
module _ (pages need page largest : ℕ) (done : List Extent) where
  pub here_free : (left : List Extent) (n : ℕ) → Searched pages need page largest done left → 0 < n → page + n ≤ pages
      → AllByRecursion (λ (x : Extent). page + n ≤ x.0) left → IsFree pages (done ++ left) page n
  here_free left n s some upto before = (
    record { some = some; from = s.from; to = upto },
    all_joined (AreApart (page, n)) done left
        (all_weaker (λ (x : Extent). end_of x ≤ page) (AreApart (page, n)) done (λ x l. inr l) s.behind)
        (all_weaker (λ (x : Extent). page + n ≤ x.0) (AreApart (page, n)) left (λ x l. inl l) before),
  )

  pub before_next : (x : Extent) (later : List Extent) (n : ℕ) → Searched pages need page largest done (x ∷ later) → 0 < n → page + n ≤ x.0 → IsFree pages (done ++ x ∷ later) page n
  before_next x later n s some upto =
      let ends = within pages (end_of x) later s.rise.2 in
      here_free (x ∷ later) n s some (omega (arith, upto, ends))
      (upto, all_weaker (λ (y : Extent). end_of x ≤ y.0) (λ (y : Extent). page + n ≤ y.0) later (λ y l. omega (arith, l, upto)) (from_page pages (end_of x) later s.rise.2))

  pub before_end : (n : ℕ) → Searched pages need page largest done [] → 0 < n → page + n ≤ pages → IsFree pages (done ++ []) page n
  before_end n s some upto = here_free [] n s some upto tt

-- A free place for so many that begins at the page: it is the first gap.
pub is_first : (pages need page largest : ℕ) (done left : List Extent) → RiseFrom pages 192 (done ++ left) → Searched pages need page largest done left
    → IsFree pages (done ++ left) page need → first_gap pages (done ++ left) need ≡ Some page
is_first pages need page largest done left rise s free =
    let xs = done ++ left in
    let on = (laid pages xs rise).on_device in
    elim (first_gap pages xs need) as (λ r. first_gap pages xs need ≡ r → r ≡ Some page) [
      | None ↦ λ e. let less = no_gap pages xs need e in let enough = largest_is_enough pages page need xs free.0 on free.1 in absurd (omega (arith, less, enough))
      | Some start ↦ λ e.
          let le = first_is_first pages page need start xs free.0 on free.1 e in
          let gap = gap_is_free pages xs need start free.0.some on e in
          let ge : page ≤ start = elim (s.most start need (gap.0, all_before (AreApart (start, need)) done left gap.1)) [ inl l ↦ l | inr l ↦ absurd (let less = s.small free.0.some in omega (arith, l, less)) ] in
          let same : start ≡ page = omega (arith, le, ge) in ap (λ (p : ℕ). Some p) same
    ] refl

-- the largest gap is one that was met, or the last room
pub is_largest : (pages need page largest room : ℕ) (xs : List Extent) → RiseFrom pages 192 xs → Searched pages need page largest xs [] → page + room ≡ pages
    → largest_gap pages xs ≡ max room largest
is_largest pages need page largest room xs rise s is = omega (arith, up, down)
  where
    on : AllByRecursion (IsOnDevice pages) xs
    on = (laid pages xs rise).on_device

    enough : (n : ℕ) → (n ≡ 0) ⊎ ((first : ℕ) × IsFree pages xs first n) → n ≤ largest_gap pages xs
    enough n (inl none) = omega (arith, none)
    enough n (inr met) = largest_is_enough pages met.0 n xs met.1.0 on met.1.1

    no_more : ((first n : ℕ) → IsFree pages xs first n → n ≤ max room largest) → largest_gap pages xs ≤ max room largest
    no_more bound = elim (cases_lt (max room largest) (largest_gap pages xs)) [
      | inr le ↦ le
      | inl over ↦
          let n = largest_gap pages xs in
          elim (first_gap pages xs n) as (λ r. first_gap pages xs n ≡ r → n ≤ max room largest) [
            | None ↦ λ e. let less = no_gap pages xs n e in absurd (omega (arith, less))
            | Some start ↦ λ e. let free = gap_is_free pages xs n start (omega (arith, over)) on e in bound start n free
          ] refl
    ]

    up : largest_gap pages xs ≤ max room largest
    up = no_more (λ first n free. elim (s.most first n free) [ inl behind ↦ let to = free.0.to in omega (arith, behind, to, is) | inr le ↦ omega (arith, le) ])

    met_all : (largest ≡ 0) ⊎ ((first : ℕ) × IsFree pages xs first largest)
    met_all = elim s.met [ inl none ↦ inl none | inr met ↦ inr (met.0, (met.1.0, all_before (AreApart (met.0, largest)) xs [] met.1.1)) ]

    last : (room ≡ 0) ⊎ ((first : ℕ) × IsFree pages xs first room)
    last = elim (cases_lt 0 room) [
      | inl some ↦ let free = before_end pages need page largest xs room s some (omega (arith, is)) in inr (page, (free.0, all_before (AreApart (page, room)) xs [] free.1))
      | inr none ↦ inl (omega (arith, none))
    ]

    down : max room largest ≤ largest_gap pages xs
    down = let a = enough largest met_all in let b = enough room last in omega (arith, a, b)

-- one extent more
pub goes_on : (pages need page largest room : ℕ) (done later : List Extent) (x : Extent) → Searched pages need page largest done (x ∷ later) → page + room ≡ x.0 → room < need
    → Searched pages need (end_of x) (max room largest) (done ++ x ∷ []) later
goes_on pages need page largest room done later x s is short = record {
  from = omega (arith, s.from, is);
  rise = s.rise.2;
  behind = all_joined (λ (y : Extent). end_of y ≤ end_of x) done (x ∷ []) (all_weaker (λ (y : Extent). end_of y ≤ page) (λ (y : Extent). end_of y ≤ end_of x) done (λ y l. omega (arith, l, is)) s.behind) (omega arith, tt);
  small = λ some. let less = s.small some in omega (arith, short, less);
  none_asked = λ none. absurd (omega (arith, short, none));
  most = λ first n free.
      elim (s.most first n (free.0, all_before (AreApart (first, n)) done (x ∷ []) free.1)) [
        | inr le ↦ inr (omega (arith, le))
        | inl from ↦ elim (all_after (AreApart (first, n)) done (x ∷ []) free.1).0 [ inl before ↦ inr (omega (arith, before, from, is)) | inr after ↦ inl after ]
      ];
  met = subst (λ (ys : List Extent). (max room largest ≡ 0) ⊎ ((first : ℕ) × IsFree pages ys first (max room largest))) (sym (append_assoc done (x ∷ []) later)) greater;
} where
  last : (room ≡ 0) ⊎ ((first : ℕ) × IsFree pages (done ++ x ∷ later) first room)
  last = elim (cases_lt 0 room) [
    | inl some ↦ inr (page, before_next pages need page largest done x later room s some (omega (arith, is)))
    | inr none ↦ inl (omega (arith, none))
  ]

  greater : (max room largest ≡ 0) ⊎ ((first : ℕ) × IsFree pages (done ++ x ∷ later) first (max room largest))
  greater = elim (nat_le room largest) as (λ t. nat_le room largest ≡ t → (max room largest ≡ 0) ⊎ ((first : ℕ) × IsFree pages (done ++ x ∷ later) first (max room largest))) [
    | true ↦ λ e. let is : max room largest ≡ largest = grind arith in subst (λ (n : ℕ). (n ≡ 0) ⊎ ((first : ℕ) × IsFree pages (done ++ x ∷ later) first n)) (sym is) s.met
    | false ↦ λ e. let is : max room largest ≡ room = grind arith in subst (λ (n : ℕ). (n ≡ 0) ⊎ ((first : ℕ) × IsFree pages (done ++ x ∷ later) first n)) (sym is) last
  ] refl

-- ---- no pages: the first page of tables begins such a gap

all_kept : (room : ℕ → ℕ) (starts : List ℕ) → filter (λ page. nat_le 0 (room page)) starts ≡ starts
all_kept room [] = refl
all_kept room (page ∷ starts) =
    ap (λ (t : Bool). cond t (page ∷ filter (λ page. nat_le 0 (room page)) starts) (filter (λ page. nat_le 0 (room page)) starts)) (le-leb 0 (room page) (omega arith))
    ∙ ap (λ (l : List ℕ). page ∷ l) (all_kept room starts)

least_stays : (n : ℕ) (ns : List ℕ) → AllByRecursion (λ (m : ℕ). n ≤ m) ns → fold min n ns ≡ n
least_stays n [] all = refl
least_stays n (m ∷ ns) all = let here = all.0 in let same : min n m ≡ n = grind (arith, here) in ap (λ (k : ℕ). fold min k ns) same ∙ least_stays n ns all.1

ends_behind : (pages page : ℕ) (xs : List Extent) → RiseFrom pages page xs → AllByRecursion (λ (m : ℕ). page ≤ m) (map end_of xs)
ends_behind pages page [] rise = tt
ends_behind pages page (x ∷ later) rise =
    (omega (arith, rise.0), ends_behind pages page later (lower pages page (end_of x) later (omega (arith, rise.0)) rise.2))

gap_of_none : (pages : ℕ) (xs : List Extent) → RiseFrom pages 192 xs → first_gap pages xs 0 ≡ Some 192
gap_of_none pages xs rise =
    ap least (all_kept (room_at pages xs) (gap_starts xs)) ∙ ap (λ (n : ℕ). Some n) (least_stays 192 (map end_of xs) (ends_behind pages 192 xs rise))

-- ---- by the place in the list that the pass has come to

module _ (t : Taken) (xs : List Extent) (is : xs ≡ t.extents) (rise : RiseFrom t.pages 192 t.extents) (need page largest i room : ℕ)
    (s : Searched t.pages need page largest (take i xs) (drop i xs)) where
  whole : take i xs ++ drop i xs ≡ t.extents
  whole = take-append-drop i xs ∙ is

  rises : RiseFrom t.pages 192 (take i xs ++ drop i xs)
  rises = subst (RiseFrom t.pages 192) (sym whole) rise

  first_here : IsFree t.pages (take i xs ++ drop i xs) page need → first_gap t.pages t.extents need ≡ Some page
  first_here free = subst (λ (ys : List Extent). first_gap t.pages ys need ≡ Some page) whole (is_first t.pages need page largest (take i xs) (drop i xs) rises s free)

  first_page : need ≡ 0 → first_gap t.pages t.extents need ≡ Some page
  first_page none =
      ap (first_gap t.pages t.extents) none ∙ gap_of_none t.pages t.extents rise ∙ ap (λ (n : ℕ). Some n) (sym (s.none_asked none))

  next_gap : (d : Extent) → 0 < need → i < length xs → page + room ≡ (get_or xs i d).0 → need ≤ room → first_gap t.pages t.extents need ≡ Some page
  next_gap d some lt at enough =
      let next = drop_more xs i d lt in
      let free = before_next t.pages need page largest (take i xs) (get_or xs i d) (drop (i + 1) xs) need (subst (Searched t.pages need page largest (take i xs)) next s) some (omega (arith, at, enough)) in
      first_here (subst (λ (ys : List Extent). IsFree t.pages (take i xs ++ ys) page need) (sym next) free)

  pub is_next : (d : Extent) → i < length xs → page + room ≡ (get_or xs i d).0 → need ≤ room → first_gap t.pages t.extents need ≡ Some page
  is_next d lt at enough = elim (cases_lt 0 need) [ inl some ↦ next_gap d some lt at enough | inr none ↦ first_page (omega (arith, none)) ]

  none_left : length xs ≤ i → Searched t.pages need page largest xs []
  none_left all =
      let none : drop i xs ≡ [] = drop_all i xs all in
      let done : take i xs ≡ xs = sym (append-nil (take i xs)) ∙ ap (λ (ys : List Extent). take i xs ++ ys) (sym none) ∙ take-append-drop i xs in
      subst (λ (ys : List Extent). Searched t.pages need page largest ys []) done (subst (Searched t.pages need page largest (take i xs)) none s)

  last_gap : 0 < need → length xs ≤ i → page + room ≡ t.pages → need ≤ room → first_gap t.pages t.extents need ≡ Some page
  last_gap some all at enough =
      let free = before_end t.pages need page largest xs need (none_left all) some (omega (arith, at, enough)) in
      subst (λ (ys : List Extent). first_gap t.pages ys need ≡ Some page) (append-nil xs ∙ is) (is_first t.pages need page largest xs [] (subst (RiseFrom t.pages 192) (sym (append-nil xs ∙ is)) rise) (none_left all) free)

  pub is_last : length xs ≤ i → page + room ≡ t.pages → need ≤ room → first_gap t.pages t.extents need ≡ Some page
  is_last all at enough = elim (cases_lt 0 need) [ inl some ↦ last_gap some all at enough | inr none ↦ first_page (omega (arith, none)) ]

  pub largest_is : length xs ≤ i → page + room ≡ t.pages → largest_gap t.pages t.extents ≡ max room largest
  largest_is all at =
      subst (λ (ys : List Extent). largest_gap t.pages ys ≡ max room largest) is (is_largest t.pages need page largest room xs (subst (RiseFrom t.pages 192) (sym is) rise) (none_left all) at)

  pub next : (d : Extent) → i < length xs → page + room ≡ (get_or xs i d).0 → room < need
      → Searched t.pages need (end_of (get_or xs i d)) (max room largest) (take (i + 1) xs) (drop (i + 1) xs)
  next d lt at short =
      subst (λ (ys : List Extent). Searched t.pages need (end_of (get_or xs i d)) (max room largest) ys (drop (i + 1) xs)) (sym (take_more xs i d lt))
      (goes_on t.pages need page largest room (take i xs) (drop (i + 1) xs) (get_or xs i d) (subst (Searched t.pages need page largest (take i xs)) (drop_more xs i d lt) s) at short)

  pub next_on_device : (d : Extent) → i < length xs → (page ≤ (get_or xs i d).0) × (end_of (get_or xs i d) ≤ t.pages)
  next_on_device d lt =
      let left = subst (RiseFrom t.pages page) (drop_more xs i d lt) s.rise in
      (left.0, within t.pages (end_of (get_or xs i d)) (drop (i + 1) xs) left.2)

-- where there is a first gap, the largest is no less
pub none_less : (t : Taken) (need page : ℕ) → first_gap t.pages t.extents need ≡ Some page → largest_gap t.pages t.extents < need → ⊥
none_less t need page e less = let none = gap_small t.pages t.extents need less in let never : Some page ≡ None = sym e ∙ none in absurd cc
