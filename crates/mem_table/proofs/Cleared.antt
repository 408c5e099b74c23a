-- Places that a range takes out of the order, and the entries that are left.
use Rattle.std.proofs.Common.{◌≡◌, ℕ, suc, ◌+◌, ◌<◌, ◌≤◌, List, [], ◌∷◌, ◌++◌, length, take, drop, get_or, set, refl, sym, ap, ap₂, ◌∙◌, subst, arith, Bool, true, false, cond, not}
use Rattle.std.proofs.lemmas.List.{append-nil, append_assoc, length-set, take_more, drop-set-lt, get_or-drop, drop-drop}
use Rattle.std.proofs.lemmas.List.Elements.{filter-append}
use Rattle.std.proofs.Math.Seq.{take-suc-set}
use Rattle.arrayvec.specs.ArrayVec.{ArrayVec}
use Rattle.std.specs.declared.cmp.Ordering.TheVariants.{Less, Equal, Greater}
use Rattle.map_model.specs.SortedMap.{byte_order, in_place}
use Rattle.entry_model.specs.Entries.{Entry, del_entry}
use Rattle.entry_model.specs.Newest.{KeysRise, with_entry}
use Rattle.mem_table.specs.Chunks.{flat, entry_at, in_order, places_outside, NoneEmpty, Orders}
use Rattle.mem_table.proofs.Flat.{some_push}
use Rattle.mem_table.proofs.Ordered.{AllWithin}
use Rattle.range_model.proofs.Shown.{rises_without}
use Rattle.range_model.proofs.KeyOrders.{is_before_of}
use Rattle.range_model.specs.Ranges.{DeletedRange, IsDeletedRange, is_covered, with_range}
use Rattle.range_model.specs.Sources.{Source, Clears, entries_outside, with_change, with_cleared}

module _ (entries : List Entry) (range : DeletedRange) where
  in_order_outside : (places : List ℕ) → in_order entries (places_outside entries range places) ≡ entries_outside (in_order entries places) range
  in_order_outside [] = refl
  in_order_outside (p ∷ more) = elim (is_covered range (entry_at entries p).key) as (λ t. in_order entries (cond (not t) (p ∷ places_outside entries range more) (places_outside entries range more)) ≡ cond (not t) (entry_at entries p ∷ entries_outside (in_order entries more) range) (entries_outside (in_order entries more) range)) [
    | true ↦ in_order_outside more
    | false ↦ ap (λ (es : List Entry). entry_at entries p ∷ es) (in_order_outside more)
  ]

  within_outside : (places : List ℕ) → AllWithin entries places → AllWithin entries (places_outside entries range places)
  within_outside [] within = tt
  within_outside (p ∷ more) within = elim (is_covered range (entry_at entries p).key) as (λ t. AllWithin entries (cond (not t) (p ∷ places_outside entries range more) (places_outside entries range more))) [
    | true ↦ within_outside more within.1
    | false ↦ (within.0, within_outside more within.1)
  ]

  few_outside : (places : List ℕ) → length (places_outside entries range places) ≤ length places
  few_outside [] = omega arith
  few_outside (p ∷ more) = elim (is_covered range (entry_at entries p).key) as (λ t. length (cond (not t) (p ∷ places_outside entries range more) (places_outside entries range more)) ≤ suc (length more)) [
    | true ↦ omega (arith, few_outside more)
    | false ↦ omega (arith, few_outside more)
  ]

  module _ (chunks others : List (ArrayVec ℕ)) (orders : Orders chunks entries) (is : flat others ≡ places_outside entries range (flat chunks)) where
    -- what is left is shown as it was
    pub cleared_shows : in_order entries (flat others) ≡ entries_outside (in_order entries (flat chunks)) range
    cleared_shows = ap (in_order entries) is ∙ in_order_outside (flat chunks)

    pub cleared_orders : NoneEmpty others → Orders others entries
    cleared_orders some = record {
      rises = subst KeysRise (sym cleared_shows) (rises_without (in_order entries (flat chunks)) range orders.rises);
      within = subst (AllWithin entries) (sym is) (within_outside (flat chunks) orders.within);
      few = omega (arith, ap (λ (ps : List ℕ). length ps) is, few_outside (flat chunks), orders.few);
      some = some;
    }

  -- ---- chunk by chunk

  flat_both : (xs ys : List (ArrayVec ℕ)) → flat (xs ++ ys) ≡ flat xs ++ flat ys
  flat_both [] ys = refl
  flat_both (x ∷ more) ys = ap (λ (l : List ℕ). x.items ++ l) (flat_both more ys) ∙ sym (append_assoc x.items (flat more) (flat ys))

  -- of the first i chunks what lies outside stands in the first ones, and the later ones are as they were
  pub record Taken (old chunks : List (ArrayVec ℕ)) (i kept : ℕ) : Type 0 where
    pub size : length chunks ≡ length old
    pub within : kept ≤ i
    pub front : flat (take kept chunks) ≡ places_outside entries range (flat (take i old))
    pub some : NoneEmpty (take kept chunks)
    pub behind : drop i chunks ≡ drop i old

  pub taken_none : (old : List (ArrayVec ℕ)) → Taken old old 0 0
  taken_none old = record { size = refl; within = omega arith; front = refl; some = tt; behind = refl }

  module _ (old chunks : List (ArrayVec ℕ)) (i kept : ℕ) (t : Taken old chunks i kept) (lt : i < length old) (left d : ArrayVec ℕ) (is : left.items ≡ places_outside entries range (get_or chunks i d).items) where
    here : get_or chunks i d ≡ get_or old i d
    here =
        let zero_more : i + 0 ≡ i = omega arith in
        ap (λ (n : ℕ). get_or chunks n d) (sym zero_more) ∙ sym (get_or-drop i chunks 0 d) ∙ ap (λ (cs : List (ArrayVec ℕ)). get_or cs 0 d) t.behind ∙ get_or-drop i old 0 d ∙ ap (λ (n : ℕ). get_or old n d) zero_more

    next_front : flat (take kept chunks) ++ left.items ≡ places_outside entries range (flat (take (i + 1) old))
    next_front =
        ap (λ (l : List ℕ). l ++ left.items) t.front
        ∙ ap (λ (l : List ℕ). places_outside entries range (flat (take i old)) ++ l) (is ∙ ap (λ (x : ArrayVec ℕ). places_outside entries range x.items) here)
        ∙ sym (filter-append (λ (p : ℕ). not (is_covered range (entry_at entries p).key)) (flat (take i old)) (get_or old i d).items)
        ∙ ap (λ (l : List ℕ). places_outside entries range (flat (take i old) ++ l)) (sym (append-nil (get_or old i d).items))
        ∙ ap (places_outside entries range) (sym (flat_both (take i old) (get_or old i d ∷ [])))
        ∙ ap (λ (cs : List (ArrayVec ℕ)). places_outside entries range (flat cs)) (sym (take_more old i d lt))

    behind_more : (xs ys : List (ArrayVec ℕ)) → drop i xs ≡ drop i ys → drop (i + 1) xs ≡ drop (i + 1) ys
    behind_more xs ys same = sym (drop-drop 1 i xs) ∙ ap (drop 1) same ∙ drop-drop 1 i ys

    -- nothing of the chunk is left
    pub taken_whole : left.items ≡ [] → Taken old chunks (i + 1) kept
    taken_whole none = record {
      size = t.size;
      within = omega (arith, t.within);
      front = sym (append-nil (flat (take kept chunks))) ∙ ap (λ (l : List ℕ). flat (take kept chunks) ++ l) (sym none) ∙ next_front;
      some = t.some;
      behind = behind_more chunks old t.behind;
    }

    -- something is
    pub taken_part : 0 < length left.items → Taken old (set chunks kept left) (i + 1) (kept + 1)
    taken_part some =
        let one : kept + 1 ≡ suc kept = omega arith in
        let first : take (kept + 1) (set chunks kept left) ≡ take kept chunks ++ left ∷ [] =
        ap (λ (n : ℕ). take n (set chunks kept left)) one ∙ take-suc-set chunks kept left (omega (arith, t.size, t.within, lt)) in
        record {
          size = length-set chunks kept left ∙ t.size;
          within = omega (arith, t.within);
          front = ap flat first ∙ flat_both (take kept chunks) (left ∷ []) ∙ ap (λ (l : List ℕ). flat (take kept chunks) ++ l) (append-nil left.items) ∙ next_front;
          some = subst NoneEmpty (sym first) (some_push (take kept chunks) left some t.some);
          behind = drop-set-lt (i + 1) chunks kept left (omega (arith, t.within)) ∙ behind_more chunks old t.behind;
        }

-- ---- the source

pub one_more : (entries : List Entry) (new : Entry) → length (with_entry entries new) ≤ length entries + 1
one_more [] new = omega arith
one_more (first ∷ more) new = elim (byte_order new.key first.key) as (λ o. length (in_place o new first more (with_entry more new)) ≤ suc (length more) + 1) [
  | Less ↦ omega arith
  | Equal ↦ omega arith
  | Greater ↦ omega (arith, one_more more new)
]

pub cleared_source : (old new : Source) (range : DeletedRange) → IsDeletedRange range → new.entries ≡ with_entry (entries_outside old.entries range) (del_entry range.lo) → new.ranges ≡ with_range old.ranges range
    → new ≡ with_change old (Clears range)
cleared_source old new range is entries ranges =
    ap₂ (λ (es : List Entry) (rs : List DeletedRange). record { entries = es; ranges = rs }) entries ranges
    ∙ sym (ap (λ (t : Bool). cond t (with_cleared old range) old) (is_before_of range.lo range.hi is))
