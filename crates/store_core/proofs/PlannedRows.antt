-- The extents of rows, one after the other, and the entries of a memory table, one after the other.
use Rattle.std.proofs.Common.{◌≡◌, ◌∙◌, ◌<◌, ◌+◌, ℕ, zero, suc, Bool, false, cond, not, List, [], ◌∷◌, ◌++◌, length, map, take, get_or, refl, sym, ap, subst, arith, append_assoc}
use Rattle.std.specs.List.{AllByRecursion}
use Rattle.std.specs.List.Sorted.{IsPermutation}
use Rattle.std.proofs.lemmas.List.{append-nil, map-append, take_more}
use Rattle.std.proofs.lemmas.List.Elements.{recursion_from_All, All-from_recursion}
use Rattle.std.proofs.lemmas.List.Sorted.{All-permutation, IsPermutation-append_right, IsPermutation-cons, IsPermutation-middle, IsPermutation-trans}
use Rattle.block_model.specs.Block.{IsTable}
use Rattle.block_model.specs.Order.{Follow, is_any}
use Rattle.byte_fields.specs.declared.parts.Row.{Row}
use Rattle.entry_model.specs.Entries.{Entry, IsEntry, keys_of}
use Rattle.entry_model.specs.Newest.{entries_from}
use Rattle.extent_model.proofs.Free.{apart_mutual}
use Rattle.extent_model.proofs.Lists.{Pairs, all_pairs, pairs_of}
use Rattle.extent_model.specs.Extents.{AreApart, AreLaid, Extent, IsOnDevice}
use Rattle.key_base.specs.ByteOrder.{is_before}
use Rattle.manifest_model.specs.Rows.{extent_of}
use Rattle.map_model.specs.SortedMap.{Bytes}

-- ---- rows

at_row : (P : Extent → Type 0) (rows : List Row) (i : ℕ) (d : Row) → AllByRecursion P (map extent_of rows) → i < length rows → P (extent_of (get_or rows i d))
at_row P [] i d all lt = absurd (omega (arith, lt))
at_row P (row ∷ more) zero d all lt = all.0
at_row P (row ∷ more) (suc i) d all lt = at_row P more i d all.1 (omega (arith, lt))

apart_front : (rows : List Row) (i : ℕ) (d : Row) → Pairs AreApart (map extent_of rows) → i < length rows → AllByRecursion (AreApart (extent_of (get_or rows i d))) (map extent_of (take i rows))
apart_front [] i d pairs lt = absurd (omega (arith, lt))
apart_front (row ∷ more) zero d pairs lt = tt
apart_front (row ∷ more) (suc i) d pairs lt = (
  apart_mutual (extent_of row) (extent_of (get_or more i d)) (at_row (AreApart (extent_of row)) more i d pairs.0 (omega (arith, lt))),
  apart_front more i d pairs.1 (omega (arith, lt)),
)

-- what some extents have, and others, all of them have
pub all_of_both : {X : Type 0} (P : X → Type 0) (xs ys : List X) → AllByRecursion P xs → AllByRecursion P ys → AllByRecursion P (xs ++ ys)
all_of_both P [] ys first second = second
all_of_both P (x ∷ xs) ys first second = (first.0, all_of_both P xs ys first.1 second)

pub first_of_both : {X : Type 0} (P : X → Type 0) (xs ys : List X) → AllByRecursion P (xs ++ ys) → AllByRecursion P xs
first_of_both P [] ys all = tt
first_of_both P (x ∷ xs) ys all = (all.0, first_of_both P xs ys all.1)

pub second_of_both : {X : Type 0} (P : X → Type 0) (xs ys : List X) → AllByRecursion P (xs ++ ys) → AllByRecursion P ys
second_of_both P [] ys all = all
second_of_both P (x ∷ xs) ys all = second_of_both P xs ys all.1

pub all_in_order : (P : Extent → Type 0) (xs ys : List Extent) → IsPermutation xs ys → AllByRecursion P xs → AllByRecursion P ys
all_in_order P xs ys same all = recursion_from_All P ys (All-permutation P xs ys same (All-from_recursion P xs all))

-- those of the rows before one are taken beside some others, in some order
module _ (pages : ℕ) (rows : List Row) (laid : AreLaid pages (map extent_of rows)) (others : List Extent) (free : AllByRecursion (λ (e : Extent). AllByRecursion (AreApart e) others) (map extent_of rows))
    (i : ℕ) (d : Row) (there : i < length rows) where
  pub row_on_device : IsOnDevice pages (extent_of (get_or rows i d))
  row_on_device = at_row (IsOnDevice pages) rows i d laid.on_device there

  module _ (taken : List Extent) (same : IsPermutation (map extent_of (take i rows) ++ others) taken) where
    pub row_is_free : AllByRecursion (AreApart (extent_of (get_or rows i d))) taken
    row_is_free =
        let apart = AreApart (extent_of (get_or rows i d)) in
        all_in_order apart (map extent_of (take i rows) ++ others) taken same
        (all_of_both apart (map extent_of (take i rows)) others (apart_front rows i d (pairs_of AreApart (map extent_of rows) laid.apart) there)
        (at_row (λ (e : Extent). AllByRecursion (AreApart e) others) rows i d free there))

    pub row_is_taken : (now : List Extent) → IsPermutation (extent_of (get_or rows i d) ∷ taken) now → IsPermutation (map extent_of (take (i + 1) rows) ++ others) now
    row_is_taken now added =
        let row = extent_of (get_or rows i d) in
        let front = map extent_of (take i rows) in
        subst (λ (xs : List Extent). IsPermutation xs now)
        (sym (ap (λ (rs : List Row). map extent_of rs ++ others) (take_more rows i d there) ∙ ap (λ (xs : List Extent). xs ++ others) (map-append extent_of (take i rows) (get_or rows i d ∷ []))
        ∙ append_assoc front (row ∷ []) others))
        (IsPermutation-trans (front ++ row ∷ others) (row ∷ (front ++ others)) now (IsPermutation-middle front row others)
        (IsPermutation-trans (row ∷ (front ++ others)) (row ∷ taken) now (IsPermutation-cons row (front ++ others) taken same) added))

-- ---- a version's rows and the outputs of a merge

-- nothing is taken before the outputs
pub free_of_none : (xs : List Extent) → AllByRecursion (λ (e : Extent). AllByRecursion (AreApart e) []) xs
free_of_none [] = tt
free_of_none (e ∷ more) = (tt, free_of_none more)

free_of_rest : (xs ys taken : List Extent) → IsPermutation ys taken → Pairs AreApart (xs ++ ys) → AllByRecursion (λ (e : Extent). AllByRecursion (AreApart e) taken) xs
free_of_rest [] ys taken same pairs = tt
free_of_rest (e ∷ more) ys taken same pairs = (all_in_order (AreApart e) ys taken same (second_of_both (AreApart e) more ys pairs.0), free_of_rest more ys taken same pairs.1)

pairs_first : (xs ys : List Extent) → Pairs AreApart (xs ++ ys) → Pairs AreApart xs
pairs_first [] ys pairs = tt
pairs_first (e ∷ more) ys pairs = (first_of_both (AreApart e) more ys pairs.0, pairs_first more ys pairs.1)

pairs_second : (xs ys : List Extent) → Pairs AreApart (xs ++ ys) → Pairs AreApart ys
pairs_second [] ys pairs = pairs
pairs_second (e ∷ more) ys pairs = pairs_second more ys pairs.1

module _ (pages : ℕ) (rows outputs : List Row) (laid : AreLaid pages (map extent_of (rows ++ outputs))) where
  both_laid : AreLaid pages (map extent_of rows ++ map extent_of outputs)
  both_laid = subst (AreLaid pages) (map-append extent_of rows outputs) laid

  both_apart : Pairs AreApart (map extent_of rows ++ map extent_of outputs)
  both_apart = pairs_of AreApart (map extent_of rows ++ map extent_of outputs) both_laid.apart

  pub rows_laid : AreLaid pages (map extent_of rows)
  rows_laid = record {
    on_device = first_of_both (IsOnDevice pages) (map extent_of rows) (map extent_of outputs) both_laid.on_device;
    apart = all_pairs AreApart (map extent_of rows) (pairs_first (map extent_of rows) (map extent_of outputs) both_apart);
  }

  pub outputs_laid : AreLaid pages (map extent_of outputs)
  outputs_laid = record {
    on_device = second_of_both (IsOnDevice pages) (map extent_of rows) (map extent_of outputs) both_laid.on_device;
    apart = all_pairs AreApart (map extent_of outputs) (pairs_second (map extent_of rows) (map extent_of outputs) both_apart);
  }

  -- once the outputs are taken, in some order
  module _ (taken : List Extent) (same : IsPermutation (map extent_of outputs ++ []) taken) where
    outputs_taken : IsPermutation (map extent_of outputs) taken
    outputs_taken = subst (λ (xs : List Extent). IsPermutation xs taken) (append-nil (map extent_of outputs)) same

    pub rows_free : AllByRecursion (λ (e : Extent). AllByRecursion (AreApart e) taken) (map extent_of rows)
    rows_free = free_of_rest (map extent_of rows) (map extent_of outputs) taken outputs_taken both_apart

    pub both_taken : (now : List Extent) → IsPermutation (map extent_of rows ++ taken) now → IsPermutation (map extent_of (rows ++ outputs)) now
    both_taken now added =
        subst (λ (xs : List Extent). IsPermutation xs now) (sym (map-append extent_of rows outputs))
        (IsPermutation-trans (map extent_of rows ++ map extent_of outputs) (map extent_of rows ++ taken) now
        (IsPermutation-append_right (map extent_of rows) (map extent_of outputs) taken outputs_taken) added)

-- ---- entries

never_before : (key : Bytes) → is_before key [] ≡ false
never_before [] = refl
never_before (b ∷ key) = refl

-- no key is below the empty one
pub entries_from_all : (es : List Entry) → entries_from es [] ≡ es
entries_from_all [] = refl
entries_from_all (e ∷ more) =
    ap (λ (t : Bool). cond (not t) (e ∷ entries_from more []) (entries_from more [])) (never_before e.key) ∙ ap (λ (es : List Entry). e ∷ es) (entries_from_all more)

pub each_behind : {X : Type 0} (P : X → Type 0) (xs : List X) (y : X) (ys : List X) → AllByRecursion P (xs ++ y ∷ ys) → P y
each_behind P [] y ys all = all.0
each_behind P (x ∷ xs) y ys all = each_behind P xs y ys all.1

pub front_follows : (test : Bytes → Bool) (a b : List Entry) → Follow test (keys_of (a ++ b)) → Follow test (keys_of a)
front_follows test [] b f = tt
front_follows test (e ∷ a) b f = (f.0, front_follows (is_before e.key) a b f.1)

-- an entry of a table after some others, and before the rest
module _ (all front : List Entry) (e : Entry) (rest : List Entry) (are : front ++ e ∷ rest ≡ all) (table : IsTable all) where
  here : IsTable (front ++ e ∷ rest)
  here = subst IsTable (sym are) table

  pub entry_is_sound : IsEntry e
  entry_is_sound = each_behind IsEntry front e rest here.sound.each

  pub entry_follows : Follow is_any (keys_of (front ++ e ∷ []))
  entry_follows = front_follows is_any (front ++ e ∷ []) rest (subst (λ (es : List Entry). Follow is_any (keys_of es)) (sym (append_assoc front (e ∷ []) rest)) here.rising)
