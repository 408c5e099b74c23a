-- One entry after the other, each of which shares with the key before all that both have alike: what each says of a key sought.
use Rattle.std.proofs.Common.{◌≡◌, ◌≤◌, ◌<◌, ◌+◌, ◌-◌, ◌%◌, ℕ, zero, suc, Bool, true, false, cond, List, [], ◌∷◌, length, take, drop, refl, sym, ap, ap₂, ◌∙◌, subst, arith, length-drop, length-take-le}
use Rattle.std.specs.Prelude.{Option, Some, None, ◌==◌, bytes_eq, if◌then◌else◌}
use Rattle.std.specs.Cmp.Lexicographic.{nat_list_cmp_total, texts_ties}
use Rattle.std.specs.Ordering.{is_eq, is_lt, ordering_reverse}
use Rattle.std.specs.declared.cmp.Ordering.TheVariants.{Less, Equal, Greater}
use Rattle.std.proofs.lemmas.Bool.{eqb-false, eqb-true}
use Rattle.std.proofs.lemmas.List.{drop-drop, drop_at}
use Rattle.std.proofs.lemmas.List.Sums.{common_prefix_len-le}
use Rattle.key_base.specs.ByteOrder.{byte_order, is_before}
use Rattle.key_base.specs.Prefixes.{alike}
use Rattle.key_base.proofs.Prefixes.{closer_decides, rests_decide}
use Rattle.map_model.specs.SortedMap.{Bytes}
use Rattle.entry_model.specs.Entries.{Entry, entry_of}
use Rattle.entry_model.specs.Newest.{lookup}
use Rattle.entry_model.specs.Reading.{kind_in}
use Rattle.block_model.specs.BlockReading.{entries_fault_by}
use Rattle.block_model.specs.Formats.{Prefixed, begins_anew, entries_by, key_by, rest_length_in, shared_in, value_by, value_length_by, wants_shared, width_by}
use Rattle.block_model.proofs.EntriesWritten.{rules_kept}
use Rattle.block_model.proofs.Refusals.{kept, neither}
use Rattle.block_format.specs.Finding.{IsClose, StandClose, alike_after}
use Rattle.block_format.proofs.Standing.{above_apart, less_of}

-- ---- entries of one group that break no rule

close_shared : (i s : ℕ) (before key : Bytes) → s ≡ wants_shared i before key → (begins_anew i ≡ true → before ≡ []) → s ≡ alike before key
close_shared i s before key is fresh = elim (begins_anew i) as (λ t. s ≡ cond t 0 (alike before key) → (t ≡ true → before ≡ []) → s ≡ alike before key) [
  | true ↦ λ none first. none ∙ ap (λ (b : Bytes). alike b key) (sym (first refl))
  | false ↦ λ all first. all
] is fresh

pub stand_close : (bytes : Bytes) (i n more place : ℕ) (before rest : Bytes) → entries_fault_by Prefixed bytes i more place before rest ≡ None → n ≤ more
    → (0 < n → begins_anew i ≡ true → before ≡ []) → i % 16 + n ≤ 16 → StandClose n before rest
unfolding entries_fault_by
stand_close bytes i zero more place before rest none le first few = tt
stand_close bytes i (suc n) zero place before rest none le first few = absurd (omega (arith, le))
stand_close bytes i (suc n) (suc more) place before rest none le first few =
    let both = neither _ _ (kept _ _ _ _ none).1 in
    let rules = rules_kept i place before rest both.0 in
    let w = width_by Prefixed rest in
    let key = key_by Prefixed before rest in
    let next : 0 < n → begins_anew (suc i) ≡ true → key ≡ [] = λ some anew. absurd (omega (arith, some, few, eqb-true (suc i % 16) 0 anew)) in
    let fewer : suc i % 16 + n ≤ 16 = omega (arith, few) in (
      record { within = rules.within; shares = close_shared i (shared_in Prefixed rest) before key rules.shares (first (omega arith)); above = rules.rises },
      stand_close bytes (suc i) n more (place + w) key (drop w rest) both.1 (omega (arith, le)) next fewer,
    )

-- ---- a key below the one before is none of them

pub none_after : (n : ℕ) (before key rest : Bytes) → byte_order key before ≡ Less → StandClose n before rest → lookup (entries_by Prefixed n before rest) key ≡ None
unfolding entries_by
none_after zero before key rest below stand = refl
none_after (suc n) before key rest below stand =
    let k = key_by Prefixed before rest in
    let w = width_by Prefixed rest in
    let here : byte_order key k ≡ Less = nat_list_cmp_total.trans key before k below (less_of (byte_order before k) stand.0.above) in
    let later = lookup (entries_by Prefixed n k (drop w rest)) key in
    ap (λ (t : Bool). cond t (Some (value_by Prefixed rest)) later) (above_apart key k here) ∙ none_after n k key (drop w rest) here stand.1

-- the key sought goes on after the first of them
pub record GoesOn (n : ℕ) (before rest key : Bytes) (common : ℕ) : Type 0 where
  pub said : lookup (entries_by Prefixed n before rest) key ≡ lookup (entries_by Prefixed (n - 1) (key_by Prefixed before rest) (drop (width_by Prefixed rest) rest)) key
  pub lower : is_before (key_by Prefixed before rest) key ≡ true
  pub common_is : common ≡ alike (key_by Prefixed before rest) key

-- ---- the first of them, after a key that is below the one sought

module _ (n : ℕ) (before rest key : Bytes) (some : 0 < n) (stand : StandClose n before rest) where
  abbrev here : Bytes
  here = key_by Prefixed before rest

  abbrev later : List Entry
  later = entries_by Prefixed (n - 1) here (drop (width_by Prefixed rest) rest)

  one_more : n ≡ suc (n - 1)
  one_more = omega (arith, some)

  first : StandClose (suc (n - 1)) before rest
  first = subst (λ (k : ℕ). StandClose k before rest) one_more stand

  pub close : IsClose before rest
  close = first.0

  pub others : StandClose (n - 1) (key_by Prefixed before rest) (drop (width_by Prefixed rest) rest)
  others = first.1

  pub fits : 9 + rest_length_in Prefixed rest + value_length_by Prefixed rest ≤ length rest
  unfolding width_by
  fits = omega (arith, first.0.within)

  cells : entries_by Prefixed n before rest ≡ entry_of here (value_by Prefixed rest) ∷ later
  unfolding entries_by
  cells = ap (λ (k : ℕ). entries_by Prefixed k before rest) one_more

  passed : byte_order here key ≡ Less → lookup (entries_by Prefixed n before rest) key ≡ lookup later key
  passed less = ap (λ (es : List Entry). lookup es key) cells
      ∙ ap (λ (t : Bool). cond t (Some (value_by Prefixed rest)) (lookup later key)) (texts_ties here key ∙ ap is_eq less)

  missing : byte_order key here ≡ Less → lookup (entries_by Prefixed n before rest) key ≡ None
  missing less = ap (λ (es : List Entry). lookup es key) cells
      ∙ ap (λ (t : Bool). cond t (Some (value_by Prefixed rest)) (lookup later key)) (above_apart key here less)
      ∙ none_after (n - 1) here key (drop (width_by Prefixed rest) rest) less others

  found : byte_order here key ≡ Equal → lookup (entries_by Prefixed n before rest) key ≡ Some (value_by Prefixed rest)
  found equal = ap (λ (es : List Entry). lookup es key) cells
      ∙ ap (λ (t : Bool). cond t (Some (value_by Prefixed rest)) (lookup later key)) (texts_ties here key ∙ ap is_eq equal)

  few : shared_in Prefixed rest ≤ length before
  few = omega (arith, close.shares, (common_prefix_len-le (λ a b. a == b) before here).0)

  -- it shares less with the key before than the one sought does, which is below it then
  pub shares_less : shared_in Prefixed rest < alike before key → lookup (entries_by Prefixed n before rest) key ≡ None
  shares_less lt =
      let less : byte_order before here ≡ Less = less_of (byte_order before here) close.above in
      missing ((closer_decides before key here (omega (arith, close.shares, lt))).0 ∙ less)

  abbrev own : Bytes
  own = take (rest_length_in Prefixed rest) (drop 9 rest)

  own_is : drop (shared_in Prefixed rest) here ≡ own
  unfolding key_by
  own_is = drop_at (take (shared_in Prefixed rest) before) own (shared_in Prefixed rest) (length-take-le (shared_in Prefixed rest) before few)

  -- it shares as much: the rests decide
  module _ (same : shared_in Prefixed rest ≡ alike before key) where
    abbrev sought : Bytes
    sought = drop (alike before key) key

    rests : (byte_order here key ≡ byte_order own sought) × (alike here key ≡ alike before key + alike own sought)
    rests =
        let s = shared_in Prefixed rest in
        let both = rests_decide s before here key (omega (arith, close.shares)) (omega (arith, same)) in (
          both.0 ∙ ap (λ (l : Bytes). byte_order l (drop s key)) own_is ∙ ap (λ (m : ℕ). byte_order own (drop m key)) same,
          both.1 ∙ ap (λ (l : Bytes). s + alike l (drop s key)) own_is ∙ ap (λ (m : ℕ). m + alike own (drop m key)) same,
        )

    rest_ends : is_before own sought ≡ false → lookup (entries_by Prefixed n before rest) key ≡ cond (bytes_eq own sought) (Some (value_by Prefixed rest)) None
    rest_ends not_below =
        let says = λ (t : Bool). cond {A = Option (Option Bytes)} t (Some (value_by Prefixed rest)) None in
        elim (byte_order own sought) as (λ o. byte_order own sought ≡ o → is_lt o ≡ false → lookup (entries_by Prefixed n before rest) key ≡ says (bytes_eq own sought)) [
          | Less ↦ λ _ never. absurd cc
          | Equal ↦ λ is _. found (rests.0 ∙ is) ∙ sym (ap says (texts_ties own sought ∙ ap is_eq is))
          | Greater ↦ λ is _. missing (nat_list_cmp_total.antisymm key here ∙ ap ordering_reverse (rests.0 ∙ is)) ∙ sym (ap says (texts_ties own sought ∙ ap is_eq is))
        ] refl not_below

  module _ (below : 0 < length before → is_before before key ≡ true) where
    shares_more : alike before key < shared_in Prefixed rest → GoesOn n before rest key (alike before key)
    shares_more lt =
        let both = closer_decides before here key (omega (arith, close.shares, lt)) in
        let less : byte_order before key ≡ Less = less_of (byte_order before key) (below (omega (arith, few, lt))) in
        record { said = passed (both.0 ∙ less); lower = ap is_lt (both.0 ∙ less); common_is = sym both.1 }

    shares_as_much : (same : shared_in Prefixed rest ≡ alike before key) → is_before own (drop (alike before key) key) ≡ true
        → GoesOn n before rest key (alike before key + alike own (drop (alike before key) key))
    shares_as_much same lower =
        let less : byte_order here key ≡ Less = (rests same).0 ∙ less_of (byte_order own (drop (alike before key) key)) lower in
        record { said = passed less; lower = ap is_lt less; common_is = sym (rests same).1 }

    -- by the numbers and the bytes that code looks at
    pub goes_on : (s common m : ℕ) → s ≡ shared_in Prefixed rest → common ≡ alike before key → common ≤ s → alike_after s own key common ≡ Some m → GoesOn n before rest key m
    goes_on s common m s_is common_is le is =
        let a = alike before key in
        let at : alike_after s own key a ≡ Some m = ap (alike_after s own key) (sym common_is) ∙ is in
        elim (s == a) as (λ t. (s == a) ≡ t → cond t (cond (is_before own (drop a key)) (Some (a + alike own (drop a key))) None) (Some a) ≡ Some m → GoesOn n before rest key m) [
          | true ↦ λ same with_rest.
              let level : shared_in Prefixed rest ≡ a = sym s_is ∙ eqb-true s a same in
              elim (is_before own (drop a key)) as (λ u. is_before own (drop a key) ≡ u → cond u (Some (a + alike own (drop a key))) None ≡ Some m → GoesOn n before rest key m) [
                | true ↦ λ lower it. let number : a + alike own (drop a key) ≡ m = cc in subst (GoesOn n before rest key) number (shares_as_much level lower)
                | false ↦ λ lower it. absurd cc
              ] refl with_rest
          | false ↦ λ other it.
              let number : a ≡ m = cc in
              let more : a < shared_in Prefixed rest = omega (arith, s_is, common_is, le, eqb-false s a other) in
              subst (GoesOn n before rest key) number (shares_more more)
        ] refl at

  pub ends : (s common : ℕ) → s ≡ shared_in Prefixed rest → common ≡ alike before key → alike_after s own key common ≡ None
      → lookup (entries_by Prefixed n before rest) key ≡ cond (bytes_eq own (drop common key)) (Some (value_by Prefixed rest)) None
  ends s common s_is common_is is =
      let a = alike before key in
      let at : alike_after s own key a ≡ None = ap (alike_after s own key) (sym common_is) ∙ is in
      elim (s == a) as (λ t. (s == a) ≡ t → cond t (cond (is_before own (drop a key)) (Some (a + alike own (drop a key))) None) (Some a) ≡ None
      → lookup (entries_by Prefixed n before rest) key ≡ cond (bytes_eq own (drop a key)) (Some (value_by Prefixed rest)) None) [
        | true ↦ λ same with_rest.
            elim (is_before own (drop a key)) as (λ u. is_before own (drop a key) ≡ u → cond u (Some (a + alike own (drop a key))) None ≡ None
            → lookup (entries_by Prefixed n before rest) key ≡ cond (bytes_eq own (drop a key)) (Some (value_by Prefixed rest)) None) [
              | true ↦ λ lower it. absurd cc
              | false ↦ λ not_lower it. rest_ends (sym s_is ∙ eqb-true s a same) not_lower
            ] refl with_rest
        | false ↦ λ other it. absurd cc
      ] refl at
      ∙ ap (λ (k : ℕ). cond {A = Option (Option Bytes)} (bytes_eq own (drop k key)) (Some (value_by Prefixed rest)) None) (sym common_is)

-- ---- a search from entry to entry: how far it has come

-- The key before the next entry is below the one sought, if there is one, and has so many bytes alike with it; what all entries
-- say of the key sought, those that are left say.
pub record IsReached (count i at common : ℕ) (key rest : Bytes) : Type 0 where
  pub before : Bytes
  pub below : 0 < length before → is_before before key ≡ true
  pub common_is : common ≡ alike before key
  pub inside : at ≤ length rest
  pub stand : StandClose (count - i) before (drop at rest)
  pub same : lookup (entries_by Prefixed count [] rest) key ≡ lookup (entries_by Prefixed (count - i) before (drop at rest)) key

pub none_reached : (count : ℕ) (key rest : Bytes) → StandClose count [] rest → IsReached count 0 0 0 key rest
none_reached count key rest stand =
    let all : count ≡ count - 0 = omega arith in
    record {
      before = [];
      below = λ some. absurd (omega (arith, some));
      common_is = refl;
      inside = omega arith;
      stand = subst (λ (n : ℕ). StandClose n [] rest) all stand;
      same = ap (λ (n : ℕ). lookup (entries_by Prefixed n [] rest) key) all;
    }

pub common_fits : (count i at common : ℕ) (key rest : Bytes) → IsReached count i at common key rest → common ≤ length key
common_fits count i at common key rest r = omega (arith, r.common_is, (common_prefix_len-le (λ a b. a == b) r.before key).1)

-- the end of all
pub all_reached : (count i at common : ℕ) (key rest : Bytes) → IsReached count i at common key rest → count ≤ i → None ≡ lookup (entries_by Prefixed count [] rest) key
unfolding entries_by
all_reached count i at common key rest r le =
    let zero : count - i ≡ 0 = omega (arith, le) in
    sym (r.same ∙ ap (λ (n : ℕ). lookup (entries_by Prefixed n r.before (drop at rest)) key) zero)

module _ (count i at common : ℕ) (key rest here : Bytes) (r : IsReached count i at common key rest) (lt : i < count) (is : here ≡ drop at rest) where
  abbrev n : ℕ
  n = count - i

  some : 0 < n
  some = omega (arith, lt)

  stands : StandClose n r.before here
  stands = subst (λ (l : Bytes). StandClose n r.before l) (sym is) r.stand

  said : lookup (entries_by Prefixed count [] rest) key ≡ lookup (entries_by Prefixed n r.before here) key
  said = r.same ∙ ap (λ (l : Bytes). lookup (entries_by Prefixed n r.before l) key) (sym is)

  pub here_fits : 9 + rest_length_in Prefixed here + value_length_by Prefixed here ≤ length here
  here_fits = fits n r.before here key some stands

  pub here_ends : (s : ℕ) → s ≡ shared_in Prefixed here → s < common → None ≡ lookup (entries_by Prefixed count [] rest) key
  here_ends s s_is less = sym (said ∙ shares_less n r.before here key some stands (omega (arith, s_is, less, r.common_is)))

  pub here_decides : (s : ℕ) → s ≡ shared_in Prefixed here → alike_after s (take (rest_length_in Prefixed here) (drop 9 here)) key common ≡ None
      → lookup (entries_by Prefixed count [] rest) key
      ≡ cond (bytes_eq (take (rest_length_in Prefixed here) (drop 9 here)) (drop common key)) (Some (value_by Prefixed here)) None
  here_decides s s_is is_none = said ∙ ends n r.before here key some stands s common s_is r.common_is is_none

  -- and goes on
  module _ (s m w : ℕ) (s_is : s ≡ shared_in Prefixed here) (le : common ≤ s) (w_is : w ≡ width_by Prefixed here)
      (goes : alike_after s (take (rest_length_in Prefixed here) (drop 9 here)) key common ≡ Some m) where
    on : GoesOn n r.before here key m
    on = goes_on n r.before here key some stands r.below s common m s_is r.common_is le goes

    fewer : n - 1 ≡ count - (i + 1)
    fewer = omega arith

    next : drop (width_by Prefixed here) here ≡ drop (at + w) rest
    next = ap (λ (k : ℕ). drop k here) (sym w_is) ∙ ap (drop w) is ∙ drop-drop w at rest

    pub reached_next : IsReached count (i + 1) (at + w) m key rest
    reached_next =
        let k = key_by Prefixed r.before here in
        record {
          before = k;
          below = λ _. on.lower;
          common_is = on.common_is;
          inside = omega (arith, w_is, (close n r.before here key some stands).within, ap length is, length-drop at rest, r.inside);
          stand = subst (λ (l : Bytes). StandClose (count - (i + 1)) k l) next
              (subst (λ (m : ℕ). StandClose m k (drop (width_by Prefixed here) here)) fewer (others n r.before here key some stands));
          same = said ∙ on.said ∙ ap₂ (λ (m : ℕ) (l : Bytes). lookup (entries_by Prefixed m k l) key) fewer next;
        }

-- ---- by the numbers of its head

module _ (here : Bytes) (k r v h : ℕ) (k_is : k ≡ kind_in here) (r_is : r ≡ rest_length_in Prefixed here) (v_is : v ≡ value_length_by Prefixed here) (h_is : h ≡ 9) where
  pub own_of : take r (drop h here) ≡ take (rest_length_in Prefixed here) (drop 9 here)
  own_of = ap₂ (λ (a b : ℕ). take a (drop b here)) r_is h_is

  pub value_of_it : (if k == 1 then Some (take v (drop (h + r) here)) else None) ≡ value_by Prefixed here
  unfolding value_by
  value_of_it =
      let place : h + r ≡ 9 + rest_length_in Prefixed here = omega (arith, r_is, h_is) in
      ap (λ (a : ℕ). cond (a == 1) (Some (take v (drop (h + r) here))) None) k_is
      ∙ ap₂ (λ (m j : ℕ). cond (kind_in here == 1) (Some (take m (drop j here))) None) v_is place

  pub width_is : h + r + v ≡ width_by Prefixed here
  unfolding width_by
  width_is = omega (arith, r_is, v_is, h_is)
