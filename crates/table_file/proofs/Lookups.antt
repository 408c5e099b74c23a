-- What a table says of a key, by its blocks.
use Rattle.std.proofs.Common.{◌≡◌, ◌≤◌, ◌+◌, ℕ, suc, Bool, true, false, cond, not, List, [], ◌∷◌, ◌++◌, length, get_or, refl, sym, ap, ◌∙◌, subst, arith}
use Rattle.std.specs.Option.{option_or}
use Rattle.std.specs.Prelude.{Option, Some, None, bytes_eq, map}
use Rattle.std.specs.List.{AllByRecursion, Contains, position_or_len}
use Rattle.std.specs.Cmp.Lexicographic.{nat_list_cmp_total, texts_ties}
use Rattle.std.specs.Ordering.{is_eq, is_lt, ordering_reverse}
use Rattle.std.specs.declared.cmp.Ordering.{Ordering}
use Rattle.map_model.specs.SortedMap.{Bytes, byte_order}
use Rattle.map_model.proofs.Maps.{by_order, equal_keys}
use Rattle.entry_model.specs.Entries.{Entry, keys_of}
use Rattle.entry_model.specs.Newest.{lookup}
use Rattle.block_model.specs.Index.{IndexRow, index_row_of}
use Rattle.block_model.specs.Laws.{joined}
use Rattle.key_base.specs.ByteOrder.{is_before}
use Rattle.block_model.specs.Order.{Follow, is_any, is_from}
use Rattle.block_model.specs.Pages.{first_key, last_key}
use Rattle.table_file.proofs.Keys.{above_above, follow_lower}

-- ---- keys apart

under_apart : (a b : Bytes) → is_lt (byte_order a b) ≡ true → bytes_eq a b ≡ false
under_apart a b lt = texts_ties a b ∙ by_order (λ o. is_lt o ≡ true → is_eq o ≡ false) a b (λ _ _. refl) (λ _ f. absurd cc) (λ _ f. absurd cc) lt

over_apart : (a b : Bytes) → is_lt (byte_order b a) ≡ true → bytes_eq a b ≡ false
over_apart a b lt =
    let turned : byte_order a b ≡ ordering_reverse (byte_order b a) = nat_list_cmp_total.antisymm a b in
    texts_ties a b ∙ ap is_eq turned ∙ by_order (λ o. is_lt o ≡ true → is_eq (ordering_reverse o) ≡ false) b a (λ _ _. refl) (λ _ f. absurd cc) (λ _ f. absurd cc) lt

-- a key that is not above low is below what is above low
below_above : (key low k : Bytes) → is_from key low ≡ true → is_before low k ≡ true → is_before key k ≡ true
below_above key low k from above =
    let turned : byte_order low key ≡ ordering_reverse (byte_order key low) = nat_list_cmp_total.antisymm low key in
    by_order (λ o. byte_order key low ≡ o → not (is_lt (ordering_reverse o)) ≡ true → is_before key k ≡ true) key low
    (λ less is _. above_above key low k (ap is_lt less) above)
    (λ equal is _. subst (λ (x : Bytes). is_before x k ≡ true) (sym (equal_keys key low equal)) above)
    (λ greater is f. absurd cc)
    refl (ap (λ (o : Ordering). not (is_lt o)) (sym turned) ∙ from)

-- ---- where nothing is said

skip : (e : Entry) (more : List Entry) (key : Bytes) → bytes_eq e.key key ≡ false → lookup more key ≡ None → lookup (e ∷ more) key ≡ None
skip e more key apart none = ap (λ (t : Bool). cond t (Some e.value) (lookup more key)) apart ∙ none

pub nothing_above : (key low : Bytes) (es : List Entry) → is_from key low ≡ true → Follow (is_before low) (keys_of es) → lookup es key ≡ None
nothing_above key low [] from f = refl
nothing_above key low (e ∷ more) from f =
    skip e more key (over_apart e.key key (below_above key low e.key from f.0)) (nothing_above key low more from (follow_lower low e.key (keys_of more) f.0 f.1))

pub nothing_before : (key : Bytes) (es : List Entry) → is_from (first_key es) key ≡ false → Follow is_any (keys_of es) → lookup es key ≡ None
nothing_before key [] from f = refl
nothing_before key (e ∷ more) from f =
    let under : is_lt (byte_order key e.key) ≡ true = not_from (is_lt (byte_order key e.key)) from in
    let at : is_from key e.key ≡ true = ap (λ (o : Ordering). not (is_lt o)) (nat_list_cmp_total.antisymm e.key key) ∙ turned under in
    skip e more key (over_apart e.key key under) (nothing_above key e.key more at f.1)
  where
    not_from : (t : Bool) → not t ≡ false → t ≡ true
    not_from true e = refl
    not_from false e = absurd cc

    turned : is_lt (byte_order key e.key) ≡ true → not (is_lt (ordering_reverse (byte_order key e.key))) ≡ true
    turned lt = by_order (λ o. is_lt o ≡ true → not (is_lt (ordering_reverse o)) ≡ true) key e.key (λ _ _. refl) (λ _ f. absurd cc) (λ _ f. absurd cc) lt

last_above : (low : Bytes) (e : Entry) (es : List Entry) → Follow (is_before low) (keys_of (e ∷ es)) → is_before low (last_key (e ∷ es)) ≡ true
last_above low e [] f = f.0
last_above low e (next ∷ more) f = above_above low e.key (last_key (next ∷ more)) f.0 (last_above e.key next more f.1)

pub nothing_under : (key : Bytes) (test : Bytes → Bool) (es : List Entry) → is_lt (byte_order (last_key es) key) ≡ true → Follow test (keys_of es) → lookup es key ≡ None
nothing_under key test [] under f = refl
nothing_under key test (e ∷ []) under f = skip e [] key (under_apart e.key key under) refl
nothing_under key test (e ∷ next ∷ more) under f =
    skip e (next ∷ more) key (under_apart e.key key (above_above e.key (last_key (next ∷ more)) key (last_above e.key next more f.1) under)) (nothing_under key (is_before e.key) (next ∷ more) under f.1)

-- ---- the one block that says it

step : (t : Bool) (value : Option Bytes) (a b c : Option (Option Bytes)) → a ≡ option_or b c → cond t (Some value) a ≡ option_or (cond t (Some value) b) c
step true value a b c is = refl
step false value a b c is = is

lookup_append : (xs ys : List Entry) (key : Bytes) → lookup (xs ++ ys) key ≡ option_or (lookup xs key) (lookup ys key)
lookup_append [] ys key = refl
lookup_append (x ∷ xs) ys key = step (bytes_eq x.key key) x.value (lookup (xs ++ ys) key) (lookup xs key) (lookup ys key) (lookup_append xs ys key)

or_none : (a : Option (Option Bytes)) → option_or a None ≡ a
or_none None = refl
or_none (Some v) = refl

pub front_follows : (test : Bytes → Bool) (a b : List Entry) → Follow test (keys_of (a ++ b)) → Follow test (keys_of a)
front_follows test [] b f = tt
front_follows test (e ∷ a) b f = (f.0, front_follows (is_before e.key) a b f.1)

pub behind_last : (test : Bytes → Bool) (e : Entry) (es rest : List Entry) → Follow test (keys_of ((e ∷ es) ++ rest)) → Follow (is_before (last_key (e ∷ es))) (keys_of rest)
behind_last test e [] rest f = f.1
behind_last test e (next ∷ more) rest f = behind_last (is_before e.key) next more rest f.1

pub row_last : (b : List Entry) → (index_row_of b).last ≡ last_key b
unfolding index_row_of
row_last b = refl

abbrev place_of : List (List Entry) → Bytes → ℕ
place_of blocks key = position_or_len (λ (row : IndexRow). is_from key row.last) (map index_row_of blocks)

pub said_by_block : (key : Bytes) (test : Bytes → Bool) (blocks : List (List Entry)) → AllByRecursion (λ b. 1 ≤ length b) blocks → Follow test (keys_of (joined blocks))
    → lookup (joined blocks) key ≡ lookup (get_or blocks (place_of blocks key) []) key
said_by_block key test [] some f = refl
said_by_block key test ([] ∷ more) some f = absurd (omega (arith, some.0))
said_by_block key test ((e ∷ es) ∷ more) some f =
    let b = e ∷ es in
    let later = behind_last test e es (joined more) f in
    elim (is_lt (byte_order (last_key b) key)) as (λ t. is_lt (byte_order (last_key b) key) ≡ t
    → lookup (b ++ joined more) key ≡ lookup (get_or (b ∷ more) (cond (not (not t)) (1 + place_of more key) 0) []) key) [
      | true ↦ λ is. lookup_append b (joined more) key ∙ ap (λ (a : Option (Option Bytes)). option_or a (lookup (joined more) key)) (nothing_under key test b is (front_follows test b (joined more) f))
          ∙ said_by_block key (is_before (last_key b)) more some.1 later ∙ next more key
      | false ↦ λ is. lookup_append b (joined more) key
          ∙ ap (option_or (lookup b key)) (nothing_above key (last_key b) (joined more) (ap not is) later) ∙ or_none (lookup b key)
    ] refl ∙ ap (λ (k : Bytes). lookup (get_or (b ∷ more) (cond (not (is_from key k)) (1 + place_of more key) 0) []) key) (sym (row_last b))
  where
    next : (more : List (List Entry)) (key : Bytes) → lookup (get_or more (place_of more key) []) key ≡ lookup (get_or ((e ∷ es) ∷ more) (1 + place_of more key) []) key
    next more key = let one : suc (place_of more key) ≡ 1 + place_of more key = omega arith in ap (λ (n : ℕ). lookup (get_or ((e ∷ es) ∷ more) n []) key) one

-- ---- what is said has its key among the keys

said_later : (e : Entry) (more : List Entry) (key : Bytes) (value : Option Bytes) → (lookup more key ≡ Some value → Contains (keys_of more) key)
    → lookup (e ∷ more) key ≡ Some value → bytes_eq e.key key ≡ false → Contains (keys_of (e ∷ more)) key
said_later e more key value rest is apart =
    let there = rest (sym (ap (λ (t : Bool). cond t (Some e.value) (lookup more key)) apart) ∙ is) in
    (suc there.0, omega (arith, there.1), there.2)

pub said_is_there : (es : List Entry) (key : Bytes) (value : Option Bytes) → lookup es key ≡ Some value → Contains (keys_of es) key
said_is_there [] key value is = absurd cc
said_is_there (e ∷ more) key value is =
    by_order (λ o. is_eq o ≡ bytes_eq e.key key → Contains (keys_of (e ∷ more)) key) e.key key
    (λ less same. said_later e more key value (said_is_there more key value) is (sym same))
    (λ equal same. (0, omega arith, equal_keys e.key key equal))
    (λ greater same. said_later e more key value (said_is_there more key value) is (sym same))
    (sym (texts_ties e.key key))

-- ---- the last of all

pub last_append : (a : List Entry) (e : Entry) (es : List Entry) → last_key (a ++ (e ∷ es)) ≡ last_key (e ∷ es)
last_append [] e es = refl
last_append (x ∷ []) e es = refl
last_append (x ∷ y ∷ a) e es = last_append (y ∷ a) e es

pub lasts_rise : (b : List Entry) (test : Bytes → Bool) (e : Entry) (es : List Entry) → 1 ≤ length b → Follow test (keys_of (b ++ (e ∷ es))) → is_before (last_key b) (last_key (e ∷ es)) ≡ true
lasts_rise [] test e es some f = absurd (omega (arith, some))
lasts_rise (x ∷ b) test e es some f = last_above (last_key (x ∷ b)) e es (behind_last test x b (e ∷ es) f)

-- a key that is not above one is not above what comes later
pub from_above : (key a b : Bytes) → is_from key a ≡ true → is_before a b ≡ true → is_from key b ≡ true
from_above key a b from above =
    elim (is_lt (byte_order b key)) as (λ t. is_lt (byte_order b key) ≡ t → not t ≡ true) [
      | true ↦ λ under. let never : not true ≡ true = ap not (sym (above_above a b key above under)) ∙ from in absurd cc
      | false ↦ λ _. refl
    ] refl
