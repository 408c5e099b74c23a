-- Keys that follow one another, and the last of some.
use Rattle.std.proofs.Common.{◌≡◌, ◌<◌, ◌-◌, ℕ, Bool, true, List, [], ◌∷◌, ◌++◌, length, get_or, refl, sym, ap, ◌∙◌, arith, length-append}
use Rattle.std.specs.Prelude.{map, None}
use Rattle.std.specs.List.{AllPairs, AllByRecursion}
use Rattle.std.specs.Cmp.Lexicographic.{nat_list_cmp_total}
use Rattle.std.specs.Ordering.{is_lt}
use Rattle.std.specs.declared.cmp.Ordering.{Ordering}
use Rattle.std.specs.declared.cmp.Ordering.TheVariants.{Less, Equal, Greater}
use Rattle.std.proofs.Math.ListN.{get_or-map}
use Rattle.std.proofs.lemmas.List.{get_or_append_left, length-map}
use Rattle.std.proofs.lemmas.List.Elements.{All-from_recursion}
use Rattle.std.proofs.lemmas.List.Kept.{AllPairs-cons}
use Rattle.filter_model.proofs.Pairs.{AllPairs-nil}
use Rattle.filter_model.specs.Keys.{IsKey, IsKeyList}
use Rattle.map_model.specs.SortedMap.{Bytes, byte_order}
use Rattle.entry_model.specs.Entries.{Entry, IsEntry, keys_of}
use Rattle.block_model.specs.Block.{IsTable}
use Rattle.key_base.specs.ByteOrder.{is_before}
use Rattle.block_model.specs.Order.{Follow, is_any}
use Rattle.block_model.specs.Pages.{last_key}
use Rattle.block_model.proofs.LastBlocks.{last_key_at}

less_of : (o : Ordering) → is_lt o ≡ true → o ≡ Less
less_of Less e = refl
less_of Equal e = absurd cc
less_of Greater e = absurd cc

pub above_above : (a b c : Bytes) → is_before a b ≡ true → is_before b c ≡ true → is_before a c ≡ true
above_above a b c ab bc = ap is_lt (nat_list_cmp_total.trans a b c (less_of (byte_order a b) ab) (less_of (byte_order b c) bc))

pub follow_lower : (low key : Bytes) (keys : List Bytes) → is_before low key ≡ true → Follow (is_before key) keys → Follow (is_before low) keys
follow_lower low key [] above f = tt
follow_lower low key (k ∷ keys) above f = (above_above low key k above f.0, f.1)

pub all_above : (low : Bytes) (keys : List Bytes) → Follow (is_before low) keys → AllByRecursion (λ k. is_before low k ≡ true) keys
all_above low [] f = tt
all_above low (k ∷ keys) f = (f.0, all_above low keys (follow_lower low k keys f.0 f.1))

pairs_of : (test : Bytes → Bool) (keys : List Bytes) → Follow test keys → AllPairs (λ a b. is_before a b ≡ true) keys
pairs_of test [] f = AllPairs-nil (λ a b. is_before a b ≡ true)
pairs_of test (k ∷ keys) f =
    AllPairs-cons (λ a b. is_before a b ≡ true) k keys (All-from_recursion (λ b. is_before k b ≡ true) keys (all_above k keys f.1)) (pairs_of (is_before k) keys f.1)

keys_sound : (entries : List Entry) → AllByRecursion IsEntry entries → AllByRecursion IsKey (keys_of entries)
keys_sound [] all = tt
keys_sound (e ∷ more) all = (record { bytes = all.0.key_bytes; filled = all.0.some_key; short = all.0.short_key }, keys_sound more all.1)

-- the keys of a table are such a list as a filter is built from
pub key_list : (entries : List Entry) → IsTable entries → IsKeyList (keys_of entries)
key_list entries is =
    let many : length (keys_of entries) ≡ length entries = length-map entries (λ (e : Entry). e.key) in
    record {
      some = omega (arith, many, is.some);
      few = omega (arith, many, is.sound.few);
      each = All-from_recursion IsKey (keys_of entries) (keys_sound entries is.sound.each);
      rising = pairs_of is_any (keys_of entries) is.rising;
    }

-- ---- the last key

last_append : (front back : List Entry) → 0 < length back → last_key (front ++ back) ≡ last_key back
last_append [] back some = refl
last_append (x ∷ []) [] some = absurd (omega (arith, some))
last_append (x ∷ []) (b ∷ back) some = refl
last_append (x ∷ y ∷ more) back some = last_append (y ∷ more) back some

-- the last of all keys is that of the entries at the end
pub last_is : (front back : List Entry) (keys : List Bytes) → 0 < length back → keys_of (front ++ back) ≡ keys → get_or keys (length keys - 1) [] ≡ last_key back
last_is front back keys some same =
    let all = front ++ back in
    let e : Entry = record { key = []; value = None } in
    let many : length keys ≡ length all = omega (arith, ap length same, length-map all (λ (x : Entry). x.key)) in
    let last : length all - 1 ≡ length keys - 1 = omega (arith, many) in
    ap (λ (ks : List Bytes). get_or ks (length keys - 1) []) (sym same)
    ∙ get_or-map (λ (x : Entry). x.key) all (length keys - 1) e
    ∙ ap (λ (n : ℕ). (get_or all n e).key) (sym last)
    ∙ sym (last_key_at all e (omega (arith, length-append front back, some)))
    ∙ last_append front back some

-- and so it is where another key follows
pub last_before : (front back : List Entry) (keys more : List Bytes) (key : Bytes) (n : ℕ) → 0 < length back → keys_of (front ++ back) ≡ keys → n ≡ length keys → more ≡ keys ++ key ∷ []
    → get_or more (n - 1) [] ≡ last_key back
last_before front back keys more key n some same n_is pushed =
    let filled : 0 < length keys = omega (arith, some, ap length same, length-map (front ++ back) (λ (x : Entry). x.key), length-append front back) in
    ap (λ (ks : List Bytes). get_or ks (n - 1) []) pushed
    ∙ get_or_append_left keys (key ∷ []) [] (n - 1) (omega (arith, filled, n_is))
    ∙ ap (λ (m : ℕ). get_or keys (m - 1) []) n_is
    ∙ last_is front back keys some same
