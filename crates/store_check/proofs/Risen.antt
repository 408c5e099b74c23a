-- Keys of blocks that rise.
use Rattle.std.proofs.Common.{◌≡◌, ◌≤◌, ◌<◌, ◌-◌, ◌+◌, ◌^◌, ℕ, suc, Bool, true, List, [], ◌∷◌, ◌++◌, length, get_or, refl, sym, ap, ◌∙◌, subst, arith, length-append}
use Rattle.std.proofs.lemmas.Bool.{and_parts}
use Rattle.std.proofs.lemmas.List.{append-nil, append_assoc, get_or-append-add, length-map}
use Rattle.std.proofs.lemmas.List.Elements.{All-from_recursion}
use Rattle.std.proofs.lemmas.List.Kept.{AllPairs-cons}
use Rattle.std.specs.Prelude.{◌&&◌, bytes_eq, None}
use Rattle.std.specs.Cmp.Lexicographic.{nat_list_cmp_total}
use Rattle.std.specs.List.{AllByRecursion, AllPairs}
use Rattle.std.specs.Ordering.{is_lt}
use Rattle.std.specs.declared.cmp.Ordering.{Ordering}
use Rattle.std.specs.declared.cmp.Ordering.TheVariants.{Less, Equal, Greater}
use Rattle.byte_fields.specs.Spelling.{IsBytes}
use Rattle.filter_model.proofs.Pairs.{AllPairs-nil}
use Rattle.filter_model.specs.Keys.{IsKey, IsKeyList}
use Rattle.key_base.specs.ByteOrder.{byte_order, is_before}
use Rattle.map_model.specs.SortedMap.{Bytes}
use Rattle.entry_model.specs.Entries.{Entry, IsEntry, keys_of}
use Rattle.block_model.specs.Block.{IsBlock, IsEntryOf}
use Rattle.block_model.specs.BlockReading.{block_fault, block_in}
use Rattle.block_model.specs.Formats.{Format, Old, Prefixed, format_in}
use Rattle.block_model.specs.Index.{IndexRow}
use Rattle.block_model.specs.Order.{Follow, is_any}
use Rattle.block_model.specs.Pages.{first_key, last_key}
use Rattle.block_model.proofs.EitherFormat.{either_written}
use Rattle.image_model.specs.Findings.{Before, Behind, has_its_keys, may_follow}
use Rattle.store_check.specs.Keys.{AreKeys, AreRisen}

-- ---- the first and the last of keys that are added

pub many_added : (front : List Bytes) (block : List Entry) → length (front ++ keys_of block) ≡ length front + length block
many_added front block = length-append front (keys_of block) ∙ ap (λ (n : ℕ). length front + n) (length-map block (λ (e : Entry). e.key))

pub first_added : (front : List Bytes) (block : List Entry) → 1 ≤ length block → get_or (front ++ keys_of block) (length front) [] ≡ first_key block
first_added [] [] some = absurd (omega (arith, some))
first_added [] (e ∷ block) some = refl
first_added (k ∷ front) block some = first_added front block some

last_of_block : (block : List Entry) → 1 ≤ length block → get_or (keys_of block) (length block - 1) [] ≡ last_key block
last_of_block [] some = absurd (omega (arith, some))
last_of_block (e ∷ []) some = refl
last_of_block (e ∷ next ∷ later) some =
    let one : length (e ∷ next ∷ later) - 1 ≡ suc (length (next ∷ later) - 1) = omega arith in
    ap (λ (n : ℕ). get_or (keys_of (e ∷ next ∷ later)) n []) one ∙ last_of_block (next ∷ later) (omega arith)

last_at : (front : List Bytes) (block : List Entry) → 1 ≤ length block → get_or (front ++ keys_of block) (length front + (length block - 1)) [] ≡ last_key block
last_at front block some = get_or-append-add front (keys_of block) (length block - 1) [] ∙ last_of_block block some

pub last_added : (front : List Bytes) (block : List Entry) → 1 ≤ length block → get_or (front ++ keys_of block) (length (front ++ keys_of block) - 1) [] ≡ last_key block
last_added front block some =
    let place : length (front ++ keys_of block) - 1 ≡ length front + (length block - 1) = omega (arith, some, many_added front block) in
    ap (λ (n : ℕ). get_or (front ++ keys_of block) n []) place ∙ last_at front block some

pub last_read : (front keys : List Bytes) (block : List Entry) (m : ℕ) → keys ≡ front ++ keys_of block → m ≡ length keys → 1 ≤ length block → get_or keys (m - 1) [] ≡ last_key block
last_read front keys block m keys_are many some =
    ap (λ (k : ℕ). get_or keys (k - 1) []) many ∙ ap (λ (ks : List Bytes). get_or ks (length ks - 1) []) keys_are ∙ last_added front block some

pub first_read : (front keys : List Bytes) (block : List Entry) (n : ℕ) → keys ≡ front ++ keys_of block → n ≡ length front → 1 ≤ length block → get_or keys n [] ≡ first_key block
first_read front keys block n keys_are here some = ap (λ (k : ℕ). get_or keys k []) here ∙ ap (λ (ks : List Bytes). get_or ks (length front) []) keys_are ∙ first_added front block some

-- whether the keys of a block, read from the list to which they were added, are the ones that it has to have
pub right_read : (before : Before) (row : IndexRow) (front keys : List Bytes) (block : List Entry) (last : Bytes) (n : ℕ) (right : Bool) → keys ≡ front ++ keys_of block → 1 ≤ length block → last ≡ row.last → n ≡ length front
    → right ≡ (bytes_eq last (get_or keys (length keys - 1) []) && may_follow before (get_or keys n [])) → right ≡ has_its_keys before row block
right_read before row front keys block last n right keys_are some last_is here right_is =
    let ends = last_read front keys block (length keys) keys_are refl some in
    let begins = first_read front keys block n keys_are here some in
    right_is ∙ (λ i. bytes_eq (last_is i) (ends i) && may_follow before (begins i))

-- ---- the keys of an entry more, and of a block more

entry_of_format : (f : Format) (e : Entry) → IsEntryOf f e → IsEntry e
entry_of_format Old e is = is.sound
entry_of_format Prefixed e is = is

key_of : (f : Format) (e : Entry) → IsEntryOf f e → IsKey e.key
key_of f e is = let entry = entry_of_format f e is in record { bytes = entry.key_bytes; filled = entry.some_key; short = entry.short_key }

keys_sound : (f : Format) (block : List Entry) → AllByRecursion (IsEntryOf f) block → AllByRecursion IsKey (keys_of block)
keys_sound f [] all = tt
keys_sound f (e ∷ more) all = (key_of f e all.0, keys_sound f more all.1)

all_join : (xs ys : List Bytes) → AllByRecursion IsKey xs → AllByRecursion IsKey ys → AllByRecursion IsKey (xs ++ ys)
all_join [] ys a b = b
all_join (x ∷ xs) ys a b = (a.0, all_join xs ys a.1 b)

follow_join : (test : Bytes → Bool) (block : List Entry) (more : List Bytes) → 1 ≤ length block → Follow is_any (keys_of block) → test (first_key block) ≡ true → Follow (is_before (last_key block)) more
    → Follow test (keys_of block ++ more)
follow_join test [] more some rising first rest = absurd (omega (arith, some))
follow_join test (e ∷ []) more some rising first rest = (first, rest)
follow_join test (e ∷ next ∷ later) more some rising first rest =
    (first, follow_join (is_before e.key) (next ∷ later) more (omega arith) (refl, rising.1.1) rising.1.0 rest)

pub risen_more : (f : Format) (before : Before) (keys : List Bytes) (block : List Entry) → AreRisen before keys → IsBlock f block → may_follow before (first_key block) ≡ true
    → AreRisen (Behind (last_key block)) (keys ++ keys_of block)
risen_more f before keys block risen is first = record {
  each = all_join keys (keys_of block) risen.each (keys_sound f block is.each);
  rising = λ more follow.
      subst (Follow is_any) (sym (append_assoc keys (keys_of block) more))
      (risen.rising (keys_of block ++ more) (follow_join (may_follow before) block more is.some is.rising first follow));
}

pub sound_block : (bytes : Bytes) → IsBytes bytes → block_fault bytes ≡ None → IsBlock (format_in bytes) (block_in bytes)
sound_block bytes is none = (either_written bytes is none).0

pub risen_after : (f : Format) (before : Before) (row : IndexRow) (front keys : List Bytes) (block : List Entry) (last : Bytes) → AreRisen before front → IsBlock f block → has_its_keys before row block ≡ true
    → keys ≡ front ++ keys_of block → last ≡ last_key block → AreRisen (Behind last) keys × (1 ≤ length keys)
risen_after f before row front keys block last risen is right keys_are last_is =
    let first = (and_parts (bytes_eq row.last (last_key block)) (may_follow before (first_key block)) right).1 in
    let all = risen_more f before front block risen is first in (
      subst (λ (ks : List Bytes). AreRisen (Behind last) ks) (sym keys_are) (subst (λ (k : Bytes). AreRisen (Behind k) (front ++ keys_of block)) (sym last_is) all),
      omega (arith, ap length keys_are, many_added front block, is.some),
    )

any_follow : (test : Bytes → Bool) (keys : List Bytes) → Follow test keys → Follow is_any keys
any_follow test [] f = tt
any_follow test (key ∷ later) f = (refl, f.1)

pub none_risen : (before : Before) (keys : List Bytes) → keys ≡ [] → AreRisen before keys
none_risen before keys none = record {
  each = subst (AllByRecursion IsKey) (sym none) tt;
  rising = λ more follow. subst (λ (ks : List Bytes). Follow is_any (ks ++ more)) (sym none) (any_follow (may_follow before) more follow);
}

pub keys_risen : (before : Before) (keys : List Bytes) → AreRisen before keys → AreKeys keys
keys_risen before keys risen = record { each = risen.each; rising = subst (Follow is_any) (append-nil keys) (risen.rising [] tt) }

-- ---- the keys of a filter

less_of : (o : Ordering) → is_lt o ≡ true → o ≡ Less
less_of Less e = refl
less_of Equal e = absurd cc
less_of Greater e = absurd cc

above_above : (a b c : Bytes) → is_before a b ≡ true → is_before b c ≡ true → is_before a c ≡ true
above_above a b c ab bc = ap is_lt (nat_list_cmp_total.trans a b c (less_of (byte_order a b) ab) (less_of (byte_order b c) bc))

follow_lower : (low key : Bytes) (keys : List Bytes) → is_before low key ≡ true → Follow (is_before key) keys → Follow (is_before low) keys
follow_lower low key [] above f = tt
follow_lower low key (k ∷ keys) above f = (above_above low key k above f.0, f.1)

all_above : (low : Bytes) (keys : List Bytes) → Follow (is_before low) keys → AllByRecursion (λ k. is_before low k ≡ true) keys
all_above low [] f = tt
all_above low (k ∷ keys) f = (f.0, all_above low keys (follow_lower low k keys f.0 f.1))

pairs_of : (test : Bytes → Bool) (keys : List Bytes) → Follow test keys → AllPairs (λ a b. is_before a b ≡ true) keys
pairs_of test [] f = AllPairs-nil (λ a b. is_before a b ≡ true)
pairs_of test (k ∷ keys) f =
    AllPairs-cons (λ a b. is_before a b ≡ true) k keys (All-from_recursion (λ b. is_before k b ≡ true) keys (all_above k keys f.1)) (pairs_of (is_before k) keys f.1)

pub key_list : (keys : List Bytes) → AreKeys keys → 1 ≤ length keys → length keys < 2 ^ 32 → IsKeyList keys
key_list keys are some few = record { some = omega (arith, some); few = few; each = All-from_recursion IsKey keys are.each; rising = pairs_of is_any keys are.rising }
