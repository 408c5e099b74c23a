-- How entries are cut into blocks, and how many pages these take.
use Rattle.std.proofs.Common.{◌≡◌, ◌<◌, ◌≤◌, ◌*◌, Bool, true, false, cond, List, [], ◌∷◌, ◌++◌, length, refl, sym, ap, subst, ◌∙◌, arith, append_assoc, length-append}
use Rattle.std.specs.Prelude.{fold, flat_map, nat_le, nat_lt, sum_by}
use Rattle.std.specs.List.{AllByRecursion}
use Rattle.std.proofs.lemmas.Bool.{and_parts, leb-true, ltb-true}
use Rattle.std.proofs.lemmas.List.{append-nil}
use Rattle.std.proofs.lemmas.List.Sums.{fold-append, sum_by-cons}
use Rattle.key_base.specs.ByteOrder.{is_before}
use Rattle.map_model.specs.SortedMap.{Bytes}
use Rattle.entry_model.specs.Entries.{Entry, IsEntry, keys_of}
use Rattle.block_model.specs.Block.{IsBlock, block_bytes, data_bytes}
use Rattle.block_model.specs.Formats.{Prefixed}
use Rattle.block_model.specs.Laws.{BlockFillsItsPages, BlockHasFewPages, BlocksAreSound, BlocksAreTheEntries, BlocksFillTheirPages, BlocksGrow, joined}
use Rattle.block_model.specs.Order.{Follow, is_any}
use Rattle.block_model.specs.Pages.{block_length, block_pages, blocks_of, blocks_with, data_pages, has_room, max_block_entries, page_bytes, pages_for}
use Rattle.block_model.proofs.BlocksRead.{length_most, long_enough, block_fills}

pub blocks_step : BlocksGrow
unfolding blocks_of
blocks_step entries e = fold-append blocks_with [] entries (e ∷ [])

-- ---- the blocks with one entry more are these, or these with a block more

pub in_room : (P : List (List Entry) → Type 0) (block : List Entry) (e : Entry)
    → (has_room block e ≡ true → P ((block ++ (e ∷ [])) ∷ [])) → (has_room block e ≡ false → P (block ∷ (e ∷ []) ∷ []))
    → P (blocks_with (block ∷ []) e)
in_room P block e room none =
    elim (has_room block e) as (λ t. has_room block e ≡ t → P (cond t ((block ++ (e ∷ [])) ∷ []) (block ∷ (e ∷ []) ∷ []))) [
      | true ↦ room
      | false ↦ none
    ] refl

-- ---- joined they are the entries

joined_with : (blocks : List (List Entry)) (e : Entry) → joined (blocks_with blocks e) ≡ joined blocks ++ (e ∷ [])
joined_with [] e = refl
joined_with (block ∷ []) e = in_room (λ bs. joined bs ≡ (block ++ []) ++ (e ∷ [])) block e
    (λ _. append-nil (block ++ (e ∷ [])) ∙ ap (λ (b : List Entry). b ++ (e ∷ [])) (sym (append-nil block)))
    (λ _. ap (λ (b : List Entry). b ++ (e ∷ [])) (sym (append-nil block)))
joined_with (block ∷ next ∷ more) e =
    ap (λ (l : List Entry). block ++ l) (joined_with (next ∷ more) e) ∙ sym (append_assoc block (joined (next ∷ more)) (e ∷ []))

joined_after : (blocks : List (List Entry)) (entries : List Entry) → joined (fold blocks_with blocks entries) ≡ joined blocks ++ entries
joined_after blocks [] = sym (append-nil (joined blocks))
joined_after blocks (e ∷ later) =
    joined_after (blocks_with blocks e) later ∙ ap (λ (l : List Entry). l ++ later) (joined_with blocks e) ∙ append_assoc (joined blocks) (e ∷ []) later

pub blocks_joined : BlocksAreTheEntries
unfolding blocks_of
blocks_joined entries = joined_after [] entries

-- ---- what each block has

pub each_with : (P : List Entry → Type 0) (e : Entry) → P (e ∷ []) → ((block : List Entry) → P block → has_room block e ≡ true → P (block ++ (e ∷ [])))
    → (blocks : List (List Entry)) → AllByRecursion P blocks → AllByRecursion P (blocks_with blocks e)
each_with P e alone more [] all = (alone, tt)
each_with P e alone more (block ∷ []) all = in_room (AllByRecursion P) block e (λ room. (more block all.0 room, tt)) (λ _. (all.0, (alone, tt)))
each_with P e alone more (block ∷ next ∷ others) all = (all.0, each_with P e alone more (next ∷ others) all.1)

each_after : (Q : Entry → Type 0) (P : List Entry → Type 0) → ((e : Entry) → Q e → P (e ∷ []))
    → ((block : List Entry) (e : Entry) → P block → Q e → has_room block e ≡ true → P (block ++ (e ∷ [])))
    → (blocks : List (List Entry)) (entries : List Entry) → AllByRecursion P blocks → AllByRecursion Q entries → AllByRecursion P (fold blocks_with blocks entries)
each_after Q P alone more blocks [] all q = all
each_after Q P alone more blocks (e ∷ later) all q =
    each_after Q P alone more (blocks_with blocks e) later (each_with P e (alone e q.0) (λ block p room. more block e p q.0 room) blocks all) q.1

pub each_block : (Q : Entry → Type 0) (P : List Entry → Type 0) → ((e : Entry) → Q e → P (e ∷ []))
    → ((block : List Entry) (e : Entry) → P block → Q e → has_room block e ≡ true → P (block ++ (e ∷ [])))
    → (entries : List Entry) → AllByRecursion Q entries → AllByRecursion P (blocks_of entries)
unfolding blocks_of
each_block Q P alone more entries q = each_after Q P alone more [] entries tt q

pub all_append : {X : Type 0} (P : X → Type 0) (xs ys : List X) → AllByRecursion P xs → AllByRecursion P ys → AllByRecursion P (xs ++ ys)
all_append P [] ys a b = b
all_append P (x ∷ xs) ys a b = (a.0, all_append P xs ys a.1 b)

-- ---- a block of a table: its entries are of the format, it has 1 to 255, and several in a page at most

pub record IsPart (block : List Entry) : Type 0 where
  pub each : AllByRecursion IsEntry block
  pub some : 1 ≤ length block
  pub few : length block ≤ 255
  pub small : 1 < length block → block_length block ≤ 4096

part_alone : (e : Entry) → IsEntry e → IsPart (e ∷ [])
part_alone e is = record { each = (is, tt); some = omega arith; few = omega arith; small = λ lt. absurd (omega (arith, lt)) }

part_more : (block : List Entry) (e : Entry) → IsPart block → IsEntry e → has_room block e ≡ true → IsPart (block ++ (e ∷ []))
part_more block e part is room =
    let both = and_parts (nat_le (block_length (block ++ (e ∷ []))) page_bytes) (nat_lt (length block) max_block_entries) room in
    let fits = leb-true (block_length (block ++ (e ∷ []))) 4096 both.0 in
    let lt = ltb-true (length block) 255 both.1 in
    record {
      each = all_append IsEntry block (e ∷ []) part.each (is, tt);
      some = omega (arith, length-append block (e ∷ []), part.some);
      few = omega (arith, length-append block (e ∷ []), lt);
      small = λ _. fits;
    }

pub blocks_are_parts : (entries : List Entry) → AllByRecursion IsEntry entries → AllByRecursion IsPart (blocks_of entries)
unfolding blocks_of
blocks_are_parts entries each = each_after IsEntry IsPart part_alone part_more [] entries tt each

-- ---- and its keys rise

pub any_follow : (test : Bytes → Bool) (keys : List Bytes) → Follow test keys → Follow is_any keys
any_follow test [] f = tt
any_follow test (key ∷ later) f = (refl, f.1)

follow_front : (test : Bytes → Bool) (a b : List Entry) → Follow test (keys_of (a ++ b)) → Follow test (keys_of a)
follow_front test [] b f = tt
follow_front test (e ∷ a) b f = (f.0, follow_front (is_before e.key) a b f.1)

follow_back : (test : Bytes → Bool) (a b : List Entry) → Follow test (keys_of (a ++ b)) → Follow is_any (keys_of b)
follow_back test [] b f = any_follow test (keys_of b) f
follow_back test (e ∷ a) b f = follow_back (is_before e.key) a b f.1

pub each_rises : (blocks : List (List Entry)) → Follow is_any (keys_of (joined blocks)) → AllByRecursion (λ b. Follow is_any (keys_of b)) blocks
each_rises [] f = tt
each_rises (block ∷ more) f = (follow_front is_any block (joined more) f, each_rises more (follow_back is_any block (joined more) f))

pub blocks_rise : (entries : List Entry) → Follow is_any (keys_of entries) → AllByRecursion (λ b. Follow is_any (keys_of b)) (blocks_of entries)
blocks_rise entries f = each_rises (blocks_of entries) (subst (λ (l : List Entry). Follow is_any (keys_of l)) (sym (blocks_joined entries)) f)

both_hold : (blocks : List (List Entry)) → AllByRecursion IsPart blocks → AllByRecursion (λ b. Follow is_any (keys_of b)) blocks
    → AllByRecursion (IsBlock Prefixed) blocks
both_hold [] parts rise = tt
both_hold (block ∷ more) parts rise =
    (record { each = parts.0.each; rising = rise.0; some = parts.0.some; few = parts.0.few; small = parts.0.small }, both_hold more parts.1 rise.1)

pub blocks_are_sound : BlocksAreSound
blocks_are_sound entries is = both_hold (blocks_of entries) (blocks_are_parts entries is.sound.each) (blocks_rise entries is.rising)

-- ---- pages

pub block_fills_pages : BlockFillsItsPages
unfolding block_pages
block_fills_pages block = block_fills block

pub blocks_fill : (blocks : List (List Entry)) → length (flat_map block_bytes blocks) ≡ 4096 * sum_by block_pages blocks
unfolding block_pages
blocks_fill [] = refl
blocks_fill (block ∷ more) =
    omega (
      arith,
      length-append (block_bytes block) (flat_map block_bytes more),
      block_fills block,
      blocks_fill more,
      sum_by-cons block_pages block more,
    )

pub data_fills : BlocksFillTheirPages
unfolding data_bytes data_pages
data_fills entries = blocks_fill (blocks_of entries)

pub block_has_few_pages : BlockHasFewPages
unfolding block_pages pages_for
block_has_few_pages block is = (omega (arith, long_enough block is), omega (arith, length_most block is))
