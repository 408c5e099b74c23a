-- Block after block: what was found, and what is still to be found.
use Rattle.std.proofs.Common.{◌≡◌, ◌≤◌, ◌<◌, ◌+◌, ℕ, zero, suc, Bool, true, false, List, [], ◌∷◌, ◌++◌, length, take, drop, refl, sym, ap, ◌∙◌, arith}
use Rattle.std.proofs.lemmas.Bool.{and_parts}
use Rattle.std.proofs.lemmas.List.{append-nil, append_assoc, drop_all, drop_more, map-append}
use Rattle.std.specs.Prelude.{◌&&◌, is_none, Option, Some, None}
use Rattle.byte_fields.specs.declared.parts.Damage.{Damage}
use Rattle.disk_trait.specs.Image.{Image}
use Rattle.map_model.specs.SortedMap.{Bytes}
use Rattle.entry_model.specs.Entries.{Entry, keys_of}
use Rattle.block_model.specs.Index.{IndexRow, row_pages}
use Rattle.block_model.specs.Laws.{joined}
use Rattle.table_file.specs.Opened.{RowIndex}
use Rattle.table_file.specs.Search.{row_at}
use Rattle.image_model.specs.Findings.{AtLeast, Finding, are_sound_blocks, block_at, block_findings, blocks_at}
use Rattle.store_check.specs.Befores.{before_of}
use Rattle.store_check.specs.Blocks.{IsJudged}
use Rattle.store_check.specs.Lists.{IsBegun, listed}
use Rattle.store_check.specs.Places.{damage_at, page_of}
use Rattle.store_check.specs.declared.blocks.BlocksSeen.{BlocksSeen}
use Rattle.store_check.proofs.Rooms.{pages_cons}

-- after n blocks: what is found and what is to be found of the others is all; and so with soundness and the keys
pub record AreSeen (x : RowIndex) (image : Image) (n : ℕ) (seen : BlocksSeen) (found : List Finding) : Type 0 where
  pub found_is : found ++ block_findings (page_of x n) (before_of seen.before) (drop n x.index.rows) image ≡ block_findings x.row.first_page (AtLeast x.index.least) x.index.rows image
  pub sound_is : (seen.sound && are_sound_blocks (page_of x n) (drop n x.index.rows) image) ≡ are_sound_blocks x.row.first_page x.index.rows image
  pub keys_are : seen.sound ≡ true → seen.keys ++ keys_of (joined (blocks_at (page_of x n) (drop n x.index.rows) image)) ≡ keys_of (joined (blocks_at x.row.first_page x.index.rows image))

first_page_is : (x : RowIndex) → page_of x 0 ≡ x.row.first_page
first_page_is x = omega arith

pub none_seen : (x : RowIndex) (image : Image) (seen : BlocksSeen) (found : List Finding) → found ≡ [] → before_of seen.before ≡ AtLeast x.index.least → seen.keys ≡ [] → seen.sound ≡ true
    → AreSeen x image 0 seen found
none_seen x image seen found none before keys sound =
    let here = first_page_is x in
    record {
      found_is = λ i. none i ++ block_findings (here i) (before i) x.index.rows image;
      sound_is = λ i. sound i && are_sound_blocks (here i) x.index.rows image;
      keys_are = λ _ i. keys i ++ keys_of (joined (blocks_at (here i) x.index.rows image));
    }

pages_next : (rows : List IndexRow) (n : ℕ) → n < length rows → row_pages (take n rows) + (row_at rows n).pages ≡ row_pages (take (n + 1) rows)
pages_next [] n lt = absurd (omega (arith, lt))
pages_next (row ∷ later) zero lt =
    let a : row_pages (take zero (row ∷ later)) ≡ 0 = refl in
    let b : row_pages (take (zero + 1) (row ∷ later)) ≡ row.pages + 0 = pages_cons row [] in
    let c : (row_at (row ∷ later) zero).pages ≡ row.pages = refl in
    omega (arith, a, b, c)
pages_next (row ∷ later) (suc n) lt =
    let a : row_pages (take (suc n) (row ∷ later)) ≡ row.pages + row_pages (take n later) = pages_cons row (take n later) in
    let one : suc n + 1 ≡ suc (n + 1) = omega arith in
    let b : row_pages (take (suc n + 1) (row ∷ later)) ≡ row.pages + row_pages (take (n + 1) later) = ap (λ (k : ℕ). row_pages (take k (row ∷ later))) one ∙ pages_cons row (take (n + 1) later) in
    let c : (row_at (row ∷ later) (suc n)).pages ≡ (row_at later n).pages = refl in
    omega (arith, a, b, c, pages_next later n (omega (arith, lt)))

pub next_page : (x : RowIndex) (n : ℕ) → n < length x.index.rows → page_of x n + (row_at x.index.rows n).pages ≡ page_of x (n + 1)
next_page x n lt = omega (arith, pages_next x.index.rows n lt)

no_row : IndexRow
no_row = record { pages = 0; sum = 0; last = [] }

module _ (x : RowIndex) (image : Image) (n : ℕ) (seen new : BlocksSeen) (found : List Finding) (one : Option Finding)
    (are : AreSeen x image n seen found) (lt : n < length x.index.rows) (is : IsJudged x n image seen new one) where
  abbrev rows : List IndexRow
  rows = x.index.rows

  abbrev row : IndexRow
  row = row_at rows n

  abbrev later : List IndexRow
  later = drop (n + 1) rows

  here : drop n rows ≡ row ∷ later
  here = drop_more rows n (record { pages = 0; sum = 0; last = [] }) lt

  step : page_of x n + row.pages ≡ page_of x (n + 1)
  step = next_page x n lt

  found_next : (found ++ listed one) ++ block_findings (page_of x (n + 1)) (before_of new.before) later image ≡ block_findings x.row.first_page (AtLeast x.index.least) rows image
  found_next =
      append_assoc found (listed one) (block_findings (page_of x (n + 1)) (before_of new.before) later image)
      ∙ (λ i. found ++ (is.found_is i ++ block_findings (sym step i) (is.before_is i) later image))
      ∙ ap (λ (rs : List IndexRow). found ++ block_findings (page_of x n) (before_of seen.before) rs image) (sym here)
      ∙ are.found_is

  sound_next : (new.sound && are_sound_blocks (page_of x (n + 1)) later image) ≡ are_sound_blocks x.row.first_page rows image
  sound_next =
      (λ i. is.sound_is i && are_sound_blocks (sym step i) later image)
      ∙ and_assoc seen.sound (is_none (damage_at x n image)) (are_sound_blocks (page_of x n + row.pages) later image)
      ∙ ap (λ (rs : List IndexRow). seen.sound && are_sound_blocks (page_of x n) rs image) (sym here)
      ∙ are.sound_is
    where
      and_assoc : (a b c : Bool) → ((a && b) && c) ≡ (a && (b && c))
      and_assoc true b c = refl
      and_assoc false b c = refl

  none_of : (o : Option Damage) → is_none o ≡ true → o ≡ None
  none_of None e = refl
  none_of (Some d) e = absurd cc

  keys_next : new.sound ≡ true → new.keys ++ keys_of (joined (blocks_at (page_of x (n + 1)) later image)) ≡ keys_of (joined (blocks_at x.row.first_page rows image))
  keys_next sound =
      let both = and_parts seen.sound (is_none (damage_at x n image)) (sym is.sound_is ∙ sound) in
      let block = block_at (page_of x n) row image in
      let rest = joined (blocks_at (page_of x n + row.pages) later image) in
      (λ i. is.keys_are (none_of (damage_at x n image) both.1) i ++ keys_of (joined (blocks_at (sym step i) later image)))
      ∙ append_assoc seen.keys (keys_of block) (keys_of rest)
      ∙ ap (λ (ks : List Bytes). seen.keys ++ ks) (sym (map-append (λ (e : Entry). e.key) block rest))
      ∙ ap (λ (rs : List IndexRow). seen.keys ++ keys_of (joined (blocks_at (page_of x n) rs image))) (sym here)
      ∙ are.keys_are both.0

  pub seen_next : (all : List Finding) → all ≡ found ++ listed one → AreSeen x image (n + 1) new all
  seen_next all all_is = record {
    found_is = ap (λ (fs : List Finding). fs ++ block_findings (page_of x (n + 1)) (before_of new.before) later image) all_is ∙ found_next;
    sound_is = sound_next;
    keys_are = keys_next;
  }

-- where nothing is found nothing was found before
pub none_added : (found all : List Finding) (one : Option Finding) → all ≡ found ++ listed one → all ≡ [] → (found ≡ []) × (one ≡ None)
none_added [] all None added none = (refl, refl)
none_added [] all (Some f) added none = let both = sym added ∙ none in absurd cc
none_added (f ∷ found) all one added none = let both = sym added ∙ none in absurd cc

-- what was found so far comes first of all
pub begun : (x : RowIndex) (image : Image) (n : ℕ) (seen : BlocksSeen) (found all : List Finding) → AreSeen x image n seen found → all ≡ found
    → IsBegun all (block_findings x.row.first_page (AtLeast x.index.least) x.index.rows image)
begun x image n seen found all are same =
    let rest = block_findings (page_of x n) (before_of seen.before) (drop n x.index.rows) image in
    (rest, ap (λ (fs : List Finding). fs ++ rest) same ∙ are.found_is)

-- after the last block
module _ (x : RowIndex) (image : Image) (n : ℕ) (seen : BlocksSeen) (found : List Finding) (are : AreSeen x image n seen found) (all : length x.index.rows ≤ n) where
  none_left : drop n x.index.rows ≡ []
  none_left = drop_all n x.index.rows all

  pub all_found : found ≡ block_findings x.row.first_page (AtLeast x.index.least) x.index.rows image
  all_found =
      sym (append-nil found)
      ∙ ap (λ (rs : List IndexRow). found ++ block_findings (page_of x n) (before_of seen.before) rs image) (sym none_left)
      ∙ are.found_is

  and_true : (b : Bool) → b ≡ (b && true)
  and_true true = refl
  and_true false = refl

  pub all_sound : seen.sound ≡ are_sound_blocks x.row.first_page x.index.rows image
  all_sound = and_true seen.sound ∙ ap (λ (rs : List IndexRow). seen.sound && are_sound_blocks (page_of x n) rs image) (sym none_left) ∙ are.sound_is

  pub all_keys : seen.sound ≡ true → seen.keys ≡ keys_of (joined (blocks_at x.row.first_page x.index.rows image))
  all_keys sound =
      sym (append-nil seen.keys)
      ∙ ap (λ (rs : List IndexRow). seen.keys ++ keys_of (joined (blocks_at (page_of x n) rs image))) (sym none_left)
      ∙ are.keys_are sound
