-- Sound blocks that have their keys are the blocks of their index, and their keys rise over all of them.
use Rattle.std.proofs.Common.{◌≡◌, ◌≤◌, ◌+◌, ◌*◌, ◌==◌, ℕ, Bool, true, false, cond, List, [], ◌∷◌, ◌++◌, length, refl, sym, ap, ap₂, ◌∙◌, subst, arith, length-append}
use Rattle.std.proofs.lemmas.Bool.{and_parts, eqb-true}
use Rattle.std.specs.Prelude.{map, Option, Some, None}
use Rattle.std.specs.List.{AllByRecursion}
use Rattle.std.specs.Option.{option_map}
use Rattle.byte_fields.specs.Faults.{Fault}
use Rattle.byte_fields.specs.Sums.{fnv_of}
use Rattle.byte_fields.specs.declared.parts.Damage.{Damage}
use Rattle.byte_fields.specs.declared.parts.Damage.TheVariants as damage
use Rattle.byte_fields.specs.declared.parts.Part.{Part}
use Rattle.disk_trait.specs.Image.{Image, Shows, window}
use Rattle.disk_trait.proofs.Images.{window_size, window_split}
use Rattle.filter_model.proofs.Fronts.{same-true}
use Rattle.filter_model.specs.Strings.{bytes_eq}
use Rattle.key_base.specs.ByteOrder.{is_before}
use Rattle.map_model.specs.SortedMap.{Bytes}
use Rattle.entry_model.specs.Entries.{Entry, keys_of}
use Rattle.block_model.specs.BlockReading.{block_fault}
use Rattle.block_model.specs.Index.{IndexRow}
use Rattle.block_model.specs.Laws.{joined}
use Rattle.block_model.specs.Order.{Follow, is_any}
use Rattle.block_model.specs.Pages.{first_key, last_key}
use Rattle.block_model.specs.Places.{byte_of_page}
use Rattle.block_model.proofs.EitherFormat.{either_written}
use Rattle.table_model.specs.Damage.{IsOfBytes, block_damage, block_part, part_damage}
use Rattle.table_model.specs.Pieces.{IsPiece, blocks_in, end_to_end, piece_pages, row_of_piece}
use Rattle.table_model.proofs.Decided.{window_bytes}
use Rattle.table_model.proofs.Pieces.{piece_fills}
use Rattle.image_model.specs.Findings.{Before, Behind, Finding, block_at, block_findings, blocks_at, findings_at, found_by, has_its_keys, known_behind, may_follow, unless}

-- ---- lists of findings

pub none_of_both : {X : Type 0} (xs ys : List X) → xs ++ ys ≡ [] → (xs ≡ []) × (ys ≡ [])
none_of_both [] ys e = (refl, e)
none_of_both (x ∷ xs) ys e = absurd cc

pub right : (b : Bool) (f : Finding) → unless b f ≡ [] → b ≡ true
right true f e = refl
right false f e = absurd cc

pub a_damage_is_found : (d : Damage) → found_by (Some d) ≡ [] → ⊥
a_damage_is_found (damage.Sum part at kept seen) e = absurd cc
a_damage_is_found (damage.Shape part at rule) e = absurd cc

-- ---- a part without damage

pub part_kept : (p : Part) (at kept : ℕ) (bytes : Bytes) (fault : Option Fault) → part_damage p at kept bytes fault ≡ None → (kept ≡ fnv_of bytes) × (fault ≡ None)
part_kept p at kept bytes fault e = go (kept == fnv_of bytes) refl fault e
  where
    go :
        (b : Bool) → (kept == fnv_of bytes) ≡ b → (o : Option Fault)
        → cond b (option_map (λ (f : Fault). damage.Shape p (at + f.place) f.rule) o) (Some (damage.Sum p at kept (fnv_of bytes))) ≡ None → (kept ≡ fnv_of bytes) × (o ≡ None)
    go true s None f = (eqb-true kept (fnv_of bytes) s, refl)
    go true s (Some g) f = absurd cc
    go false s o f = absurd cc

-- ---- bytes that are one after the other

shown_join : (at : ℕ) (xs ys : Bytes) (image : Image) → Shows at xs image → Shows (at + length xs) ys image → Shows at (xs ++ ys) image
shown_join at xs ys image a b = ap (window image at) (length-append xs ys) ∙ window_split image at (length xs) (length ys) ∙ ap₂ (λ (x y : Bytes). x ++ y) a b

-- ---- keys

follow_join : (test : Bytes → Bool) (block more : List Entry) → 1 ≤ length block → Follow is_any (keys_of block) → test (first_key block) ≡ true → Follow (is_before (last_key block)) (keys_of more)
    → Follow test (keys_of (block ++ more))
follow_join test [] more some rising first rest = absurd (omega (arith, some))
follow_join test (e ∷ []) more some rising first rest = (first, rest)
follow_join test (e ∷ next ∷ later) more some rising first rest =
    (first, follow_join (is_before e.key) (next ∷ later) more (omega arith) (refl, rising.1.1) rising.1.0 rest)

-- ---- one block

-- the pieces that are from a page on, by their rows
abbrev pub pieces_at : ℕ → List IndexRow → Image → List Bytes
pieces_at page [] image = []
pieces_at page (row ∷ later) image = block_part page row image ∷ pieces_at (page + row.pages) later image

pub pieces_read : (page : ℕ) (rows : List IndexRow) (image : Image) → blocks_in (pieces_at page rows image) ≡ blocks_at page rows image
pieces_read page [] image = refl
pieces_read page (row ∷ later) image = ap (λ (bs : List (List Entry)). block_at page row image ∷ bs) (pieces_read (page + row.pages) later image)

pub record IsOfRow (page : ℕ) (row : IndexRow) (image : Image) : Type 0 where
  pub piece : IsPiece (block_part page row image)
  pub sum : row.sum ≡ fnv_of (block_part page row image)

pub of_row : (page : ℕ) (row : IndexRow) (image : Image) → IsOfBytes image → block_damage page row image ≡ None → IsOfRow page row image
of_row page row image bytes none =
    let part = block_part page row image in
    let kept = part_kept _ (byte_of_page page) row.sum part (block_fault part) none in
    let written = either_written part (window_bytes image (byte_of_page page) (4096 * row.pages) bytes) kept.1 in
    record { piece = record { whole = kept.1; sound = written.0 }; sum = kept.0 }

part_size : (page : ℕ) (row : IndexRow) (image : Image) → length (block_part page row image) ≡ 4096 * row.pages
part_size page row image = window_size image (byte_of_page page) (4096 * row.pages)

four_thousand : (a b : ℕ) → 4096 * a ≡ 4096 * b → a ≡ b
four_thousand a b same = omega arith

row_of : (page : ℕ) (row : IndexRow) (image : Image) → IsOfRow page row image → row.last ≡ last_key (block_at page row image) → row_of_piece (block_part page row image) ≡ row
unfolding row_of_piece
row_of page row image is last =
    let part = block_part page row image in
    let pages = four_thousand (piece_pages part) row.pages (sym (piece_fills part is.piece.whole) ∙ part_size page row image) in
    λ i. record { pages = pages i; sum = sym is.sum i; last = sym last i }

block_shown : (page : ℕ) (row : IndexRow) (image : Image) → Shows (byte_of_page page) (block_part page row image) image
block_shown page row image = ap (window image (byte_of_page page)) (part_size page row image)

-- ---- the blocks from a page on

pub record AreBlocks (page : ℕ) (before : Before) (rows : List IndexRow) (image : Image) : Type 0 where
  pub each : AllByRecursion IsPiece (pieces_at page rows image)
  pub rows_are : map row_of_piece (pieces_at page rows image) ≡ rows
  pub shown : Shows (byte_of_page page) (end_to_end (pieces_at page rows image)) image
  pub rising : Follow (may_follow before) (keys_of (joined (blocks_at page rows image)))

pub at_none : (page : ℕ) (before : Before) (row : IndexRow) (o : Option Damage) (image : Image) → findings_at page before row o image ≡ [] → (o ≡ None) × (has_its_keys before row (block_at page row image) ≡ true)
at_none page before row None image e = (refl, right _ _ e)
at_none page before row (Some d) image e = absurd (a_damage_is_found d e)

pub are_blocks : (page : ℕ) (before : Before) (rows : List IndexRow) (image : Image) → IsOfBytes image → block_findings page before rows image ≡ [] → AreBlocks page before rows image
are_blocks page before [] image bytes none = record { each = tt; rows_are = refl; shown = refl; rising = tt }
are_blocks page before (row ∷ later) image bytes none =
    let block = block_at page row image in
    let parts = none_of_both (findings_at page before row (block_damage page row image) image) _ none in
    let here = at_none page before row (block_damage page row image) image parts.0 in
    let keys = and_parts (bytes_eq row.last (last_key block)) (may_follow before (first_key block)) here.1 in
    let is = of_row page row image bytes here.0 in
    let behind : known_behind page row (block_damage page row image) image ≡ Behind (last_key block) = ap (λ (o : Option Damage). known_behind page row o image) here.0 in
    let rest = are_blocks (page + row.pages) (Behind (last_key block)) later image bytes
    (subst (λ (b : Before). block_findings (page + row.pages) b later image ≡ []) behind parts.1) in
    let next : byte_of_page (page + row.pages) ≡ byte_of_page page + length (block_part page row image) = omega (arith, part_size page row image) in
    let blocks = blocks_at (page + row.pages) later image in
    let pieces = pieces_at (page + row.pages) later image in
    record {
      each = (is.piece, rest.each);
      rows_are = ap₂ (λ (r : IndexRow) (rs : List IndexRow). r ∷ rs) (row_of page row image is (same-true row.last (last_key block) keys.0)) rest.rows_are;
      shown = shown_join (byte_of_page page) (block_part page row image) (end_to_end pieces) image (block_shown page row image)
          (subst (λ (at : ℕ). Shows at (end_to_end pieces) image) next rest.shown);
      rising = follow_join (may_follow before) block (joined blocks) is.piece.sound.some is.piece.sound.rising keys.1 rest.rising;
    }
