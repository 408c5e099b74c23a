-- Rows of an index are searched by their last keys alone: those of pieces as those of the blocks that are read of them.
use Rattle.std.proofs.Common.{◌≡◌, ◌≤◌, ◌+◌, ℕ, zero, suc, cond, not, List, [], ◌∷◌, length, get_or, refl, sym, ap, ap₂, ◌∙◌}
use Rattle.std.specs.Prelude.{Some, None, map, nat_lt}
use Rattle.std.specs.List.{AllByRecursion, position_or_len}
use Rattle.std.proofs.lemmas.List.{length-map}
use Rattle.map_model.specs.SortedMap.{Bytes}
use Rattle.entry_model.specs.Entries.{Entry}
use Rattle.block_model.specs.Index.{IndexRow, index_row_of}
use Rattle.block_model.specs.Order.{is_from}
use Rattle.table_model.specs.Pieces.{IsPiece, blocks_in, row_of_piece}
use Rattle.table_model.proofs.Pieces.{row_last as piece_last}
use Rattle.table_file.specs.Search.{first_block, row_at}
use Rattle.table_file.proofs.Lookups.{row_last}

abbrev pub last_keys : List IndexRow → List Bytes
last_keys rows = map (λ (row : IndexRow). row.last) rows

pub rows_lasts : (pieces : List Bytes) → last_keys (map row_of_piece pieces) ≡ last_keys (map index_row_of (blocks_in pieces))
rows_lasts [] = refl
rows_lasts (p ∷ more) = ap₂ (λ (k : Bytes) (ks : List Bytes). k ∷ ks) (piece_last p ∙ sym (row_last _)) (rows_lasts more)

pub same_many : (xs ys : List IndexRow) → last_keys xs ≡ last_keys ys → length xs ≡ length ys
same_many xs ys same = sym (length-map xs (λ (row : IndexRow). row.last)) ∙ ap length same ∙ length-map ys (λ (row : IndexRow). row.last)

pub same_place : (key : Bytes) (xs ys : List IndexRow) → last_keys xs ≡ last_keys ys
    → position_or_len (λ (row : IndexRow). is_from key row.last) xs ≡ position_or_len (λ (row : IndexRow). is_from key row.last) ys
same_place key [] [] same = refl
same_place key [] (y ∷ ys) same = absurd cc
same_place key (x ∷ xs) [] same = absurd cc
same_place key (x ∷ xs) (y ∷ ys) same =
    let head : x.last ≡ y.last = cc in
    let tail : last_keys xs ≡ last_keys ys = cc in
    ap₂ (λ (k : Bytes) (n : ℕ). cond (not (is_from key k)) (1 + n) 0) head (same_place key xs ys tail)

pub same_first : (key : Bytes) (xs ys : List IndexRow) → last_keys xs ≡ last_keys ys → first_block xs key ≡ first_block ys key
same_first key xs ys same = ap₂ (λ (n m : ℕ). cond (nat_lt n m) (Some n) None) (same_place key xs ys same) (same_many xs ys same)

pub same_last : (xs ys : List IndexRow) (n : ℕ) → last_keys xs ≡ last_keys ys → (row_at xs n).last ≡ (row_at ys n).last
same_last [] [] n same = refl
same_last [] (y ∷ ys) n same = absurd cc
same_last (x ∷ xs) [] n same = absurd cc
same_last (x ∷ xs) (y ∷ ys) zero same = cc
same_last (x ∷ xs) (y ∷ ys) (suc n) same = let tail : last_keys xs ≡ last_keys ys = cc in same_last xs ys n tail

pub some_each : (pieces : List Bytes) → AllByRecursion IsPiece pieces → AllByRecursion (λ b. 1 ≤ length b) (blocks_in pieces)
some_each [] each = tt
some_each (p ∷ more) each = (each.0.sound.some, some_each more each.1)
