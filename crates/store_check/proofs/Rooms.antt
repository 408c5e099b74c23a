-- The pages of blocks, which lie within the largest device.
use Rattle.std.proofs.Common.{◌≡◌, ◌≤◌, ◌<◌, ◌+◌, ℕ, zero, suc, List, [], ◌∷◌, length, take, refl, arith}
use Rattle.std.proofs.lemmas.List.Sums.{sum_by-cons}
use Rattle.block_model.specs.Index.{IndexRow, row_pages}
use Rattle.table_file.specs.Opened.{IsIndexOfRow, RowIndex}
use Rattle.table_file.specs.Search.{row_at}
use Rattle.store_check.specs.Places.{page_of}

pub pages_cons : (row : IndexRow) (rows : List IndexRow) → row_pages (row ∷ rows) ≡ row.pages + row_pages rows
pages_cons row rows = sum_by-cons (λ (r : IndexRow). r.pages) row rows

pages_within : (rows : List IndexRow) (n : ℕ) → n < length rows → row_pages (take n rows) + (row_at rows n).pages ≤ row_pages rows
pages_within [] n lt = absurd (omega (arith, lt))
pages_within (row ∷ later) zero lt =
    let a : row_pages (row ∷ later) ≡ row.pages + row_pages later = pages_cons row later in
    let b : row_pages (take zero (row ∷ later)) ≡ 0 = refl in
    let c : (row_at (row ∷ later) zero).pages ≡ row.pages = refl in
    omega (arith, a, b, c)
pages_within (row ∷ later) (suc n) lt =
    let a : row_pages (row ∷ later) ≡ row.pages + row_pages later = pages_cons row later in
    let b : row_pages (take (suc n) (row ∷ later)) ≡ row.pages + row_pages (take n later) = pages_cons row (take n later) in
    let c : (row_at (row ∷ later) (suc n)).pages ≡ (row_at later n).pages = refl in
    omega (arith, a, b, c, pages_within later n (omega (arith, lt)))

pub block_inside : (x : RowIndex) (n : ℕ) → IsIndexOfRow x → n < length x.index.rows → page_of x n + (row_at x.index.rows n).pages ≤ 16777216
block_inside x n is lt = omega (arith, pages_within x.index.rows n lt, is.pages, is.fits.within)

pub few_taken : (n : ℕ) (xs : List ℕ) → length (take n xs) ≤ n
few_taken zero xs = omega arith
few_taken (suc n) [] = omega arith
few_taken (suc n) (x ∷ xs) = omega (arith, few_taken n xs)
