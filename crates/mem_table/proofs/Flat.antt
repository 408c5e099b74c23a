-- The flat order of chunks, and what one change of a chunk makes of it.
use Rattle.std.proofs.Common.{◌≡◌, ℕ, zero, suc, ◌+◌, ◌-◌, ◌<◌, ◌≤◌, List, [], ◌∷◌, ◌++◌, length, drop, get_or, set, refl, sym, ap, ◌∙◌, arith}
use Rattle.std.specs.Prelude.{insert}
use Rattle.std.proofs.lemmas.List.{length-append, append_assoc, get_or_append_left, get_or-append-add}
use Rattle.std.proofs.lemmas.List.Edits.{insert-append_left, insert-append_right}
use Rattle.std.proofs.Math.Seq.{drop-append-add}
use Rattle.arrayvec.specs.ArrayVec.{ArrayVec}
use Rattle.mem_table.specs.Chunks.{flat, flat_at, IsPlace, IsGap, NoneEmpty}

-- ---- where a place of a chunk stands in the flat order

pub place_in : (chunks : List (ArrayVec ℕ)) (c k : ℕ) → IsPlace chunks c k → flat_at chunks c k < length (flat chunks)
place_in [] c k is = absurd is
place_in (x ∷ more) zero k is = omega (arith, length-append x.items (flat more), is)
place_in (x ∷ more) (suc c) k is = omega (arith, length-append x.items (flat more), place_in more c k is)

pub gap_in : (chunks : List (ArrayVec ℕ)) (c k : ℕ) → IsGap chunks c k → flat_at chunks c k ≤ length (flat chunks)
gap_in [] c k is = omega arith
gap_in (x ∷ more) zero k is = omega (arith, length-append x.items (flat more), is)
gap_in (x ∷ more) (suc c) k is = omega (arith, length-append x.items (flat more), gap_in more c k is)

-- a place stands in its chunk, and what stands in a chunk is a place
pub place_chunk : (chunks : List (ArrayVec ℕ)) (c k : ℕ) (d : ArrayVec ℕ) → IsPlace chunks c k → (c < length chunks) × (k < length (get_or chunks c d).items)
place_chunk [] c k d is = absurd is
place_chunk (x ∷ more) zero k d is = (omega arith, is)
place_chunk (x ∷ more) (suc c) k d is = let there = place_chunk more c k d is in (omega (arith, there.0), there.1)

pub place_from : (chunks : List (ArrayVec ℕ)) (c k : ℕ) (d : ArrayVec ℕ) → c < length chunks → k < length (get_or chunks c d).items → IsPlace chunks c k
place_from [] c k d lt within = absurd (omega arith)
place_from (x ∷ more) zero k d lt within = within
place_from (x ∷ more) (suc c) k d lt within = place_from more c k d (omega arith) within

pub gap_chunk : (chunks : List (ArrayVec ℕ)) (c k : ℕ) (d : ArrayVec ℕ) → IsGap chunks c k → c < length chunks → k ≤ length (get_or chunks c d).items
gap_chunk [] c k d is lt = absurd (omega arith)
gap_chunk (x ∷ more) zero k d is lt = is
gap_chunk (x ∷ more) (suc c) k d is lt = gap_chunk more c k d is (omega arith)

pub gap_from : (chunks : List (ArrayVec ℕ)) (c k : ℕ) (d : ArrayVec ℕ) → c < length chunks → k ≤ length (get_or chunks c d).items → IsGap chunks c k
gap_from [] c k d lt within = tt
gap_from (x ∷ more) zero k d lt within = within
gap_from (x ∷ more) (suc c) k d lt within = gap_from more c k d (omega arith) within

-- no chunk is empty, so each has a first place
pub first_place : (chunks : List (ArrayVec ℕ)) (c : ℕ) → NoneEmpty chunks → c < length chunks → IsPlace chunks c 0
first_place [] c some lt = absurd (omega arith)
first_place (x ∷ more) zero some lt = some.0
first_place (x ∷ more) (suc c) some lt = first_place more c some.1 (omega arith)

pub first_gap : (chunks : List (ArrayVec ℕ)) → IsGap chunks 0 0
first_gap [] = tt
first_gap (x ∷ more) = omega arith

-- what is at a place can go there
pub gap_of_place : (chunks : List (ArrayVec ℕ)) (c k : ℕ) → IsPlace chunks c k → IsGap chunks c k
gap_of_place [] c k is = tt
gap_of_place (x ∷ more) zero k is = omega (arith, is)
gap_of_place (x ∷ more) (suc c) k is = gap_of_place more c k is

-- the place, in its chunk and in the flat order
pub place_is : (chunks : List (ArrayVec ℕ)) (c k e : ℕ) (d : ArrayVec ℕ) → IsPlace chunks c k → get_or (get_or chunks c d).items k e ≡ get_or (flat chunks) (flat_at chunks c k) e
place_is [] c k e d is = absurd is
place_is (x ∷ more) zero k e d is = sym (get_or_append_left x.items (flat more) e k is)
place_is (x ∷ more) (suc c) k e d is = place_is more c k e d is ∙ sym (get_or-append-add x.items (flat more) (flat_at more c k) e)

-- ---- how spots stand to each other

pub within_at : (chunks : List (ArrayVec ℕ)) (c k : ℕ) → c < length chunks → flat_at chunks c k ≡ flat_at chunks c 0 + k
within_at [] c k lt = absurd (omega arith)
within_at (x ∷ more) zero k lt = omega arith
within_at (x ∷ more) (suc c) k lt = omega (arith, within_at more c k (omega arith))

-- behind the last place of a chunk comes the first of the next
pub next_at : (chunks : List (ArrayVec ℕ)) (c : ℕ) (d : ArrayVec ℕ) → c < length chunks → flat_at chunks c (length (get_or chunks c d).items) ≡ flat_at chunks (suc c) 0
next_at [] c d lt = absurd (omega arith)
next_at (x ∷ []) zero d lt = omega arith
next_at (x ∷ y ∷ more) zero d lt = omega arith
next_at (x ∷ more) (suc c) d lt = omega (arith, next_at more c d (omega arith))

pub end_at : (chunks : List (ArrayVec ℕ)) (c k : ℕ) → length chunks ≤ c → flat_at chunks c k ≡ length (flat chunks)
end_at [] c k le = refl
end_at (x ∷ more) zero k le = absurd (omega arith)
end_at (x ∷ more) (suc c) k le = omega (arith, length-append x.items (flat more), end_at more c k (omega arith))

pub chunks_rise : (chunks : List (ArrayVec ℕ)) (i j : ℕ) → NoneEmpty chunks → i < j → j < length chunks → flat_at chunks i 0 < flat_at chunks j 0
chunks_rise [] i j some lt within = absurd (omega arith)
chunks_rise (x ∷ more) i zero some lt within = absurd (omega arith)
chunks_rise (x ∷ more) zero (suc j) some lt within = omega (arith, some.0)
chunks_rise (x ∷ more) (suc i) (suc j) some lt within = omega (arith, chunks_rise more i j some.1 (omega arith) (omega arith))

-- ---- one place more

insert_behind : (front back : List ℕ) (k p : ℕ) → insert (front ++ back) (length front + k) p ≡ front ++ insert back k p
insert_behind front back k p =
    let rest : length front + k - length front ≡ k = omega arith in
    insert-append_right front back (length front) (length front + k) p refl (omega arith) ∙ ap (λ (n : ℕ). front ++ insert back n p) rest

-- a place more in one chunk
pub flat_set : (chunks : List (ArrayVec ℕ)) (c k p : ℕ) (x d : ArrayVec ℕ) → c < length chunks → IsGap chunks c k → x.items ≡ insert (get_or chunks c d).items k p
    → flat (set chunks c x) ≡ insert (flat chunks) (flat_at chunks c k) p
flat_set [] c k p x d lt gap is = absurd (omega arith)
flat_set (y ∷ more) zero k p x d lt gap is = ap (λ (ps : List ℕ). ps ++ flat more) is ∙ sym (insert-append_left y.items (flat more) k p gap)
flat_set (y ∷ more) (suc c) k p x d lt gap is = ap (λ (ps : List ℕ). y.items ++ ps) (flat_set more c k p x d (omega arith) gap is) ∙ sym (insert_behind y.items (flat more) (flat_at more c k) p)

-- a place more in one chunk that is parted into two
pub flat_split : (chunks : List (ArrayVec ℕ)) (c k p : ℕ) (x y d : ArrayVec ℕ) → c < length chunks → IsGap chunks c k → x.items ++ y.items ≡ insert (get_or chunks c d).items k p
    → flat (insert (set chunks c x) (suc c) y) ≡ insert (flat chunks) (flat_at chunks c k) p
flat_split [] c k p x y d lt gap is = absurd (omega arith)
flat_split (z ∷ more) zero k p x y d lt gap is =
    sym (append_assoc x.items y.items (flat more))
    ∙ ap (λ (ps : List ℕ). ps ++ flat more) is
    ∙ sym (insert-append_left z.items (flat more) k p gap)
flat_split (z ∷ more) (suc c) k p x y d lt gap is = ap (λ (ps : List ℕ). z.items ++ ps) (flat_split more c k p x y d (omega arith) gap is) ∙ sym (insert_behind z.items (flat more) (flat_at more c k) p)

-- a chunk more behind them all
pub flat_push : (chunks : List (ArrayVec ℕ)) (c k p : ℕ) (x : ArrayVec ℕ) → length chunks ≤ c → x.items ≡ p ∷ [] → flat (chunks ++ x ∷ []) ≡ insert (flat chunks) (flat_at chunks c k) p
flat_push [] c k p x le is = ap (λ (ps : List ℕ). ps ++ []) is
flat_push (y ∷ more) zero k p x le is = absurd (omega arith)
flat_push (y ∷ more) (suc c) k p x le is = ap (λ (ps : List ℕ). y.items ++ ps) (flat_push more c k p x (omega arith) is) ∙ sym (insert_behind y.items (flat more) (flat_at more c k) p)

-- ---- none is empty

pub some_set : (chunks : List (ArrayVec ℕ)) (c : ℕ) (x : ArrayVec ℕ) → 0 < length x.items → NoneEmpty chunks → NoneEmpty (set chunks c x)
some_set [] c x now some = tt
some_set (y ∷ more) zero x now some = (now, some.1)
some_set (y ∷ more) (suc c) x now some = (some.0, some_set more c x now some.1)

pub some_insert : (chunks : List (ArrayVec ℕ)) (c : ℕ) (x : ArrayVec ℕ) → 0 < length x.items → NoneEmpty chunks → NoneEmpty (insert chunks c x)
some_insert [] zero x now some = (now, tt)
some_insert [] (suc c) x now some = (now, tt)
some_insert (y ∷ more) zero x now some = (now, some)
some_insert (y ∷ more) (suc c) x now some = (some.0, some_insert more c x now some.1)

pub some_push : (chunks : List (ArrayVec ℕ)) (x : ArrayVec ℕ) → 0 < length x.items → NoneEmpty chunks → NoneEmpty (chunks ++ x ∷ [])
some_push [] x now some = (now, tt)
some_push (y ∷ more) x now some = (some.0, some_push more x now some.1)

pub some_behind : (chunks : List (ArrayVec ℕ)) (n : ℕ) → NoneEmpty chunks → NoneEmpty (drop n chunks)
some_behind [] zero some = tt
some_behind [] (suc n) some = tt
some_behind (y ∷ more) zero some = some
some_behind (y ∷ more) (suc n) some = some_behind more n some.1

-- ---- what stands from a spot on

pub flat_from : (chunks : List (ArrayVec ℕ)) (c k : ℕ) (d : ArrayVec ℕ) → c < length chunks → k ≤ length (get_or chunks c d).items
    → drop (flat_at chunks c k) (flat chunks) ≡ drop k (get_or chunks c d).items ++ flat (drop (suc c) chunks)
flat_from [] c k d lt within = absurd (omega arith)
flat_from (x ∷ more) zero k d lt within = drop_left x.items (flat more) k within
  where
    drop_left : (xs ys : List ℕ) (k : ℕ) → k ≤ length xs → drop k (xs ++ ys) ≡ drop k xs ++ ys
    drop_left [] ys zero le = refl
    drop_left [] ys (suc k) le = absurd (omega arith)
    drop_left (x ∷ xs) ys zero le = refl
    drop_left (x ∷ xs) ys (suc k) le = drop_left xs ys k (omega arith)
flat_from (x ∷ more) (suc c) k d lt within = drop-append-add x.items (flat more) (flat_at more c k) ∙ flat_from more c k d (omega arith) within

-- behind the last place of the last chunk is the end
pub end_behind : (chunks : List (ArrayVec ℕ)) (d : ArrayVec ℕ) → 0 < length chunks → flat_at chunks (length chunks - 1) (length (get_or chunks (length chunks - 1) d).items) ≡ length (flat chunks)
end_behind chunks d some =
    let end : length chunks ≤ suc (length chunks - 1) = omega arith in
    next_at chunks (length chunks - 1) d (omega arith) ∙ end_at chunks (suc (length chunks - 1)) 0 end
