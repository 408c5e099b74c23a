-- Tables are put in and taken out one by one.
use Rattle.std.proofs.Common.{◌≡◌, ◌∙◌, ◌+◌, ◌-◌, ◌<◌, ◌++◌, ℕ, zero, suc, Bool, true, false, cond, List, [], ◌∷◌, fold, length, take, drop, get_or, map, refl, sym, ap, subst, arith}
use Rattle.std.specs.Prelude.{◌==◌}
use Rattle.std.specs.List.{insert, list_any, remove}
use Rattle.table_file.specs.Opened.{Opened}
use Rattle.store_core.specs.Install.{goes_before, others_in, put_in}
use Rattle.store_core.proofs.InstallLists.{put_behind, put_here}

-- ---- the place of a table

-- a look at the next
next_look : (new t : Opened) (tables : List Opened) (place : ℕ) → place < length tables → t ≡ get_or tables place t → goes_before new t ≡ false
    → take (suc place) tables ++ put_in (drop (suc place) tables) new ≡ take place tables ++ put_in (drop place tables) new
next_look new t [] place there at off = absurd (omega (arith, there))
next_look new t (x ∷ tables) zero there at off = let same : t ≡ x = at in sym (put_behind new x tables (subst (λ (y : Opened). goes_before new y ≡ false) same off))
next_look new t (x ∷ tables) (suc place) there at off = ap (λ (l : List Opened). x ∷ l) (next_look new t tables place (omega (arith, there)) at off)

pub look_next : (new t : Opened) (tables : List Opened) (place : ℕ) → place < length tables → t ≡ get_or tables place t → goes_before new t ≡ false
    → take (place + 1) tables ++ put_in (drop (place + 1) tables) new ≡ take place tables ++ put_in (drop place tables) new
look_next new t tables place there at off =
    let more : suc place ≡ place + 1 = omega arith in
    subst (λ (n : ℕ). take n tables ++ put_in (drop n tables) new ≡ take place tables ++ put_in (drop place tables) new) more (next_look new t tables place there at off)

-- it is found
pub look_found : (new t : Opened) (tables : List Opened) (place : ℕ) → place < length tables → t ≡ get_or tables place t → goes_before new t ≡ true
    → take place tables ++ put_in (drop place tables) new ≡ insert tables place new
look_found new t [] place there at on = absurd (omega (arith, there))
look_found new t (x ∷ tables) zero there at on = let same : t ≡ x = at in put_here new x tables (subst (λ (y : Opened). goes_before new y ≡ true) same on)
look_found new t (x ∷ tables) (suc place) there at on = ap (λ (l : List Opened). x ∷ l) (look_found new t tables place (omega (arith, there)) at on)

-- or it is after all
pub look_end : (new : Opened) (tables : List Opened) → take (length tables) tables ++ put_in (drop (length tables) tables) new ≡ insert tables (length tables) new
look_end new [] = refl
look_end new (x ∷ tables) = ap (λ (l : List Opened). x ∷ l) (look_end new tables)

-- ---- those that stay

abbrev decided : {A : Type 0} → List ℕ → Bool → A → List A → List A
decided which b x later = cond b (others_in which later) (x ∷ others_in which later)

next_others : {A : Type 0} (which : List ℕ) (xs : List A) (place : ℕ) (x : A) → place < length xs → x ≡ get_or xs place x
    → others_in which (drop place xs) ≡ decided which (list_any (λ (n : ℕ). n == (length xs - 1 - place)) which) x (drop (suc place) xs)
next_others which [] place x there at = absurd (omega (arith, there))
next_others which (y ∷ xs) zero x there at =
    let same : x ≡ y = at in
    let number : length xs ≡ length (y ∷ xs) - 1 - 0 = omega arith in
    ap (λ (z : _). decided which (list_any (λ (k : ℕ). k == length xs) which) z xs) (sym same)
    ∙ ap (λ (n : ℕ). decided which (list_any (λ (k : ℕ). k == n) which) x xs) number
next_others which (y ∷ xs) (suc place) x there at =
    let number : length xs - 1 - place ≡ length (y ∷ xs) - 1 - suc place = omega arith in
    next_others which xs place x (omega (arith, there)) at ∙ ap (λ (n : ℕ). decided which (list_any (λ (k : ℕ). k == n) which) x (drop (suc place) xs)) number

pub others_next : {A : Type 0} (which : List ℕ) (xs : List A) (place : ℕ) (x : A) → place < length xs → x ≡ get_or xs place x
    → others_in which (drop place xs) ≡ decided which (list_any (λ (n : ℕ). n == (length xs - 1 - place)) which) x (drop (place + 1) xs)
others_next which xs place x there at =
    let more : suc place ≡ place + 1 = omega arith in
    next_others which xs place x there at ∙ ap (λ (n : ℕ). decided which (list_any (λ (k : ℕ). k == (length xs - 1 - place)) which) x (drop n xs)) more

-- there is one at each place
pub first_at : {A : Type 0} (xs : List A) (place : ℕ) → place < length xs → (x : A) × (x ≡ get_or xs place x)
first_at [] place there = absurd (omega (arith, there))
first_at (x ∷ xs) zero there = (x, refl)
first_at (x ∷ xs) (suc place) there = first_at xs place (omega (arith, there))

-- one that is read is passed, another one is kept
pub others_passed : {A : Type 0} (which : List ℕ) (xs : List A) (place : ℕ) (x : A) → place < length xs → x ≡ get_or xs place x → list_any (λ (n : ℕ). n == (length xs - 1 - place)) which ≡ true
    → others_in which (drop place xs) ≡ others_in which (drop (place + 1) xs)
others_passed which xs place x there at read = others_next which xs place x there at ∙ ap (λ (b : Bool). decided which b x (drop (place + 1) xs)) read

pub others_kept : {A : Type 0} (which : List ℕ) (xs : List A) (place : ℕ) (x : A) → place < length xs → x ≡ get_or xs place x → list_any (λ (n : ℕ). n == (length xs - 1 - place)) which ≡ false
    → others_in which (drop place xs) ≡ x ∷ others_in which (drop (place + 1) xs)
others_kept which xs place x there at other = others_next which xs place x there at ∙ ap (λ (b : Bool). decided which b x (drop (place + 1) xs)) other

-- ---- one more is put in

pub put_last : (made tables : List Opened) (new : Opened) → fold put_in tables (made ++ new ∷ []) ≡ put_in (fold put_in tables made) new
put_last [] tables new = refl
put_last (w ∷ made) tables new = put_last made (put_in tables w) new

next_put : (tables made : List Opened) (place : ℕ) (new : Opened) → place < length made → new ≡ get_or made place new → fold put_in (put_in tables new) (drop (suc place) made) ≡ fold put_in tables (drop place made)
next_put tables [] place new there at = absurd (omega (arith, there))
next_put tables (w ∷ made) zero new there at = let same : new ≡ w = at in ap (λ (x : Opened). fold put_in (put_in tables x) made) same
next_put tables (w ∷ made) (suc place) new there at = next_put tables made place new (omega (arith, there)) at

pub put_next : (tables made : List Opened) (place : ℕ) (new : Opened) → place < length made → new ≡ get_or made place new → fold put_in (put_in tables new) (drop (place + 1) made) ≡ fold put_in tables (drop place made)
put_next tables made place new there at =
    let more : suc place ≡ place + 1 = omega arith in
    subst (λ (n : ℕ). fold put_in (put_in tables new) (drop n made) ≡ fold put_in tables (drop place made)) more (next_put tables made place new there at)

-- a reference that is put in, and what it refers to
pub map_insert : {A B : Type 0} (f : A → B) (xs : List A) (place : ℕ) (x : A) → map f (insert xs place x) ≡ insert (map f xs) place (f x)
map_insert f [] zero x = refl
map_insert f [] (suc place) x = refl
map_insert f (y ∷ xs) zero x = refl
map_insert f (y ∷ xs) (suc place) x = ap (λ (l : List _). f y ∷ l) (map_insert f xs place x)

-- ---- from the last on

back_passed : {A : Type 0} (which : List ℕ) (xs : List A) (place : ℕ) → place < length xs → list_any (λ (n : ℕ). n == (length xs - 1 - place)) which ≡ true
    → remove (take (suc place) xs ++ others_in which (drop (suc place) xs)) place ≡ take place xs ++ others_in which (drop place xs)
back_passed which [] place there read = absurd (omega (arith, there))
back_passed which (x ∷ xs) zero there read =
    let number : length (x ∷ xs) - 1 - 0 ≡ length xs = omega arith in
    let on : list_any (λ (n : ℕ). n == length xs) which ≡ true = ap (λ (m : ℕ). list_any (λ (n : ℕ). n == m) which) (sym number) ∙ read in
    sym (ap (λ (b : Bool). decided which b x xs) on)
back_passed which (x ∷ xs) (suc place) there read =
    let number : length xs - 1 - place ≡ length (x ∷ xs) - 1 - suc place = omega arith in
    ap (λ (l : List _). x ∷ l) (back_passed which xs place (omega (arith, there)) (ap (λ (m : ℕ). list_any (λ (n : ℕ). n == m) which) number ∙ read))

back_kept : {A : Type 0} (which : List ℕ) (xs : List A) (place : ℕ) → place < length xs → list_any (λ (n : ℕ). n == (length xs - 1 - place)) which ≡ false
    → take (suc place) xs ++ others_in which (drop (suc place) xs) ≡ take place xs ++ others_in which (drop place xs)
back_kept which [] place there other = absurd (omega (arith, there))
back_kept which (x ∷ xs) zero there other =
    let number : length (x ∷ xs) - 1 - 0 ≡ length xs = omega arith in
    let off : list_any (λ (n : ℕ). n == length xs) which ≡ false = ap (λ (m : ℕ). list_any (λ (n : ℕ). n == m) which) (sym number) ∙ other in
    sym (ap (λ (b : Bool). decided which b x xs) off)
back_kept which (x ∷ xs) (suc place) there other =
    let number : length xs - 1 - place ≡ length (x ∷ xs) - 1 - suc place = omega arith in
    ap (λ (l : List _). x ∷ l) (back_kept which xs place (omega (arith, there)) (ap (λ (m : ℕ). list_any (λ (n : ℕ). n == m) which) number ∙ other))

pub passed_back : {A : Type 0} (which : List ℕ) (xs : List A) (place : ℕ) → place < length xs → list_any (λ (n : ℕ). n == (length xs - 1 - place)) which ≡ true
    → remove (take (place + 1) xs ++ others_in which (drop (place + 1) xs)) place ≡ take place xs ++ others_in which (drop place xs)
passed_back which xs place there read =
    let more : suc place ≡ place + 1 = omega arith in
    subst (λ (n : ℕ). remove (take n xs ++ others_in which (drop n xs)) place ≡ take place xs ++ others_in which (drop place xs)) more (back_passed which xs place there read)

pub kept_back : {A : Type 0} (which : List ℕ) (xs : List A) (place : ℕ) → place < length xs → list_any (λ (n : ℕ). n == (length xs - 1 - place)) which ≡ false
    → take (place + 1) xs ++ others_in which (drop (place + 1) xs) ≡ take place xs ++ others_in which (drop place xs)
kept_back which xs place there other =
    let more : suc place ≡ place + 1 = omega arith in
    subst (λ (n : ℕ). take n xs ++ others_in which (drop n xs) ≡ take place xs ++ others_in which (drop place xs)) more (back_kept which xs place there other)
