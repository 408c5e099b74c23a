-- Loops over leaves: what is left to look at.
use Rattle.std.proofs.Common.{◌≡◌, ◌<◌, ◌≤◌, ◌+◌, ◌-◌, ◌==◌, ℕ, zero, suc, List, [], ◌∷◌, ◌++◌, Bool, true, false, cond, Some, max, length, get_or, set, drop, map, refl, sym, ap, subst, ◌∙◌, arith, inl, inr}
use mir.Val.{bool_byte}
use Rattle.std.specs.Prelude.{slice_get}
use Rattle.std.specs.List.{All, range_with_len}
use Rattle.std.proofs.lemmas.Bool.{cases_eq, eq-eqb, ne_eqb, cond-true, cond-false}
use Rattle.std.proofs.lemmas.List.{drop_more, length-append, get_or-set_same, get_or-set_other}
use Rattle.std.proofs.lemmas.List.FromFn.{get_or-map-range_with_len, length-map-range_with_len, map-range_with_len_more}
use Rattle.std.proofs.lemmas.Option.{get_or_from_slice_get}
use Rattle.filter_model.specs.Leaves.{Leaf}
use Rattle.filter_model.specs.Strings.{shared}
use Rattle.filter_model.specs.Trie.{END, height, level, level_labels, level_nodes, path}
use Rattle.filter_model.proofs.Counts.{count_by-cons}
use Rattle.trie_levels.specs.Neighbours.{endings, level_branches, partings}
use Rattle.filter_model.specs.Valid.{IsStub}
use Rattle.trie_levels.specs.Tries.{HasTrie}
use Rattle.trie_levels.proofs.Growth.{Stands, leaves_part}
use Rattle.trie_levels.proofs.Totals.{in_order, one_if_same}
use Rattle.std.proofs.lemmas.List.Sums.{count_by-le-length}

pub rest_at : (ls : List Leaf) (i : ℕ) (l : Leaf) → i < length ls → slice_get ls i ≡ Some l → drop i ls ≡ l ∷ drop (i + 1) ls
rest_at ls i l within e = drop_more ls i l within ∙ ap (λ (x : Leaf). x ∷ drop (i + 1) ls) (get_or_from_slice_get ls i l l e)

-- END is one letter more
pub path-long : (x : List ℕ) (ends : Bool) (hash real : ℕ) → length (path (record { stub = x; ends = ends; hash = hash; real = real })) ≡ length x + cond ends 1 0
unfolding path
path-long x true hash real = length-append x (END ∷ [])
path-long x false hash real = length-append x []

byte_of : (b : Bool) → bool_byte b ≡ cond b 1 0
byte_of true = refl
byte_of false = refl

pub path-bytes : (l : Leaf) → length l.stub + bool_byte l.ends ≡ length (path l)
path-bytes l = omega (arith, path-long l.stub l.ends l.hash l.real, byte_of l.ends)

pub path-short : (l : Leaf) → IsStub l → length (path l) ≤ 1025
path-short l h = omega (arith, path-long l.stub l.ends l.hash l.real, one_at_most l.ends, h.short)
  where
    one_at_most : (b : Bool) → cond {A = ℕ} b 1 0 ≤ 1
    one_at_most true = omega arith
    one_at_most false = omega arith

pub path-filled : (l : Leaf) → IsStub l → 0 < length (path l)
path-filled l h = omega (arith, path-long l.stub l.ends l.hash l.real, h.filled)

pub stub_at : (ls : List Leaf) (i : ℕ) (l : Leaf) → All IsStub ls → i < length ls → slice_get ls i ≡ Some l → IsStub l
stub_at ls i l h within e = subst IsStub (get_or_from_slice_get ls i l l e) (h i l within)

pub height-nil : height [] ≡ 0
unfolding height
height-nil = refl

pub height-cons : (l : Leaf) (ls : List Leaf) → height (l ∷ ls) ≡ max (length (path l)) (height ls)
unfolding height
height-cons l ls = refl

-- the longest path is one of those passed or of the rest
pub height-rest : (ls : List Leaf) (i : ℕ) (l : Leaf) → i < length ls → slice_get ls i ≡ Some l → height (drop i ls) ≡ max (length (path l)) (height (drop (i + 1) ls))
height-rest ls i l within e = ap height (rest_at ls i l within e) ∙ height-cons l (drop (i + 1) ls)

pub height-ge : (ls : List Leaf) (i : ℕ) (l : Leaf) → i < length ls → slice_get ls i ≡ Some l → length (path l) ≤ height ls
height-ge ls i l within e = go ls i within (get_or_from_slice_get ls i l l e)
  where
    go : (ls : List Leaf) (i : ℕ) → i < length ls → get_or ls i l ≡ l → length (path l) ≤ height ls
    go [] i h e = absurd (omega arith)
    go (m ∷ ls) zero h e = omega (arith, height-cons m ls, ap (λ (x : Leaf). length (path x)) e)
    go (m ∷ ls) (suc i) h e = let rest = go ls i (omega arith) e in omega (arith, height-cons m ls)

-- one place is counted up, and so there is one less to come
pub count_up : (counts : List ℕ) (k levels : ℕ) (hit : ℕ → Bool) (rest total : ℕ → ℕ) → k < length counts → ((n : ℕ) → hit n ≡ (k == n))
    → ((n : ℕ) → n < levels → get_or counts n 0 + (cond (hit n) 1 0 + rest n) ≡ total n)
    → (n : ℕ) → n < levels → get_or (set counts k (get_or counts k 0 + 1)) n 0 + rest n ≡ total n
count_up counts k levels hit rest total within hits before n below = elim (cases_eq n k) [
  | inl here ↦
      let yes : hit n ≡ true = hits n ∙ eq-eqb k n (sym here) in
      let up : get_or (set counts k (get_or counts k 0 + 1)) n 0 ≡ get_or counts n 0 + 1 =
      ap (λ m. get_or (set counts k (get_or counts k 0 + 1)) m 0) here ∙ get_or-set_same counts k (get_or counts k 0 + 1) 0 within ∙ ap (λ m. get_or counts m 0 + 1) (sym here) in
      omega (arith, before n below, up, cond-true {A = ℕ} (hit n) 1 0 yes)
  | inr other ↦
      let no : hit n ≡ false = hits n ∙ ne_eqb k n (λ e. other (sym e)) in
      omega (arith, before n below, get_or-set_other counts k n (get_or counts k 0 + 1) 0 other, cond-false {A = ℕ} (hit n) 1 0 no)
]

-- a number less one is another exactly where it is that one more
pub one_less : (a k n : ℕ) → a ≡ k + 1 → (a == n + 1) ≡ (k == n)
one_less a k n e = elim (cases_eq k n) [
  | inl same ↦ eq-eqb a (n + 1) (omega arith) ∙ sym (eq-eqb k n same)
  | inr other ↦ ne_eqb a (n + 1) (λ same. other (omega arith)) ∙ sym (ne_eqb k n other)
]

-- there is room to count up
pub count_fits : (count rest total : ℕ) (hit : Bool) → count + (cond hit 1 0 + rest) ≡ total → hit ≡ true → count + 1 ≤ total
count_fits count rest total hit e found = omega (arith, cond-true {A = ℕ} hit 1 0 found)

pub endings-rest : (ls : List Leaf) (i n : ℕ) (l : Leaf) → i < length ls → slice_get ls i ≡ Some l → endings (drop i ls) n ≡ cond (length (path l) == n + 1) 1 0 + endings (drop (i + 1) ls) n
endings-rest ls i n l within e =
    ap (λ (r : List Leaf). endings r n) (rest_at ls i l within e) ∙ count_by-cons (λ l. length (path l) == n + 1) l (drop (i + 1) ls)

pub endings-le : (ls : List Leaf) (n : ℕ) → endings ls n ≤ length ls
endings-le ls n = count_by-le-length (λ l. length (path l) == n + 1) ls

pub partings-rest : (ls : List Leaf) (i n : ℕ) (l m : Leaf) → 0 < i → i < length ls → slice_get ls (i - 1) ≡ Some l → slice_get ls i ≡ Some m
    → partings (drop (i - 1) ls) n ≡ cond (shared l.stub m.stub == n) 1 0 + partings (drop i ls) n
partings-rest ls i n l m pos within e f =
    let near : i - 1 + 1 ≡ i = omega arith in
    let second = rest_at ls i m within f in
    ap (λ (r : List Leaf). partings r n) (rest_at ls (i - 1) l (omega arith) e ∙ ap (λ k. l ∷ drop k ls) near ∙ ap (λ (r : List Leaf). l ∷ r) second)
    ∙ ap (λ (r : List Leaf). cond (shared l.stub m.stub == n) 1 0 + partings r n) (sym second)

pub partings-le : (ls : List Leaf) (n : ℕ) → partings ls n ≤ length ls
partings-le [] n = omega arith
partings-le (l ∷ []) n = omega arith
partings-le (l ∷ m ∷ ls) n = elim (one_if_same (shared l.stub m.stub) n) [
  | inl (same, one) ↦ omega (arith, partings-le (m ∷ ls) n)
  | inr (other, none) ↦ omega (arith, partings-le (m ∷ ls) n)
]

-- behind the last pair there is none
pub partings-last : (ls : List Leaf) (i n : ℕ) → length ls ≤ i → partings (drop (i - 1) ls) n ≡ 0
partings-last ls i n h = go ls (i - 1) (omega arith)
  where
    go : (ls : List Leaf) (k : ℕ) → length ls ≤ k + 1 → partings (drop k ls) n ≡ 0
    go [] zero h = refl
    go [] (suc k) h = refl
    go (l ∷ []) zero h = refl
    go (l ∷ m ∷ ls) zero h = absurd (omega arith)
    go (l ∷ ls) (suc k) h = go ls k (omega arith)

-- a level more
pub nodes-next : (ls : List Leaf) (n : ℕ) → map (λ k. length (level ls k)) (range_with_len 0 (n + 1)) ≡ map (λ k. length (level ls k)) (range_with_len 0 n) ++ length (level ls n) ∷ []
nodes-next ls n = map-range_with_len_more (λ k. length (level ls k)) 0 n n (omega arith)

pub labels-next : (ls : List Leaf) (n : ℕ) → map (λ k. length (level_branches ls k)) (range_with_len 0 (n + 1)) ≡ map (λ k. length (level_branches ls k)) (range_with_len 0 n) ++ length (level_branches ls n) ∷ []
labels-next ls n = map-range_with_len_more (λ k. length (level_branches ls k)) 0 n n (omega arith)

pub nodes-all : (ls : List Leaf) → level_nodes ls ≡ map (λ k. length (level ls k)) (range_with_len 0 (height ls))
unfolding level_nodes
nodes-all ls = refl

pub labels-all : (ls : List Leaf) → level_labels ls ≡ map (λ k. length (level_branches ls k)) (range_with_len 0 (height ls))
unfolding level_labels level_branches
labels-all ls = refl

-- where two neighbours part, there is a level
pub parting-below : (ls : List Leaf) (i : ℕ) (l m : Leaf) → HasTrie ls → 0 < i → i < length ls → slice_get ls (i - 1) ≡ Some l → slice_get ls i ≡ Some m
    → shared l.stub m.stub < height ls
parting-below ls i l m h pos within e f =
    let first : get_or ls (i - 1) m ≡ l = get_or_from_slice_get ls (i - 1) l m e in
    let second : get_or ls i m ≡ m = get_or_from_slice_get ls i m m f in
    let pairs = (in_order ls h).pairs (i - 1) i m (omega arith) within in
    let stands : Stands l m = subst (λ (x : Leaf). Stands x m) first (subst (Stands (get_or ls (i - 1) m)) second pairs) in
    let part = leaves_part l m (stub_at ls i m h.stubs within f).bytes stands in
    omega (arith, part.first, height-ge ls (i - 1) l (omega arith) e)

-- a list made from its places
pub made-long : (f : ℕ → ℕ) (xs : List ℕ) (n : ℕ) → xs ≡ map f (range_with_len 0 n) → length xs ≡ n
made-long f xs n e = ap (length {A = ℕ}) e ∙ length-map-range_with_len f 0 n

pub made-at : (f : ℕ → ℕ) (xs : List ℕ) (n k d : ℕ) → xs ≡ map f (range_with_len 0 n) → k < n → get_or xs k d ≡ f k
made-at f xs n k d e h = ap (λ (l : List ℕ). get_or l k d) e ∙ get_or-map-range_with_len f 0 n k k d h (omega arith)

pub root-alone : (ls : List Leaf) → 1 ≡ length (level ls 0)
unfolding level
root-alone ls = refl

-- a path has the bytes of a key and END at most
pub height-short : (ls : List Leaf) → All IsStub ls → height ls ≤ 1025
height-short [] h = omega (arith, height-nil)
height-short (l ∷ ls) h = omega (arith, height-cons l ls, path-short l (h 0 l (omega arith)), height-short ls (λ i d within. h (suc i) d (omega (arith, within))))
