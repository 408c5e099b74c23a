-- A sorted group is joined of its own branches.
use Rattle.std.proofs.Common.{◌≡◌, ℕ, suc, ◌<◌, ◌≤◌, List, [], ◌∷◌, ◌++◌, refl, ap, sym, ◌∙◌, arith, map, Bool, true, false, cond, inl, inr, eqb, ltb}
use Rattle.std.specs.List.{AllByRecursion}
use Rattle.std.proofs.lemmas.Bool.{false≢true, true≢false, cases_Bool, eqb-true, eq-eqb, eqb-false, ne_eqb, ltb-true, cases_lt, or_cases}
use Rattle.filter_image_model.proofs.Joins.{apart_sym}
use Rattle.trie_model.specs.Letters.{comes_before as before, order_of}
use Rattle.trie_model.specs.Rests.{tails}
use Rattle.filter_image_model.proofs.GroupWords.{Group, From, join, Sorted, Rising, among}

-- the strings that do not begin with c
without : ℕ → Group → Group
without c [] = []
without c ([] ∷ g) = [] ∷ without c g
without c ((a ∷ x) ∷ g) = cond (eqb a c) (without c g) ((a ∷ x) ∷ without c g)

order_apart : (a c : ℕ) → order_of a ≡ order_of c → a ≡ c
order_apart a c e = go (eqb a 256) (eqb c 256) refl refl
  where
    go : (t u : Bool) → eqb a 256 ≡ t → eqb c 256 ≡ u → a ≡ c
    go true true f g = eqb-true a 256 f ∙ sym (eqb-true c 256 g)
    go true false f g = let h : 0 ≡ suc c = (rw f at (rw g at e)) in absurd (omega (arith, h))
    go false true f g = let h : suc a ≡ 0 = (rw f at (rw g at e)) in absurd (omega (arith, h))
    go false false f g = let h : suc a ≡ suc c = (rw f at (rw g at e)) in omega (arith, h)

-- where all begin behind c, none begins with c
none_behind : (c : ℕ) (g : Group) → From (suc (order_of c)) g → (tails c g ≡ []) × (without c g ≡ g)
unfolding without
none_behind c [] f = (refl, refl)
none_behind c ([] ∷ g) f = absurd f
none_behind c ((a ∷ x) ∷ g) f =
    let ih = none_behind c g f.1 in
    let apart : eqb a c ≡ false = ne_eqb a c (λ e. let h = ap order_of e in omega (arith, h, f.0)) in
    rw apart (ih.0, ap (λ (h : Group). (a ∷ x) ∷ h) ih.1)

-- behind a string of a sorted group none begins with a lesser letter
pub sorted_from : (a : ℕ) (x : List ℕ) (m : ℕ) (g : Group) → AllByRecursion (λ y. before (a ∷ x) y ≡ true) g → From (order_of a) g
sorted_from a x m [] s = tt
sorted_from a x m ([] ∷ g) s = absurd (false≢true s.0)
sorted_from a x m ((b ∷ y) ∷ g) s = (at_most (eqb a b) refl s.0, sorted_from a x m g s.1)
  where
    at_most : (t : Bool) → eqb a b ≡ t → cond t (before x y) (ltb (order_of a) (order_of b)) ≡ true → order_of a ≤ order_of b
    at_most true e h = let k = ap order_of (eqb-true a b e) in omega (arith, k)
    at_most false e h = let k = ltb-true (order_of a) (order_of b) h in omega (arith, k)

pub from_weaker : (m n : ℕ) (g : Group) → m ≤ n → From n g → From m g
from_weaker m n [] l f = tt
from_weaker m n ([] ∷ g) l f = absurd f
from_weaker m n ((a ∷ x) ∷ g) l f = (omega (arith, f.0), from_weaker m n g l f.1)

strictly_above : (c a : ℕ) → order_of c ≤ order_of a → eqb a c ≡ false → suc (order_of c) ≤ order_of a
strictly_above c a l apart = elim (cases_lt (order_of c) (order_of a)) [
  | inl lt ↦ lt
  | inr ge ↦ absurd (eqb-false a c apart (order_apart a c (let m = order_of a in let n = order_of c in omega arith)))
]

-- the strings that begin with the least letter come first
split_least : (c : ℕ) (g : Group) → Sorted g → From (order_of c) g → g ≡ map (λ (x : List ℕ). c ∷ x) (tails c g) ++ without c g
unfolding without
split_least c [] s f = refl
split_least c ([] ∷ g) s f = absurd f
split_least c ((a ∷ x) ∷ g) s f = elim (cases_Bool (eqb a c)) [
  | inl same ↦
      let e = eqb-true a c same in
      rw same (ap (λ (d : ℕ). (d ∷ x) ∷ g) e ∙ ap (λ (h : Group). (c ∷ x) ∷ h) (split_least c g s.1 f.1))
  | inr apart ↦
      let above : suc (order_of c) ≤ order_of a = strictly_above c a f.0 apart in
      let rest = none_behind c g (from_weaker (suc (order_of c)) (order_of a) g above (sorted_from a x 0 g s.0)) in
      rw (apart, rest.0, rest.1) refl
]

-- each string begins with one of these letters
abbrev pub HeadsIn : List ℕ → Group → Type 0
HeadsIn cs [] = Unit {0}
HeadsIn cs ([] ∷ g) = ⊥
HeadsIn cs ((a ∷ x) ∷ g) = (among a cs ≡ true) × HeadsIn cs g

above_all : (c a : ℕ) (cs : List ℕ) → AllByRecursion (λ d. order_of c < order_of d) cs → among a cs ≡ true → order_of c < order_of a
above_all c a [] w e = absurd (false≢true e)
above_all c a (d ∷ cs) w e = elim (or_cases _ _ e) [
  | inl same ↦ let h = ap order_of (eqb-true d a same) in omega (arith, h, w.0)
  | inr later ↦ above_all c a cs w.1 later
]

heads_from : (c : ℕ) (cs : List ℕ) (g : Group) → AllByRecursion (λ d. order_of c < order_of d) cs → HeadsIn (c ∷ cs) g → From (order_of c) g
heads_from c cs [] w h = tt
heads_from c cs ([] ∷ g) w h = absurd h
heads_from c cs ((a ∷ x) ∷ g) w h = (
  elim (or_cases _ _ h.0) [
    | inl same ↦ let e = ap order_of (eqb-true c a same) in omega (arith, e)
    | inr later ↦ let k = above_all c a cs w later in omega (arith, k)
  ],
  heads_from c cs g w h.1,
)

heads_without : (c : ℕ) (cs : List ℕ) (g : Group) → HeadsIn (c ∷ cs) g → HeadsIn cs (without c g)
unfolding without
heads_without c cs [] h = tt
heads_without c cs ([] ∷ g) h = absurd h
heads_without c cs ((a ∷ x) ∷ g) h = go (eqb a c) refl (heads_without c cs g h.1)
  where
    go : (t : Bool) → eqb a c ≡ t → HeadsIn cs (without c g) → HeadsIn cs (cond t (without c g) ((a ∷ x) ∷ without c g))
    go true e ih = ih
    go false e ih = (
      elim (or_cases _ _ h.0) [
        | inl same ↦ absurd (true≢false (sym same ∙ apart_sym a c e))
        | inr later ↦ later
      ],
      ih,
    )

all_without : (P : List ℕ → Type 0) (c : ℕ) (g : Group) → AllByRecursion P g → AllByRecursion P (without c g)
unfolding without
all_without P c [] w = tt
all_without P c ([] ∷ g) w = (w.0, all_without P c g w.1)
all_without P c ((a ∷ x) ∷ g) w = go (eqb a c) (all_without P c g w.1)
  where
    go : (t : Bool) → AllByRecursion P (without c g) → AllByRecursion P (cond t (without c g) ((a ∷ x) ∷ without c g))
    go true ih = ih
    go false ih = (w.0, ih)

sorted_without : (c : ℕ) (g : Group) → Sorted g → Sorted (without c g)
unfolding without
sorted_without c [] s = tt
sorted_without c ([] ∷ g) s = (all_without (λ y. before [] y ≡ true) c g s.0, sorted_without c g s.1)
sorted_without c ((a ∷ x) ∷ g) s = go (eqb a c) (sorted_without c g s.1)
  where
    go : (t : Bool) → Sorted (without c g) → Sorted (cond t (without c g) ((a ∷ x) ∷ without c g))
    go true ih = ih
    go false ih = (all_without (λ y. before (a ∷ x) y ≡ true) c g s.0, ih)

tails_without : (c d : ℕ) (g : Group) → eqb c d ≡ false → tails d (without c g) ≡ tails d g
unfolding without
tails_without c d [] e = refl
tails_without c d ([] ∷ g) e = tails_without c d g e
tails_without c d ((a ∷ x) ∷ g) e = go (eqb a c) refl (tails_without c d g e)
  where
    go : (t : Bool) → eqb a c ≡ t → tails d (without c g) ≡ tails d g → tails d (cond t (without c g) ((a ∷ x) ∷ without c g)) ≡ cond (eqb a d) (x ∷ tails d g) (tails d g)
    go true f ih =
        let other : eqb a d ≡ false = ap (λ (b : ℕ). eqb b d) (eqb-true a c f) ∙ e in
        rw other ih
    go false f ih = ap (λ (t : Group). cond (eqb a d) (x ∷ t) t) ih

-- a sorted group is joined of what stands behind each letter
pub join_over : (cs : List ℕ) (g : Group) → Rising cs → Sorted g → HeadsIn cs g → join (map (λ (c : ℕ). (c, tails c g)) cs) ≡ g
join_over [] [] r s h = refl
join_over [] ([] ∷ g) r s h = absurd h
join_over [] ((a ∷ x) ∷ g) r s h = absurd (false≢true h.0)
join_over (c ∷ cs) g r s h =
    let rest = join_over cs (without c g) r.1 (sorted_without c g s) (heads_without c cs g h) in
    ap (λ (k : Group). map (λ (x : List ℕ). c ∷ x) (tails c g) ++ k) (same_tails cs r.0 ∙ rest)
    ∙ sym (split_least c g s (heads_from c cs g r.0 h))
  where
    same_tails : (ds : List ℕ) → AllByRecursion (λ d. order_of c < order_of d) ds → join (map (λ (d : ℕ). (d, tails d g)) ds) ≡ join (map (λ (d : ℕ). (d, tails d (without c g))) ds)
    same_tails [] w = refl
    same_tails (d ∷ ds) w =
        let apart : eqb c d ≡ false = ne_eqb c d (λ e. let k = ap order_of e in omega (arith, k, w.0)) in
        ap (λ (t : Group). map (λ (x : List ℕ). d ∷ x) t ++ join (map (λ (e : ℕ). (e, tails e g)) ds)) (sym (tails_without c d g apart))
        ∙ ap (λ (k : Group). map (λ (x : List ℕ). d ∷ x) (tails d (without c g)) ++ k) (same_tails ds w.1)

before_tails : (a c : ℕ) (x : List ℕ) (g : Group) → a ≡ c → AllByRecursion (λ y. before (a ∷ x) y ≡ true) g → AllByRecursion (λ y. before x y ≡ true) (tails c g)
before_tails a c x [] e w = tt
before_tails a c x ([] ∷ g) e w = before_tails a c x g e w.1
before_tails a c x ((b ∷ y) ∷ g) e w = go (eqb b c) refl (before_tails a c x g e w.1)
  where
    go : (t : Bool) → eqb b c ≡ t → AllByRecursion (λ z. before x z ≡ true) (tails c g) → AllByRecursion (λ z. before x z ≡ true) (cond t (y ∷ tails c g) (tails c g))
    go true h ih =
        let same : eqb a b ≡ true = eq-eqb a b (e ∙ sym (eqb-true b c h)) in
        (sym (ap (λ (t : Bool). cond t (before x y) (ltb (order_of a) (order_of b))) same) ∙ w.0, ih)
    go false h ih = ih

pub sorted_tails : (c : ℕ) (g : Group) → Sorted g → Sorted (tails c g)
sorted_tails c [] s = tt
sorted_tails c ([] ∷ g) s = sorted_tails c g s.1
sorted_tails c ((a ∷ x) ∷ g) s = go (eqb a c) refl (sorted_tails c g s.1)
  where
    go : (t : Bool) → eqb a c ≡ t → Sorted (tails c g) → Sorted (cond t (x ∷ tails c g) (tails c g))
    go true e ih = (before_tails a c x g (eqb-true a c e) s.0, ih)
    go false e ih = ih
