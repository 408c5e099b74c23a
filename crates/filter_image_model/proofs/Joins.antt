-- A group that was joined of branches has these branches.
use Rattle.std.proofs.Common.{◌≡◌, ℕ, List, [], ◌∷◌, ◌++◌, refl, ap, sym, ◌∙◌, map, Bool, true, false, cond, inl, inr, eqb}
use Rattle.std.specs.Prelude.{All, ◌||◌}
use Rattle.std.proofs.lemmas.Bool.{false≢true, or_parts, or_left, ne_eqb, eqb-true, eq-eqb, cases_Bool, eqb-false}
use Rattle.std.proofs.lemmas.List.Elements.{filter_agree, All-head, All-tail}
use Rattle.std.proofs.lemmas.List.{append-nil}
use Rattle.filter_model.specs.Trie.{letters}
use Rattle.trie_model.specs.Rests.{tails}
use Rattle.filter_image_model.proofs.GroupWords.{Group, is_cons, heads, join, among, InOrder, Once}

cond_append : {X : Type 0} (b : Bool) (x : X) (r u t : List X) → r ≡ u ++ t → cond b (x ∷ r) r ≡ cond b (x ∷ u) u ++ t
cond_append true x r u t e = ap (λ y. x ∷ y) e
cond_append false x r u t e = e

tails-append : (c : ℕ) (g h : Group) → tails c (g ++ h) ≡ tails c g ++ tails c h
tails-append c [] h = refl
tails-append c ([] ∷ g) h = tails-append c g h
tails-append c ((a ∷ x) ∷ g) h = cond_append (eqb a c) x _ _ _ (tails-append c g h)

tails-own : (c : ℕ) (g : Group) → tails c (map (λ (x : List ℕ). c ∷ x) g) ≡ g
tails-own c [] = refl
tails-own c (x ∷ g) = rw (eq-eqb c c refl) (ap (λ (h : Group). x ∷ h) (tails-own c g))

tails-other : (a c : ℕ) (g : Group) → eqb a c ≡ false → tails c (map (λ (x : List ℕ). a ∷ x) g) ≡ []
tails-other a c [] e = refl
tails-other a c (x ∷ g) e = rw e (tails-other a c g e)

-- nothing stands behind a letter that no branch has
tails-join_none : (c : ℕ) (bs : List (ℕ × Group)) → among c (map (λ (b : ℕ × Group). b.0) bs) ≡ false → tails c (join bs) ≡ []
tails-join_none c [] e = refl
tails-join_none c (b ∷ bs) e =
    let parts = or_parts _ _ e in
    tails-append c (map (λ (x : List ℕ). b.0 ∷ x) b.1) (join bs)
    ∙ ap (λ (g : Group). g ++ tails c (join bs)) (tails-other b.0 c b.1 parts.0)
    ∙ tails-join_none c bs parts.1

-- behind the letter of the first branch stands its group
tails-join_here : (b : ℕ × Group) (bs : List (ℕ × Group)) → among b.0 (map (λ (x : ℕ × Group). x.0) bs) ≡ false → tails b.0 (join (b ∷ bs)) ≡ b.1
tails-join_here b bs e =
    tails-append b.0 (map (λ (x : List ℕ). b.0 ∷ x) b.1) (join bs)
    ∙ ap (λ (g : Group). g ++ tails b.0 (join bs)) (tails-own b.0 b.1)
    ∙ ap (λ (g : Group). b.1 ++ g) (tails-join_none b.0 bs e)
    ∙ append-nil b.1

-- and behind another letter what stands there without it
tails-join_there : (c : ℕ) (b : ℕ × Group) (bs : List (ℕ × Group)) → eqb b.0 c ≡ false → tails c (join (b ∷ bs)) ≡ tails c (join bs)
tails-join_there c b bs e =
    tails-append c (map (λ (x : List ℕ). b.0 ∷ x) b.1) (join bs)
    ∙ ap (λ (g : Group). g ++ tails c (join bs)) (tails-other b.0 c b.1 e)

pub apart_sym : (a c : ℕ) → eqb a c ≡ false → eqb c a ≡ false
apart_sym a c e = ne_eqb c a (λ h. eqb-false a c e (sym h))

is_cons-append : (g h : Group) → is_cons g ≡ true → is_cons (g ++ h) ≡ true
is_cons-append [] h e = absurd (false≢true e)
is_cons-append (x ∷ g) h e = refl

letter_of : ℕ × Group → ℕ
letter_of b = b.0

-- a letter has something behind it exactly where a branch has the letter
has_tails : (c : ℕ) (bs : List (ℕ × Group)) → All (λ (b : ℕ × Group). is_cons b.1 ≡ true) bs → is_cons (tails c (join bs)) ≡ among c (map (λ (b : ℕ × Group). b.0) bs)
has_tails c [] w = refl
has_tails c (b ∷ bs) w = elim (cases_Bool (eqb b.0 c)) [
  | inl same ↦
      let e = eqb-true b.0 c same in
      let own : tails c (map (λ (x : List ℕ). b.0 ∷ x) b.1) ≡ b.1 = ap (λ (d : ℕ). tails d (map (λ (x : List ℕ). b.0 ∷ x) b.1)) (sym e) ∙ tails-own b.0 b.1 in
      ap is_cons (tails-append c (map (λ (x : List ℕ). b.0 ∷ x) b.1) (join bs))
      ∙ ap (λ (g : Group). is_cons (g ++ tails c (join bs))) own
      ∙ is_cons-append b.1 (tails c (join bs)) (All-head (λ (y : ℕ × Group). is_cons y.1 ≡ true) b bs w)
      ∙ sym (or_left _ _ same)
  | inr apart ↦
      ap is_cons (tails-join_there c b bs apart)
      ∙ has_tails c bs (All-tail (λ (y : ℕ × Group). is_cons y.1 ≡ true) b bs w)
      ∙ sym (ap (λ (t : Bool). t || among c (map (λ (y : ℕ × Group). y.0) bs)) apart)
]

pub heads-join : (bs : List (ℕ × Group)) → All (λ (b : ℕ × Group). is_cons b.1 ≡ true) bs → InOrder (map (λ (b : ℕ × Group). b.0) bs) → heads (join bs) ≡ map (λ (b : ℕ × Group). b.0) bs
unfolding heads
heads-join bs w o = filter_agree (λ c. is_cons (tails c (join bs))) (λ c. among c (map (λ (b : ℕ × Group). b.0) bs)) (λ c. has_tails c bs w) letters ∙ o.kept

tails_without : (b : ℕ × Group) (bs : List (ℕ × Group)) (cs : List ℕ) → among b.0 cs ≡ false → map (λ (c : ℕ). tails c (join (b ∷ bs))) cs ≡ map (λ (c : ℕ). tails c (join bs)) cs
tails_without b bs [] e = refl
tails_without b bs (c ∷ cs) e =
    let parts = or_parts _ _ e in
    ap (λ (g : Group). g ∷ map (λ (d : ℕ). tails d (join (b ∷ bs))) cs) (tails-join_there c b bs (apart_sym c b.0 parts.0))
    ∙ ap (λ (gs : List Group). tails c (join bs) ∷ gs) (tails_without b bs cs parts.1)

pub tails-join : (bs : List (ℕ × Group)) → Once (map (λ (b : ℕ × Group). b.0) bs) → map (λ (c : ℕ). tails c (join bs)) (map (λ (b : ℕ × Group). b.0) bs) ≡ map (λ (b : ℕ × Group). b.1) bs
tails-join [] o = refl
tails-join (b ∷ bs) o =
    ap (λ (g : Group). g ∷ map (λ (d : ℕ). tails d (join (b ∷ bs))) (map (λ (y : ℕ × Group). y.0) bs)) (tails-join_here b bs o.0)
    ∙ ap (λ (gs : List Group). b.1 ∷ gs) (tails_without b bs (map (λ (y : ℕ × Group). y.0) bs) o.0 ∙ tails-join bs o.1)
