-- Where the strings that begin alike stand in a sorted list.
use Rattle.std.proofs.Common.{◌≡◌, ℕ, zero, suc, ◌+◌, ◌<◌, ◌≤◌, List, [], ◌∷◌, ◌++◌, length, get_or, refl, ap, sym, ◌∙◌, arith, Bool, true, false, cond, inl, inr, eqb, ltb, le-ltb, lt-ltb}
use Rattle.std.specs.List.{AllByRecursion}
use Rattle.std.proofs.lemmas.Bool.{cases_lt, eqb-false, eqb-true, false≢true, ne_eqb, or_cases, true≢false}
use Rattle.std.proofs.lemmas.List.{append-nil}
use Rattle.filter_image_model.proofs.GroupWords.{From, Group, Rising, Sorted, among, goes_on, heads, is_cons}
use Rattle.filter_image_model.proofs.Paths.{IsFine, all_tails, no_empty, own_group}
use Rattle.filter_image_model.proofs.Sorted.{HeadsIn, from_weaker, sorted_from, sorted_tails}
use Rattle.trie_model.specs.Letters.{order_of}
use Rattle.trie_model.specs.Rests.{ahead, rests, start, tails}

pub none_ahead : (c m : ℕ) (g : Group) → order_of c ≤ m → From m g → ahead c g ≡ 0
none_ahead c m [] l f = refl
none_ahead c m ([] ∷ g) l f = absurd f
none_ahead c m ((a ∷ x) ∷ g) l f = rw (le-ltb (order_of a) (order_of c) (omega (arith, f.0)), none_ahead c m g l f.1) refl

order_apart : (a c : ℕ) → order_of a ≡ order_of c → a ≡ c
order_apart a c e = go (eqb a 256) (eqb c 256) refl refl
  where
    go : (t u : Bool) → eqb a 256 ≡ t → eqb c 256 ≡ u → a ≡ c
    go true true f g = eqb-true a 256 f ∙ sym (eqb-true c 256 g)
    go true false f g = let h : 0 ≡ suc c = (rw f at (rw g at e)) in absurd (omega (arith, h))
    go false true f g = let h : suc a ≡ 0 = (rw f at (rw g at e)) in absurd (omega (arith, h))
    go false false f g = let h : suc a ≡ suc c = (rw f at (rw g at e)) in omega (arith, h)

strictly_above : (c a : ℕ) → order_of c ≤ order_of a → eqb a c ≡ false → suc (order_of c) ≤ order_of a
strictly_above c a l apart = elim (cases_lt (order_of c) (order_of a)) [
  | inl lt ↦ lt
  | inr ge ↦ absurd (eqb-false a c apart (order_apart a c (let m = order_of a in let n = order_of c in omega arith)))
]

none_behind : (c : ℕ) (g : Group) → From (suc (order_of c)) g → tails c g ≡ []
none_behind c [] f = refl
none_behind c ([] ∷ g) f = absurd f
none_behind c ((a ∷ x) ∷ g) f =
    let apart : eqb a c ≡ false = ne_eqb a c (λ e. let h = ap order_of e in omega (arith, h, f.0)) in
    rw apart (none_behind c g f.1)

here_at : (a c : ℕ) (x : List ℕ) (g : Group) (j n : ℕ) → a ≡ c → n ≡ j → (j < length (x ∷ tails c g))
    → ((i : ℕ) → i < length (tails c g) → get_or g i [] ≡ c ∷ get_or (tails c g) i [])
    → get_or ((a ∷ x) ∷ g) n [] ≡ c ∷ get_or (x ∷ tails c g) j []
here_at a c x g zero n e m l ih = rw m (ap (λ (b : ℕ). b ∷ x) e)
here_at a c x g (suc j) n e m l ih = rw m (ih j (omega arith))

-- behind the strings ahead of c come those that begin with c
at_letter : (c k : ℕ) (g : Group) → Sorted g → From 0 g → k < length (tails c g) → get_or g (ahead c g + k) [] ≡ c ∷ get_or (tails c g) k []
at_letter c k [] s f l = absurd (omega arith)
at_letter c k ([] ∷ g) s f l = absurd f
at_letter c k ((a ∷ x) ∷ g) s f l = go (eqb a c) refl l (λ i. at_letter c i g s.1 f.1)
  where
    behind : From (order_of a) g
    behind = sorted_from a x 0 g s.0

    go : (t : Bool) → eqb a c ≡ t → k < length (cond t (x ∷ tails c g) (tails c g)) → ((i : ℕ) → i < length (tails c g) → get_or g (ahead c g + i) [] ≡ c ∷ get_or (tails c g) i [])
        → get_or ((a ∷ x) ∷ g) ((cond (ltb (order_of a) (order_of c)) 1 0 + ahead c g) + k) [] ≡ c ∷ get_or (cond (eqb a c) (x ∷ tails c g) (tails c g)) k []
    go true e m ih =
        let same = eqb-true a c e in
        let level : order_of a ≡ order_of c = ap order_of same in
        let zero_ahead : ahead c g ≡ 0 = none_ahead c (order_of a) g (omega (arith, level)) behind in
        let not_less = le-ltb (order_of a) (order_of c) (omega (arith, level)) in
        let head : cond {A = ℕ} (ltb (order_of a) (order_of c)) 1 0 ≡ 0 = ap (λ (b : Bool). cond {A = ℕ} b 1 0) not_less in
        rw e (here_at a c x g k ((cond (ltb (order_of a) (order_of c)) 1 0 + ahead c g) + k) same (omega (arith, zero_ahead, head)) m
        (λ i il. ap (λ (n : ℕ). get_or g n []) (omega (arith, zero_ahead)) ∙ ih i il))
    go false e m ih = elim (cases_lt (order_of a) (order_of c)) [
      | inl lt ↦
          let head : cond {A = ℕ} (ltb (order_of a) (order_of c)) 1 0 ≡ 1 = ap (λ (b : Bool). cond {A = ℕ} b 1 0) (lt-ltb (order_of a) (order_of c) lt) in
          let n : (cond (ltb (order_of a) (order_of c)) 1 0 + ahead c g) + k ≡ suc (ahead c g + k) = omega (arith, head) in
          rw (e, n) (ih k m)
      | inr ge ↦
          let gt = strictly_above c a ge e in
          let none = ap length (none_behind c g (from_weaker (suc (order_of c)) (order_of a) g gt behind)) in
          absurd (omega (arith, none, m))
    ]

at_most_one : (b : Bool) → cond {A = ℕ} b 1 0 ≤ 1
at_most_one true = omega arith
at_most_one false = omega arith

room : (c : ℕ) (g : Group) → ahead c g + length (tails c g) ≤ length g
room c [] = omega arith
room c ([] ∷ g) = let ih = room c g in omega (arith, ih)
room c ((a ∷ x) ∷ g) = go (eqb a c) refl (room c g)
  where
    go : (t : Bool) → eqb a c ≡ t → ahead c g + length (tails c g) ≤ length g → (cond (ltb (order_of a) (order_of c)) 1 0 + ahead c g) + length (cond t (x ∷ tails c g) (tails c g)) ≤ suc (length g)
    go true e ih =
        let level = ap order_of (eqb-true a c e) in
        let head : cond {A = ℕ} (ltb (order_of a) (order_of c)) 1 0 ≡ 0 = ap (λ (b : Bool). cond {A = ℕ} b 1 0) (le-ltb (order_of a) (order_of c) (omega (arith, level))) in
        omega (arith, ih, head)
    go false e ih = let one = at_most_one (ltb (order_of a) (order_of c)) in omega (arith, ih, one)

start_room : (p : List ℕ) (g : Group) → start p g + length (rests p g) ≤ length g
start_room [] g = omega arith
start_room (c ∷ p) g = let ih = start_room p (tails c g) in let r = room c g in omega (arith, ih, r)

-- on the way down p each string has a letter
abbrev IsLong : List ℕ → Group → Type 0
IsLong [] g = Unit {0}
IsLong (c ∷ p) g = From 0 g × IsLong p (tails c g)

-- string number start p + k is p followed by the k-th string behind p
at_start : (p : List ℕ) (k : ℕ) (g : Group) → Sorted g → k < length (rests p g) → IsLong p g → get_or g (start p g + k) [] ≡ p ++ get_or (rests p g) k []
at_start [] k g s l f = ap (λ (n : ℕ). get_or g n []) (omega arith)
at_start (c ∷ p) k g s l f =
    let ih = at_start p k (tails c g) (sorted_tails c g s) l f.1 in
    let wide = start_room p (tails c g) in
    let inside : start p (tails c g) + k < length (tails c g) = omega (arith, wide, l) in
    ap (λ (n : ℕ). get_or g n []) (omega arith) ∙ at_letter c (start p (tails c g) + k) g s f.0 inside ∙ ap (λ (x : List ℕ). c ∷ x) ih

pub start-push : (p : List ℕ) (c : ℕ) (g : Group) → start (p ++ c ∷ []) g ≡ start p g + ahead c (rests p g)
start-push [] c g = omega arith
start-push (a ∷ p) c g = let ih = start-push p c (tails a g) in omega (arith, ih)

-- ---- what goes on

on_cons : (h : Group) → goes_on h ≡ true → is_cons h ≡ true
on_cons [] f = f
on_cons (x ∷ h) f = refl

tail_goes_on : (c : ℕ) (g : Group) → is_cons (tails c g) ≡ true → goes_on g ≡ true
tail_goes_on c [] e = absurd (false≢true e)
tail_goes_on c ([] ∷ g) e = tail_goes_on c g e
tail_goes_on c ((a ∷ x) ∷ g) e = refl

rests_cons : (q : List ℕ) (g : Group) → is_cons (rests q g) ≡ true → is_cons g ≡ true
rests_cons [] g e = e
rests_cons (c ∷ q) g e = on_cons g (tail_goes_on c g (rests_cons q (tails c g) e))

long_way : (p : List ℕ) (g : Group) → Sorted g → is_cons (rests p g) ≡ true → IsLong p g
long_way [] g s e = tt
long_way (c ∷ p) g s e = (no_empty g s (tail_goes_on c g (rests_cons p (tails c g) e)), long_way p (tails c g) (sorted_tails c g s) e)

pub rests_fine : (p : List ℕ) (n : ℕ) (g : Group) → IsFine n g → goes_on (rests p g) ≡ true → IsFine n (rests p g)
rests_fine [] n g f e = f
rests_fine (c ∷ p) n g f e =
    rests_fine p n (tails c g) (record {
      sorted = sorted_tails c g f.sorted;
      small = all_tails (λ x. AllByRecursion (λ b. b ≤ 256) x) (λ x. AllByRecursion (λ b. b ≤ 256) x) (λ a x w. w.1) c g f.small;
      short = all_tails (λ x. length x ≤ n) (λ x. length x ≤ n) (λ a x w. omega (arith, w)) c g f.short;
      on = tail_on p (tails c g) e;
    }) e
  where
    tail_on : (q : List ℕ) (h : Group) → goes_on (rests q h) ≡ true → goes_on h ≡ true
    tail_on [] h i = i
    tail_on (d ∷ q) h i = tail_goes_on d h (rests_cons q (tails d h) (on_cons (rests q (tails d h)) i))

-- ---- the first letter of a group

above_all : (c a : ℕ) (cs : List ℕ) → AllByRecursion (λ d. order_of c < order_of d) cs → among a cs ≡ true → order_of c < order_of a
above_all c a [] w e = absurd (false≢true e)
above_all c a (d ∷ cs) w e = elim (or_cases _ _ e) [
  | inl same ↦ let h = ap order_of (eqb-true d a same) in omega (arith, h, w.0)
  | inr later ↦ above_all c a cs w.1 later
]

heads_from : (c : ℕ) (cs : List ℕ) (g : Group) → AllByRecursion (λ d. order_of c < order_of d) cs → HeadsIn (c ∷ cs) g → From (order_of c) g
heads_from c cs [] w h = tt
heads_from c cs ([] ∷ g) w h = absurd h
heads_from c cs ((a ∷ x) ∷ g) w h = (
  elim (or_cases _ _ h.0) [
    | inl same ↦ let e = ap order_of (eqb-true c a same) in omega (arith, e)
    | inr later ↦ let k = above_all c a cs w later in omega (arith, k)
  ],
  heads_from c cs g w h.1,
)

least_ahead : (cs : List ℕ) (r : Group) → Rising cs → HeadsIn cs r → 0 < length cs → ahead (get_or cs 0 0) r ≡ 0
least_ahead [] r w h l = absurd (omega (arith, l))
least_ahead (c ∷ cs) r w h l = none_ahead c (order_of c) r (omega arith) (heads_from c cs r w.0 h)

some_head : (cs : List ℕ) (r : Group) → HeadsIn cs r → goes_on r ≡ true → 0 < length cs
some_head cs [] h e = absurd (false≢true e)
some_head cs ([] ∷ r) h e = absurd h
some_head [] ((a ∷ x) ∷ r) h e = absurd (false≢true h.0)
some_head (c ∷ cs) ((a ∷ x) ∷ r) h e = omega arith

-- a group that goes on has a first letter, and no string stands ahead of it
pub first_letter : (n : ℕ) (r : Group) → IsFine n r → (0 < length (heads r)) × (ahead (get_or (heads r) 0 0) r ≡ 0)
first_letter n r f =
    let o = own_group n r f in
    let some = some_head (heads r) r o.within f.on in
    (some, least_ahead (heads r) r o.rising o.within some)

-- ---- a string with nothing behind it

has_first : (g : Group) → is_cons g ≡ true → 0 < length g
has_first [] e = absurd (false≢true e)
has_first (x ∷ g) e = omega arith

nil_first : (g : Group) → is_cons g ≡ true → goes_on g ≡ false → get_or g 0 [] ≡ []
nil_first [] e f = absurd (false≢true e)
nil_first ([] ∷ g) e f = refl
nil_first ((a ∷ x) ∷ g) e f = absurd (true≢false f)

pub own_number : (q : List ℕ) (g : Group) → Sorted g → is_cons (rests q g) ≡ true → goes_on (rests q g) ≡ false → get_or g (start q g) [] ≡ q
own_number q g s e off =
    ap (λ (n : ℕ). get_or g n []) (plus (start q g))
    ∙ at_start q 0 g s (has_first (rests q g) e) (long_way q g s e)
    ∙ ap (λ (x : List ℕ). q ++ x) (nil_first (rests q g) e off)
    ∙ append-nil q
  where
    plus : (n : ℕ) → n ≡ n + 0
    plus n = omega arith
