-- Of the leaves behind a node each ends rightly, and is a branch beside others where its node is not one leaf alone.
use Rattle.std.proofs.Common.{◌≡◌, ℕ, suc, ◌+◌, ◌<◌, ◌≤◌, ◌-◌, Bool, true, false, cond, List, [], ◌∷◌, ◌++◌, length, take, drop, map, refl, sym, ap, ◌∙◌, arith, subst, eqb}
use Rattle.std.specs.Prelude.{not, ◌&&◌, ◌||◌, ◌==◌, count_by}
use Rattle.std.specs.List.{AllByRecursion, list_any}
use Rattle.std.proofs.lemmas.List.{append-nil, append_assoc, length-drop}
use Rattle.std.proofs.lemmas.List.Concat.{flat_map-append}
use Rattle.std.proofs.lemmas.List.Folds.{list_any-append}
use Rattle.std.proofs.lemmas.Bool.{eqb-true, eq-eqb, or_parts, false≢true, true≢false}
use Rattle.filter_model.proofs.Counts.{count_by-cons}
use Rattle.filter_model.specs.Leaves.{Leaf}
use Rattle.filter_model.specs.Nodes.{Branch, Node, all}
use Rattle.filter_model.specs.Strings.{extends, is_prefix, bytes_eq}
use Rattle.filter_model.specs.Trie.{END, parent}
use Rattle.filter_model.specs.Valid.{EndsRightly, IsCrowded, joins}
use Rattle.filter_image_model.specs.Levels.{leaf_by, under_letter, node_leaves, level_leaves, leaves_behind, leaf_count_of}
use Rattle.filter_image_model.specs.Levels.{children_of as children_count}
use Rattle.filter_image_model.specs.Reading.{is_lone_end, is_lone_leaf}
use Rattle.filter_image_model.proofs.Lists.{all_append, all_drop}
use Rattle.filter_image_model.proofs.GroupWords.{is_cons, among, Once, children_in, all_children, IsGoodNode, AreLevels}
use Rattle.filter_image_model.proofs.Joins.{apart_sym}
use Rattle.filter_image_model.proofs.LevelsRead.{letter, leaf_branch, flat, count-append, children_in_is}
use Rattle.filter_image_model.proofs.SlotOrder.{length-behind}

-- the first letter of a leaf's path
abbrev pub head_of : List ℕ → ℕ
head_of [] = 256
head_of (c ∷ x) = c

-- no leaf begins with c
abbrev pub Apart : ℕ → List Leaf → Type 0
Apart c ls = AllByRecursion (λ (l : Leaf). eqb (head_of l.stub) c ≡ false) ls

abbrev pub Begin : ℕ → List Leaf → Type 0
Begin c ls = AllByRecursion (λ (l : Leaf). head_of l.stub ≡ c) ls

ext_apart : (c : ℕ) (x : List ℕ) (ls : List Leaf) → Apart c ls → list_any (λ (o : Leaf). extends (c ∷ x) o.stub) ls ≡ false
ext_apart c x [] w = refl
ext_apart c x (l ∷ ls) w = (λ j. one c x l.stub w.0 j || ext_apart c x ls w.1 j)
  where
    one : (c : ℕ) (x y : List ℕ) → eqb (head_of y) c ≡ false → extends (c ∷ x) y ≡ false
    one c x [] e = refl
    one c x (b ∷ y) e = ap (λ (t : Bool). t && extends x y) (apart_sym b c e)

ext_nil : (ls : List Leaf) → is_cons ls ≡ true → Apart 256 ls → list_any (λ (o : Leaf). extends [] o.stub) ls ≡ true
ext_nil [] e w = absurd (false≢true e)
ext_nil (l ∷ ls) e w = ap (λ (t : Bool). t || list_any (λ (o : Leaf). extends [] o.stub) ls) (one l.stub w.0)
  where
    one : (y : List ℕ) → eqb (head_of y) 256 ≡ false → extends [] y ≡ true
    one [] e = absurd (true≢false e)
    one (b ∷ y) e = refl

same_apart : (x y : List ℕ) → eqb (head_of x) (head_of y) ≡ false → bytes_eq x y ≡ false
same_apart [] [] e = absurd (true≢false e)
same_apart [] (b ∷ y) e = refl
same_apart (a ∷ x) [] e = refl
same_apart (a ∷ x) (b ∷ y) e = ap (λ (t : Bool). t && bytes_eq x y) e

joins_apart : (l : Leaf) → parent l ≡ [] → (ls : List Leaf) → is_cons ls ≡ true → Apart (head_of l.stub) ls → list_any (joins l) ls ≡ true
joins_apart l n [] e w = absurd (false≢true e)
joins_apart l n (o ∷ ls) e w =
    (λ j. (is_prefix (n j) o.stub && not (same_apart o.stub l.stub w.0 j)) || list_any (joins l) ls)

or_false : (t : Bool) → (t || false) ≡ t
or_false true = refl
or_false false = refl

or_true : (t : Bool) → (t || true) ≡ true
or_true true = refl
or_true false = refl

-- among others that do not begin so, a leaf is extended only by those of its own branch
widen_ends : (c : ℕ) (x : List ℕ) (A xs B : List Leaf) → Apart c A → Apart c B
    → list_any (λ (o : Leaf). extends (c ∷ x) o.stub) (A ++ (xs ++ B)) ≡ list_any (λ (o : Leaf). extends (c ∷ x) o.stub) xs
widen_ends c x A xs B v w =
    let f : Leaf → Bool = λ o. extends (c ∷ x) o.stub in
    list_any-append f A (xs ++ B) ∙ (λ j. ext_apart c x A v j || list_any-append f xs B j)
    ∙ ap (λ (t : Bool). list_any f xs || t) (ext_apart c x B w) ∙ or_false (list_any f xs)

any_mid : (f : Leaf → Bool) (A xs B : List Leaf) → list_any f xs ≡ true → list_any f (A ++ (xs ++ B)) ≡ true
any_mid f A xs B e =
    list_any-append f A (xs ++ B)
    ∙ ap (λ (t : Bool). list_any f A || t) (list_any-append f xs B ∙ ap (λ (t : Bool). t || list_any f B) e)
    ∙ or_true (list_any f A)

-- what all lists that do not begin with c pass passes with those on one side
sides : (f : Leaf → Bool) (c : ℕ) → ((ls : List Leaf) → is_cons ls ≡ true → Apart c ls → list_any f ls ≡ true)
    → (A xs B : List Leaf) → Apart c A → Apart c B → (is_cons A || is_cons B) ≡ true → list_any f (A ++ (xs ++ B)) ≡ true
sides f c h [] xs B v w e = list_any-append f xs B ∙ ap (λ (t : Bool). list_any f xs || t) (h B e w) ∙ or_true (list_any f xs)
sides f c h (a ∷ A) xs B v w e = list_any-append f (a ∷ A) (xs ++ B) ∙ ap (λ (t : Bool). t || list_any f (xs ++ B)) (h (a ∷ A) refl v)

-- ---- one letter further up

abbrev pub Filled : Leaf → Type 0
Filled l = l.ends ≡ false → 0 < length l.stub

node_behind : (c : ℕ) (l : Leaf) → Filled l → parent (under_letter c l) ≡ c ∷ parent l
node_behind c l s = go l.ends l.stub s
  where
    go : (t : Bool) (x : List ℕ) → (t ≡ false → 0 < length x) → cond t (c ∷ x) (take (length (c ∷ x) - 1) (c ∷ x)) ≡ c ∷ cond t x (take (length x - 1) x)
    go true x s = refl
    go false [] s = absurd (omega (arith, s refl))
    go false (a ∷ x) s = ap (λ k. take k (c ∷ a ∷ x)) (less (length x))
      where
        less : (n : ℕ) → suc (suc n) - 1 ≡ suc (suc n - 1)
        less n = omega arith

behind_ends : (c : ℕ) (x : List ℕ) (g : List Leaf) → list_any (λ (o : Leaf). extends (c ∷ x) o.stub) (map (under_letter c) g) ≡ list_any (λ (o : Leaf). extends x o.stub) g
behind_ends c x [] = refl
behind_ends c x (o ∷ g) = (λ j. (eq-eqb c c refl j && extends x o.stub) || behind_ends c x g j)

behind_joins : (c : ℕ) (l : Leaf) → Filled l → (g : List Leaf) → list_any (joins (under_letter c l)) (map (under_letter c) g) ≡ list_any (joins l) g
behind_joins c l s [] = refl
behind_joins c l s (o ∷ g) =
    (λ j. (is_prefix (node_behind c l s j) (c ∷ o.stub) && not (bytes_eq (c ∷ o.stub) (c ∷ l.stub))) || behind_joins c l s g j)
    ∙ (λ j. ((eq-eqb c c refl j && is_prefix (parent l) o.stub) && not (eq-eqb c c refl j && bytes_eq o.stub l.stub)) || list_any (joins l) g)

head_leaf : (h c s : ℕ) → head_of (leaf_by h c s).stub ≡ c
head_leaf h c s = go (c == END) refl
  where
    go : (t : Bool) → (c == END) ≡ t → head_of (cond {A = List ℕ} t [] (c ∷ [])) ≡ c
    go true e = sym (eqb-true c 256 e)
    go false e = refl

begin_behind : (c : ℕ) (g : List Leaf) → Begin c (map (under_letter c) g)
begin_behind c [] = tt
begin_behind c (l ∷ g) = (refl, begin_behind c g)

apart_from : (c d : ℕ) (ls : List Leaf) → eqb d c ≡ false → Begin d ls → Apart c ls
apart_from c d [] e w = tt
apart_from c d (l ∷ ls) e w = (ap (λ (x : ℕ). eqb x c) w.0 ∙ e, apart_from c d ls e w.1)

-- the letters that come later are apart from one more branch
all_apart : (c : ℕ) (A xs : List Leaf) (ds : List ℕ) → Begin c xs → among c ds ≡ false → AllByRecursion (λ d. Apart d A) ds → AllByRecursion (λ d. Apart d (A ++ xs)) ds
all_apart c A xs [] b e w = tt
all_apart c A xs (d ∷ ds) b e w =
    let parts = or_parts (eqb d c) (among c ds) e in
    (all_append (λ (l : Leaf). eqb (head_of l.stub) d ≡ false) A xs w.0 (apart_from d c xs (apart_sym d c parts.0) b), all_apart c A xs ds b parts.1 w.1)

pub record Stands (M : Type 0) (whole : List Leaf) (l : Leaf) : Type 0 where
  pub ends : EndsRightly whole l
  pub crowded : M → IsCrowded whole l

pub record IsTree (M : Type 0) (g : List Leaf) : Type 0 where
  pub some : is_cons g ≡ true
  pub filled : AllByRecursion Filled g
  pub stands : AllByRecursion (Stands M g) g

cons_after : (A : List Leaf) (l : Leaf) (B : List Leaf) → is_cons (A ++ l ∷ B) ≡ true
cons_after [] l B = refl
cons_after (a ∷ A) l B = refl

cons_append : (A B : List Leaf) → is_cons B ≡ true → is_cons (A ++ B) ≡ true
cons_append A [] e = absurd (false≢true e)
cons_append A (l ∷ B) e = cons_after A l B

cons_map : (c : ℕ) (g : List Leaf) → is_cons g ≡ true → is_cons (map (under_letter c) g) ≡ true
cons_map c [] e = absurd (false≢true e)
cons_map c (l ∷ g) e = refl

module _ (M : Type 0) (hash_bits : ℕ) where
  -- the leaves behind a child
  child_stands : (c : ℕ) (A ls B part : List Leaf) → Apart c A → Apart c B → AllByRecursion Filled part → AllByRecursion (Stands M ls) part
      → AllByRecursion (Stands M (A ++ (map (under_letter c) ls ++ B))) (map (under_letter c) part)
  child_stands c A ls B [] v w f s = tt
  child_stands c A ls B (l ∷ part) v w f s = (
    record {
      ends = s.0.ends ∙ sym (widen_ends c l.stub A (map (under_letter c) ls) B v w ∙ behind_ends c l.stub ls);
      crowded = (λ m. any_mid (joins (under_letter c l)) A (map (under_letter c) ls) B (behind_joins c l f.0 ls ∙ s.0.crowded m));
    },
    child_stands c A ls B part v w f.1 s.1,
  )

  -- a branch that is a leaf
  leaf_stands : (c s : ℕ) (A B : List Leaf) → Apart c A → Apart c B → ((c == END) ≡ true → (is_cons A || is_cons B) ≡ true) → (M → (is_cons A || is_cons B) ≡ true)
      → Stands M (A ++ (leaf_by hash_bits c s ∷ [] ++ B)) (leaf_by hash_bits c s)
  leaf_stands c s A B v w e m = record {
    ends = ends_go (c == END) refl;
    crowded = (λ x. sides (joins (leaf_by hash_bits c s)) c (λ ls i a. joins_apart (leaf_by hash_bits c s) (tip (c == END)) ls i (rw (head_leaf hash_bits c s) a)) A (leaf_by hash_bits c s ∷ []) B v w (m x));
  }
    where
      tip : (t : Bool) → cond t (cond {A = List ℕ} t [] (c ∷ [])) (take (length (cond {A = List ℕ} t [] (c ∷ [])) - 1) (cond {A = List ℕ} t [] (c ∷ []))) ≡ []
      tip true = refl
      tip false = refl

      ends_go : (t : Bool) → (c == END) ≡ t → t ≡ list_any (λ (o : Leaf). extends (cond {A = List ℕ} t [] (c ∷ [])) o.stub) (A ++ (leaf_by hash_bits c s ∷ [] ++ B))
      ends_go true i =
          let is : c ≡ 256 = eqb-true c 256 i in
          sym (sides (λ (o : Leaf). extends [] o.stub) 256 ext_nil A (leaf_by hash_bits c s ∷ []) B (subst (λ d. Apart d A) is v) (subst (λ d. Apart d B) is w) (e i))
      ends_go false i = sym (widen_ends c [] A (leaf_by hash_bits c s ∷ []) B v w
          ∙ ap (λ (t : Bool). extends (c ∷ []) (cond {A = List ℕ} t [] (c ∷ [])) || false) i ∙ ap (λ (t : Bool). (t && false) || false) (eq-eqb c c refl))

  apart_rest : (c : ℕ) (n : Node) (below : List (List Leaf)) (ss : List ℕ) → among c (map letter n) ≡ false → Apart c (node_leaves hash_bits n below ss)
  apart_rest c [] below ss e = tt
  apart_rest c ((d, true) ∷ n) [] ss e = tt
  apart_rest c ((d, true) ∷ n) (ls ∷ below) ss e =
      let parts = or_parts (eqb d c) (among c (map letter n)) e in
      all_append (λ (l : Leaf). eqb (head_of l.stub) c ≡ false) (map (under_letter d) ls) (node_leaves hash_bits n below ss)
      (apart_from c d (map (under_letter d) ls) parts.0 (begin_behind d ls)) (apart_rest c n below ss parts.1)
  apart_rest c ((d, false) ∷ n) below [] e = tt
  apart_rest c ((d, false) ∷ n) below (s ∷ ss) e =
      let parts = or_parts (eqb d c) (among c (map letter n)) e in
      (ap (λ (x : ℕ). eqb x c) (head_leaf hash_bits d s) ∙ parts.0, apart_rest c n below ss parts.1)

  some_rest : (n : Node) (below : List (List Leaf)) (ss : List ℕ) → is_cons n ≡ true → AllByRecursion (IsTree M) below → children_in n ≤ length below → count_by leaf_branch n ≤ length ss
      → is_cons (node_leaves hash_bits n below ss) ≡ true
  some_rest [] below ss e w le few = absurd (false≢true e)
  some_rest ((c, true) ∷ n) [] ss e w le few = absurd (omega (arith, le))
  some_rest ((c, true) ∷ n) ([] ∷ below) ss e w le few = absurd (false≢true w.0.some)
  some_rest ((c, true) ∷ n) ((l ∷ ls) ∷ below) ss e w le few = refl
  some_rest ((c, false) ∷ n) below [] e w le few = absurd (omega (arith, few, count_by-cons leaf_branch (c, false) n))
  some_rest ((c, false) ∷ n) below (s ∷ ss) e w le few = refl

  node_stands : (A : List Leaf) (n : Node) (below : List (List Leaf)) (ss : List ℕ) → Once (map letter n) → AllByRecursion (λ d. Apart d A) (map letter n)
      → AllByRecursion (IsTree M) below → children_in n ≤ length below → count_by leaf_branch n ≤ length ss
      → (is_cons A || not (is_lone_end n)) ≡ true → (M → (is_cons A || not (is_lone_leaf n)) ≡ true)
      → AllByRecursion (Stands M (A ++ node_leaves hash_bits n below ss)) (node_leaves hash_bits n below ss)
  node_stands A [] below ss o a w le few e m = tt
  node_stands A ((c, true) ∷ n) [] ss o a w le few e m = absurd (omega (arith, le))
  node_stands A ((c, true) ∷ n) (ls ∷ below) ss o a w le few e m =
      let xs = map (under_letter c) ls in
      let B = node_leaves hash_bits n below ss in
      let more : is_cons (A ++ xs) ≡ true = cons_append A xs (cons_map c ls w.0.some) in
      let rest = node_stands (A ++ xs) n below ss o.1 (all_apart c A xs (map letter n) (begin_behind c ls) o.0 a.1) w.1 (omega (arith, le)) (omega (arith, few, count_by-cons leaf_branch (c, true) n))
      (ap (λ (t : Bool). t || not (is_lone_end n)) more) (λ x. ap (λ (t : Bool). t || not (is_lone_leaf n)) more) in
      all_append (Stands M (A ++ (xs ++ B))) xs B
      (child_stands c A ls B ls a.0 (apart_rest c n below ss o.0) w.0.filled w.0.stands)
      (subst (λ (W : List Leaf). AllByRecursion (Stands M W) B) (append_assoc A xs B) rest)
  node_stands A ((c, false) ∷ n) below [] o a w le few e m = absurd (omega (arith, few, count_by-cons leaf_branch (c, false) n))
  node_stands A ((c, false) ∷ n) below (s ∷ ss) o a w le few e m =
      let l = leaf_by hash_bits c s in
      let B = node_leaves hash_bits n below ss in
      let le' : children_in n ≤ length below = omega (arith, le) in
      let few' : count_by leaf_branch n ≤ length ss = omega (arith, few, count_by-cons leaf_branch (c, false) n) in
      let more : is_cons (A ++ (l ∷ [])) ≡ true = cons_after A l [] in
      let rest = node_stands (A ++ (l ∷ [])) n below ss o.1 (all_apart c A (l ∷ []) (map letter n) (head_leaf hash_bits c s, tt) o.0 a.1) w le' few'
      (ap (λ (t : Bool). t || not (is_lone_end n)) more) (λ x. ap (λ (t : Bool). t || not (is_lone_leaf n)) more) in (
        leaf_stands c s A B a.0 (apart_rest c n below ss o.0) (λ i. beside n e i le' few') (λ x. beside_leaf n (m x) le' few'),
        subst (λ (W : List Leaf). AllByRecursion (Stands M W) B) (append_assoc A (l ∷ []) B) rest,
      )
    where
      beside : (n : Node) → (is_cons A || not (is_lone_end ((c, false) ∷ n))) ≡ true → (c == END) ≡ true → children_in n ≤ length below → count_by leaf_branch n ≤ length ss
          → (is_cons A || is_cons (node_leaves hash_bits n below ss)) ≡ true
      beside [] e i le few = ap (λ (t : Bool). is_cons A || not t) (sym i) ∙ e
      beside (b ∷ n) e i le few = ap (λ (t : Bool). is_cons A || t) (some_rest (b ∷ n) below ss refl w le few) ∙ or_true (is_cons A)

      beside_leaf : (n : Node) → (is_cons A || not (is_lone_leaf ((c, false) ∷ n))) ≡ true → children_in n ≤ length below → count_by leaf_branch n ≤ length ss
          → (is_cons A || is_cons (node_leaves hash_bits n below ss)) ≡ true
      beside_leaf [] e le few = e
      beside_leaf (b ∷ n) e le few = ap (λ (t : Bool). is_cons A || t) (some_rest (b ∷ n) below ss refl w le few) ∙ or_true (is_cons A)

  node_filled : (n : Node) (below : List (List Leaf)) (ss : List ℕ) → AllByRecursion Filled (node_leaves hash_bits n below ss)
  node_filled [] below ss = tt
  node_filled ((c, true) ∷ n) [] ss = tt
  node_filled ((c, true) ∷ n) (ls ∷ below) ss =
      all_append Filled (map (under_letter c) ls) (node_leaves hash_bits n below ss) (pushed ls) (node_filled n below ss)
    where
      pushed : (ls : List Leaf) → AllByRecursion Filled (map (under_letter c) ls)
      pushed [] = tt
      pushed (l ∷ ls) = ((λ e. omega arith), pushed ls)
  node_filled ((c, false) ∷ n) below [] = tt
  node_filled ((c, false) ∷ n) below (s ∷ ss) = (tip (c == END), node_filled n below ss)
    where
      tip : (t : Bool) → t ≡ false → 0 < length (cond {A = List ℕ} t [] (c ∷ []))
      tip true e = absurd (true≢false e)
      tip false e = omega arith

  -- a node that keeps rule 9
  pub record KeepsNode (n : Node) : Type 0 where
    pub not_end : is_lone_end n ≡ false
    pub not_leaf : M → is_lone_leaf n ≡ false

  apart_none : (ds : List ℕ) → AllByRecursion (λ d. Apart d []) ds
  apart_none [] = tt
  apart_none (d ∷ ds) = (tt, apart_none ds)

  node_tree : (n : Node) (below : List (List Leaf)) (ss : List ℕ) → IsGoodNode n → KeepsNode n → AllByRecursion (IsTree M) below → children_in n ≤ length below → count_by leaf_branch n ≤ length ss
      → IsTree M (node_leaves hash_bits n below ss)
  node_tree n below ss g k w le few = record {
    some = some_rest n below ss g.filled w le few;
    filled = node_filled n below ss;
    stands = node_stands [] n below ss g.order.once (apart_none (map letter n)) w le few (ap not k.not_end) (λ m. ap not (k.not_leaf m));
  }

  level_tree : (ns : List Node) (below : List (List Leaf)) (ss : List ℕ) → AllByRecursion IsGoodNode ns → AllByRecursion KeepsNode ns → AllByRecursion (IsTree M) below
      → all_children ns ≤ length below → leaf_count_of ns ≤ length ss → AllByRecursion (IsTree M) (level_leaves hash_bits ns below ss)
  level_tree [] below ss g k w le few = tt
  level_tree (n ∷ ns) below ss g k w le few =
      let split = count-append leaf_branch n (all ns) in
      let one : leaf_count_of (n ∷ []) ≡ count_by leaf_branch n = ap (count_by leaf_branch) (append-nil n) in
      let kids : children_count (n ∷ []) ≡ children_in n = ap (count_by (λ (b : Branch). b.1)) (append-nil n) ∙ sym (children_in_is n) in (
        node_tree n below ss g.0 k.0 w (omega (arith, le)) (omega (arith, few, split)),
        level_tree ns (drop (children_count (n ∷ [])) below) (drop (leaf_count_of (n ∷ [])) ss) g.1 k.1 (all_drop (IsTree M) (children_count (n ∷ [])) below w)
            (omega (arith, le, kids, length-drop (children_count (n ∷ [])) below)) (omega (arith, few, split, one, length-drop (leaf_count_of (n ∷ [])) ss)),
      )

  -- **the leaves behind each node of the first level**
  pub behind_tree : (levels : List (List Node)) (ss : List ℕ) → AreLevels levels → AllByRecursion (AllByRecursion KeepsNode) levels → leaf_count_of (flat levels) ≤ length ss
      → AllByRecursion (IsTree M) (leaves_behind hash_bits levels ss)
  behind_tree [] ss a k few = tt
  behind_tree (ns ∷ levels) ss a k few =
      let split : leaf_count_of (ns ++ flat levels) ≡ leaf_count_of ns + leaf_count_of (flat levels) = ap (count_by leaf_branch) (flat_map-append (λ (n : Node). n) ns (flat levels)) ∙ count-append leaf_branch (all ns) (all (flat levels)) in
      let more = drop (leaf_count_of ns) ss in
      level_tree ns (leaves_behind hash_bits levels more) ss a.0 k.0 (behind_tree levels more a.2 k.1 (omega (arith, few, split, length-drop (leaf_count_of ns) ss)))
      (omega (arith, a.1, length-behind hash_bits levels more)) (omega (arith, few, split))
