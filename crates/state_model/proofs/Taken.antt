-- What stays of some tables without the inputs of a merge.
use Rattle.std.proofs.Common.{◌≡◌, ◌≢◌, inl, inr, ℕ, List, [], ◌∷◌, ◌++◌, refl, sym, ap, ◌∙◌, subst, Bool, true, false, cond, arith}
use Rattle.std.specs.Option.{option_or}
use Rattle.std.specs.Prelude.{Option, not, ◌==◌, ◌||◌, filter}
use Rattle.std.specs.List.{AllByRecursion, list_any}
use Rattle.std.proofs.lemmas.List.Folds.{list_any-append}
use Rattle.block_model.proofs.Bounds.{weaker}
use Rattle.map_model.specs.SortedMap.{Bytes}
use Rattle.table_model.specs.Tables.{Table}
use Rattle.state_model.specs.Tends.{without}
use Rattle.state_model.proofs.Sayings.{or_assoc}
use Rattle.state_model.proofs.Levels.{told, EitherNone, AtMostOne, in_front, none_front, none_behind, says}
use Rattle.extent_model.proofs.Lists.{Pairs, both, all_kept}
use Rattle.state_model.proofs.Parts.{keep_all, keep_none, keep_same}

abbrev pub Apart : Table → Table → Type 0
Apart t u = t.first_page ≢ u.first_page

abbrev pub Cross : List Table → List Table → Type 0
Cross xs ys = AllByRecursion (λ (x : Table). AllByRecursion (Apart x) ys) xs

pub all_parts : {X : Type 0} (P : X → Type 0) (xs ys : List X) → AllByRecursion P (xs ++ ys) → AllByRecursion P xs × AllByRecursion P ys
all_parts P [] ys all = (tt, all)
all_parts P (x ∷ xs) ys all = let rest = all_parts P xs ys all.1 in ((all.0, rest.0), rest.1)

pub all_join : {X : Type 0} (P : X → Type 0) (xs ys : List X) → AllByRecursion P xs → AllByRecursion P ys → AllByRecursion P (xs ++ ys)
all_join P [] ys all_x all_y = all_y
all_join P (x ∷ xs) ys all_x all_y = (all_x.0, all_join P xs ys all_x.1 all_y)

pub cross_of : (xs ys : List Table) → Pairs Apart (xs ++ ys) → Cross xs ys
cross_of [] ys pairs = tt
cross_of (x ∷ xs) ys pairs = ((all_parts (Apart x) xs ys pairs.0).1, cross_of xs ys pairs.1)

pub pairs_back : {X : Type 0} (R : X → X → Type 0) (xs ys : List X) → Pairs R (xs ++ ys) → Pairs R ys
pairs_back R [] ys pairs = pairs
pairs_back R (x ∷ xs) ys pairs = pairs_back R xs ys pairs.1

pub cross_flip : (xs ys : List Table) → Cross xs ys → Cross ys xs
cross_flip xs [] cross = tt
cross_flip xs (y ∷ ys) cross = (
  weaker (λ (x : Table). AllByRecursion (Apart x) (y ∷ ys)) (Apart y) (λ x all e. all.0 (sym e)) xs cross,
  cross_flip xs ys (weaker (λ (x : Table). AllByRecursion (Apart x) (y ∷ ys)) (λ (x : Table). AllByRecursion (Apart x) ys) (λ x all. all.1) xs cross),
)

pub cross_parts : (xs ys zs : List Table) → Cross xs (ys ++ zs) → Cross xs ys × Cross xs zs
cross_parts xs ys zs cross = (
  weaker (λ (x : Table). AllByRecursion (Apart x) (ys ++ zs)) (λ (x : Table). AllByRecursion (Apart x) ys) (λ x all. (all_parts (Apart x) ys zs all).0) xs cross,
  weaker (λ (x : Table). AllByRecursion (Apart x) (ys ++ zs)) (λ (x : Table). AllByRecursion (Apart x) zs) (λ x all. (all_parts (Apart x) ys zs all).1) xs cross,
)

pub cross_join : (xs ys zs : List Table) → Cross xs ys → Cross xs zs → Cross xs (ys ++ zs)
cross_join xs ys zs cross_y cross_z = weaker (λ (x : Table). AllByRecursion (Apart x) ys × AllByRecursion (Apart x) zs) (λ (x : Table). AllByRecursion (Apart x) (ys ++ zs)) (λ x all. all_join (Apart x) ys zs all.0 all.1) xs
    (both (λ (x : Table). AllByRecursion (Apart x) ys) (λ (x : Table). AllByRecursion (Apart x) zs) xs cross_y cross_z)

pub cross_filter : (test : Table → Bool) (xs ys : List Table) → Cross xs ys → Cross xs (filter test ys)
cross_filter test xs ys cross = weaker (λ (x : Table). AllByRecursion (Apart x) ys) (λ (x : Table). AllByRecursion (Apart x) (filter test ys)) (λ x all. all_kept (Apart x) test ys all) xs cross

-- ---- which tables are inputs

abbrev pub is_input : List Table → Table → Bool
is_input inputs t = list_any (λ (i : Table). i.first_page == t.first_page) inputs

other_page : (m n : ℕ) → n ≢ m → (m == n) ≡ false
other_page m n other = grind arith

same_page : (m : ℕ) → (m == m) ≡ true
same_page m = grind arith

no_input : (t : Table) (inputs : List Table) → AllByRecursion (Apart t) inputs → is_input inputs t ≡ false
no_input t [] apart = refl
no_input t (i ∷ more) apart = ap (λ (b : Bool). b || is_input more t) (other_page i.first_page t.first_page apart.0) ∙ no_input t more apart.1

pub stays : (inputs tables : List Table) → Cross tables inputs → without inputs tables ≡ tables
stays inputs tables cross = keep_all (λ (t : Table). not (is_input inputs t)) tables
    (weaker (λ (t : Table). AllByRecursion (Apart t) inputs) (λ (t : Table). not (is_input inputs t) ≡ true) (λ t apart. ap not (no_input t inputs apart)) tables cross)

or_true : (b : Bool) → (b || true) ≡ true
or_true true = refl
or_true false = refl

own_inputs : (tables : List Table) → AllByRecursion (λ (t : Table). is_input tables t ≡ true) tables
own_inputs [] = tt
own_inputs (t ∷ more) = (
  ap (λ (b : Bool). b || is_input more t) (same_page t.first_page),
  weaker (λ (u : Table). is_input more u ≡ true) (λ (u : Table). is_input (t ∷ more) u ≡ true) (λ u e. ap (λ (b : Bool). (t.first_page == u.first_page) || b) e ∙ or_true (t.first_page == u.first_page)) more (own_inputs more),
)

pub goes : (tables others : List Table) → without (tables ++ others) tables ≡ []
goes tables others = keep_none (λ (t : Table). not (is_input (tables ++ others) t)) tables
    (weaker (λ (t : Table). is_input tables t ≡ true) (λ (t : Table). not (is_input (tables ++ others) t) ≡ false)
    (λ t e. ap not (list_any-append (λ (i : Table). i.first_page == t.first_page) tables others ∙ ap (λ (b : Bool). b || is_input others t) e)) tables (own_inputs tables))

kept_inputs : (test : Table → Bool) (tables : List Table) → Pairs Apart tables → AllByRecursion (λ (t : Table). is_input (filter test tables) t ≡ test t) tables
kept_inputs test [] pairs = tt
kept_inputs test (t ∷ more) pairs =
    let rest = filter test more in (
      elim (test t) as (λ b. is_input (cond b (t ∷ rest) rest) t ≡ b) [
        | true ↦ ap (λ (b : Bool). b || is_input rest t) (same_page t.first_page)
        | false ↦ no_input t rest (all_kept (Apart t) test more pairs.0)
      ],
      weaker (λ (u : Table). (is_input rest u ≡ test u) × Apart t u) (λ (u : Table). is_input (cond (test t) (t ∷ rest) rest) u ≡ test u)
          (λ u both. elim (test t) as (λ b. is_input (cond b (t ∷ rest) rest) u ≡ test u) [
            | true ↦ ap (λ (b : Bool). b || is_input rest u) (other_page t.first_page u.first_page (λ e. both.1 (sym e))) ∙ both.0
            | false ↦ both.0
          ]) more (both (λ (u : Table). is_input rest u ≡ test u) (Apart t) more (kept_inputs test more pairs.1) pairs.0),
    )

pub parts_stay : (test : Table → Bool) (inputs tables : List Table) → Pairs Apart tables → Cross tables inputs → without (inputs ++ filter test tables) tables ≡ filter (λ (t : Table). not (test t)) tables
parts_stay test inputs tables pairs cross = keep_same (λ (t : Table). not (is_input (inputs ++ filter test tables) t)) (λ (t : Table). not (test t)) tables
    (weaker (λ (t : Table). (is_input (filter test tables) t ≡ test t) × AllByRecursion (Apart t) inputs) (λ (t : Table). not (is_input (inputs ++ filter test tables) t) ≡ not (test t))
    (λ t facts. ap not (list_any-append (λ (i : Table). i.first_page == t.first_page) inputs (filter test tables) ∙ ap (λ (b : Bool). b || is_input (filter test tables) t) (no_input t inputs facts.1) ∙ facts.0)) tables
    (both (λ (t : Table). is_input (filter test tables) t ≡ test t) (λ (t : Table). AllByRecursion (Apart t) inputs) tables (kept_inputs test tables pairs) cross))

-- ---- tables of which at most one says something of the key

pub part_says : (test : Table → Bool) (tables : List Table) (key : Bytes) → AtMostOne key tables
    → (says tables key ≡ option_or (says (filter test tables) key) (says (filter (λ (t : Table). not (test t)) tables) key)) × EitherNone (says (filter test tables) key) (says (filter (λ (t : Table). not (test t)) tables) key)
part_says test [] key one = (refl, inl refl)
part_says test (t ∷ more) key one =
    let f = filter test more in let g = filter (λ (u : Table). not (test u)) more in
    let rest = part_says test more key one.1 in
    let own = told t key in
    elim (test t) as (λ b. (option_or own (says more key) ≡ option_or (says (cond b (t ∷ f) f) key) (says (cond (not b) (t ∷ g) g) key)) × EitherNone (says (cond b (t ∷ f) f) key) (says (cond (not b) (t ∷ g) g) key)) [
      | true ↦ (
        ap (option_or own) rest.0 ∙ sym (or_assoc own (says f key) (says g key)),
        elim one.0 [
          | inl none ↦ subst (λ (o : Option (Option Bytes)). EitherNone (option_or o (says f key)) (says g key)) (sym none) rest.1
          | inr none ↦ inr (none_behind (says f key) (says g key) (sym rest.0 ∙ none))
        ],
      )
      | false ↦ elim one.0 [
        | inl none ↦ (
          ap (option_or own) rest.0 ∙ in_front own (says f key) (says g key) (inl none),
          subst (λ (o : Option (Option Bytes)). EitherNone (says f key) (option_or o (says g key))) (sym none) rest.1,
        )
        | inr none ↦ let silent = none_front (says f key) (says g key) (sym rest.0 ∙ none) in
            (ap (option_or own) rest.0 ∙ in_front own (says f key) (says g key) (inr silent), inl silent)
      ]
    ]
