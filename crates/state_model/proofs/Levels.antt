-- Tables by rising levels: what they say together, and what more tables of one level make of it.
use Rattle.std.proofs.Common.{◌≡◌, ◌⊎◌, inl, inr, ℕ, ◌≤◌, ◌<◌, List, [], ◌∷◌, ◌++◌, refl, sym, ap, ◌∙◌, subst, Bool, true, false, cond, arith}
use Rattle.std.specs.Option.{option_or}
use Rattle.std.specs.Prelude.{Option, Some, None, nat_le, nat_lt, not, ◌==◌, ◌&&◌, ◌||◌, filter, fold}
use Rattle.std.specs.List.{AllByRecursion}
use Rattle.map_model.specs.SortedMap.{Bytes}
use Rattle.range_model.specs.Sources.{first_said, says as source_says}
use Rattle.map_model.specs.Slices.{is_before}
use Rattle.table_model.specs.Tables.{Table, as_source}
use Rattle.state_model.specs.View.{sources_of}
use Rattle.state_model.specs.Merges.{on_level, least_key}
use Rattle.state_model.specs.Tends.{goes_before, inserted}
use Rattle.state_model.proofs.Sayings.{or_assoc, or_none}

le_of : (m n : ℕ) → nat_le m n ≡ true → m ≤ n
le_of m n e = grind arith

not_le : (m n : ℕ) → nat_le m n ≡ false → n < m
not_le m n e = grind arith

le_false : (m n : ℕ) → n < m → nat_le m n ≡ false
le_false m n l = grind arith

goes_le : (new t : ℕ) (b : Bool) → (nat_lt new t || ((new == t) && b)) ≡ true → new ≤ t
goes_le new t b e = grind arith

stays_le : (new t : ℕ) (b : Bool) → (nat_lt new t || ((new == t) && b)) ≡ false → t ≤ new
stays_le new t b e = grind arith

-- what a table says of a key, by its entries and its ranges
abbrev pub told : Table → Bytes → Option (Option Bytes)
told t key = source_says (as_source t) key

-- what some tables say of a key, the first of them that says something
abbrev pub says : List Table → Bytes → Option (Option Bytes)
says tables key = first_said (sources_of tables) key

pub says-append : (xs ys : List Table) (key : Bytes) → says (xs ++ ys) key ≡ option_or (says xs key) (says ys key)
says-append [] ys key = refl
says-append (x ∷ xs) ys key = ap (option_or (told x key)) (says-append xs ys key) ∙ sym (or_assoc (told x key) (says xs key) (says ys key))

-- levels do not fall
abbrev pub Levels : ℕ → List Table → Type 0
Levels low [] = Unit {0}
Levels low (t ∷ more) = (low ≤ t.level) × Levels t.level more

abbrev pub upto : ℕ → List Table → List Table
upto level tables = filter (λ (t : Table). nat_le t.level level) tables

abbrev pub deeper : ℕ → List Table → List Table
deeper level tables = filter (λ (t : Table). not (nat_le t.level level)) tables

none_upto : (level low : ℕ) (tables : List Table) → Levels low tables → level < low → upto level tables ≡ []
none_upto level low [] rise less = refl
none_upto level low (t ∷ more) rise less =
    let here : level < t.level = omega arith in
    ap (λ (b : Bool). cond b (t ∷ upto level more) (upto level more)) (le_false t.level level here) ∙ none_upto level t.level more rise.1 here

all_deeper : (level low : ℕ) (tables : List Table) → Levels low tables → level < low → deeper level tables ≡ tables
all_deeper level low [] rise less = refl
all_deeper level low (t ∷ more) rise less =
    let here : level < t.level = omega arith in
    ap (λ (b : Bool). cond (not b) (t ∷ deeper level more) (deeper level more)) (le_false t.level level here) ∙ ap (λ (l : List Table). t ∷ l) (all_deeper level t.level more rise.1 here)

-- those down to a level speak first
pub split_says : (level low : ℕ) (tables : List Table) (key : Bytes) → Levels low tables → says tables key ≡ option_or (says (upto level tables) key) (says (deeper level tables) key)
split_says level low [] key rise = refl
split_says level low (t ∷ more) key rise =
    elim (nat_le t.level level) as (λ b. nat_le t.level level ≡ b → option_or (told t key) (says more key) ≡ option_or (says (cond b (t ∷ upto level more) (upto level more)) key) (says (cond (not b) (t ∷ deeper level more) (deeper level more)) key)) [
      | true ↦ λ _. ap (option_or (told t key)) (split_says level t.level more key rise.1) ∙ sym (or_assoc (told t key) (says (upto level more) key) (says (deeper level more) key))
      | false ↦ λ e. let less = not_le t.level level e in
          sym (ap (λ (l : List Table). option_or (says l key) (option_or (told t key) (says (deeper level more) key))) (none_upto level t.level more rise.1 less)
          ∙ ap (λ (l : List Table). option_or (told t key) (says l key)) (all_deeper level t.level more rise.1 less))
    ] refl

-- from a level on, what is down to it is on it
upto_on : (level low : ℕ) (tables : List Table) → Levels low tables → level ≤ low → upto level tables ≡ on_level level tables
upto_on level low [] rise from = refl
upto_on level low (t ∷ more) rise from =
    let here : low ≤ t.level = rise.0 in
    let next : level ≤ t.level = omega arith in
    let same : nat_le t.level level ≡ (t.level == level) = grind arith in
    let rest = upto_on level t.level more rise.1 next in
    ap (λ (b : Bool). cond b (t ∷ upto level more) (upto level more)) same
    ∙ elim (t.level == level) as (λ b. cond b (t ∷ upto level more) (upto level more) ≡ cond b (t ∷ on_level level more) (on_level level more)) [ true ↦ ap (λ (l : List Table). t ∷ l) rest | false ↦ rest ]

-- ---- one table more

-- one of the two says nothing
abbrev pub EitherNone : Option (Option Bytes) → Option (Option Bytes) → Type 0
EitherNone a b = (a ≡ None) ⊎ (b ≡ None)

pub in_front : (a b rest : Option (Option Bytes)) → EitherNone a b → option_or a (option_or b rest) ≡ option_or b (option_or a rest)
in_front None b rest either = refl
in_front (Some v) None rest either = refl
in_front (Some v) (Some x) rest (inl e) = absurd cc
in_front (Some v) (Some x) rest (inr e) = absurd cc

pub none_front : (a b : Option (Option Bytes)) → option_or a b ≡ None → a ≡ None
none_front None b e = refl
none_front (Some v) b e = absurd cc

pub none_behind : (a b : Option (Option Bytes)) → option_or a b ≡ None → b ≡ None
none_behind None b e = e
none_behind (Some v) b e = absurd cc

later_none : (level : ℕ) (t : Table) (more : List Table) (key : Bytes) (a : Option (Option Bytes)) → EitherNone a (says (on_level level (t ∷ more)) key) → EitherNone a (says (on_level level more) key)
later_none level t more key a (inl e) = inl e
later_none level t more key a (inr e) = inr (elim (t.level == level) as (λ b. says (cond b (t ∷ on_level level more) (on_level level more)) key ≡ None → says (on_level level more) key ≡ None) [
  | true ↦ λ n. none_behind (told t key) (says (on_level level more) key) n
  | false ↦ λ n. n
] e)

insert_says : (low : ℕ) (w : Table) (tables : List Table) (key : Bytes) → Levels low tables → EitherNone (told w key) (says (on_level w.level tables) key)
    → says (inserted tables w) key ≡ option_or (says (upto w.level tables) key) (option_or (told w key) (says (deeper w.level tables) key))
insert_says low w [] key rise either = refl
insert_says low w (t ∷ more) key rise either =
    elim (goes_before w t) as (λ b. goes_before w t ≡ b → says (cond b (w ∷ t ∷ more) (t ∷ inserted more w)) key ≡ option_or (says (upto w.level (t ∷ more)) key) (option_or (told w key) (says (deeper w.level (t ∷ more)) key))) [
      | true ↦ λ e.
          let le = goes_le w.level t.level (is_before (least_key w) (least_key t)) e in
          let own : Levels t.level (t ∷ more) = (omega arith, rise.1) in
          ap (option_or (told w key)) (split_says w.level t.level (t ∷ more) key own)
          ∙ in_front (told w key) (says (upto w.level (t ∷ more)) key) (says (deeper w.level (t ∷ more)) key)
          (subst (λ (l : List Table). EitherNone (told w key) (says l key)) (sym (upto_on w.level t.level (t ∷ more) own le)) either)
      | false ↦ λ e.
          let le = stays_le w.level t.level (is_before (least_key w) (least_key t)) e in
          let yes : nat_le t.level w.level ≡ true = grind arith in
          ap (option_or (told t key)) (insert_says t.level w more key rise.1 (later_none w.level t more key (told w key) either))
          ∙ sym (or_assoc (told t key) (says (upto w.level more) key) (option_or (told w key) (says (deeper w.level more) key)))
          ∙ sym (ap (λ (b : Bool). option_or (says (cond b (t ∷ upto w.level more) (upto w.level more)) key) (option_or (told w key) (says (cond (not b) (t ∷ deeper w.level more) (deeper w.level more)) key))) yes)
    ] refl

insert_levels : (low : ℕ) (w : Table) (tables : List Table) → low ≤ w.level → Levels low tables → Levels low (inserted tables w)
insert_levels low w [] from rise = (from, tt)
insert_levels low w (t ∷ more) from rise = elim (goes_before w t) as (λ b. goes_before w t ≡ b → Levels low (cond b (w ∷ t ∷ more) (t ∷ inserted more w))) [
  | true ↦ λ e. (from, (goes_le w.level t.level (is_before (least_key w) (least_key t)) e, rise.1))
  | false ↦ λ e. (rise.0, insert_levels t.level w more (stays_le w.level t.level (is_before (least_key w) (least_key t)) e) rise.1)
] refl

-- a table that says nothing of the key changes nothing that is said of it, whichever tables are looked at
silent_insert : (test : Table → Bool) (w : Table) (tables : List Table) (key : Bytes) → told w key ≡ None → says (filter test (inserted tables w)) key ≡ says (filter test tables) key
silent_insert test w [] key none = elim (test w) as (λ b. says (cond b (w ∷ []) []) key ≡ None) [
  | true ↦ ap (λ (o : Option (Option Bytes)). option_or o None) none
  | false ↦ refl
]
silent_insert test w (t ∷ more) key none = elim (goes_before w t) as (λ b. says (filter test (cond b (w ∷ t ∷ more) (t ∷ inserted more w))) key ≡ says (filter test (t ∷ more)) key) [
  | true ↦ elim (test w) as (λ b. says (cond b (w ∷ filter test (t ∷ more)) (filter test (t ∷ more))) key ≡ says (filter test (t ∷ more)) key) [
    | true ↦ ap (λ (o : Option (Option Bytes)). option_or o (says (filter test (t ∷ more)) key)) none
    | false ↦ refl
  ]
  | false ↦ elim (test t) as (λ b. says (cond b (t ∷ filter test (inserted more w)) (filter test (inserted more w))) key ≡ says (cond b (t ∷ filter test more) (filter test more)) key) [
    | true ↦ ap (option_or (told t key)) (silent_insert test w more key none)
    | false ↦ silent_insert test w more key none
  ]
]

silent : (w : Table) (tables : List Table) (key : Bytes) → told w key ≡ None → says (inserted tables w) key ≡ says tables key
silent w [] key none = ap (λ (o : Option (Option Bytes)). option_or o None) none
silent w (t ∷ more) key none = elim (goes_before w t) as (λ b. says (cond b (w ∷ t ∷ more) (t ∷ inserted more w)) key ≡ says (t ∷ more) key) [
  | true ↦ ap (λ (o : Option (Option Bytes)). option_or o (says (t ∷ more) key)) none
  | false ↦ ap (option_or (told t key)) (silent w more key none)
]

-- ---- some tables of one level

fold_silent : (new tables : List Table) (key : Bytes) → says new key ≡ None → says (fold inserted tables new) key ≡ says tables key
fold_silent [] tables key none = refl
fold_silent (w ∷ new) tables key none = fold_silent new (inserted tables w) key (none_behind (told w key) (says new key) none)
    ∙ silent w tables key (none_front (told w key) (says new key) none)

-- at most one of them says something of the key
abbrev pub AtMostOne : Bytes → List Table → Type 0
AtMostOne key [] = Unit {0}
AtMostOne key (w ∷ more) = EitherNone (told w key) (says more key) × AtMostOne key more

abbrev pub AllAt : ℕ → List Table → Type 0
AllAt level tables = AllByRecursion (λ (t : Table). t.level ≡ level) tables

either_front : (a b c : Option (Option Bytes)) → EitherNone (option_or a b) c → EitherNone a c
either_front a b c (inl e) = inl (none_front a b e)
either_front a b c (inr e) = inr e

either_behind : (a b c d : Option (Option Bytes)) → d ≡ c → EitherNone (option_or a b) c → EitherNone b d
either_behind a b c d same (inl e) = inl (none_behind a b e)
either_behind a b c d same (inr e) = inr (same ∙ e)

pub fold_says : (level : ℕ) (new tables : List Table) (key : Bytes) → Levels 0 tables → AllAt level new → AtMostOne key new → EitherNone (says new key) (says (on_level level tables) key)
    → says (fold inserted tables new) key ≡ option_or (says (upto level tables) key) (option_or (says new key) (says (deeper level tables) key))
fold_says level [] tables key rise at one either = split_says level 0 tables key rise
fold_says level (w ∷ new) tables key rise at one either = elim one.0 [
  | inl none ↦ fold_says level new (inserted tables w) key (insert_levels 0 w tables (omega arith) rise) at.1 one.1
      (either_behind (told w key) (says new key) (says (on_level level tables) key) (says (on_level level (inserted tables w)) key) (silent_insert (λ (t : Table). t.level == level) w tables key none) either)
      ∙ ap (λ (o : Option (Option Bytes)). option_or o (option_or (says new key) (says (deeper level (inserted tables w)) key))) (silent_insert (λ (t : Table). nat_le t.level level) w tables key none)
      ∙ ap (λ (o : Option (Option Bytes)). option_or (says (upto level tables) key) (option_or (says new key) o)) (silent_insert (λ (t : Table). not (nat_le t.level level)) w tables key none)
      ∙ sym (ap (λ (o : Option (Option Bytes)). option_or (says (upto level tables) key) (option_or (option_or o (says new key)) (says (deeper level tables) key))) none)
  | inr none ↦ fold_silent new (inserted tables w) key none
      ∙ subst (λ (l : ℕ). EitherNone (told w key) (says (on_level l tables) key) → says (inserted tables w) key ≡ option_or (says (upto l tables) key) (option_or (told w key) (says (deeper l tables) key))) at.0 (insert_says 0 w tables key rise)
      (either_front (told w key) (says new key) (says (on_level level tables) key) either)
      ∙ sym (ap (λ (o : Option (Option Bytes)). option_or (says (upto level tables) key) (option_or o (says (deeper level tables) key))) (ap (option_or (told w key)) none ∙ or_none (told w key)))
]
