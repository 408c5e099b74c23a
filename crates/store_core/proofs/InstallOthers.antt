-- The tables that a job does not merge, by their numbers and by their first pages.
use Rattle.std.proofs.Common.{◌≡◌, ◌⊎◌, inl, inr, ◌∙◌, ◌-◌, ◌<◌, ℕ, zero, suc, Bool, true, false, cond, List, [], ◌∷◌, length, map, refl, sym, ap, ap₂, subst, arith}
use Rattle.std.specs.Prelude.{◌==◌, ◌||◌, not, Some, slice_get}
use Rattle.std.specs.List.{AllByRecursion, list_any}
use Rattle.std.proofs.lemmas.Bool.{ne_eqb}
use Rattle.disk_trait.specs.Image.{Image}
use Rattle.extent_model.proofs.Lists.{Pairs}
use Rattle.filter_api.specs.Spellings.{Spelling}
use Rattle.store_search.specs.TablesAgree.{TablesAgree}
use Rattle.extent_model.proofs.Lists.{all_kept}
use Rattle.level_merge.specs.Laws.{StandingAgrees}
use Rattle.state_model.specs.WithoutRanges.{HasNoRange}
use Rattle.level_merge.specs.JobValue.{JobValue}
use Rattle.merge_rows.specs.Merges.{numbered}
use Rattle.merge_rows.specs.Steps.{numbers}
use Rattle.state_model.proofs.Taken.{Apart}
use Rattle.state_model.specs.State.{Job}
use Rattle.state_model.specs.Tends.{installed_tables, without}
use Rattle.table_file.specs.Opened.{Opened}
use Rattle.table_model.specs.Tables.{Table}
use Rattle.store_core.specs.Install.{others_in, tables_behind}
use Rattle.store_core.proofs.InstallHeld.{fold_held, others_held}

-- ---- at their places

all_at : (P : Table → Type 0) (xs : List Table) (place : ℕ) (t : Table) → AllByRecursion P xs → slice_get xs place ≡ Some t → P t
all_at P [] place t all at = absurd cc
all_at P (x ∷ xs) zero t all at = let same : x ≡ t = cc in subst P same all.0
all_at P (x ∷ xs) (suc place) t all at = all_at P xs place t all.1 at

apart_at : (xs : List Table) (i j : ℕ) (t u : Table) → Pairs Apart xs → slice_get xs i ≡ Some t → slice_get xs j ≡ Some u → i < j → Apart t u
apart_at [] i j t u apart first second less = absurd cc
apart_at (x ∷ xs) zero zero t u apart first second less = absurd (omega arith)
apart_at (x ∷ xs) zero (suc j) t u apart first second less = let same : x ≡ t = cc in subst (λ (y : Table). Apart y u) same (all_at (Apart x) xs j u apart.0 second)
apart_at (x ∷ xs) (suc i) zero t u apart first second less = absurd (omega arith)
apart_at (x ∷ xs) (suc i) (suc j) t u apart first second less = apart_at xs i j t u apart.1 first second (omega arith)

-- ---- by their numbers

numbered_later : (x : Table) (xs : List Table) (n : ℕ) → n < length xs → numbered (x ∷ xs) n ≡ numbered xs n
numbered_later x xs n less =
    let here : length (x ∷ xs) - 1 - n ≡ suc (length xs - 1 - n) = omega arith in
    subst (λ k. slice_get (x ∷ xs) k ≡ slice_get xs (length xs - 1 - n)) (sym here) refl

numbered_first : (x : Table) (xs : List Table) → numbered (x ∷ xs) (length xs) ≡ Some x
numbered_first x xs =
    let here : length (x ∷ xs) - 1 - length xs ≡ 0 = omega arith in
    subst (λ k. slice_get (x ∷ xs) k ≡ Some x) (sym here) refl

-- the last of some tables, each by its number
abbrev IsTail : List Table → List Table → Type 0
IsTail all [] = Unit {0}
IsTail all (t ∷ later) = (length later < length all) × (numbered all (length later) ≡ Some t) × IsTail all later

longer : (x : Table) (all rest : List Table) → IsTail all rest → IsTail (x ∷ all) rest
longer x all [] tail = tt
longer x all (t ∷ later) tail = (omega (arith, tail.0), numbered_later x all (length later) tail.0 ∙ tail.1, longer x all later tail.2)

tail_of : (all : List Table) → IsTail all all
tail_of [] = tt
tail_of (t ∷ later) = (omega arith, numbered_first t later, longer t later later (tail_of later))

module _ (all : List Table) (apart : Pairs Apart all) where
  other_number : (m n : ℕ) (t u : Table) → m < length all → n < length all → numbered all m ≡ Some t → numbered all n ≡ Some u → m < n → t.first_page ≡ u.first_page → ⊥
  other_number m n t u less_m less_n at_m at_n less same =
      apart_at all (length all - 1 - n) (length all - 1 - m) u t apart at_n at_m (omega (arith, less, less_m, less_n)) (sym same)

  eq_true : (m n : ℕ) → m ≡ n → (m == n) ≡ true
  eq_true m n e = grind arith

  or_less : (m n : ℕ) → (m == n) ≡ false → (m < n) ⊎ (n < m)
  or_less m n e = grind arith

  one_test : (m n : ℕ) (t u : Table) → m < length all → n < length all → numbered all m ≡ Some t → numbered all n ≡ Some u → (m == n) ≡ (t.first_page == u.first_page)
  one_test m n t u less_m less_n at_m at_n = elim (m == n) as (λ b. (m == n) ≡ b → b ≡ (t.first_page == u.first_page)) [
    | true ↦ λ on.
        let same : m ≡ n = grind arith in
        let both : Some t ≡ Some u = sym at_m ∙ ap (numbered all) same ∙ at_n in
        let is : t ≡ u = cc in
        sym (eq_true t.first_page u.first_page (ap (λ (v : Table). v.first_page) is))
    | false ↦ λ off. sym (ne_eqb t.first_page u.first_page (λ same. elim (or_less m n off) [
      | inl less ↦ other_number m n t u less_m less_n at_m at_n less same
      | inr more ↦ other_number n m u t less_n less_m at_n at_m more (sym same)
    ]))
  ] refl

  same_test : (which : List ℕ) (inputs : List Table) → AllByRecursion (λ (n : ℕ). n < length all) which → map (numbered all) which ≡ map (λ (t : Table). Some t) inputs
      → (n : ℕ) (t : Table) → n < length all → numbered all n ≡ Some t → list_any (λ (m : ℕ). m == n) which ≡ list_any (λ (i : Table). i.first_page == t.first_page) inputs
  same_test [] [] there are n t less at = refl
  same_test [] (i ∷ inputs) there are n t less at = absurd cc
  same_test (m ∷ which) [] there are n t less at = absurd cc
  same_test (m ∷ which) (i ∷ inputs) there are n t less at =
      let here : numbered all m ≡ Some i = cc in
      let rest : map (numbered all) which ≡ map (λ (u : Table). Some u) inputs = cc in
      ap₂ (λ (x y : Bool). x || y) (one_test m n i t there.0 less here at) (same_test which inputs there.1 rest n t less at)

  module _ (which : List ℕ) (inputs : List Table) (there : AllByRecursion (λ (n : ℕ). n < length all) which) (are : map (numbered all) which ≡ map (λ (t : Table). Some t) inputs) where
    tail_without : (rest : List Table) → IsTail all rest → without inputs rest ≡ others_in which rest
    tail_without [] tail = refl
    tail_without (t ∷ later) tail =
        let less = tail_without later tail.2 in
        subst (λ (b : Bool). cond (not b) (t ∷ without inputs later) (without inputs later) ≡ cond (list_any (λ (n : ℕ). n == length later) which) (others_in which later) (t ∷ others_in which later))
        (same_test which inputs there are (length later) t tail.0 tail.1)
        (elim (list_any (λ (n : ℕ). n == length later) which) as (λ b. cond (not b) (t ∷ without inputs later) (without inputs later) ≡ cond b (others_in which later) (t ∷ others_in which later)) [
          | true ↦ less
          | false ↦ ap (λ (l : List Table). t ∷ l) less
        ])

    pub without_others : without inputs all ≡ others_in which all
    without_others = tail_without all (tail_of all)

-- ---- all tables after the install of a merge

pub behind_held : StandingAgrees → (spelling : Spelling) (image : Image) (opened : List Opened) (tables : List Table) (m : JobValue) (job : Job) → Pairs Apart tables
    → AllByRecursion (λ (n : ℕ). n < length tables) (numbers m.merge.walks) → map (numbered tables) (numbers m.merge.walks) ≡ map (λ (t : Table). Some t) job.inputs
    → TablesAgree spelling opened tables image → TablesAgree spelling m.made job.written image → AllByRecursion HasNoRange tables → AllByRecursion HasNoRange job.written
    → TablesAgree spelling (tables_behind opened m) (installed_tables tables job) image
behind_held agree spelling image opened tables m job apart there inputs held made none none_written =
    let which = numbers m.merge.walks in
    fold_held agree spelling image m.made (others_in which opened) job.written (without job.inputs tables) made
    (subst (λ (l : List Table). TablesAgree spelling (others_in which opened) l image) (sym (without_others tables apart which job.inputs there inputs))
    (others_held spelling image which opened tables held)) none_written (all_kept HasNoRange _ tables none)
