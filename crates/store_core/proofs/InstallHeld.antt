-- The tables of a merge take the place of those that it read, in memory as in the state.
use Rattle.std.proofs.Common.{◌≡◌, ◌∙◌, ℕ, suc, Bool, true, false, cond, List, [], ◌∷◌, length, fold, refl, ap, subst}
use Rattle.std.specs.Prelude.{◌==◌, ◌&&◌, ◌||◌, nat_lt}
use Rattle.std.specs.List.{AllByRecursion, list_any}
use Rattle.disk_trait.specs.Image.{Image}
use Rattle.filter_api.specs.Spellings.{Spelling}
use Rattle.key_base.specs.ByteOrder.{is_before}
use Rattle.store_search.specs.TablesAgree.{TableAgrees, TablesAgree}
use Rattle.level_merge.specs.Laws.{StandingAgrees}
use Rattle.level_merge.specs.Plans.{Agrees}
use Rattle.map_model.specs.SortedMap.{Bytes}
use Rattle.state_model.proofs.Installs.{insert_all}
use Rattle.state_model.specs.Merges.{least_key}
use Rattle.state_model.specs.Tends as model
use Rattle.state_model.specs.WithoutRanges.{HasNoRange}
use Rattle.table_file.specs.Opened.{Opened}
use Rattle.table_model.specs.Tables.{Table}
use Rattle.store_core.specs.Install.{goes_before, others_in, put_in}

-- ---- tables that are held are alike

module _ (agree : StandingAgrees) (spelling : Spelling) (image : Image) where
  abbrev ahead : ℕ → ℕ → Bytes → Bytes → Bool
  ahead level other least other_least = nat_lt level other || ((level == other) && is_before least other_least)

  alike : (o p : Opened) (t u : Table) → Agrees o t → Agrees p u → goes_before o p ≡ model.goes_before t u
  alike o p t u first second =
      ap (λ (n : ℕ). ahead n p.row.level o.index.least p.index.least) first.level
      ∙ ap (λ (n : ℕ). ahead t.level n o.index.least p.index.least) second.level
      ∙ ap (λ (k : Bytes). ahead t.level u.level k p.index.least) first.least
      ∙ ap (λ (k : Bytes). ahead t.level u.level (least_key t) k) second.least

  put_held : (o : Opened) (t : Table) (opened : List Opened) (tables : List Table) → TableAgrees spelling o t image → TablesAgree spelling opened tables image → HasNoRange t → AllByRecursion HasNoRange tables
      → TablesAgree spelling (put_in opened o) (model.inserted tables t) image
  put_held o t [] [] one held none none_of = (one, tt)
  put_held o t [] (u ∷ tables) one held none none_of = absurd held
  put_held o t (p ∷ opened) [] one held none none_of = absurd held
  put_held o t (p ∷ opened) (u ∷ tables) one held none none_of =
      let same = alike o p t u (agree spelling o t image one none) (agree spelling p u image held.0 none_of.0) in
      subst (λ (b : Bool). TablesAgree spelling (put_in (p ∷ opened) o) (cond b (t ∷ u ∷ tables) (u ∷ model.inserted tables t)) image) same
      (elim (goes_before o p) as (λ b. TablesAgree spelling (cond b (o ∷ p ∷ opened) (p ∷ put_in opened o)) (cond b (t ∷ u ∷ tables) (u ∷ model.inserted tables t)) image) [
        | true ↦ (one, held)
        | false ↦ (held.0, put_held o t opened tables one held.1 none none_of.1)
      ])

  pub fold_held : (made opened : List Opened) (written tables : List Table) → TablesAgree spelling made written image → TablesAgree spelling opened tables image
      → AllByRecursion HasNoRange written → AllByRecursion HasNoRange tables → TablesAgree spelling (fold put_in opened made) (fold model.inserted tables written) image
  fold_held [] opened [] tables new held none none_of = held
  fold_held [] opened (u ∷ written) tables new held none none_of = absurd new
  fold_held (o ∷ made) opened [] tables new held none none_of = absurd new
  fold_held (o ∷ made) opened (t ∷ written) tables new held none none_of =
      fold_held made (put_in opened o) written (model.inserted tables t) new.1 (put_held o t opened tables new.0 held none.0 none_of) none.1 (insert_all HasNoRange t tables none.0 none_of)

pub many_held : (spelling : Spelling) (image : Image) (opened : List Opened) (tables : List Table) → TablesAgree spelling opened tables image → length opened ≡ length tables
many_held spelling image [] [] held = refl
many_held spelling image [] (t ∷ tables) held = absurd held
many_held spelling image (o ∷ opened) [] held = absurd held
many_held spelling image (o ∷ opened) (t ∷ tables) held = ap suc (many_held spelling image opened tables held.1)

pub others_held : (spelling : Spelling) (image : Image) (which : List ℕ) (opened : List Opened) (tables : List Table) → TablesAgree spelling opened tables image
    → TablesAgree spelling (others_in which opened) (others_in which tables) image
others_held spelling image which [] [] held = tt
others_held spelling image which [] (t ∷ tables) held = absurd held
others_held spelling image which (o ∷ opened) [] held = absurd held
others_held spelling image which (o ∷ opened) (t ∷ tables) held =
    let rest = others_held spelling image which opened tables held.1 in
    let same = many_held spelling image opened tables held.1 in
    subst (λ (n : ℕ). TablesAgree spelling (others_in which (o ∷ opened)) (cond (list_any (λ (k : ℕ). k == n) which) (others_in which tables) (t ∷ others_in which tables)) image) same
    (elim (list_any (λ (k : ℕ). k == length opened) which) as (λ b. TablesAgree spelling (cond b (others_in which opened) (o ∷ others_in which opened)) (cond b (others_in which tables) (t ∷ others_in which tables)) image) [
      | true ↦ rest
      | false ↦ (held.0, rest)
    ])
