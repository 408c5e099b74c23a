-- Tables that look alike are chosen alike.
use Rattle.std.proofs.Common.{◌≡◌, ℕ, zero, suc, ◌+◌, ◌∙◌, Bool, true, false, cond, List, [], ◌∷◌, ◌++◌, length, take, refl, sym, ap, subst}
use Rattle.std.specs.Prelude.{◌==◌, ◌&&◌, nat_le, nat_lt, not, filter, fold, Option, Some, None}
use Rattle.std.specs.List.{sum_by}
use Rattle.std.proofs.lemmas.List.Sums.{sum_by-cons}
use Rattle.map_model.specs.SortedMap.{Bytes}
use Rattle.key_base.specs.ByteOrder.{is_before}
use Rattle.range_model.specs.Ranges.{DeletedRange}
use Rattle.range_model.specs.Reach.{reach}
use Rattle.state_model.specs.Merges.{Plan, choose, first_over, greater_key, greatest_key, greatest_of, is_over, least_key, least_of, lesser_key, level_limit, reaches_into, on_level, plan_of}
use Rattle.table_model.specs.Tables.{Table}

-- all that a choice looks at
pub record IsLike (t u : Table) : Type 0 where
  pub level : t.level ≡ u.level
  pub pages : t.pages ≡ u.pages
  pub least : least_key t ≡ least_key u
  pub greatest : greatest_key t ≡ greatest_key u
  pub ranges : t.ranges ≡ u.ranges

-- one after the other
abbrev pub Each : (Table → Table → Type 0) → List Table → List Table → Type 0
Each R [] [] = Unit {0}
Each R (t ∷ ts) (u ∷ us) = R t u × Each R ts us
Each R ts us = ⊥

abbrev pub Likens : (Table → Table → Type 0) → Type 0
Likens R = (t u : Table) → R t u → IsLike t u

pub each_kept : (R : Table → Table → Type 0) (p q : Table → Bool) (ts us : List Table) → ((t u : Table) → R t u → p t ≡ q u) → Each R ts us → Each R (filter p ts) (filter q us)
each_kept R p q [] [] same each = tt
each_kept R p q [] (u ∷ us) same each = absurd each
each_kept R p q (t ∷ ts) [] same each = absurd each
each_kept R p q (t ∷ ts) (u ∷ us) same each =
    let rest = each_kept R p q ts us same each.1 in
    subst (λ (b : Bool). Each R (filter p (t ∷ ts)) (cond b (u ∷ filter q us) (filter q us))) (same t u each.0)
    (elim (p t) as (λ b. Each R (cond b (t ∷ filter p ts) (filter p ts)) (cond b (u ∷ filter q us) (filter q us))) [ true ↦ (each.0, rest) | false ↦ rest ])

pub each_joined : (R : Table → Table → Type 0) (ts us vs ws : List Table) → Each R ts us → Each R vs ws → Each R (ts ++ vs) (us ++ ws)
each_joined R [] [] vs ws each more = more
each_joined R [] (u ∷ us) vs ws each more = absurd each
each_joined R (t ∷ ts) [] vs ws each more = absurd each
each_joined R (t ∷ ts) (u ∷ us) vs ws each more = (each.0, each_joined R ts us vs ws each.1 more)

pub each_first : (R : Table → Table → Type 0) (n : ℕ) (ts us : List Table) → Each R ts us → Each R (take n ts) (take n us)
each_first R zero ts us each = tt
each_first R (suc n) [] [] each = tt
each_first R (suc n) [] (u ∷ us) each = absurd each
each_first R (suc n) (t ∷ ts) [] each = absurd each
each_first R (suc n) (t ∷ ts) (u ∷ us) each = (each.0, each_first R n ts us each.1)

as_many : (R : Table → Table → Type 0) (ts us : List Table) → Each R ts us → length ts ≡ length us
as_many R [] [] each = refl
as_many R [] (u ∷ us) each = absurd each
as_many R (t ∷ ts) [] each = absurd each
as_many R (t ∷ ts) (u ∷ us) each = ap suc (as_many R ts us each.1)

as_many_pages : (R : Table → Table → Type 0) (ts us : List Table) → Likens R → Each R ts us → sum_by (λ (t : Table). t.pages) ts ≡ sum_by (λ (t : Table). t.pages) us
as_many_pages R [] [] like each = refl
as_many_pages R [] (u ∷ us) like each = absurd each
as_many_pages R (t ∷ ts) [] like each = absurd each
as_many_pages R (t ∷ ts) (u ∷ us) like each =
    let pages : t.pages ≡ u.pages = (like t u each.0).pages in
    let rest : sum_by (λ (t : Table). t.pages) ts ≡ sum_by (λ (t : Table). t.pages) us = as_many_pages R ts us like each.1 in
    sum_by-cons (λ (t : Table). t.pages) t ts ∙ ap (λ n. n + sum_by (λ (t : Table). t.pages) ts) pages ∙ ap (λ n. u.pages + n) rest ∙ sym (sum_by-cons (λ (t : Table). t.pages) u us)

same_least : (R : Table → Table → Type 0) (key : Bytes) (ts us : List Table) → Likens R → Each R ts us
    → fold (λ key (u : Table). lesser_key key (least_key u)) key ts ≡ fold (λ key (u : Table). lesser_key key (least_key u)) key us
same_least R key [] [] like each = refl
same_least R key [] (u ∷ us) like each = absurd each
same_least R key (t ∷ ts) [] like each = absurd each
same_least R key (t ∷ ts) (u ∷ us) like each =
    same_least R (lesser_key key (least_key t)) ts us like each.1
    ∙ ap (λ k. fold (λ key (u : Table). lesser_key key (least_key u)) (lesser_key key k) us) (like t u each.0).least

same_greatest : (R : Table → Table → Type 0) (key : Bytes) (ts us : List Table) → Likens R → Each R ts us
    → fold (λ key (u : Table). greater_key key (greatest_key u)) key ts ≡ fold (λ key (u : Table). greater_key key (greatest_key u)) key us
same_greatest R key [] [] like each = refl
same_greatest R key [] (u ∷ us) like each = absurd each
same_greatest R key (t ∷ ts) [] like each = absurd each
same_greatest R key (t ∷ ts) (u ∷ us) like each =
    same_greatest R (greater_key key (greatest_key t)) ts us like each.1
    ∙ ap (λ k. fold (λ key (u : Table). greater_key key (greatest_key u)) (greater_key key k) us) (like t u each.0).greatest

least_alike : (R : Table → Table → Type 0) (ts us : List Table) → Likens R → Each R ts us → least_of ts ≡ least_of us
least_alike R [] [] like each = refl
least_alike R [] (u ∷ us) like each = absurd each
least_alike R (t ∷ ts) [] like each = absurd each
least_alike R (t ∷ ts) (u ∷ us) like each =
    same_least R (least_key t) ts us like each.1 ∙ ap (λ k. fold (λ key (u : Table). lesser_key key (least_key u)) k us) (like t u each.0).least

greatest_alike : (R : Table → Table → Type 0) (ts us : List Table) → Likens R → Each R ts us → greatest_of ts ≡ greatest_of us
greatest_alike R [] [] like each = refl
greatest_alike R [] (u ∷ us) like each = absurd each
greatest_alike R (t ∷ ts) [] like each = absurd each
greatest_alike R (t ∷ ts) (u ∷ us) like each =
    same_greatest R (greatest_key t) ts us like each.1 ∙ ap (λ k. fold (λ key (u : Table). greater_key key (greatest_key u)) k us) (like t u each.0).greatest

same_reach : (R : Table → Table → Type 0) (key : Bytes) (ts us : List Table) → Likens R → Each R ts us
    → fold (λ key (u : Table). greater_key key (reach u.ranges)) key ts ≡ fold (λ key (u : Table). greater_key key (reach u.ranges)) key us
same_reach R key [] [] like each = refl
same_reach R key [] (u ∷ us) like each = absurd each
same_reach R key (t ∷ ts) [] like each = absurd each
same_reach R key (t ∷ ts) (u ∷ us) like each =
    same_reach R (greater_key key (reach t.ranges)) ts us like each.1
    ∙ ap (λ (ranges : List DeletedRange). fold (λ key (u : Table). greater_key key (reach u.ranges)) (greater_key key (reach ranges)) us) (like t u each.0).ranges

-- ---- levels

on_level_alike : (R : Table → Table → Type 0) (level : ℕ) (ts us : List Table) → Likens R → Each R ts us → Each R (on_level level ts) (on_level level us)
on_level_alike R level ts us like each =
    each_kept R (λ t. t.level == level) (λ u. u.level == level) ts us (λ t u r. ap (λ n. n == level) (like t u r).level) each

over_alike : (R : Table → Table → Type 0) (level : ℕ) (ts us : List Table) → Likens R → Each R ts us → is_over ts level ≡ is_over us level
over_alike R level ts us like each =
    ap (λ n. nat_lt (level_limit level) n) (as_many_pages R (on_level level ts) (on_level level us) like (on_level_alike R level ts us like each))

-- what decides whether tables meet: the bounds of the one, and of the others
abbrev meets_by : Bytes → List DeletedRange → Bytes → Bytes → Bytes → Bytes → Bool
meets_by greatest ranges least lo hi end =
    not (is_before greatest lo && not (is_before lo (reach ranges))) && not (is_before hi least && not (is_before least end))

meets_alike : (R : Table → Table → Type 0) (vs ws : List Table) (t u : Table) → Likens R → Each R vs ws → IsLike t u → reaches_into vs t ≡ reaches_into ws u
meets_alike R vs ws t u like some alike = λ i.
    meets_by (alike.greatest i) (alike.ranges i) (alike.least i) (least_alike R vs ws like some i) (greatest_alike R vs ws like some i) (same_reach R [] vs ws like some i)

-- ---- plans

plans_alike : (R : Table → Table → Type 0) (ts us vs ws : List Table) (output : ℕ) → Likens R → Each R ts us → Each R vs ws
    → Each R (plan_of ts vs output).inputs (plan_of us ws output).inputs
plans_alike R ts us vs ws output like all some =
    each_joined R vs ws (filter (reaches_into vs) (on_level output ts)) (filter (reaches_into ws) (on_level output us)) some
    (each_kept R (reaches_into vs) (reaches_into ws) (on_level output ts) (on_level output us) (λ t u r. meets_alike R vs ws t u like some (like t u r))
    (on_level_alike R output ts us like all))

-- the inputs are related, and the level is the same
abbrev pub PlansRelate : (Table → Table → Type 0) → Option Plan → Option Plan → Type 0
PlansRelate R None None = Unit {0}
PlansRelate R (Some p) (Some q) = Each R p.inputs q.inputs × (p.output ≡ q.output)
PlansRelate R p q = ⊥

over_relates : (R : Table → Table → Type 0) (levels : List ℕ) (ts us : List Table) → Likens R → Each R ts us → PlansRelate R (first_over ts levels) (first_over us levels)
over_relates R [] ts us like each = tt
over_relates R (level ∷ deeper) ts us like each =
    subst (λ (b : Bool). PlansRelate R (first_over ts (level ∷ deeper)) (cond b (Some (plan_of us (take 1 (on_level level us)) (level + 1))) (first_over us deeper)))
    (over_alike R level ts us like each)
    (elim (is_over ts level) as (λ b. PlansRelate R (cond b (Some (plan_of ts (take 1 (on_level level ts)) (level + 1))) (first_over ts deeper))
    (cond b (Some (plan_of us (take 1 (on_level level us)) (level + 1))) (first_over us deeper))) [
      | true ↦ (
        plans_alike R ts us (take 1 (on_level level ts)) (take 1 (on_level level us)) (level + 1) like each
            (each_first R 1 (on_level level ts) (on_level level us) (on_level_alike R level ts us like each)),
        refl,
      )
      | false ↦ over_relates R deeper ts us like each
    ])

-- tables that are related one by one are chosen alike
pub choices_relate : (R : Table → Table → Type 0) (ts us : List Table) → Likens R → Each R ts us → PlansRelate R (choose ts) (choose us)
choices_relate R ts us like each =
    let newest = on_level_alike R 0 ts us like each in
    let many : nat_le 4 (length (on_level 0 ts)) ≡ nat_le 4 (length (on_level 0 us)) = ap (λ n. nat_le 4 n) (as_many R (on_level 0 ts) (on_level 0 us) newest) in
    subst (λ (b : Bool). PlansRelate R (choose ts) (cond b (Some (plan_of us (on_level 0 us) 1)) (first_over us (1 ∷ 2 ∷ 3 ∷ 4 ∷ 5 ∷ []))))
    many
    (elim (nat_le 4 (length (on_level 0 ts))) as (λ b. PlansRelate R (cond b (Some (plan_of ts (on_level 0 ts) 1)) (first_over ts (1 ∷ 2 ∷ 3 ∷ 4 ∷ 5 ∷ [])))
    (cond b (Some (plan_of us (on_level 0 us) 1)) (first_over us (1 ∷ 2 ∷ 3 ∷ 4 ∷ 5 ∷ [])))) [
      | true ↦ (plans_alike R ts us (on_level 0 ts) (on_level 0 us) 1 like each newest, refl)
      | false ↦ over_relates R (1 ∷ 2 ∷ 3 ∷ 4 ∷ 5 ∷ []) ts us like each
    ])
