-- What is chosen among the outlines of open tables is what the state chooses, by its numbers.
use Rattle.std.proofs.Common.{◌≡◌, ℕ, suc, ◌<◌, ◌≤◌, ◌-◌, ◌∙◌, List, [], ◌∷◌, length, map, refl, sym, ap, subst, arith}
use Rattle.std.specs.Prelude.{IfSome, Option, Some, None, slice_get}
use Rattle.std.specs.List.{AllByRecursion}
use Rattle.std.specs.Option.{option_map}
use Rattle.std.proofs.lemmas.List.{length-map}
use Rattle.level_merge.specs.Outlines.{by_numbers, table_number, outline, outlines}
use Rattle.level_merge.specs.Plans.{Agree, Agrees, IsPlanOf, MayStart, numbered}
use Rattle.level_merge.proofs.Apart.{chosen_apart}
use Rattle.level_merge.proofs.Related.{Each, IsLike, Likens, PlansRelate, choices_relate}
use Rattle.state_model.specs.Merges.{Plan, choose}
use Rattle.state_model.proofs.Choices.{chosen_output, chosen_some}
use Rattle.table_file.specs.Opened.{Opened}
use Rattle.table_model.specs.Tables.{Table}

-- the outline is like the table of its number
pub record Names (tables : List Table) (u t : Table) : Type 0 where
  pub less : table_number u < length tables
  pub named : numbered tables (table_number u) ≡ Some t
  pub like : IsLike u t

names_later : (x : Table) (tables : List Table) (u t : Table) → Names tables u t → Names (x ∷ tables) u t
names_later x tables u t names =
    let less : table_number u < length tables = names.less in
    let here : length (x ∷ tables) - 1 - table_number u ≡ suc (length tables - 1 - table_number u) = omega arith in
    record { less = omega arith; named = subst (λ n. slice_get (x ∷ tables) n ≡ Some t) (sym here) names.named; like = names.like }

all_later : (x : Table) (tables us ts : List Table) → Each (Names tables) us ts → Each (Names (x ∷ tables)) us ts
all_later x tables [] [] each = tt
all_later x tables [] (t ∷ ts) each = absurd each
all_later x tables (u ∷ us) [] each = absurd each
all_later x tables (u ∷ us) (t ∷ ts) each = (names_later x tables u t each.0, all_later x tables us ts each.1)

as_many : (opened : List Opened) (tables : List Table) → Agree opened tables → length opened ≡ length tables
as_many [] [] agree = refl
as_many [] (t ∷ tables) agree = absurd agree
as_many (o ∷ opened) [] agree = absurd agree
as_many (o ∷ opened) (t ∷ tables) agree = ap suc (as_many opened tables agree.1)

names_first : (o : Opened) (opened : List Opened) (t : Table) (tables : List Table) → Agrees o t → length opened ≡ length tables
    → Names (t ∷ tables) (outline (length opened) o) t
names_first o opened t tables agrees many =
    let here : length (t ∷ tables) - 1 - length opened ≡ 0 = omega arith in
    record {
      less = omega arith;
      named = subst (λ n. slice_get (t ∷ tables) n ≡ Some t) (sym here) refl;
      like = record { level = agrees.level; pages = agrees.pages; least = agrees.least; greatest = agrees.greatest; ranges = sym agrees.no_range };
    }

pub outlines_name : (opened : List Opened) (tables : List Table) → Agree opened tables → Each (Names tables) (outlines opened) tables
outlines_name [] [] agree = tt
outlines_name [] (t ∷ tables) agree = absurd agree
outlines_name (o ∷ opened) [] agree = absurd agree
outlines_name (o ∷ opened) (t ∷ tables) agree =
    (names_first o opened t tables agree.0 (as_many opened tables agree.1), all_later t tables (outlines opened) tables (outlines_name opened tables agree.1))

named_all : (tables us ts : List Table) → Each (Names tables) us ts → map (numbered tables) (map table_number us) ≡ map (λ (t : Table). Some t) ts
named_all tables [] [] each = refl
named_all tables [] (t ∷ ts) each = absurd each
named_all tables (u ∷ us) [] each = absurd each
named_all tables (u ∷ us) (t ∷ ts) each =
    ap (λ (x : Option Table). x ∷ map (numbered tables) (map table_number us)) each.0.named ∙ ap (λ l. Some t ∷ l) (named_all tables us ts each.1)

plan_named : (tables : List Table) (p q : Option Plan) → PlansRelate (Names tables) p q → IsPlanOf tables (option_map by_numbers p) q
plan_named tables None None relate = tt
plan_named tables None (Some q) relate = absurd relate
plan_named tables (Some p) None relate = absurd relate
plan_named tables (Some p) (Some q) relate = (named_all tables p.inputs q.inputs relate.0, relate.1)

-- the numbers name what the state chooses
pub states_choice : (opened : List Opened) (tables : List Table) → Agree opened tables → IsPlanOf tables (option_map by_numbers (choose (outlines opened))) (choose tables)
states_choice opened tables agree =
    plan_named tables (choose (outlines opened)) (choose tables)
    (choices_relate (Names tables) (outlines opened) tables (λ u t names. names.like) (outlines_name opened tables agree))

-- ---- whether or not a state has these tables

-- the same table, of a number that there is
pub record IsThere (many : ℕ) (t u : Table) : Type 0 where
  pub less : table_number t < many
  pub same : t ≡ u

there_like : (many : ℕ) → Likens (IsThere many)
there_like many t u there = subst (IsLike t) there.same (record { level = refl; pages = refl; least = refl; greatest = refl; ranges = refl })

there_weaker : (many : ℕ) (ts us : List Table) → Each (IsThere many) ts us → Each (IsThere (suc many)) ts us
there_weaker many [] [] each = tt
there_weaker many [] (u ∷ us) each = absurd each
there_weaker many (t ∷ ts) [] each = absurd each
there_weaker many (t ∷ ts) (u ∷ us) each =
    let less : table_number t < many = each.0.less in
    (record { less = omega arith; same = each.0.same }, there_weaker many ts us each.1)

all_there : (opened : List Opened) → Each (IsThere (length opened)) (outlines opened) (outlines opened)
all_there [] = tt
all_there (o ∷ opened) = (record { less = omega arith; same = refl }, there_weaker (length opened) (outlines opened) (outlines opened) (all_there opened))

numbers_there : (many : ℕ) (ts us : List Table) → Each (IsThere many) ts us → AllByRecursion (λ number. number < many) (map table_number ts)
numbers_there many [] us each = tt
numbers_there many (t ∷ ts) [] each = absurd each
numbers_there many (t ∷ ts) (u ∷ us) each = (each.0.less, numbers_there many ts us each.1)

related_itself : (many : ℕ) (plan : Plan) (p : Option Plan) → p ≡ Some plan → PlansRelate (IsThere many) p p → Each (IsThere many) plan.inputs plan.inputs
related_itself many plan None e relate = absurd cc
related_itself many plan (Some q) e relate = let same : q ≡ plan = cc in subst (λ (r : Plan). Each (IsThere many) r.inputs r.inputs) same relate.0

starts_with : (opened : List Opened) (plan : Plan) → choose (outlines opened) ≡ Some plan → MayStart opened (by_numbers plan)
starts_with opened plan e = record {
  some = subst (λ n. 1 ≤ n) (sym (length-map plan.inputs table_number)) (chosen_some (outlines opened) plan e);
  there = numbers_there (length opened) plan.inputs plan.inputs
      (related_itself (length opened) plan (choose (outlines opened)) e
      (choices_relate (IsThere (length opened)) (outlines opened) (outlines opened) (there_like (length opened)) (all_there opened)));
  apart = chosen_apart opened plan e;
  output = chosen_output (outlines opened) plan e;
}

starts_if : (opened : List Opened) (p : Option Plan) → choose (outlines opened) ≡ p → IfSome (option_map by_numbers p) (MayStart opened)
starts_if opened None e = tt
starts_if opened (Some plan) e = starts_with opened plan e

-- what is chosen may start
pub choice_starts : (opened : List Opened) → IfSome (option_map by_numbers (choose (outlines opened))) (MayStart opened)
choice_starts opened = starts_if opened (choose (outlines opened)) refl
