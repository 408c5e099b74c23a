-- Tables whose levels do not fall and whose ranges break no rule are in their order.
use Rattle.std.proofs.Common.{◌≡◌, inl, inr, ◌≤◌, ◌+◌, ℕ, List, [], ◌∷◌, refl, ap, ◌∙◌, arith}
use Rattle.std.proofs.lemmas.Bool.{eqb-true, ltb-false}
use Rattle.std.specs.Prelude.{map, Bool, true, false, not, ◌||◌, ◌==◌, nat_lt, None}
use Rattle.std.specs.List.{AllByRecursion, AllPairs}
use Rattle.byte_fields.specs.declared.parts.Row.{Row}
use Rattle.disk_trait.specs.Image.{Image}
use Rattle.filter_api.specs.Spellings.{Spelling}
use Rattle.range_model.specs.Reach.{lies_below}
use Rattle.block_model.proofs.Refusals.{kept, not_false}
use Rattle.extent_model.proofs.Lists.{Pairs, all_pairs}
use Rattle.manifest_model.specs.Reading.{levels_fault}
use Rattle.manifest_model.specs.Tables.{follows, ranges_after, ranges_fault}
use Rattle.state_model.specs.Merges.{least_key}
use Rattle.state_model.specs.Sound.{IsSoundTable, StandsBefore}
use Rattle.state_model.proofs.Hulls.{fit_of}
use Rattle.state_model.proofs.Inserted.{before_then}
use Rattle.table_model.specs.Tables.{Table, as_source}
use Rattle.image_model.specs.Tables.{AreTablesOf}
use Rattle.image_model.specs.Opening.{FollowsAsItStands, range_of_table}
use Rattle.image_model.proofs.Ranges.{comes_by_rule}

-- ---- levels

-- no level is less than the one before
abbrev pub Climb : ℕ → List Table → Type 0
Climb before [] = Unit {0}
Climb before (t ∷ later) = (before ≤ t.level) × Climb t.level later

pub climb_of : (spelling : Spelling) (place before : ℕ) (rows : List Row) (tables : List Table) (image : Image)
    → AreTablesOf spelling rows tables image → levels_fault place before rows ≡ None → Climb before tables
unfolding levels_fault
climb_of spelling place before [] [] image are none = tt
climb_of spelling place before [] (t ∷ ts) image are none = elim are [ ]
climb_of spelling place before (row ∷ rows) [] image are none = elim are [ ]
climb_of spelling place before (row ∷ rows) (t ∷ ts) image are none =
    let level : t.level ≡ row.level = ap (λ (u : Table). u.level) are.0.2 in
    let a = kept (nat_lt row.level before) place 9 _ none in
    let rest : levels_fault (place + 64) t.level rows ≡ None = ap (λ (n : ℕ). levels_fault (place + 64) n rows) level ∙ a.1 in
    (omega (arith, level, ltb-false row.level before a.0), climb_of spelling (place + 64) t.level rows ts image are.1 rest)

-- ---- ranges

-- each but the first is after the one before
abbrev Next : Table → List Table → Type 0
Next t [] = Unit {0}
Next t (u ∷ later) = StandsBefore t u × Next u later

by_tests : (t u : Table) (a b c : Bool) → (t.level == u.level) ≡ a → (u.level == 0) ≡ b → lies_below (as_source t) (least_key u) ≡ c → t.level ≤ u.level
    → (not a || b || c) ≡ true → StandsBefore t u
by_tests t u false b c level zeroth above up so = inl (grind arith)
by_tests t u true true c level zeroth above up so = let same = eqb-true t.level u.level level in inr (same, inl (same ∙ eqb-true u.level 0 zeroth))
by_tests t u true false true level zeroth above up so = inr (eqb-true t.level u.level level, inr above)
by_tests t u true false false level zeroth above up so = absurd cc

stands_next : (t u : Table) → t.level ≤ u.level → follows (range_of_table t) (range_of_table u) ≡ true → StandsBefore t u
stands_next t u up so = by_tests t u (t.level == u.level) (u.level == 0) (lies_below (as_source t) (least_key u)) refl refl refl up so

pub follows_as_it_stands : FollowsAsItStands
follows_as_it_stands t u up = (stands_next t u up, comes_by_rule t u)

next_of : (place : ℕ) (t : Table) (later : List Table) → Climb t.level later → ranges_after place (range_of_table t) (map range_of_table later) ≡ None → Next t later
unfolding ranges_after
next_of place t [] climb none = tt
next_of place t (u ∷ later) climb none =
    let a = kept (not (follows (range_of_table t) (range_of_table u))) place 12 _ none in
    (stands_next t u climb.0 (not_false _ a.0), next_of (place + 64) u later climb.1 a.1)

-- ---- each with each later one

all_from : (t u : Table) (later : List Table) → StandsBefore t u → Next u later → AllByRecursion IsSoundTable (u ∷ later) → AllByRecursion (StandsBefore t) (u ∷ later)
all_from t u [] here next sound = (here, tt)
all_from t u (w ∷ later) here next sound = (here, all_from t w later (before_then t u w (fit_of u sound.0) here next.0) next.1 sound.1)

pairs_from : (t : Table) (later : List Table) → Next t later → AllByRecursion IsSoundTable (t ∷ later) → Pairs StandsBefore (t ∷ later)
pairs_from t [] next sound = (tt, tt)
pairs_from t (u ∷ later) next sound = (all_from t u later next.0 next.1 sound.1, pairs_from u later next.1 sound.1)

pub in_order : (before : ℕ) (tables : List Table) → Climb before tables → ranges_fault (map range_of_table tables) ≡ None → AllByRecursion IsSoundTable tables → AllPairs StandsBefore tables
unfolding ranges_fault
in_order before [] climb none sound = all_pairs StandsBefore [] tt
in_order before (t ∷ later) climb none sound = all_pairs StandsBefore (t ∷ later) (pairs_from t later (next_of 128 t later climb.1 none) sound)
