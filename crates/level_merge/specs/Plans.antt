-- Tables that are to be merged, by their numbers.
use Rattle.std.specs.Prelude.{◌≡◌, ◌≢◌, ◌<◌, ◌≤◌, ◌-◌, ℕ, List, [], ◌∷◌, length, map, Option, Some, None}
use Rattle.std.specs.List.{AllByRecursion, AllPairs}
use Rattle.key_base.specs.Limits.{max_level}
use Rattle.block_model.specs.Places.{pages_of}
-- tables are numbered from the last, which has 0
pub use Rattle.merge_rows.specs.Merges.{numbered}
use Rattle.state_model.specs.Merges.{Plan, greatest_key, least_key}
use Rattle.table_file.specs.Opened.{Opened}
use Rattle.table_file.specs.Search.{row_at}
use Rattle.table_model.specs.Tables.{Table}

-- the numbers of some tables, the newest first, and the level of what they become
pub record PlanByNumbers : Type 0 where
  pub inputs : List ℕ
  pub output : ℕ

-- the open table is the state's, as far as memory tells: all but the entries between the least and the greatest key
pub record Agrees (opened : Opened) (t : Table) : Type 0 where
  pub level : opened.row.level ≡ t.level
  pub first_page : opened.row.first_page ≡ t.first_page
  pub pages : pages_of opened.row ≡ t.pages
  pub blocks : length opened.index.rows ≡ t.blocks
  pub least : opened.index.least ≡ least_key t
  pub greatest : (row_at opened.index.rows (length opened.index.rows - 1)).last ≡ greatest_key t
  pub no_range : t.ranges ≡ []

-- one after the other
abbrev pub Agree : List Opened → List Table → Type 0
Agree [] [] = Unit {0}
Agree (opened ∷ more) (t ∷ tables) = Agrees opened t × Agree more tables
Agree opened tables = ⊥

-- the plan names these tables, and becomes the same level
abbrev pub IsPlanOf : List Table → Option PlanByNumbers → Option Plan → Type 0
IsPlanOf tables None None = Unit {0}
IsPlanOf tables (Some p) (Some plan) = (map (numbered tables) p.inputs ≡ map (λ (t : Table). Some t) plan.inputs) × (p.output ≡ plan.output)
IsPlanOf tables p plan = ⊥

-- a plan names one table or more, each of them there and once, and a level from 1 to the last
pub record MayStart (tables : List Opened) (p : PlanByNumbers) : Type 0 where
  pub some : 1 ≤ length p.inputs
  pub there : AllByRecursion (λ number. number < length tables) p.inputs
  pub apart : AllPairs (λ m n. m ≢ n) p.inputs
  pub output : (1 ≤ p.output) × (p.output ≤ max_level)
