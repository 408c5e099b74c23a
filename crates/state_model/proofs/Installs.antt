-- A job that is installed keeps the map.
use Rattle.std.proofs.Common.{◌≡◌, inl, inr, ℕ, ◌≤◌, ◌<◌, ◌+◌, List, [], ◌∷◌, ◌++◌, length, refl, sym, ap, ◌∙◌, subst, Bool, true, false, cond, arith, map}
use Rattle.std.specs.Option.{option_or}
use Rattle.std.specs.Prelude.{Option, Some, None, nat_le, nat_lt, not, ◌==◌, ◌||◌, filter, fold, take, drop}
use Rattle.std.specs.List.{AllByRecursion, list_any}
use Rattle.std.proofs.lemmas.List.{append_assoc, append-nil, take-append-drop}
use Rattle.std.proofs.lemmas.List.Elements.{filter-append}
use Rattle.block_model.proofs.Bounds.{weaker}
use Rattle.map_model.specs.SortedMap.{Bytes}
use Rattle.entry_model.specs.Entries.{live}
use Rattle.range_model.specs.Sources.{IsSource, Source, first_said, last_said}
use Rattle.range_model.specs.Laws.{LieApart}
use Rattle.range_model.proofs.Sound.{said_both}
use Rattle.state_model.specs.State.{State, Job, written_by}
use Rattle.table_model.specs.Tables.{FilterBytes, Table, as_source}
use Rattle.state_model.specs.View.{sources_of, oldest_first, state_map}
use Rattle.state_model.specs.Merges.{Plan, plan_of, on_level, reaches_into, is_over, first_over, choose, is_deepest, merged_of, planned}
use Rattle.state_model.specs.Tends.{without, inserted, goes_before, outstanding, installed}
use Rattle.state_model.specs.Taken.{extent_of, taken}
use Rattle.extent_model.specs.Extents.{AreApart, IsOnDevice}
use Rattle.state_model.specs.Sound.{IsSound, IsSoundTable, StandsBefore, AreMade, IsJob, plan_of_job}
use Rattle.state_model.proofs.Sayings.{or_none}
use Rattle.state_model.proofs.SameMaps.{same_map}
use Rattle.state_model.proofs.Views.{said_of_tables}
use Rattle.state_model.proofs.Merged.{inputs_say, lasting_none, merge_apart, merge_says, merge_sound, planned_say, tombstones_last}
use Rattle.state_model.proofs.Levels.{told, says-append, EitherNone, AtMostOne, AllAt, Levels, upto, deeper, fold_says, says}
use Rattle.extent_model.proofs.Lists.{Pairs, pairs_of, all_kept, all_pass}
use Rattle.state_model.proofs.Parts.{above, keep_all, keep_none, pairs_kept, pairs_front, levels_of, parted, dropped}
use Rattle.state_model.proofs.Disjoint.{Rise, hull_apart, one_of_level, rise_of_sources, rising_order, sources_rise}
use Rattle.state_model.proofs.Taken.{Apart, Cross, all_parts, all_join, cross_of, pairs_back, cross_flip, cross_parts, cross_join, cross_filter, stays, goes, parts_stay, part_says}

abbrev Says : Type 0
Says = Option (Option Bytes)

-- ---- what is said in one order and in the other

reordered : (b p i s j x d : Says) → EitherNone i s → EitherNone i x → EitherNone j x
    → option_or b (option_or (option_or p (option_or i s)) (option_or (option_or j x) d)) ≡ option_or (option_or b (option_or (option_or p s) x)) (option_or (option_or i j) d)
reordered (Some v) p i s j x d is ix jx = refl
reordered None (Some v) i s j x d is ix jx = refl
reordered None None None (Some v) j x d is ix jx = refl
reordered None None None None None None d is ix jx = refl
reordered None None None None None (Some v) d is ix jx = refl
reordered None None None None (Some v) None d is ix jx = refl
reordered None None None None (Some v) (Some w) d is ix (inl e) = absurd cc
reordered None None None None (Some v) (Some w) d is ix (inr e) = absurd cc
reordered None None (Some v) (Some w) j x d (inl e) ix jx = absurd cc
reordered None None (Some v) (Some w) j x d (inr e) ix jx = absurd cc
reordered None None (Some v) None j None d is ix jx = refl
reordered None None (Some v) None j (Some w) d is (inl e) jx = absurd cc
reordered None None (Some v) None j (Some w) d is (inr e) jx = absurd cc

either_joined : (i j x : Says) → EitherNone i x → EitherNone j x → EitherNone (option_or i j) x
either_joined None j x ix jx = jx
either_joined (Some v) j x ix jx = ix

live_behind : (u w i : Says) → live w ≡ live i → live (option_or u w) ≡ live (option_or u i)
live_behind None w i same = same
live_behind (Some v) w i same = refl

-- ---- what is chosen

-- the tables of a level that are merged, between those that are not
pub record Shape (x0 tables : List Table) (key : Bytes) : Type 0 where
  pub front : List Table
  pub back : List Table
  pub parts : x0 ≡ front ++ (tables ++ back)
  pub apart : EitherNone (says tables key) (says back key)

-- a plan merges some tables of a level with those of the next that they meet
pub record Chosen (plan : Plan) (all : List Table) (key : Bytes) : Type 0 where
  pub level : ℕ
  pub tables : List Table
  pub output : plan.output ≡ level + 1
  pub inputs : plan.inputs ≡ tables ++ filter (reaches_into tables) (on_level (level + 1) all)
  pub shape : Shape (on_level level all) tables key

pub data IsPlan (all : List Table) (plan : Plan) : Type 0 where
  of_level_0 : plan ≡ plan_of all (on_level 0 all) 1 → IsPlan all plan
  of_level : (level : ℕ) → 1 ≤ level → plan ≡ plan_of all (take 1 (on_level level all)) (level + 1) → IsPlan all plan

first_over_is : (all : List Table) (levels : List ℕ) (plan : Plan) → AllByRecursion (λ level. 1 ≤ level) levels → first_over all levels ≡ Some plan → IsPlan all plan
first_over_is all [] plan some e = absurd cc
first_over_is all (level ∷ more) plan some e = elim (is_over all level) as (λ b. cond b (Some (plan_of all (take 1 (on_level level all)) (level + 1))) (first_over all more) ≡ Some plan → IsPlan all plan) [
  | true ↦ λ e. of_level level some.0 cc
  | false ↦ λ e. first_over_is all more plan some.1 e
] e

pub choose_is : (all : List Table) (plan : Plan) → choose all ≡ Some plan → IsPlan all plan
choose_is all plan e = elim (nat_le 4 (length (on_level 0 all))) as (λ b. cond b (Some (plan_of all (on_level 0 all) 1)) (first_over all (1 ∷ 2 ∷ 3 ∷ 4 ∷ 5 ∷ [])) ≡ Some plan → IsPlan all plan) [
  | true ↦ λ e. of_level_0 cc
  | false ↦ λ e. first_over_is all (1 ∷ 2 ∷ 3 ∷ 4 ∷ 5 ∷ []) plan (omega arith, (omega arith, (omega arith, (omega arith, (omega arith, tt))))) e
] e

first_apart : (tables : List Table) (key : Bytes) → AtMostOne key tables → EitherNone (says (take 1 tables) key) (says (drop 1 tables) key)
first_apart [] key one = inl refl
first_apart (t ∷ more) key one = subst (λ (o : Says). EitherNone o (says more key)) (sym (or_none (told t key))) one.0

pub on_level_at : (level : ℕ) (tables : List Table) → AllAt level (on_level level tables)
on_level_at level tables = weaker (λ (t : Table). (t.level == level) ≡ true) (λ (t : Table). t.level ≡ level) (λ t e. grind arith) (on_level level tables) (all_pass (λ (t : Table). t.level == level) tables)

one_on : (level : ℕ) (tables : List Table) (key : Bytes) → 1 ≤ level → Rise tables → Pairs StandsBefore tables → AtMostOne key (on_level level tables)
one_on level tables key some rise order = one_of_level level (on_level level tables) key some (on_level_at level tables)
    (all_kept (λ (t : Table). IsSource (as_source t)) (λ (t : Table). t.level == level) tables rise)
    (pairs_kept StandsBefore (λ (t : Table). t.level == level) tables order)

pub chosen : (all : List Table) (few : ℕ) (plan : Plan) (key : Bytes) → few ≤ length (on_level 0 all) → choose (drop few all) ≡ Some plan → Rise all → Pairs StandsBefore all → Chosen plan all key
chosen all few plan key within e rise order =
    let same = dropped 0 few all (levels_of all order) within in
    elim (choose_is (drop few all) plan e) [
      | of_level_0 is ↦
          let tables = on_level 0 (drop few all) in
          record {
            level = 0;
            tables = tables;
            output = ap (λ (p : Plan). p.output) is;
            inputs = ap (λ (p : Plan). p.inputs) is ∙ ap (λ (l : List Table). tables ++ filter (reaches_into tables) l) (same.1 1 (omega arith));
            shape = record {
              front = take few (on_level 0 all);
              back = [];
              parts = sym (take-append-drop few (on_level 0 all)) ∙ ap (λ (l : List Table). take few (on_level 0 all) ++ l) (sym (append-nil tables ∙ same.0));
              apart = inr refl;
            };
          }
      | of_level level some is ↦
          let tables = take 1 (on_level level all) in
          let there : take 1 (on_level level (drop few all)) ≡ tables = ap (take 1) (same.1 level some) in
          record {
            level = level;
            tables = tables;
            output = ap (λ (p : Plan). p.output) is;
            inputs = ap (λ (p : Plan). p.inputs) is
                ∙ ap (λ (l : List Table). l ++ filter (reaches_into l) (on_level (level + 1) (drop few all))) there
                ∙ ap (λ (l : List Table). tables ++ filter (reaches_into tables) l) (same.1 (level + 1) (omega arith));
            shape = record {
              front = [];
              back = drop 1 (on_level level all);
              parts = sym (take-append-drop 1 (on_level level all));
              apart = first_apart (on_level level all) key (one_on level all key some rise order);
            };
          }
    ]

-- ---- what is left

abbrev pub five : List Table → List Table → List Table → List Table → List Table → List Table
five b p s x d = b ++ ((p ++ s) ++ (x ++ d))

filter_five : (test : Table → Bool) (b p s x d b' p' s' x' d' : List Table) → filter test b ≡ b' → filter test p ≡ p' → filter test s ≡ s' → filter test x ≡ x' → filter test d ≡ d' → filter test (five b p s x d) ≡ five b' p' s' x' d'
filter_five test b p s x d b' p' s' x' d' eb ep es ex ed =
    filter-append test b ((p ++ s) ++ (x ++ d))
    ∙ ap (λ (l : List Table). filter test b ++ l) (filter-append test (p ++ s) (x ++ d)
    ∙ ap (λ (l : List Table). l ++ filter test (x ++ d)) (filter-append test p s)
    ∙ ap (λ (l : List Table). (filter test p ++ filter test s) ++ l) (filter-append test x d))
    ∙ (λ i. eb i ++ ((ep i ++ es i) ++ (ex i ++ ed i)))

pub left : (all b p i s x d : List Table) (test : Table → Bool) → all ≡ b ++ ((p ++ (i ++ s)) ++ (x ++ d)) → Pairs Apart all
    → without (i ++ filter test x) all ≡ five b p s (filter (λ (t : Table). not (test t)) x) d
left all b p i s x d test parts pairs =
    let inputs = i ++ filter test x in
    let x0 = p ++ (i ++ s) in
    let pairs_all = subst (Pairs Apart) parts pairs in
    let from_0 = pairs_back Apart b (x0 ++ (x ++ d)) pairs_all in
    let from_1 = pairs_back Apart x0 (x ++ d) from_0 in
    let own_0 = pairs_front Apart x0 (x ++ d) from_0 in
    let own_1 = pairs_front Apart x d from_1 in
    let b_rest = cross_parts b x0 (x ++ d) (cross_of b (x0 ++ (x ++ d)) pairs_all) in
    let b_i = (cross_parts b i s (cross_parts b p (i ++ s) b_rest.0).1).0 in
    let b_x = (cross_parts b x d b_rest.1).0 in
    let zero_rest = cross_parts x0 x d (cross_of x0 (x ++ d) from_0) in
    let x_zero = cross_parts x p (i ++ s) (cross_flip x0 x zero_rest.0) in
    let x_i = (cross_parts x i s x_zero.1).0 in
    let x_s = (cross_parts x i s x_zero.1).1 in
    let d_i = (cross_parts d i s (cross_parts d p (i ++ s) (cross_flip x0 d zero_rest.1)).1).0 in
    let d_x = cross_flip x d (cross_of x d from_1) in
    let p_i = (cross_parts p i s (cross_of p (i ++ s) own_0)).0 in
    let s_i = cross_flip i s (cross_of i s (pairs_back Apart p (i ++ s) own_0)) in
    let keep = λ (l : List Table) (with_i : Cross l i) (with_x : Cross l x). stays inputs l (cross_join l i (filter test x) with_i (cross_filter test l x with_x)) in
    let out = λ (t : Table). not (list_any (λ (u : Table). u.first_page == t.first_page) inputs) in
    ap (without inputs) parts
    ∙ filter-append out b (x0 ++ (x ++ d))
    ∙ ap (λ (l : List Table). filter out b ++ l) (filter-append out x0 (x ++ d)
    ∙ ap (λ (l : List Table). l ++ filter out (x ++ d)) (filter-append out p (i ++ s) ∙ ap (λ (l : List Table). filter out p ++ l) (filter-append out i s ∙ ap (λ (l : List Table). l ++ filter out s) (goes i (filter test x))))
    ∙ ap (λ (l : List Table). (filter out p ++ filter out s) ++ l) (filter-append out x d))
    ∙ (λ n. keep b b_i b_x n ++ ((keep p p_i (cross_flip x p x_zero.0) n ++ keep s s_i (cross_flip x s x_s) n) ++ (parts_stay test i x own_1 x_i n ++ keep d d_i d_x n)))

says_five : (b p s x d : List Table) (key : Bytes) → says (five b p s x d) key ≡ option_or (says b key) (option_or (option_or (says p key) (says s key)) (option_or (says x key) (says d key)))
says_five b p s x d key = says-append b ((p ++ s) ++ (x ++ d)) key
    ∙ ap (option_or (says b key)) (says-append (p ++ s) (x ++ d) key
    ∙ ap (λ (o : Says). option_or o (says (x ++ d) key)) (says-append p s key)
    ∙ ap (option_or (option_or (says p key) (says s key))) (says-append x d key))

-- ---- the outputs

pub made_lists : (filter_bytes : FilterBytes) (s : State) (level : ℕ) (outputs : List Source) (made : List Table) → AreMade filter_bytes s.settings level outputs made → drop (length made) outputs ≡ [] → (sources_of made ≡ outputs) × AllAt level made
made_lists filter_bytes s level [] [] made rest = (refl, tt)
made_lists filter_bytes s level (output ∷ outputs) [] made rest = (sym rest, tt)
made_lists filter_bytes s level [] (t ∷ more) made rest = absurd made
made_lists filter_bytes s level (output ∷ outputs) (t ∷ more) made rest =
    let tail = made_lists filter_bytes s level outputs more made.1 rest in
    let head : as_source t ≡ output = ap as_source made.0 in
    ((λ i. head i ∷ tail.0 i), (ap (λ (u : Table). u.level) made.0, tail.1))

deeper_none : (level : ℕ) (tables : List Table) → list_any (λ (t : Table). nat_lt level t.level) tables ≡ false → deeper level tables ≡ []
deeper_none level [] e = refl
deeper_none level (t ∷ more) e = elim (nat_lt level t.level) as (λ b. nat_lt level t.level ≡ b → (b || list_any (λ (u : Table). nat_lt level u.level) more) ≡ false → deeper level (t ∷ more) ≡ []) [
  | true ↦ λ _ bad. absurd cc
  | false ↦ λ off rest. let yes : nat_le t.level level ≡ true = grind arith in
      ap (λ (b : Bool). cond (not b) (t ∷ deeper level more) (deeper level more)) yes ∙ deeper_none level more rest
] refl e

-- ---- pages

extents_apart : (t u : Table) → 0 < t.pages → 0 < u.pages → AreApart (extent_of t) (extent_of u) → Apart t u
extents_apart t u some_t some_u (inl before) e = absurd (omega arith)
extents_apart t u some_t some_u (inr behind) e = absurd (omega arith)

all_apart : (pages : ℕ) (t : Table) (tables rest : List Table) → 0 < t.pages → AllByRecursion (AreApart (extent_of t)) (map extent_of (tables ++ rest)) → AllByRecursion (IsOnDevice pages) (map extent_of (tables ++ rest)) → AllByRecursion (Apart t) tables
all_apart pages t [] rest some apart on = tt
all_apart pages t (u ∷ more) rest some apart on = (extents_apart t u some on.0.some apart.0, all_apart pages t more rest some apart.1 on.1)

pages_apart : (pages : ℕ) (tables rest : List Table) → Pairs AreApart (map extent_of (tables ++ rest)) → AllByRecursion (IsOnDevice pages) (map extent_of (tables ++ rest)) → Pairs Apart tables
pages_apart pages [] rest pairs on = tt
pages_apart pages (t ∷ more) rest pairs on = (all_apart pages t more rest on.0.some pairs.0 on.1, pages_apart pages more rest pairs.1 on.1)

pub state_apart : (filter_bytes : FilterBytes) (s : State) → IsSound filter_bytes s → Pairs Apart s.tables
state_apart filter_bytes s sound = let e = append_assoc s.tables (written_by s.job) s.kept in
    pages_apart s.pages s.tables (written_by s.job ++ s.kept)
    (subst (λ (l : List Table). Pairs AreApart (map extent_of l)) e (pairs_of AreApart (taken s) sound.apart))
    (subst (λ (l : List Table). AllByRecursion (IsOnDevice s.pages) (map extent_of l)) e sound.on_device)

-- ---- levels and their tests

pub lt_of : (l a : ℕ) → nat_lt l a ≡ true → l < a
lt_of l a e = grind arith

pub over_of : (l b : ℕ) → not (nat_le l b) ≡ true → b < l
over_of l b e = grind arith

low_le : (a l : ℕ) → l < a → nat_le l (a + 1) ≡ true
low_le a l f = grind arith

at_le : (a l : ℕ) → l ≡ a → nat_le l (a + 1) ≡ true
at_le a l f = grind arith

next_le : (a l : ℕ) → l ≡ a + 1 → nat_le l (a + 1) ≡ true
next_le a l f = grind arith

high_le : (a l : ℕ) → a + 1 < l → nat_le l (a + 1) ≡ false
high_le a l f = grind arith

low_on : (a l : ℕ) → l < a → (l == (a + 1)) ≡ false
low_on a l f = grind arith

at_on : (a l : ℕ) → l ≡ a → (l == (a + 1)) ≡ false
at_on a l f = grind arith

next_on : (a l : ℕ) → l ≡ a + 1 → (l == (a + 1)) ≡ true
next_on a l f = grind arith

high_on : (a l : ℕ) → a + 1 < l → (l == (a + 1)) ≡ false
high_on a l f = grind arith

next_some : (a : ℕ) → 1 ≤ a + 1
next_some a = omega arith

-- ---- the install

same_rest : (filter_bytes : FilterBytes) (s : State) (plan : Plan) (key : Bytes) (u : Says) → AllByRecursion IsSoundTable plan.inputs
    → live (option_or u (option_or (first_said (planned s.tables plan) key) (says (deeper plan.output s.tables) key))) ≡ live (option_or u (option_or (says plan.inputs key) (says (deeper plan.output s.tables) key)))
same_rest filter_bytes s plan key u sound =
    let w = first_said (planned s.tables plan) key in
    let d = says (deeper plan.output s.tables) key in
    elim (list_any (λ (t : Table). nat_lt plan.output t.level) s.tables) as (λ b. list_any (λ (t : Table). nat_lt plan.output t.level) s.tables ≡ b → live (option_or u (option_or w d)) ≡ live (option_or u (option_or (says plan.inputs key) d))) [
      | true ↦ λ e. ap (λ (o : Says). live (option_or u (option_or o d))) (tombstones_last s.tables plan key sound (ap not e))
      | false ↦ λ e.
          let none : d ≡ None = ap (λ (l : List Table). says l key) (deeper_none plan.output s.tables e) in
          live_behind u (option_or w d) (option_or (says plan.inputs key) d)
          (ap (λ (o : Says). live (option_or w o)) none ∙ ap live (or_none w) ∙ merge_says s.tables plan key sound ∙ sym (ap (λ (o : Says). live (option_or (says plan.inputs key) o)) none ∙ ap live (or_none (says plan.inputs key))))
    ] refl

install_says : (filter_bytes : FilterBytes) (s : State) (job : Job) (key : Bytes) → IsSound filter_bytes s → IsJob filter_bytes s.settings s.tables job → outstanding s.tables job ≡ []
    → live (says (fold inserted (without job.inputs s.tables) job.written) key) ≡ live (says s.tables key)
install_says filter_bytes s job key sound is done =
    let plan = plan_of_job job in
    let all = s.tables in
    let order = pairs_of StandsBefore all sound.order in
    let rise : Rise all = weaker IsSoundTable (λ (t : Table). IsSource (as_source t)) (λ t st. st.source) all sound.tables in
    let c = chosen s.tables is.flushes plan key is.few is.chosen rise order in
    let a = c.level in
    let i = c.tables in
    let p = c.shape.front in
    let k = c.shape.back in
    let m = reaches_into i in
    let b = above a all in
    let x0 = on_level a all in
    let x = on_level (a + 1) all in
    let d = deeper (a + 1) all in
    let j = filter m x in
    let n = filter (λ (t : Table). not (m t)) x in
    let rest = five b p k n d in
    let parts = parted a 0 all (levels_of all order) ∙ ap (λ (l : List Table). b ++ (l ++ (x ++ d))) c.shape.parts in
    let remain = ap (λ (l : List Table). without l all) c.inputs ∙ left all b p i k x d m parts (state_apart filter_bytes s sound) in
    let out = λ (t : Table). not (list_any (λ (u : Table). u.first_page == t.first_page) job.inputs) in
    let levels = subst (Levels 0) remain (levels_of (without job.inputs all) (pairs_kept StandsBefore out all order)) in
    let b_low = weaker (λ (t : Table). nat_lt t.level a ≡ true) (λ (t : Table). t.level < a) (λ t e. lt_of t.level a e) b (all_pass (λ (t : Table). nat_lt t.level a) all) in
    let at_0 = all_parts (λ (t : Table). t.level ≡ a) p (i ++ k) (subst (AllAt a) c.shape.parts (on_level_at a all)) in
    let p_at = at_0.0 in
    let k_at = (all_parts (λ (t : Table). t.level ≡ a) i k at_0.1).1 in
    let n_at = all_kept (λ (t : Table). t.level ≡ a + 1) (λ (t : Table). not (m t)) x (on_level_at (a + 1) all) in
    let d_high = weaker (λ (t : Table). not (nat_le t.level (a + 1)) ≡ true) (λ (t : Table). a + 1 < t.level) (λ t e. over_of t.level (a + 1) e) d (all_pass (λ (t : Table). not (nat_le t.level (a + 1))) all) in
    let up = filter_five (λ (t : Table). nat_le t.level (a + 1)) b p k n d b p k n []
    (keep_all (λ (t : Table). nat_le t.level (a + 1)) b (weaker (λ (t : Table). t.level < a) (λ (t : Table). nat_le t.level (a + 1) ≡ true) (λ t e. low_le a t.level e) b b_low))
    (keep_all (λ (t : Table). nat_le t.level (a + 1)) p (weaker (λ (t : Table). t.level ≡ a) (λ (t : Table). nat_le t.level (a + 1) ≡ true) (λ t e. at_le a t.level e) p p_at))
    (keep_all (λ (t : Table). nat_le t.level (a + 1)) k (weaker (λ (t : Table). t.level ≡ a) (λ (t : Table). nat_le t.level (a + 1) ≡ true) (λ t e. at_le a t.level e) k k_at))
    (keep_all (λ (t : Table). nat_le t.level (a + 1)) n (weaker (λ (t : Table). t.level ≡ a + 1) (λ (t : Table). nat_le t.level (a + 1) ≡ true) (λ t e. next_le a t.level e) n n_at))
    (keep_none (λ (t : Table). nat_le t.level (a + 1)) d (weaker (λ (t : Table). a + 1 < t.level) (λ (t : Table). nat_le t.level (a + 1) ≡ false) (λ t e. high_le a t.level e) d d_high)) in
    let down = filter_five (λ (t : Table). not (nat_le t.level (a + 1))) b p k n d [] [] [] [] d
    (keep_none (λ (t : Table). not (nat_le t.level (a + 1))) b (weaker (λ (t : Table). t.level < a) (λ (t : Table). not (nat_le t.level (a + 1)) ≡ false) (λ t e. ap not (low_le a t.level e)) b b_low))
    (keep_none (λ (t : Table). not (nat_le t.level (a + 1))) p (weaker (λ (t : Table). t.level ≡ a) (λ (t : Table). not (nat_le t.level (a + 1)) ≡ false) (λ t e. ap not (at_le a t.level e)) p p_at))
    (keep_none (λ (t : Table). not (nat_le t.level (a + 1))) k (weaker (λ (t : Table). t.level ≡ a) (λ (t : Table). not (nat_le t.level (a + 1)) ≡ false) (λ t e. ap not (at_le a t.level e)) k k_at))
    (keep_none (λ (t : Table). not (nat_le t.level (a + 1))) n (weaker (λ (t : Table). t.level ≡ a + 1) (λ (t : Table). not (nat_le t.level (a + 1)) ≡ false) (λ t e. ap not (next_le a t.level e)) n n_at))
    (keep_all (λ (t : Table). not (nat_le t.level (a + 1))) d (all_pass (λ (t : Table). not (nat_le t.level (a + 1))) all)) in
    let on = filter_five (λ (t : Table). t.level == (a + 1)) b p k n d [] [] [] n []
    (keep_none (λ (t : Table). t.level == (a + 1)) b (weaker (λ (t : Table). t.level < a) (λ (t : Table). (t.level == (a + 1)) ≡ false) (λ t e. low_on a t.level e) b b_low))
    (keep_none (λ (t : Table). t.level == (a + 1)) p (weaker (λ (t : Table). t.level ≡ a) (λ (t : Table). (t.level == (a + 1)) ≡ false) (λ t e. at_on a t.level e) p p_at))
    (keep_none (λ (t : Table). t.level == (a + 1)) k (weaker (λ (t : Table). t.level ≡ a) (λ (t : Table). (t.level == (a + 1)) ≡ false) (λ t e. at_on a t.level e) k k_at))
    (keep_all (λ (t : Table). t.level == (a + 1)) n (weaker (λ (t : Table). t.level ≡ a + 1) (λ (t : Table). (t.level == (a + 1)) ≡ true) (λ t e. next_on a t.level e) n n_at))
    (keep_none (λ (t : Table). t.level == (a + 1)) d (weaker (λ (t : Table). a + 1 < t.level) (λ (t : Table). (t.level == (a + 1)) ≡ false) (λ t e. high_on a t.level e) d d_high)) in
    let rise_0 = all_parts (λ (t : Table). IsSource (as_source t)) p (i ++ k) (subst Rise c.shape.parts (all_kept (λ (t : Table). IsSource (as_source t)) (λ (t : Table). t.level == a) all rise)) in
    let rise_i = (all_parts (λ (t : Table). IsSource (as_source t)) i k rise_0.1).0 in
    let rise_x = all_kept (λ (t : Table). IsSource (as_source t)) (λ (t : Table). t.level == (a + 1)) all rise in
    let sound_0 = all_parts IsSoundTable p (i ++ k) (subst (AllByRecursion IsSoundTable) c.shape.parts (all_kept IsSoundTable (λ (t : Table). t.level == a) all sound.tables)) in
    let sound_i = (all_parts IsSoundTable i k sound_0.1).0 in
    let sound_j = all_kept IsSoundTable m x (all_kept IsSoundTable (λ (t : Table). t.level == (a + 1)) all sound.tables) in
    let sound_in : AllByRecursion IsSoundTable job.inputs = subst (AllByRecursion IsSoundTable) (sym c.inputs) (all_join IsSoundTable i j sound_i sound_j) in
    let x_parts = part_says m x key (one_on (a + 1) all key (next_some a) rise order) in
    let i_n = hull_apart i x key rise_i rise_x in
    let ins : says job.inputs key ≡ option_or (says i key) (says j key) = ap (λ (l : List Table). says l key) c.inputs ∙ says-append i j key in
    let made = made_lists filter_bytes s job.output (planned s.tables plan) job.written is.written done in
    let w : says job.written key ≡ first_said (planned s.tables plan) key = ap (λ (l : List Source). first_said l key) made.0 in
    let lasts = is_deepest s.tables job.output in
    let made_rise = rise_of_sources job.written (subst (AllByRecursion IsSource) (sym made.0) (merge_sound s.tables plan)) in
    let at = subst (λ (l : ℕ). AllAt l job.written) c.output made.1 in
    let one = one_of_level (a + 1) job.written key (next_some a) at made_rise (rising_order (a + 1) job.written at (subst LieApart (sym made.0) (merge_apart s.tables plan))) in
    let n_on : says (on_level (a + 1) rest) key ≡ says n key = ap (λ (l : List Table). says l key) (on ∙ append-nil n) in
    let either : EitherNone (says job.written key) (says (on_level (a + 1) rest) key) = elim (either_joined (says i key) (says j key) (says n key) i_n x_parts.1) [
      | inl none ↦ inl (w ∙ planned_say s.tables plan key ∙ lasting_none lasts (merged_of job.inputs) key (inputs_say job.inputs key sound_in ∙ ins ∙ none))
      | inr none ↦ inr (n_on ∙ none)
    ] in
    let u = option_or (says b key) (option_or (option_or (says p key) (says k key)) (says n key)) in
    let up_says : says (upto (a + 1) rest) key ≡ u = ap (λ (l : List Table). says l key) up ∙ says_five b p k n [] key
    ∙ ap (λ (o : Says). option_or (says b key) (option_or (option_or (says p key) (says k key)) o)) (or_none (says n key)) in
    let down_says : says (deeper (a + 1) rest) key ≡ says d key = ap (λ (l : List Table). says l key) down in
    let new_says : says (fold inserted (without job.inputs all) job.written) key ≡ option_or u (option_or (first_said (planned s.tables plan) key) (says d key)) =
    ap (λ (l : List Table). says (fold inserted l job.written) key) remain
    ∙ fold_says (a + 1) job.written rest key levels at one either
    ∙ (λ z. option_or (up_says z) (option_or (w z) (down_says z))) in
    let old_says : says all key ≡ option_or u (option_or (says job.inputs key) (says d key)) =
    ap (λ (l : List Table). says l key) parts
    ∙ says-append b ((p ++ (i ++ k)) ++ (x ++ d)) key
    ∙ ap (option_or (says b key)) (says-append (p ++ (i ++ k)) (x ++ d) key
    ∙ ap (λ (o : Says). option_or o (says (x ++ d) key)) (says-append p (i ++ k) key ∙ ap (option_or (says p key)) (says-append i k key))
    ∙ ap (option_or (option_or (says p key) (option_or (says i key) (says k key)))) (says-append x d key ∙ ap (λ (o : Says). option_or o (says d key)) x_parts.0))
    ∙ reordered (says b key) (says p key) (says i key) (says k key) (says j key) (says n key) (says d key) c.shape.apart i_n x_parts.1
    ∙ sym (ap (λ (o : Says). option_or u (option_or o (says d key))) ins) in
    let deep : says (deeper job.output all) key ≡ says d key = ap (λ (l : ℕ). says (deeper l all) key) c.output in
    ap live new_says
    ∙ ap (λ (o : Says). live (option_or u (option_or (first_said (planned s.tables plan) key) o))) (sym deep)
    ∙ same_rest filter_bytes s plan key u sound_in
    ∙ ap (λ (o : Says). live (option_or u (option_or (says job.inputs key) o))) deep
    ∙ sym (ap live old_says)

-- ---- the map

pub insert_all : (P : Table → Type 0) (w : Table) (tables : List Table) → P w → AllByRecursion P tables → AllByRecursion P (inserted tables w)
insert_all P w [] own all = (own, tt)
insert_all P w (t ∷ more) own all = elim (goes_before w t) as (λ b. AllByRecursion P (cond b (w ∷ t ∷ more) (t ∷ inserted more w))) [ true ↦ (own, all) | false ↦ (all.0, insert_all P w more own all.1) ]

pub fold_all : (P : Table → Type 0) (new tables : List Table) → AllByRecursion P new → AllByRecursion P tables → AllByRecursion P (fold inserted tables new)
fold_all P [] tables own all = all
fold_all P (w ∷ new) tables own all = fold_all P new (inserted tables w) own.1 (insert_all P w tables own.0 all)

pub install_keeps : (filter_bytes : FilterBytes) (s : State) (job : Job) → IsSound filter_bytes s → IsJob filter_bytes s.settings s.tables job → outstanding s.tables job ≡ [] → state_map (installed s job) ≡ state_map s
install_keeps filter_bytes s job sound is done =
    let all = s.tables in
    let new = fold inserted (without job.inputs all) job.written in
    let rise : Rise all = weaker IsSoundTable (λ (t : Table). IsSource (as_source t)) (λ t st. st.source) all sound.tables in
    let made = made_lists filter_bytes s job.output (planned s.tables (plan_of_job job)) job.written is.written done in
    let made_rise = rise_of_sources job.written (subst (AllByRecursion IsSource) (sym made.0) (merge_sound s.tables (plan_of_job job))) in
    let out = λ (t : Table). not (list_any (λ (u : Table). u.first_page == t.first_page) job.inputs) in
    let new_rise = fold_all (λ (t : Table). IsSource (as_source t)) job.written (without job.inputs all) made_rise (all_kept (λ (t : Table). IsSource (as_source t)) out all rise) in
    same_map (oldest_first new ++ s.log) (oldest_first all ++ s.log) (λ key.
    ap live (said_both (oldest_first new) s.log key)
    ∙ live_behind (last_said s.log key) (last_said (oldest_first new) key) (last_said (oldest_first all) key)
    (ap live (said_of_tables new key (sources_rise new new_rise)) ∙ install_says filter_bytes s job key sound is done ∙ sym (ap live (said_of_tables all key (sources_rise all rise))))
    ∙ sym (ap live (said_both (oldest_first all) s.log key)))
