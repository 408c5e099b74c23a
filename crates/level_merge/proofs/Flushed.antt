-- A merge that follows a job does so once a table of level 0 is before all others.
use Rattle.std.proofs.Common.{◌≡◌, ℕ, suc, ◌+◌, ◌-◌, ◌<◌, List, [], ◌∷◌, length, map, drop, refl, sym, ap, ap₂, ◌∙◌, subst, false, arith}
use Rattle.std.specs.Prelude.{◌||◌, not, nat_lt, slice_get, Option}
use Rattle.std.specs.List.{AllByRecursion, list_any}
use Rattle.std.proofs.lemmas.List.Sums.{sum_by-cons}
use Rattle.disk_trait.specs.Image.{Image}
use Rattle.entry_model.specs.Entries.{Entry}
use Rattle.level_merge.specs.FollowLaws.{FlushedIsFollowed}
use Rattle.level_merge.specs.JobValue.{outputs_with}
use Rattle.merge_rows.specs.Merges.{Merge, TableWalk, blocks_in, left_above, merged_left, numbered, row_count, rows_left, sources_above}
use Rattle.merge_rows.specs.Reads.{blocks_left, blocks_left_in}
use Rattle.merge_rows.specs.Rows.{KeyFloor, merged_rows, rows_shown}
use Rattle.merge_rows.specs.Steps.{AreSoundWalks, IsSoundWalk, numbers}
use Rattle.state_model.specs.Merges.{cut_for, is_deepest, lasting, lasting_of, merged_of}
use Rattle.state_model.specs.State.{Job}
use Rattle.state_model.specs.Tends.{outstanding}
use Rattle.table_file.specs.Opened.{Opened}
use Rattle.table_model.specs.Tables.{Table}

numbered_later : {A : Type 0} (x : A) (xs : List A) (n : ℕ) → n < length xs → numbered (x ∷ xs) n ≡ numbered xs n
numbered_later x xs n less =
    let here : length (x ∷ xs) - 1 - n ≡ suc (length xs - 1 - n) = omega arith in
    subst (λ k. slice_get (x ∷ xs) k ≡ slice_get xs (length xs - 1 - n)) (sym here) refl

pub all_later : {A : Type 0} (x : A) (xs : List A) (which : List ℕ) → AllByRecursion (λ number. number < length xs) which → map (numbered (x ∷ xs)) which ≡ map (numbered xs) which
all_later x xs [] there = refl
all_later x xs (n ∷ more) there = ap₂ (λ (o : Option _) l. o ∷ l) (numbered_later x xs n there.0) (all_later x xs more there.1)

-- ---- the merge

abbrev AreThere : List Opened → List TableWalk → Type 0
AreThere opened walks = AllByRecursion (λ number. number < length opened) (numbers walks)

left_later : (new : Opened) (opened : List Opened) (image : Image) (floor : KeyFloor) (walks : List TableWalk) → AreThere opened walks
    → map (left_above floor (new ∷ opened) image) walks ≡ map (left_above floor opened image) walks
left_later new opened image floor [] there = refl
left_later new opened image floor (w ∷ more) there =
    ap₂ (λ (xs : List Entry) (l : List (List Entry)). xs ∷ l)
    (ap (λ (t : Option Opened). Rattle.merge_rows.specs.Rows.above_floor floor (Rattle.merge_rows.specs.Merges.with_hand w.walk.now (Rattle.table_file.specs.Walks.to_come w.walk (blocks_in t image))))
    (numbered_later new opened w.number there.0))
    (left_later new opened image floor more there.1)

pub rows_later : (new : Opened) (opened : List Opened) (image : Image) (m : Merge) → AreThere opened m.walks → rows_left m (new ∷ opened) image ≡ rows_left m opened image
rows_later new opened image m there = ap (λ l. rows_shown m.drops (merged_rows (Rattle.merge_rows.specs.Rows.above_floor m.floor m.memory ∷ l))) (left_later new opened image m.floor m.walks there)

blocks_later : (new : Opened) (opened : List Opened) (walks : List TableWalk) → AreThere opened walks → blocks_left (new ∷ opened) walks ≡ blocks_left opened walks
blocks_later new opened [] there = refl
blocks_later new opened (w ∷ more) there =
    sum_by-cons (blocks_left_in (new ∷ opened)) w more
    ∙ ap (λ (t : Option Opened). (row_count t - w.walk.block) + blocks_left (new ∷ opened) more) (numbered_later new opened w.number there.0)
    ∙ ap (λ n. blocks_left_in opened w + n) (blocks_later new opened more there.1)
    ∙ sym (sum_by-cons (blocks_left_in opened) w more)

walks_later : (new : Opened) (opened : List Opened) (image : Image) (floor : KeyFloor) (walks : List TableWalk) → AreThere opened walks → AreSoundWalks floor opened image walks
    → AreSoundWalks floor (new ∷ opened) image walks
walks_later new opened image floor [] there sound = tt
walks_later new opened image floor (w ∷ more) there sound =
    (subst (λ (t : Option Opened). IsSoundWalk floor w.walk (blocks_in t image)) (sym (numbered_later new opened w.number there.0)) sound.0, walks_later new opened image floor more there.1 sound.1)

-- ---- the job

deepest_later : (t : Table) (tables : List Table) (output : ℕ) → t.level ≡ 0 → is_deepest (t ∷ tables) output ≡ is_deepest tables output
deepest_later t tables output level =
    let not_deeper : nat_lt output t.level ≡ false = grind (arith, level) in
    ap (λ b. not (b || list_any (λ (u : Table). nat_lt output u.level) tables)) not_deeper

pub outstanding_later : (t : Table) (tables : List Table) (job : Job) → t.level ≡ 0 → outstanding (t ∷ tables) job ≡ outstanding tables job
outstanding_later t tables job level =
    ap (λ b. drop (length job.written) (cut_for job.inputs (lasting_of b (merged_of job.inputs)))) (deepest_later t tables job.output level)

pub flush_follows : FlushedIsFollowed
flush_follows spelling s after opened new t image m job level there many settings tables follows =
    let makes = follows.makes in
    record {
      settings = follows.settings ∙ sym settings;
      inputs = ap (λ (ts : List Table). map (numbered ts) (numbers m.merge.walks)) tables
          ∙ all_later t s.tables (numbers m.merge.walks) (subst (λ (n : ℕ). AllByRecursion (λ number. number < n) (numbers m.merge.walks)) many there) ∙ follows.inputs;
      output = follows.output;
      to_read = blocks_later new opened m.merge.walks there ∙ follows.to_read;
      left = follows.left;
      left_are = ap (λ (ts : List Table). outstanding ts job) tables ∙ outstanding_later t s.tables job level ∙ follows.left_are;
      makes = record {
        sound = record { memory = makes.sound.memory; walks = walks_later new opened image m.merge.floor m.merge.walks there makes.sound.walks };
        left_are = ap (λ (l : List Entry). outputs_with m.beside m.built (lasting m.drops l)) (rows_later new opened image m.merge there) ∙ makes.left_are;
        rows = makes.rows;
        made_are = makes.made_are;
      };
    }
