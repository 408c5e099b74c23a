-- A job that is installed leaves a sound state, and so does whatever else a slice is answered.
use Rattle.std.proofs.Common.{◌≡◌, ◌≢◌, ◌⊎◌, inl, inr, ℕ, ◌≤◌, ◌<◌, ◌+◌, List, [], ◌∷◌, ◌++◌, length, refl, sym, ap, ◌∙◌, subst, Bool, true, false, cond, arith}
use Rattle.std.specs.Prelude.{Some, nat_le, nat_lt, not, ◌==◌, filter, fold, take, drop}
use Rattle.std.specs.List.{AllByRecursion, list_any}
use Rattle.std.proofs.lemmas.List.{append_assoc, append-nil, length-append, length-map}
use Rattle.block_model.proofs.Bounds.{weaker}
use Rattle.key_base.specs.Limits.{last_epoch}
use Rattle.map_model.specs.SortedMap.{Bytes}
use Rattle.range_model.specs.Sources.{IsSource, Source, first_said}
use Rattle.range_model.specs.Laws.{LieApart}
use Rattle.state_model.specs.State.{State, Job}
use Rattle.table_model.specs.Tables.{FilterBytes, Table, as_source}
use Rattle.state_model.specs.View.{state_map}
use Rattle.state_model.specs.Taken.{taken}
use Rattle.state_model.specs.Merges.{Plan, plan_of, on_level, reaches_into, is_over, first_over, choose, cut_for, is_deepest, lasting_of, merged_of, planned}
use Rattle.state_model.specs.Tends.{with_job, outstanding, installed, inserted, without, Tended, Tend, idle, works, installs, last_epoch_reached, no_room, no_memory, read_failed, damage_met, write_failed}
use Rattle.extent_model.specs.Extents.{AreApart}
use Rattle.state_model.specs.Sound.{IsSound, IsSoundTable, StandsBefore, IsJob, plan_of_job}
use Rattle.state_model.specs.SoundLaws.{Ever}
use Rattle.state_model.proofs.Outputs.{cut_few}
use Rattle.state_model.proofs.Merged.{inputs_say, lasting_none, merge_apart, planned_say}
use Rattle.state_model.proofs.Levels.{AllAt, deeper, says}
use Rattle.extent_model.proofs.Lists.{Pairs, pairs_of, both, all_kept, all_pass, all_pairs}
use Rattle.state_model.proofs.Parts.{pairs_kept, above, parted, levels_of}
use Rattle.state_model.proofs.Disjoint.{IsSome, Rise, rising_order, some_or_none}
use Rattle.state_model.proofs.Taken.{all_parts, all_join}
use Rattle.state_model.proofs.Installs.{chosen, five, left, on_level_at, state_apart, made_lists, lt_of, over_of, fold_all, install_keeps}
use Rattle.state_model.proofs.Places.{Stand, OnDevice, Clear, clear_mutual, laid_tables}
use Rattle.state_model.proofs.Inserted.{Fit, Either, Separate, SeparateOnLevel, fold_order, fold_length, all_fold, pairs_fold, all_sift, pairs_sift, pairs_parted, parted_length}
use Rattle.state_model.proofs.Hulls.{Joins, Beside, SaysNoMore, each_says, fit_of, separate, source_in, stands_beside}
use Rattle.state_model.proofs.SoundChanges.{next_epoch}
use Rattle.state_model.proofs.SoundJobs.{sound_stand, drop_sound, works_sound}
use Rattle.state_model.proofs.SoundOutputs.{made_sound, planned_outputs}

-- ---- the level of the outputs

first_over_deep : (tables : List Table) (levels : List ℕ) (plan : Plan) → AllByRecursion (λ level. level ≤ 5) levels → first_over tables levels ≡ Some plan → plan.output ≤ 6
first_over_deep tables [] plan few e = absurd cc
first_over_deep tables (level ∷ more) plan few e = elim (is_over tables level) as (λ b. cond b (Some (plan_of tables (take 1 (on_level level tables)) (level + 1))) (first_over tables more) ≡ Some plan → plan.output ≤ 6) [
  | true ↦ λ e. let same : plan_of tables (take 1 (on_level level tables)) (level + 1) ≡ plan = cc in let deep : level + 1 ≤ 6 = omega (arith, few.0) in subst (λ (p : Plan). p.output ≤ 6) same deep
  | false ↦ λ e. first_over_deep tables more plan few.1 e
] e

pub chosen_deep : (tables : List Table) (plan : Plan) → choose tables ≡ Some plan → plan.output ≤ 6
chosen_deep tables plan e = elim (nat_le 4 (length (on_level 0 tables))) as (λ b. cond b (Some (plan_of tables (on_level 0 tables) 1)) (first_over tables (1 ∷ 2 ∷ 3 ∷ 4 ∷ 5 ∷ [])) ≡ Some plan → plan.output ≤ 6) [
  | true ↦ λ e. let same : plan_of tables (on_level 0 tables) 1 ≡ plan = cc in let deep : 1 ≤ 6 = omega arith in subst (λ (p : Plan). p.output ≤ 6) same deep
  | false ↦ λ e. first_over_deep tables (1 ∷ 2 ∷ 3 ∷ 4 ∷ 5 ∷ []) plan (omega arith, (omega arith, (omega arith, (omega arith, (omega arith, tt))))) e
] e

-- ---- how many outputs

-- no more than the inputs, also where there is none
planned_few : (tables : List Table) (plan : Plan) → length (planned tables plan) ≤ length plan.inputs
planned_few tables plan = by_inputs plan.inputs plan.output
  where
    by_inputs : (inputs : List Table) (output : ℕ) → length (planned tables (record { inputs = inputs; output = output })) ≤ length inputs
    by_inputs [] output = elim (is_deepest tables output) as (λ b. length (cut_for [] (lasting_of b (merged_of []))) ≤ 0) [ true ↦ omega arith | false ↦ omega arith ]
    by_inputs (t ∷ more) output = let few = cut_few (t ∷ more) (lasting_of (is_deepest tables output) (merged_of (t ∷ more))) in omega arith

-- ---- the tables that stay, and the new ones

other_level : (w t level : ℕ) → w ≡ level → t < level → w ≡ t → ⊥
other_level w t level at less same = omega arith

higher_level : (w t level : ℕ) → w ≡ level → level < t → w ≡ t → ⊥
higher_level w t level at more same = omega arith

-- new tables of a level beside tables of other levels
off_level : (made : List Table) (level : ℕ) (t : Table) → AllAt level made → (t.level < level) ⊎ (level < t.level) → AllByRecursion (λ (w : Table). SeparateOnLevel w t) made
off_level [] level t at off = tt
off_level (w ∷ more) level t at (inl less) = (λ same. absurd (other_level w.level t.level level at.0 less same), off_level more level t at.1 (inl less))
off_level (w ∷ more) level t at (inr less) = (λ same. absurd (higher_level w.level t.level level at.0 less same), off_level more level t at.1 (inr less))

own_level : (level : ℕ) (w : Table) (more : List Table) → 1 ≤ level → w.level ≡ level → AllByRecursion (StandsBefore w) more → AllByRecursion (λ (v : Table). SeparateOnLevel v w) more
own_level level w [] some at all = tt
own_level level w (v ∷ more) some at all = (
  elim all.0 [
    | inl less ↦ λ same. absurd (omega arith)
    | inr stands ↦ λ same. elim stands.1 [ inl zero_level ↦ absurd (omega arith) | inr before ↦ inr before ]
  ],
  own_level level w more some at all.1,
)

own_separate : (level : ℕ) (made : List Table) → 1 ≤ level → AllAt level made → Pairs StandsBefore made → Pairs (λ (w v : Table). SeparateOnLevel v w) made
own_separate level [] some at order = tt
own_separate level (w ∷ more) some at order = (own_level level w more some at.0 order.0, own_separate level more some at.1 order.1)

-- ---- the inputs and what is made of them

inputs_sound : (filter_bytes : FilterBytes) (s : State) (job : Job) → IsSound filter_bytes s → IsJob filter_bytes s.settings s.tables job → AllByRecursion IsSoundTable job.inputs
inputs_sound filter_bytes s job sound is =
    let order = pairs_of StandsBefore s.tables sound.order in
    let rise : Rise s.tables = weaker IsSoundTable (λ (t : Table). IsSource (as_source t)) source_in s.tables sound.tables in
    let c = chosen s.tables is.flushes (plan_of_job job) [] is.few is.chosen rise order in
    let sound_0 = all_parts IsSoundTable c.shape.front (c.tables ++ c.shape.back) (subst (AllByRecursion IsSoundTable) c.shape.parts (all_kept IsSoundTable (λ (t : Table). t.level == c.level) s.tables sound.tables)) in
    let sound_i = (all_parts IsSoundTable c.tables c.shape.back sound_0.1).0 in
    let m = reaches_into c.tables in
    let x = on_level (c.level + 1) s.tables in
    let sound_j = all_kept IsSoundTable m x (all_kept IsSoundTable (λ (t : Table). t.level == (c.level + 1)) s.tables sound.tables) in
    subst (AllByRecursion IsSoundTable) (sym c.inputs) (all_join IsSoundTable c.tables (filter m x) sound_i sound_j)

-- what the outputs say something of, the inputs do
planned_no_more : (tables : List Table) (plan : Plan) (key : Bytes) → AllByRecursion IsSoundTable plan.inputs → IsSome (first_said (planned tables plan) key) → IsSome (says plan.inputs key)
planned_no_more tables plan key sound said = elim (some_or_none (says plan.inputs key)) [
  | inr some ↦ some
  | inl none ↦ absurd (subst IsSome (planned_say tables plan key ∙ lasting_none (is_deepest tables plan.output) (merged_of plan.inputs) key (inputs_say plan.inputs key sound ∙ none)) said)
]

-- no table that a job has written says more than its inputs
written_no_more : (filter_bytes : FilterBytes) (s : State) (job : Job) → AllByRecursion IsSoundTable job.inputs → IsJob filter_bytes s.settings s.tables job → outstanding s.tables job ≡ [] → AllByRecursion (SaysNoMore job.inputs) job.written
written_no_more filter_bytes s job sound is done =
    let plan = plan_of_job job in
    let made = made_lists filter_bytes s job.output (planned s.tables plan) job.written is.written done in
    weaker (SaysNoMore job.written) (SaysNoMore job.inputs) (λ w so key said. planned_no_more s.tables plan key sound (subst (λ (l : List Source). IsSome (first_said l key)) made.0 (so key said))) job.written (each_says job.written)

-- ---- the install

install_order : (filter_bytes : FilterBytes) (s : State) (job : Job) → IsSound filter_bytes s → IsJob filter_bytes s.settings s.tables job → outstanding s.tables job ≡ [] → AllByRecursion IsSoundTable job.written
    → Pairs StandsBefore (fold inserted (without job.inputs s.tables) job.written) × (length (without job.inputs s.tables) + length job.inputs ≡ length s.tables)
install_order filter_bytes s job sound is done new =
    let plan = plan_of_job job in
    let all = s.tables in
    let order = pairs_of StandsBefore all sound.order in
    let rise : Rise all = weaker IsSoundTable (λ (t : Table). IsSource (as_source t)) source_in all sound.tables in
    let c = chosen s.tables is.flushes plan [] is.few is.chosen rise order in
    let a = c.level in
    let i = c.tables in
    let p = c.shape.front in
    let k = c.shape.back in
    let m = reaches_into i in
    let b = above a all in
    let x0 = on_level a all in
    let x = on_level (a + 1) all in
    let d = deeper (a + 1) all in
    let j = filter m x in
    let n = filter (λ (t : Table). not (m t)) x in
    let rest = five b p k n d in
    let parts = parted a 0 all (levels_of all order) ∙ ap (λ (l : List Table). b ++ (l ++ (x ++ d))) c.shape.parts in
    let remain = ap (λ (l : List Table). without l all) c.inputs ∙ left all b p i k x d m parts (state_apart filter_bytes s sound) in
    let out = λ (t : Table). not (list_any (λ (u : Table). u.first_page == t.first_page) job.inputs) in
    let made = made_lists filter_bytes s job.output (planned s.tables plan) job.written is.written done in
    let at : AllAt (a + 1) job.written = subst (λ (l : ℕ). AllAt l job.written) c.output made.1 in
    let own = rising_order (a + 1) job.written at (subst LieApart (sym made.0) (merge_apart s.tables plan)) in
    let deep : 1 ≤ a + 1 = omega arith in
    let b_low = weaker (λ (t : Table). nat_lt t.level a ≡ true) (λ (t : Table). t.level < a) (λ t e. lt_of t.level a e) b (all_pass (λ (t : Table). nat_lt t.level a) all) in
    let at_0 = all_parts (λ (t : Table). t.level ≡ a) p (i ++ k) (subst (AllAt a) c.shape.parts (on_level_at a all)) in
    let p_at = at_0.0 in
    let k_at = (all_parts (λ (t : Table). t.level ≡ a) i k at_0.1).1 in
    let x_at = on_level_at (a + 1) all in
    let d_high = weaker (λ (t : Table). not (nat_le t.level (a + 1)) ≡ true) (λ (t : Table). a + 1 < t.level) (λ t e. over_of t.level (a + 1) e) d (all_pass (λ (t : Table). not (nat_le t.level (a + 1))) all) in
    let sound_0 = all_parts IsSoundTable p (i ++ k) (subst (AllByRecursion IsSoundTable) c.shape.parts (all_kept IsSoundTable (λ (t : Table). t.level == a) all sound.tables)) in
    let rise_i = weaker IsSoundTable (λ (t : Table). IsSource (as_source t)) source_in i (all_parts IsSoundTable i k sound_0.1).0 in
    let sound_x = all_kept IsSoundTable (λ (t : Table). t.level == (a + 1)) all sound.tables in
    let joins : AllByRecursion (Joins (a + 1) i) j = three (λ (t : Table). m t ≡ true) (λ (t : Table). t.level ≡ a + 1) IsSoundTable j
    (all_pass m x) (all_kept (λ (t : Table). t.level ≡ a + 1) m x x_at) (all_kept IsSoundTable m x sound_x) in
    let sound_in = inputs_sound filter_bytes s job sound is in
    let no_more = written_no_more filter_bytes s job sound_in is done in
    let not_m = λ (t : Table). not (m t) in
    let n_facts = both (λ (t : Table). not_m t ≡ true) (λ (t : Table). (t.level ≡ a + 1) × IsSoundTable t × AllByRecursion (Either StandsBefore t) j) n (all_pass not_m x)
    (three (λ (t : Table). t.level ≡ a + 1) IsSoundTable (λ (t : Table). AllByRecursion (Either StandsBefore t) j) n
    (all_kept (λ (t : Table). t.level ≡ a + 1) not_m x x_at) (all_kept IsSoundTable not_m x sound_x)
    (pairs_parted StandsBefore m x (pairs_kept StandsBefore (λ (t : Table). t.level == (a + 1)) all order))) in
    let one_apart = λ (t : Table) (facts : (not_m t ≡ true) × ((t.level ≡ a + 1) × IsSoundTable t × AllByRecursion (Either StandsBefore t) j)).
    on_level_apart job.written t (separate_all job.inputs job.written t new no_more
    (subst (λ (l : List Table). Beside l t) (sym c.inputs) (stands_beside (a + 1) i j t deep facts.1.0 (fit_of t facts.1.1) (off_of (m t) facts.0) rise_i joins facts.1.2))) in
    let New : Table → Type 0 = λ (t : Table). AllByRecursion (λ (w : Table). SeparateOnLevel w t) job.written in
    let n_new = weaker (λ (t : Table). (not_m t ≡ true) × ((t.level ≡ a + 1) × IsSoundTable t × AllByRecursion (Either StandsBefore t) j)) New one_apart n n_facts in
    let b_new = weaker (λ (t : Table). t.level < a) New (λ t l. off_level job.written (a + 1) t at (inl (omega (arith, l)))) b b_low in
    let p_new = weaker (λ (t : Table). t.level ≡ a) New (λ t e. off_level job.written (a + 1) t at (inl (omega (arith, e)))) p p_at in
    let k_new = weaker (λ (t : Table). t.level ≡ a) New (λ t e. off_level job.written (a + 1) t at (inl (omega (arith, e)))) k k_at in
    let d_new = weaker (λ (t : Table). a + 1 < t.level) New (λ t l. off_level job.written (a + 1) t at (inr l)) d d_high in
    let all_new = all_join New b ((p ++ k) ++ (n ++ d)) b_new (all_join New (p ++ k) (n ++ d) (all_join New p k p_new k_new) (all_join New n d n_new d_new)) in
    let fits = weaker IsSoundTable Fit fit_of all sound.tables in (
      fold_order job.written (without job.inputs all) (weaker IsSoundTable Fit fit_of job.written new) (all_kept Fit out all fits)
          (subst (AllByRecursion New) (sym remain) all_new) (own_separate (a + 1) job.written deep at own) (pairs_kept StandsBefore out all order),
      counted all b p i k x d m job.inputs (without job.inputs all) parts c.inputs remain,
    )
  where
    three : (P Q R : Table → Type 0) (xs : List Table) → AllByRecursion P xs → AllByRecursion Q xs → AllByRecursion R xs → AllByRecursion (λ (x : Table). P x × Q x × R x) xs
    three P Q R [] p q r = tt
    three P Q R (x ∷ more) p q r = ((p.0, q.0, r.0), three P Q R more p.1 q.1 r.1)

    off_of : (b : Bool) → not b ≡ true → b ≡ false
    off_of true e = absurd cc
    off_of false e = refl

    on_level_apart : (made : List Table) (t : Table) → AllByRecursion (λ (w : Table). Separate w t) made → AllByRecursion (λ (w : Table). SeparateOnLevel w t) made
    on_level_apart [] t all = tt
    on_level_apart (w ∷ more) t all = (λ _. all.0, on_level_apart more t all.1)

    separate_all : (inputs made : List Table) (t : Table) → AllByRecursion IsSoundTable made → AllByRecursion (SaysNoMore inputs) made → Beside inputs t → AllByRecursion (λ (w : Table). Separate w t) made
    separate_all inputs [] t sound no_more beside = tt
    separate_all inputs (w ∷ more) t sound no_more beside = (separate inputs t w sound.0 no_more.0 beside, separate_all inputs more t sound.1 no_more.1 beside)

    counted : (all b p i k x d : List Table) (m : Table → Bool) (inputs remain : List Table) → all ≡ b ++ ((p ++ (i ++ k)) ++ (x ++ d)) → inputs ≡ i ++ filter m x
        → remain ≡ five b p k (filter (λ (t : Table). not (m t)) x) d → length remain + length inputs ≡ length all
    counted all b p i k x d m inputs remain parts ins stays =
        let n = filter (λ (t : Table). not (m t)) x in
        let size = λ (l : List Table). length l in
        omega (
          arith,
          ap size parts,
          ap size ins,
          ap size stays,
          parted_length m x,
          length-append i (filter m x),
          length-append b ((p ++ (i ++ k)) ++ (x ++ d)),
          length-append (p ++ (i ++ k)) (x ++ d),
          length-append p (i ++ k),
          length-append i k,
          length-append x d,
          length-append b ((p ++ k) ++ (n ++ d)),
          length-append (p ++ k) (n ++ d),
          length-append p k,
          length-append n d,
        )

written_sound : (filter_bytes : FilterBytes) (s : State) (job : Job) → IsSound filter_bytes s → IsJob filter_bytes s.settings s.tables job → AllByRecursion IsSoundTable job.inputs
    → AllByRecursion (OnDevice s.pages) job.written → AllByRecursion IsSoundTable job.written
written_sound filter_bytes s job sound is inputs on =
    let plan = plan_of_job job in
    made_sound filter_bytes s.settings job.output s.pages (planned s.tables plan) job.written (chosen_deep (drop is.flushes s.tables) plan is.chosen) sound.settings sound.ratio sound.device.1 is.written on
    (planned_outputs s.tables plan inputs)

pub install_sound : (filter_bytes : FilterBytes) (s : State) (job : Job) → IsSound filter_bytes (with_job s job) → outstanding s.tables job ≡ [] → s.epoch ≢ last_epoch → IsSound filter_bytes (installed s job)
install_sound filter_bytes s job sound done other =
    let here = with_job s job in
    let all = s.tables in
    let is : IsJob filter_bytes here.settings here.tables job = sound.job in
    let stand = sound_stand filter_bytes here sound in
    let out = λ (t : Table). not (list_any (λ (u : Table). u.first_page == t.first_page) job.inputs) in
    let first : Stand s.pages (all ++ (job.written ++ s.kept)) = subst (Stand s.pages) (append_assoc all job.written s.kept) stand in
    let on = (all_parts (OnDevice s.pages) job.written s.kept (all_parts (OnDevice s.pages) all (job.written ++ s.kept) first.0).1).0 in
    let new = written_sound filter_bytes here job sound is (inputs_sound filter_bytes here job sound is) on in
    let stay = install_order filter_bytes here job sound is done new in
    let tables = fold inserted (without job.inputs all) job.written in
    let moved : Stand s.pages (tables ++ s.kept) = (
      all_fold (OnDevice s.pages) job.written (without job.inputs all) s.kept (all_sift (OnDevice s.pages) out all (job.written ++ s.kept) first.0),
      pairs_fold Clear clear_mutual job.written (without job.inputs all) s.kept (pairs_sift Clear out all (job.written ++ s.kept) first.1),
    ) in
    let laid = laid_tables s.pages ((tables ++ []) ++ s.kept) (subst (λ (l : List Table). Stand s.pages (l ++ s.kept)) (sym (append-nil tables)) moved) in
    let made = made_lists filter_bytes here job.output (planned here.tables (plan_of_job job)) job.written is.written done in
    let many : length job.written ≡ length (planned here.tables (plan_of_job job)) = sym (length-map job.written as_source) ∙ ap (λ (l : List Source). length l) made.0 in
    record {
      settings = sound.settings;
      ratio = sound.ratio;
      device = sound.device;
      epoch = next_epoch s.epoch sound.epoch.1 other;
      log = sound.log;
      log_fits = sound.log_fits;
      few = omega (arith, fold_length job.written (without job.inputs all), stay.1, many, planned_few here.tables (plan_of_job job), sound.few);
      tables = fold_all IsSoundTable job.written (without job.inputs all) new (all_kept IsSoundTable out all sound.tables);
      order = all_pairs StandsBefore tables stay.0;
      on_device = laid.0;
      apart = all_pairs AreApart (taken (installed s job)) laid.1;
      job = tt;
    }

-- ---- the slice

pub slice_sound : (filter_bytes : FilterBytes) (s after : State) (tended : Tended) → IsSound filter_bytes s → Tend Ever filter_bytes s tended after → IsSound filter_bytes after
slice_sound filter_bytes s after tended sound d = elim d as (λ _ new _. IsSound filter_bytes new) [
  | idle none chosen ↦ sound
  | works job later runs goes other more ↦ works_sound filter_bytes s job later sound runs goes
  | installs job later runs goes done other ↦ install_sound filter_bytes s later (works_sound filter_bytes s job later sound runs goes) done.all_written other
  | last_epoch_reached job later runs goes done last ↦ drop_sound filter_bytes s sound
  | no_room job later refusal runs goes refused ↦ drop_sound filter_bytes s sound
  | no_memory cause ↦ drop_sound filter_bytes s sound
  | read_failed job runs more cause ↦ drop_sound filter_bytes s sound
  | damage_met job damage runs more cause ↦ drop_sound filter_bytes s sound
  | write_failed job new runs may cause left same ↦ left.sound
]

pub slice_keeps : (filter_bytes : FilterBytes) (s after : State) (tended : Tended) → IsSound filter_bytes s → Tend Ever filter_bytes s tended after → state_map after ≡ state_map s
slice_keeps filter_bytes s after tended sound d = elim d as (λ _ new _. state_map new ≡ state_map s) [
  | idle none chosen ↦ refl
  | works job later runs goes other more ↦ refl
  | installs job later runs goes done other ↦ let here = works_sound filter_bytes s job later sound runs goes in install_keeps filter_bytes (with_job s later) later here here.job done.all_written
  | last_epoch_reached job later runs goes done last ↦ refl
  | no_room job later refusal runs goes refused ↦ refl
  | no_memory cause ↦ refl
  | read_failed job runs more cause ↦ refl
  | damage_met job damage runs more cause ↦ refl
  | write_failed job new runs may cause left same ↦ same
]
