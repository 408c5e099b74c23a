use Rattle.std.proofs.Common.{◌≡◌, ◌∙◌, false, refl, sym, ap, subst}
use Rattle.std.specs.Prelude.{IfOk, Option, Some, None, Result, Ok, Err, is_some}
use Rattle.std.proofs.lemmas.Bool.{false≢true}
use Rattle.image_model.specs.Stands.{settings_of}
use Rattle.level_merge.specs.JobValue.{JobValue}
use Rattle.store_core.specs.StoreValue.{StoreValue}
use Rattle.store_core.specs.Running.{MayRunIn}
use Rattle.store_core.specs.Tending.{IsBegunAmong, IsNext, IsMergeTakenOut, NoneIsChosen}
use Rattle.store_core.proofs.SliceWork.{begun_taken, running_taken}
use Rattle.store_core.proofs.TendNext.{begun_may_run, next_of_begun, next_taken}
use Rattle.store_core.proofs.store.Store.take_job.Goals as goal

if_ok : {T E : Type 0} (P Q : T → Type 0) (r : Result T E) → ((x : T) → P x → Q x) → IfOk r P → IfOk r Q
if_ok P Q (Ok x) weaker p = weaker x p
if_ok P Q (Err e) weaker p = tt

none_of : {X : Type 0} (o : Option X) → is_some o ≡ false → o ≡ None
none_of None not_some = refl
none_of (Some x) not_some = absurd (false≢true (sym not_some))

pub returns-then-is_some-clause-next : goal.returns-then-is_some-clause-next
returns-then-is_some-clause-next g c s image under =
    next_taken g.F.RangeFilter.spelling c.args.self.now s c.take_running-running.result image c.take_running-running.ensures.taken (sym c.is_some.ensures ∙ c.if-is_some.true) under

pub returns-clause-whole : goal.returns-clause-whole
returns-clause-whole g c =
    let v = c.self.inside.version.version in
    let tables = c.self.inside.tables.tables in
    subst (λ (k : StoreValue). IfOk c.next_job.result (MayRunIn k.manifest.version k.tables)) (c.self.view_is ∙ c.take_running-running.ensures.rest)
    (if_ok (IsBegunAmong tables (settings_of v)) (MayRunIn v tables) c.next_job.result (λ found is. begun_may_run v tables (settings_of v) found c.self.invariant.0.version is) c.next_job.ensures.begun)

pub returns-clause-next : goal.returns-clause-next
returns-clause-next g c s image under =
    let spelling = g.F.RangeFilter.spelling in
    let store = c.args.self.now in
    let set = settings_of store.manifest.version in
    let begun = subst (λ (k : StoreValue). IfOk c.next_job.result (IsBegunAmong k.tables (settings_of k.manifest.version))) (c.self.view_is ∙ c.take_running-running.ensures.rest) c.next_job.ensures.begun in
    if_ok (IsBegunAmong store.tables set) (IsNext spelling store s) c.next_job.result
    (next_of_begun spelling store s c.standing_tables_agree.ensures c.merges_begin.ensures.follows set refl (sym c.take_running-running.ensures.taken ∙ none_of c.take_running-running.result (sym c.is_some.ensures ∙ c.if-is_some.false)) image under) begun

pub returns-then-is_some-clause-none : goal.returns-then-is_some-clause-none
returns-then-is_some-clause-none g c none = absurd (false≢true (sym (ap is_some none) ∙ (sym c.is_some.ensures ∙ c.if-is_some.true)))

pub returns-clause-none : goal.returns-clause-none
returns-clause-none g c =
    let store = c.args.self.now in
    let set = settings_of store.manifest.version in
    let begun = subst (λ (k : StoreValue). IfOk c.next_job.result (IsBegunAmong k.tables (settings_of k.manifest.version))) (c.self.view_is ∙ c.take_running-running.ensures.rest) c.next_job.ensures.begun in
    let no_job = sym c.take_running-running.ensures.taken ∙ none_of c.take_running-running.result (sym c.is_some.ensures ∙ c.if-is_some.false) in
    if_ok (IsBegunAmong store.tables set) (λ (found : Option JobValue). found ≡ None → (store.job ≡ None) × NoneIsChosen store.tables) c.next_job.result
    (λ found is none. (no_job, subst (IsBegunAmong store.tables set) none is)) begun

pub returns-then-is_some-clause-taken_up : goal.returns-then-is_some-clause-taken_up
returns-then-is_some-clause-taken_up g c = running_taken c.args.self.now c.take_running-running.result c.take_running-running.ensures.taken

pub returns-clause-taken_up : goal.returns-clause-taken_up
returns-clause-taken_up g c =
    let store = c.args.self.now in
    let set = settings_of store.manifest.version in
    let begun = subst (λ (k : StoreValue). IfOk c.next_job.result (IsBegunAmong k.tables (settings_of k.manifest.version))) (c.self.view_is ∙ c.take_running-running.ensures.rest) c.next_job.ensures.begun in
    let no_job = sym c.take_running-running.ensures.taken ∙ none_of c.take_running-running.result (sym c.is_some.ensures ∙ c.if-is_some.false) in
    if_ok (IsBegunAmong store.tables set) (IsMergeTakenOut store) c.next_job.result (λ found is. begun_taken store found no_job is) begun
