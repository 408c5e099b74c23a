-- What a compaction does before it begins: the merge that runs is dropped.
use Rattle.std.proofs.Common.{◌≡◌, ◌≢◌, ◌⊎◌, inl, inr, ◌∙◌, ◌<◌, ℕ, true, [], refl, sym, ap, subst}
use Rattle.std.specs.Prelude.{None, Some, ◌==◌}
use Rattle.disk_trait.specs.World.{World}
use Rattle.filter_api.specs.Spellings.{Spelling}
use Rattle.key_base.specs.Limits.{last_epoch}
use Rattle.line_model.specs.Replies as reply
use Rattle.line_model.specs.Requests.{Compact}
use Rattle.state_model.specs.State.{State, without_job}
use Rattle.state_model.specs.View.{changes_of}
use Rattle.table_model.specs.Tables.{FilterBytes}
use Rattle.store_core.specs.Answers.{AnswersRequest}
use Rattle.store_core.specs.StoreValue.{IsConsistent, StoreValue}
use Rattle.store_core.specs.Represents.{Represents}
use Rattle.store_core.specs.declared.error.StoreError.TheVariants as error
use Rattle.store_core.proofs.CompactAnswers.{compact_empty, compact_last}
use Rattle.store_core.proofs.CompactLeads.{some_entries}
use Rattle.store_core.proofs.CompactSlices.{none_open}
use Rattle.store_core.proofs.Dropped.{tied_dropped}
use Rattle.store_core.proofs.Flushed.{last_is}
use Rattle.store_core.proofs.InstallRefusals.{below_last}

is_last : (n : ℕ) → n ≡ last_epoch → (n == last_epoch) ≡ true
unfolding last_epoch
is_last n last = subst (λ (m : ℕ). (m == 18446744073709551615) ≡ true) (sym last) refl

module _ (store after : StoreValue) (same : after ≡ record store { job = None }) where
  pub same_epoch : after.manifest.version.epoch ≡ store.manifest.version.epoch
  same_epoch = ap (λ (k : StoreValue). k.manifest.version.epoch) same

  pub is_at_last : after.manifest.version.epoch ≡ 18446744073709551615 → store.manifest.version.epoch ≡ last_epoch
  is_at_last last = sym same_epoch ∙ (last ∙ sym last_is)

  pub is_below_last : IsConsistent store → (after.manifest.version.epoch ≢ 18446744073709551615) → after.manifest.version.epoch < last_epoch
  is_below_last whole other = subst (λ (n : ℕ). n < last_epoch) (sym same_epoch) (below_last store.manifest.version.epoch whole.version.epoch (λ last. other (same_epoch ∙ (last ∙ last_is))))

  module _ (spelling : Spelling) (bytes : FilterBytes) (s : State) (w : World) (whole : IsConsistent store) (tied : Represents spelling bytes store s w) where
    pub tied_without : Represents spelling bytes after (without_job s) w
    tied_without = subst (λ (k : StoreValue). Represents spelling bytes k (without_job s) w) (sym same) (tied_dropped spelling bytes store s w tied)

    module _ (current : w.leaves w.moment w.seen.held) where
      pub answered_empty : after.memory.entries ≡ [] → after.tables ≡ [] → AnswersRequest spelling bytes s Compact (Some reply.Done) after w w
      answered_empty no_memory no_tables = subst (λ (k : StoreValue). AnswersRequest spelling bytes s Compact (Some reply.Done) k w w) (sym same)
          (compact_empty spelling bytes store s w whole.slot tied current (sym (ap (λ (k : StoreValue). k.memory.entries) same) ∙ no_memory) (sym (ap (λ (k : StoreValue). k.tables) same) ∙ no_tables))

      some_are : (after.memory.entries ≢ []) ⊎ (after.tables ≢ []) → changes_of s ≢ []
      some_are some = some_entries bytes s tied.sound (elim some [
        | inl entry ↦ inl (λ empty. entry (ap (λ (k : StoreValue). k.memory.entries) same ∙ (tied.memory ∙ empty)))
        | inr table ↦ inr (λ empty. table (ap (λ (k : StoreValue). k.tables) same ∙ none_open spelling w.seen.held store.tables s.tables (tied.images w.seen.held current).tables empty))
      ])

      pub answered_last : (after.memory.entries ≢ []) ⊎ (after.tables ≢ []) → after.manifest.version.epoch ≡ 18446744073709551615
          → AnswersRequest spelling bytes s Compact (Some reply.LastEpoch) after w w
      answered_last some last = subst (λ (k : StoreValue). AnswersRequest spelling bytes s Compact (Some reply.LastEpoch) k w w) (sym same)
          (compact_last spelling bytes store s w whole.slot tied (error.Limit Rattle.store_core.specs.declared.error.Limit.TheVariants.Epoch) refl (some_are some)
          (is_last s.epoch ((tied.images w.seen.held current).ready.named.epoch ∙ is_at_last last)))
