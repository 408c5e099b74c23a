-- What a flush makes of a state, computed.
use Rattle.std.proofs.Common.{◌≡◌, ◌≢◌, ◌∙◌, ◌<◌, ◌≤◌, ℕ, Bool, true, false, cond, [], ◌∷◌, length, refl, ap, arith}
use Rattle.std.specs.Prelude.{Option, Some, None, Ok, Err, ◌==◌}
use Rattle.extent_model.proofs.Rooms.{no_gap}
use Rattle.extent_model.specs.Gaps.{first_gap, largest_gap}
use Rattle.key_base.specs.Limits.{last_epoch}
use Rattle.line_model.specs.Replies.{LastEpoch, Full}
use Rattle.state_model.proofs.Reasons.{flush_few}
use Rattle.state_model.specs.Changes.{flush_placed, flushed, flushed_with}
use Rattle.state_model.specs.Merges.{NoRoom, at_page, placed}
use Rattle.state_model.specs.State.{State}
use Rattle.state_model.specs.Taken.{taken}
use Rattle.range_model.specs.Sources.{Source, alone}
use Rattle.state_model.specs.View.{in_memory, memory}
use Rattle.store_core.specs.Flushing.{flushed_at}
use Rattle.table_model.specs.Tables.{FilterBytes, Table, table_of, table_pages}

-- the last epoch as a number, for arithmetic
pub last_is : last_epoch ≡ 18446744073709551615
unfolding last_epoch
last_is = refl

module _ (filter_bytes : FilterBytes) (s : State) where
  pub flushed_none : memory s ≡ [] → flushed filter_bytes s ≡ Ok s
  flushed_none none = ap (flushed_with filter_bytes s (in_memory s)) none

  -- the pages of the table
  abbrev pub need : ℕ
  need = table_pages filter_bytes s.settings (memory s)

  abbrev refusal : NoRoom
  refusal = record { need = need; gap = largest_gap s.pages (taken s) }

  abbrev one : ℕ → Table
  one page = table_of filter_bytes s.settings 0 page (memory s)

  -- where it is placed
  one_placed : (page : Option ℕ) → first_gap s.pages (taken s) need ≡ page → in_memory s ≡ alone (memory s)
      → placed filter_bytes s.settings s.pages (taken s) 0 (in_memory s ∷ []) ≡ at_page page (λ p. Ok (one p ∷ [])) refusal
  one_placed page is no_range =
      ap (λ (source : Source). placed filter_bytes s.settings s.pages (taken s) 0 (source ∷ [])) no_range ∙ ap (λ (o : Option ℕ). at_page o (λ p. Ok (one p ∷ [])) refusal) is

  module _ (some : memory s ≢ []) (few : length s.tables < 1024) (no_range : in_memory s ≡ alone (memory s)) where
    few_placed : (page : Option ℕ) → first_gap s.pages (taken s) need ≡ page → flushed filter_bytes s ≡ flush_placed s (at_page page (λ p. Ok (one p ∷ [])) refusal)
    few_placed page is = flush_few filter_bytes s some few ∙ ap (flush_placed s) (one_placed page is no_range)

    at_epoch : (page : ℕ) (last : Bool) → first_gap s.pages (taken s) need ≡ Some page → (s.epoch == last_epoch) ≡ last
        → flushed filter_bytes s ≡ cond last (Err LastEpoch) (Ok (flushed_at filter_bytes page s))
    at_epoch page last is so = few_placed (Some page) is ∙ ap (λ (b : Bool). cond b (Err LastEpoch) (Ok (flushed_at filter_bytes page s))) so

    pub flushed_full : first_gap s.pages (taken s) need ≡ None → flushed filter_bytes s ≡ Err (Full need (largest_gap s.pages (taken s)))
    flushed_full none = few_placed None none

    pub flushed_done : (page : ℕ) → first_gap s.pages (taken s) need ≡ Some page → (s.epoch == last_epoch) ≡ false → flushed filter_bytes s ≡ Ok (flushed_at filter_bytes page s)
    flushed_done page is left = at_epoch page false is left

    -- there is room, and no epoch is left
    pub flushed_last : need ≤ largest_gap s.pages (taken s) → (s.epoch == last_epoch) ≡ true → flushed filter_bytes s ≡ Err LastEpoch
    flushed_last room last =
        elim (first_gap s.pages (taken s) need) as (λ o. first_gap s.pages (taken s) need ≡ o → flushed filter_bytes s ≡ Err LastEpoch) [
          | Some page ↦ λ is. at_epoch page true is last
          | None ↦ λ is. absurd (let less = no_gap s.pages (taken s) need is in omega (arith, less, room))
        ] refl
