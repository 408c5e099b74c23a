-- Where branches lead.
use Rattle.std.specs.Prelude.{◌≡◌, ℕ, ◌<◌, is_some, Some, None}
use Rattle.louds_sparse.specs.declared.lead.Lead.{Lead}
use Rattle.louds_sparse.specs.declared.lead.Lead.TheVariants as lead
use Rattle.louds_sparse.specs.declared.lead.Placed.{Placed}
use Rattle.trie_model.specs.Halves.{Half, child_at, first_below, places_in, slot_at}

-- the branch of this number leads there
abbrev pub IsLead : Half → ℕ → Lead → Type 0
IsLead h n (lead.Child v) = Some v ≡ child_at h n
IsLead h n (lead.Leaf s) = (None ≡ child_at h n) × (s ≡ slot_at h n)

-- what is said of a branch is so of the one at its place
pub record StandsAt (h : Half) (at : Placed) : Type 0 where
  pub within : at.place < places_in h
  pub slots : at.slots ≡ slot_at h at.place
  pub below : at.below ≡ first_below h at.place
  pub leads : at.leads ≡ is_some (child_at h at.place)
