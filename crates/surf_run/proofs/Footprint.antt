-- Where a run writes.
use Rattle.std.proofs.Common.{◌≡◌, ◌*◌, ◌∙◌, ℕ, refl, subst}
use Rattle.block_model.specs.Pages.{page_bytes}
use Rattle.disk_trait.specs.World.{Passes, Same, World, WriteMoves}
use Rattle.lines_in.specs.Causes.{WritesWithin}
use Rattle.lines_in.proofs.Footprint.{within_still, within_none, within_on, within_write, within_say, within_take}
use Rattle.outside.specs.Streams.{SayMoves, TakeMoves}
use Rattle.store_core.specs.StoreValue.{StoreValue}
use Rattle.surf_run.specs.Causes.{WithinPages}

-- ---- of a store

module _ (s t : StoreValue) where
  pub pages_write : (a b : World) → t.manifest.version.pages ≡ s.manifest.version.pages → WriteMoves 0 (page_bytes * s.manifest.version.pages) a b → WithinPages s t a b
  pages_write a b kept moves = record { pages = kept; within = within_write (page_bytes * s.manifest.version.pages) a b moves }

  pub pages_still : (a b : World) → t.manifest.version.pages ≡ s.manifest.version.pages → b.seen.held ≡ a.seen.held → Passes Same a b → WithinPages s t a b
  pages_still a b kept same time = record { pages = kept; within = within_still (page_bytes * s.manifest.version.pages) a b same time }

  -- and then a reply was said
  pub pages_say : (a b c : World) → WithinPages s t a b → SayMoves b c → WithinPages s t a c
  pages_say a b c by say = record {
    pages = by.pages;
    within = within_on (page_bytes * s.manifest.version.pages) a b c by.within (within_say (page_bytes * s.manifest.version.pages) b c say);
  }

  -- or bytes were taken
  pub pages_take : (a b c : World) → WithinPages s t a b → TakeMoves b c → WithinPages s t a c
  pages_take a b c by take = record {
    pages = by.pages;
    within = within_on (page_bytes * s.manifest.version.pages) a b c by.within (within_take (page_bytes * s.manifest.version.pages) b c take);
  }

pub pages_none : (s : StoreValue) (w : World) → WithinPages s s w w
pages_none s w = record { pages = refl; within = within_none (page_bytes * s.manifest.version.pages) w }

pub pages_on : (s t u : StoreValue) (a b c : World) → WithinPages s t a b → WithinPages t u b c → WithinPages s u a c
pages_on s t u a b c first then = record {
  pages = then.pages ∙ first.pages;
  within = within_on (page_bytes * s.manifest.version.pages) a b c first.within (subst (λ (n : ℕ). WritesWithin (page_bytes * n) b c) first.pages then.within);
}

-- and then a given number of pages were written to
pub pages_then : (s t : StoreValue) (a b c : World) → WithinPages s t a b → WritesWithin (page_bytes * t.manifest.version.pages) b c → WritesWithin (page_bytes * s.manifest.version.pages) a c
pages_then s t a b c first then =
    within_on (page_bytes * s.manifest.version.pages) a b c first.within (subst (λ (n : ℕ). WritesWithin (page_bytes * n) b c) first.pages then)
