-- Blocks that a slice passed are sound, and where it may read none it passed none.
use Rattle.std.proofs.Common.{◌≡◌, ◌∙◌, ◌<◌, ◌≤◌, ℕ, Bool, List, IsTrue, refl, subst, arith}
use Rattle.disk_trait.specs.Image.{Image}
use Rattle.level_merge.specs.SliceSteps.{PassesBlocks}
use Rattle.merge_rows.proofs.SoundPasses.{pass_alike, pass_same, pass_then}
use Rattle.merge_rows.specs.Merges.{TableWalk}
use Rattle.merge_rows.specs.Reads.{PassSound, next_numbers}
use Rattle.merge_rows.specs.Steps.{numbers}
use Rattle.table_file.specs.Opened.{Opened}

module _ (tells : Bool) (tables : List Opened) (image : Image) (blocks : ℕ) where
  pub passes_none : (walks : List TableWalk) → PassesBlocks tells tables image blocks walks walks
  passes_none walks = record { sound = λ t. pass_same tables image walks; none = λ is t. refl }

  module _ (here : Image) (old mid new : List TableWalk) (held : here ≡ image) (one : PassesBlocks tells tables image blocks old mid) where
    -- a block was read
    pub passes_read : 0 < blocks → (IsTrue tells → PassSound tables here mid new) → PassesBlocks tells tables image blocks old new
    passes_read some two = record {
      sound = λ t. pass_then tables image old mid new (one.sound t) (subst (λ (h : Image). PassSound tables h mid new) held (two t));
      none = λ is t. absurd (omega (arith, some, is));
    }

    -- none was
    pub passes_still : numbers new ≡ numbers mid → (IsTrue tells → next_numbers new ≡ next_numbers mid) → PassesBlocks tells tables image blocks old new
    passes_still same still = record {
      sound = λ t. pass_then tables image old mid new (one.sound t) (pass_alike tables image mid new same (still t));
      none = λ is t. still t ∙ one.none is t;
    }

    -- as many were read as may be, at most
    pub passes_then : (left : ℕ) → left ≤ blocks → PassesBlocks tells tables here left mid new → PassesBlocks tells tables image blocks old new
    passes_then left le two = record {
      sound = λ t. pass_then tables image old mid new (one.sound t) (subst (λ (h : Image). PassSound tables h mid new) held (two.sound t));
      none = λ is t. two.none (omega (arith, le, is)) t ∙ one.none is t;
    }
