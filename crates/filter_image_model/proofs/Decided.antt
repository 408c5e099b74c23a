-- Bytes are an image of a kind, or break a rule.
use Rattle.std.proofs.Common.{◌≡◌, ◌⊎◌, inl, inr, ℕ, List, refl, sym, ◌∙◌}
use Rattle.std.specs.Prelude.{Option, Some, None}
use Rattle.byte_fields.specs.Faults.{Fault}
use Rattle.byte_fields.specs.Spelling.{IsBytes}
use Rattle.filter_api.specs.Spellings.{IsDecided, IsNoSpelling, IsSpelling}
use Rattle.filter_model.specs.Image.{image}
use Rattle.filter_model.specs.Leaves.{Filter, Leaf}
use Rattle.filter_image_model.specs.Header.{Bytes, cutoff_in}
use Rattle.filter_image_model.specs.Kinds.{IsKind, Kind}
use Rattle.filter_image_model.specs.Laws.{ImagesAreDecided, IsImageBy, IsNoWholeImage, IsWholeImage, WholeImagesAreDecided}
use Rattle.filter_image_model.specs.Reading.{fault_by, image_fault, image_in, leaves_in, whole_fault}
use Rattle.filter_image_model.proofs.ImageRead.{read_again, read_again_by, whole_read_again}
use Rattle.filter_image_model.proofs.Validity.{was_written_so, whole_was_written_so, written_by}

none_and_some : {f : Fault} {o : Option Fault} → o ≡ None → o ≡ Some f → ⊥
none_and_some {f} none some = let wrong : None ≡ Some f = sym none ∙ some in cc

module _ (k : Kind) (bytes : Bytes) (kind : IsKind k) (are : IsBytes bytes) where
  told_of : (o : Option Fault) → fault_by k bytes ≡ o → ((i : Filter) → IsImageBy k i bytes → ⊥) ⊎ ((i : Filter) × IsImageBy k i bytes)
  told_of None is = inr (image_in bytes, written_by k bytes kind are is)
  told_of (Some fault) is = inl (λ i spelled. none_and_some (read_again_by k i bytes kind spelled).0 is)

pub decided_by : ImagesAreDecided
decided_by k bytes kind are = told_of k bytes kind are (fault_by k bytes) refl

module _ (bytes : Bytes) (are : IsBytes bytes) where
  abbrev Told : Type 0
  Told =
      IsNoSpelling image bytes
      ⊎ ((hash_bits : ℕ) × (real_bits : ℕ) × (cutoff : ℕ) × (leaves : List Leaf) × IsSpelling image hash_bits real_bits cutoff leaves bytes)

  told_by : (o : Option Fault) → image_fault bytes ≡ o → Told
  told_by None is = inr (
    (image_in bytes).hash_bits,
    (image_in bytes).real_bits,
    (image_in bytes).cutoff,
    (image_in bytes).leaves,
    was_written_so bytes are is,
  )
  told_by (Some fault) is = inl (λ hash_bits real_bits cutoff leaves spelled.
      none_and_some (read_again (record { hash_bits = hash_bits; real_bits = real_bits; cutoff = cutoff; leaves = leaves }) bytes spelled).0 is)

  told_whole : (o : Option Fault) → whole_fault bytes ≡ o → IsNoWholeImage bytes ⊎ ((cutoff : ℕ) × (leaves : List Leaf) × IsWholeImage cutoff leaves bytes)
  told_whole None is = inr (cutoff_in bytes, leaves_in bytes, (whole_was_written_so bytes are is).1)
  told_whole (Some fault) is = inl (λ cutoff leaves spelled. none_and_some (whole_read_again cutoff leaves bytes spelled).0 is)

-- the kind of filter that is spelled by its image can tell
pub image_decided : IsDecided image
image_decided bytes are = told_by bytes are (image_fault bytes) refl

pub whole_decided : WholeImagesAreDecided
whole_decided bytes are = told_whole bytes are (whole_fault bytes) refl
