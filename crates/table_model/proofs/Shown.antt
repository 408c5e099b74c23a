-- Bytes that are in an image, in parts.
use Rattle.std.proofs.Common.{◌≡◌, ◌+◌, ◌≤◌, ℕ, ◌++◌, length, take, drop, refl, sym, ap, ◌∙◌, arith, length-append, inl, inr}
use Rattle.std.proofs.lemmas.List.{take_at, drop_at}
use Rattle.disk_trait.specs.Image.{Image, IsApart, Shows, Torn, window}
use Rattle.disk_trait.proofs.Images.{window_kept, window_size, window_split}
use Rattle.map_model.specs.SortedMap.{Bytes}

-- two pieces of the same lengths
pub same_parts : (xs ys more others : Bytes) → length xs ≡ length ys → xs ++ more ≡ ys ++ others → (xs ≡ ys) × (more ≡ others)
same_parts xs ys more others same e = (
  sym (take_at xs more (length ys) same) ∙ ap (take (length ys)) e ∙ take_at ys others (length ys) refl,
  sym (drop_at xs more (length ys) same) ∙ ap (drop (length ys)) e ∙ drop_at ys others (length ys) refl,
)

-- bytes of one length at one place are the same
pub same_shown : (at : ℕ) (xs ys : Bytes) (image : Image) → length xs ≡ length ys → Shows at xs image → Shows at ys image → xs ≡ ys
same_shown at xs ys image same a b = sym a ∙ ap (window image at) same ∙ b

-- what is there is what a given number of bytes from there on are
pub shown_is : (at n : ℕ) (bytes : Bytes) (image : Image) → length bytes ≡ n → Shows at bytes image → window image at n ≡ bytes
shown_is at n bytes image long shown = ap (window image at) (sym long) ∙ shown

pub shown_parts : (at : ℕ) (xs ys : Bytes) (image : Image) → Shows at (xs ++ ys) image → Shows at xs image × Shows (at + length xs) ys image
shown_parts at xs ys image shown =
    let cut = window_split image at (length xs) (length ys) in
    same_parts (window image at (length xs)) xs (window image (at + length xs) (length ys)) ys (window_size image at (length xs))
    (sym cut ∙ ap (window image at) (sym (length-append xs ys)) ∙ shown)

-- ---- what is written elsewhere

-- a part of a range that lies apart
pub inner : (from size low room at n : ℕ) → low ≤ from → from + size ≤ low + room → IsApart low room at n → IsApart from size at n
inner from size low room at n l h (inl below) = inl (omega (arith, l, h, below))
inner from size low room at n l h (inr above) = inr (omega (arith, l, h, above))

pub shown_kept : (from : ℕ) (bytes : Bytes) (at n : ℕ) (f g : Image) → IsApart from (length bytes) at n → Torn at n f g → Shows from bytes f → Shows from bytes g
shown_kept from bytes at n f g apart torn shown = window_kept at n f g from (length bytes) apart torn ∙ shown
