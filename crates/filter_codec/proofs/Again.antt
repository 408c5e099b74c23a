-- An image is read as what it is the image of, and as nothing else. What a decoder says of a kind, of filters and of whole keys.
use Rattle.std.proofs.Common.{◌≡◌, ◌∙◌, ap, subst, sym, refl, ℕ, List}
use Rattle.std.specs.Prelude.{Result, Ok, Err, IfOk}
use Rattle.filter_api.specs.Spellings.{MayBeTrie}
use Rattle.filter_api.specs.declared.errors.DecodeError.{DecodeError}
use Rattle.filter_api.specs.declared.errors.DecodeError.TheVariants.{Fault, Memory}
use Rattle.filter_codec.specs.Decoding.{IsCause, IsCauseBy, IsWholeCause}
use Rattle.filter_image_model.proofs.ImageRead.{image_by_stubs, read_again, whole_by, whole_read_again}
use Rattle.filter_image_model.proofs.Validity.{may_stand_by, whole_of_kind}
use Rattle.filter_image_model.specs.Header.{Bytes}
use Rattle.filter_image_model.specs.Kinds.{of_stubs, of_whole_keys}
use Rattle.filter_image_model.specs.Laws.{IsImage, IsImageBy, IsWholeImage, whole_list}
use Rattle.filter_model.specs.Image.{image}
use Rattle.filter_model.specs.Leaves.{Filter, Leaf}

pub same : (i j : Filter) (bytes : Bytes) → IsImage i bytes → IsImage j bytes → j ≡ i
same i j bytes a b = sym (read_again j bytes b).1 ∙ (read_again i bytes a).1

-- an image is refused for want of memory alone
pub no_fault : (i : Filter) (bytes : Bytes) → IsImage i bytes → (e : DecodeError) → IsCause bytes e → e ≡ Memory
no_fault i bytes a Memory c = refl
no_fault i bytes a (Fault f) c = absurd (c.no_image i.hash_bits i.real_bits i.cutoff i.leaves a)

pub whole_same : (cutoff other : ℕ) (leaves others : List Leaf) (bytes : Bytes) → IsWholeImage cutoff leaves bytes → IsWholeImage other others bytes → whole_list other others ≡ whole_list cutoff leaves
whole_same cutoff other leaves others bytes a b = sym (whole_read_again other others bytes b).1 ∙ (whole_read_again cutoff leaves bytes a).1

pub no_whole_fault : (cutoff : ℕ) (leaves : List Leaf) (bytes : Bytes) → IsWholeImage cutoff leaves bytes → (e : DecodeError) → IsWholeCause bytes e → e ≡ Memory
no_whole_fault cutoff leaves bytes a Memory c = refl
no_whole_fault cutoff leaves bytes a (Fault f) c = absurd (c.no_image cutoff leaves a)

-- a trie without bits has the image of whole keys
pub own_whole : (i : Filter) (bytes : Bytes) → i ≡ whole_list i.cutoff i.leaves → MayBeTrie i.hash_bits i.real_bits i.cutoff i.leaves → bytes ≡ image i.hash_bits i.real_bits i.cutoff i.leaves
    → IsWholeImage i.cutoff i.leaves bytes
own_whole i bytes none may is =
    let hash : i.hash_bits ≡ 0 = ap (λ (x : Filter). x.hash_bits) none in
    let real : i.real_bits ≡ 0 = ap (λ (x : Filter). x.real_bits) none in
    record {
      may_be = subst (λ h. MayBeTrie h 0 i.cutoff i.leaves) hash (subst (λ r. MayBeTrie i.hash_bits r i.cutoff i.leaves) real may);
      bytes_are = is ∙ (λ j. image (hash j) (real j) i.cutoff i.leaves);
    }

pub both_ok : {T E : Type 0} (r : Result T E) (P Q S : T → Type 0) → ((t : T) → P t → Q t → S t) → IfOk r P → IfOk r Q → IfOk r S
both_ok (Ok t) P Q S f p q = f t p q
both_ok (Err e) P Q S f p q = tt

-- ---- of a kind

pub image_of_stubs : (i : Filter) (bytes : Bytes) → IsImageBy of_stubs i bytes → IsImage i bytes
image_of_stubs i bytes s = record { may_stand = may_stand_by i.hash_bits i.real_bits i.cutoff i.leaves s.may_stand; bytes_are = s.bytes_are }

pub cause_of_stubs : (bytes : Bytes) (e : DecodeError) → IsCauseBy of_stubs bytes e → IsCause bytes e
cause_of_stubs bytes Memory c = tt
cause_of_stubs bytes (Fault f) c = record {
  no_image = (λ h r cutoff leaves s. c.no_image (record { hash_bits = h; real_bits = r; cutoff = cutoff; leaves = leaves }) (image_by_stubs (record { hash_bits = h; real_bits = r; cutoff = cutoff; leaves = leaves }) bytes s));
  first = c.first;
  place = c.place;
}

pub image_of_whole_keys : (i : Filter) (bytes : Bytes) → IsImageBy of_whole_keys i bytes → IsWholeImage i.cutoff i.leaves bytes
image_of_whole_keys i bytes s = (whole_of_kind i bytes s).1

pub list_of_whole_keys : (i : Filter) (bytes : Bytes) → IsImageBy of_whole_keys i bytes → i ≡ whole_list i.cutoff i.leaves
list_of_whole_keys i bytes s = (whole_of_kind i bytes s).0

pub cause_of_whole_keys : (bytes : Bytes) (e : DecodeError) → IsCauseBy of_whole_keys bytes e → IsWholeCause bytes e
cause_of_whole_keys bytes Memory c = tt
cause_of_whole_keys bytes (Fault f) c = record {
  no_image = (λ cutoff leaves s. c.no_image (whole_list cutoff leaves) (whole_by cutoff leaves bytes s));
  first = c.first;
  place = c.place;
}
