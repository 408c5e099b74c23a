-- Why bytes are refused.
use Rattle.std.proofs.Common.{◌≡◌, ◌≤◌, Err, Result, ap, length, subst, sym}
use Rattle.std.specs.Prelude.{IfErr}
use Rattle.byte_fields.specs.Faults.{fault}
use Rattle.filter_api.specs.Spellings.{IsNoSpelling}
use Rattle.filter_api.specs.declared.errors.DecodeError.{DecodeError}
use Rattle.filter_api.specs.declared.errors.DecodeError.TheVariants.{Fault}
use Rattle.filter_api.specs.declared.errors.FilterFault.{FilterFault}
use Rattle.filter_codec.specs.Decoding.{IsCause, IsFirstFault}
use Rattle.filter_image_model.specs.Header.{Bytes}
use Rattle.filter_model.specs.Image.{image}
use Rattle.surf_filter.specs.Faults.{fault_in, first_image_fault}

module _ {T : Type 0} (bytes : Bytes) (r : Result T DecodeError) (f : FilterFault) (h : IfErr r (IsCause bytes)) (e : r ≡ Err (Fault f)) where
  cause : IsFirstFault bytes f
  cause = subst (λ (x : Result T DecodeError). IfErr x (IsCause bytes)) e h

  pub first_fault_is : IsNoSpelling image bytes × (fault f.place f.rule ≡ first_image_fault bytes)
  first_fault_is = (cause.no_image, sym (ap fault_in cause.first))

  pub place_in : f.place ≤ length bytes
  place_in = cause.place
