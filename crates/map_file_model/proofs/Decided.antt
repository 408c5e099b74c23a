-- Bytes are a body, or break a rule; and a body has one map.
use Rattle.std.proofs.Common.{◌≡◌, ◌⊎◌, ℕ, refl, sym, ◌∙◌, inl, inr}
use Rattle.std.specs.Prelude.{None, Option, Some}
use Rattle.byte_fields.specs.Faults.{Fault}
use Rattle.byte_fields.specs.Spelling.{IsBytes}
use Rattle.map_file_model.specs.Laws.{BodiesAreDecided, BodyHasOneMap, IsBody, IsNoBody, cutoff_read}
use Rattle.map_file_model.specs.Maps.{Bytes, Map}
use Rattle.map_file_model.specs.Reading.{body_fault, map_in}
use Rattle.map_file_model.proofs.ReadAgain.{body_again}
use Rattle.map_file_model.proofs.Written.{body_written}

none_and_some : {f : Fault} {o : Option Fault} → o ≡ None → o ≡ Some f → ⊥
none_and_some {f} none some = let wrong : None ≡ Some f = sym none ∙ some in cc

told_by : (bytes : Bytes) → IsBytes bytes → (o : Option Fault) → body_fault bytes ≡ o → IsNoBody bytes ⊎ ((cutoff : ℕ) × (pairs : Map) × IsBody cutoff pairs bytes)
told_by bytes h None is = inr (cutoff_read bytes, map_in bytes, body_written bytes h is)
told_by bytes h (Some f) is = inl (λ cutoff pairs body. none_and_some (body_again cutoff pairs bytes body).no_fault is)

pub bodies_decided : BodiesAreDecided
bodies_decided bytes h = told_by bytes h (body_fault bytes) refl

pub one_map : BodyHasOneMap
one_map cutoff other pairs others bytes a b =
    let x = body_again cutoff pairs bytes a in
    let y = body_again other others bytes b in
    (sym x.map_is ∙ y.map_is, sym x.cutoff_is ∙ y.cutoff_is)
