-- A map that is written: what a crash may leave meanwhile.
use Rattle.std.proofs.Common.{◌≡◌, ◌≢◌, ◌≤◌, ◌∙◌, inl, inr, refl, sym, ap, subst, arith, [], ◌∷◌, length}
use Rattle.std.specs.Prelude.{◌==◌}
use Rattle.std.proofs.lemmas.Bool.{cases_Bool, eqb-false, eqb-true}
use Rattle.disk_trait.specs.Image.{Image, Shows, Torn, overwritten}
use Rattle.disk_trait.specs.World.{IsDurable, Meanwhile, Now, Seen, World, WriteMoves}
use Rattle.disk_trait.proofs.Images.{overwritten_at, whole, window_kept, window_overwritten}
use Rattle.disk_trait.proofs.Moments.{in_call, meanwhile_then, now_at}
use Rattle.lines_in.proofs.LastLines.{now_still}
use Rattle.map_model.specs.SortedMap.{Bytes, Map}
use Rattle.map_run_model.specs.Files.{HasMap, HasNoneOrAll, built_body}
use Rattle.outside.specs.During.{During}
use Rattle.outside.specs.Streams.{SaidByNow, SayMoves}
use Rattle.outside.proofs.Crossing.{during_disk, during_say, during_then, during_weaker}

-- an image in which the body stands has no map or all of it, by its gate
none_or_all : (pairs : Map) (image : Image) → Shows 8 (built_body pairs) image → HasNoneOrAll pairs image
none_or_all pairs image shows = elim (cases_Bool (image 0 == 1)) [
  | inl one ↦ inr (record { gate = eqb-true (image 0) 1 one; body = shows })
  | inr shut ↦ inl (eqb-false (image 0) 1 shut)
]

-- the body was written
shown : (pairs : Map) (body : Bytes) (f g : Image) → body ≡ built_body pairs → g ≡ overwritten f 8 body → Shows 8 (built_body pairs) g
shown pairs body f g is written =
    subst (λ (b : Bytes). Shows 8 b g) is (subst (λ (i : Image). Shows 8 body i) (sym written) (window_overwritten f 8 body))

-- it stays where the gate is written, or torn
kept : (pairs : Map) (f g : Image) → Shows 8 (built_body pairs) f → Torn 0 1 f g → Shows 8 (built_body pairs) g
kept pairs f g shows torn = window_kept 0 1 f g 8 (length (built_body pairs)) (inr (omega arith)) torn ∙ shows

-- the gate was written over the body
pub opened : (pairs : Map) (body : Bytes) (f g : Image) → body ≡ built_body pairs → g ≡ overwritten (overwritten f 8 body) 0 (1 ∷ []) → HasMap pairs g
opened pairs body f g is written = record {
  gate = ap (λ (i : Image). i 0) written ∙ overwritten_at (overwritten f 8 body) 0 (1 ∷ []) 0 0 refl (omega arith);
  body = kept pairs (overwritten f 8 body) g (shown pairs body f (overwritten f 8 body) is refl) (whole (overwritten f 8 body) g 0 (1 ∷ []) written);
}

module _ (pairs : Map) (body : Bytes) (is : body ≡ built_body pairs) (a b : World) (first : WriteMoves 8 (length body) a b) (closed : Now (λ image. image 0 ≢ 1) a) where
  pub body_meanwhile : Meanwhile (HasNoneOrAll pairs) a b
  body_meanwhile = in_call (HasNoneOrAll pairs) (Torn 8 (length body)) a b (λ image left. inl (closed image left)) first.time
      (λ was image left torn. inl (λ one. closed was left (sym (torn.before 0 (omega arith)) ∙ one)))

  pub gate_meanwhile : (c : World) → IsDurable b → b.seen.held ≡ overwritten a.seen.held 8 body → WriteMoves 0 1 b c → Meanwhile (HasNoneOrAll pairs) a c
  gate_meanwhile c durable written then = meanwhile_then (HasNoneOrAll pairs) a b c body_meanwhile
      (in_call (HasNoneOrAll pairs) (Torn 0 1) b c (now_at (HasNoneOrAll pairs) a b body_meanwhile) then.time
      (λ was image left torn. none_or_all pairs image (kept pairs was image (shown pairs body a.seen.held was is (durable was left ∙ written)) torn)))

-- with the last line behind it
pub during_written : (P : Image → Type 0) (a m b : World) → Meanwhile P a m → m.beside ≡ a.beside → SaidByNow a → SaidByNow m → SayMoves m b → During (λ said image. P image) a b
during_written P a m b meanwhile beside now_a now_m moves =
    during_then (λ said image. P image) a m b
    (during_weaker (λ k image. (k ≡ length a.beside.said) × P image) (λ said image. P image) a m (during_disk P a m meanwhile beside now_a) (λ k image at. at.1))
    (during_weaker (λ k image. (length m.beside.said ≤ k) × (k ≤ length b.beside.said) × m.leaves m.moment image) (λ said image. P image) m b (during_say m b moves now_m)
    (λ k image at. now_at P a m meanwhile image at.2))

-- the map stands where the last line was said behind it
pub lasts : (pairs : Map) (body : Bytes) (f : Image) (m b : World) → body ≡ built_body pairs → m.seen.held ≡ overwritten (overwritten f 8 body) 0 (1 ∷ []) → IsDurable m → SayMoves m b → Now (HasMap pairs) b
lasts pairs body f m b is written durable moves = now_still (HasMap pairs) m b moves.time (λ image left. opened pairs body f image is (durable image left ∙ written))

pub stands : (pairs : Map) (body : Bytes) (f : Image) (m b : World) → body ≡ built_body pairs → m.seen.held ≡ overwritten (overwritten f 8 body) 0 (1 ∷ []) → SayMoves m b → HasMap pairs b.seen.held
stands pairs body f m b is written moves = opened pairs body f b.seen.held is (ap (λ (s : Seen). s.held) moves.seen ∙ written)
