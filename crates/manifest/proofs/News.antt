-- The first version of a store: its body behind a closed gate, and then the gate.
use Rattle.std.proofs.Common.{◌≡◌, ◌≤◌, inl, inr, ℕ, [], ◌∷◌, length, refl, sym, ap, ◌∙◌, subst, arith}
use Rattle.std.proofs.lemmas.Bool.{cases_eq}
use Rattle.std.specs.Prelude.{Result, Ok, Err, OnOk}
use Rattle.disk_trait.specs.Image.{Image, Shows, Torn, overwritten}
use Rattle.disk_trait.specs.World.{IsDurable, Leads, Meanwhile, Moves, Now, World, WriteMoves}
use Rattle.disk_trait.proofs.Moments.{in_call, meanwhile_weaker, now_at}
use Rattle.disk_trait.proofs.Images.{overwritten_at, whole, window_kept, window_overwritten}
use Rattle.map_model.specs.SortedMap.{Bytes}
use Rattle.manifest_model.specs.Installs.{WriteTurns}
use Rattle.manifest_model.specs.Laws.{IsVersion}
use Rattle.manifest_model.specs.Slots.{IsNoStore, IsVersionOf}
use Rattle.manifest_model.specs.Version.{Version, body_bytes, body_place, slot_a}
use Rattle.manifest_model.proofs.Held.{body_fits}
use Rattle.manifest_model.proofs.Installs.{turns_leads}
use Rattle.manifest.specs.NewManifest.{IsNew, IsNewOrNone}

-- its body stands, and no slot is open
pub record IsPrepared (v : Version) (image : Image) : Type 0 where
  pub closed : IsNoStore image
  pub body : Shows (body_place slot_a) (body_bytes 2 v) image

module _ (v : Version) (is : IsVersion v) where
  fits : length (body_bytes 2 v) ≤ 131064
  fits = body_fits 2 v is

  still_none : (f g : Image) → IsNoStore f → Torn 8 (length (body_bytes 2 v)) f g → IsNoStore g
  still_none f g none torn =
      (λ now. none.0 (sym (torn.before 0 (omega arith)) ∙ now), λ now. none.1 (sym (torn.after 131072 (omega (arith, fits))) ∙ now))

  prepared : (f g : Image) → IsNoStore f → g ≡ overwritten f 8 (body_bytes 2 v) → IsPrepared v g
  prepared f g none done = record {
    closed = still_none f g none (whole f g 8 (body_bytes 2 v) done);
    body = subst (λ (h : Image). Shows 8 (body_bytes 2 v) h) (sym done) (window_overwritten f 8 (body_bytes 2 v));
  }

  pub prepares : WriteTurns IsNoStore (IsNewOrNone v) (IsPrepared v) 8 (body_bytes 2 v)
  prepares = record { first = λ f none. inl none; torn = λ f g none torn. inl (still_none f g none torn); done = prepared }

  is_new : (f g : Image) → IsPrepared v f → Torn 0 1 f g → g 0 ≡ 1 → IsNew v g
  is_new f g p torn gate = record {
    here = record { is_open = gate; sound = is; format = 2; may = inl refl; body = window_kept 0 1 f g 8 (length (body_bytes 2 v)) (inr (omega arith)) torn ∙ p.body };
    format = refl;
    closed = λ now. p.closed.1 (sym (torn.after 131072 (omega arith)) ∙ now);
  }

  pub new_is_version : (image : Image) → IsNew v image → IsVersionOf v image
  new_is_version image new = inl (record { here = new.here; there = inl new.closed })

  opening : (f g : Image) → IsPrepared v f → Torn 0 1 f g → IsNewOrNone v g
  opening f g p torn = elim (cases_eq (g 0) 1) [
    | inl gate ↦ inr (new_is_version g (is_new f g p torn gate))
    | inr closed ↦ inl (closed, λ now. p.closed.1 (sym (torn.after 131072 (omega arith)) ∙ now))
  ]

  opened : (f g : Image) → IsPrepared v f → g ≡ overwritten f 0 (1 ∷ []) → IsNew v g
  opened f g p done = is_new f g p (whole f g 0 (1 ∷ []) done) (ap (λ (h : Image). h 0) done ∙ overwritten_at f 0 (1 ∷ []) 0 0 (omega arith) (omega arith))

  pub opens_first : WriteTurns (IsPrepared v) (IsNewOrNone v) (IsNew v) 0 (1 ∷ [])
  opens_first = record { first = λ f p. inl p.closed; torn = opening; done = opened }

  -- ---- over the moments of a disk

  module _ {T E : Type 0} (result : Result T E) (a b : World) (current : a.leaves a.moment a.seen.held) (durable : OnOk result (IsDurable b)) where
    pub prepares_at : (at : ℕ) → at ≡ 8 → (body : Bytes) → body ≡ body_bytes 2 v → WriteMoves at (length body) a b → OnOk result (b.seen.held ≡ overwritten a.seen.held at body)
        → Leads IsNoStore (IsNewOrNone v) (IsPrepared v) result a b
    prepares_at at here body same moves written =
        turns_leads IsNoStore (IsNewOrNone v) (IsPrepared v) at body result a b
        (subst (λ (n : ℕ). WriteTurns IsNoStore (IsNewOrNone v) (IsPrepared v) n body) (sym here)
        (subst (λ (bytes : Bytes). WriteTurns IsNoStore (IsNewOrNone v) (IsPrepared v) 8 bytes) (sym same) prepares)) current moves written durable

    pub opens_at : (at : ℕ) → at ≡ 0 → WriteMoves at 1 a b → OnOk result (b.seen.held ≡ overwritten a.seen.held at (1 ∷ []))
        → Leads (IsPrepared v) (IsNewOrNone v) (IsNew v) result a b
    opens_at at here moves written =
        turns_leads (IsPrepared v) (IsNewOrNone v) (IsNew v) at (1 ∷ []) result a b
        (subst (λ (n : ℕ). WriteTurns (IsPrepared v) (IsNewOrNone v) (IsNew v) n (1 ∷ [])) (sym here) opens_first) current moves written durable

  -- a look at the gates writes nothing
  none_kept : (f g : Image) → IsNoStore f → Torn 0 0 f g → IsNoStore g
  none_kept f g none torn = (λ now. none.0 (sym (torn.after 0 (omega arith)) ∙ now), λ now. none.1 (sym (torn.after 131072 (omega arith)) ∙ now))

  pub looked : {T E : Type 0} (result : Result T E) (a b : World) → Moves 0 0 2 a b → Leads IsNoStore (IsNewOrNone v) IsNoStore result a b
  looked result a b moves = record {
    meanwhile = λ here. meanwhile_weaker IsNoStore (IsNewOrNone v) a b (still here) (λ f none. inl none);
    after = λ here. always result (now_at IsNoStore a b (still here));
  } where
    still : Now IsNoStore a → Meanwhile IsNoStore a b
    still here = in_call IsNoStore (Torn 0 0) a b here moves.time (λ was image left torn. none_kept was image (here was left) torn)

    always : {T E : Type 0} {R : Type 0} (r : Result T E) → R → OnOk r R
    always (Ok x) holds = holds
    always (Err e) holds = tt
