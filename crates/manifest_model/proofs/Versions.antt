-- The version of an image.
use Rattle.std.proofs.Common.{◌≡◌, ◌<◌, ℕ, inl, inr, refl, sym, ap, ap₂, ◌∙◌, subst, arith}
use Rattle.std.proofs.lemmas.Bool.{cases_eq, cases_lt, cond-true, eq-eqb, eqb-true, eqb-false, and_parts}
use Rattle.std.specs.Prelude.{Bool, true, false, cond, ◌&&◌, ◌==◌, Option, Some, None}
use Rattle.std.specs.Option.{option_or}
use Rattle.byte_fields.specs.Spelling.{IsBytes}
use Rattle.byte_fields.specs.declared.parts.Damage.{Damage}
use Rattle.byte_fields.specs.Faults.{refuse}
use Rattle.disk_trait.specs.Image.{Image}
use Rattle.manifest_model.specs.Reading.{body_damage, shape_at, version_in}
use Rattle.manifest_model.specs.SlotLaws.{GreaterEpochIsInUse, NoStoreHasNoVersion, OneVersion, VersionHasNoDamage, VersionIsFound}
use Rattle.manifest_model.specs.Slots.{AreSlots, HoldsVersion, HoldsOlder, IsCurrent, IsNoStore, IsOpenSlot, IsVersionOf, body_in, epochs_damage, slot_damage, slots_damage}
use Rattle.manifest_model.specs.Tables.{epochs_fault}
use Rattle.manifest_model.specs.Version.{Version, slot_a, slot_b}
use Rattle.manifest_model.proofs.Held.{held_is_read, one_held, read_is_held}

-- ---- one at most

-- a slot that holds a version and is older than an epoch has a lesser one
lesser : (slot epoch : ℕ) (v : Version) (image : Image) → HoldsVersion slot v image → HoldsOlder slot epoch image → v.epoch < epoch
lesser slot epoch v image here (inl closed) = elim (closed here.is_open) [ ]
lesser slot epoch v image here (inr old) = subst (λ (u : Version). u.epoch < epoch) (one_held slot old.0 v image old.1 here) old.2

-- two slots are not both in use
not_both : (slot other : ℕ) (v w : Version) (image : Image) → IsCurrent slot other v image → IsCurrent other slot w image → ⊥
not_both slot other v w image a b = omega (arith, lesser other v.epoch w image b.here a.there, lesser slot w.epoch v image a.here b.there)

pub one_version : OneVersion
one_version image v w (inl a) (inl b) = one_held slot_a v w image a.here b.here
one_version image v w (inr a) (inr b) = one_held slot_b v w image a.here b.here
one_version image v w (inl a) (inr b) = elim (not_both slot_a slot_b v w image a b) [ ]
one_version image v w (inr a) (inl b) = elim (not_both slot_b slot_a v w image a b) [ ]

-- one of the two slots is in use
pub in_use : (slot other : ℕ) (v : Version) (image : Image) → AreSlots slot other → IsCurrent slot other v image → IsVersionOf v image
in_use slot other v image (inl are) is = inl (subst (λ (k : ℕ). IsCurrent k slot_b v image) are.0 (subst (λ (k : ℕ). IsCurrent slot k v image) are.1 is))
in_use slot other v image (inr are) is = inr (subst (λ (k : ℕ). IsCurrent k slot_a v image) are.0 (subst (λ (k : ℕ). IsCurrent slot k v image) are.1 is))

pub greater_in_use : GreaterEpochIsInUse
greater_in_use slot other v older image are here there less =
    let is : IsVersionOf v image = in_use slot other v image are (record { here = here; there = inr (older, there, less) }) in
    (is, λ old. omega (arith, less, ap (λ (u : Version). u.epoch) (one_version image v older is old)))

pub no_store : NoStoreHasNoVersion
no_store v image closed (inl is) = closed.0 is.here.is_open
no_store v image closed (inr is) = closed.1 is.here.is_open

-- ---- no damage where there is one

-- a test that fails gives none
none_unless : (test : Bool) (found : Option Damage) → (test ≡ true → found ≡ None) → cond test found None ≡ None
none_unless true found so = so refl
none_unless false found so = refl

slot_sound : (slot : ℕ) (image : Image) → (IsOpenSlot slot image → body_damage slot (body_in slot image) ≡ None) → slot_damage slot image ≡ None
slot_sound slot image so = none_unless (image slot == 1) (body_damage slot (body_in slot image)) (λ opened. so (eqb-true (image slot) 1 opened))

here_sound : (slot : ℕ) (v : Version) (image : Image) → HoldsVersion slot v image → slot_damage slot image ≡ None
here_sound slot v image holds = slot_sound slot image (λ opened. (held_is_read slot v image holds).0)

there_sound : (slot epoch : ℕ) (image : Image) → HoldsOlder slot epoch image → slot_damage slot image ≡ None
there_sound slot epoch image (inl closed) = slot_sound slot image (λ opened. elim (closed opened) [ ])
there_sound slot epoch image (inr older) = here_sound slot older.0 image older.1

both_none : (a b c : Option Damage) → a ≡ None → b ≡ None → c ≡ None → option_or a (option_or b c) ≡ None
both_none a b c is_a is_b is_c = ap (λ (o : Option Damage). option_or o (option_or b c)) is_a ∙ ap (λ (o : Option Damage). option_or o c) is_b ∙ is_c

-- no damage where no slot is open
pub none_open : (image : Image) → IsNoStore image → slots_damage image ≡ None
none_open image none =
    both_none (slot_damage slot_a image) (slot_damage slot_b image) (epochs_damage image)
    (slot_sound slot_a image (λ opened. absurd (none.0 opened))) (slot_sound slot_b image (λ opened. absurd (none.1 opened)))
    (none_unless ((image slot_a == 1) && (image slot_b == 1)) (shape_at slot_b (epochs_fault (version_in (body_in slot_a image)) (version_in (body_in slot_b image))) None)
    (λ opened. absurd (none.0 (eqb-true (image slot_a) 1 (and_parts (image slot_a == 1) (image slot_b == 1) opened).0))))

-- two versions of different epochs
epochs_none : (v w : Version) → (v.epoch ≡ w.epoch → ⊥) → shape_at slot_b (epochs_fault v w) None ≡ None
epochs_none v w differ = elim (v.epoch == w.epoch) as (λ t. (v.epoch == w.epoch) ≡ t → shape_at slot_b (refuse t 8 11 None) None ≡ None) [
  | true ↦ λ same. absurd (differ (eqb-true v.epoch w.epoch same))
  | false ↦ λ same. refl
] refl

-- both slots are open only where the other one holds a lesser epoch
epochs_differ : (slot other : ℕ) (v : Version) (image : Image) → IsCurrent slot other v image → IsOpenSlot other image
    → (version_in (body_in slot image)).epoch ≡ (version_in (body_in other image)).epoch → ⊥
epochs_differ slot other v image is opened same = elim is.there [
  | inl closed ↦ closed opened
  | inr older ↦
      let here = ap (λ (u : Version). u.epoch) (held_is_read slot v image is.here).1 in
      let there = ap (λ (u : Version). u.epoch) (held_is_read other older.0 image older.1).1 in
      absurd (omega (arith, same, here, there, older.2))
]

epochs_pass : (image : Image)
    → (IsOpenSlot slot_a image → IsOpenSlot slot_b image → (version_in (body_in slot_a image)).epoch ≡ (version_in (body_in slot_b image)).epoch → ⊥)
    → epochs_damage image ≡ None
epochs_pass image differ = none_unless ((image slot_a == 1) && (image slot_b == 1)) (shape_at slot_b (epochs_fault (version_in (body_in slot_a image)) (version_in (body_in slot_b image))) None)
    (λ opened.
    let both = and_parts (image slot_a == 1) (image slot_b == 1) opened in
    epochs_none (version_in (body_in slot_a image)) (version_in (body_in slot_b image)) (differ (eqb-true (image slot_a) 1 both.0) (eqb-true (image slot_b) 1 both.1)))

pub no_damage : VersionHasNoDamage
no_damage v image (inl is) =
    both_none (slot_damage slot_a image) (slot_damage slot_b image) (epochs_damage image) (here_sound slot_a v image is.here) (there_sound slot_b v.epoch image is.there)
    (epochs_pass image (λ a b. epochs_differ slot_a slot_b v image is b))
no_damage v image (inr is) =
    both_none (slot_damage slot_a image) (slot_damage slot_b image) (epochs_damage image) (there_sound slot_a v.epoch image is.there) (here_sound slot_b v image is.here)
    (epochs_pass image (λ a b same. epochs_differ slot_b slot_a v image is a (sym same)))

-- ---- and a version where there is none

all_none : (a b c : Option Damage) → option_or a (option_or b c) ≡ None → (a ≡ None) × (b ≡ None) × (c ≡ None)
all_none None None c none = (refl, refl, none)
all_none None (Some b) c none = absurd cc
all_none (Some a) b c none = absurd cc

open_slot : (slot : ℕ) (image : Image) → IsBytes (body_in slot image) → slot_damage slot image ≡ None → IsOpenSlot slot image → HoldsVersion slot (version_in (body_in slot image)) image
open_slot slot image bytes none opened =
    read_is_held slot image opened bytes (sym (cond-true (image slot == 1) (body_damage slot (body_in slot image)) None (eq-eqb (image slot) 1 opened)) ∙ none)

-- the shape of rule 11 is one
no_shape : (v w : Version) → shape_at slot_b (epochs_fault v w) None ≡ None → v.epoch ≡ w.epoch → ⊥
no_shape v w none same = elim (v.epoch == w.epoch) as (λ t. (v.epoch == w.epoch) ≡ t → shape_at slot_b (refuse t 8 11 None) None ≡ None → ⊥) [
  | true ↦ λ is now. absurd cc
  | false ↦ λ is now. eqb-false v.epoch w.epoch is same
] refl none

both_open : (image : Image) → IsOpenSlot slot_a image → IsOpenSlot slot_b image → ((image slot_a == 1) && (image slot_b == 1)) ≡ true
both_open image a b = ap₂ (λ (x y : Bool). x && y) (eq-eqb (image slot_a) 1 a) (eq-eqb (image slot_b) 1 b)

-- of two open slots the one of the greater epoch
of_both : (v w : Version) (image : Image) → HoldsVersion slot_a v image → HoldsVersion slot_b w image → (v.epoch ≡ w.epoch → ⊥) → (u : Version) × IsVersionOf u image
of_both v w image a b differ = elim (cases_lt v.epoch w.epoch) [
  | inl less ↦ (w, inr (record { here = b; there = inr (v, a, less) }))
  | inr more ↦ (v, inl (record { here = a; there = inr (w, b, omega (arith, more, differ)) }))
]

pub found : VersionIsFound
found image bytes_a bytes_b none =
    let parts = all_none (slot_damage slot_a image) (slot_damage slot_b image) (epochs_damage image) none in
    elim (cases_eq (image slot_a) 1) [
      | inl a ↦ elim (cases_eq (image slot_b) 1) [
        | inl b ↦ inr (of_both (version_in (body_in slot_a image)) (version_in (body_in slot_b image)) image (open_slot slot_a image bytes_a parts.0 a) (open_slot slot_b image bytes_b parts.1 b)
            (no_shape (version_in (body_in slot_a image)) (version_in (body_in slot_b image))
            (sym (cond-true ((image slot_a == 1) && (image slot_b == 1)) (shape_at slot_b (epochs_fault (version_in (body_in slot_a image)) (version_in (body_in slot_b image))) None) None (both_open image a b)) ∙ parts.2)))
        | inr closed ↦ inr (version_in (body_in slot_a image), inl (record { here = open_slot slot_a image bytes_a parts.0 a; there = inl closed }))
      ]
      | inr not_a ↦ elim (cases_eq (image slot_b) 1) [
        | inl b ↦ inr (version_in (body_in slot_b image), inr (record { here = open_slot slot_b image bytes_b parts.1 b; there = inl not_a }))
        | inr not_b ↦ inl (not_a, not_b)
      ]
    ]

-- the slot in use is one of them
pub one_slot : (slot other more others : ℕ) (v w : Version) (image : Image) → AreSlots slot other → AreSlots more others → IsCurrent slot other v image
    → IsCurrent more others w image → slot ≡ more
one_slot slot other more others v w image (inl a) (inl b) here there = a.0 ∙ sym b.0
one_slot slot other more others v w image (inr a) (inr b) here there = a.0 ∙ sym b.0
one_slot slot other more others v w image (inl a) (inr b) here there =
    absurd (not_both slot other v w image here
    (subst (λ (k : ℕ). IsCurrent k slot w image) (b.0 ∙ sym a.1) (subst (λ (k : ℕ). IsCurrent more k w image) (b.1 ∙ sym a.0) there)))
one_slot slot other more others v w image (inr a) (inl b) here there =
    absurd (not_both slot other v w image here
    (subst (λ (k : ℕ). IsCurrent k slot w image) (b.0 ∙ sym a.1) (subst (λ (k : ℕ). IsCurrent more k w image) (b.1 ∙ sym a.0) there)))
