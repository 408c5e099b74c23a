-- What is read of the slots, and what loading answers of it.
use Rattle.std.proofs.Common.{◌≡◌, ◌⊎◌, inl, inr, ◌<◌, ◌≤◌, ◌+◌, ◌-◌, ◌*◌, ℕ, [], ◌++◌, length, length-append, take, drop, Bool, true, false, refl, sym, ap, ap₂, ◌∙◌, subst, arith}
use Rattle.std.specs.Prelude.{◌≢◌, Option, Some, None, Result, Ok, Err, ◌==◌, cond, ◌&&◌, MatchResult, IfOk, IfErr, OnOk, OnErr}
use Rattle.std.specs.Result.{IsErrAnd}
use Rattle.std.specs.Option.{option_or}
use Rattle.std.proofs.lemmas.Bool.{eq-eqb, ne_eqb}
use Rattle.std.proofs.lemmas.List.{append-nil, drop_all, drop_at, length-drop, take-append-drop, take_at}
use borrow.Rule.Slice.PartMut.{post_of}
use Rattle.std.proofs.Math.Seq.{take-length}
use Rattle.byte_fields.specs.Spelling.{IsBytes}
use Rattle.byte_fields.specs.Faults.{Fault, refuse, fault as rule_at}
use Rattle.byte_fields.specs.declared.parts.Damage.{Damage}
use Rattle.disk_trait.specs.Image.{Image, window}
use Rattle.disk_trait.specs.World.{World}
use Rattle.disk_trait.proofs.Images.{window_size, window_split}
use Rattle.map_model.specs.SortedMap.{Bytes}
use Rattle.manifest_model.specs.Reading.{body_damage, body_format, table_count_in, early_fault, prefix_length_in, shape_at, version_in}
use Rattle.manifest_model.specs.Slots.{HoldsVersion, IsNoStore, IsVersionOf, body_in, body_room, epochs_damage, slot_damage, slots_damage}
use Rattle.manifest_model.specs.Tables.{epochs_fault}
use Rattle.manifest_model.specs.Version.{Version, body_place, slot_a, slot_b}
use Rattle.manifest_model.proofs.Held.{held_is_read, room_is}
use Rattle.manifest_model.proofs.Versions.{in_use, no_damage, no_store, none_open, one_version}
use Rattle.manifest_model.proofs.VersionsWritten.{body_written}
use Rattle.manifest.specs.Causes.{HasBodyCause}
use Rattle.manifest.specs.Loading.{IsFoundIn, IsFree, IsLoadAnswer, IsLoaded, IsNoStoreAnswer, IsOfSlot, IsSlotAnswer, IsVersionAt, one_epoch}
use Rattle.manifest.specs.Manifest.{Manifest, StandsInSlot, other_place, place_of}
use Rattle.manifest.specs.Reading.{IsBodyDamage, IsDamage, IsSpelled, shape_of}
use Rattle.manifest.specs.declared.fault.ManifestFault.{ManifestFault}
use Rattle.manifest.specs.declared.fault.ManifestFault.TheVariants as fault
use Rattle.manifest.proofs.Bodies.{head_broken}
use Rattle.manifest.proofs.Fronts.{count_front, damage_front, first_front}
use Rattle.manifest.proofs.Steps.{are_slots}

-- ---- a body is the front of what stands behind its gate

front_taken : (slot n : ℕ) (image : Image) → n ≤ 131064 → take n (body_in slot image) ≡ window image (body_place slot) n
front_taken slot n image le =
    let split : window image (body_place slot) body_room ≡ window image (body_place slot) n ++ window image (body_place slot + n) (body_room - n) =
    ap (window image (body_place slot)) (omega (arith, le, room_is)) ∙ window_split image (body_place slot) n (body_room - n) in
    ap (take n) split ∙ take_at (window image (body_place slot) n) (window image (body_place slot + n) (body_room - n)) n (window_size image (body_place slot) n)

-- a head that was read
module _ (slot : ℕ) (image : Image) (head : Bytes) (is : head ≡ window image (body_place slot) 64) where
  head_taken : head ≡ take 64 (body_in slot image)
  head_taken = is ∙ sym (front_taken slot 64 image (omega arith))

  pub head_damage : (f : Fault) → early_fault head ≡ Some f → body_damage slot (body_in slot image) ≡ Some (shape_of slot f)
  head_damage f found =
      head_broken slot (body_in slot image) f (sym (first_front (body_in slot image) 64 (omega arith)) ∙ ap early_fault (sym head_taken) ∙ found)

  -- and the whole body
  module _ (body : Bytes) (size : length body ≡ 72 + 64 * table_count_in head) (few : table_count_in head ≤ 1024) (front : take 64 body ≡ head)
      (rest : drop 64 body ≡ window image (body_place slot + 64) (length body - 64)) where
    abbrev n : ℕ
    n = 72 + 64 * table_count_in head

    body_is : body ≡ window image (body_place slot) n
    body_is =
        let left : length body - 64 ≡ 8 + 64 * table_count_in head = omega (arith, size) in
        let sum : 64 + (8 + 64 * table_count_in head) ≡ n = omega arith in
        sym (take-append-drop 64 body) ∙ ap₂ (λ (a b : Bytes). a ++ b) (front ∙ is) (rest ∙ ap (window image (body_place slot + 64)) left)
        ∙ sym (window_split image (body_place slot) 64 (8 + 64 * table_count_in head)) ∙ ap (window image (body_place slot)) sum

    taken : body ≡ take n (body_in slot image)
    taken = body_is ∙ sym (front_taken slot n image (omega (arith, few)))

    counted : table_count_in (body_in slot image) ≡ table_count_in head
    counted = sym (count_front (body_in slot image) 64 (omega arith)) ∙ ap table_count_in (sym head_taken)

    long_enough : prefix_length_in (body_in slot image) + 8 ≤ n
    unfolding prefix_length_in
    long_enough = omega (arith, counted)

    pub body_damage_is : body_damage slot body ≡ body_damage slot (body_in slot image)
    body_damage_is = ap (body_damage slot) taken ∙ damage_front (body_in slot image) n long_enough slot

    pub shown : IsSpelled body → IsVersionAt slot (version_in body) image
    shown is_spelled = record {
      sound = is_spelled.sound;
      format = body_format body;
      may = is_spelled.may;
      body = ap (window image (body_place slot)) (ap length is_spelled.spelled ∙ size) ∙ sym body_is ∙ sym is_spelled.spelled;
    }

-- what keeps the rules is a version, and is spelled so
pub is_written : (slot : ℕ) (body : Bytes) → IsBytes body → length body ≡ 72 + 64 * table_count_in body → body_damage slot body ≡ None
    → IsSpelled body
unfolding prefix_length_in
is_written slot body bytes size none =
    let front : 64 + 64 * table_count_in body + 8 ≡ length body = omega (arith, size) in
    let so = body_written slot body bytes (omega (arith, front)) none in
    record { sound = so.0; may = so.1; spelled = so.2 ∙ ap (λ (m : ℕ). take m body) front ∙ take-length body }

pub same_count : (head body : Bytes) → take 64 body ≡ head → table_count_in body ≡ table_count_in head
same_count head body front = sym (count_front body 64 (omega arith)) ∙ ap table_count_in front

pub same_first : (head body : Bytes) → take 64 body ≡ head → early_fault body ≡ early_fault head
same_first head body front = sym (first_front body 64 (omega arith)) ∙ ap early_fault front

-- a buffer that was filled in two parts
pub filled_head : (head part old rest : Bytes) → part ≡ head → length head ≡ 64 → take 64 (take 64 (part ++ drop 64 old) ++ rest) ≡ head
filled_head head part old rest is size =
    let long : length part ≡ 64 = ap length is ∙ size in
    let front : take 64 (part ++ drop 64 old) ≡ part = take_at part (drop 64 old) 64 long in
    take_at (take 64 (part ++ drop 64 old)) rest 64 (ap length front ∙ long) ∙ front ∙ is

pub filled_rest : (head part old into : Bytes) → part ≡ head → length head ≡ 64 → 64 ≤ length old
    → drop 64 (take 64 (part ++ drop 64 old) ++ (into ++ post_of 64 (length (part ++ drop 64 old) - 64) (part ++ drop 64 old))) ≡ into
filled_rest head part old into is size long_old =
    let now = part ++ drop 64 old in
    let long : length part ≡ 64 = ap length is ∙ size in
    let front : take 64 now ≡ part = take_at part (drop 64 old) 64 long in
    let none : post_of 64 (length now - 64) now ≡ [] = drop_all (length now - 64) (drop 64 now) (omega (arith, length-drop 64 now)) in
    drop_at (take 64 now) (into ++ post_of 64 (length now - 64) now) 64 (ap length front ∙ long) ∙ ap (λ (l : Bytes). into ++ l) none ∙ append-nil into

pub filled_size : (head part old : Bytes) → part ≡ head → length head ≡ 64 → 64 ≤ length old → length (part ++ drop 64 old) ≡ length old
filled_size head part old is size long = omega (arith, length-append part (drop 64 old), ap length is, size, length-drop 64 old, long)

-- ---- a slot

open_damage : (slot : ℕ) (image : Image) → image slot ≡ 1 → slot_damage slot image ≡ body_damage slot (body_in slot image)
open_damage slot image opened = ap (λ (t : Bool). cond t (body_damage slot (body_in slot image)) None) (eq-eqb (image slot) 1 opened)

closed_damage : (slot : ℕ) (image : Image) → image slot ≢ 1 → slot_damage slot image ≡ None
closed_damage slot image closed = ap (λ (t : Bool). cond t (body_damage slot (body_in slot image)) None) (ne_eqb (image slot) 1 closed)

-- one that is open holds a version that was read from it, or has the damage of its body
pub found_in : (slot : ℕ) (v : Version) (image : Image) → image slot ≡ 1 → IsVersionAt slot v image → IsFoundIn slot v image
found_in slot v image opened held =
    let holds : HoldsVersion slot v image = record { is_open = opened; sound = held.sound; format = held.format; may = held.may; body = held.body } in
    let read = held_is_read slot v image holds in
    record { holds = holds; none = open_damage slot image opened ∙ read.0; read = read.1 }

pub slot_damaged : (slot : ℕ) (image : Image) (found : ManifestFault) → image slot ≡ 1 → IsDamage (body_damage slot (body_in slot image)) found → IsDamage (slot_damage slot image) found
slot_damaged slot image found opened is = subst (λ (o : Option Damage). IsDamage o found) (sym (open_damage slot image opened)) is

none_in : (slot : ℕ) (image : Image) (found : Option Manifest) → IsSlotAnswer slot image found → slot_damage slot image ≡ None
none_in slot image None closed = closed_damage slot image closed
none_in slot image (Some m) is = is.none

-- ---- both slots: damage of slot A, of slot B where slot A has none, of both

pub a_answer : (image : Image) (found : ManifestFault) → IsDamage (slot_damage slot_a image) found → IsLoadAnswer image found
a_answer image fault.Memory is = tt
a_answer image (fault.Device cause) is = tt
a_answer image fault.NotAStore is = absurd is
a_answer image fault.AlreadyAStore is = is
a_answer image fault.Epoch is = is
a_answer image (fault.Damaged d) is = ap (λ (o : Option Damage). option_or o (option_or (slot_damage slot_b image) (epochs_damage image))) is

after_a : (image : Image) → slot_damage slot_a image ≡ None → slots_damage image ≡ option_or (slot_damage slot_b image) (epochs_damage image)
after_a image none = ap (λ (o : Option Damage). option_or o (option_or (slot_damage slot_b image) (epochs_damage image))) none

pub b_answer : (image : Image) (a : Option Manifest) (found : ManifestFault) → IsSlotAnswer slot_a image a → IsDamage (slot_damage slot_b image) found → IsLoadAnswer image found
b_answer image a fault.Memory in_a is = tt
b_answer image a (fault.Device cause) in_a is = tt
b_answer image a fault.NotAStore in_a is = absurd is
b_answer image a fault.AlreadyAStore in_a is = is
b_answer image a fault.Epoch in_a is = is
b_answer image a (fault.Damaged d) in_a is = after_a image (none_in slot_a image a in_a) ∙ ap (λ (o : Option Damage). option_or o (epochs_damage image)) is

both_of_one : (a b : Version) (image : Image) → IsFoundIn slot_a a image → IsFoundIn slot_b b image → a.epoch ≡ b.epoch → slots_damage image ≡ Some one_epoch
both_of_one a b image in_a in_b same =
    let gates : ((image slot_a == 1) && (image slot_b == 1)) ≡ true = ap₂ (λ (x y : Bool). x && y) (eq-eqb (image slot_a) 1 in_a.holds.is_open) (eq-eqb (image slot_b) 1 in_b.holds.is_open) in
    let epochs : ((version_in (body_in slot_a image)).epoch == (version_in (body_in slot_b image)).epoch) ≡ true =
    eq-eqb _ _ (ap (λ (v : Version). v.epoch) in_a.read ∙ same ∙ sym (ap (λ (v : Version). v.epoch) in_b.read)) in
    let rule : epochs_fault (version_in (body_in slot_a image)) (version_in (body_in slot_b image)) ≡ Some (rule_at 8 11) = ap (λ (t : Bool). refuse t 8 11 None) epochs in
    let both : epochs_damage image ≡ Some one_epoch =
    ap (λ (t : Bool). cond t (shape_at slot_b (epochs_fault (version_in (body_in slot_a image)) (version_in (body_in slot_b image))) None) None) gates
    ∙ ap (λ (o : Option Fault). shape_at slot_b o None) rule in
    after_a image in_a.none ∙ ap (λ (o : Option Damage). option_or o (epochs_damage image)) in_b.none ∙ both

-- ---- the answers exclude one another

loaded_is_version : (image : Image) (found : Manifest) → IsLoaded image found → IsVersionOf found.version image
loaded_is_version image found is = in_use (place_of found.slot) (other_place found.slot) found.version image (are_slots found.slot is.slot) is.stands.current

some_none : (d : Damage) (o : Option Damage) → o ≡ Some d → o ≡ None → ⊥
some_none d (Some x) a b = absurd cc
some_none d None a b = absurd cc

pub exact_of : (image : Image) (v : Version) (result : Result Manifest ManifestFault) → MatchResult result (IsLoaded image) (IsLoadAnswer image) → IsVersionOf v image
    → MatchResult result (λ found. found.version ≡ v) IsFree
exact_of image v (Ok found) is version = one_version image found.version v (loaded_is_version image found is) version
exact_of image v (Err fault.Memory) is version = tt
exact_of image v (Err (fault.Device cause)) is version = tt
exact_of image v (Err fault.NotAStore) is version = no_store v image is version
exact_of image v (Err fault.AlreadyAStore) is version = is
exact_of image v (Err fault.Epoch) is version = is
exact_of image v (Err (fault.Damaged d)) is version = some_none d (slots_damage image) is (no_damage v image version)

pub none_of : (image : Image) (result : Result Manifest ManifestFault) → MatchResult result (IsLoaded image) (IsLoadAnswer image) → IsNoStore image
    → MatchResult result (λ _. ⊥) IsNoStoreAnswer
none_of image (Ok found) is none = no_store found.version image none (loaded_is_version image found is)
none_of image (Err fault.Memory) is none = tt
none_of image (Err (fault.Device cause)) is none = tt
none_of image (Err fault.NotAStore) is none = tt
none_of image (Err fault.AlreadyAStore) is none = is
none_of image (Err fault.Epoch) is none = is
none_of image (Err (fault.Damaged d)) is none = some_none d (slots_damage image) is (none_open image none)

pub damaged_of : (image : Image) (d : Damage) (result : Result Manifest ManifestFault) → MatchResult result (IsLoaded image) (IsLoadAnswer image) → slots_damage image ≡ Some d
    → MatchResult result (λ _. ⊥) (IsDamage (Some d))
damaged_of image d (Ok found) is damage = some_none d (slots_damage image) damage (no_damage found.version image (loaded_is_version image found is))
damaged_of image d (Err fault.Memory) is damage = tt
damaged_of image d (Err (fault.Device cause)) is damage = tt
damaged_of image d (Err fault.NotAStore) is damage = some_none d (slots_damage image) damage (none_open image is)
damaged_of image d (Err fault.AlreadyAStore) is damage = is
damaged_of image d (Err fault.Epoch) is damage = is
damaged_of image d (Err (fault.Damaged other)) is damage = sym damage ∙ is

-- ---- the answers of one slot, and of both

lifted : (P Q : ManifestFault → Type 0) (result : Result Manifest ManifestFault) → ((f : ManifestFault) → P f → Q f) → IfErr result P → IfErr result Q
lifted P Q (Ok v) weaker is = tt
lifted P Q (Err f) weaker is = weaker f is

body_is_damage : (o : Option Damage) (f : ManifestFault) → IsBodyDamage o f → IsDamage o f
body_is_damage o fault.Memory is = tt
body_is_damage o (fault.Device cause) is = absurd is
body_is_damage o fault.NotAStore is = is
body_is_damage o fault.AlreadyAStore is = is
body_is_damage o fault.Epoch is = is
body_is_damage o (fault.Damaged d) is = is

body_has_cause : (slot : ℕ) (old new : World) (o : Option Damage) (f : ManifestFault) → IsBodyDamage o f → HasBodyCause slot old new f
body_has_cause slot old new o fault.Memory is = tt
body_has_cause slot old new o (fault.Device cause) is = absurd is
body_has_cause slot old new o fault.NotAStore is = is
body_has_cause slot old new o fault.AlreadyAStore is = is
body_has_cause slot old new o fault.Epoch is = is
body_has_cause slot old new o (fault.Damaged d) is = tt

pub damage_found : (o same : Option Damage) (result : Result Manifest ManifestFault) → o ≡ same → IfErr result (IsBodyDamage o) → IfErr result (IsDamage same)
damage_found o same result is damage = subst (λ (p : Option Damage). IfErr result (IsDamage p)) is (lifted (IsBodyDamage o) (IsDamage o) result (body_is_damage o) damage)

pub has_cause : (slot : ℕ) (old new : World) (o : Option Damage) (result : Result Manifest ManifestFault) → IfErr result (IsBodyDamage o) → IfErr result (HasBodyCause slot old new)
has_cause slot old new o result damage = lifted (IsBodyDamage o) (HasBodyCause slot old new) result (body_has_cause slot old new o) damage

pub version_has : (P : Version → Type 0) (Q : Type 0) (w : Version) (slot : ℕ) (result : Result Manifest ManifestFault)
    → IfOk result (λ v. v ≡ record { version = w; slot = slot; other_open = false }) → OnOk result Q → (Q → P w) → IfOk result (λ found. P found.version)
version_has P Q w slot (Ok v) is q gives = subst (λ (m : Manifest). P m.version) (sym is) (gives q)
version_has P Q w slot (Err f) is q gives = tt

pub err_answer : (image : Image) (result : Result Manifest ManifestFault) (f : ManifestFault) → IsErrAnd result (λ e. e ≡ f) → IsLoadAnswer image f
    → MatchResult result (IsLoaded image) (IsLoadAnswer image)
err_answer image (Ok v) f is answer = absurd is
err_answer image (Err e) f is answer = subst (IsLoadAnswer image) (sym is) answer

-- a version that is answered from a slot, with the other gate as it is said to be
loaded_at : (image : Image) (slot : ℕ) (said : Bool) (m : Manifest) → (m.slot ≡ slot) × (m.other_open ≡ said) → slot ≤ 1 → StandsInSlot slot said m.version image → IsLoaded image m
loaded_at image slot said m at le stands = record {
  slot = subst (λ (n : ℕ). n ≤ 1) (sym at.0) le;
  stands = subst (λ (n : ℕ). StandsInSlot n m.other_open m.version image) (sym at.0) (subst (λ (t : Bool). StandsInSlot slot t m.version image) (sym at.1) stands);
}

-- one open slot
pub alone_answer : (slot : ℕ) (image : Image) (m : Manifest) → slot ≤ 1 → IsOfSlot slot m → HoldsVersion (place_of slot) m.version image → image (other_place slot) ≢ 1
    → IsLoaded image m
alone_answer slot image m le at here closed = loaded_at image slot false m at le (record { current = record { here = here; there = inl closed }; gate = closed })

-- of two the one of the greater epoch
newer_open : (slot : ℕ) (image : Image) (m : Manifest) (older : Version) → slot ≤ 1 → m.slot ≡ slot → HoldsVersion (place_of slot) m.version image
    → HoldsVersion (other_place slot) older image → older.epoch < m.version.epoch → IsLoaded image (record m { other_open = true })
newer_open slot image m older le at here there less =
    loaded_at image slot true (record m { other_open = true }) (at, refl) le (record { current = record { here = here; there = inr (older, there, less) }; gate = there.is_open })

pub both_answer : (image : Image) (a b : Manifest) (result : Result Manifest ManifestFault) → a.slot ≡ 0 → b.slot ≡ 1 → IsFoundIn slot_a a.version image → IsFoundIn slot_b b.version image
    → IfOk result (λ v. ((v ≡ record a { other_open = true }) × (b.version.epoch < a.version.epoch)) ⊎ ((v ≡ record b { other_open = true }) × (a.version.epoch < b.version.epoch)))
    → OnErr result (a.version.epoch ≡ b.version.epoch) → IfErr result (λ f. f ≡ fault.Damaged one_epoch) → MatchResult result (IsLoaded image) (IsLoadAnswer image)
both_answer image a b (Err f) at_a at_b in_a in_b version same damage = subst (IsLoadAnswer image) (sym damage) (both_of_one a.version b.version image in_a in_b same)
both_answer image a b (Ok v) at_a at_b in_a in_b version same damage =
    elim version [
      | inl first ↦ subst (IsLoaded image) (sym first.0) (newer_open 0 image a b.version (omega arith) at_a in_a.holds in_b.holds first.1)
      | inr second ↦ subst (IsLoaded image) (sym second.0) (newer_open 1 image b a.version (omega arith) at_b in_b.holds in_a.holds second.1)
    ]
