use Rattle.std.proofs.Common.{◌≡◌, ◌≤◌, ◌+◌, ◌-◌, ◌*◌, ℕ, length, take, drop, sym, ap, ap₂, ◌∙◌, subst, arith}
use Rattle.std.proofs.lemmas.List.{take_at}
use Rattle.disk_trait.specs.Image.{Image, window}
use Rattle.manifest_model.specs.Laws.{IsVersion}
use Rattle.manifest_model.specs.Reading.{body_damage, table_count_in, early_fault, version_in}
use Rattle.manifest_model.specs.Slots.{body_in}
use Rattle.manifest_model.specs.Version.{Version, body_place}
use Rattle.manifest_model.proofs.Held.{room_is}
use Rattle.manifest.specs.Loading.{IsVersionAt}
use Rattle.manifest.specs.Manifest.{place_of}
use Rattle.manifest.specs.Reading.{IsDamage, IsSpelled}
use Rattle.manifest.proofs.Bodies.{few_kept}
use Rattle.manifest.proofs.Loads.{body_damage_is, damage_found, has_cause, head_damage, same_count, same_first, shown, version_has}
use Rattle.manifest.proofs.loading.read_version.Goals as goal

pub returns-in-Some-clause-damage : goal.returns-in-Some-clause-damage
returns-in-Some-clause-damage g c tells =
    let slot = place_of c.args.slot in
    let held = (g.D.Disk.world c.args.disk.now).seen.held in
    let is : c.read.new.into ≡ window held (body_place slot) 64 = c.in_ok-read.ensures.bytes tells ∙ ap (λ (n : ℕ). window held (n + 8) 64) c.slot_place-at.ensures in
    subst (IsDamage (body_damage slot (body_in slot held))) (sym c.shape.ensures) (head_damage slot held c.read.new.into is c.in-Some.broken (sym c.head_rules.ensures ∙ c.in-Some.is))

pub fill-requires-clause-short : goal.fill-requires-clause-short
fill-requires-clause-short g c =
    let few = few_kept c.read.new.into (sym c.head_rules.ensures ∙ c.in_default.is) in
    omega (arith, c.deref_mut.ensures.len, c.in_ok-body.ensures.len, c.from-count.ensures, c.get_u16.ensures, few, room_is)

pub read_body-requires-clause-head : goal.read_body-requires-clause-head
read_body-requires-clause-head g c =
    let head = c.read.new.into in
    let body = c.fill.new.body in
    let is : c.deref.result.now ≡ body = c.deref.ensures.value ∙ take_at body _ c.in_ok-body.body.len (c.in_ok-fill.ensures.size ∙ c.deref_mut.ensures.len) in
    ap early_fault is ∙ same_first head body c.in_ok-fill.ensures.head ∙ sym c.head_rules.ensures ∙ c.in_default.is

pub read_body-requires-clause-few : goal.read_body-requires-clause-few
read_body-requires-clause-few g c =
    let head = c.read.new.into in
    let body = c.fill.new.body in
    let is : c.deref.result.now ≡ body = c.deref.ensures.value ∙ take_at body _ c.in_ok-body.body.len (c.in_ok-fill.ensures.size ∙ c.deref_mut.ensures.len) in
    let few = few_kept head (sym c.head_rules.ensures ∙ c.in_default.is) in
    subst (λ (n : ℕ). n ≤ 1024) (sym (ap table_count_in is ∙ same_count head body c.in_ok-fill.ensures.head)) few

pub returns-clause-held : goal.returns-clause-held
returns-clause-held g c tells =
    let slot = place_of c.args.slot in
    let held = (g.D.Disk.world c.args.disk.now).seen.held in
    let head = c.read.new.into in
    let body = c.fill.new.body in
    let here = c.deref.result.now in
    let is : here ≡ body = c.deref.ensures.value ∙ take_at body _ c.in_ok-body.body.len (c.in_ok-fill.ensures.size ∙ c.deref_mut.ensures.len) in
    let at : head ≡ window held (body_place slot) 64 = c.in_ok-read.ensures.bytes tells ∙ ap (λ (n : ℕ). window held (n + 8) 64) c.slot_place-at.ensures in
    let few = few_kept head (sym c.head_rules.ensures ∙ c.in_default.is) in
    let size : length here ≡ 72 + 64 * table_count_in head = omega (arith, ap length is, c.in_ok-fill.ensures.size, c.deref_mut.ensures.len, c.in_ok-body.ensures.len, c.from-count.ensures, c.get_u16.ensures) in
    let front : take 64 here ≡ head = ap (take 64) is ∙ c.in_ok-fill.ensures.head in
    let long : length c.deref_mut.result.now - 64 ≡ length here - 64 = ap (λ (n : ℕ). n - 64) (sym (ap length is ∙ c.in_ok-fill.ensures.size)) in
    let rest : drop 64 here ≡ window held (body_place slot + 64) (length here - 64) =
    ap (drop 64) is ∙ c.in_ok-fill.ensures.rest tells ∙ ap (λ (f : Image). window f (c.slot_place-at.result + 8 + 64) (length c.deref_mut.result.now - 64)) c.in_ok-read.ensures.moves.held
    ∙ ap₂ (λ (n m : ℕ). window held (n + 8 + 64) m) c.slot_place-at.ensures long in
    version_has (λ (v : Version). IsVersionAt slot v held) (IsSpelled here) (version_in here) c.args.slot c.read_body.result
    c.read_body.ensures.version c.read_body.ensures.sound (λ so. shown slot held head at here size few front rest so)

pub returns-clause-sound : goal.returns-clause-sound
returns-clause-sound g c =
    let here = c.deref.result.now in
    version_has IsVersion (IsSpelled here) (version_in here) c.args.slot c.read_body.result
    c.read_body.ensures.version c.read_body.ensures.sound (λ so. so.sound)

pub returns-clause-damage : goal.returns-clause-damage
returns-clause-damage g c tells =
    let slot = place_of c.args.slot in
    let held = (g.D.Disk.world c.args.disk.now).seen.held in
    let head = c.read.new.into in
    let body = c.fill.new.body in
    let here = c.deref.result.now in
    let is : here ≡ body = c.deref.ensures.value ∙ take_at body _ c.in_ok-body.body.len (c.in_ok-fill.ensures.size ∙ c.deref_mut.ensures.len) in
    let at : head ≡ window held (body_place slot) 64 = c.in_ok-read.ensures.bytes tells ∙ ap (λ (n : ℕ). window held (n + 8) 64) c.slot_place-at.ensures in
    let few = few_kept head (sym c.head_rules.ensures ∙ c.in_default.is) in
    let size : length here ≡ 72 + 64 * table_count_in head = omega (arith, ap length is, c.in_ok-fill.ensures.size, c.deref_mut.ensures.len, c.in_ok-body.ensures.len, c.from-count.ensures, c.get_u16.ensures) in
    let front : take 64 here ≡ head = ap (take 64) is ∙ c.in_ok-fill.ensures.head in
    let long : length c.deref_mut.result.now - 64 ≡ length here - 64 = ap (λ (n : ℕ). n - 64) (sym (ap length is ∙ c.in_ok-fill.ensures.size)) in
    let rest : drop 64 here ≡ window held (body_place slot + 64) (length here - 64) =
    ap (drop 64) is ∙ c.in_ok-fill.ensures.rest tells ∙ ap (λ (f : Image). window f (c.slot_place-at.result + 8 + 64) (length c.deref_mut.result.now - 64)) c.in_ok-read.ensures.moves.held
    ∙ ap₂ (λ (n m : ℕ). window held (n + 8 + 64) m) c.slot_place-at.ensures long in
    damage_found (body_damage slot here) (body_damage slot (body_in slot held)) c.read_body.result (body_damage_is slot held head at here size few front rest) c.read_body.ensures.damage

pub returns-clause-cause : goal.returns-clause-cause
returns-clause-cause g c = has_cause (place_of c.args.slot) (g.D.Disk.world c.args.disk.now) (g.D.Disk.world c.fill.new.disk) (body_damage (place_of c.args.slot) c.deref.result.now) c.read_body.result c.read_body.ensures.damage
