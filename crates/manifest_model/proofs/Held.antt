-- What a slot holds is what is read from it.
use Rattle.std.proofs.Common.{◌≡◌, ◌+◌, ◌-◌, ◌*◌, ◌≤◌, ℕ, ◌++◌, length, refl, sym, ap, ◌∙◌, arith, length-append}
use Rattle.std.proofs.lemmas.List.{take_at}
use Rattle.std.specs.Prelude.{flat_map, take}
use Rattle.disk_trait.specs.Image.{Image, Shows, window}
use Rattle.disk_trait.proofs.Images.{window_size, window_split}
use Rattle.map_model.specs.SortedMap.{Bytes}
use Rattle.manifest_model.specs.Laws.{IsVersion}
use Rattle.manifest_model.specs.Reading.{body_damage, body_format, table_count_in, prefix_length_in, version_in}
use Rattle.manifest_model.specs.SlotLaws.{HeldHasItsFormat, HeldIsRead, ReadIsHeld}
use Rattle.manifest_model.specs.Slots.{HoldsVersion, body_in, body_room}
use Rattle.manifest_model.specs.Version.{Version, body_bytes, body_place, prefix_bytes, head_bytes, row_bytes}
use Rattle.manifest_model.proofs.VersionsRead.{body_again, rows_long}
use Rattle.manifest_model.proofs.VersionsWritten.{body_few, body_written}

head_long : (format : ℕ) (v : Version) → length (head_bytes format v) ≡ 64
unfolding head_bytes
head_long format v = refl

front_long : (format : ℕ) (v : Version) → length (prefix_bytes format v) ≡ 64 + 64 * length v.rows
unfolding prefix_bytes
front_long format v = omega (arith, length-append (head_bytes format v) (flat_map (row_bytes format) v.rows), head_long format v, rows_long format v.rows)

pub body_long : (format : ℕ) (v : Version) → length (body_bytes format v) ≡ 72 + 64 * length v.rows
unfolding body_bytes
body_long format v = let parts : length (body_bytes format v) ≡ length (prefix_bytes format v) + 8 = length-append (prefix_bytes format v) _ in omega (arith, parts, front_long format v)

pub room_is : body_room ≡ 131064
unfolding body_room
room_is = refl

-- a version's body has room in a slot
pub body_fits : (format : ℕ) (v : Version) → IsVersion v → length (body_bytes format v) ≤ 131064
body_fits format v is = omega (arith, body_long format v, is.few_tables)

-- the first of some bytes that stand there
front_window : (image : Image) (at n room : ℕ) → n ≤ room → window image at room ≡ window image at n ++ window image (at + n) (room - n)
front_window image at n room fits = ap (window image at) (omega (arith, fits)) ∙ window_split image at n (room - n)

-- the body, with whatever follows it
body_there : (slot : ℕ) (v : Version) (image : Image) (holds : HoldsVersion slot v image)
    → body_in slot image ≡ body_bytes holds.format v ++ window image (body_place slot + length (body_bytes holds.format v)) (body_room - length (body_bytes holds.format v))
body_there slot v image holds =
    let n = length (body_bytes holds.format v) in
    front_window image (body_place slot) n body_room (omega (arith, room_is, body_fits holds.format v holds.sound))
    ∙ ap (λ (l : Bytes). l ++ window image (body_place slot + n) (body_room - n)) holds.body

pub held_is_read : HeldIsRead
held_is_read slot v image holds =
    let n = length (body_bytes holds.format v) in
    let there = body_there slot v image holds in
    let again = body_again slot holds.format v (window image (body_place slot + n) (body_room - n)) holds.sound holds.may in
    (ap (body_damage slot) there ∙ again.0, ap version_in there ∙ again.2)

pub held_format : HeldHasItsFormat
held_format slot v image holds =
    let n = length (body_bytes holds.format v) in
    let again = body_again slot holds.format v (window image (body_place slot + n) (body_room - n)) holds.sound holds.may in
    ap body_format (body_there slot v image holds) ∙ again.1

-- a slot holds one version
pub one_held : (slot : ℕ) (v w : Version) (image : Image) → HoldsVersion slot v image → HoldsVersion slot w image → v ≡ w
one_held slot v w image a b = sym (held_is_read slot v image a).1 ∙ (held_is_read slot w image b).1

room_taken : (image : Image) (at n room : ℕ) → n ≤ room → take n (window image at room) ≡ window image at n
room_taken image at n room fits =
    ap (take n) (front_window image at n room fits) ∙ take_at (window image at n) (window image (at + n) (room - n)) n (window_size image at n)

-- bytes that are the first so many of a window stand there
first_shown : (image : Image) (at n room : ℕ) (bytes : Bytes) → n ≤ room → bytes ≡ take n (window image at room) → Shows at bytes image
first_shown image at n room bytes fits are =
    let there : bytes ≡ window image at n = are ∙ room_taken image at n room fits in
    ap (window image at) (ap length there ∙ window_size image at n) ∙ sym there

front_fits : (bytes : Bytes) → table_count_in bytes ≤ 1024 → prefix_length_in bytes + 8 ≤ 131064
unfolding prefix_length_in
front_fits bytes few = omega (arith, few)

pub read_is_held : ReadIsHeld
read_is_held slot image opened bytes none =
    let fits = front_fits (body_in slot image) (body_few slot (body_in slot image) none) in
    let body = body_in slot image in
    let so = body_written slot body bytes (omega (arith, fits, window_size image (body_place slot) body_room, room_is)) none in
    record {
      is_open = opened;
      sound = so.0;
      format = body_format body;
      may = so.1;
      body = first_shown image (body_place slot) (prefix_length_in (body_in slot image) + 8) body_room (body_bytes (body_format body) (version_in body)) (omega (arith, fits, room_is)) so.2;
    }
