-- What an image says in a log area, byte by byte.
use Rattle.std.proofs.Common.{◌≡◌, ◌≢◌, ◌+◌, ◌<◌, ◌≤◌, ℕ, suc, List, [], ◌∷◌, ◌++◌, length, refl, sym, ap, ap₂, ◌∙◌, subst, arith, length-append, take, drop, ◌⊎◌, inl, inr, get_or, take-append-drop}
use Rattle.std.specs.Prelude.{flat_map, map}
use Rattle.std.specs.List.{AllByRecursion}
use Rattle.std.proofs.lemmas.List.{append-nil, take_at, drop_at, take_more}
use Rattle.std.proofs.lemmas.List.Concat.{flat_map-append}
use Rattle.disk_trait.specs.Image.{Image, window, Torn}
use Rattle.disk_trait.proofs.Images.{window_size, window_kept}
use Rattle.entry_model.specs.Entries.{record_bytes, filled}
use Rattle.range_model.specs.Sources.{Change}
use Rattle.log_model.specs.Changes.{IsLoggedChange, change_body, change_record, filled_by, need_of, recorded}
use Rattle.log_model.specs.Records.{Spells}
use Rattle.log_model.specs.Area.{area_size, start_of, LogIs}
use Rattle.log_model.proofs.Bodies.{change_size}
use Rattle.log_model.proofs.Windows.{take_window, byte_of_window}

pub size_is : area_size ≡ 262144
unfolding area_size
size_is = refl

pub none_filled : filled_by [] ≡ 0
unfolding filled
none_filled = refl

record_size : (change : Change) → length (change_record change) ≡ length (record_bytes (recorded change))
record_size change = ap (λ (n : ℕ). suc n) (change_size change)

pub filled_is : (changes : List Change) → filled_by changes ≡ length (flat_map change_record changes)
unfolding filled
filled_is [] = refl
filled_is (change ∷ more) =
    length-append (record_bytes (recorded change)) (flat_map record_bytes (map recorded more))
    ∙ ap₂ (λ (n m : ℕ). n + m) (sym (record_size change)) (filled_is more)
    ∙ sym (length-append (change_record change) (flat_map change_record more))

-- one record more
pub records_more : (changes : List Change) (change : Change) → flat_map change_record (changes ++ change ∷ []) ≡ flat_map change_record changes ++ change_record change
records_more changes change = flat_map-append change_record changes (change ∷ []) ∙ ap (λ (l : List ℕ). flat_map change_record changes ++ l) (append-nil (change_record change))

pub filled_more : (changes : List Change) (change : Change) → filled_by (changes ++ change ∷ []) ≡ filled_by changes + (1 + length (change_body change))
filled_more changes change =
    filled_is (changes ++ change ∷ []) ∙ ap length (records_more changes change) ∙ length-append (flat_map change_record changes) (change_record change)
    ∙ ap (λ (n : ℕ). n + length (change_record change)) (sym (filled_is changes)) ∙ ap (λ (n : ℕ). filled_by changes + n) one
  where
    one : length (change_record change) ≡ 1 + length (change_body change)
    one = omega arith

-- the room that a record takes
pub need_is : (change : Change) → need_of change ≡ length (change_body change) + 2
need_is change = ap (λ (n : ℕ). n + 2) (sym (change_size change))

-- two pieces of the same lengths
pub same_parts : (xs ys more others : List ℕ) → length xs ≡ length ys → xs ++ more ≡ ys ++ others → (xs ≡ ys) × (more ≡ others)
same_parts xs ys more others same e = (
  sym (take_at xs more (length ys) same) ∙ ap (take (length ys)) e ∙ take_at ys others (length ys) refl,
  sym (drop_at xs more (length ys) same) ∙ ap (drop (length ys)) e ∙ drop_at ys others (length ys) refl,
)

pub all_push : (P : Change → Type 0) (changes : List Change) (change : Change) → AllByRecursion P changes → P change → AllByRecursion P (changes ++ change ∷ [])
all_push P [] change all here = (here, tt)
all_push P (e ∷ more) change all here = (all.0, all_push P more change all.1 here)

-- the records of these changes stand in the area, and the gate behind them is not open
pub record Stands (area : ℕ) (changes : List Change) (image : Image) : Type 0 where
  pub sound : AllByRecursion IsLoggedChange changes
  pub within : filled_by changes < 262144
  pub records : window image (start_of area) (filled_by changes) ≡ flat_map change_record changes
  pub closed : image (start_of area + filled_by changes) ≢ 1

pub stands : (area : ℕ) (changes : List Change) (image : Image) → LogIs area changes image → Stands area changes image
stands area changes image log =
    let inside : filled_by changes < area_size = omega (arith, log.begins.within, window_size image (start_of area) area_size) in
    record {
      sound = log.begins.sound;
      within = omega (arith, inside, size_is);
      records = sym (take_window image (start_of area) (filled_by changes) area_size (omega (arith, inside))) ∙ log.begins.records;
      closed = λ now. log.closed (byte_of_window image (start_of area) (filled_by changes) area_size inside ∙ now);
    }

pub logged : (area : ℕ) (changes : List Change) (image : Image) → Stands area changes image → LogIs area changes image
logged area changes image s =
    let inside : filled_by changes < area_size = omega (arith, s.within, size_is) in
    record {
      begins = record {
        sound = s.sound;
        within = omega (arith, inside, window_size image (start_of area) area_size);
        records = take_window image (start_of area) (filled_by changes) area_size (omega (arith, inside)) ∙ s.records;
      };
      closed = λ now. s.closed (sym (byte_of_window image (start_of area) (filled_by changes) area_size inside) ∙ now);
    }

-- what is written apart from the area changes nothing in it
pub log_kept : (area : ℕ) (changes : List Change) (at n : ℕ) (f g : Image) → (start_of area + 262144 ≤ at) ⊎ (at + n ≤ start_of area) → Torn at n f g → LogIs area changes f → LogIs area changes g
log_kept area changes at n f g apart torn log =
    let sized : (start_of area + area_size ≤ at) ⊎ (at + n ≤ start_of area) = elim apart [ inl below ↦ inl (omega (arith, size_is)) | inr above ↦ inr above ] in
    subst (Spells changes) (sym (window_kept at n f g (start_of area) area_size sized torn)) log

-- ---- the first of some changes

pub filled_take : (changes : List Change) (n : ℕ) → filled_by (take n changes) ≤ filled_by changes
filled_take changes n =
    let split : filled_by changes ≡ filled_by (take n changes) + length (flat_map change_record (drop n changes)) =
    ap filled_by (sym (take-append-drop n changes))
    ∙ filled_is (take n changes ++ drop n changes)
    ∙ ap length (flat_map-append change_record (take n changes) (drop n changes))
    ∙ length-append (flat_map change_record (take n changes)) (flat_map change_record (drop n changes))
    ∙ ap (λ (k : ℕ). k + length (flat_map change_record (drop n changes))) (sym (filled_is (take n changes))) in
    omega (arith, split)

module _ (changes : List Change) (i : ℕ) (change : Change) (lt : i < length changes) (is : change ≡ get_or changes i change) where
  pub take_next : take (i + 1) changes ≡ take i changes ++ change ∷ []
  take_next = take_more changes i change lt ∙ ap (λ (e : Change). take i changes ++ e ∷ []) (sym is)

  pub filled_next_take : filled_by (take (i + 1) changes) + 1 ≡ filled_by (take i changes) + need_of change
  filled_next_take = let more = ap filled_by take_next ∙ filled_more (take i changes) change in omega (arith, more, need_is change)

  -- the next record fits where all of them do
  pub next_fits : filled_by changes < 262144 → filled_by (take i changes) + need_of change ≤ 262144
  next_fits room = omega (arith, filled_next_take, filled_take changes (i + 1), room)
