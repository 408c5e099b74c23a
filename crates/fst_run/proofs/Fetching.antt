-- The bytes of a body that are read, a part after the other.
use Rattle.std.proofs.Common.{◌≡◌, ◌≤◌, ◌<◌, ◌+◌, ◌-◌, ◌∙◌, ◌++◌, refl, sym, ap, subst, arith, ℕ, Bool, true, false, cond, length, drop, take}
use Rattle.std.specs.Prelude.{bytes_eq, codes, nat_lt, ◌==◌}
use Rattle.std.proofs.Math.Seq.{drop-append_seam}
use Rattle.std.proofs.lemmas.Bool.{eqb-true, le-ltb, lt-ltb}
use Rattle.std.proofs.lemmas.List.{take-append-le, take_all}
use Rattle.std.proofs.lemmas.Slice.Eq.{bytes_eq-Decides}
use Rattle.byteorder.specs.Endian.{little_number}
use Rattle.disk_trait.specs.Image.{Image, window}
use Rattle.disk_trait.specs.World.{World}
use Rattle.disk_trait.proofs.Images.{window_size, window_split}
use Rattle.fst_run.specs.Fetching.{IsFetched, IsNoMapThere, IsUnread}
use Rattle.fst_run.specs.declared.body.Unread.{Unread}
use Rattle.fst_run.specs.declared.body.Unread.TheVariants as unread
use Rattle.lines_in.proofs.EndCauses.{rose_since}
use Rattle.map_file_model.specs.Reading.{values_place}
use Rattle.map_model.specs.SortedMap.{Bytes}
use Rattle.map_run_model.specs.Files.{IsThere, body_bytes, bytes_read, front_bytes}

-- ---- windows

-- the last eight bytes
last_eight : (f : Image) (n : ℕ) → 8 ≤ n → drop (n - 8) (window f 8 n) ≡ window f n 8
last_eight f n long =
    let whole : n ≡ n - 8 + 8 = omega (arith, long) in
    let size : length (window f 8 (n - 8)) ≡ n - 8 = window_size f 8 (n - 8) in
    let place : 8 + (n - 8) ≡ n = omega (arith, long) in
    ap (λ (l : Bytes). drop (n - 8) l) (ap (window f 8) whole ∙ window_split f 8 (n - 8) 8)
    ∙ ap (λ (k : ℕ). drop k (window f 8 (n - 8) ++ window f (8 + (n - 8)) 8)) (sym size)
    ∙ drop-append_seam (window f 8 (n - 8)) (window f (8 + (n - 8)) 8)
    ∙ ap (λ (k : ℕ). window f k 8) place

-- where the body ends, by the bytes before the values
pub end_of : (f : Image) (front : Bytes) (n : ℕ) → front ≡ window f 8 n → 8 ≤ n → length front + little_number 8 (drop (length front - 8) front) + 8 ≡ n + little_number 8 (window f n 8) + 8
end_of f front n is long =
    let size : length front ≡ n = ap length is ∙ window_size f 8 n in
    ap (λ (l : Bytes). length l + little_number 8 (drop (length l - 8) l) + 8) is
    ∙ ap (λ (k : ℕ). k + little_number 8 (drop (k - 8) (window f 8 n)) + 8) (window_size f 8 n)
    ∙ ap (λ (l : Bytes). n + little_number 8 l + 8) (last_eight f n long)

-- ---- what is read

module _ (f : Image) where
  pub head_read : 2147483648 < front_bytes f → bytes_read f ≡ window f 8 24
  head_read large =
      ap (λ (t : Bool). cond t (window f 8 24) (cond (nat_lt 2147483648 (body_bytes f)) (window f 8 (front_bytes f)) (window f 8 (body_bytes f)))) (lt-ltb 2147483648 (front_bytes f) large)

  short : front_bytes f ≤ 2147483648 → bytes_read f ≡ cond (nat_lt 2147483648 (body_bytes f)) (window f 8 (front_bytes f)) (window f 8 (body_bytes f))
  short small =
      ap (λ (t : Bool). cond t (window f 8 24) (cond (nat_lt 2147483648 (body_bytes f)) (window f 8 (front_bytes f)) (window f 8 (body_bytes f)))) (le-ltb 2147483648 (front_bytes f) small)

  pub front_read : front_bytes f ≤ 2147483648 → 2147483648 < body_bytes f → bytes_read f ≡ window f 8 (front_bytes f)
  front_read small large = short small ∙ ap (λ (t : Bool). cond t (window f 8 (front_bytes f)) (window f 8 (body_bytes f))) (lt-ltb 2147483648 (body_bytes f) large)

  pub all_read : front_bytes f ≤ 2147483648 → body_bytes f ≤ 2147483648 → bytes_read f ≡ window f 8 (body_bytes f)
  all_read small fits = short small ∙ ap (λ (t : Bool). cond t (window f 8 (front_bytes f)) (window f 8 (body_bytes f))) (le-ltb 2147483648 (body_bytes f) fits)

-- ---- whether a map is there

-- the first four bytes of a head
first_four : (f : Image) (head : Bytes) → head ≡ window f 8 24 → take 4 head ≡ window f 8 4
first_four f head is =
    ap (take 4) (is ∙ window_split f 8 4 20) ∙ take-append-le 4 (window f 8 4) (window f 12 20) (omega (arith, window_size f 8 4)) ∙ take_all 4 (window f 8 4) (omega (arith, window_size f 8 4))

pub there : (f : Image) (head : Bytes) → head ≡ window f 8 24 → (f 0 == 1) ≡ true → bytes_eq (take 4 head) (codes "SURM") ≡ true → IsThere f
there f head is one magic = record {
  gate = eqb-true (f 0) 1 one;
  magic = sym (first_four f head is) ∙ (bytes_eq-Decides (take 4 head) (codes "SURM")).0 magic;
}

pub closed : (f : Image) → (f 0 == 1) ≡ false → IsThere f → ⊥
closed f shut is = let e : (1 == 1) ≡ false = ap (λ (n : ℕ). n == 1) (sym is.gate) ∙ shut in cc

pub other_magic : (f : Image) (head : Bytes) → head ≡ window f 8 24 → bytes_eq (take 4 head) (codes "SURM") ≡ false → IsThere f → ⊥
other_magic f head is other there =
    let same : bytes_eq (take 4 head) (codes "SURM") ≡ true = (bytes_eq-Decides (take 4 head) (codes "SURM")).1 (first_four f head is ∙ there.magic) in cc

-- ---- what was read, by its parts

module _ (f : Image) (head : Bytes) (values : ℕ) (head_is : head ≡ window f 8 24) (values_are : values ≡ values_place head) where
  front_is : values ≡ front_bytes f
  front_is = values_are ∙ ap values_place head_is

  pub rest_head : 2147483648 < values → head ≡ bytes_read f
  rest_head large = head_is ∙ sym (head_read f (subst (λ (n : ℕ). 2147483648 < n) front_is large))

  module _ (low : values ≤ 2147483648) (front : Bytes) (got : front ≡ window f 8 values) (end : ℕ) (end_is : end ≡ length front + little_number 8 (drop (length front - 8) front) + 8) where
    ends_at : end ≡ body_bytes f
    ends_at =
        end_is ∙ end_of f front values got (omega (arith, values_are)) ∙ ap (λ (n : ℕ). n + little_number 8 (window f n 8) + 8) front_is

    pub rest_front : 2147483648 < end → front ≡ bytes_read f
    rest_front large =
        got ∙ ap (window f 8) front_is ∙ sym (front_read f (subst (λ (n : ℕ). n ≤ 2147483648) front_is low) (subst (λ (n : ℕ). 2147483648 < n) ends_at large))

    pub rest_all : end ≤ 2147483648 → (body : Bytes) → body ≡ window f 8 end → body ≡ bytes_read f
    rest_all fits body is =
        is ∙ ap (window f 8) ends_at ∙ sym (all_read f (subst (λ (n : ℕ). n ≤ 2147483648) front_is low) (subst (λ (n : ℕ). n ≤ 2147483648) ends_at fits))

pub fetched : (f g h : Image) (head body : Bytes) → g ≡ f → h ≡ g → (f 0 == 1) ≡ true → bytes_eq (take 4 head) (codes "SURM") ≡ true → head ≡ window g 8 24 → (head ≡ window h 8 24 → body ≡ bytes_read h)
    → IsFetched f body
fetched f g h head body first then one magic head_is rest = record {
  there = there f head (head_is ∙ ap (λ (i : Image). window i 8 24) first) one magic;
  bytes_are = rest (head_is ∙ ap (λ (i : Image). window i 8 24) (sym then)) ∙ ap bytes_read (then ∙ first);
}

-- ---- why nothing was read

pub unread_since : (why : Unread) (a b c : World) → a.seen.read_faults ≤ b.seen.read_faults → IsUnread why b c → IsUnread why a c
unread_since unread.Memory a b c on cause = tt
unread_since unread.Device a b c on cause = rose_since a.seen.read_faults b.seen.read_faults c.seen.read_faults on cause
unread_since unread.NoMap a b c on cause = tt

pub none_unless : (why : Unread) (f : Image) → (why ≡ unread.NoMap → ⊥) → IsNoMapThere why f
none_unless unread.Memory f other = tt
none_unless unread.Device f other = tt
none_unless unread.NoMap f other = absurd (other refl)
