-- Bytes spell a leaf list plainly, or nothing.
use Rattle.std.proofs.Common.{◌≡◌, ◌⊎◌, inl, inr, ◌<◌, ◌≤◌, ◌^◌, ℕ, zero, suc, Bool, true, false, List, [], ◌∷◌, length, drop, slice_index, Option, Some, None, refl, sym, ◌∙◌, subst, arith}
use Rattle.std.proofs.lemmas.Bool.{cases_Bool, cases_eq, cases_lt, false≢true}
use Rattle.key_base.specs.Limits.{max_hash_bits, max_key_bytes, max_real_bits}
use Rattle.byteorder.specs.Endian.{little_number}
use Rattle.byte_fields.specs.Spelling.{IsBytes}
use Rattle.filter_api.specs.Spellings.{IsDecided, IsNoSpelling, IsSpelling}
use Rattle.filter_model.specs.Leaves.{Leaf}
use Rattle.filter_model.specs.Strings.{is_prefix}
use Rattle.filter_model.specs.Valid.{IsLeaf, IsValid}
use Rattle.plain_filter_model.proofs.ExactLaws.{None-not_Some, Some-inj, plain_magic, whole_again, whole_back}
use Rattle.plain_filter_model.specs.Neighbours.{StandsRightly, has_company, leaf_number, next_extends, rises_at}
use Rattle.plain_filter_model.specs.Reading.{leaf_list_in}
use Rattle.plain_filter_model.specs.Spelling.{plain_spelling}
use Rattle.plain_filter_model.proofs.ValidLaws.{stands_from_valid, valid_from_stands}

-- it holds, or fails, and it is known which
abbrev OrNot : Type 0 → Type 0
OrNot P = P ⊎ (P → ⊥)

below : (a b : ℕ) → OrNot (a < b)
below a b = elim (cases_lt a b) [ inl less ↦ inl less | inr more ↦ inr (λ h. omega arith) ]

up_to : (a b : ℕ) → OrNot (a ≤ b)
up_to a b = elim (cases_lt b a) [ inl more ↦ inr (λ h. omega arith) | inr less ↦ inl less ]

passes : (b : Bool) → OrNot (b ≡ true)
passes true = inl refl
passes false = inr (λ e. false≢true e)

both : {P Q : Type 0} → OrNot P → OrNot Q → OrNot (P × Q)
both (inl p) (inl q) = inl (p, q)
both (inl p) (inr q) = inr (λ h. q h.1)
both (inr p) q = inr (λ h. p h.0)

-- of as many as there are
each : (P : ℕ → Type 0) → ((i : ℕ) → OrNot (P i)) → (n : ℕ) → OrNot ((i : ℕ) → i < n → P i)
each P one zero = inl (λ i h. absurd (omega arith))
each P one (suc n) = elim (both (one n) (each P one n)) [
  | inl all ↦ inl (λ i h. elim (cases_lt i n) [
    | inl before ↦ all.1 i before
    | inr last ↦ let same : n ≡ i = omega arith in subst P same all.0
  ])
  | inr fails ↦ inr (λ h. fails (h n (omega arith), λ i k. h i (omega arith)))
]

are_bytes : (xs : List ℕ) → OrNot (IsBytes xs)
are_bytes [] = inl (λ i. omega arith)
are_bytes (x ∷ xs) = elim (both (below x 256) (are_bytes xs)) [
  | inl all ↦ inl (joined all.0 all.1)
  | inr fails ↦ inr (λ h. fails (h 0, λ i. h (suc i)))
]
  where
    joined : x < 256 → IsBytes xs → IsBytes (x ∷ xs)
    joined first later zero = first
    joined first later (suc i) = later i

without_real : (l : Leaf) → OrNot (l.ends ≡ true → l.real ≡ 0)
without_real l = elim (cases_Bool l.ends) [
  | inl ends ↦ elim (cases_eq l.real 0) [ inl none ↦ inl (λ e. none) | inr some ↦ inr (λ h. some (h ends)) ]
  | inr open_end ↦ inl (λ e. absurd (false≢true (sym open_end ∙ e)))
]

is_leaf : (hash_bits real_bits : ℕ) (l : Leaf) → OrNot (IsLeaf hash_bits real_bits l)
is_leaf hash_bits real_bits l =
    elim (both (are_bytes l.stub) (both (below 0 (length l.stub)) (both (up_to (length l.stub) max_key_bytes)
    (both (below l.hash (2 ^ hash_bits)) (both (below l.real (2 ^ real_bits)) (without_real l)))))) [
      | inl h ↦ inl (record {
        stub = record { bytes = h.0; filled = h.1.0; short = h.1.1.0 };
        hash_fits = h.1.1.1.0;
        real_fits = h.1.1.1.1.0;
        end_without_real = h.1.1.1.1.1;
      })
      | inr fails ↦ inr (λ l. fails (l.stub.bytes, (l.stub.filled, (l.stub.short, (l.hash_fits, (l.real_fits, l.end_without_real))))))
    ]

same_test : (a b : Bool) → OrNot (a ≡ b)
same_test true true = inl refl
same_test true false = inr (λ e. false≢true (sym e))
same_test false true = inr (λ e. false≢true e)
same_test false false = inl refl

stands : (hash_bits real_bits : ℕ) (ls : List Leaf) (i : ℕ) → OrNot (StandsRightly hash_bits real_bits ls i)
stands hash_bits real_bits ls i =
    elim (both (is_leaf hash_bits real_bits (leaf_number ls i)) (both (passes (rises_at ls i))
    (both (same_test (leaf_number ls i).ends (next_extends ls i)) (passes (has_company ls i))))) [
      | inl h ↦ inl (record { leaf = h.0; rise = h.1.0; ends = h.1.1.0; company = h.1.1.1 })
      | inr fails ↦ inr (λ s. fails (s.leaf, (s.rise, (s.ends, s.company))))
    ]

is_valid : (hash_bits real_bits : ℕ) (ls : List Leaf) → OrNot (IsValid hash_bits real_bits ls)
is_valid hash_bits real_bits ls =
    elim (both (below 0 (length ls)) (both (below (length ls) (2 ^ 32)) (each (StandsRightly hash_bits real_bits ls) (stands hash_bits real_bits ls) (length ls)))) [
      | inl h ↦ inl (valid_from_stands hash_bits real_bits ls h.0 h.1.0 h.1.1)
      | inr fails ↦ inr (λ v. fails (v.some, (v.few, stands_from_valid hash_bits real_bits ls v)))
    ]

module _ (bytes : List ℕ) (are : IsBytes bytes) where
  abbrev hash_bits : ℕ
  hash_bits = slice_index bytes 4

  abbrev real_bits : ℕ
  real_bits = slice_index bytes 5

  abbrev found : Option (List Leaf)
  found = leaf_list_in (little_number 4 (drop 6 bytes)) (drop 10 bytes)

  abbrev Told : Type 0
  Told =
      IsNoSpelling plain_spelling bytes
      ⊎ ((hash_bits : ℕ) × (real_bits : ℕ) × (cutoff : ℕ) × (leaves : List Leaf) × IsSpelling plain_spelling hash_bits real_bits cutoff leaves bytes)

  -- what the head says
  abbrev HasHead : Type 0
  HasHead = (10 ≤ length bytes) × ((is_prefix plain_magic bytes ≡ true) × ((hash_bits ≤ max_hash_bits) × (real_bits ≤ max_real_bits)))

  has_head : OrNot HasHead
  has_head = both (up_to 10 (length bytes)) (both (passes (is_prefix plain_magic bytes)) (both (up_to hash_bits max_hash_bits) (up_to real_bits max_real_bits)))

  headless : (HasHead → ⊥) → IsNoSpelling plain_spelling bytes
  headless fails h r cutoff ls is =
      let head = whole_again h r cutoff ls bytes is in
      fails (head.long, (head.begun, (subst (λ n. n ≤ max_hash_bits) (sym head.hash) is.may_stand.hash_width, subst (λ n. n ≤ max_real_bits) (sym head.real) is.may_stand.real_width)))

  told_of : HasHead → (ls : List Leaf) → found ≡ Some ls → Told
  told_of head ls is = elim (is_valid hash_bits real_bits ls) [
    | inl valid ↦ inr (
      hash_bits,
      real_bits,
      0,
      ls,
      record {
        may_stand = record { hash_width = head.1.1.0; real_width = head.1.1.1; cutoff_in = omega arith; valid = valid };
        bytes_are = whole_back bytes ls are head.0 head.1.0 is;
      },
    )
    | inr fails ↦ inl (λ h r cutoff others spelled.
        let again = whole_again h r cutoff others bytes spelled in
        let one : others ≡ ls = Some-inj others ls (sym again.leaves ∙ is) in
        fails (subst (IsValid hash_bits real_bits) one
        (subst (λ n. IsValid n real_bits others) (sym again.hash) (subst (λ n. IsValid h n others) (sym again.real) spelled.may_stand.valid))))
  ]

  told_by : HasHead → (o : Option (List Leaf)) → found ≡ o → Told
  told_by head None is = inl (λ h r cutoff ls spelled. None-not_Some ls (sym is ∙ (whole_again h r cutoff ls bytes spelled).leaves))
  told_by head (Some ls) is = told_of head ls is

  told : Told
  told = elim has_head [ inl head ↦ told_by head found refl | inr fails ↦ inl (headless fails) ]

pub plain_decided : IsDecided plain_spelling
plain_decided bytes are = told bytes are
