-- The branches of one node: where END stands, how letters are written, and which branch passes first or last.
use Rattle.std.proofs.Common.{◌≡◌, ℕ, zero, suc, ◌<◌, ◌≤◌, ◌==◌, Bool, true, false, cond, Some, None, [], ◌∷◌, length, get_or, refl, ap, sym, ◌∙◌, arith, inl, inr, lt-ltb, le-ltb, nat_lt}
use Rattle.std.specs.Prelude.{position, ◌&&◌, ◌||◌}
use Rattle.std.specs.List.{position_or_len}
use Rattle.std.proofs.lemmas.Bool.{cases_eq, cases_lt, eq-eqb, eqb-true, false_from_ne_true, false≢true, ne_eqb, ltb-true, or_cases, or_right}
use Rattle.std.proofs.lemmas.List.Sums.{position_or_len_is}
use Rattle.filter_model.specs.Image.{has_letter, label_of}
use Rattle.filter_model.specs.Nodes.{Branch, Node}
use Rattle.filter_model.specs.Trie.{END}
use Rattle.trie_laws.specs.Nodes.{IsTrieNode}
use Rattle.trie_laws.proofs.Forms.{order_small, order-byte}
use Rattle.trie_model.specs.Branching.{last_position, later}
use Rattle.trie_model.specs.Letters.{order_of}

-- branch j
abbrev pub nth : Node → ℕ → Branch
nth n j = get_or n j (0, false)

-- ---- first and last places

pub position_some : (test : Branch → Bool) (n : Node) (i : ℕ) → i < length n → test (nth n i) ≡ true → ((k : ℕ) → k < i → test (nth n k) ≡ false) → position test n ≡ Some i
position_some test n i l e h =
    let place : position_or_len test n ≡ i = position_or_len_is test n i (0, false) (omega arith) h (λ _. e) in
    ap (λ (b : Bool). cond b (Some (position_or_len test n)) None) (lt-ltb (position_or_len test n) (length n) (omega (arith, place, l))) ∙ ap (λ (k : ℕ). Some k) place

pub position_none : (test : Branch → Bool) (n : Node) → ((k : ℕ) → k < length n → test (nth n k) ≡ false) → position test n ≡ None
position_none test n h =
    let place : position_or_len test n ≡ length n = position_or_len_is test n (length n) (0, false) (omega arith) h (λ l. absurd (omega arith)) in
    ap (λ (b : Bool). cond b (Some (position_or_len test n)) None) (le-ltb (position_or_len test n) (length n) (omega (arith, place)))

pub last_none : (test : Branch → Bool) (n : Node) → ((k : ℕ) → k < length n → test (nth n k) ≡ false) → last_position test n ≡ None
last_none test [] h = refl
last_none test (b ∷ n) h = ap (later (test b)) (last_none test n (λ k l. h (suc k) (omega arith))) ∙ ap (λ (t : Bool). cond t (Some 0) None) (h 0 (omega arith))

pub last_some : (test : Branch → Bool) (n : Node) (i : ℕ) → i < length n → test (nth n i) ≡ true → ((k : ℕ) → i < k → k < length n → test (nth n k) ≡ false) → last_position test n ≡ Some i
last_some test [] i l e h = absurd (omega arith)
last_some test (b ∷ n) zero l e h = ap (later (test b)) (last_none test n (λ k kl. h (suc k) (omega arith) (omega arith))) ∙ ap (λ (t : Bool). cond t (Some 0) None) e
last_some test (b ∷ n) (suc i) l e h = ap (later (test b)) (last_some test n i (omega arith) e (λ k up kl. h (suc k) (omega arith) (omega arith)))

-- ---- END

letter_at : (n : Node) (c : ℕ) → has_letter n c ≡ true → (j : ℕ) × (j < length n) × ((nth n j).0 ≡ c)
letter_at [] c e = absurd (false≢true e)
letter_at (b ∷ n) c e = elim (or_cases (b.0 == c) (has_letter n c) e) [
  | inl here ↦ (0, omega arith, eqb-true b.0 c here)
  | inr there ↦ let r = letter_at n c there in (suc r.0, omega (arith, r.1), r.2)
]

pub letter_there : (n : Node) (c j : ℕ) → j < length n → (nth n j).0 ≡ c → has_letter n c ≡ true
letter_there [] c j l e = absurd (omega arith)
letter_there (b ∷ n) c zero l e = ap (λ (t : Bool). t || has_letter n c) (eq-eqb b.0 c e)
letter_there (b ∷ n) c (suc j) l e = or_right (b.0 == c) (has_letter n c) (letter_there n c j (omega arith) e)

module _ (n : Node) (f : IsTrieNode n) where
  order_up : (i j : ℕ) → i < j → j < length n → order_of (nth n i).0 < order_of (nth n j).0
  order_up i j up l = f.rising i j (0, false) up l

  -- where END is a branch it is the first, and there is another one
  pub end_first : has_letter n END ≡ true → ((nth n 0).0 ≡ 256) × (1 < length n)
  end_first e = at (letter_at n END e)
    where
      at : (j : ℕ) × (j < length n) × ((nth n j).0 ≡ 256) → ((nth n 0).0 ≡ 256) × (1 < length n)
      at (zero, l, is) = (
        is,
        elim (cases_lt 1 (length n)) [
          | inl long ↦ long
          | inr short ↦ absurd (omega (arith, is, f.end_is_not_alone (omega (arith, l, short)) 0 (0, false) l))
        ],
      )
      at (suc j, l, is) = absurd (omega (arith, order_up 0 (suc j) (omega arith) l, ap order_of is))

  -- the branches behind END are bytes, and rise
  pub byte_behind : (j : ℕ) → j < length n → cond (has_letter n END) 1 0 ≤ j → (nth n j).0 < 256
  byte_behind j l from = go (has_letter n END) refl from
    where
      go : (t : Bool) → has_letter n END ≡ t → cond {A = ℕ} t 1 0 ≤ j → (nth n j).0 < 256
      go true e up = (order_small (nth n j).0 (f.letters j (0, false) l) (omega (arith, order_up 0 j up l))).0
      go false e up = elim (cases_eq (nth n j).0 256) [
        | inl same ↦ absurd (false≢true (sym e ∙ letter_there n END j l same))
        | inr other ↦ let le = f.letters j (0, false) l in omega (arith, le, other)
      ]

  pub bytes_rise : (i j : ℕ) → i ≤ j → j < length n → cond (has_letter n END) 1 0 ≤ i → (nth n i).0 ≤ (nth n j).0
  bytes_rise i j up l from = elim (cases_eq i j) [
    | inl same ↦ omega (arith, ap (λ (k : ℕ). (nth n k).0) same)
    | inr other ↦
        let il = byte_behind i (omega (arith, up, l)) from in
        let jl = byte_behind j l (omega (arith, up, from)) in
        omega (arith, order_up i j (omega (arith, up, other)) l, order-byte (nth n i).0 il, order-byte (nth n j).0 jl)
  ]

  -- before the bytes stands END alone
  pub end_before : (j : ℕ) → j < cond (has_letter n END) 1 0 → (nth n j).0 ≡ 256
  end_before j below = go (has_letter n END) refl below
    where
      go : (t : Bool) → has_letter n END ≡ t → j < cond {A = ℕ} t 1 0 → (nth n j).0 ≡ 256
      go true e l = ap (λ (k : ℕ). (nth n k).0) (zero_of j l) ∙ (end_first e).0
        where
          zero_of : (j : ℕ) → j < 1 → j ≡ 0
          zero_of j l = omega (arith, l)
      go false e l = absurd (omega (arith, l))

  -- FF before another label is END
  pub opens_is : (nat_lt 1 (length n) && (label_of (nth n 0).0 == 255)) ≡ has_letter n END
  opens_is = go (has_letter n END) refl
    where
      go : (t : Bool) → has_letter n END ≡ t → (nat_lt 1 (length n) && (label_of (nth n 0).0 == 255)) ≡ t
      go true e =
          let first = end_first e in
          (λ i. lt-ltb 1 (length n) first.1 i && (label_of (first.0 i) == 255))
      go false e = false_from_ne_true (nat_lt 1 (length n) && (label_of (nth n 0).0 == 255)) (λ h. false≢true (sym e ∙ letter_there n END 0 (omega (arith, f.filled)) (is_end (nat_lt 1 (length n)) refl h)))
        where
          is_end : (t : Bool) → nat_lt 1 (length n) ≡ t → (t && (label_of (nth n 0).0 == 255)) ≡ true → (nth n 0).0 ≡ 256
          is_end false u h = absurd (false≢true h)
          is_end true u h = elim (cases_eq (nth n 0).0 256) [
            | inl same ↦ same
            | inr other ↦
                let ff : (nth n 0).0 ≡ 255 = sym (ap (λ (t : Bool). cond {A = ℕ} t 255 (nth n 0).0) (ne_eqb (nth n 0).0 256 other)) ∙ eqb-true (label_of (nth n 0).0) 255 h in
                let long = ltb-true 1 (length n) u in
                let up = order_up 0 1 (omega arith) long in
                let next = order_small (nth n 1).0 (f.letters 1 (0, false) long) (omega (arith, up)) in
                absurd (omega (arith, up, next.0, next.1, ff, order-byte (nth n 0).0 (omega (arith, ff))))
          ]

-- a byte is written as itself
pub label-byte : (c : ℕ) → c < 256 → label_of c ≡ c
label-byte c l = ap (λ (t : Bool). cond {A = ℕ} t 255 c) (ne_eqb c 256 (λ e. omega (arith, l, e)))
