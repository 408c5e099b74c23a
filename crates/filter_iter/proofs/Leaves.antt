-- What one leaf answers of a bound, by its path.
use Rattle.std.proofs.Common.{◌≡◌, ℕ, ◌-◌, ◌*◌, ◌/◌, ◌<◌, ◌≤◌, ◌^◌, ◌==◌, Bool, true, false, cond, List, [], ◌∷◌, ◌++◌, length, drop, refl, ap, subst, sym, ◌∙◌, arith, inl, inr, eqb, nat_lt, ltb, le-ltb, lt-ltb}
use Rattle.std.specs.Prelude.{not, ◌&&◌, ◌||◌}
use Rattle.std.proofs.lemmas.Bool.{and_parts, cases_Bool, cases_lt, cond-false, cond-true, eq-eqb, eqb-true, false≢true, true≢false}
use Rattle.std.proofs.lemmas.List.{append-nil}
use native.Mathlib.Nat.{div-mul-le_self, mul-div_cancel, mul-le-mul_right}
use Rattle.byte_fields.specs.Spelling.{IsBytes}
use Rattle.filter_iter.proofs.Groups.{before_less, before_nil, before_same}
use Rattle.filter_iter.specs.Cuts.{has_begun}
use Rattle.filter_model.proofs.Fits.{after, least, passed, unit}
use Rattle.filter_model.proofs.Fronts.{IsBytes-drop, IsBytes-tail, div-mono, prefix_number-mono, prefix_number-prefix, prefix_number-shortest, pow_pos, prefix_from_number, prefix_parts, rest-mono, shortest-bytes, shortest_least}
use Rattle.filter_model.proofs.Order.{Leq, Leq-append, Leq-to, Lt, Lt-Leq, Lt-or-Leq, Lt-to, thirds}
use Rattle.filter_model.specs.Answers.{is_past}
use Rattle.filter_model.specs.Leaves.{Leaf}
use Rattle.filter_model.specs.Strings.{prefix_number, is_before, is_prefix, shortest}
use Rattle.filter_model.specs.Trie.{END, path}
use Rattle.filter_model.specs.Valid.{IsLeaf}
use Rattle.trie_laws.proofs.Forms.{order-byte}
use Rattle.trie_model.specs.Letters.{comes_before, order_of}

-- ---- the key order on bytes

before_more : (a b : ℕ) (x y : List ℕ) → order_of b < order_of a → comes_before (a ∷ x) (b ∷ y) ≡ false
before_more a b x y l = go (eqb a b) refl
  where
    go : (t : Bool) → eqb a b ≡ t → cond t (comes_before x y) (ltb (order_of a) (order_of b)) ≡ false
    go true e = absurd (omega (arith, l, ap order_of (eqb-true a b e)))
    go false e = le-ltb (order_of a) (order_of b) (omega (arith, l))

byte_less : (a b : ℕ) → a < 256 → b < 256 → a < b → order_of a < order_of b
byte_less a b v w l = omega (arith, l, order-byte a v, order-byte b w)

-- what a string comes before by a letter, it comes before with anything behind it
less_than : (t s x : List ℕ) → IsBytes t → IsBytes x → comes_before t x ≡ true → Lt (t ++ s) x
less_than [] s x v w h = absurd (false≢true h)
less_than (a ∷ t) s [] v w h = absurd (false≢true h)
less_than (a ∷ t) s (b ∷ x) v w h = elim (thirds a b) [
  | inl less ↦ inl less
  | inr (inl same) ↦ inr (same, less_than t s x (IsBytes-tail a t v) (IsBytes-tail b x w) (sym (before_same a b t x same) ∙ h))
  | inr (inr more) ↦ absurd (false≢true (sym (before_more a b t x (byte_less b a (w 0) (v 0) more)) ∙ h))
]

-- and where it neither does so nor begins it, it comes behind it
more_than : (t s x : List ℕ) → IsBytes t → IsBytes x → comes_before t x ≡ false → is_prefix t x ≡ false → Lt x (t ++ s)
more_than [] s x v w h e = absurd (true≢false e)
more_than (a ∷ t) s [] v w h e = tt
more_than (a ∷ t) s (b ∷ x) v w h e = elim (thirds a b) [
  | inl less ↦ absurd (true≢false (sym (before_less a b t x (byte_less a b (v 0) (w 0) less)) ∙ h))
  | inr (inl same) ↦
      inr (sym same, more_than t s x (IsBytes-tail a t v) (IsBytes-tail b x w) (sym (before_same a b t x same) ∙ h) (sym (ap (λ (k : Bool). k && is_prefix t x) (eq-eqb a b same)) ∙ e))
  | inr (inr more) ↦ inl more
]

-- with END behind it a string comes before those that it is less than
end_less : (t x : List ℕ) → IsBytes t → IsBytes x → Lt t x → comes_before (t ++ END ∷ []) x ≡ true
end_less t [] v w h = absurd h
end_less [] (b ∷ x) v w h = before_less END b [] x (omega (arith, order-byte b (w 0)))
end_less (a ∷ t) (b ∷ x) v w (inl less) = before_less a b (t ++ END ∷ []) x (byte_less a b (v 0) (w 0) less)
end_less (a ∷ t) (b ∷ x) v w (inr (same, rest)) = before_same a b (t ++ END ∷ []) x same ∙ end_less t x (IsBytes-tail a t v) (IsBytes-tail b x w) rest

end_not_less : (t x : List ℕ) → IsBytes t → IsBytes x → Leq x t → comes_before (t ++ END ∷ []) x ≡ false
end_not_less t [] v w h = before_nil (t ++ END ∷ [])
end_not_less [] (b ∷ x) v w h = absurd h
end_not_less (a ∷ t) (b ∷ x) v w (inl less) = before_more a b (t ++ END ∷ []) x (byte_less b a (w 0) (v 0) less)
end_not_less (a ∷ t) (b ∷ x) v w (inr (same, rest)) = before_same a b (t ++ END ∷ []) x (sym same) ∙ end_not_less t x (IsBytes-tail a t v) (IsBytes-tail b x w) rest

-- ---- what begins a bound

prefix_bytes : (t x : List ℕ) → IsBytes t → is_prefix t x ≡ is_prefix t (x ++ END ∷ [])
prefix_bytes [] x v = refl
prefix_bytes (a ∷ t) [] v = sym (ap (λ (k : Bool). k && is_prefix t []) (other (eqb a END) refl))
  where
    other : (k : Bool) → eqb a END ≡ k → k ≡ false
    other true e = absurd (omega (arith, eqb-true a 256 e, v 0))
    other false e = refl
prefix_bytes (a ∷ t) (b ∷ x) v = ap (λ (k : Bool). eqb a b && k) (prefix_bytes t x (IsBytes-tail a t v))

prefix_ended : (t x : List ℕ) → IsBytes t → IsBytes x → is_prefix (t ++ END ∷ []) (x ++ END ∷ []) ≡ true → t ≡ x
prefix_ended [] [] v w e = refl
prefix_ended [] (b ∷ x) v w e = absurd (omega (arith, eqb-true 256 b (and_parts (eqb END b) (is_prefix [] (x ++ END ∷ [])) e).0, w 0))
prefix_ended (a ∷ t) [] v w e = absurd (omega (arith, eqb-true a 256 (and_parts (eqb a END) (is_prefix (t ++ END ∷ []) []) e).0, v 0))
prefix_ended (a ∷ t) (b ∷ x) v w e =
    let parts = and_parts (eqb a b) (is_prefix (t ++ END ∷ []) (x ++ END ∷ [])) e in
    λ j. eqb-true a b parts.0 j ∷ prefix_ended t x (IsBytes-tail a t v) (IsBytes-tail b x w) parts.1 j

ended_itself : (t : List ℕ) → is_prefix (t ++ END ∷ []) (t ++ END ∷ []) ≡ true
ended_itself [] = refl
ended_itself (a ∷ t) = ap (λ (k : Bool). k && is_prefix (t ++ END ∷ []) (t ++ END ∷ [])) (eq-eqb a a refl) ∙ ended_itself t

-- ---- a leaf that does not end

Leq-cancel : (t x y : List ℕ) → Leq (t ++ x) (t ++ y) → Leq x y
Leq-cancel [] x y h = h
Leq-cancel (a ∷ t) x y (inl less) = absurd (omega (arith, less))
Leq-cancel (a ∷ t) x y (inr (same, rest)) = Leq-cancel t x y rest

Leq-empty : (x : List ℕ) → Leq x [] → x ≡ []
Leq-empty [] h = refl
Leq-empty (a ∷ x) h = absurd h

drop_whole : (t : List ℕ) → drop (length t) t ≡ []
drop_whole [] = refl
drop_whole (a ∷ t) = drop_whole t

module _ (n r : ℕ) (t x : List ℕ) (v : IsBytes t) (w : IsBytes x) where
  abbrev f : ℕ
  f = prefix_number (length t) t

  abbrev g : ℕ
  g = prefix_number (length t) x

  passed_before : comes_before t x ≡ true → passed n t r x ≡ true
  passed_before h =
      let less : Lt t x = subst (λ (y : List ℕ). Lt y x) (append-nil t) (less_than t [] x v w h) in
      let leq = prefix_number-mono (length t) t x v (Lt-Leq t x less) in
      let apart : f ≡ g → ⊥ = λ e. not_begun (prefix_from_number t x v w (Lt-Leq t x less) e) in
      ap (λ (k : Bool). k || ((f == g) && nat_lt r (after n t x))) (lt-ltb f g (omega (arith, leq, apart)))
    where
      prefix_not_before : (t x : List ℕ) → is_prefix t x ≡ true → comes_before t x ≡ false
      prefix_not_before [] x e = refl
      prefix_not_before (a ∷ t) [] e = absurd (false≢true e)
      prefix_not_before (a ∷ t) (b ∷ x) e =
          let parts = and_parts (eqb a b) (is_prefix t x) e in
          before_same a b t x (eqb-true a b parts.0) ∙ prefix_not_before t x parts.1

      not_begun : is_prefix t x ≡ true → ⊥
      not_begun e = false≢true (sym (prefix_not_before t x e) ∙ h)

  passed_behind : comes_before t x ≡ false → is_prefix t x ≡ false → passed n t r x ≡ false
  passed_behind h e =
      let more : Leq x t = Lt-Leq x t (subst (Lt x) (append-nil t) (more_than t [] x v w h e)) in
      let leq = prefix_number-mono (length t) x t w more in
      let none : g ≡ f → after n t x ≡ 0 = λ s.
      ap (λ (y : List ℕ). prefix_number 4 y / unit n) (Leq-empty (drop (length t) x) (subst (Leq (drop (length t) x)) (drop_whole t) (rest-mono (length t) x t w v more s))) ∙ zero_bits in
      ap (λ (k : Bool). k || ((f == g) && nat_lt r (after n t x))) (le-ltb f g leq) ∙ rest (f == g) refl none
    where
      zero_bits : prefix_number 4 [] / unit n ≡ 0
      zero_bits = omega (arith, div-mul-le_self 0 (unit n), pow_pos 2 (32 - n) (omega arith))

      rest : (k : Bool) → (f == g) ≡ k → (g ≡ f → after n t x ≡ 0) → (k && nat_lt r (after n t x)) ≡ false
      rest true s none = le-ltb r (after n t x) (omega (arith, none (sym (eqb-true f g s))))
      rest false s none = refl

  passed_begun : is_prefix t x ≡ true → passed n t r x ≡ nat_lt r (after n t x)
  passed_begun e =
      let same : f ≡ g = sym (prefix_number-prefix t x e) in
      ap (λ (k : Bool). k || ((f == g) && nat_lt r (after n t x))) (le-ltb f g (omega (arith, same)))
      ∙ ap (λ (k : Bool). k && nat_lt r (after n t x)) (eq-eqb f g same)

  unit_pos : 0 < unit n
  unit_pos = pow_pos 2 (32 - n) (omega arith)

  -- the least string of the leaf is at or below a bound that begins with its stub where its real bits are
  least_below : is_prefix t x ≡ true → r * unit n < 256 ^ 4 → r ≤ after n t x → is_before x (least n t r) ≡ false
  least_below e small h =
      let y = drop (length t) x in
      let enough : r * unit n ≤ prefix_number 4 y = omega (arith, div-mul-le_self (prefix_number 4 y) (unit n), mul-le-mul_right (unit n) h) in
      let step = Leq-append t (shortest 4 (r * unit n)) y (shortest_least 4 (r * unit n) y (IsBytes-drop (length t) x w) enough) in
      Leq-to (least n t r) x (subst (Leq (least n t r)) (sym (prefix_parts t x e)) step)

  least_above : is_prefix t x ≡ true → r * unit n < 256 ^ 4 → after n t x < r → is_before x (least n t r) ≡ true
  least_above e small h = elim (Lt-or-Leq x (least n t r)) [
    | inl less ↦ Lt-to x (least n t r) less
    | inr leq ↦
        let y = drop (length t) x in
        let s = shortest 4 (r * unit n) in
        let rest : Leq s y = Leq-cancel t s y (subst (Leq (least n t r)) (prefix_parts t x e) leq) in
        let fronts = prefix_number-mono 4 s y (shortest-bytes 4 (r * unit n) small) rest in
        let whole = prefix_number-shortest 4 (r * unit n) small in
        let up = div-mono (r * unit n) (prefix_number 4 y) (unit n) unit_pos (omega (arith, fronts, whole)) in
        absurd (omega (arith, up, mul-div_cancel r unit_pos, h))
  ]

-- ---- a leaf

module _ (hash_bits n : ℕ) (l : Leaf) (x : List ℕ) (leaf : IsLeaf hash_bits n l) (small : l.real * unit n < 256 ^ 4) (w : IsBytes x) where
  pub end_path : l.ends ≡ true → path l ≡ l.stub ++ END ∷ []
  unfolding path
  end_path e = ap (λ (u : List ℕ). l.stub ++ u) (cond-true l.ends (END ∷ []) [] e)

  pub open_path : l.ends ≡ false → path l ≡ l.stub
  unfolding path
  open_path e = ap (λ (u : List ℕ). l.stub ++ u) (cond-false l.ends (END ∷ []) [] e) ∙ append-nil l.stub

  past_end : l.ends ≡ true → is_past n x l ≡ is_before l.stub x
  past_end e = cond-true l.ends (is_before l.stub x) _ e

  past_open : l.ends ≡ false → is_past n x l ≡ passed n l.stub l.real x
  past_open e = cond-false l.ends (is_before l.stub x) _ e

  begun_end : l.ends ≡ true → has_begun n x l ≡ not (is_before x l.stub)
  begun_end e = ap (λ (u : List ℕ). not (is_before x u)) (ap (λ (u : List ℕ). l.stub ++ u) (cond-true l.ends [] _ e) ∙ append-nil l.stub)

  begun_open : l.ends ≡ false → has_begun n x l ≡ not (is_before x (least n l.stub l.real))
  begun_open e = ap (λ (u : List ℕ). not (is_before x u)) (ap (λ (u : List ℕ). l.stub ++ u) (cond-false l.ends [] _ e))

  -- its path comes before the bound
  pub comes_first : comes_before (path l) x ≡ true → (is_past n x l ≡ true) × (has_begun n x l ≡ true)
  comes_first h = elim (cases_Bool l.ends) [
    | inl e ↦
        let less : Lt l.stub x = by_end (sym (ap (λ (q : List ℕ). comes_before q x) (end_path e)) ∙ h) in
        (past_end e ∙ Lt-to l.stub x less, begun_end e ∙ ap not (Leq-to l.stub x (Lt-Leq l.stub x less)))
    | inr e ↦
        let t : comes_before l.stub x ≡ true = sym (ap (λ (q : List ℕ). comes_before q x) (open_path e)) ∙ h in
        let s = shortest 4 (l.real * unit n) in (
          past_open e ∙ passed_before n l.real l.stub x leaf.stub.bytes w t,
          begun_open e ∙ ap not (Leq-to (l.stub ++ s) x (Lt-Leq (l.stub ++ s) x (less_than l.stub s x leaf.stub.bytes w t))),
        )
  ]
    where
      by_end : comes_before (l.stub ++ END ∷ []) x ≡ true → Lt l.stub x
      by_end k = elim (Lt-or-Leq l.stub x) [
        | inl less ↦ less
        | inr leq ↦ absurd (false≢true (sym (end_not_less l.stub x leaf.stub.bytes w leq) ∙ k))
      ]

  -- it comes behind it, and does not begin it
  pub comes_last : comes_before (path l) x ≡ false → is_prefix (path l) (x ++ END ∷ []) ≡ false → (is_past n x l ≡ false) × (has_begun n x l ≡ false)
  comes_last h p = elim (cases_Bool l.ends) [
    | inl e ↦
        let leq : Leq x l.stub = by_end (sym (ap (λ (q : List ℕ). comes_before q x) (end_path e)) ∙ h) in
        (past_end e ∙ Leq-to x l.stub leq, begun_end e ∙ ap not (Lt-to x l.stub (above (sym (ap (λ (q : List ℕ). is_prefix q (x ++ END ∷ [])) (end_path e)) ∙ p) leq)))
    | inr e ↦
        let t : comes_before l.stub x ≡ false = sym (ap (λ (q : List ℕ). comes_before q x) (open_path e)) ∙ h in
        let q : is_prefix l.stub x ≡ false = prefix_bytes l.stub x leaf.stub.bytes ∙ sym (ap (λ (u : List ℕ). is_prefix u (x ++ END ∷ [])) (open_path e)) ∙ p in
        let s = shortest 4 (l.real * unit n) in (
          past_open e ∙ passed_behind n l.real l.stub x leaf.stub.bytes w t q,
          begun_open e ∙ ap not (Lt-to x (l.stub ++ s) (more_than l.stub s x leaf.stub.bytes w t q)),
        )
  ]
    where
      by_end : comes_before (l.stub ++ END ∷ []) x ≡ false → Leq x l.stub
      by_end k = elim (Lt-or-Leq l.stub x) [
        | inl less ↦ absurd (true≢false (sym (end_less l.stub x leaf.stub.bytes w less) ∙ k))
        | inr leq ↦ leq
      ]

      other : (t x : List ℕ) → Leq x t → (t ≡ x → ⊥) → Lt x t
      other [] [] h k = absurd (k refl)
      other [] (b ∷ x) h k = absurd h
      other (a ∷ t) [] h k = tt
      other (a ∷ t) (b ∷ x) (inl less) k = inl less
      other (a ∷ t) (b ∷ x) (inr (same, rest)) k = inr (same, other t x rest (λ e. k (λ j. sym same j ∷ e j)))

      above : is_prefix (l.stub ++ END ∷ []) (x ++ END ∷ []) ≡ false → Leq x l.stub → Lt x l.stub
      above k leq = other l.stub x leq (λ e. true≢false (sym (ended_itself l.stub) ∙ ap (λ (y : List ℕ). is_prefix (l.stub ++ END ∷ []) (y ++ END ∷ [])) e ∙ k))

  -- it begins it with END: the bound is the leaf's stub
  pub is_met : l.ends ≡ true → is_prefix (path l) (x ++ END ∷ []) ≡ true → (is_past n x l ≡ false) × (has_begun n x l ≡ true)
  is_met e p =
      let same : l.stub ≡ x = prefix_ended l.stub x leaf.stub.bytes w (sym (ap (λ (q : List ℕ). is_prefix q (x ++ END ∷ [])) (end_path e)) ∙ p) in
      let not_less : is_before x x ≡ false = Leq-to x x (itself x) in
      (past_end e ∙ ap (λ (t : List ℕ). is_before t x) same ∙ not_less, begun_end e ∙ ap not (ap (is_before x) same ∙ not_less))
    where
      itself : (x : List ℕ) → Leq x x
      itself [] = tt
      itself (a ∷ x) = inr (refl, itself x)

  -- or without
  pub goes_on : l.ends ≡ false → is_prefix (path l) (x ++ END ∷ []) ≡ true → (is_past n x l ≡ nat_lt l.real (after n l.stub x)) × (has_begun n x l ≡ not (nat_lt (after n l.stub x) l.real))
  goes_on e p =
      let q : is_prefix l.stub x ≡ true = prefix_bytes l.stub x leaf.stub.bytes ∙ sym (ap (λ (u : List ℕ). is_prefix u (x ++ END ∷ [])) (open_path e)) ∙ p in
      (past_open e ∙ passed_begun n l.real l.stub x leaf.stub.bytes w q, begun_open e ∙ ap not (by_order q))
    where
      by_order : is_prefix l.stub x ≡ true → is_before x (least n l.stub l.real) ≡ nat_lt (after n l.stub x) l.real
      by_order q = elim (cases_lt (after n l.stub x) l.real) [
        | inl less ↦ least_above n l.real l.stub x leaf.stub.bytes w q small less ∙ sym (lt-ltb (after n l.stub x) l.real less)
        | inr more ↦ least_below n l.real l.stub x leaf.stub.bytes w q small more ∙ sym (le-ltb (after n l.stub x) l.real more)
      ]
