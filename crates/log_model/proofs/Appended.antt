-- What a crash leaves in each of the two steps of an append.
use Rattle.std.proofs.Common.{◌≡◌, inl, inr, ◌≤◌, ◌+◌, ℕ, suc, List, [], ◌∷◌, ◌++◌, length, get_or, sym, ap, ◌∙◌, subst, arith, length-append}
use Rattle.std.specs.Prelude.{flat_map}
use Rattle.std.proofs.lemmas.Bool.{cases_eq}
use Rattle.disk_trait.specs.Image.{Image, window, overwritten, Torn}
use Rattle.disk_trait.proofs.Images.{window_kept, byte_kept, overwritten_at, whole, window_overwritten, window_split, window_size}
use Rattle.range_model.specs.Sources.{Change}
use Rattle.log_model.specs.Changes.{IsLoggedChange, change_body, change_record, filled_by, need_of}
use Rattle.log_model.specs.Area.{start_of, LogIs, WithOrWithout}
use Rattle.log_model.proofs.Logs.{Stands, stands, logged, none_filled, filled_more, records_more, need_is, all_push, same_parts}

-- a closed first gate is a log of no change
pub empty : (area : ℕ) (image : Image) → image (start_of area) ≡ 0 → LogIs area [] image
empty area image zero_there = logged area [] image (record {
  sound = tt;
  within = omega (arith, none_filled);
  records = ap (window image (start_of area)) none_filled;
  closed = λ now. let first : start_of area + filled_by [] ≡ start_of area = omega (arith, none_filled) in
      let same : image (start_of area) ≡ 1 = ap image (sym first) ∙ now in omega arith;
})

-- a change's body and a closed gate stand behind the log's closed gate
pub record Staged (area : ℕ) (changes : List Change) (change : Change) (image : Image) : Type 0 where
  pub log : Stands area changes image
  pub behind : window image (start_of area + filled_by changes + 1) (length (change_body change)) ≡ change_body change
  pub closed : image (start_of area + filled_by changes + 1 + length (change_body change)) ≡ 0

module _ (area : ℕ) (changes : List Change) (change : Change) (bytes : List ℕ) (is : bytes ≡ change_body change ++ 0 ∷ []) (gate : ℕ) (here : gate ≡ start_of area + filled_by changes) where
  size : length bytes ≡ length (change_body change) + 1
  size = omega (arith, ap length is, length-append (change_body change) (0 ∷ []))

  -- the first write is behind the gate
  still : (f g : Image) → Stands area changes f → Torn (gate + 1) (length bytes) f g → Stands area changes g
  still f g s torn = record {
    sound = s.sound;
    within = s.within;
    records = window_kept (gate + 1) (length bytes) f g (start_of area) (filled_by changes) (inl (omega (arith, here))) torn ∙ s.records;
    closed = λ now. s.closed (sym (byte_kept (gate + 1) (length bytes) f g (start_of area + filled_by changes) (inl (omega (arith, here))) torn) ∙ now);
  }

  pub stays : (f g : Image) → LogIs area changes f → Torn (gate + 1) (length bytes) f g → LogIs area changes g
  stays f g log torn = logged area changes g (still f g (stands area changes f log) torn)

  pub staged : (f g : Image) → LogIs area changes f → g ≡ overwritten f (gate + 1) bytes → Staged area changes change g
  staged f g log all =
      let there : window g (gate + 1) (length bytes) ≡ bytes = ap (λ (h : Image). window h (gate + 1) (length bytes)) all ∙ window_overwritten f (gate + 1) bytes in
      let both : window g (gate + 1) (length (change_body change)) ++ window g (gate + 1 + length (change_body change)) 1 ≡ change_body change ++ 0 ∷ [] =
      sym (window_split g (gate + 1) (length (change_body change)) 1) ∙ ap (window g (gate + 1)) (sym size) ∙ there ∙ is in
      let parts = same_parts (window g (gate + 1) (length (change_body change))) (change_body change) (window g (gate + 1 + length (change_body change)) 1) (0 ∷ []) (window_size g (gate + 1) (length (change_body change))) both in
      record {
        log = still f g (stands area changes f log) (whole f g (gate + 1) bytes all);
        behind = subst (λ (k : ℕ). window g (k + 1) (length (change_body change)) ≡ change_body change) here parts.0;
        closed = subst (λ (k : ℕ). g (k + 1 + length (change_body change)) ≡ 0) here (ap (λ (l : List ℕ). get_or l 0 0) parts.1);
      }

  pub without : (f : Image) → Staged area changes change f → WithOrWithout area changes change f
  without f s = inl (logged area changes f s.log)

  module _ (sound : IsLoggedChange change) (room : filled_by changes + need_of change ≤ 262144) where
    with_it : (f g : Image) → Staged area changes change f → Torn gate 1 f g → g gate ≡ 1 → LogIs area (changes ++ change ∷ []) g
    with_it f g s torn one =
        let a = filled_by changes in
        let b = length (change_body change) in
        let before : window g (start_of area) a ≡ flat_map change_record changes = window_kept gate 1 f g (start_of area) a (inl (omega (arith, here))) torn ∙ s.log.records in
        let opened : g (start_of area + a) ≡ 1 = subst (λ (k : ℕ). g k ≡ 1) here one in
        let after : window g (start_of area + a + 1) b ≡ change_body change = window_kept gate 1 f g (start_of area + a + 1) b (inr (omega (arith, here))) torn ∙ s.behind in
        let behind_gate : window g (start_of area + a) (1 + b) ≡ change_record change = cells g (start_of area + a) b (change_body change) opened after in
        let next : start_of area + filled_by (changes ++ change ∷ []) ≡ start_of area + a + 1 + b = omega (arith, filled_more changes change) in
        logged area (changes ++ change ∷ []) g (record {
          sound = all_push IsLoggedChange changes change s.log.sound sound;
          within = omega (arith, filled_more changes change, need_is change, room);
          records = ap (window g (start_of area)) (filled_more changes change)
              ∙ window_split g (start_of area) a (1 + b)
              ∙ ap (λ (l : List ℕ). l ++ window g (start_of area + a) (1 + b)) before
              ∙ ap (λ (l : List ℕ). flat_map change_record changes ++ l) behind_gate
              ∙ sym (records_more changes change);
          closed = λ now.
              let zero_there : g (start_of area + a + 1 + b) ≡ 0 = byte_kept gate 1 f g (start_of area + a + 1 + b) (inr (omega (arith, here))) torn ∙ s.closed in
              let one_there : g (start_of area + a + 1 + b) ≡ 1 = subst (λ (k : ℕ). g k ≡ 1) next now in
              omega (arith, zero_there, one_there);
        })
      where
        cells : (g : Image) (at n : ℕ) (bytes : List ℕ) → g at ≡ 1 → window g (at + 1) n ≡ bytes → window g at (1 + n) ≡ 1 ∷ bytes
        cells g at n bytes first rest = let e : 1 + n ≡ suc n = omega arith in ap (window g at) e ∙ (λ i. first i ∷ rest i)

    pub opening : (f g : Image) → Staged area changes change f → Torn gate 1 f g → WithOrWithout area changes change g
    opening f g s torn = elim (cases_eq (g gate) 1) [
      | inl one ↦ inr (with_it f g s torn one)
      | inr other ↦ inl (logged area changes g (record {
        sound = s.log.sound;
        within = s.log.within;
        records = window_kept gate 1 f g (start_of area) (filled_by changes) (inl (omega (arith, here))) torn ∙ s.log.records;
        closed = λ now. other (subst (λ (k : ℕ). g k ≡ 1) (sym here) now);
      }))
    ]

    pub opened : (f g : Image) → Staged area changes change f → g ≡ overwritten f gate (1 ∷ []) → LogIs area (changes ++ change ∷ []) g
    opened f g s all = with_it f g s (whole f g gate (1 ∷ []) all) (ap (λ (h : Image). h gate) all ∙ overwritten_at f gate (1 ∷ []) gate 0 (omega arith) (omega arith))
