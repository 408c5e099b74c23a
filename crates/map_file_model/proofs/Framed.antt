-- What is read of the parts of a body, one after the other.
use Rattle.std.proofs.Common.{◌≡◌, ◌<◌, ◌≤◌, ◌+◌, ◌*◌, ◌^◌, ◌==◌, ℕ, suc, List, [], ◌∷◌, ◌++◌, length, take, drop, get_or, refl, sym, ap, ◌∙◌, arith, append_assoc, length-append}
use Rattle.std.specs.Prelude.{nat_lt, not, ◌||◌, None}
use Rattle.std.specs.List.{AllByRecursion, concat}
use Rattle.std.specs.Option.{option_map}
use Rattle.std.proofs.lemmas.Bool.{eq-eqb, le-ltb, ne_eqb, or_from}
use Rattle.std.proofs.lemmas.List.{drop-drop, drop_at, take_at}
use Rattle.byteorder.specs.Endian.{little_bytes, little_number}
use Rattle.byte_fields.specs.Sums.{fnv_of}
use Rattle.byte_fields.proofs.FaultLemmas.{none_of, not_true, passed}
use Rattle.byte_fields.proofs.NumberLemmas.{number_again}
use Rattle.filter_image_model.specs.Header.{leaf_count_in}
use Rattle.filter_image_model.specs.Reading.{bytes_fault, whole_fault}
use Rattle.map_file_model.specs.Body.{body_head, front_of, offsets_of, words}
use Rattle.map_file_model.specs.Maps.{Bytes, max_map_pairs}
use Rattle.map_file_model.specs.Reading.{body_end, body_fault, end_fault, falls, fault_behind, head_fault, image_length_in, image_part, offset_at, offsets_fault, offsets_in, offsets_place, pair_count_in, pieces, short_fault, sum_place, trie_fault, values_in, values_place, words_in}
use Rattle.map_file_model.proofs.Words.{ends_fit, last_end, length-ends, length-words, none_falls, pieces_again, words_again, words_at}

-- numbers and parts that a body has room for
pub record HasRoom (n : ℕ) (img : Bytes) (values : List Bytes) (sum : Bytes) : Type 0 where
  pub few : n < 2 ^ 32
  pub short : length img < 2 ^ 64
  pub sized : length values ≡ n
  pub fit : length (concat values) < 2 ^ 64
  pub sum_long : length sum ≡ 8

-- what the parts are themselves
pub record AreRight (n : ℕ) (img : Bytes) (values : List Bytes) (sum : Bytes) : Type 0 where
  pub some : 0 < n
  pub at_most : n ≤ max_map_pairs
  pub image_kept : whole_fault img ≡ None
  pub counted : leaf_count_in img ≡ n
  pub sum_is : little_number 8 sum ≡ fnv_of (front_of n img values)

module _ (n : ℕ) (img : Bytes) (values : List Bytes) (sum : Bytes) where
  abbrev after_image : Bytes
  after_image = words (offsets_of values) ++ (concat values ++ sum)

  abbrev pub framed : Bytes
  framed = 83 ∷ 85 ∷ 82 ∷ 77 ∷ 1 ∷ 0 ∷ 0 ∷ 0 ∷ (little_bytes 4 n ++ (0 ∷ 0 ∷ 0 ∷ 0 ∷ (little_bytes 8 (length img) ++ (img ++ (words (offsets_of values) ++ (concat values ++ sum))))))

  pub joined : framed ≡ front_of n img values ++ sum
  joined =
      let w = words (offsets_of values) in
      let v = concat values in
      sym (append_assoc (body_head n (length img)) (img ++ (w ++ v)) sum
      ∙ ap (λ (l : Bytes). body_head n (length img) ++ l) (append_assoc img (w ++ v) sum ∙ ap (λ (l : Bytes). img ++ l) (append_assoc w v sum)))

  module _ (r : HasRoom n img values sum) where
    count_is : pair_count_in framed ≡ n
    count_is = number_again 4 n (0 ∷ 0 ∷ 0 ∷ 0 ∷ (little_bytes 8 (length img) ++ (img ++ after_image))) r.few

    size_is : image_length_in framed ≡ length img
    size_is = number_again 8 (length img) (img ++ after_image) r.short

    pub part_is : image_part framed ≡ img
    unfolding image_part
    part_is = ap (λ (k : ℕ). take k (img ++ after_image)) size_is ∙ take_at img after_image (length img) refl

    -- ---- places

    words_there : drop (offsets_place framed) framed ≡ after_image
    words_there = ap (λ (s : ℕ). drop (24 + s) framed) size_is ∙ sym (drop-drop (length img) 24 framed) ∙ drop_at img after_image (length img) refl

    words_long : length (words (offsets_of values)) ≡ 8 * (n + 1)
    words_long = omega (arith, length-words (offsets_of values), length-ends 0 values, r.sized)

    values_there : drop (values_place framed) framed ≡ concat values ++ sum
    values_there =
        sym (drop-drop (8 * (pair_count_in framed + 1)) (offsets_place framed) framed)
        ∙ ap (drop (8 * (pair_count_in framed + 1))) words_there
        ∙ ap (λ (k : ℕ). drop (8 * (k + 1)) after_image) count_is
        ∙ drop_at (words (offsets_of values)) (concat values ++ sum) (8 * (n + 1)) words_long

    offsets_fit : AllByRecursion (λ (k : ℕ). k < 2 ^ 64) (offsets_of values)
    offsets_fit = (omega arith, ends_fit 0 (2 ^ 64) values (omega (arith, r.fit)))

    words_are : words_in (suc (pair_count_in framed)) (drop (offsets_place framed) framed) ≡ offsets_of values
    words_are =
        let size : suc n ≡ length (offsets_of values) = omega (arith, length-ends 0 values, r.sized) in
        (λ i. words_in (suc (count_is i)) (words_there i)) ∙ ap (λ (k : ℕ). words_in k after_image) size
        ∙ words_again (offsets_of values) (concat values ++ sum) offsets_fit

    offsets_are : offsets_in framed ≡ offsets_of values
    unfolding offsets_in
    offsets_are = words_are

    pub values_are : values_in framed ≡ values
    unfolding values_in
    values_are = (λ i. pieces (offsets_are i) (values_there i)) ∙ pieces_again values [] sum 0 refl

    offset_is : (i : ℕ) → i ≤ n → offset_at framed i ≡ get_or (offsets_of values) i 0
    offset_is i le =
        sym (ap (little_number 8) (drop-drop (8 * i) (offsets_place framed) framed))
        ∙ sym (words_at (suc (pair_count_in framed)) i (drop (offsets_place framed) framed) (omega (arith, le, count_is)))
        ∙ ap (λ (l : List ℕ). get_or l i 0) words_are

    last_is : offset_at framed (pair_count_in framed) ≡ length (concat values)
    last_is =
        let all : 0 + length (concat values) ≡ length (concat values) = omega arith in
        ap (offset_at framed) count_is ∙ offset_is n (omega arith) ∙ ap (λ (k : ℕ). get_or (offsets_of values) k 0) (sym r.sized) ∙ last_end 0 values ∙ all

    head_long : length (body_head n (length img)) ≡ 24
    head_long = refl

    front_long : length (front_of n img values) ≡ sum_place framed
    front_long =
        let w = words (offsets_of values) in
        let v = concat values in
        omega (arith, length-append (body_head n (length img)) (img ++ (w ++ v)), head_long, length-append img (w ++ v), length-append w v, words_long, size_is, count_is, last_is)

    take_is : take (sum_place framed) framed ≡ front_of n img values
    take_is = ap (take (sum_place framed)) joined ∙ take_at (front_of n img values) sum (sum_place framed) front_long

    drop_is : drop (sum_place framed) framed ≡ sum
    drop_is = ap (drop (sum_place framed)) joined ∙ drop_at (front_of n img values) sum (sum_place framed) front_long

    whole_long : length framed ≡ body_end framed
    whole_long = ap length joined ∙ length-append (front_of n img values) sum ∙ omega (arith, front_long, r.sum_long)

    -- ---- rules

    long_enough : short_fault framed ≡ None
    unfolding short_fault
    long_enough =
        let size = whole_long in
        passed (nat_lt (length framed) 24) _ _ _ (le-ltb (length framed) 24 (omega (arith, size)))
        (passed (nat_lt (length framed) (values_place framed)) _ _ _ (le-ltb (length framed) (values_place framed) (omega (arith, size)))
        (passed (nat_lt (length framed) (body_end framed)) _ _ _ (le-ltb (length framed) (body_end framed) (omega (arith, size))) refl))

    module _ (a : AreRight n img values sum) where
      not_none : pair_count_in framed ≡ 0 → ⊥
      not_none e = omega (arith, e, count_is, a.some)

      head_kept : head_fault framed ≡ None
      unfolding head_fault
      head_kept =
          none_of (bytes_fault 2 0 (83 ∷ 85 ∷ 82 ∷ 77 ∷ 1 ∷ []) framed) _ refl
          (none_of (bytes_fault 3 5 (0 ∷ 0 ∷ 0 ∷ []) framed) _ refl
          (none_of (bytes_fault 3 12 (0 ∷ 0 ∷ 0 ∷ 0 ∷ []) framed) _ refl
          (passed ((pair_count_in framed == 0) || nat_lt max_map_pairs (pair_count_in framed)) _ _ _
          (or_from (pair_count_in framed == 0) (nat_lt max_map_pairs (pair_count_in framed)) (ne_eqb (pair_count_in framed) 0 not_none)
          (le-ltb max_map_pairs (pair_count_in framed) (omega (arith, count_is, a.at_most)))) refl)))

      trie_kept : trie_fault framed ≡ None
      unfolding trie_fault
      trie_kept =
          none_of (option_map (fault_behind 24 5) (whole_fault (image_part framed))) _
          (ap (λ (l : Bytes). option_map (fault_behind 24 5) (whole_fault l)) part_is ∙ ap (option_map (fault_behind 24 5)) a.image_kept)
          (passed (not (leaf_count_in (image_part framed) == pair_count_in framed)) _ _ _
          (not_true _ (eq-eqb (leaf_count_in (image_part framed)) (pair_count_in framed) (ap leaf_count_in part_is ∙ a.counted ∙ sym count_is))) refl)

      offsets_kept : offsets_fault framed ≡ None
      unfolding offsets_fault
      offsets_kept =
          passed (not (offset_at framed 0 == 0)) _ _ _ (not_true _ (eq-eqb (offset_at framed 0) 0 (offset_is 0 (omega arith))))
          (ap (falls (offsets_place framed) 0) offsets_are ∙ none_falls (offsets_place framed + 8) 0 values)

      end_kept : end_fault framed ≡ None
      unfolding end_fault
      end_kept =
          let size = whole_long in
          passed (nat_lt (body_end framed) (length framed)) _ _ _ (le-ltb (body_end framed) (length framed) (omega (arith, size)))
          (passed (not (little_number 8 (drop (sum_place framed) framed) == fnv_of (take (sum_place framed) framed))) _ _ _
          (not_true _ (eq-eqb (little_number 8 (drop (sum_place framed) framed)) (fnv_of (take (sum_place framed) framed))
          (ap (little_number 8) drop_is ∙ a.sum_is ∙ ap fnv_of (sym take_is)))) refl)

      pub no_rule_broken : body_fault framed ≡ None
      unfolding body_fault
      no_rule_broken =
          none_of (short_fault framed) _ long_enough
          (none_of (head_fault framed) _ head_kept
          (none_of (trie_fault framed) _ trie_kept
          (none_of (offsets_fault framed) _ offsets_kept end_kept)))
