-- The rules of one entry, by the numbers of its head.
use Rattle.std.proofs.Common.{◌≡◌, ◌≤◌, ◌<◌, ◌+◌, ℕ, Bool, true, false, ◌++◌, length, take, drop, refl, sym, ap, ap₂, ◌∙◌, arith}
use Rattle.std.specs.Prelude.{Option, Some, None, ◌==◌, ◌&&◌, ◌||◌, nat_lt, not}
use Rattle.std.proofs.lemmas.Bool.{le-ltb, lt-ltb}
use Rattle.byte_fields.specs.Faults.{Fault, fault, refuse}
use Rattle.key_base.specs.ByteOrder.{is_before}
use Rattle.key_base.specs.Limits.{is_no_key_length}
use Rattle.map_model.specs.SortedMap.{Bytes}
use Rattle.entry_model.specs.Reading.{kind_in}
use Rattle.block_model.specs.BlockReading.{entry_fault_by, has_wrong_kind, shares_otherwise}
use Rattle.block_model.specs.Formats.{Format, entry_head_by, key_by, most_value, rest_length_in, shared_in, value_length_by, width_by}
use Rattle.block_format.specs.Judging.{shares_wrongly}
use Rattle.block_format.proofs.OneByte.{wrongly_is}

-- the first rule is broken, and it is not
stop : (bad : Bool) (place rule : ℕ) (later : Option Fault) → bad ≡ true → refuse bad place rule later ≡ Some (fault place rule)
stop true place rule later e = refl
stop false place rule later e = absurd cc

skip : (bad : Bool) (place rule : ℕ) (later found : Option Fault) → bad ≡ false → later ≡ found → refuse bad place rule later ≡ found
skip true place rule later found e is = absurd cc
skip false place rule later found e is = is

-- what code tests of the kind, and of the lengths
abbrev pub wrong_kind : ℕ → ℕ → Bool
wrong_kind k v = not (k == 1) && (not (k == 2) || nat_lt 0 v)

abbrev pub out_of_limits : Format → ℕ → ℕ → ℕ → Bool
out_of_limits f s r v = is_no_key_length (s + r) || nat_lt (most_value f) v

module _ (f : Format) (i place : ℕ) (before rest : Bytes) where
  pub head_is_cut : length rest < entry_head_by f → entry_fault_by f i place before rest ≡ Some (fault place 3)
  unfolding entry_fault_by
  head_is_cut lt = stop _ _ _ _ (lt-ltb _ _ lt)

  module _ (k s r v h : ℕ) (k_is : k ≡ kind_in rest) (s_is : s ≡ shared_in f rest) (r_is : r ≡ rest_length_in f rest) (v_is : v ≡ value_length_by f rest) (h_is : h ≡ entry_head_by f)
      (long : entry_head_by f ≤ length rest) where
    kinds : has_wrong_kind f rest ≡ wrong_kind k v
    kinds = ap₂ wrong_kind (sym k_is) (sym v_is)

    limits : (is_no_key_length (shared_in f rest + rest_length_in f rest) || nat_lt (most_value f) (value_length_by f rest)) ≡ out_of_limits f s r v
    limits = ap₂ (λ (a b : ℕ). is_no_key_length (a + b) || nat_lt (most_value f) (value_length_by f rest)) (sym s_is) (sym r_is)
        ∙ ap (λ (a : ℕ). is_no_key_length (s + r) || nat_lt (most_value f) a) (sym v_is)

    pub width : width_by f rest ≡ h + r + v
    unfolding width_by
    width = omega (arith, r_is, v_is, h_is)

    own : take (rest_length_in f rest) (drop (entry_head_by f) rest) ≡ take r (drop h rest)
    own = ap₂ (λ (a b : ℕ). take a (drop b rest)) (sym r_is) (sym h_is)

    shares : shares_otherwise f i before rest ≡ shares_wrongly f i s before (take r (drop h rest))
    shares = wrongly_is f i before rest ∙ ap₂ (λ (a : ℕ) (l : Bytes). shares_wrongly f i a before l) (sym s_is) own

    pub key : key_by f before rest ≡ take s before ++ take r (drop h rest)
    unfolding key_by
    key = ap₂ (λ (a : ℕ) (l : Bytes). take a before ++ l) (sym s_is) own

    above : is_before before (key_by f before rest) ≡ is_before before (take s before ++ take r (drop h rest))
    above = ap (is_before before) key

    pub kind_is_wrong : wrong_kind k v ≡ true → entry_fault_by f i place before rest ≡ Some (fault place 4)
    unfolding entry_fault_by
    kind_is_wrong wrong = skip _ _ _ _ _ (le-ltb _ _ long) (stop _ _ _ _ (kinds ∙ wrong))

    module _ (sound : wrong_kind k v ≡ false) where
      pub limits_are_passed : out_of_limits f s r v ≡ true → entry_fault_by f i place before rest ≡ Some (fault place 5)
      unfolding entry_fault_by
      limits_are_passed past = skip _ _ _ _ _ (le-ltb _ _ long) (skip _ _ _ _ _ (kinds ∙ sound) (stop _ _ _ _ (limits ∙ past)))

      module _ (within : out_of_limits f s r v ≡ false) where
        pub entry_is_cut : length rest < h + r + v → entry_fault_by f i place before rest ≡ Some (fault place 3)
        unfolding entry_fault_by
        entry_is_cut lt =
            let past : length rest < width_by f rest = omega (arith, width, lt) in
            skip _ _ _ _ _ (le-ltb _ _ long) (skip _ _ _ _ _ (kinds ∙ sound) (skip _ _ _ _ _ (limits ∙ within)
            (stop _ _ _ _ (lt-ltb _ _ past))))

        module _ (whole : h + r + v ≤ length rest) where
          fits : width_by f rest ≤ length rest
          fits = omega (arith, width, whole)

          pub shares_another_number : shares_wrongly f i s before (take r (drop h rest)) ≡ true → entry_fault_by f i place before rest ≡ Some (fault place 10)
          unfolding entry_fault_by
          shares_another_number wrongly =
              skip _ _ _ _ _ (le-ltb _ _ long) (skip _ _ _ _ _ (kinds ∙ sound) (skip _ _ _ _ _ (limits ∙ within)
              (skip _ _ _ _ _ (le-ltb _ _ fits) (stop _ _ _ _ (shares ∙ wrongly)))))

          module _ (rightly : shares_wrongly f i s before (take r (drop h rest)) ≡ false) where
            pub is_not_above : is_before before (take s before ++ take r (drop h rest)) ≡ false → entry_fault_by f i place before rest ≡ Some (fault place 6)
            unfolding entry_fault_by
            is_not_above below =
                skip _ _ _ _ _ (le-ltb _ _ long) (skip _ _ _ _ _ (kinds ∙ sound) (skip _ _ _ _ _ (limits ∙ within)
                (skip _ _ _ _ _ (le-ltb _ _ fits) (skip _ _ _ _ _ (shares ∙ rightly)
                (stop _ _ _ _ (ap not (above ∙ below)))))))

            pub keeps_rules : is_before before (take s before ++ take r (drop h rest)) ≡ true → entry_fault_by f i place before rest ≡ None
            unfolding entry_fault_by
            keeps_rules rises =
                skip _ _ _ _ _ (le-ltb _ _ long) (skip _ _ _ _ _ (kinds ∙ sound) (skip _ _ _ _ _ (limits ∙ within)
                (skip _ _ _ _ _ (le-ltb _ _ fits) (skip _ _ _ _ _ (shares ∙ rightly)
                (skip _ _ _ _ _ (ap not (above ∙ rises)) refl)))))
