-- What is found of the bytes of a block.
use Rattle.std.proofs.Common.{◌≡◌, ◌≢◌, ◌+◌, ℕ, Bool, true, false, cond, List, [], ◌∷◌, ◌++◌, refl, sym, ap, ◌∙◌}
use Rattle.std.proofs.lemmas.Bool.{eq-eqb}
use Rattle.std.specs.Prelude.{◌&&◌, bytes_eq, is_none, Option, Some, None}
use Rattle.std.specs.Option.{option_map}
use Rattle.byte_fields.specs.Faults.{Fault}
use Rattle.byte_fields.specs.Sums.{fnv_of}
use Rattle.byte_fields.specs.declared.parts.Damage.{Damage}
use Rattle.byte_fields.specs.declared.parts.Damage.TheVariants as damage
use Rattle.byte_fields.specs.declared.parts.Part.TheVariants as part
use Rattle.disk_trait.specs.Image.{Image}
use Rattle.map_model.specs.SortedMap.{Bytes}
use Rattle.entry_model.specs.Entries.{Entry, keys_of}
use Rattle.block_model.specs.BlockReading.{block_fault, block_in}
use Rattle.block_model.specs.Index.{IndexRow}
use Rattle.block_model.specs.Pages.{first_key, last_key}
use Rattle.block_model.specs.Places.{byte_of_page}
use Rattle.table_model.specs.Damage.{block_part}
use Rattle.table_model.proofs.Sound.{block_rules}
use Rattle.table_file.specs.Opened.{RowIndex}
use Rattle.table_file.specs.Search.{row_at}
use Rattle.image_model.specs.Findings.{Behind, Finding, Unknown, WrongKeys, block_at, finding, findings_at, found_by, has_its_keys, known_behind, may_follow, unless}
use Rattle.store_check.specs.Befores.{before_of}
use Rattle.store_check.specs.Blocks.{IsJudged}
use Rattle.store_check.specs.Lists.{listed}
use Rattle.store_check.specs.Places.{damage_at, page_of, part_of}
use Rattle.store_check.specs.declared.blocks.BlocksSeen.{BlocksSeen}

and_true : (b : Bool) → (b && true) ≡ b
and_true true = refl
and_true false = refl

and_false : (b : Bool) → (b && false) ≡ false
and_false true = refl
and_false false = refl

pub none_wrong : (right : Bool) (b : Bool) (f : Finding) → right ≡ b → right ≡ true → [] ≡ unless b f
none_wrong right b f is is_right = ap (λ (r : Bool). unless r f) (sym is_right ∙ is)

pub one_wrong : (right : Bool) (b : Bool) (f g : Finding) → right ≡ b → right ≡ false → g ≡ f → g ∷ [] ≡ unless b f
one_wrong right b f g is is_wrong same = ap (λ (h : Finding). h ∷ []) same ∙ ap (λ (r : Bool). unless r f) (sym is_wrong ∙ is)

module _ (x : RowIndex) (n : ℕ) (image : Image) (bytes : Bytes) (part_is : part_of x n image ≡ bytes) where
  abbrev row : IndexRow
  row = row_at x.index.rows n

  abbrev page : ℕ
  page = page_of x n

  -- another sum than the kept one
  pub sum_damage : (at kept seen : ℕ) → at ≡ byte_of_page page → kept ≡ row.sum → seen ≡ fnv_of bytes → seen ≢ kept → damage_at x n image ≡ Some (damage.Sum part.Block at kept seen)
  sum_damage at kept seen at_is kept_is seen_is other =
      (block_rules page row image).sum (λ e. other (seen_is ∙ sym (kept_is ∙ e ∙ ap fnv_of part_is)))
      ∙ (λ i. Some (damage.Sum part.Block (sym at_is i) (sym kept_is i) ((ap fnv_of part_is ∙ sym seen_is) i)))

  same_sum : (kept seen : ℕ) → kept ≡ row.sum → seen ≡ fnv_of bytes → seen ≡ kept → row.sum ≡ fnv_of (block_part page row image)
  same_sum kept seen kept_is seen_is same = sym kept_is ∙ sym same ∙ seen_is ∙ sym (ap fnv_of part_is)

  -- the kept sum, and a broken rule
  pub rule_damage : (at kept seen : ℕ) (f : Fault) → at ≡ byte_of_page page + f.place → kept ≡ row.sum → seen ≡ fnv_of bytes → seen ≡ kept → block_fault bytes ≡ Some f
      → damage_at x n image ≡ Some (damage.Shape part.Block at f.rule)
  rule_damage at kept seen f at_is kept_is seen_is same broken =
      (block_rules page row image).rule f (same_sum kept seen kept_is seen_is same) (ap block_fault part_is ∙ broken)
      ∙ ap (λ (place : ℕ). Some (damage.Shape part.Block place f.rule)) (sym at_is)

  -- the kept sum, and no broken rule
  pub no_damage : (kept seen : ℕ) → kept ≡ row.sum → seen ≡ fnv_of bytes → seen ≡ kept → block_fault bytes ≡ None → damage_at x n image ≡ None
  no_damage kept seen kept_is seen_is same whole =
      let bytes_there = block_part page row image in
      let shape : Fault → Damage = λ f. damage.Shape part.Block (byte_of_page page + f.place) f.rule in
      ap (λ (b : Bool). cond b (option_map shape (block_fault bytes_there)) (Some (damage.Sum part.Block (byte_of_page page) row.sum (fnv_of bytes_there))))
      (eq-eqb row.sum (fnv_of bytes_there) (same_sum kept seen kept_is seen_is same))
      ∙ ap (option_map shape) (ap block_fault part_is ∙ whole)

  -- a block that is not damaged: its keys, and what is known after it
  pub judged_sound : (old new : BlocksSeen) (found : Option Finding) → damage_at x n image ≡ None
      → listed found ≡ unless (bytes_eq row.last (last_key (block_in bytes)) && may_follow (before_of old.before) (first_key (block_in bytes))) (finding part.Block (byte_of_page page) WrongKeys)
      → before_of new.before ≡ Behind (last_key (block_in bytes)) → new.sound ≡ old.sound → new.keys ≡ old.keys ++ keys_of (block_in bytes)
      → IsJudged x n image old new found
  judged_sound old new found none found_is before sound keys =
      let block : block_at page row image ≡ block_in bytes = ap block_in part_is in
      record {
        found_is = found_is
            ∙ sym (ap (λ (o : Option Damage). findings_at page (before_of old.before) row o image) none
            ∙ ap (λ (b : List Entry). unless (has_its_keys (before_of old.before) row b) (finding part.Block (byte_of_page page) WrongKeys)) block);
        before_is = before ∙ sym (ap (λ (o : Option Damage). known_behind page row o image) none ∙ ap (λ (b : List Entry). Behind (last_key b)) block);
        sound_is = sound ∙ sym (ap (λ (o : Option Damage). old.sound && is_none o) none ∙ and_true old.sound);
        keys_are = λ _. keys ∙ ap (λ (b : List Entry). old.keys ++ keys_of b) (sym block);
      }

  -- a damaged one
  pub judged_damaged : (old new : BlocksSeen) (found : Option Finding) (d : Damage) → damage_at x n image ≡ Some d → listed found ≡ found_by (Some d)
      → before_of new.before ≡ Unknown → new.sound ≡ false → IsJudged x n image old new found
  judged_damaged old new found d is found_is before sound = record {
    found_is = found_is ∙ sym (ap (λ (o : Option Damage). findings_at page (before_of old.before) row o image) is);
    before_is = before ∙ sym (ap (λ (o : Option Damage). known_behind page row o image) is);
    sound_is = sound ∙ sym (ap (λ (o : Option Damage). old.sound && is_none o) is ∙ and_false old.sound);
    keys_are = λ none. let both = sym none ∙ is in absurd cc;
  }
