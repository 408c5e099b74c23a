use Rattle.std.proofs.Common.{◌≡◌, ◌≤◌, ℕ, List, length, take, drop, sym, ap, ap₂, subst, ◌∙◌, arith}
use Rattle.std.specs.Option.{option_or}
use Rattle.std.specs.Prelude.{Option, Some, None}
use Rattle.byte_fields.specs.Faults.{Fault}
use Rattle.byte_fields.specs.declared.parts.Damage.{Damage}
use Rattle.byte_fields.specs.declared.parts.Row.{Row}
use Rattle.manifest_model.specs.Reading.{body_damage, body_format, head_settings, later_fault, log_area_fault, numbers_fault, settings_fault, table_count_in, table_rows_in, version_in, zeros_fault}
use Rattle.manifest_model.proofs.VersionsWritten.{version_rows}
use Rattle.manifest.specs.Manifest.{place_of}
use Rattle.manifest.specs.Reading.{IsBodyDamage, rows_broken}
use Rattle.manifest.proofs.Bodies.{after_numbers, broken_rows, early_first, later_broken, none_broken, others_first, pages_kept, sum_broken}
use Rattle.manifest.proofs.Loads.{is_written}
use Rattle.manifest.proofs.Rows.{many}
use Rattle.manifest.proofs.reading.read_body.Goals as goal

pub returns-in-Some-clause-damage : goal.returns-in-Some-clause-damage
returns-in-Some-clause-damage c =
    sum_broken (place_of c.args.slot) c.args.body.now c.requires.head c.in-Some.ensures.other ∙ ap (λ (d : Damage). Some d) (sym c.in-Some.ensures.damage)

pub returns-in-Some-number_rules-clause-damage : goal.returns-in-Some-number_rules-clause-damage
returns-in-Some-number_rules-clause-damage c =
    let slot = place_of c.args.slot in
    let body = c.args.body.now in
    let f = c.in-Some-number_rules.broken in
    subst (IsBodyDamage (body_damage slot body)) (sym c.shape.ensures)
    (later_broken slot body f c.requires.head c.in_default.ensures.same (early_first body f (sym c.number_rules.ensures ∙ c.in-Some-number_rules.is)))

pub judged_rows-requires-clause-from : goal.judged_rows-requires-clause-from
judged_rows-requires-clause-from c =
    subst (λ (n : ℕ). 512 ≤ n) (sym c.get_u32.ensures) (pages_kept c.args.body.now (sym c.number_rules.ensures ∙ c.in_default-number_rules.is)).some_pages

pub judged_rows-requires-clause-to : goal.judged_rows-requires-clause-to
judged_rows-requires-clause-to c =
    subst (λ (n : ℕ). n ≤ 16777216) (sym c.get_u32.ensures) (pages_kept c.args.body.now (sym c.number_rules.ensures ∙ c.in_default-number_rules.is)).few_pages

pub settings_rules-requires : goal.settings_rules-requires
settings_rules-requires c =
    let body = c.args.body.now in
    let count : c.from-count.result ≡ table_count_in body = c.from-count.ensures ∙ c.get_u16.ensures in
    let rows : length c.deref.result.now ≡ c.from-count.result =
    ap length (c.deref.ensures.value ∙ c.in_ok-rows.ensures.rows) ∙ many (body_format body) (head_settings body) c.from-count.result (drop 64 body) in
    omega (arith, rows, count, c.requires.few)

-- the faults that are tried after rules 4 and 5 of the head
pub returns-in-Some-first_of-clause-damage : goal.returns-in-Some-first_of-clause-damage
returns-in-Some-first_of-clause-damage c =
    let slot = place_of c.args.slot in
    let body = c.args.body.now in
    let f = c.in-Some-first_of.broken in
    let count : c.from-count.result ≡ table_count_in body = c.from-count.ensures ∙ c.get_u16.ensures in
    let rows : c.deref.result.now ≡ (version_in body).rows =
    c.deref.ensures.value ∙ c.in_ok-rows.ensures.rows ∙ ap (λ (n : ℕ). table_rows_in (body_format body) (head_settings body) n (drop 64 body)) count ∙ sym (version_rows body) in
    let broken : c.in_ok-rows.later ≡ broken_rows body =
    c.in_ok-rows.ensures.broken ∙ ap₂ (λ (pages n : ℕ). rows_broken (body_format body) (head_settings body) pages n (drop 64 body)) c.get_u32.ensures count in
    let zeros = c.first_of-zeros.ensures ∙ ap₂ option_or c.zeros_rule.ensures broken in
    let log_area = c.first_of-log_area.ensures ∙ ap₂ option_or c.log_area_rules.ensures zeros in
    let all : c.first_of.result ≡ after_numbers body = c.first_of.ensures ∙ ap₂ option_or (c.settings_rules.ensures ∙ ap (settings_fault 64) rows) log_area in
    let found : later_fault body ≡ Some f = others_first body (sym c.number_rules.ensures ∙ c.in_default-number_rules.is) ∙ sym all ∙ c.in-Some-first_of.is in
    subst (IsBodyDamage (body_damage slot body)) (sym c.shape-in-Some-first_of.ensures) (later_broken slot body f c.requires.head c.in_default.ensures.same found)

pub returns-clause-sound : goal.returns-clause-sound
returns-clause-sound c =
    let slot = place_of c.args.slot in
    let body = c.args.body.now in
    let count : c.from-count.result ≡ table_count_in body = c.from-count.ensures ∙ c.get_u16.ensures in
    let rows : c.deref.result.now ≡ (version_in body).rows =
    c.deref.ensures.value ∙ c.in_ok-rows.ensures.rows ∙ ap (λ (n : ℕ). table_rows_in (body_format body) (head_settings body) n (drop 64 body)) count ∙ sym (version_rows body) in
    let broken : c.in_ok-rows.later ≡ broken_rows body =
    c.in_ok-rows.ensures.broken ∙ ap₂ (λ (pages n : ℕ). rows_broken (body_format body) (head_settings body) pages n (drop 64 body)) c.get_u32.ensures count in
    let zeros = c.first_of-zeros.ensures ∙ ap₂ option_or c.zeros_rule.ensures broken in
    let log_area = c.first_of-log_area.ensures ∙ ap₂ option_or c.log_area_rules.ensures zeros in
    let all : c.first_of.result ≡ after_numbers body = c.first_of.ensures ∙ ap₂ option_or (c.settings_rules.ensures ∙ ap (settings_fault 64) rows) log_area in
    let found : later_fault body ≡ None = others_first body (sym c.number_rules.ensures ∙ c.in_default-number_rules.is) ∙ sym all ∙ c.in_default-first_of.is in
    is_written slot body (λ i. (c.type_inv.body i).fits) c.requires.long (none_broken slot body c.requires.head c.in_default.ensures.same found)
