use Rattle.std.proofs.Common.{◌≡◌, ◌≤◌, ◌-◌, true, List, ℕ, Some, length, take, drop, length-drop, slice_index, sym, subst, arith, ◌∙◌}
use Rattle.std.proofs.lemmas.Bool.{false≢true}
use Rattle.std.proofs.lemmas.List.{take_all}
use Rattle.byteorder.specs.Endian.{little_number}
use Rattle.filter_model.specs.Strings.{is_prefix}
use Rattle.filter_model.specs.Valid.{IsValid}
use Rattle.plain_filter.proofs.LeafLemmas.{bytes_of}
use Rattle.plain_filter_model.proofs.ExactLaws.{Some-inj, plain_magic, whole_again, whole_back}
use Rattle.plain_filter_model.specs.Reading.{leaf_list_in}
use Rattle.plain_filter.proofs.filter.read.Goals as goal

-- the slice behind the head is all that is there
rest : (bytes : List ℕ) → take (length bytes - 10) (drop 10 bytes) ≡ drop 10 bytes
rest bytes = take_all (length bytes - 10) (drop 10 bytes) (omega (arith, length-drop 10 bytes))

pub returns-in_default-clause-none : goal.returns-in_default-clause-none
returns-in_default-clause-none c hash_bits real_bits cutoff leaves h =
    let bytes = c.args.bytes.now in
    let found : c.in_ok-leaves.field-0 ≡ leaf_list_in (little_number 4 (drop 6 bytes)) (drop 10 bytes) =
    c.in_ok-leaves.ensures ∙ (λ j. leaf_list_in (c.get_u32-count.ensures j) (rest bytes j)) in
    let head = whole_again hash_bits real_bits cutoff leaves bytes h in
    let some : c.in_ok-leaves.field-0 ≡ Some leaves = found ∙ head.leaves in
    c.in_default.not-Some leaves some

pub returns-then-not-is_valid-clause-none : goal.returns-then-not-is_valid-clause-none
returns-then-not-is_valid-clause-none c hash_bits real_bits cutoff leaves h =
    let bytes = c.args.bytes.now in
    let found : c.in_ok-leaves.field-0 ≡ leaf_list_in (little_number 4 (drop 6 bytes)) (drop 10 bytes) =
    c.in_ok-leaves.ensures ∙ (λ j. leaf_list_in (c.get_u32-count.ensures j) (rest bytes j)) in
    let head = whole_again hash_bits real_bits cutoff leaves bytes h in
    let one : leaves ≡ c.in-Some.leaves = Some-inj leaves c.in-Some.leaves (sym (found ∙ head.leaves) ∙ c.in-Some.is) in
    let valid : IsValid (slice_index bytes 4) (slice_index bytes 5) c.in-Some.leaves =
    subst (IsValid (slice_index bytes 4) (slice_index bytes 5)) one
    (subst (λ n. IsValid n (slice_index bytes 5) leaves) (sym head.hash) (subst (λ n. IsValid hash_bits n leaves) (sym head.real) h.may_stand.valid)) in
    absurd (false≢true (sym c.if-not-is_valid.true ∙ c.is_valid.ensures.1 valid))

pub returns-clause-some : goal.returns-clause-some
returns-clause-some c =
    let bytes = c.args.bytes.now in
    let leaves = c.in-Some.leaves in
    let found : c.in_ok-leaves.field-0 ≡ leaf_list_in (little_number 4 (drop 6 bytes)) (drop 10 bytes) =
    c.in_ok-leaves.ensures ∙ (λ j. leaf_list_in (c.get_u32-count.ensures j) (rest bytes j)) in
    let read : leaf_list_in (little_number 4 (drop 6 bytes)) (drop 10 bytes) ≡ Some leaves = sym found ∙ c.in-Some.is in
    let long : 10 ≤ length bytes = omega arith in
    let begun : is_prefix plain_magic bytes ≡ true = sym c.begins_with.ensures.value ∙ c.if-not-begins_with.false in
    record {
      may_stand = record {
        hash_width = omega arith;
        real_width = omega arith;
        cutoff_in = omega arith;
        valid = c.is_valid.ensures.0 c.if-not-is_valid.false;
      };
      bytes_are = whole_back bytes leaves (bytes_of bytes c.type_inv.bytes) long begun read;
    }
