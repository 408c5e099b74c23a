use Rattle.std.proofs.Common.{◌≡◌, ◌∙◌, ◌++◌, ap, append_assoc, arith, length, sym, take}
use Rattle.std.proofs.lemmas.Bool.{eqb-true}
use Rattle.std.proofs.lemmas.List.{append-nil}
use Rattle.hex.specs.Hex.{encode_lower, encode_with}
use Rattle.map_model.specs.SortedMap.{Bytes}
use Rattle.store_commands.proofs.Windows.{encode_more, joined, nothing}
use Rattle.store_commands.proofs.whole.put_hex.Goals as goal

pub loop-rest-preserved : goal.loop-rest-preserved
loop-rest-preserved c =
    let group = c.split_at.result.0.now in
    let more = c.split_at.result.1.now in
    let whole : c.loop-rest.rest.now ≡ group ++ more = joined 8 c.loop-rest.rest.now group more c.split_at.ensures.front c.split_at.ensures.back in
    record {
      text =
          ap (λ (l : Bytes). l ++ encode_lower more) c.put_digits-at.ensures.text ∙ append_assoc (take c.loop-rest.at c.loop-rest.into) (encode_lower group) (encode_lower more)
          ∙ ap (λ (l : Bytes). take c.loop-rest.at c.loop-rest.into ++ l) (sym (encode_more group more) ∙ ap encode_lower (sym whole)) ∙ c.loop-rest.invariant.text;
      room = omega (arith, c.loop-rest.invariant.room, c.split_at.ensures.back_len, c.split_at.ensures.front_len, c.put_digits-at.ensures.end);
    }

pub returns-then-is_empty-clause-text : goal.returns-then-is_empty-clause-text
unfolding encode_with
returns-then-is_empty-clause-text c =
    let none : length c.loop-rest.rest.now ≡ 0 = eqb-true _ 0 (sym c.is_empty.ensures ∙ c.if-is_empty.true) in
    sym (append-nil (take c.loop-rest.at c.loop-rest.into)) ∙ ap (λ (l : Bytes). take c.loop-rest.at c.loop-rest.into ++ encode_lower l) (sym (nothing c.loop-rest.rest.now none)) ∙ c.loop-rest.invariant.text

pub returns-clause-text : goal.returns-clause-text
returns-clause-text c = c.put_digits.ensures.text ∙ c.loop-rest.invariant.text
