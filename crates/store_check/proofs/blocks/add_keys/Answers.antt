use Rattle.std.proofs.Common.{◌<◌, ◌++◌, ◌∷◌, [], List, refl, sym, ap, ◌∙◌, arith}
use Rattle.std.proofs.lemmas.List.{append-nil, append_assoc}
use Rattle.map_model.specs.SortedMap.{Bytes}
use Rattle.entry_model.specs.Entries.{Entry, keys_of}
use Rattle.block_format.specs.Walking.{walked}
use Rattle.block_format.proofs.Walked.{none_walked}
use Rattle.store_check.proofs.Walked.{one_walked}
use Rattle.store_check.proofs.blocks.add_keys.Goals as goal

pub loop-init : goal.loop-init
loop-init c = record { room = c.requires.room; stands = c.requires.stands; many = omega arith; all = refl }

pub loop-preserved : goal.loop-preserved
loop-preserved c =
    let l = c.loop in
    let bytes = c.args.bytes.now in
    let some : 0 < l.on.left = omega (arith, l.invariant.many, c.loop-test.true) in
    let one = one_walked l.on l.buffer bytes c.advance.new.self c.advance.new.buffer c.advance.result some c.advance.ensures.entries in
    let later = keys_of (walked c.advance.new.self c.advance.new.buffer bytes) in
    record {
      room = omega (arith, c.advance.ensures.room, l.invariant.room);
      stands = c.advance.ensures.stands;
      many = omega (arith, l.invariant.many, one.1);
      all =
          ap (λ (ks : List Bytes). ks ++ later) c.in_ok-push.ensures.added
          ∙ append_assoc l.keys (c.key.result.now ∷ []) later
          ∙ ap (λ (k : Bytes). l.keys ++ k ∷ later) c.key.ensures
          ∙ ap (λ (ks : List Bytes). l.keys ++ ks) (sym one.0)
          ∙ l.invariant.all;
    }

pub returns : goal.returns
returns c =
    let l = c.loop in
    let none = none_walked l.on l.buffer c.args.bytes.now (omega (arith, l.invariant.many, c.loop-test.false)) in
    sym (append-nil l.keys) ∙ ap (λ (es : List Entry). l.keys ++ keys_of es) (sym none) ∙ l.invariant.all
