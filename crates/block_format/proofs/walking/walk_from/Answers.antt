use Rattle.std.proofs.Common.{◌∙◌, sym, ap, subst}
use Rattle.std.specs.Prelude.{Option, Some, None}
use Rattle.std.specs.List.{AllByRecursion}
use Rattle.std.specs.Option.{option_map}
use Rattle.map_model.specs.SortedMap.{Bytes}
use Rattle.entry_model.specs.Entries.{IsEntry}
use Rattle.block_model.specs.BlockReading.{block_in}
use Rattle.block_format.specs.Walking.{kept_from}
use Rattle.block_format.specs.Walking.{StandsAfter, walked}
use Rattle.block_format.specs.declared.walk.EntryWalk.{EntryWalk}
use Rattle.block_format.proofs.Begun.{sound_kept, stands_all, walked_all}
use Rattle.block_format.proofs.Spans.{all_kept}
use Rattle.block_format.proofs.walking.walk_from.Goals as goal

pub seek-requires-clause-stands : goal.seek-requires-clause-stands
seek-requires-clause-stands c = c.begun-walk.ensures.stands c.args.buffer.now

pub returns-in-Some-clause-entries : goal.returns-in-Some-clause-entries
returns-in-Some-clause-entries c =
    c.seek.ensures.entries
    ∙ c.begun-walk.ensures.entries c.args.buffer.now
    ∙ sym (ap (λ (o : Option Bytes). kept_from o (block_in c.args.bytes.now)) (ap (option_map (λ k. k.now)) c.in-Some.is))

pub returns-in-Some-clause-sound : goal.returns-in-Some-clause-sound
returns-in-Some-clause-sound c =
    subst (AllByRecursion IsEntry) (sym (c.seek.ensures.entries ∙ c.begun-walk.ensures.entries c.args.buffer.now))
    (sound_kept (Some c.in-Some.low.now) c.args.bytes.now (λ i. (c.type_inv.bytes i).fits) c.requires.head.whole)

pub returns-in-None-clause-stands : goal.returns-in-None-clause-stands
returns-in-None-clause-stands c =
    subst (λ (w : EntryWalk). StandsAfter w c.args.buffer.now c.args.bytes.now) (sym c.walk_of.ensures) (stands_all c.args.head c.args.bytes.now c.requires.head c.args.buffer.now)

pub returns-in-None-clause-entries : goal.returns-in-None-clause-entries
returns-in-None-clause-entries c =
    ap (λ (w : EntryWalk). walked w c.args.buffer.now c.args.bytes.now) c.walk_of.ensures
    ∙ walked_all c.args.head c.args.bytes.now c.requires.head c.args.buffer.now
    ∙ sym (all_kept (option_map (λ k. k.now) c.args.low) (block_in c.args.bytes.now) (ap (option_map (λ k. k.now)) c.in-None.is))

pub returns-in-None-clause-sound : goal.returns-in-None-clause-sound
returns-in-None-clause-sound c =
    subst (AllByRecursion IsEntry)
    (sym (ap (λ (w : EntryWalk). walked w c.args.buffer.now c.args.bytes.now) c.walk_of.ensures ∙ walked_all c.args.head c.args.bytes.now c.requires.head c.args.buffer.now))
    (sound_kept None c.args.bytes.now (λ i. (c.type_inv.bytes i).fits) c.requires.head.whole)
