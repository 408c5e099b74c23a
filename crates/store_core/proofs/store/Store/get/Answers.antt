use Rattle.std.proofs.Common.{rules, ◌∙◌, refl, sym, ap}
use Rattle.entry_model.specs.Entries.{live}
use Rattle.state_model.proofs.Views.{view_says}
use Rattle.table_model.specs.Tables.{filter_bytes_of}
use Rattle.store_core.proofs.store.Store.get.Goals as goal

pub returns-in_err-place : goal.returns-in_err-place
returns-in_err-place g c = (
  (refl, λ _. tt, c.look_for.ensures.asked),
  record {
    after = tt;
    answer = λ s tells tied. search rules;
    looked = λ tells. search rules;
    gets = record {
      undamaged = λ s tells tied. let here = c.in_err-place.ensures.gets.undamaged s tells tied in search rules;
      shown = λ tells. let here = c.in_err-place.ensures.gets.shown tells in search rules;
      only_if_read = λ s tells tied. let here = c.in_err-place.ensures.gets.only_if_read s tells tied in search rules;
      refused = let here = c.in_err-place.ensures.gets.refused in search rules;
      bounded = c.look_for.ensures.gets.bounded;
      unkept = c.look_for.ensures.gets.unkept;
      no_call = c.look_for.ensures.gets.no_call;
      moves = c.look_for.ensures.gets.moves;
      named = c.look_for.ensures.gets.named;
    };
    limited = c.look_for.ensures.limited;
    in_memory = c.look_for.ensures.in_memory;
  },
)

pub returns : goal.returns
returns g c = (
  (refl, λ _. tt, c.look_for.ensures.asked),
  record {
    after = tt;
    answer = λ s tells tied. c.value_at.ensures ∙ ap live (c.in_ok-place.ensures.answer s tells tied) ∙ sym (view_says (filter_bytes_of g.F.RangeFilter.spelling g.F.RangeFilter.built_cutoff) s c.args.key.now tied.sound);
    looked = λ tells.
        let says = c.in_ok-place.ensures.looked tells in
        record { value_is = c.value_at.ensures ∙ ap live says.said_is; sound = says.sound };
    gets = record {
      undamaged = λ s tells tied. tt;
      shown = λ tells. tt;
      only_if_read = λ s tells tied. tt;
      refused = c.in_ok-place.ensures.gets.refused;
      bounded = c.look_for.ensures.gets.bounded;
      unkept = c.look_for.ensures.gets.unkept;
      no_call = c.look_for.ensures.gets.no_call;
      moves = c.look_for.ensures.gets.moves;
      named = c.look_for.ensures.gets.named;
    };
    limited = c.look_for.ensures.limited;
    in_memory = c.look_for.ensures.in_memory;
  },
)
