use Rattle.std.proofs.Common.{◌≡◌, [], ◌∷◌, refl, arith}
use Rattle.std.specs.Prelude.{◌++◌, codes}
use Rattle.block_model.specs.Bodies.{entries_bytes}
use Rattle.block_model.specs.Pages.{block_length, block_pages, blocks_of, data_pages, index_length, pages_for}
use Rattle.hex.specs.Hex.{decode_pairs}
use Rattle.entry_model.specs.Entries.{filled, gap}
use Rattle.key_base.specs.Limits.{last_epoch}
use Rattle.state_model.specs.Bounds.{get_bound}
use Rattle.state_model.specs.Examples.{key, one_byte, small_store, two_values}
use Rattle.state_model.specs.Play.{played}
use Rattle.line_model.specs.Replies.{Bye, Device, Done}
use Rattle.line_model.specs.Requests.{Put}
use Rattle.state_model.specs.Script.{answered}
use Rattle.state_model.specs.Steps.{answers, read_failed}
use Rattle.state_model.specs.Tends.{Idle, idle}
use Rattle.state_model.proofs.examples.lines_that_were_answered.Goals as goal

pub returns-clause-a_put_goes_on : goal.returns-clause-a_put_goes_on
unfolding pages_for entries_bytes block_length block_pages blocks_of data_pages index_length filled gap last_epoch decode_pairs
returns-clause-a_put_goes_on c = (Done, [], (played one_byte small_store (Put (key 0x61) (0x62 ∷ []) ∷ [])).1, (played one_byte small_store (Put (key 0x61) (0x62 ∷ []) ∷ [])).1, refl, answers, refl, tt, (Idle, idle refl refl, refl), (refl, refl))

pub returns-clause-and_a_quit_is_answered : goal.returns-clause-and_a_quit_is_answered
unfolding pages_for entries_bytes block_length block_pages blocks_of data_pages index_length filled gap last_epoch decode_pairs
returns-clause-and_a_quit_is_answered c = answered (codes "put 61 62" ∷ []) (codes "quit") (codes "ok" ++ 10 ∷ codes "bye" ++ 10 ∷ []) Bye (played one_byte small_store (Put (key 0x61) (0x62 ∷ []) ∷ [])).1 (record {
  early = codes "ok" ++ 10 ∷ [];
  before = (played one_byte small_store (Put (key 0x61) (0x62 ∷ []) ∷ [])).1;
  went = (Done, [], (played one_byte small_store (Put (key 0x61) (0x62 ∷ []) ∷ [])).1, (played one_byte small_store (Put (key 0x61) (0x62 ∷ []) ∷ [])).1, refl, answers, refl, tt, (Idle, idle refl refl, refl), (refl, refl));
  step = answers;
  whole = refl;
  holds = tt;
})

pub returns-clause-a_fault_answers_in_any_state : goal.returns-clause-a_fault_answers_in_any_state
unfolding pages_for entries_bytes block_length block_pages blocks_of data_pages index_length filled gap last_epoch decode_pairs
returns-clause-a_fault_answers_in_any_state c = answered [] (codes "get 61") (codes "device" ++ 10 ∷ []) Device (played one_byte small_store two_values).1 (record {
  early = [];
  before = (played one_byte small_store two_values).1;
  went = (refl, refl);
  step = let one : get_bound (played one_byte small_store two_values).1 (key 0x61) ≡ 1 = refl in read_failed Device refl (omega (arith, one)) tt refl;
  whole = refl;
  holds = tt;
})
