use Rattle.std.proofs.Common.{inl, inr, refl, arith}
use Rattle.std.specs.Prelude.{[], ◌∷◌, ◌++◌, codes}
use Rattle.hex.specs.Hex.{decode_pairs}
use Rattle.line_model.specs.Replies.{Device, Done}
use Rattle.surf_run.proofs.CrashReplies.{not_there}
use Rattle.surf_run.proofs.crash_examples.one_put.Goals as goal

pub returns-clause-no_line : goal.returns-clause-no_line
returns-clause-no_line c = (refl, refl)

pub returns-clause-not_there : goal.returns-clause-not_there
returns-clause-not_there c = inl refl

pub returns-clause-there : goal.returns-clause-there
returns-clause-there c = inr refl

pub returns-clause-nothing_said : goal.returns-clause-nothing_said
unfolding decode_pairs
returns-clause-nothing_said c = inr (Done, codes "ok" ++ 10 ∷ [], refl, inr (codes "ok" ++ 10 ∷ [], refl), inl refl, inl refl)

pub returns-clause-before_ok : goal.returns-clause-before_ok
unfolding decode_pairs
returns-clause-before_ok c = inr (Done, codes "ok" ++ 10 ∷ [], refl, inl (codes "none", refl), inl refl, inl refl)

pub returns-clause-before_memory : goal.returns-clause-before_memory
returns-clause-before_memory c is = not_there [] [] is

pub returns-clause-part_of_ok : goal.returns-clause-part_of_ok
unfolding decode_pairs
returns-clause-part_of_ok c = inr (Done, codes "k" ++ 10 ∷ [], refl, inr (codes "k" ++ 10 ∷ [], refl), inl refl, inl refl)

pub returns-clause-part_of_device : goal.returns-clause-part_of_device
unfolding decode_pairs
returns-clause-part_of_device c = inr (Device, codes "evice" ++ 10 ∷ [], refl, inr (codes "vice" ++ 10 ∷ [], refl), inr (inr refl), inl refl)

pub returns-clause-device_after_the_write : goal.returns-clause-device_after_the_write
unfolding decode_pairs
returns-clause-device_after_the_write c = inr (Device, codes "evice" ++ 10 ∷ [], refl, inr (codes "vice" ++ 10 ∷ [], refl), inr (inr refl), inr (refl, inr refl))

pub returns-clause-ok_said : goal.returns-clause-ok_said
unfolding decode_pairs
returns-clause-ok_said c = record {
  so_far = codes "put 61 62" ∷ [];
  later = [];
  split = refl;
  text = codes "ok" ++ 10 ∷ [];
  map = (97 ∷ [], 98 ∷ []) ∷ [];
  replies = (Done, [], refl, inl refl, (refl, refl));
  within = omega arith;
  part = [];
  said = refl;
  there = (refl, refl);
}
