use Rattle.std.proofs.Common.{inl, inr, refl, sym, ap, ◌∙◌, subst, arith}
use Rattle.std.specs.Prelude.{List, [], ◌∷◌, ◌++◌, codes}
use Rattle.hex.specs.Hex.{decode_pairs}
use Rattle.line_model.specs.Replies.{Done, Memory}
use Rattle.map_model.specs.SortedMap.{Bytes, Map}
use Rattle.surf_run.specs.MapCrash.{IsMapAfter}
use Rattle.surf_run.specs.OneMap.{MapDialogue}
use Rattle.surf_run.proofs.CrashReplies.{both_none, none_answered, not_there}
use Rattle.surf_run.proofs.crash_examples.two_puts.Goals as goal

pub returns-clause-refused_was_never_there : goal.returns-clause-refused_was_never_there
returns-clause-refused_was_never_there c keeps =
    let then : Bytes = codes "memory" ++ 10 ∷ codes "ok" ++ 10 ∷ [] in
    let now : Map = (97 ∷ [], 98 ∷ []) ∷ [] in
    let none = both_none keeps.text keeps.part keeps.said in
    let first = none_answered [] keeps.so_far keeps.map (subst (λ (t : Bytes). MapDialogue [] keeps.so_far t keeps.map) none.0 keeps.replies) in
    let later = sym (keeps.split ∙ ap (λ (l : List Bytes). l ++ keeps.later) first.0) in
    let of_map = subst (λ (m : Map). IsMapAfter m keeps.later keeps.part then now) first.1 keeps.there in
    let of_later = subst (λ (l : List Bytes). IsMapAfter [] l keeps.part then now) later of_map in
    not_there (codes "put 63 64" ∷ []) (codes "emory" ++ 10 ∷ codes "ok" ++ 10 ∷ []) (subst (λ (p : Bytes). IsMapAfter [] (codes "put 61 62" ∷ codes "put 63 64" ∷ []) p then now) none.1 of_later)

pub returns-clause-next_may_be_there : goal.returns-clause-next_may_be_there
unfolding decode_pairs
returns-clause-next_may_be_there c = record {
  so_far = codes "put 61 62" ∷ [];
  later = codes "put 63 64" ∷ [];
  split = refl;
  text = codes "memory" ++ 10 ∷ [];
  map = [];
  replies = (Memory, [], refl, inr (inr refl), (refl, refl));
  within = omega arith;
  part = [];
  said = refl;
  there = inr (Done, codes "ok" ++ 10 ∷ [], refl, inl ([], refl), inl refl, inl refl);
}
