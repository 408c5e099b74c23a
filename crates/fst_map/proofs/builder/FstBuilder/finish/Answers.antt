use Rattle.std.proofs.Common.{◌≤◌, ◌∙◌, ℕ, ap, sym, subst, length}
use Rattle.std.specs.Prelude.{OnOk, zip}
use Rattle.fst_map.specs.Writing.{IsReadAgain}
use Rattle.fst_map.proofs.Written.{read_again_of}
use Rattle.fst_map.proofs.Pairs.{zip_size}
use Rattle.fst_map.proofs.builder.FstBuilder.finish.Goals as goal
use Rattle.map_model.specs.SortedMap.{Map}

pub returns-clause-some : goal.returns-clause-some
returns-clause-some c =
    subst (λ (n : ℕ). OnOk c.write_body.result (1 ≤ n))
    (sym (zip_size c.self.inside.keys c.self.inside.values c.self.invariant.as_many) ∙ ap (λ (m : Map). length m) c.self.view_is) c.write_body.ensures.some

pub returns-clause-read_again : goal.returns-clause-read_again
returns-clause-read_again c =
    subst (λ (m : Map). OnOk c.write_body.result (IsReadAgain c.args.ratio m)) c.self.view_is
    (read_again_of c.write_body.result c.args.ratio (zip c.self.inside.keys c.self.inside.values) c.write_body.ensures.body)
