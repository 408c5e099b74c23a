use Rattle.std.proofs.Common.{◌++◌, ◌∷◌, [], ap, codes}
use Rattle.disk_trait.proofs.Calls.{on_ok_one}
use Rattle.line_model.specs.Replies.{word_of}
use Rattle.store_report.proofs.Parts.{prefix_of_more, prefix_on, said_on}
use Rattle.store_report.proofs.saying.say_keys.Goals as goal

pub returns-in_err-say_all-clause-prefix : goal.returns-in_err-say_all-clause-prefix
returns-in_err-say_all-clause-prefix g c tells =
    prefix_on (word_of c.args.least.now) (codes " " ++ (word_of c.args.greatest.now ++ 10 ∷ [])) _ _ _ (c.in_ok-say_word.ensures.said tells) (prefix_of_more (codes " ") (word_of c.args.greatest.now ++ 10 ∷ []) _ _ (c.in_err-say_all.ensures.prefix tells))

pub returns-in_err-say_word-2-clause-prefix : goal.returns-in_err-say_word-2-clause-prefix
returns-in_err-say_word-2-clause-prefix g c tells =
    prefix_on (word_of c.args.least.now) (codes " " ++ (word_of c.args.greatest.now ++ 10 ∷ [])) _ _ _ (c.in_ok-say_word.ensures.said tells)
    (prefix_on (codes " ") (word_of c.args.greatest.now ++ 10 ∷ []) _ _ _ (c.in_ok-say_all.ensures.said tells) (prefix_of_more (word_of c.args.greatest.now) (10 ∷ []) _ _ (c.in_err-say_word-2.ensures.prefix tells)))

pub returns-clause-said : goal.returns-clause-said
returns-clause-said g c tells =
    on_ok_one _ _ c.say_all-2.result
    (λ said. said_on (word_of c.args.least.now) (codes " " ++ (word_of c.args.greatest.now ++ 10 ∷ [])) _ _ _ (c.in_ok-say_word.ensures.said tells)
    (said_on (codes " ") (word_of c.args.greatest.now ++ 10 ∷ []) _ _ _ (c.in_ok-say_all.ensures.said tells) (said_on (word_of c.args.greatest.now) (10 ∷ []) _ _ _ (c.in_ok-say_word-2.ensures.said tells) said)))
    (c.say_all-2.ensures.said tells)

pub returns-clause-prefix : goal.returns-clause-prefix
returns-clause-prefix g c tells =
    prefix_on (word_of c.args.least.now) (codes " " ++ (word_of c.args.greatest.now ++ 10 ∷ [])) _ _ _ (c.in_ok-say_word.ensures.said tells)
    (prefix_on (codes " ") (word_of c.args.greatest.now ++ 10 ∷ []) _ _ _ (c.in_ok-say_all.ensures.said tells)
    (prefix_on (word_of c.args.greatest.now) (10 ∷ []) _ _ _ (c.in_ok-say_word-2.ensures.said tells) (c.say_all-2.ensures.prefix tells)))
