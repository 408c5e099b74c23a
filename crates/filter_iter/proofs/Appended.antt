-- What is appended to bytes, where there was memory for it.
use Rattle.std.proofs.Common.{ℕ, Option, None, Some, List, ◌++◌, ◌≡◌, ap, ◌∙◌}
use Rattle.std.specs.Prelude.{Err, IfSome, Ok, OnOk, Result, if◌then◌else◌, is_ok}
use Rattle.std.proofs.lemmas.Result.{on_ok_weaker}
use Rattle.filter_model.specs.Answers.{begins}
use Rattle.filter_model.specs.Leaves.{Leaf}

-- it is what the leaf, if there is one, begins with
appended : (n : ℕ) (o : Option Leaf) (old x items : List ℕ) → IfSome o (λ l. x ≡ begins n l) → items ≡ old ++ x → IfSome o (λ l. items ≡ old ++ begins n l)
appended n None old x items e f = tt
appended n (Some l) old x items e f = f ∙ ap (λ (y : List ℕ). old ++ y) e

-- what is so of both ways is so of Ok
if_ok : {T E : Type 0} (r : Result T E) (items a b : List ℕ) → items ≡ (if is_ok r then a else b) → OnOk r (items ≡ a)
if_ok (Ok x) items a b e = e
if_ok (Err x) items a b e = tt

pub least_appended : {T E : Type 0} (r : Result T E) (n : ℕ) (o : Option Leaf) (old x items b : List ℕ) → IfSome o (λ l. x ≡ begins n l) → items ≡ (if is_ok r then old ++ x else b)
    → OnOk r (IfSome o (λ l. items ≡ old ++ begins n l))
least_appended r n o old x items b least e = on_ok_weaker r (λ is. appended n o old x items least is) (if_ok r items (old ++ x) b e)
