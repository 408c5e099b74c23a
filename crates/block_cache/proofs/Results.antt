-- What a call left, at `Ok` and at `Err`.
use Rattle.std.proofs.Common.{◌≡◌, sym, subst}
use Rattle.std.specs.Prelude.{Result, Ok, Err, OnOk, OnErr}

pub by_result : {T E S : Type 0} {s u v : S} (r : Result T E) (P : S → Type 0) → OnOk r (s ≡ u) → OnErr r (s ≡ v) → P u → P v → P s
by_result (Ok x) P ok err at_ok at_err = subst P (sym ok) at_ok
by_result (Err e) P ok err at_ok at_err = subst P (sym err) at_err
