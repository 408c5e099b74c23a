-- The entry that a cursor has at hand.
use Rattle.std.proofs.Common.{◌≡◌, List, ◌∷◌, refl, ap, ap₂, sym, ◌∙◌}
use Rattle.std.specs.Prelude.{Option, Some, None, MatchOption, is_some}
use Rattle.map_model.specs.SortedMap.{Bytes}
use Rattle.entry_model.specs.Entries.{Entry, entry_of}
use Rattle.block_format.specs.Walking.{at_hand, value_at}
use Rattle.block_format.specs.declared.walk.ValuePlace.{ValuePlace}

-- there is one where a walk came by one
pub is_at_hand : (place : Option (Option ValuePlace)) (key bytes : Bytes) → is_some place ≡ is_some (at_hand place key bytes)
unfolding at_hand
is_at_hand None key bytes = refl
is_at_hand (Some v) key bytes = refl

-- and it is the first of those that were to come
pub goes_on_at_hand : (place : Option (Option ValuePlace)) (key bytes : Bytes) (none : Type 0) (before later : List Entry)
    → MatchOption place none (λ v. before ≡ entry_of key (value_at v bytes) ∷ later) → MatchOption (at_hand place key bytes) none (λ e. before ≡ e ∷ later)
unfolding at_hand
goes_on_at_hand None key bytes none before later m = m
goes_on_at_hand (Some v) key bytes none before later m = m

pub at_hand_is : (place : Option (Option ValuePlace)) (v : Option ValuePlace) (key bytes other : Bytes) (value : Option Bytes) → place ≡ Some v → other ≡ key → value ≡ value_at v bytes
    → Some (entry_of other value) ≡ at_hand place key bytes
unfolding at_hand
at_hand_is None v key bytes other value is key_is value_is = absurd cc
at_hand_is (Some u) v key bytes other value is key_is value_is =
    ap₂ (λ (k : Bytes) (o : Option Bytes). Some (entry_of k o)) key_is value_is ∙ sym (ap (λ (p : Option (Option ValuePlace)). at_hand p key bytes) is)

pub none_at_hand : (place : Option (Option ValuePlace)) (key bytes : Bytes) → place ≡ None → None ≡ at_hand place key bytes
unfolding at_hand
none_at_hand None key bytes is = refl
none_at_hand (Some v) key bytes is = absurd cc
