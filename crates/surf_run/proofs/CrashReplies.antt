-- What examples of a crash know of replies.
use Rattle.std.proofs.Common.{◌≡◌, ◌⊎◌, inl, inr, ◌++◌, ℕ, List, [], ◌∷◌, Bool, true, false, cond, refl, sym, ap, ◌∙◌, subst, arith}
use Rattle.std.specs.Prelude.{codes, slice_index}
use Rattle.byte_fields.specs.declared.parts.Damage.TheVariants.{Sum, Shape}
use Rattle.hex.specs.Hex.{decode_pairs}
use Rattle.line_model.specs.Replies.{About, At, BadLine, Bye, Counted, Damaged, Device, Done, End, Explained, Full, LastEpoch, LongKey, LongValue, ManyTables, Memory, Missing, Pairs, Reply, Value, text_of}
use Rattle.map_model.specs.SortedMap.{Bytes, Map, put}
use Rattle.state_model.specs.Laws.{is_done}
use Rattle.surf_run.specs.MapCrash.{GoesOnAs, IsMapAfter}
use Rattle.surf_run.specs.OneMap.{MapDialogue}

-- a reply that is done is `ok`
done_is : (reply : Reply) → is_done reply ≡ true → reply ≡ Done
done_is Done done = refl
done_is (Value value) done = absurd cc
done_is Missing done = absurd cc
done_is (At key value) done = absurd cc
done_is (Pairs found last) done = absurd cc
done_is (End count) done = absurd cc
done_is (Counted count) done = absurd cc
done_is (About count) done = absurd cc
done_is (Explained tables admitted blocks) done = absurd cc
done_is Bye done = absurd cc
done_is (BadLine code) done = absurd cc
done_is (LongKey size) done = absurd cc
done_is (LongValue size) done = absurd cc
done_is ManyTables done = absurd cc
done_is LastEpoch done = absurd cc
done_is (Full need gap) done = absurd cc
done_is Memory done = absurd cc
done_is Device done = absurd cc
done_is (Damaged damage) done = absurd cc

-- a text that goes on as this one begins with its first byte
first_byte : (byte other : ℕ) (text then : Bytes) → GoesOnAs (byte ∷ text) (other ∷ then) → byte ≡ other
first_byte byte other text then (inl (more, is)) = sym (ap (λ (l : Bytes). slice_index l 0) is)
first_byte byte other text then (inr (unsaid, is)) = ap (λ (l : Bytes). slice_index l 0) is

-- where an `m` is said it is neither `ok` nor `device`
no_m : (reply : Reply) (rest then : Bytes) → text_of reply ≡ rest → GoesOnAs rest (109 ∷ then) → (reply ≡ Done) ⊎ (reply ≡ Device) → ⊥
no_m reply rest then whole goes (inl done) =
    let is = first_byte 111 109 (107 ∷ 10 ∷ []) then (subst (λ (r : Bytes). GoesOnAs r (109 ∷ then)) (sym whole ∙ ap text_of done) goes) in omega (arith, is)
no_m reply rest then whole goes (inr device) =
    let is = first_byte 100 109 (codes "evice" ++ 10 ∷ []) then (subst (λ (r : Bytes). GoesOnAs r (109 ∷ then)) (sym whole ∙ ap text_of device) goes) in omega (arith, is)

-- a map after a reply that is not `ok` has no pair
pair_behind : (done : Bool) (map : Map) → done ≡ false → (97 ∷ [], 98 ∷ []) ∷ [] ≡ cond done map [] → ⊥
pair_behind true map undone is = absurd (let e : true ≡ false = undone in cc)
pair_behind false map undone is = let e : (97 ∷ [], 98 ∷ []) ∷ [] ≡ [] = is in cc

not_done : (done : Bool) → (done ≡ true → ⊥) → done ≡ false
not_done true never = absurd (never refl)
not_done false never = refl

-- a first put is not there where an `m` is said next
pub not_there : (more : List Bytes) (then : Bytes) → IsMapAfter [] (codes "put 61 62" ∷ more) [] (109 ∷ then) ((97 ∷ [], 98 ∷ []) ∷ []) → ⊥
unfolding decode_pairs
not_there more then is = elim is [
  | inl before ↦ absurd (let none : (97 ∷ [], 98 ∷ []) ∷ [] ≡ [] = before.1 in cc)
  | inr after ↦
      let never = no_m after.0 after.1 then after.2 after.3 in
      elim after.5 [
        | inl behind ↦ pair_behind (is_done after.0) (put [] (97 ∷ []) (98 ∷ [])) (not_done (is_done after.0) (λ done. never (inl (done_is after.0 done)))) behind
        | inr device ↦ never (inr device.0)
      ]
]

-- ---- each reply says something

abbrev is_some : Bytes → Bool
is_some [] = false
is_some (byte ∷ more) = true

some_with : (text more : Bytes) → is_some text ≡ true → is_some (text ++ more) ≡ true
some_with [] more some = absurd (let e : false ≡ true = some in cc)
some_with (byte ∷ text) more some = refl

text_some : (reply : Reply) → is_some (text_of reply) ≡ true
text_some Done = refl
text_some (Value value) = refl
text_some Missing = refl
text_some (At key value) = refl
text_some (Pairs [] last) = text_some last
text_some (Pairs (pair ∷ found) last) = refl
text_some (End count) = refl
text_some (Counted count) = refl
text_some (About count) = refl
text_some (Explained tables admitted blocks) = refl
text_some Bye = refl
text_some (BadLine code) = refl
text_some (LongKey size) = refl
text_some (LongValue size) = refl
text_some ManyTables = refl
text_some LastEpoch = refl
text_some (Full need gap) = refl
text_some Memory = refl
text_some Device = refl
text_some (Damaged (Sum part at kept seen)) = refl
text_some (Damaged (Shape part at rule)) = refl

-- where nothing was said, no line was answered
pub none_answered : (start : Map) (lines : List Bytes) (last : Map) → MapDialogue start lines [] last → (lines ≡ []) × (last ≡ start)
none_answered start [] last said = (refl, said.1)
none_answered start (line ∷ more) last said =
    absurd (let e : false ≡ true = ap is_some said.2 ∙ some_with (text_of said.0) said.1 (text_some said.0) in cc)

-- two texts that are nothing together
pub both_none : (text part : Bytes) → [] ≡ text ++ part → (text ≡ []) × (part ≡ [])
both_none [] part is = (refl, sym is)
both_none (byte ∷ text) part is = absurd (let e : false ≡ true = ap is_some is in cc)
