use Rattle.std.proofs.Common.{◌≡◌, ◌+◌, ◌∙◌, [], ◌∷◌, ◌++◌, zero, suc, ℕ, List, length, sym, ap, subst, arith}
use Rattle.std.specs.Prelude.{insert}
use Rattle.std.specs.List.{range_with_len}
use Rattle.std.proofs.lemmas.List.Edits.{insert_end}
use Rattle.mem_table.specs.Chunks.{flat, flat_at, NoneEmpty}
use Rattle.mem_table.proofs.filling.in_a_row.Goals as goal

-- the next number behind the others
row_more : (a n : ℕ) → range_with_len a (suc n) ≡ range_with_len a n ++ (a + n) ∷ []
row_more a zero = let same : a ≡ a + 0 = omega arith in ap (λ (k : ℕ). k ∷ []) same
row_more a (suc n) =
    let same : a + 1 + n ≡ a + suc n = omega arith in
    ap (λ (ns : List ℕ). a ∷ ns) (row_more (a + 1) n ∙ ap (λ (k : ℕ). range_with_len (a + 1) n ++ k ∷ []) same)

pub loop-place-preserved : goal.loop-place-preserved
loop-place-preserved c =
    let chunks = c.reserve.new.self.items in
    let place = c.loop-place.place in
    let one : suc place ≡ place + 1 = omega arith in
    let same : place ≡ 0 + place = omega arith in
    let end : flat_at chunks c.end_of-end.result.chunk c.end_of-end.result.within ≡ length (flat chunks) = rw (← c.deref.ensures.value) c.end_of-end.ensures.end in
    let items = c.in_ok-reserve.ensures.items in (
      c.put.ensures.placed
          ∙ ap (λ (n : ℕ). insert (flat chunks) n place) end
          ∙ insert_end (flat chunks) place
          ∙ ap (λ (ps : List ℕ). ps ++ place ∷ []) (ap flat items ∙ c.loop-place.invariant.0)
          ∙ ap (λ (n : ℕ). range_with_len 0 place ++ n ∷ []) same
          ∙ sym (row_more 0 place)
          ∙ ap (range_with_len 0) one,
      c.put.ensures.some (subst NoneEmpty (sym items) c.loop-place.invariant.1),
    )
