use Rattle.std.proofs.Common.{◌≡◌, [], ◌++◌, ◌-◌, ◌∙◌, ◌≤◌, sym, ap, arith, length, take, drop, ℕ, List, take-append-drop, length-take-le}
use Rattle.std.specs.Prelude.{insert}
use Rattle.std.proofs.lemmas.List.{take_rest}
use Rattle.std.proofs.lemmas.List.Edits.{insert-append_left, insert-append_right}
use Rattle.mem_table.proofs.chunks.split.Goals as goal

-- into the lower part or into the upper one
lower : (places : List ℕ) (at k p : ℕ) → at ≤ length places → k ≤ at → insert (take at places) k p ++ drop at places ≡ insert places k p
lower places at k p le before =
    sym (insert-append_left (take at places) (drop at places) k p (omega (arith, length-take-le at places le)))
    ∙ ap (λ (ps : List ℕ). insert ps k p) (take-append-drop at places)

upper : (places : List ℕ) (at k p : ℕ) → at ≤ length places → at ≤ k → take at places ++ insert (drop at places) (k - at) p ≡ insert places k p
upper places at k p le behind =
    sym (insert-append_right (take at places) (drop at places) at k p (length-take-le at places le) behind)
    ∙ ap (λ (ps : List ℕ). insert ps k p) (take-append-drop at places)

-- what was taken is all from there on
rest_taken : (taken empty slice places : List ℕ) → taken ≡ empty ++ take (length slice - 128) (drop 128 slice) → empty ≡ [] → slice ≡ places → taken ≡ drop 128 places
rest_taken taken empty slice places is none same =
    is ∙ ap (λ (ps : List ℕ). ps ++ take (length slice - 128) (drop 128 slice)) none ∙ take_rest slice 128 ∙ ap (λ (ps : List ℕ). drop 128 ps) same

pub returns-then-within-le-HALF-clause-parts : goal.returns-then-within-le-HALF-clause-parts
returns-then-within-le-HALF-clause-parts c =
    let places = c.args.chunk.now.items in
    let first : c.insert.new.self.items ≡ insert (take 128 places) c.args.within c.args.place = c.insert.ensures.items ∙ ap (λ (ps : List ℕ). insert ps c.args.within c.args.place) c.truncate.ensures.items in
    let second : c.try_extend_from_slice.new.self.items ≡ drop 128 places = rest_taken c.try_extend_from_slice.new.self.items c.new-upper.result.items c.as_slice.result.now places c.in-Ok.ensures.ok c.new-upper.ensures c.as_slice.ensures.value in
    rw (first, second) (lower places 128 c.args.within c.args.place (omega (arith, c.requires.full)) c.if-within-le-HALF.true)

pub returns-else-within-le-HALF-clause-parts : goal.returns-else-within-le-HALF-clause-parts
returns-else-within-le-HALF-clause-parts c =
    let places = c.args.chunk.now.items in
    let first : c.truncate.new.self.items ≡ take 128 places = c.truncate.ensures.items in
    let second : c.insert-else-within-le-HALF.new.self.items ≡ insert (drop 128 places) (c.args.within - 128) c.args.place = c.insert-else-within-le-HALF.ensures.items
    ∙ ap (λ (ps : List ℕ). insert ps (c.args.within - 128) c.args.place) (rest_taken c.try_extend_from_slice.new.self.items c.new-upper.result.items c.as_slice.result.now places c.in-Ok.ensures.ok c.new-upper.ensures c.as_slice.ensures.value) in
    rw (first, second) (upper places 128 c.args.within c.args.place (omega (arith, c.requires.full)) (omega (arith, c.if-within-le-HALF.false)))
