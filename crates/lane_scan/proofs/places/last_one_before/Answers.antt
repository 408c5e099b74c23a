use Rattle.std.proofs.Common.{◌≡◌, ℕ, ◌-◌, ◌*◌, ◌/◌, ◌%◌, get_or, length, ap, ◌∙◌, arith}
use Rattle.std.specs.Int.RustNames.{bit_and}
use Rattle.std.proofs.lemmas.Nat.{and_mask, one_shl}
use Rattle.lane_scan.specs.Places.{is_one_at}
use Rattle.lane_scan.proofs.Bits.{last_in_part, none_in_part, nowhere_past, search_back}
use Rattle.lane_scan.proofs.places.last_one_before.Goals as goal
use Rattle.lane_scan.proofs.places.last_one_before.Goals.{then-last-words+else-part-ne0, else-last-words}

pub returns-then-part-ne0 : goal.returns-then-part-ne0
returns-then-part-ne0 c =
    let p = c.args.end % 64 in
    let part = ap (λ (n : ℕ). bit_and (get_or c.args.words.now (c.args.end / 64) 0) (n - 1)) (one_shl p 64 (omega arith))
    ∙ and_mask (get_or c.args.words.now (c.args.end / 64) 0) p in
    last_in_part c.args.words.now c.args.end c.highest_one.result c.highest_one.ensures.place (rw part at c.highest_one.ensures.is_set) (rw part at c.highest_one.ensures.behind)

pub returns : goal.returns
returns c =
    let words = c.args.words.now in
    let end = c.args.end in
    elim c.if-last-words.branch [
      | then-last-words+else-part-ne0 w ↦
          let p = c.args.end % 64 in
          let part = ap (λ (n : ℕ). bit_and (get_or c.args.words.now (c.args.end / 64) 0) (n - 1)) (one_shl p 64 (omega arith))
          ∙ and_mask (get_or c.args.words.now (c.args.end / 64) 0) p in
          let count : c.min.result ≡ c.args.end / 64 = omega (arith, c.min.ensures, w.if-last-words.true) in
          search_back (is_one_at words) 0 (64 * (c.args.end / 64)) end c.last_one_of.result (omega arith) (none_in_part words end (rw part at w.if-part-ne0.false)) (rw count at c.last_one_of.ensures)
      | else-last-words w ↦
          let count : c.min.result ≡ length c.args.words.now = omega (arith, c.min.ensures, w.if-last-words.false) in
          search_back (is_one_at words) 0 (64 * length words) end c.last_one_of.result (omega (arith, w.if-last-words.false)) (nowhere_past words end) (rw count at c.last_one_of.ensures)
    ]
