-- An area whose first gate is open before a kind that there is not.
use Rattle.std.proofs.Common.{◌≡◌, ◌≤◌, ◌-◌, ℕ, suc, [], length, false, nat_lt, refl, sym, ap, ◌∙◌, arith}
use Rattle.std.specs.Prelude.{Some}
use Rattle.disk_trait.specs.Image.{Image, window}
use Rattle.disk_trait.proofs.Images.{window_size}
use Rattle.log_model.specs.Area.{LogBreaks, area_size}
use Rattle.log_model.specs.Records.{broken_rule}
use Rattle.log_model.proofs.Logs.{none_filled}
use Rattle.log_model.proofs.Walks.{begins_with_none}
use Rattle.log_model.proofs.Windows.{byte_of_window, drop_window}

-- more than six bytes that begin with 4 break rule 2
kind_four : (n : ℕ) (image : Image) (at : ℕ) → 6 ≤ n → image at ≡ 4 → broken_rule (window image at (suc n)) ≡ Some 2
kind_four n image at six four =
    let size : length (window image at (suc n)) ≡ suc n = window_size image at (suc n) in
    let long : nat_lt (suc n) 7 ≡ false = grind arith in
    rw (size, long, four) refl

size_of_area : area_size ≡ 262144
unfolding area_size
size_of_area = refl

pub an_area_of_kind_four : (image : Image) → image 524288 ≡ 1 → image 524289 ≡ 4 → LogBreaks 1 524288 2 image
an_area_of_kind_four image one four =
    let rest : area_size - 1 ≡ suc 262142 = omega (arith, size_of_area) in (
      0,
      refl,
      record {
        before = [];
        begins = begins_with_none (window image 524288 area_size) (omega (arith, size_of_area, window_size image 524288 area_size));
        here = sym none_filled;
        opened = byte_of_window image 524288 0 area_size (omega (arith, size_of_area)) ∙ one;
        broken = ap broken_rule (drop_window image 524288 1 area_size (omega (arith, size_of_area))) ∙ ap (λ (n : ℕ). broken_rule (window image 524289 n)) rest ∙ kind_four 262142 image 524289 (omega arith) four;
      },
    )
