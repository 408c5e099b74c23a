-- Parts of a window of an image.
use Rattle.std.proofs.Common.{◌≡◌, ◌+◌, ◌<◌, ◌≤◌, ◌-◌, ℕ, suc, List, take, drop, get_or, ap, ◌∙◌, arith}
use Rattle.std.proofs.lemmas.List.{take_at, drop_at, get_or_at}
use Rattle.disk_trait.specs.Image.{Image, window}
use Rattle.disk_trait.proofs.Images.{window_size, window_split}

pub take_window : (f : Image) (at k n : ℕ) → k ≤ n → take k (window f at n) ≡ window f at k
take_window f at k n le =
    let parts : n ≡ k + (n - k) = omega arith in
    ap (λ (m : ℕ). take k (window f at m)) parts ∙ ap (take k) (window_split f at k (n - k)) ∙ take_at (window f at k) (window f (at + k) (n - k)) k (window_size f at k)

pub drop_window : (f : Image) (at k n : ℕ) → k ≤ n → drop k (window f at n) ≡ window f (at + k) (n - k)
drop_window f at k n le =
    let parts : n ≡ k + (n - k) = omega arith in
    ap (λ (m : ℕ). drop k (window f at m)) parts ∙ ap (drop k) (window_split f at k (n - k)) ∙ drop_at (window f at k) (window f (at + k) (n - k)) k (window_size f at k)

pub byte_of_window : (f : Image) (at k n : ℕ) → k < n → get_or (window f at n) k 0 ≡ f (at + k)
byte_of_window f at k n lt =
    let parts : n ≡ k + suc (n - k - 1) = omega arith in
    ap (λ (m : ℕ). get_or (window f at m) k 0) parts
    ∙ ap (λ (l : List ℕ). get_or l k 0) (window_split f at k (suc (n - k - 1)))
    ∙ get_or_at (window f at k) (f (at + k)) (window f (at + k + 1) (n - k - 1)) 0 k (window_size f at k)
