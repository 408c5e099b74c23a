-- How many steps a load may have.
use Rattle.std.specs.Prelude.{ℕ, Bool, ◌&&◌, nat_le}

abbrev pub max_load_steps : ℕ
max_load_steps = 1000000

abbrev pub is_load_count : ℕ → Bool
is_load_count count = nat_le 1 count && nat_le count max_load_steps
