use Rattle.std.proofs.Common.{◌≡◌, ◌≤◌, ◌+◌, ◌-◌, ◌∙◌, ℕ, length, min, max, sym, ap, arith}
use Rattle.disk_mem.proofs.mem_disk.MemDisk.number_write.Goals as goal

-- the room for bytes is that of the row of moved ones, or that of the device, whichever is less
room_left : (row row_more row_left capacity capacity_more capacity_left size at n size_left : ℕ)
    → row ≤ row_more → row_more ≤ row_left + n → capacity ≤ capacity_more → capacity_more ≤ capacity_left → size_left ≡ max size (at + n)
    → min row (capacity - size) ≤ min row_left (capacity_left - size_left) + (n + (at - size))
room_left row row_more row_left capacity capacity_more capacity_left size at n size_left a b c d e = omega (arith, a, b, c, d, e)

pub returns-clause-lasts : goal.returns-clause-lasts
returns-clause-lasts c =
    let a = c.make_room.ensures in
    let b = c.add-2.ensures in
    let p = c.put.ensures in
    let before : c.self.inside.bytes.len ≡ length c.self.inside.bytes.items = c.self.inside.bytes.ok.0 in
    let held : length c.self.inside.bytes.items ≡ _ = ap length c.self.invariant in
    let meanwhile : c.make_room.new.bytes.len ≡ length c.make_room.new.bytes.items = c.make_room.new.bytes.ok.0 in
    let same : length c.make_room.new.bytes.items ≡ length c.self.inside.bytes.items = ap length a.items in
    let size : c.make_room.new.bytes.len ≡ c.self.inside.bytes.len = meanwhile ∙ same ∙ sym before in
    let grown = p.len ∙ ap (λ (k : ℕ). max k (c.args.at + length c.args.from.now)) size in
    rw (← c.self.view_is) (record {
      numbered = λ one room. omega (arith, ap length b.calls, ap length a.calls);
      room_calls = omega (arith, a.no_less, b.room);
      room_bytes = rw (← held, ← before) (room_left _ _ _ _ _ _ c.self.inside.bytes.len c.args.at (length c.args.from.now) _ a.no_less_bytes b.room_bytes a.no_less_capacity p.capacity grown);
    })
