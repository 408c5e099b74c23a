use Rattle.std.proofs.Common.{◌≡◌, ◌+◌, ℕ, ap, sym, ◌∙◌, arith}
use Rattle.disk_trait.specs.Image.{window}
use Rattle.block_model.specs.Places.{byte_of_page, filter_page}
use Rattle.block_model.proofs.Lengths.{in_pages}
use Rattle.table_model.specs.Damage.{filter_part}
use Rattle.table_file.proofs.Damages.{filter_result}
use Rattle.table_file.proofs.opening.read_filter.Goals as goal

pub read_part-requires : goal.read_part-requires
read_part-requires g c =
    omega (arith, c.from.ensures, c.from-2.ensures, c.from-3.ensures, c.requires.within, c.requires.filter_pages, in_pages c.args.row.now.filter_len)

pub returns-clause-answer : goal.returns-clause-answer
returns-clause-answer g c tells =
    let row = c.args.row.now in
    let held = (g.D.Disk.world c.args.disk.now).seen.held in
    let f = g.F.RangeFilter in
    let place : c.from.result + c.from-2.result + c.from-3.result ≡ filter_page row = omega (arith, c.from.ensures, c.from-2.ensures, c.from-3.ensures) in
    let is : filter_part row held ≡ c.deref.result.now = sym (c.deref.ensures.value ∙ c.in_ok-bytes.ensures.read tells ∙ ap (λ (n : ℕ). window held (byte_of_page n) row.filter_len) place) in
    let judged = c.judged_filter.ensures in
    filter_result f.spelling f.first_fault row held (λ x. record { hash_bits = f.hash_bits x; real_bits = f.real_bits x; cutoff = f.cutoff x; leaves = f.leaf_list x }) c.judged_filter.result c.deref.result.now is
    (judged.damaged held is) judged.sum judged.filter judged.many judged.wide
