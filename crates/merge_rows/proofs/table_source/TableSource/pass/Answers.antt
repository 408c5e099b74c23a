use Rattle.std.proofs.Common.{◌≡◌, ◌≤◌, ◌∙◌, ℕ, refl, sym, ap, subst}
use Rattle.std.specs.Prelude.{Option, Some}
use Rattle.merge_rows.specs.Merges.{TableWalk, blocks_in, numbered, row_count, with_hand}
use Rattle.merge_rows.specs.Reads.{ones}
use Rattle.merge_rows.specs.Steps.{IsCaughtUp, IsSoundWalk}
use Rattle.table_file.specs.Opened.{Opened}
use Rattle.table_file.specs.Walks.{to_come}
use Rattle.merge_rows.proofs.Fills.{left_of, wants_of}
use Rattle.merge_rows.proofs.table_source.TableSource.pass.Goals as goal

pub returns-clause-same : goal.returns-clause-same
returns-clause-same g c t =
    let floor = c.args.floor.now in
    let tables = c.args.tables.now.tables in
    let held = (g.D.Disk.world c.args.disk.now).seen.held in
    let table = c.table_of-table.result.now in
    let first = c.args.self.now in
    let there : numbered tables first.number ≡ Some table = subst (λ (n : ℕ). numbered tables n ≡ Some table) (ap (λ (s : TableWalk). s.number) c.self.view_is) c.table_of-table.ensures in
    left_of tables held table first.number floor c.pass_over.new.self there c.pass_over.ensures.number
    ∙ c.pass_over.ensures.same t
    ∙ sym (left_of tables held table first.number floor first there refl)

pub returns-clause-wanted : goal.returns-clause-wanted
returns-clause-wanted g c t sound =
    let floor = c.args.floor.now in
    let tables = c.args.tables.now.tables in
    let held = (g.D.Disk.world c.args.disk.now).seen.held in
    let table = c.table_of-table.result.now in
    let first = c.args.self.now in
    let there : numbered tables first.number ≡ Some table = subst (λ (n : ℕ). numbered tables n ≡ Some table) (ap (λ (s : TableWalk). s.number) c.self.view_is) c.table_of-table.ensures in
    let here = subst (λ (o : Option Opened). IsSoundWalk floor first.walk (blocks_in o held)) there sound in
    wants_of floor tables table c.pass_over.new.self (ap (numbered tables) c.pass_over.ensures.number ∙ there)
    ∙ ap ones (sym c.pass_over.ensures.wanted ∙ c.pass_over.ensures.once t here)
    ∙ sym (wants_of floor tables table first there)

pub returns-clause-asked : goal.returns-clause-asked
returns-clause-asked g c =
    let tables = c.args.tables.now.tables in
    let table = c.table_of-table.result.now in
    let there : numbered tables c.args.self.now.number ≡ Some table = subst (λ (n : ℕ). numbered tables n ≡ Some table) (ap (λ (s : TableWalk). s.number) c.self.view_is) c.table_of-table.ensures in
    wants_of c.args.floor.now tables table c.pass_over.new.self (ap (numbered tables) c.pass_over.ensures.number ∙ there)
    ∙ ap ones (sym c.pass_over.ensures.wanted)

pub returns-clause-caught_up : goal.returns-clause-caught_up
returns-clause-caught_up g c t none =
    let tables = c.args.tables.now.tables in
    let held = (g.D.Disk.world c.args.disk.now).seen.held in
    let table = c.table_of-table.result.now in
    let new = c.pass_over.new.self in
    let there : numbered tables c.args.self.now.number ≡ Some table = subst (λ (n : ℕ). numbered tables n ≡ Some table) (ap (λ (s : TableWalk). s.number) c.self.view_is) c.table_of-table.ensures in
    subst (λ (o : Option Opened). IsCaughtUp c.args.floor.now new.walk.now (with_hand new.walk.now (to_come new.walk (blocks_in o held))))
    (sym (ap (numbered tables) c.pass_over.ensures.number ∙ there)) (c.pass_over.ensures.caught_up t none)

pub returns-clause-read_all : goal.returns-clause-read_all
returns-clause-read_all g c none ends =
    let tables = c.args.tables.now.tables in
    let table = c.table_of-table.result.now in
    let new = c.pass_over.new.self in
    let there : numbered tables c.args.self.now.number ≡ Some table = subst (λ (n : ℕ). numbered tables n ≡ Some table) (ap (λ (s : TableWalk). s.number) c.self.view_is) c.table_of-table.ensures in
    subst (λ (o : Option Opened). row_count o ≤ new.walk.block) (sym (ap (numbered tables) c.pass_over.ensures.number ∙ there)) (c.pass_over.ensures.read_all none ends)
