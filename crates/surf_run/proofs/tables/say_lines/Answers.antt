use Rattle.std.proofs.Common.{◌≡◌, ◌∙◌, ◌++◌, ◌+◌, ◌<◌, ◌≤◌, [], ◌∷◌, List, ℕ, ap, append_assoc, drop, get_or, length, refl, subst, sym, take, take-append-drop, flat_map}
use Rattle.std.proofs.lemmas.Grind.{flat_map-append}
use Rattle.std.proofs.lemmas.List.{append-nil, take_all, take_more}
use Rattle.map_model.specs.SortedMap.{Bytes}
use Rattle.outside.specs.Streams.{SaysPrefix}
use Rattle.outside.proofs.Pieces.{says_then}
use Rattle.store_report.specs.Texts.{row_text}
use Rattle.store_report.proofs.Parts.{prefix_of_more, prefix_on, said_on}
use Rattle.surf_run.specs.Readings.{text_of_numbers, text_of_opened}
use Rattle.surf_run.proofs.Readings.{of_ok}
use Rattle.table_file.specs.Opened.{Opened}
use Rattle.surf_run.proofs.tables.say_lines.Goals as goal

-- the lines of one table more
texts_more : (tables : List Opened) (i : ℕ) (t : Opened) → i < length tables → t ≡ get_or tables i t → flat_map text_of_opened (take (i + 1) tables) ≡ flat_map text_of_opened (take i tables) ++ text_of_opened t
texts_more tables i t within is =
    ap (flat_map text_of_opened) (take_more tables i t within ∙ ap (λ (o : Opened). take i tables ++ o ∷ []) (sym is)) ∙ flat_map-append text_of_opened (take i tables) (t ∷ [])
    ∙ ap (λ (l : Bytes). flat_map text_of_opened (take i tables) ++ l) (append-nil (text_of_opened t))

-- a prefix of the line of a table, after those of the tables before it, is one of all lines
prefix_among : (tables : List Opened) (i : ℕ) (t : Opened) (store old mid new : Bytes) → i < length tables → t ≡ get_or tables i t → mid ≡ old ++ flat_map text_of_opened (take i tables)
    → SaysPrefix (text_of_opened t) mid new → SaysPrefix (flat_map text_of_opened tables ++ store) old new
prefix_among tables i t store old mid new within is said prefix =
    let later = flat_map text_of_opened (drop (i + 1) tables) in
    let before = flat_map text_of_opened (take i tables) in
    let split : flat_map text_of_opened tables ++ store ≡ (before ++ text_of_opened t) ++ (later ++ store) =
    ap (λ (l : List Opened). flat_map text_of_opened l ++ store) (sym (take-append-drop (i + 1) tables))
    ∙ ap (λ (l : Bytes). l ++ store) (flat_map-append text_of_opened (take (i + 1) tables) (drop (i + 1) tables))
    ∙ append_assoc (flat_map text_of_opened (take (i + 1) tables)) later store
    ∙ ap (λ (l : Bytes). l ++ (later ++ store)) (texts_more tables i t within is) in
    subst (λ (l : Bytes). SaysPrefix l old new) (sym split) (prefix_of_more (before ++ text_of_opened t) (later ++ store) old new (prefix_on before (text_of_opened t) old mid new said prefix))

-- after the last table all of them were told
all_said : (tables : List Opened) (i : ℕ) (old mid : Bytes) → length tables ≤ i → mid ≡ old ++ flat_map text_of_opened (take i tables) → mid ≡ old ++ flat_map text_of_opened tables
all_said tables i old mid whole said = said ∙ ap (λ (l : List Opened). old ++ flat_map text_of_opened l) (take_all i tables whole)

pub returns-then-is_err-clause-prefix : goal.returns-then-is_err-clause-prefix
returns-then-is_err-clause-prefix g c tells =
    let mid = (g.W.Disk.world c.loop-table.out).beside.said in
    let new = (g.W.Disk.world c.say_table.new.out).beside.said in
    let t = c.table-item.result in
    let line : row_text c.row.result.now c.least.result.now c.greatest.result.now ≡ text_of_opened t = rw (c.row.ensures.row, c.least.ensures, c.greatest.ensures) refl in
    prefix_among c.args.store.now.tables c.loop-table.table-index t (text_of_numbers c.args.has) (g.W.Disk.world c.args.out.now).beside.said mid new
    (subst (λ (l : List Opened). c.loop-table.table-index < length l) (c.tables-table-items).ensures.tables c.loop-table-test.true)
    (c.table-item.is ∙ ap (λ (l : List Opened). get_or l c.loop-table.table-index t) (c.tables-table-items).ensures.tables) (c.loop-table.invariant.said tells)
    (subst (λ (l : Bytes). SaysPrefix l mid new) line (c.say_table.ensures.prefix tells))

pub loop-table-preserved : goal.loop-table-preserved
loop-table-preserved g c =
    let old = (g.W.Disk.world c.args.out.now).beside.said in
    let mid = (g.W.Disk.world c.loop-table.out).beside.said in
    let new = (g.W.Disk.world c.say_table.new.out).beside.said in
    let tables = c.args.store.now.tables in
    let i = c.loop-table.table-index in
    let t = c.table-item.result in
    let line : row_text c.row.result.now c.least.result.now c.greatest.result.now ≡ text_of_opened t = rw (c.row.ensures.row, c.least.ensures, c.greatest.ensures) refl in
    let within : i < length tables = subst (λ (l : List Opened). i < length l) (c.tables-table-items).ensures.tables c.loop-table-test.true in
    let is : t ≡ get_or tables i t = c.table-item.is ∙ ap (λ (l : List Opened). get_or l i t) (c.tables-table-items).ensures.tables in
    record {
      said = λ tells.
          let now : new ≡ mid ++ row_text c.row.result.now c.least.result.now c.greatest.result.now = of_ok c.say_table.result _ (sym c.is_err.ensures.value ∙ c.if-is_err.false) (c.say_table.ensures.said tells) in
          said_on (flat_map text_of_opened (take i tables)) (text_of_opened t) old mid new (c.loop-table.invariant.said tells) (now ∙ ap (λ (l : Bytes). mid ++ l) line) ∙ ap (λ (l : Bytes). old ++ l) (sym (texts_more tables i t within is));
      moves = says_then _ _ _ c.loop-table.invariant.moves c.say_table.ensures.moves;
    }

pub returns-clause-said : goal.returns-clause-said
returns-clause-said g c tells done =
    let old = (g.W.Disk.world c.args.out.now).beside.said in
    let mid = (g.W.Disk.world c.loop-table.out).beside.said in
    let line : c.as_slice.result.now ≡ text_of_numbers c.args.has = c.as_slice.ensures.value ∙ c.store_line-line.ensures in
    said_on (flat_map text_of_opened c.args.store.now.tables) (text_of_numbers c.args.has) old mid _ (all_said c.args.store.now.tables c.loop-table.table-index old mid
    (subst (λ (l : List Opened). length l ≤ c.loop-table.table-index) (c.tables-table-items).ensures.tables c.loop-table-test.false) (c.loop-table.invariant.said tells))
    (c.say_last.ensures.said tells done ∙ ap (λ (l : Bytes). mid ++ l) line)

pub returns-clause-prefix : goal.returns-clause-prefix
returns-clause-prefix g c tells =
    let old = (g.W.Disk.world c.args.out.now).beside.said in
    let mid = (g.W.Disk.world c.loop-table.out).beside.said in
    let new = (g.W.Disk.world c.say_last.new.out).beside.said in
    let line : c.as_slice.result.now ≡ text_of_numbers c.args.has = c.as_slice.ensures.value ∙ c.store_line-line.ensures in
    prefix_on (flat_map text_of_opened c.args.store.now.tables) (text_of_numbers c.args.has) old mid new (all_said c.args.store.now.tables c.loop-table.table-index old mid
    (subst (λ (l : List Opened). length l ≤ c.loop-table.table-index) (c.tables-table-items).ensures.tables c.loop-table-test.false) (c.loop-table.invariant.said tells))
    (subst (λ (l : Bytes). SaysPrefix l mid new) line (c.say_last.ensures.prefix tells))
