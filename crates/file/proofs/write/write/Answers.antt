use Rattle.std.proofs.Common.{◌≡◌, length, take, ap, ap₂, subst, arith}
use Rattle.std.specs.List.{AllByRecursion}
use Rattle.rules.specs.Sheets.{Fits, sheet}
use Rattle.sheet.specs.Books.{lots_of, sheet_of}
use Rattle.file.specs.Laws.{GivesBack, ReadsBack}
use Rattle.file.proofs.Again.{given_back, if_written, read_back, windows_written}
use Rattle.file.proofs.write.write.Goals as goal

pub returns-clause-again : goal.returns-clause-again
returns-clause-again g c =
    let s = sheet_of (g.S.WindowStore.windows c.args.store.now) c.args.book.now in
    let read = c.in_ok-lots.ensures.checked.1 in
    let windows = windows_written s.windows c.read_windows.new.room _ c.in_ok-lots.lots read.0 (c.read_windows.ensures.filled.few read.1) in
    let mine = sheet (take c.in_ok-lots.lots c.read_windows.new.room) c.rows.result.now in
    if_written mine s c.args.bytes.now _ _ (ReadsBack s) (ap₂ sheet windows c.rows.ensures.rules)
    (omega (arith, read.1, ap length windows)) c.rows.ensures.few (read_back s) c.write_sheet.ensures

pub returns-clause-sheet : goal.returns-clause-sheet
returns-clause-sheet g c =
    let s = sheet_of (g.S.WindowStore.windows c.args.store.now) c.args.book.now in
    let read = c.in_ok-lots.ensures.checked.1 in
    let windows = windows_written s.windows c.read_windows.new.room _ c.in_ok-lots.lots read.0 (c.read_windows.ensures.filled.few read.1) in
    let mine = sheet (take c.in_ok-lots.lots c.read_windows.new.room) c.rows.result.now in
    let lots : lots_of c.args.book.now ≡ length s.windows = omega (arith, c.lots.ensures, c.lots-lots.ensures) in
    let fit = subst (λ x. x) (ap₂ (λ n rs. AllByRecursion (Fits n) rs) lots c.rows.ensures.rules) c.rows.ensures.fit in
    if_written mine s c.args.bytes.now _ _ (GivesBack s) (ap₂ sheet windows c.rows.ensures.rules)
    (omega (arith, read.1, ap length windows)) c.rows.ensures.few (λ file h. given_back s file h read.2 fit) c.write_sheet.ensures
