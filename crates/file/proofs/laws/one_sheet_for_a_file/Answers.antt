use Rattle.file.proofs.Sheets.{one_sheet}
use Rattle.file.proofs.laws.one_sheet_for_a_file.Goals as goal

pub returns : goal.returns
returns c = one_sheet
