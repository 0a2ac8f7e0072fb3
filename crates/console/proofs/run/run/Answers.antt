use Rattle.std.proofs.Common.{take}
use Rattle.console.proofs.run.run.Goals as goal

pub returns-in-Ok-write_text : goal.returns-in-Ok-write_text
returns-in-Ok-write_text g c =
    let file = take c.in-Ok.length c.read_first.new.room in
    let text = take c.text_for-told.result.1 c.text_for-told.new.room in
    (text, (file, c.in-Ok.ensures.1, c.text_for-told.ensures.text), c.in-Ok-write_text.ensures)

pub returns-in-Err-write_text : goal.returns-in-Err-write_text
returns-in-Err-write_text g c =
    let file = take c.in-Ok.length c.read_first.new.room in
    let text = take c.text_for-told.result.1 c.text_for-told.new.room in
    (text, c.text_for-told.result.0, (file, c.in-Ok.ensures.1, c.text_for-told.ensures.text), c.in-Err-write_text.ensures)
