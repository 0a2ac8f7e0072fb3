use Rattle.console.proofs.writing.write_text.Goals as goal

pub returns-in-Err : goal.returns-in-Err
returns-in-Err g c = (c.send-sent.result.0, c.send-sent.ensures.written)
