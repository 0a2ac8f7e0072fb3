use Rattle.sheet.proofs.Books.{rules_fit}
use Rattle.sheet.proofs.book.Book.rows.Goals as goal

pub returns-clause-fit : goal.returns-clause-fit
returns-clause-fit c = rules_fit c.args.self.now
