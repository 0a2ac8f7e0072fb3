use Rattle.decimal.proofs.Numbers.{decimal_form_lem}
use Rattle.decimal.proofs.laws.decimal_form.Goals as goal

pub returns : goal.returns
returns c = decimal_form_lem
