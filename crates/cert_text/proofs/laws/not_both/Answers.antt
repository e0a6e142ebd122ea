use Rattle.cert_text.proofs.LawLemmas.{not_both}
use Rattle.cert_text.proofs.laws.not_both.Goals as goal

pub returns : goal.returns
returns c = not_both
