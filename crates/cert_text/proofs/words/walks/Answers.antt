-- One word that is none makes all refused.
use Rattle.std.proofs.lemmas.Result.{err_from_is_err_and}
use Rattle.cert_text.specs.Words.{is_walk}
use Rattle.cert_text.proofs.ReadLemmas.{each_refused, no_word}
use Rattle.cert_text.proofs.words.walks.Goals as goal

pub returns-in_err-walk-clause-fault : goal.returns-in_err-walk-clause-fault
returns-in_err-walk-clause-fault c =
    let p = err_from_is_err_and c.from_residual-in_err-walk.result c.from_residual-in_err-walk.ensures.1 in
    rw (p.1, p.2) (each_refused is_walk c.args.words.now c.loop-word.word-index no_word c.args.line _ c.loop-word-test.true c.in_err-walk.ensures.fault)
