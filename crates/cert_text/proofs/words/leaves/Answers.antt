-- One word that is none makes all refused.
use Rattle.std.proofs.lemmas.Result.{err_from_is_err_and}
use Rattle.cert_text.specs.Words.{is_leaf}
use Rattle.cert_text.proofs.ReadLemmas.{each_refused, no_word}
use Rattle.cert_text.proofs.words.leaves.Goals as goal

pub returns-in_err-leaf-clause-fault : goal.returns-in_err-leaf-clause-fault
returns-in_err-leaf-clause-fault c =
    let p = err_from_is_err_and c.from_residual.result c.from_residual.ensures.1 in
    rw (p.1, p.2) (each_refused is_leaf c.args.words.now c.loop-word.word-index no_word c.args.line _ c.loop-word-test.true c.in_err-leaf.ensures.fault)
