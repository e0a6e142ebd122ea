use Rattle.std.proofs.Common.{[], ◌∷◌, inl}
use Rattle.std.proofs.lemmas.Result.{err_from_is_err_and}
use Rattle.turbomap.specs.Command.{input_of, stored}
use Rattle.tm_texts.specs.Limits.{source_bytes}
use Rattle.turbomap.specs.Asking.{bound_asked}
use Rattle.turbomap.proofs.Causes.{file_cause, ready_of, refused_of}
use Rattle.turbomap.proofs.bound_file.prepare_bound.Goals as goal

pub returns-in_err-text-clause-refused : goal.returns-in_err-text-clause-refused
returns-in_err-text-clause-refused g c =
    let words = c.args.words in
    let p = err_from_is_err_and c.from_residual.result c.from_residual.ensures.1 in
    rw (p.1, p.2) (file_cause (bound_asked words)
    (stored g.S.Store.held g.S.Store.read_faults g.S.Store.write_faults c.args.store.now c.read_file.new.store)
    (input_of words.input.now source_bytes) c.in_err-text.field-0.0 (λ status line is. inl is) c.in_err-text.ensures.refused)

pub returns-clause-ready : goal.returns-clause-ready
returns-clause-ready g c =
    let words = c.args.words in
    ready_of (bound_asked words) (g.S.Store.held c.args.store.now) (c.in_ok-text.text.items ∷ []) c.make_bound.result
    (c.in_ok-text.ensures.text, tt) (rw c.deref.ensures.value at c.make_bound.ensures.ready)

pub returns-clause-refused : goal.returns-clause-refused
returns-clause-refused g c =
    let words = c.args.words in
    refused_of (bound_asked words)
    (stored g.S.Store.held g.S.Store.read_faults g.S.Store.write_faults c.args.store.now c.read_file.new.store) (c.in_ok-text.text.items ∷ []) c.make_bound.result
    (c.in_ok-text.ensures.text, tt) (rw c.deref.ensures.value at c.make_bound.ensures.refused)
