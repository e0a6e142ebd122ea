use Rattle.std.proofs.Common.{[], ◌∷◌, inl, inr, refl, ◌∙◌}
use Rattle.std.proofs.lemmas.Result.{err_from_is_err_and}
use Rattle.tm_texts.specs.Limits.{source_bytes, mapped_bytes}
use Rattle.turbomap.specs.Asking.{check_asked}
use Rattle.turbomap.specs.Command.{input_of, stored}
use Rattle.turbomap.proofs.Causes.{file_cause, later_refusal, later_text, ready_of, refused_of}
use Rattle.turbomap.proofs.Counts.{counts_on}
use Rattle.turbomap.proofs.check_files.prepare_check.Goals as goal

pub returns-in_err-source-clause-refused : goal.returns-in_err-source-clause-refused
returns-in_err-source-clause-refused g c =
    let words = c.args.words in
    let p = err_from_is_err_and c.from_residual.result c.from_residual.ensures.1 in
    rw (p.1, p.2) (file_cause (check_asked words)
    (stored g.S.Store.held g.S.Store.read_faults g.S.Store.write_faults c.args.store.now c.read_file.new.store)
    (input_of words.input.now source_bytes) c.in_err-source.field-0.0 (λ status line is. inl is) c.in_err-source.ensures.refused)

pub returns-in_err-mapped-clause-refused : goal.returns-in_err-mapped-clause-refused
returns-in_err-mapped-clause-refused g c =
    let words = c.args.words in
    let why = c.in_err-mapped.field-0.0 in
    let input = input_of words.output.now mapped_bytes in
    let s = stored g.S.Store.held g.S.Store.read_faults g.S.Store.write_faults c.args.store.now c.read_file-2.new.store in
    let t = stored g.S.Store.held g.S.Store.read_faults g.S.Store.write_faults c.read_file.new.store c.read_file-2.new.store in
    let later = later_refusal input s t why c.read_file.ensures.same (c.read_file.ensures.read_counts words.output.now) refl c.in_err-mapped.ensures.refused in
    let p = err_from_is_err_and c.from_residual-in_err-mapped.result c.from_residual-in_err-mapped.ensures.1 in
    rw (p.1, p.2) (file_cause (check_asked words) s input why
    (λ status line is. inr ((c.in_ok-source.source.items, c.in_ok-source.ensures.text), inl is)) later)

pub returns-in_err-cert-clause-refused : goal.returns-in_err-cert-clause-refused
returns-in_err-cert-clause-refused g c =
    let words = c.args.words in
    let why = c.in_err-cert.field-0.0 in
    let before = g.S.Store.held c.args.store.now in
    let input = input_of words.certificate.now mapped_bytes in
    let s = stored g.S.Store.held g.S.Store.read_faults g.S.Store.write_faults c.args.store.now c.read_file-3.new.store in
    let t = stored g.S.Store.held g.S.Store.read_faults g.S.Store.write_faults c.read_file-2.new.store c.read_file-3.new.store in
    let later = later_refusal input s t why (c.read_file-2.ensures.same ∙ c.read_file.ensures.same)
    (counts_on _ _ _ (c.read_file.ensures.read_counts words.certificate.now) (c.read_file-2.ensures.read_counts words.certificate.now)) refl
    c.in_err-cert.ensures.refused in
    let second = later_text before (g.S.Store.held c.read_file.new.store) (input_of words.output.now mapped_bytes) c.in_ok-mapped.mapped.items
    c.read_file.ensures.same c.in_ok-mapped.ensures.text in
    let p = err_from_is_err_and c.from_residual-in_err-cert.result c.from_residual-in_err-cert.ensures.1 in
    rw (p.1, p.2) (file_cause (check_asked words) s input why
    (λ status line is. inr ((c.in_ok-source.source.items, c.in_ok-source.ensures.text), inr ((c.in_ok-mapped.mapped.items, second), inl is))) later)

pub returns-clause-ready : goal.returns-clause-ready
returns-clause-ready g c =
    let words = c.args.words in
    let before = g.S.Store.held c.args.store.now in
    let second = later_text before (g.S.Store.held c.read_file.new.store) (input_of words.output.now mapped_bytes) c.in_ok-mapped.mapped.items
    c.read_file.ensures.same c.in_ok-mapped.ensures.text in
    let third = later_text before (g.S.Store.held c.read_file-2.new.store) (input_of words.certificate.now mapped_bytes) c.in_ok-cert.cert.items
    (c.read_file-2.ensures.same ∙ c.read_file.ensures.same) c.in_ok-cert.ensures.text in
    ready_of (check_asked words) before (c.in_ok-source.source.items ∷ c.in_ok-mapped.mapped.items ∷ c.in_ok-cert.cert.items ∷ []) c.make_check.result
    (c.in_ok-source.ensures.text, (second, (third, tt)))
    (rw (c.deref.ensures.value, c.deref-2.ensures.value, c.deref-3.ensures.value) at c.make_check.ensures.ready)

pub returns-clause-refused : goal.returns-clause-refused
returns-clause-refused g c =
    let words = c.args.words in
    let before = g.S.Store.held c.args.store.now in
    let second = later_text before (g.S.Store.held c.read_file.new.store) (input_of words.output.now mapped_bytes) c.in_ok-mapped.mapped.items
    c.read_file.ensures.same c.in_ok-mapped.ensures.text in
    let third = later_text before (g.S.Store.held c.read_file-2.new.store) (input_of words.certificate.now mapped_bytes) c.in_ok-cert.cert.items
    (c.read_file-2.ensures.same ∙ c.read_file.ensures.same) c.in_ok-cert.ensures.text in
    refused_of (check_asked words)
    (stored g.S.Store.held g.S.Store.read_faults g.S.Store.write_faults c.args.store.now c.read_file-3.new.store)
    (c.in_ok-source.source.items ∷ c.in_ok-mapped.mapped.items ∷ c.in_ok-cert.cert.items ∷ []) c.make_check.result
    (c.in_ok-source.ensures.text, (second, (third, tt)))
    (rw (c.deref.ensures.value, c.deref-2.ensures.value, c.deref-3.ensures.value) at c.make_check.ensures.refused)
