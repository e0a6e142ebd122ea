use Rattle.std.proofs.Common.{[], ◌∷◌, inl, inr, refl}
use Rattle.std.proofs.lemmas.Result.{err_from_is_err_and}
use Rattle.turbomap.specs.Command.{input_of, stored}
use Rattle.tm_texts.specs.Limits.{mapped_bytes, vector_bytes}
use Rattle.turbomap.specs.Asking.{sim_asked}
use Rattle.turbomap.proofs.Causes.{file_cause, later_refusal, later_text, ready_of, refused_of}
use Rattle.turbomap.proofs.sim_files.prepare_sim.Goals as goal

pub returns-in_err-text-clause-refused : goal.returns-in_err-text-clause-refused
returns-in_err-text-clause-refused g c =
    let words = c.args.words in
    let p = err_from_is_err_and c.from_residual.result c.from_residual.ensures.1 in
    rw (p.1, p.2) (file_cause (sim_asked words)
    (stored g.S.Store.held g.S.Store.read_faults g.S.Store.write_faults c.args.store.now c.read_file.new.store)
    (input_of words.input.now mapped_bytes) c.in_err-text.field-0.0 (λ status line is. inl is) c.in_err-text.ensures.refused)

pub returns-in_err-vectors-clause-refused : goal.returns-in_err-vectors-clause-refused
returns-in_err-vectors-clause-refused g c =
    let words = c.args.words in
    let why = c.in_err-vectors.field-0.0 in
    let input = input_of words.vectors.now vector_bytes in
    let s = stored g.S.Store.held g.S.Store.read_faults g.S.Store.write_faults c.args.store.now c.read_file-2.new.store in
    let t = stored g.S.Store.held g.S.Store.read_faults g.S.Store.write_faults c.read_file.new.store c.read_file-2.new.store in
    let later = later_refusal input s t why c.read_file.ensures.same (c.read_file.ensures.read_counts words.vectors.now) refl c.in_err-vectors.ensures.refused in
    let p = err_from_is_err_and c.from_residual-in_err-vectors.result c.from_residual-in_err-vectors.ensures.1 in
    rw (p.1, p.2) (file_cause (sim_asked words) s input why
    (λ status line is. inr ((c.in_ok-text.text.items, c.in_ok-text.ensures.text), inl is)) later)

pub returns-clause-ready : goal.returns-clause-ready
returns-clause-ready g c =
    let words = c.args.words in
    let before = g.S.Store.held c.args.store.now in
    ready_of (sim_asked words) before (c.in_ok-text.text.items ∷ c.in_ok-vectors.vectors.items ∷ []) c.make_sim.result
    (c.in_ok-text.ensures.text, (later_text before (g.S.Store.held c.read_file.new.store) (input_of words.vectors.now vector_bytes) c.in_ok-vectors.vectors.items c.read_file.ensures.same c.in_ok-vectors.ensures.text, tt))
    (rw (c.deref.ensures.value, c.deref-2.ensures.value) at c.make_sim.ensures.ready)

pub returns-clause-refused : goal.returns-clause-refused
returns-clause-refused g c =
    let words = c.args.words in
    let before = g.S.Store.held c.args.store.now in
    refused_of (sim_asked words)
    (stored g.S.Store.held g.S.Store.read_faults g.S.Store.write_faults c.args.store.now c.read_file-2.new.store)
    (c.in_ok-text.text.items ∷ c.in_ok-vectors.vectors.items ∷ []) c.make_sim.result
    (c.in_ok-text.ensures.text, (later_text before (g.S.Store.held c.read_file.new.store) (input_of words.vectors.now vector_bytes) c.in_ok-vectors.vectors.items c.read_file.ensures.same c.in_ok-vectors.ensures.text, tt))
    (rw (c.deref.ensures.value, c.deref-2.ensures.value) at c.make_sim.ensures.refused)
