-- The faults of the whole, one after the other, and then the circuit.
use Rattle.std.proofs.Common.{◌≡◌, ℕ, ◌+◌, ◌<◌, List, None, Some, length, position, sym, ap, ap₂, ◌∙◌, subst, arith}
use Rattle.std.proofs.lemmas.Result.{IfErr-weaker}
use Rattle.tm_circuit.specs.Plain.{Plain}
use Rattle.aiger_read.specs.declared.fault.AigerFault.{AigerFault}
use Rattle.aiger_read.specs.declared.fault.AigerKind.TheVariants.{Undriven, TooManySignals}
use Rattle.aiger_read.specs.declared.statement.Statement.{Statement}
use Rattle.aiger_read.specs.Statements.{defined_in}
use Rattle.aiger_read.specs.Circuit.{Sections, sections_in, circuit_of}
use Rattle.aiger_read.specs.Text.{uses_undriven, OnText}
use Rattle.aiger_read.specs.Steps.{maybe_texts}
use Rattle.aiger_read.specs.Making.{sections_of, signal_count, fault_said, IsFaultSaid, IsLoop}
use Rattle.aiger_read.proofs.DrivenLemmas.{undriven_fault, many_fault, no_fault}
use Rattle.aiger_read.proofs.WholeLemmas.{said-length, said_fault, said_loop, on_ok}
use Rattle.aiger_read.proofs.circuit.circuit_of.Goals as goal

pub returns-in-Some-clause-fault : goal.returns-in-Some-clause-fault
returns-in-Some-clause-fault c =
    let body = c.args.counted.now.body.items in
    let limit = c.args.limits.now.signals in
    let circuit : Plain = circuit_of c.args.limits.now.name c.args.header.now (maybe_texts c.args.given.now) (sections_in body) in
    let defined : c.args.counted.now.variables ≡ defined_in body = c.requires.variables ∙ sym c.requires.sorted in
    let there : position (uses_undriven (defined_in body)) body ≡ Some c.in-Some.place
    = sym (c.in-Some.ensures.place ∙ ap₂ (λ (vs : List ℕ) (b : List Statement). position (uses_undriven vs) b) defined c.deref.ensures.value) in
    rw c.at.ensures (said_fault limit body circuit (c.in-Some.place + 2, Undriven) (undriven_fault limit body (length circuit.drives) c.in-Some.place there))

pub returns-then-signal_count-limits-clause-fault : goal.returns-then-signal_count-limits-clause-fault
returns-then-signal_count-limits-clause-fault c =
    let body = c.args.counted.now.body.items in
    let limit = c.args.limits.now.signals in
    let circuit : Plain = circuit_of c.args.limits.now.name c.args.header.now (maybe_texts c.args.given.now) (sections_in body) in
    let defined : c.args.counted.now.variables ≡ defined_in body = c.requires.variables ∙ sym c.requires.sorted in
    let none : position (uses_undriven (defined_in body)) body ≡ None
    = sym (c.first_undriven.ensures.place ∙ ap₂ (λ (vs : List ℕ) (b : List Statement). position (uses_undriven vs) b) defined c.deref.ensures.value) ∙ c.in_default.is in
    let sorted : sections_of c.in_ok-sections.sections ≡ sections_in body = c.in_ok-sections.ensures ∙ ap sections_in c.deref-2.ensures.value in
    let count : c.signal_count.result ≡ length circuit.drives
    = c.signal_count.ensures ∙ ap signal_count sorted ∙ sym (said-length c.args.limits.now.name c.args.header.now (maybe_texts c.args.given.now) (sections_in body)) in
    rw c.at-then-signal_count-limits.ensures
    (said_fault limit body circuit (0, TooManySignals) (many_fault limit body (length circuit.drives) none (subst (λ (n : ℕ). limit < n) count c.if-signal_count-limits.true)))

pub returns-clause-whole : goal.returns-clause-whole
returns-clause-whole c =
    let body = c.args.counted.now.body.items in
    let limit = c.args.limits.now.signals in
    let circuit : Plain = circuit_of c.args.limits.now.name c.args.header.now (maybe_texts c.args.given.now) (sections_in body) in
    let defined : c.args.counted.now.variables ≡ defined_in body = c.requires.variables ∙ sym c.requires.sorted in
    let none : position (uses_undriven (defined_in body)) body ≡ None
    = sym (c.first_undriven.ensures.place ∙ ap₂ (λ (vs : List ℕ) (b : List Statement). position (uses_undriven vs) b) defined c.deref.ensures.value) ∙ c.in_default.is in
    let sorted : sections_of c.in_ok-sections.sections ≡ sections_in body = c.in_ok-sections.ensures ∙ ap sections_in c.deref-2.ensures.value in
    let count : c.signal_count.result ≡ length circuit.drives
    = c.signal_count.ensures ∙ ap signal_count sorted ∙ sym (said-length c.args.limits.now.name c.args.header.now (maybe_texts c.args.given.now) (sections_in body)) in
    on_ok c.spelled.result (fault_said limit body circuit ≡ None) (no_fault limit body (length circuit.drives) none (omega (arith, count, c.if-signal_count-limits.false)))

pub returns-clause-fault : goal.returns-clause-fault
returns-clause-fault c =
    let body = c.args.counted.now.body.items in
    let limit = c.args.limits.now.signals in
    let circuit : Plain = circuit_of c.args.limits.now.name c.args.header.now (maybe_texts c.args.given.now) (sections_in body) in
    let defined : c.args.counted.now.variables ≡ defined_in body = c.requires.variables ∙ sym c.requires.sorted in
    let none : position (uses_undriven (defined_in body)) body ≡ None
    = sym (c.first_undriven.ensures.place ∙ ap₂ (λ (vs : List ℕ) (b : List Statement). position (uses_undriven vs) b) defined c.deref.ensures.value) ∙ c.in_default.is in
    let sorted : sections_of c.in_ok-sections.sections ≡ sections_in body = c.in_ok-sections.ensures ∙ ap sections_in c.deref-2.ensures.value in
    let count : c.signal_count.result ≡ length circuit.drives
    = c.signal_count.ensures ∙ ap signal_count sorted ∙ sym (said-length c.args.limits.now.name c.args.header.now (maybe_texts c.args.given.now) (sections_in body)) in
    let faultless : fault_said limit body circuit ≡ None = no_fault limit body (length circuit.drives) none (omega (arith, count, c.if-signal_count-limits.false)) in
    let same : circuit_of c.args.limits.now.name c.args.header.now (maybe_texts c.args.given.now) (sections_of c.in_ok-sections.sections) ≡ circuit
    = ap (λ (s : Sections). circuit_of c.args.limits.now.name c.args.header.now (maybe_texts c.args.given.now) s) sorted in
    IfErr-weaker c.spelled.result
    (λ (e : AigerFault). OnText e (IsLoop (circuit_of c.args.limits.now.name c.args.header.now (maybe_texts c.args.given.now) (sections_of c.in_ok-sections.sections))))
    (λ (e : AigerFault). OnText e (IsFaultSaid limit body circuit))
    (λ (e : AigerFault) loop. said_loop limit body circuit e faultless (subst (λ (x : Plain). OnText e (IsLoop x)) same loop)) c.spelled.ensures.fault
