-- The words from `start` on are those of the line.
use Rattle.std.proofs.Common.{◌≡◌, ◌≤◌, ℕ, None, List, length, drop, map, Bor, sym, ap, ◌∙◌, arith}
use Rattle.std.proofs.lemmas.List.{take-map, length-map}
use Rattle.blif_lex.specs.Words.{is_kept, fault_in}
use Rattle.blif_lex.proofs.Stretches.{rest_of, EndsLine-no, EndsLine-yes, RefusesLine-yes}
use Rattle.blif_lex.proofs.lines.end_line.Goals as goal

now : Bor (List ℕ) → List ℕ
now w = w.now

pub returns-then-not-is_kept-clause-ok : goal.returns-then-not-is_kept-clause-ok
returns-then-not-is_kept-clause-ok c =
    let items = c.args.words.now.items in
    let line = rest_of (λ (w : Bor (List ℕ)). w.now) c.args.start items in
    let inside : c.args.start ≤ length (map (λ (w : Bor (List ℕ)). w.now) items) = omega (arith, length-map items (λ (w : Bor (List ℕ)). w.now)) in
    EndsLine-no c.args.name c.args.bindings c.args.number c.args.start (map (λ w. w.now) items) c.args.spans.now.items inside c.requires.within
    (sym (ap is_kept line) ∙ rw (← c.deref.ensures.value) (sym c.is_kept.ensures ∙ c.if-not-is_kept.true))
    _ (ap (map (λ (w : Bor (List ℕ)). w.now)) c.truncate.ensures.items ∙ sym (take-map (λ (w : Bor (List ℕ)). w.now) c.args.start items))

pub returns-in-Some-clause-fault : goal.returns-in-Some-clause-fault
returns-in-Some-clause-fault c =
    let items = c.args.words.now.items in
    let line = rest_of (λ (w : Bor (List ℕ)). w.now) c.args.start items in
    RefusesLine-yes c.args.name c.args.bindings c.args.number (drop c.args.start (map (λ w. w.now) items)) c.in-Some.kind
    (sym (ap is_kept line) ∙ rw (← c.deref.ensures.value) (sym c.is_kept.ensures ∙ c.if-not-is_kept.false))
    (sym (ap (fault_in c.args.name c.args.bindings) line) ∙ rw (← c.deref.ensures.value) (sym c.fault_in.ensures ∙ c.in-Some.is))

pub returns-clause-ok : goal.returns-clause-ok
returns-clause-ok c =
    let items = c.args.words.now.items in
    let line = rest_of (λ (w : Bor (List ℕ)). w.now) c.args.start items in
    let inside : c.args.start ≤ length (map (λ (w : Bor (List ℕ)). w.now) items) = omega (arith, length-map items (λ (w : Bor (List ℕ)). w.now)) in
    let end : c.len-end.result ≡ length (map (λ (w : Bor (List ℕ)). w.now) items) = omega (arith, length-map items (λ (w : Bor (List ℕ)). w.now)) in
    let none : c.fault_in.result ≡ None = grind arith in
    rw c.in_ok-push.ensures.items (EndsLine-yes c.args.name c.args.bindings c.args.number c.args.start (map (λ w. w.now) items) c.args.spans.now.items inside c.requires.within
    (sym (ap is_kept line) ∙ rw (← c.deref.ensures.value) (sym c.is_kept.ensures ∙ c.if-not-is_kept.false))
    (sym (ap (fault_in c.args.name c.args.bindings) line) ∙ rw (← c.deref.ensures.value) (sym c.fault_in.ensures ∙ none))
    _ (ap (λ n. record { number = c.args.number; start = c.args.start; end = n }) end))
