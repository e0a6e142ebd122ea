-- Behind the counted lines each symbol puts its name, up to a line `c`.
use Rattle.std.proofs.Common.{◌≡◌, ℕ, ◌+◌, List, take, replicate, Option, None, sym, ap, ◌∙◌, subst, arith}
use Rattle.std.proofs.lemmas.List.{take_all}
use Rattle.std.proofs.lemmas.Result.{err_from_is_err_and}
use Rattle.aiger_read.specs.Header.{counted}
use Rattle.aiger_read.specs.Symbols.{symbol_lines, names_given}
use Rattle.aiger_read.specs.Steps.{texts, maybe_texts, IsLawfulTo, IsFaultOn}
use Rattle.aiger_read.proofs.ReadLemmas.{first_fault, lawful_more}
use Rattle.aiger_read.proofs.SymbolLemmas.{given_none, all_lawful, symbols_read, place_fault, place_names}
use Rattle.aiger_read.proofs.symbols.names_on.Goals as goal

pub loop-k-init : goal.loop-k-init
loop-k-init c =
    let lines = texts c.args.lines.now in
    let first : 1 + counted c.args.header.now ≡ (c.counted.result + 1) + 0 = omega (arith, c.counted.ensures) in
    record {
      lawful = subst (IsLawfulTo lines) first c.requires.lawful;
      sized = c.in_ok-names.ensures.sized ∙ c.slots.ensures;
      names = c.in_ok-names.ensures.names ∙ ap (λ (m : ℕ). replicate {A = Option (List ℕ)} m None) c.slots.ensures ∙ sym (given_none c.args.header.now (symbol_lines c.args.header.now lines));
    }

pub returns-in_err-name_on-clause-fault : goal.returns-in_err-name_on-clause-fault
returns-in_err-name_on-clause-fault c =
    let words = c.args.lines.now in
    let h = c.args.header.now in
    let n = c.counted.result in
    let k = c.loop-k.k in
    let found = symbols_read words h n c.symbol_count-many.result c.counted.ensures c.requires.within c.symbol_count-many.ensures.count c.symbol_count-many.ensures.within in
    let p = err_from_is_err_and c.from_residual-in_err-name_on.result c.from_residual-in_err-name_on.ensures.1 in
    rw (p.1, p.2)
    (first_fault (texts words) ((n + 1) + k) c.in_err-name_on.field-0.0 c.loop-k.invariant.lawful
    (subst (IsFaultOn c.in_err-name_on.field-0.0 (((n + 1) + k) + 1))
    (sym (place_fault words h n c.symbol_count-many.result k _ (maybe_texts c.loop-k.names.items) c.requires.header c.counted.ensures found c.loop-k-test.true c.loop-k.invariant.names))
    c.in_err-name_on.ensures.fault))

pub loop-k-preserved : goal.loop-k-preserved
loop-k-preserved c =
    let words = c.args.lines.now in
    let h = c.args.header.now in
    let n = c.counted.result in
    let k = c.loop-k.k in
    let found = symbols_read words h n c.symbol_count-many.result c.counted.ensures c.requires.within c.symbol_count-many.ensures.count c.symbol_count-many.ensures.within in
    let next : ((n + 1) + k) + 1 ≡ (n + 1) + (k + 1) = omega arith in
    record {
      lawful = subst (IsLawfulTo (texts words)) next (lawful_more (texts words) ((n + 1) + k) c.loop-k.invariant.lawful
          (place_fault words h n c.symbol_count-many.result k _ (maybe_texts c.loop-k.names.items) c.requires.header c.counted.ensures found c.loop-k-test.true c.loop-k.invariant.names
          ∙ c.in_ok-name_on.ensures.lawful));
      sized = c.in_ok-name_on.ensures.sized ∙ c.loop-k.invariant.sized;
      names = place_names words h n c.symbol_count-many.result k _ (maybe_texts c.loop-k.names.items) _ c.counted.ensures found c.loop-k-test.true c.loop-k.invariant.names c.in_ok-name_on.ensures.names;
    }

pub returns-clause-lawful : goal.returns-clause-lawful
returns-clause-lawful c =
    let words = c.args.lines.now in
    let h = c.args.header.now in
    let n = c.counted.result in
    let found = symbols_read words h n c.symbol_count-many.result c.counted.ensures c.requires.within c.symbol_count-many.ensures.count c.symbol_count-many.ensures.within in
    let end : (n + 1) + c.loop-k.k ≡ (1 + counted h) + c.symbol_count-many.result = omega (arith, c.counted.ensures, c.loop-k.auto.k-end, c.loop-k-test.false) in
    all_lawful (texts words) h c.symbol_count-many.result c.requires.header found (subst (IsLawfulTo (texts words)) end c.loop-k.invariant.lawful)

pub returns-clause-names : goal.returns-clause-names
returns-clause-names c =
    let words = c.args.lines.now in
    let h = c.args.header.now in
    let found = symbols_read words h c.counted.result c.symbol_count-many.result c.counted.ensures c.requires.within c.symbol_count-many.ensures.count c.symbol_count-many.ensures.within in
    let all : take c.loop-k.k (symbol_lines h (texts words)) ≡ symbol_lines h (texts words) = take_all c.loop-k.k (symbol_lines h (texts words)) (omega (arith, found.count, c.loop-k-test.false)) in
    c.loop-k.invariant.names ∙ ap (names_given h) all
