use Rattle.std.proofs.Common.{length, Some, sym, ◌∙◌}
use Rattle.std.proofs.lemmas.Bool.{eqb-true}
use Rattle.aiger_read.specs.Symbols.{symbol_in}
use Rattle.aiger_read.specs.Steps.{maybe_texts}
use Rattle.aiger_read.proofs.SymbolLemmas.{symbol_none, with_none, with_some, texts-set}
use Rattle.aiger_read.proofs.symbols.name_on.Goals as goal

pub returns-then-is_empty-clause-names : goal.returns-then-is_empty-clause-names
returns-then-is_empty-clause-names c =
    sym (with_none (maybe_texts c.args.names.now.items) (symbol_in c.args.header.now c.args.text.now)
    (symbol_none c.args.header.now c.args.text.now (eqb-true (length c.args.text.now) 0 (sym c.is_empty.ensures ∙ c.if-is_empty.true))))

pub returns-clause-names : goal.returns-clause-names
returns-clause-names c =
    let named = with_some (maybe_texts c.args.names.now.items) (symbol_in c.args.header.now c.args.text.now) c.in-Some.slot c.in-Some.name.now c.in-Some.ensures.some in
    let seen = texts-set c.args.names.now.items c.in-Some.slot (Some c.in-Some.name) in
    cc
