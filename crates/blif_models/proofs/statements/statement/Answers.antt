use Rattle.std.proofs.Common.{◌≡◌, ◌≢◌, ◌∙◌, ◌+◌, ◌-◌, ap, sym, arith, length, drop, take, None, slice_range, vec_len}
use Rattle.std.proofs.lemmas.Result.{err_from_is_err_and}
use Rattle.blif_lex.specs.Spans.{nth_line}
use Rattle.blif_models.specs.declared.keyword.Keyword.TheVariants.{Names}
use Rattle.blif_models.specs.Keyword.{keyword_at}
use Rattle.blif_models.specs.Statement.{keyword_in, further, but_last, fault_in_head}
use Rattle.blif_models.specs.Words.{texts, earlier_of, block_at}
use Rattle.blif_models.proofs.BlockLemmas.{keyword_read, further_read, before_last, head_faulty, rows_faulty, misplaced_after, lawful_gate, lawful_plain, told_plain, range_none, range_some}
use Rattle.blif_models.proofs.statements.statement.Goals as goal

pub returns-in_err-pins-in-Names-clause-fault : goal.returns-in_err-pins-in-Names-clause-fault
returns-in_err-pins-in-Names-clause-fault c =
    let head = nth_line c.args.lines.now c.args.line in
    let kind : keyword_in head ≡ Names = sym (c.keyword_of.ensures ∙ ap keyword_at c.word.ensures ∙ keyword_read head c.words-words.result.now c.words-words.ensures.words) ∙ c.in-Names.is in
    let rest : texts (take (length c.words-words.result.now - 1) (drop 1 c.words-words.result.now)) ≡ further head = further_read head c.words-words.result.now c.words-words.ensures.words in
    let p = err_from_is_err_and c.from_residual.result c.from_residual.ensures.1 in
    rw (p.1, p.2) (head_faulty _ (earlier_of c.args.seen.now) (block_at c.args.lines.now c.args.line c.args.end)
    (rw (kind, ← rest, ← c.number-number.ensures) c.in_err-pins-in-Names.ensures.fault))

pub returns-in_err-cover-in-Names-clause-fault : goal.returns-in_err-cover-in-Names-clause-fault
returns-in_err-cover-in-Names-clause-fault c =
    let head = nth_line c.args.lines.now c.args.line in
    let kind : keyword_in head ≡ Names = sym (c.keyword_of.ensures ∙ ap keyword_at c.word.ensures ∙ keyword_read head c.words-words.result.now c.words-words.ensures.words) ∙ c.in-Names.is in
    let rest : texts (take (length c.words-words.result.now - 1) (drop 1 c.words-words.result.now)) ≡ further head = further_read head c.words-words.result.now c.words-words.ensures.words in
    let lawful : fault_in_head (keyword_in head) (earlier_of c.args.seen.now) (further head) ≡ None = rw (kind, ← rest) c.in_ok-pins-in-Names.ensures.lawful in
    let sized : vec_len c.in_ok-pins-in-Names.pins ≡ length c.in_ok-pins-in-Names.pins.items = omega (arith, c.in_ok-pins-in-Names.pins.ok.0) in
    let pins : c.len.result ≡ length (further head) - 1
    = c.len.ensures ∙ sized ∙ ap length c.in_ok-pins-in-Names.ensures.pins ∙ ap (λ ws. length (but_last ws)) rest ∙ before_last (further head) in
    let p = err_from_is_err_and c.from_residual-in_err-cover-in-Names.result c.from_residual-in_err-cover-in-Names.ensures.1 in
    rw (p.1, p.2) (rows_faulty _ (earlier_of c.args.seen.now) (block_at c.args.lines.now c.args.line c.args.end) lawful kind
    (rw (← pins) c.in_err-cover-in-Names.ensures.fault))

pub returns-in_err-said-in_default : goal.returns-in_err-said-in_default
returns-in_err-said-in_default c =
    let head = nth_line c.args.lines.now c.args.line in
    let kind : keyword_in head ≡ c.keyword_of.result = sym (c.keyword_of.ensures ∙ ap keyword_at c.word.ensures ∙ keyword_read head c.words-words.result.now c.words-words.ensures.words) in
    let rest : texts (take (length c.words-words.result.now - 1) (drop 1 c.words-words.result.now)) ≡ further head = further_read head c.words-words.result.now c.words-words.ensures.words in
    let p = err_from_is_err_and c.from_residual-in_err-said-in_default.result c.from_residual-in_err-said-in_default.ensures.1 in
    rw (p.1, p.2) record {
      lawful = tt;
      seen = tt;
      told = tt;
      name = tt;
      fault = head_faulty _ (earlier_of c.args.seen.now) (block_at c.args.lines.now c.args.line c.args.end)
          (rw (kind, ← rest, ← c.number-number.ensures) c.in_err-said-in_default.ensures.fault);
    }

pub returns-then-line-end : goal.returns-then-line-end
returns-then-line-end c =
    let head = nth_line c.args.lines.now c.args.line in
    let kind : keyword_in head ≡ c.keyword_of.result = sym (c.keyword_of.ensures ∙ ap keyword_at c.word.ensures ∙ keyword_read head c.words-words.result.now c.words-words.ensures.words) in
    let rest : texts (take (length c.words-words.result.now - 1) (drop 1 c.words-words.result.now)) ≡ further head = further_read head c.words-words.result.now c.words-words.ensures.words in
    let lawful : fault_in_head (keyword_in head) (earlier_of c.args.seen.now) (further head) ≡ None = rw (kind, ← rest) c.in_ok-said-in_default.ensures.lawful in
    let plain : keyword_in head ≢ Names = λ e. c.in_default.not-Names (sym kind ∙ e) in
    record {
      lawful = tt;
      seen = tt;
      told = tt;
      name = tt;
      fault = rw (c.at.ensures, c.number.ensures) (misplaced_after (earlier_of c.args.seen.now) (block_at c.args.lines.now c.args.line c.args.end) _ _ lawful plain
          (range_some c.args.lines.now (c.args.line + 1) c.args.end (omega arith) c.requires.within));
    }

pub returns-in_ok-cover-in-Names-clause-lawful : goal.returns-in_ok-cover-in-Names-clause-lawful
returns-in_ok-cover-in-Names-clause-lawful c =
    let head = nth_line c.args.lines.now c.args.line in
    let kind : keyword_in head ≡ Names = sym (c.keyword_of.ensures ∙ ap keyword_at c.word.ensures ∙ keyword_read head c.words-words.result.now c.words-words.ensures.words) ∙ c.in-Names.is in
    let rest : texts (take (length c.words-words.result.now - 1) (drop 1 c.words-words.result.now)) ≡ further head = further_read head c.words-words.result.now c.words-words.ensures.words in
    let lawful : fault_in_head (keyword_in head) (earlier_of c.args.seen.now) (further head) ≡ None = rw (kind, ← rest) c.in_ok-pins-in-Names.ensures.lawful in
    let sized : vec_len c.in_ok-pins-in-Names.pins ≡ length c.in_ok-pins-in-Names.pins.items = omega (arith, c.in_ok-pins-in-Names.pins.ok.0) in
    let pins : c.len.result ≡ length (further head) - 1
    = c.len.ensures ∙ sized ∙ ap length c.in_ok-pins-in-Names.ensures.pins ∙ ap (λ ws. length (but_last ws)) rest ∙ before_last (further head) in
    lawful_gate (earlier_of c.args.seen.now) (block_at c.args.lines.now c.args.line c.args.end) lawful kind (rw (← pins) c.in_ok-cover-in-Names.ensures.lawful)

pub returns-else-line-end : goal.returns-else-line-end
returns-else-line-end c =
    let head = nth_line c.args.lines.now c.args.line in
    let kind : keyword_in head ≡ c.keyword_of.result = sym (c.keyword_of.ensures ∙ ap keyword_at c.word.ensures ∙ keyword_read head c.words-words.result.now c.words-words.ensures.words) in
    let rest : texts (take (length c.words-words.result.now - 1) (drop 1 c.words-words.result.now)) ≡ further head = further_read head c.words-words.result.now c.words-words.ensures.words in
    let lawful : fault_in_head (keyword_in head) (earlier_of c.args.seen.now) (further head) ≡ None = rw (kind, ← rest) c.in_ok-said-in_default.ensures.lawful in
    let plain : keyword_in head ≢ Names = λ e. c.in_default.not-Names (sym kind ∙ e) in
    let none : slice_range c.args.lines.now (c.args.line + 1) c.args.end ≡ _ = range_none c.args.lines.now (c.args.line + 1) c.args.end (omega arith) in
    record {
      lawful = lawful_plain (earlier_of c.args.seen.now) (block_at c.args.lines.now c.args.line c.args.end) lawful plain none;
      seen = rw (kind, ← rest) c.in_ok-said-in_default.ensures.seen;
      told = rw (← told_plain (keyword_in head) (further head) (slice_range c.args.lines.now (c.args.line + 1) c.args.end) plain) (rw (kind, ← rest) c.in_ok-said-in_default.ensures.told);
      name = rw (kind, ← rest) c.in_ok-said-in_default.ensures.name;
      fault = tt;
    }
