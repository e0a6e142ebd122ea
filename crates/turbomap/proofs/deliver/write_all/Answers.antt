use Rattle.std.proofs.Common.{◌≡◌, ◌∙◌, List, refl, sym, subst, map, length, drop, suc, rules}
use Rattle.std.proofs.lemmas.List.{map-id}
use Rattle.std.proofs.lemmas.Iterator.Adapters.{YieldsList-from_vec}
use Rattle.std.proofs.lemmas.Iterator.Consumers.{YieldsList-turn, YieldsList-end}
use Rattle.turbomap.specs.declared.ready.Output.{Output}
use Rattle.turbomap.specs.Command.{stored, IsWritten}
use Rattle.turbomap.specs.Prepared.{seen}
use Rattle.turbomap.proofs.Lines.{ok_then, err_then}
use Rattle.turbomap.proofs.Writes.{before_writes, all_written, lost_one, lost_rose, cut_yielded, more_yielded, differs_at, line_at, one_output}
use Rattle.turbomap.proofs.deliver.write_all.Goals as goal

pub loop-output-init : goal.loop-output-init
loop-output-init g c = (search rules, search rules, before_writes _ _, refl)

pub loop-output-preserved : goal.loop-output-preserved
loop-output-preserved g c =
    let all = c.args.outputs.items in
    let yielded = c.loop-output.yielded in
    let output = c.in-Some.output in
    let gives = c.into_iter-output-iterator.ensures.into_iter_gives in
    let turn = YieldsList-turn (YieldsList-from_vec {s = c.into_iter-output-iterator.result} all gives.0 (gives.1 ∙ c.args.outputs.ok.0)) yielded c.loop-output.output-iterator c.loop-output.yielded_by c.next.result c.next.new.self output c.in-Some.is c.next.ensures.steps in
    let place : yielded ≡ _ = c.loop-output.invariant.3 in
    let are = cut_yielded all yielded output place turn.0 turn.1 in
    let differs = differs_at all yielded output (drop (suc (length yielded)) all) are c.requires.apart in (
      search rules,
      search rules,
      one_output _ _ _ _ _ _ yielded output c.loop-output.invariant.2 differs
          (ok_then c.write.result _ (sym c.is_err.ensures.value ∙ c.if-is_err.false) c.write.ensures.written) c.write.ensures.others c.write.ensures.tells c.write.ensures.write_counts,
      more_yielded all yielded output place turn.0 turn.1,
    )

pub returns-then-is_err-clause-unwritten : goal.returns-then-is_err-clause-unwritten
returns-then-is_err-clause-unwritten g c =
    let all = c.args.outputs.items in
    let yielded = c.loop-output.yielded in
    let output = c.in-Some.output in
    let gives = c.into_iter-output-iterator.ensures.into_iter_gives in
    let turn = YieldsList-turn (YieldsList-from_vec {s = c.into_iter-output-iterator.result} all gives.0 (gives.1 ∙ c.args.outputs.ok.0)) yielded c.loop-output.output-iterator c.loop-output.yielded_by c.next.result c.next.new.self output c.in-Some.is c.next.ensures.steps in
    let are = cut_yielded all yielded output c.loop-output.invariant.3 turn.0 turn.1 in
    let differs = differs_at all yielded output (drop (suc (length yielded)) all) are c.requires.apart in
    let s = stored g.S.Store.held g.S.Store.read_faults g.S.Store.write_faults c.args.store.now c.write.new.self in record {
      written = yielded;
      failed = output;
      unwritten = drop (suc (length yielded)) all;
      outputs_are = are;
      counted = lost_rose s _ _ (map seen yielded) output.name.now c.loop-output.invariant.2 (err_then c.write.result _ (sym c.is_err.ensures.value ∙ c.if-is_err.true) c.write.ensures.cause);
      changed = lost_one s _ _ (map seen yielded) output.name.now c.loop-output.invariant.2 differs c.write.ensures.others c.write.ensures.tells;
      line_is = line_at all yielded output (drop (suc (length yielded)) all) are c.requires.lines;
    }

pub returns-clause-written : goal.returns-clause-written
returns-clause-written g c =
    let all = c.args.outputs.items in
    let gives = c.into_iter-output-iterator.ensures.into_iter_gives in
    let end = YieldsList-end (YieldsList-from_vec {s = c.into_iter-output-iterator.result} all gives.0 (gives.1 ∙ c.args.outputs.ok.0)) c.loop-output.yielded c.loop-output.output-iterator c.loop-output.yielded_by c.next.result c.next.new.self c.in-None.is c.next.ensures.steps in
    subst (λ (outputs : List Output). IsWritten (map seen outputs) (g.S.Store.held c.args.store.now) (g.S.Store.held c.loop-output.store)) (sym (map-id c.loop-output.yielded) ∙ end.0)
    (all_written _ _ _ _ _ c.loop-output.invariant.2)
