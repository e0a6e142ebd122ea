-- Each table is taken in.
use Rattle.std.proofs.Common.{◌≡◌, ◌+◌, ◌<◌, None, Option, ℕ, List, [], rules, map, length, replicate, set, take, ap, sym, ◌∙◌, subst, arith}
use Rattle.std.proofs.lemmas.List.{take_all, length-set, with_items_is}
use Rattle.tm_unroll.specs.declared.node.Lut.{Lut}
use Rattle.tm_unroll.specs.Mappings.{Table, table_of}
use Rattle.std.specs.Prelude.{slice_index_or}
use Rattle.tm_unroll.specs.Lookups.{greater_lag, AreGreatestLags}
use Rattle.tm_unroll.proofs.LookupLemmas.{lags_none, lags_add, tables_more}
use Rattle.tm_unroll.proofs.lookup.greatest_lags.Goals as goal

pub loop-lut-init : goal.loop-lut-init
loop-lut-init c =
    let is : c.in_ok-lags.lags.items ≡ replicate c.args.signals None = c.in_ok-lags.ensures.items_if_clones_equal (λ y clone. search rules) in
    subst (λ (l : List (Option ℕ)). AreGreatestLags c.args.signals [] l) (sym is) (lags_none c.args.signals)

pub loop-lut-preserved : goal.loop-lut-preserved
loop-lut-preserved c =
    let within : c.loop-lut.lut-index < length c.args.luts.now = omega arith in
    let sized : length c.add_table.new.lags ≡ c.loop-lut.lags.len =
    ap length c.add_table.ensures ∙ length-set c.deref_mut.result.now c.lut-item.result.gate _ ∙ ap length c.deref_mut.ensures.value ∙ sym c.loop-lut.lags.ok.0 in
    let kept = with_items_is c.loop-lut.lags c.add_table.new.lags sized in
    let grown = c.add_table.ensures ∙ ap (λ (l : List (Option ℕ)). set l c.lut-item.result.gate (greater_lag (slice_index_or l c.lut-item.result.gate None) c.lut-item.result.lag)) c.deref_mut.ensures.value in
    let more = tables_more c.args.luts.now c.loop-lut.lut-index c.lut-item.result within c.lut-item.is in
    subst (λ (l : List (Option ℕ)). AreGreatestLags c.args.signals (map table_of (take (c.loop-lut.lut-index + 1) c.args.luts.now)) l) (sym kept)
    (subst (λ (ts : List Table). AreGreatestLags c.args.signals ts c.add_table.new.lags) (sym more)
    (lags_add c.args.signals (map table_of (take c.loop-lut.lut-index c.args.luts.now)) c.loop-lut.lags.items c.add_table.new.lags (table_of c.lut-item.result) c.loop-lut.invariant grown))

pub returns : goal.returns
returns c =
    subst (λ (l : List Lut). AreGreatestLags c.args.signals (map table_of l) c.loop-lut.lags.items) (take_all c.loop-lut.lut-index c.args.luts.now (omega (arith, c.loop-lut-test.false)))
    c.loop-lut.invariant
