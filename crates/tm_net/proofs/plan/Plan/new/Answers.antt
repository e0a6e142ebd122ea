-- what a plan keeps
use Rattle.std.proofs.Common.{◌≡◌, ◌≤◌, map, sym, subst, arith}
use Rattle.std.specs.Prelude.{Contains}
use Rattle.tm_init.specs.Starts.{AreFirstSteps}
use Rattle.tm_unroll.specs.Mappings.{Table, table_of}
use Rattle.tm_net.proofs.EndLemmas.{lags_near, lags_below}
use Rattle.tm_net.proofs.MakeLemmas.{layout_fits}
use Rattle.tm_net.proofs.plan.Plan.new.Goals as goal

pub greatest_lag-requires : goal.greatest_lag-requires
greatest_lag-requires c = λ k d inside. lags_near c.args.circuit.now c.args.luts.now c.requires k d inside

pub returns : goal.returns
returns c =
    let starts = c.in_ok-starts.starts in
    let first : AreFirstSteps c.args.circuit.now c.greatest_lag.result starts = c.in_ok-starts.ensures.first in
    let steps : starts.steps ≡ c.greatest_lag.result = first.steps in
    let lags : (t : Table) → Contains (map table_of c.args.luts.now) t → t.lag ≤ starts.steps = λ t stands.
    subst (λ n. t.lag ≤ n) (sym steps) (lags_below c.args.luts.now c.greatest_lag.result c.greatest_lag.ensures.greatest t stands) in
    record {
      layout = c.in_ok-layout.ensures;
      fits = record {
        layout = layout_fits c.args.circuit.now (map table_of c.args.luts.now) c.in_ok-layout.layout starts.steps c.signals-sound.ensures.sound c.requires c.in_ok-layout.ensures
            (let near = c.greatest_lag.ensures.near in omega (arith, steps, near)) lags;
        joiner = c.in_ok-joiner.ensures;
        starts = first.signals;
      };
      first = subst (λ n. AreFirstSteps c.args.circuit.now n starts) (sym steps) first;
      lags = lags;
    }
