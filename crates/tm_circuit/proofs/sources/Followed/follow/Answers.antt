-- The way goes on at a latch that was not met, and ends at what was met.
use Rattle.std.proofs.Common.{◌≡◌, map, length, refl, sym, ◌∙◌, ap}
use Rattle.std.proofs.lemmas.List.{with_items_is}
use Rattle.tm_circuit.specs.Plain.{drive_of}
use Rattle.tm_circuit.proofs.SourceLemmas.{way_turns, way_fits, way_settles}
use Rattle.tm_circuit.proofs.sources.Followed.follow.Goals as goal

pub loop-self-preserved : goal.loop-self-preserved
loop-self-preserved c =
    way_turns c.args.drivers.now c.args.self.now c.loop-self.self _ c.loop-self.path.items c.push.new.self.items _ _ c.loop-self.at c.one_step_back-at.result c.args.from
    c.index-drivers-at.result c.index.result.now c.loop-self.invariant c.requires.reads c.at.view_is c.index.ensures c.loop-self-test.true c.at-in-loop-self.view_is
    c.index-drivers-at.is refl refl c.in_ok-push.ensures.items c.one_step_back-at.ensures

pub set_all-requires : goal.set_all-requires
set_all-requires c =
    way_fits (map drive_of c.args.drivers.now) c.args.self.now c.loop-self.self _ _ c.loop-self.path.items c.loop-self.at c.args.from c.loop-self.invariant
    c.deref_mut.ensures.value c.deref.ensures.value

pub returns-clause-settled : goal.returns-clause-settled
returns-clause-settled c =
    let sized : length c.set_all.new.sources ≡ c.loop-self.self.sources.len =
    c.set_all.ensures.sized ∙ ap length c.deref_mut.ensures.value ∙ sym c.loop-self.self.sources.ok.0 in
    (way_settles (map drive_of c.args.drivers.now) c.args.self.now c.loop-self.self _ _ c.set_all.new.sources _ c.loop-self.path.items _ c.loop-self.at c.args.from
    c.index.result.now c.index-2.result.now c.loop-self.invariant c.at.view_is c.index.ensures c.loop-self-test.false c.index-2.ensures
    c.deref_mut.ensures.value c.deref.ensures.value refl (with_items_is c.loop-self.self.sources c.set_all.new.sources sized) c.set_all.ensures).0
