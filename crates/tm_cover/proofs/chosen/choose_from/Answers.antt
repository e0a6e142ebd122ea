-- The wanted gates of a settling have labels and cuts, so that their tables are a lawful mapping.
use Rattle.std.proofs.lemmas.Result.{IfOk-weaker}
use Rattle.tm_unroll.specs.declared.node.Mapping.{Mapping}
use Rattle.tm_unroll.specs.Latches.{need_of}
use Rattle.tm_unroll.specs.Mappings.{tables_of, IsLawfulFrom}
use Rattle.tm_unroll.specs.Chains.{HasChainsWithin}
use Rattle.tm_cover.specs.Chosen.{AreChosen}
use Rattle.tm_cover.proofs.TableLemmas.{wanted_signals, wanted_labelled, chosen_lawful, chosen_within}
use Rattle.tm_cover.proofs.chosen.choose_from.Goals as goal

pub wanted_gates-requires-clause-signals : goal.wanted_gates-requires-clause-signals
wanted_gates-requires-clause-signals c =
    wanted_signals c.args.base (need_of c.args.base c.args.circuit.now) c.args.circuit.now c.args.k c.args.d c.args.settled.now c.signals-sound.ensures.sound c.requires.settled c.requires.labelled

pub tables-requires-clause-labelled : goal.tables-requires-clause-labelled
tables-requires-clause-labelled c =
    wanted_labelled c.args.base (need_of c.args.base c.args.circuit.now) c.args.circuit.now c.args.k c.args.d c.args.settled.now c.signals-sound.ensures.sound c.requires.settled c.requires.labelled

pub returns-clause-lawful : goal.returns-clause-lawful
returns-clause-lawful c =
    IfOk-weaker c.tables.result (λ (m : Mapping). AreChosen c.args.circuit.now c.args.settled.now (tables_of m))
    (λ (m : Mapping). IsLawfulFrom c.args.base (need_of c.args.base c.args.circuit.now) c.args.circuit.now c.args.k c.args.d (tables_of m))
    (λ m chosen. chosen_lawful c.args.base (need_of c.args.base c.args.circuit.now) c.args.circuit.now c.args.k c.args.d c.args.settled.now c.signals-sound.ensures.sound c.requires.settled c.requires.labelled (tables_of m) chosen)
    c.tables.ensures

pub returns-clause-within : goal.returns-clause-within
returns-clause-within c =
    IfOk-weaker c.tables.result (λ (m : Mapping). AreChosen c.args.circuit.now c.args.settled.now (tables_of m))
    (λ (m : Mapping). HasChainsWithin (tables_of m) c.args.settled.now.target)
    (λ m chosen. chosen_within c.args.base (need_of c.args.base c.args.circuit.now) c.args.circuit.now c.args.k c.args.d c.args.settled.now c.signals-sound.ensures.sound c.requires.settled c.requires.labelled (tables_of m) chosen)
    c.tables.ensures
