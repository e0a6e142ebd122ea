-- The bits are loaded, settled, and handed on: one step of the trace.
use Rattle.std.proofs.Common.{◌≡◌, ◌+◌, List, Bool, [], ◌∷◌, ◌++◌, map, take, length, sym, ap, ◌∙◌, subst, arith}
use Rattle.std.specs.Vec.{with_items}
use Rattle.std.proofs.lemmas.List.{with_items_is}
use Rattle.tm_circuit.specs.Plain.{input_count}
use Rattle.tm_sim.specs.Machine.{State, StandsAfter, ShowsLast}
use Rattle.tm_sim.specs.Settled.{bit_of, Settles, next_bits}
use Rattle.tm_sim.proofs.StepLemmas.{latches-inside, step-shows, step-stands}
use Rattle.tm_sim.proofs.machine.Machine.step.Goals as goal

pub load-requires : goal.load-requires
load-requires c =
    let circuit = c.self.inside.circuit.now in
    omega (arith, latches-inside circuit, ap (λ m. input_count m.circuit.drives) c.self.view_is, ap length c.deref.ensures.value, ap length c.deref_mut.ensures.value)

pub returns-clause-outputs : goal.returns-clause-outputs
returns-clause-outputs c =
    let circuit = c.self.inside.circuit.now in
    let values = c.self.inside.values in
    let latches = c.self.inside.latches.items in
    let before = c.load.new.values in
    let after = c.settle.new.values in
    let inputs = c.args.inputs.now in
    let before_is : c.deref_mut-2.result.now ≡ before =
    c.deref_mut-2.ensures.value ∙ with_items_is values before (omega (arith, c.load.auto.values, c.deref_mut.ensures.len)) in
    let after_is : c.deref-2.result.now ≡ after =
    c.deref-2.ensures.value
    ∙ with_items_is (with_items values before) after (omega (arith, c.settle.auto.values, ap length before_is, c.load.auto.values, c.deref_mut.ensures.len)) in
    let loaded : take (length inputs + length latches) before ≡ inputs ++ latches =
    subst (λ (bits : List Bool). take (length inputs + length bits) before ≡ inputs ++ bits) c.deref.ensures.value c.load.ensures in
    let settles : Settles circuit before after = subst (λ (bits : List Bool). Settles circuit bits after) before_is c.settle.ensures in
    let wide : length inputs ≡ input_count circuit.drives = c.requires.inputs ∙ sym (ap (λ m. input_count m.circuit.drives) c.self.view_is) in
    let written : c.gather.new.bits ≡ map (bit_of after) circuit.outputs =
    c.gather.ensures ∙ ap (λ (bits : List Bool). map (bit_of bits) c.outputs.result.now) after_is ∙ ap (map (bit_of after)) c.outputs.ensures in
    λ rows stands.
    let stood : StandsAfter (record { circuit = circuit; latches = latches }) rows = subst (λ (m : State). StandsAfter m rows) (sym c.self.view_is) stands in
    let shows = step-shows circuit c.self.invariant.sound rows inputs latches before after stood wide loaded settles in
    subst (λ (m : State). ShowsLast m.circuit rows inputs c.gather.new.bits) c.self.view_is (subst (λ (bits : List Bool). ShowsLast circuit rows inputs bits) (sym written) shows)

pub returns-clause-stands : goal.returns-clause-stands
returns-clause-stands c =
    let circuit = c.self.inside.circuit.now in
    let values = c.self.inside.values in
    let latches = c.self.inside.latches.items in
    let before = c.load.new.values in
    let after = c.settle.new.values in
    let inputs = c.args.inputs.now in
    let before_is : c.deref_mut-2.result.now ≡ before =
    c.deref_mut-2.ensures.value ∙ with_items_is values before (omega (arith, c.load.auto.values, c.deref_mut.ensures.len)) in
    let after_is : c.deref-3.result.now ≡ after =
    c.deref-3.ensures.value
    ∙ with_items_is (with_items values before) after (omega (arith, c.settle.auto.values, ap length before_is, c.load.auto.values, c.deref_mut.ensures.len)) in
    let loaded : take (length inputs + length latches) before ≡ inputs ++ latches =
    subst (λ (bits : List Bool). take (length inputs + length bits) before ≡ inputs ++ bits) c.deref.ensures.value c.load.ensures in
    let settles : Settles circuit before after = subst (λ (bits : List Bool). Settles circuit bits after) before_is c.settle.ensures in
    let wide : length inputs ≡ input_count circuit.drives = c.requires.inputs ∙ sym (ap (λ m. input_count m.circuit.drives) c.self.view_is) in
    let taken : (with_items c.self.inside.latches c.advance.new.latches).items ≡ next_bits circuit (bit_of after) =
    with_items_is c.self.inside.latches c.advance.new.latches (omega (arith, c.advance.auto.latches, c.deref_mut-4.ensures.len))
    ∙ c.advance.ensures ∙ ap (λ (bits : List Bool). next_bits circuit (bit_of bits)) after_is in
    λ rows stands.
    let stood : StandsAfter (record { circuit = circuit; latches = latches }) rows = subst (λ (m : State). StandsAfter m rows) (sym c.self.view_is) stands in
    subst (λ (bits : List Bool). StandsAfter (record { circuit = circuit; latches = bits }) (rows ++ inputs ∷ [])) (sym taken) (step-stands circuit c.self.invariant.sound rows inputs latches before after stood wide loaded settles)
