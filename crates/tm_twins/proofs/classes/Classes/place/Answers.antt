use Rattle.std.proofs.Common.{◌≡◌, ◌<◌, ◌∙◌, ap, length, arith}
use Rattle.tm_circuit.specs.Plain.{drive_of, drive_in, latch}
use Rattle.tm_twins.proofs.ClassLemmas.{next_within, class_within, place_keeps}
use Rattle.tm_twins.proofs.classes.Classes.place.Goals as goal

pub index-class-requires : goal.index-class-requires
index-class-requires c =
    let drive : drive_in c.args.circuit.now.drives c.args.latch ≡ latch c.in-Latch.next c.in-Latch.init = c.driver.ensures.drive ∙ ap drive_of c.in-Latch.is in
    let within : c.in-Latch.next < length c.args.circuit.now.drives =
    next_within c.args.circuit.now.drives c.args.self.now.known.items c.args.latch c.in-Latch.next c.in-Latch.init drive c.requires.leads in
    omega (arith, c.next.view_is, c.requires.gathers.heads_sized)

pub index_mut-firsts-requires : goal.index_mut-firsts-requires
index_mut-firsts-requires c =
    let drive : drive_in c.args.circuit.now.drives c.args.latch ≡ latch c.in-Latch.next c.in-Latch.init = c.driver.ensures.drive ∙ ap drive_of c.in-Latch.is in
    let within : c.in-Latch.next < length c.args.circuit.now.drives =
    next_within c.args.circuit.now.drives c.args.self.now.known.items c.args.latch c.in-Latch.next c.in-Latch.init drive c.requires.leads in
    let inside = class_within c.args.circuit.now.drives c.args.self.now.known.items c.args.self.now.heads.items c.args.self.now.firsts.items _ c.in-Latch.next c.index-class.result.now
    c.requires.gathers within c.next.view_is c.index-class.ensures in
    omega (arith, c.class.view_is, inside)

pub returns-clause-gathers : goal.returns-clause-gathers
returns-clause-gathers c =
    place_keeps c.args.circuit.now.drives c.args.self.now.known.items c.args.self.now.heads.items c.args.self.now.firsts.items _ _ _ c.args.latch c.in-Latch.next
    c.index-class.result.now c.first_or.result c.in-Latch.init c.index_mut-firsts.result.now c.first_or.new.self c.requires.gathers c.requires.leads
    (c.driver.ensures.drive ∙ ap drive_of c.in-Latch.is) c.latch.view_is c.next.view_is c.class.view_is c.index-class.ensures c.index_mut-firsts.ensures.value
    c.first_or.ensures.first c.first_or.ensures.new
