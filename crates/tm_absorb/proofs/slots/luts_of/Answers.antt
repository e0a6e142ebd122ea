use Rattle.std.proofs.Common.{◌≡◌, List, Option, None, map, ◌++◌, ◌∷◌, [], ap, ◌∙◌, sym}
use Rattle.std.proofs.lemmas.List.{map_push}
use Rattle.tm_unroll.specs.declared.node.Lut.{Lut}
use Rattle.tm_unroll.specs.Mappings.{Table, table_of}
use Rattle.tm_absorb.specs.Slots.{present}
use Rattle.tm_absorb.proofs.SlotLemmas.{present-push, present-pad}
use Rattle.tm_absorb.proofs.slots.luts_of.Goals as goal

pub loop-slot-preserved-in-Continue-1 : goal.loop-slot-preserved-in-Continue-1
loop-slot-preserved-in-Continue-1 c =
    let lut = c.in-Some-slot.lut in
    rw (c.in-Some-slot.is, c.in_ok-push-in-Some-slot.ensures.items)
    (map_push table_of c.loop-slot.luts.items lut ∙ ap (λ (ts : List Table). ts ++ table_of lut ∷ []) c.loop-slot.invariant ∙ sym (present-push c.loop-slot.yielded lut))

pub loop-slot-preserved : goal.loop-slot-preserved
loop-slot-preserved c = rw c.in-None-slot.is (c.loop-slot.invariant ∙ sym (present-pad c.loop-slot.yielded))
