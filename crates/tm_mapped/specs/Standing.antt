-- Where the needed nodes of a mapping stand in its mapped circuit.
use Rattle.std.specs.Prelude.{◌≡◌, ◌≢◌, ◌⊎◌, ◌<◌, List, length, Contains, AllPairs}
use Rattle.tm_circuit.specs.Plain.{Plain, Drive, input, latch, gate, drive}
use Rattle.tm_unroll.specs.declared.node.Node.{Node}
use Rattle.tm_unroll.specs.Mappings.{Table, root}
use Rattle.tm_mapped.specs.Needed.{IsRegister}

-- Some table has the node as its root.
abbrev pub IsRoot : List Table → Node → Type 0
IsRoot tables x = (t : Table) × Contains tables t × (root t ≡ x)

-- What a node of the mapped circuit is, by the drive of its signal: an input at advance 0, the register of a latch, or the
-- register or the root of a gate.
abbrev pub IsPlaceOf : Drive → Plain → List Table → Node → Type 0
IsPlaceOf input c tables x = x.advance ≡ 0
IsPlaceOf (latch next init) c tables x = IsRegister c tables x
IsPlaceOf (gate pins cover) c tables x = IsRegister c tables x ⊎ IsRoot tables x

-- The node has a place in the mapped circuit, and its signal is one of the circuit.
pub record HasPlace (c : Plain) (tables : List Table) (x : Node) : Type 0 where
  pub signal : x.signal < length c.drives
  pub place : IsPlaceOf (drive c x.signal) c tables x

-- No node stands twice in a list.
abbrev pub AreDistinct : List Node → Type 0
AreDistinct nodes = AllPairs (λ x y. x ≢ y) nodes
