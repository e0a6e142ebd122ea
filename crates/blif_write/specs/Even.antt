-- Covers that have a spelling: the rows of a gate have one length, and rows that tell where the gate is 0 are not none.
use Rattle.tm_bits.specs.Rows.{IsEven}
use Rattle.tm_circuit.specs.Plain.{Drive, input, latch, gate}

abbrev pub IsEvenDrive : Drive → Type 0
IsEvenDrive input = Unit {0}
IsEvenDrive (latch next init) = Unit {0}
IsEvenDrive (gate pins cover) = IsEven cover
