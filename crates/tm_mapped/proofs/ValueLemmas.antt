-- Rules for covers: from one rule to a weaker one.
use Rattle.std.proofs.Common.{ℕ, List, true, length, sym, subst}
use Rattle.tm_bits.specs.Rows.{Rows, holds}
use Rattle.tm_bits.specs.Tables.{minterms, AreValuesAt}
use Rattle.tm_bits.proofs.Minterms.{minterms_table}
use Rattle.tm_bits.proofs.RowNumbers.{values_at_bits}
use Rattle.tm_circuit.specs.Plain.{Plain, Drive, drive}
use Rattle.tm_unroll.specs.declared.node.Node.{Node}
use Rattle.tm_unroll.specs.Mappings.{Table}
use Rattle.tm_mapped.specs.Mapped.{CoverRule, BySingleRows, ByValues, IsTableDrive, IsMappedBy, IsMapped}
use Rattle.tm_mapped.specs.Needed.{nodes_of}

table_by : (Covers Others : CoverRule) → ((inputs : ℕ) (words : List ℕ) (cover : Rows) → Covers inputs words cover → Others inputs words cover)
    → (c : Plain) (nodes : List Node) (t : Table) (d : Drive) → IsTableDrive Covers c nodes t d → IsTableDrive Others c nodes t d
table_by Covers Others weaker c nodes t d driven = record {
  pins = driven.pins;
  cover = driven.cover;
  words = driven.words;
  is = driven.is;
  leaves = driven.leaves;
  function = driven.function;
  covers = weaker (length t.leaves) driven.words driven.cover driven.covers;
}

-- A mapped circuit by a rule is one by each weaker rule.
pub mapped_by : (Covers Others : CoverRule) → ((inputs : ℕ) (words : List ℕ) (cover : Rows) → Covers inputs words cover → Others inputs words cover)
    → (c : Plain) (tables : List Table) (mapped : Plain) → IsMappedBy Covers c tables mapped → IsMappedBy Others c tables mapped
mapped_by Covers Others weaker c tables mapped by = record {
  registers = by.registers;
  are = by.are;
  model = by.model;
  clock = by.clock;
  names = by.names;
  signals = by.signals;
  inputs = by.inputs;
  latches = by.latches;
  gates = λ i t stands at. table_by Covers Others weaker c (nodes_of c by.registers tables) t (drive mapped i) (by.gates i t stands at);
  outputs = by.outputs;
}

pub single_values : (inputs : ℕ) (words : List ℕ) (cover : Rows) → BySingleRows inputs words cover → ByValues inputs words cover
single_values inputs words cover is =
    let on : Rows = record { on = true; rows = minterms inputs words } in
    subst (λ (made : Rows). AreValuesAt (holds made) inputs words) (sym is) (values_at_bits (holds on) inputs words (minterms_table inputs words))

pub single_by_values : (c : Plain) (tables : List Table) (mapped : Plain) → IsMapped c tables mapped → IsMappedBy ByValues c tables mapped
single_by_values c tables mapped by = mapped_by BySingleRows ByValues single_values c tables mapped by
