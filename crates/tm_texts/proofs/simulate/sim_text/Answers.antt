use Rattle.std.proofs.Common.{arith}
use Rattle.tm_texts.proofs.simulate.sim_text.Goals as goal

pub returns-clause-simulates : goal.returns-clause-simulates
returns-clause-simulates c =
    let product = rw (c.from.ensures, c.steps.ensures, c.outputs.ensures) at c.saturating_mul.ensures in record {
      circuit = c.in_ok-circuit.circuit;
      rows = c.in_ok-rows.rows.rows;
      has = record { of_text = c.in_ok-circuit.ensures.circuit; of_vectors = rw c.inputs.ensures at c.in_ok-rows.ensures.rows };
      meaning = c.in_ok-circuit.ensures.meaning;
      sound = c.in_ok-output.ensures.sound;
      few = omega (arith, product, c.if-saturating_mul-gt-OUTPUT_BYTES.false);
      outputs = c.in_ok-output.output.rows;
      output = c.in_ok-output.ensures.output;
      bytes_are = c.in_ok-write.ensures.text;
      steps_are = c.steps-2.ensures;
    }
