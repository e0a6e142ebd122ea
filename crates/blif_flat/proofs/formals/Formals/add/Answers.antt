use Rattle.std.proofs.Common.{◌∙◌, ◌++◌, [], List, ℕ, Bor, map, ap, sym}
use Rattle.std.proofs.lemmas.List.{append-nil}
use Rattle.blif_unit.specs.declared.unit.Statement.{Statement}
use Rattle.blif_unit.specs.Unit.{told_of, inputs_told}
use Rattle.blif_flat.specs.Places.{is_among, formals_told}
use Rattle.blif_flat.proofs.FormalLemmas.{on_ok}
use Rattle.blif_flat.proofs.formals.Formals.add.Goals as goal

pub returns-in_ok-insert_all-in-Inputs : goal.returns-in_ok-insert_all-in-Inputs
returns-in_ok-insert_all-in-Inputs c =
    let padded = c.deref.ensures.value ∙ sym (append-nil c.in-Inputs.names.items) ∙ sym (append-nil (c.in-Inputs.names.items ++ [])) in
    on_ok c.push_all.result _ _ (λ h. record {
      names = λ n. c.in_ok-insert_all-in-Inputs.ensures n ∙ ap (λ ns. is_among (c.args.self.now.names ++ ns) n) padded
          ∙ ap (λ (s : Statement). is_among (c.args.self.now.names ++ formals_told (told_of s)) n) (sym c.in-Inputs.is);
      inputs = h ∙ ap (λ ns. map (λ (x : Bor (List ℕ)). x.now) c.args.self.now.inputs.items ++ ns) (c.deref-in-Inputs.ensures.value ∙ ap (λ (s : Statement). inputs_told (told_of s)) (sym c.in-Inputs.is));
    }) c.push_all.ensures
