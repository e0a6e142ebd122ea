use Rattle.std.proofs.Common.{◌≡◌, ◌∷◌, [], ◌<◌, true, subst, sym, arith, length, map, codes, Result, Ok, Err, IfOk, OnOk}
use Rattle.blif_lex.specs.Spans.{nth_line}
use Rattle.blif_unit.specs.Unit.{model_of, telling_of}
use Rattle.blif_models.specs.Sections.{HasModels}
use Rattle.blif_models.specs.Statement.{is_model, keyword_in}
use Rattle.blif_models.proofs.SectionLemmas.{models_begun, models_unnamed}
use Rattle.blif_models.proofs.several.first_models.Goals as goal

both_ok : {X E : Type 0} (r : Result X E) (P : Type 0) (Q R : X → Type 0) → ((x : X) → P → Q x → R x) → OnOk r P → IfOk r Q → IfOk r R
both_ok (Ok x) P Q R f p q = f x p q
both_ok (Err e) P Q R f p q = tt

pub returns-then-end-gt0 : goal.returns-then-end-gt0
returns-then-end-gt0 c =
    both_ok c.top_model.result (c.top_model.new.names ≡ codes "top" ∷ [])
    (λ units. map model_of units.items ≡ record { name = codes "top"; line = 0; body = map telling_of c.args.body.items } ∷ [])
    (λ units. HasModels c.args.lines.now c.args.end c.top_model.new.names (map model_of units.items))
    (λ units p q. rw (p, q) (models_unnamed c.args.lines.now c.args.end (map telling_of c.args.body.items) c.requires.rows
    (λ some. c.requires.parts.begun (omega arith)) c.requires.head c.requires.parts))
    c.top_model.ensures.names c.top_model.ensures.units

pub returns-then-len-eq0 : goal.returns-then-len-eq0
returns-then-len-eq0 c =
    both_ok c.top_model-then-len-eq0.result (c.top_model-then-len-eq0.new.names ≡ codes "top" ∷ [])
    (λ units. map model_of units.items ≡ record { name = codes "top"; line = 0; body = map telling_of c.args.body.items } ∷ [])
    (λ units. HasModels c.args.lines.now c.args.end c.top_model-then-len-eq0.new.names (map model_of units.items))
    (λ units p q. rw (p, q) (models_unnamed c.args.lines.now c.args.end (map telling_of c.args.body.items) c.requires.rows
    (λ some. absurd (omega (arith, some))) c.requires.head c.requires.parts))
    c.top_model-then-len-eq0.ensures.names c.top_model-then-len-eq0.ensures.units

pub returns : goal.returns
returns c =
    let zero : c.args.end ≡ 0 = omega arith in
    let some : 0 < length c.args.lines.now = omega (arith, c.if-len-eq0.false) in
    let model : is_model (keyword_in (nth_line c.args.lines.now 0)) ≡ true
    = subst (λ n. is_model (keyword_in (nth_line c.args.lines.now n)) ≡ true) zero (c.requires.parts.stop (omega arith)) in
    rw (c.new.ensures.items, c.requires.fresh)
    (subst (λ n. HasModels c.args.lines.now n [] []) (sym zero) (models_begun c.args.lines.now c.requires.rows some model))
