use Rattle.std.proofs.Common.{◌≡◌, ◌+◌, ◌∙◌, List, ℕ, length, map, sum, sym, subst, ap}
use Rattle.std.proofs.lemmas.List.{take-map}
use Rattle.std.proofs.lemmas.Result.{err_from_is_err_and}
use Rattle.blif_flat.specs.Around.{renamed, context_of}
use Rattle.blif_flat.specs.Size.{bytes_of}
use Rattle.blif_flat.proofs.PlanLemmas.{seen_at}
use Rattle.blif_flat.proofs.SizeLemmas.{still_large, unpaid}
use Rattle.blif_flat.proofs.size.spend_names.Goals as goal

pub returns-in_err-left : goal.returns-in_err-left
returns-in_err-left c =
    let p = err_from_is_err_and c.from_residual-in_err-left.result c.from_residual-in_err-left.ensures.1 in
    let seen = seen_at (renamed (context_of c.args.joiner.now c.args.around.now)) c.args.names.now c.loop-name.name-index c.name-item.result c.loop-name-test.true c.name-item.is in
    let so_far = subst (λ ns. c.loop-name.left + sum (map (λ (x : List ℕ). length x) ns) ≡ c.args.room) (sym (take-map (renamed (context_of c.args.joiner.now c.args.around.now)) c.loop-name.name-index c.args.names.now)) c.loop-name.invariant in
    rw (p.1, p.2) (still_large _ c.loop-name.left c.args.room (length c.bytes-in-loop-name-2.result.now) (bytes_of (map (renamed (context_of c.args.joiner.now c.args.around.now)) c.args.names.now)) c.in_err-left.ensures
    (λ less. unpaid (λ (x : List ℕ). length x) (map (renamed (context_of c.args.joiner.now c.args.around.now)) c.args.names.now) c.loop-name.name-index (renamed (context_of c.args.joiner.now c.args.around.now) c.name-item.result)
    c.args.room c.loop-name.left (length c.bytes-in-loop-name-2.result.now) seen.0 seen.1
    (ap (λ (x : List ℕ). length x) (c.bytes-in-loop-name-2.ensures ∙ c.in_ok-name_in.ensures ∙ ap (renamed (context_of c.args.joiner.now c.args.around.now)) c.bytes.ensures)) so_far less))
