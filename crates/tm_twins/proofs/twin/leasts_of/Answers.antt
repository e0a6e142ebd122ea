use Rattle.std.proofs.Common.{rules, ◌≡◌, ◌<◌, ◌∙◌, None, replicate, length, ap, sym, subst, arith}
use Rattle.std.proofs.lemmas.List.{length-replicate, length-set, get_or_read}
use Rattle.tm_twins.specs.Classes.{head_in, AreLeast}
use Rattle.tm_twins.proofs.LeastLemmas.{HaveLeast, least_none, none_everywhere, least_next}
use Rattle.tm_twins.proofs.twin.leasts_of.Goals as goal

pub loop-s-init : goal.loop-s-init
loop-s-init c =
    let is : c.in_ok-firsts.firsts.items ≡ replicate (length c.args.heads.now) None = c.in_ok-firsts.ensures.items_if_clones_equal (λ y e. search rules) in
    record {
      sized = ap length is ∙ length-replicate (length c.args.heads.now) None;
      least = subst (λ xs. HaveLeast c.args.heads.now c.in_ok-firsts.firsts.items xs 0) (sym c.new-leasts.ensures.items)
          (least_none c.args.heads.now c.in_ok-firsts.firsts.items (λ h. none_everywhere (length c.args.heads.now) h c.in_ok-firsts.firsts.items is));
    }

pub index-requires : goal.index-requires
index-requires c =
    let within : c.loop-s.s < length c.args.heads.now = omega (arith, c.requires.sized, c.loop-s-test.true) in
    let class_is : c.index-heads-s.result ≡ head_in c.args.heads.now c.loop-s.s = get_or_read c.args.heads.now c.loop-s.s c.index-heads-s.result within c.index-heads-s.is c.loop-s.s in
    omega (arith, c.class.view_is, c.requires.within c.loop-s.s c.loop-s-test.true, c.requires.sized, c.loop-s.invariant.sized)

pub index_mut-requires : goal.index_mut-requires
index_mut-requires c =
    let within : c.loop-s.s < length c.args.heads.now = omega (arith, c.requires.sized, c.loop-s-test.true) in
    let class_is : c.index-heads-s.result ≡ head_in c.args.heads.now c.loop-s.s = get_or_read c.args.heads.now c.loop-s.s c.index-heads-s.result within c.index-heads-s.is c.loop-s.s in
    omega (arith, c.class.view_is, c.requires.within c.loop-s.s c.loop-s-test.true, c.requires.sized, c.loop-s.invariant.sized)

pub loop-s-preserved : goal.loop-s-preserved
loop-s-preserved c =
    let within : c.loop-s.s < length c.args.heads.now = omega (arith, c.requires.sized, c.loop-s-test.true) in
    let class_is : c.index-heads-s.result ≡ head_in c.args.heads.now c.loop-s.s = get_or_read c.args.heads.now c.loop-s.s c.index-heads-s.result within c.index-heads-s.is c.loop-s.s in
    let low = c.requires.within c.loop-s.s c.loop-s-test.true in
    record {
      sized = length-set c.loop-s.firsts.items _ _ ∙ c.loop-s.invariant.sized;
      least = least_next c.args.heads.now c.loop-s.firsts.items c.loop-s.leasts.items c.push.new.self.items c.loop-s.s _ c.index-heads-s.result c.unwrap_or-least.result c.index.result.now
          c.loop-s.invariant.least within c.index-heads-s.is c.class.view_is (omega (arith, c.class.view_is, c.requires.sized, c.loop-s.invariant.sized)) c.index.ensures c.unwrap_or-least.ensures c.in_ok-push.ensures.items;
    }

pub returns : goal.returns
returns c =
    let all : c.loop-s.s ≡ c.args.count = omega (arith, c.loop-s-test.false, c.loop-s.auto.s-end) in
    subst (λ n. AreLeast c.args.heads.now c.loop-s.leasts.items n) all c.loop-s.invariant.least.are
