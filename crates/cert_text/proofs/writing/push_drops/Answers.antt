-- The walks of each drop can be spelled.
use Rattle.tm_replay.specs.Replays.{Drop, drop_of}
use Rattle.cert_text.specs.Certificates.{HasSpellingWalks}
use Rattle.cert_text.proofs.Lists.{seen_at}
use Rattle.cert_text.proofs.writing.push_drops.Goals as goal

pub push_drop-requires : goal.push_drop-requires
push_drop-requires c =
    seen_at (λ (d : Drop). HasSpellingWalks d.walks) drop_of c.args.drops.now c.loop-drop.drop-index c.drop-item.result c.requires c.loop-drop-test.true c.drop-item.is
