-- What is read can be written.
use Rattle.std.proofs.Common.{map, arith}
use Rattle.std.proofs.lemmas.List.{length-map}
use Rattle.std.proofs.lemmas.List.Elements.{All-weaker}
use Rattle.tm_unroll.specs.Mappings.{table_of}
use Rattle.tm_replay.specs.Replays.{Drop, drop_of}
use Rattle.cert_text.specs.Certificates.{HasSpellingDrop, HasSpellingWalks}
use Rattle.tm_trial_mappings.proofs.certificates.outcome.Goals as goal

pub write-requires-clause-version : goal.write-requires-clause-version
write-requires-clause-version c = c.in-Ok.ensures.certificate.spelled.version

pub write-requires-clause-few : goal.write-requires-clause-few
write-requires-clause-few c = omega (arith, c.in-Ok.ensures.certificate.spelled.few_tables, length-map c.in-Ok.cert.mapping.luts.items table_of)

pub write-requires-clause-walks : goal.write-requires-clause-walks
write-requires-clause-walks c =
    All-weaker HasSpellingDrop (λ (d : Drop). HasSpellingWalks d.walks) (λ d spelled. spelled.walks) (map drop_of c.in-Ok.cert.drops.items) c.in-Ok.ensures.certificate.spelled.drops
