-- The lines, one after another.
use Rattle.std.proofs.Common.{◌≡◌, length, map, ap, arith}
use Rattle.std.proofs.lemmas.List.{length-map}
use Rattle.tm_unroll.specs.Mappings.{table_of}
use Rattle.tm_replay.specs.Replays.{drop_of}
use Rattle.cert_text.specs.Certificates.{certificate_of}
use Rattle.cert_text.proofs.WriteLemmas.{certificate_written}
use Rattle.cert_text.proofs.writing.write.Goals as goal

pub returns : goal.returns
returns c =
    let cert = c.args.cert.now in
    let many_tables : c.len.result ≡ length (map table_of cert.mapping.luts.items) = omega (arith, c.len.ensures, length-map cert.mapping.luts.items table_of) in
    let many_drops : c.len-2.result ≡ length (map drop_of cert.drops.items) = omega (arith, c.len-2.ensures, length-map cert.drops.items drop_of) in
    certificate_written (certificate_of cert) c.from.result c.from-2.result c.len.result c.len-2.result (map table_of c.deref.result.now) (map drop_of c.deref-2.result.now)
    c.new-out.result.items c.push_counted.new.out.items c.push_counted-2.new.out.items c.push_counted-3.new.out.items c.push_tables.new.out.items c.push_counted-4.new.out.items
    c.push_drops.new.out.items c.extend_from_slice.new.self.items
    c.from.ensures c.from-2.ensures many_tables many_drops (ap (map table_of) c.deref.ensures.value) (ap (map drop_of) c.deref-2.ensures.value)
    c.new-out.ensures.items c.in_ok-push_counted.ensures c.in_ok-push_counted-2.ensures c.in_ok-push_counted-3.ensures c.in_ok-push_tables.ensures c.in_ok-push_counted-4.ensures
    c.in_ok-push_drops.ensures c.in_ok-extend_from_slice.ensures.items
