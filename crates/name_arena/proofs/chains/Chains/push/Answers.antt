use Rattle.std.proofs.Common.{◌≡◌, ◌<◌, ap, ◌∙◌, length, get_or, arith}
use Rattle.name_arena.specs.Buckets.{bucket_of}
use Rattle.name_arena.proofs.Places.{chained_push}
use Rattle.name_arena.proofs.chains.Chains.push.Goals as goal

pub returns-clause-chained : goal.returns-clause-chained
returns-clause-chained c = λ names more is chained.
    let size : c.len.result ≡ length c.args.self.now.last.items = omega (arith, c.len.ensures, c.args.self.now.last.ok.0) in
    let place : c.len-place.result ≡ length c.args.self.now.before.items = omega (arith, c.len-place.ensures, c.args.self.now.before.ok.0) in
    let bucket : c.bucket_of-bucket.result ≡ bucket_of (length c.args.self.now.last.items) c.args.name.now = c.bucket_of-bucket.ensures.is ∙ ap (λ n. bucket_of n c.args.name.now) size in
    let inside : c.bucket_of-bucket.result < length c.args.self.now.last.items = omega (arith, size, c.bucket_of-bucket.ensures.inside) in
    let here : get_or c.put_last-before.new.last.items c.bucket_of-bucket.result 0 ≡ length c.args.self.now.before.items = c.put_last-before.ensures.here ∙ place in
    rw c.push_reserved.ensures.items
    (chained_push names c.args.name.now c.args.self.now.last.items c.put_last-before.new.last.items c.args.self.now.before.items c.bucket_of-bucket.result c.put_last-before.result
    more c.requires.few is bucket inside c.put_last-before.ensures.before here c.put_last-before.ensures.others c.put_last-before.ensures.length chained)
