use Rattle.std.proofs.Common.{◌≡◌, ◌==◌, ap, refl, arith}
use Rattle.std.specs.Prelude.{codes}
use Rattle.std.proofs.lemmas.Result.{on_ok_weaker}
use Rattle.ice_gen.specs.Numbers.{ram_number, clock_net, address_net, write_net, read_net, read_enable_net, write_enable_net}
use Rattle.ice_gen.specs.Database.{name_line, named, numbered, ram_names}
use Rattle.ice_gen.proofs.Texts.{names-first, names-more}
use Rattle.ice_gen.proofs.names.append_ram_names.Goals as goal

pub returns : goal.returns
unfolding ram_names
returns c =
    let device = c.args.device in
    let net = c.args.net in
    let line = name_line c.args.x c.args.y in
    let r = ram_number device c.args.x c.args.y in
    let r_is : c.ram_number-r.result ≡ r = c.ram_number-r.ensures.number in
    let address : c.address_net.result ≡ address_net r 0 = omega (arith, c.address_net.ensures.net, r_is) in
    let address_again : c.address_net-2.result ≡ address_net r 0 = omega (arith, c.address_net-2.ensures.net, r_is) in
    let reads : c.read_net.result ≡ read_net device r 0 = omega (arith, c.read_net.ensures.net, r_is) in
    let writes : c.write_net.result ≡ write_net r 0 = omega (arith, c.write_net.ensures.net, r_is) in
    let old = c.args.text.now.items in
    let t1 = c.append_numbered.new.text.items in
    let t2 = c.append_named.new.text.items in
    let t3 = c.append_numbered-2.new.text.items in
    let t4 = c.append_named-2.new.text.items in
    let t5 = c.append_numbered-3.new.text.items in
    let t6 = c.append_named-3.new.text.items in
    let t7 = c.append_numbered-4.new.text.items in
    let n1 = numbered net (address_net r 0) 8 (codes "ram/RADDR_") in
    let n2 = named (net == clock_net) (codes "ram/RCLK") in
    let n3 = numbered net (read_net device r 0) 16 (codes "ram/RDATA_") in
    let n4 = named (net == read_enable_net device) (codes "ram/RE") in
    let n5 = numbered net (address_net r 0) 8 (codes "ram/WADDR_") in
    let n6 = named (net == clock_net) (codes "ram/WCLK") in
    let n7 = numbered net (write_net r 0) 16 (codes "ram/WDATA_") in
    let n8 = named (net == write_enable_net device) (codes "ram/WE") in
    let one = names-first line old t1 _ n1 (ap (λ n. numbered net n 8 (codes "ram/RADDR_")) address) c.in_ok-append_numbered.ensures in
    let two = names-more line old t1 t2 _ _ n2 one refl c.in_ok-append_named.ensures in
    let three = names-more line old t2 t3 _ _ n3 two (ap (λ n. numbered net n 16 (codes "ram/RDATA_")) reads) c.in_ok-append_numbered-2.ensures in
    let four = names-more line old t3 t4 _ _ n4 three (ap (λ n. named (net == n) (codes "ram/RE")) c.read_enable_net.ensures) c.in_ok-append_named-2.ensures in
    let five = names-more line old t4 t5 _ _ n5 four (ap (λ n. numbered net n 8 (codes "ram/WADDR_")) address_again) c.in_ok-append_numbered-3.ensures in
    let six = names-more line old t5 t6 _ _ n6 five refl c.in_ok-append_named-3.ensures in
    let seven = names-more line old t6 t7 _ _ n7 six (ap (λ n. numbered net n 16 (codes "ram/WDATA_")) writes) c.in_ok-append_numbered-4.ensures in
    on_ok_weaker c.append_named-4.result (λ last. names-more line old t7 c.append_named-4.new.text.items _ _ n8 seven (ap (λ n. named (net == n) (codes "ram/WE")) c.write_enable_net.ensures) last) c.append_named-4.ensures
