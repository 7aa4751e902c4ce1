-- `sfc_listing::page::Page::put_hex` meets its contract: the digits of the library are ours. Assumes nothing.
use mathlib.Core.Path.{◌≡◌, refl, ap, ◌∙◌}
use native.Mathlib.Omega.{arith}
use borrow.Author.Rules.{rules}
use lib.ListN.{length}
use Rattle.hex.specs.Hex.{IsBytes, encode_lower}
use Rattle.little.proofs.Laws.{put_laws}
use Rattle.sfc_listing.proofs.PageLaws.{hex-made}
use Rattle.sfc_listing.proofs.page.Page.put_hex.Goals as goal

pub returns : goal.returns
returns c =
    let b = c.args.bytes.now in
    let p = c.args.self.now in
    let bytes : IsBytes b = λ i. (c.type_inv.bytes i).fits in
    let written : c.encode_to_slice.new.output ≡ encode_lower b = search (rules, c.encode_to_slice.ensures.written, c.unwrap.ensures) in
    let m = hex-made p b c.encode_to_slice.new.output c.requires bytes written in
    record { memory = refl; long = ap length m.made ∙ put_laws.length-put p.out.now p.at _ (omega (arith, c.requires, m.short)); told = m }
