use Rattle.std.proofs.Common.{◌≡◌, length, ap, ◌∙◌, arith}
use Rattle.std.specs.Ordering.{nat_cmp}
use Rattle.ipx_tables.specs.Spelled.{spelled}
use Rattle.ipx_tables.proofs.Words.{AreBytes, by_number}
use Rattle.ipx_tables.proofs.by_number.node_order.Goals as goal

pub returns : goal.returns
returns c =
    let xs = c.args.a.now in
    let ys = c.args.b.now in
    let same : length xs ≡ length ys = omega (arith, c.told-a, c.told-b) in
    let of_x : AreBytes xs = λ k. let fits = c.fits-a k in omega arith in
    let of_y : AreBytes ys = λ k. let fits = c.fits-b k in omega arith in
    c.cmp.ensures
    ∙ ap (λ n. nat_cmp n c.number_of-2.result) c.number_of.ensures
    ∙ ap (nat_cmp (spelled xs)) c.number_of-2.ensures
    ∙ by_number xs ys same of_x of_y
