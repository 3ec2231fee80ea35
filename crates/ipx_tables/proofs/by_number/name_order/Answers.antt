use Rattle.std.proofs.Common.{◌≡◌, ℕ, ◌+◌, ◌*◌, ◌≤◌, length, sym, ◌∙◌, arith}
use Rattle.ipx_tables.proofs.Words.{AreBytes, word_decides, word_ties}
use Rattle.ipx_tables.proofs.by_number.name_order.Goals as goal

pub returns-then-x-y : goal.returns-then-x-y
returns-then-x-y c =
    let xs = c.args.a.now in
    let ys = c.args.b.now in
    let i : ℕ = 8 * c.loop-word.word in
    let same : length xs ≡ length ys = omega (arith, c.told-a, c.told-b) in
    let within : i + 8 ≤ length xs = omega (arith, c.told-a, c.loop-word-test.true) in
    let of_x : AreBytes xs = λ k. let fits = c.fits-a k in omega arith in
    let of_y : AreBytes ys = λ k. let fits = c.fits-b k in omega arith in
    c.cmp.ensures ∙ sym (word_decides xs ys same of_x of_y i c.word_at-x.result c.word_at-y.result within c.word_at-x.ensures c.word_at-y.ensures c.if-x-y.true) ∙ c.loop-word.invariant

pub loop-word-preserved : goal.loop-word-preserved
loop-word-preserved c =
    let xs = c.args.a.now in
    let ys = c.args.b.now in
    let i : ℕ = 8 * c.loop-word.word in
    let same : length xs ≡ length ys = omega (arith, c.told-a, c.told-b) in
    let within : i + 8 ≤ length xs = omega (arith, c.told-a, c.loop-word-test.true) in
    let of_x : AreBytes xs = λ k. let fits = c.fits-a k in omega arith in
    let of_y : AreBytes ys = λ k. let fits = c.fits-b k in omega arith in
    let next : 8 * (c.loop-word.word + 1) ≡ i + 8 = omega arith in
    rw next (word_ties xs ys same of_x of_y i c.word_at-x.result c.word_at-y.result within c.word_at-x.ensures c.word_at-y.ensures c.if-x-y.false ∙ c.loop-word.invariant)
