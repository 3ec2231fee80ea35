use Rattle.std.proofs.Common.{◌≡◌, ◌==◌, ◌∙◌, ap, ◌++◌, ◌∷◌, [], Some, Option, List, false, arith}
use Rattle.std.proofs.lemmas.Bool.Decides.{nat_tests}
use Rattle.circular_buffer.specs.Buffer.{buffer}
use Rattle.spx_link.specs.Limits.{end_stream}
use Rattle.spx_link.specs.declared.unit.Unit.{Unit}
use Rattle.spx_link.proofs.Gaps.{came, unit_as, whole_unit}
use Rattle.spx_link.proofs.buffers.push_packet.Goals as goal

pub returns-in-Some : goal.returns-in-Some
returns-in-Some c =
    let items : List (Option Unit) = c.args.ring.now.items in
    let capacity = c.args.ring.now.capacity in
    let one : Option Unit = c.of.result in
    let goes : (c.args.header.now.stream == end_stream) ≡ false = grind (arith, nat_tests) in
    came c.try_push_back-full.result (c.try_push_back-full.new.self ≡ buffer (items ++ one ∷ []) capacity) (c.try_push_back-full.ensures.variant.1 c.requires.room) c.try_push_back-full.ensures.ok
    ∙ ap (λ (x : Option Unit). buffer (items ++ x ∷ []) capacity) c.of.ensures
    ∙ ap (λ xs. buffer (items ++ Some (unit_as c.args.header.now xs) ∷ []) capacity) c.from_array_in.ensures.items
    ∙ ap (λ (u : Unit). buffer (items ++ Some u ∷ []) capacity) (whole_unit c.args.header.now c.args.body.now c.in-Some.whole.now c.in-Some.ensures.cases.0 c.requires.fits goes)
